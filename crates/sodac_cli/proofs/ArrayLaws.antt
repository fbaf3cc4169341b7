-- What names hold of arrays: one list of arrays at most, or one first fault, and never both.
use Rattle.std.proofs.Common.{◌≡◌, ℕ, zero, suc, ◌<◌, List, [], ◌∷◌, ◌++◌, length, take, get_or, slice_index_or, Some, None, ℤ, refl, sym, ap, subst, ◌∙◌, arith}
use Rattle.std.proofs.lemmas.Option.{same_Some}
use Rattle.soda_words.specs.IntType.{IntType, int32}
use Rattle.array_bytes.specs.declared.fault.CellFault.{CellFault}
use Rattle.array_bytes.specs.declared.form.Form.{Form}
use Rattle.job_arrays.specs.Arrays.{IsFaulty, IsGood}
use Rattle.job_files.specs.Contents.{Holding}
use Rattle.sodac_cli.specs.Work.{HaveFault, HoldCells, HoldsCells, HoldsFault}

module _ (h : Holding) (form : Form) (n : ℕ) where
  cells_one : (ty : IntType) (name : List ℕ) (xs ys : List ℤ) → HoldsCells h form n ty name xs → HoldsCells h form n ty name ys → xs ≡ ys
  cells_one ty name xs ys x y =
      let P : List ℕ → Type 0 = λ bytes. IsGood form ty n bytes ys in
      let good : IsGood form ty n x.bytes ys = subst P (same_Some y.bytes x.bytes (sym y.there ∙ x.there)) y.good in
      sym x.good.1 ∙ good.1

  fault_there : (ty : IntType) (name bytes : List ℕ) (f : CellFault) → h name ≡ Some bytes → HoldsFault h form n ty name f → IsFaulty form ty n bytes f
  fault_there ty name bytes f there x =
      let P : List ℕ → Type 0 = λ bs. IsFaulty form ty n bs f in
      subst P (same_Some x.bytes bytes (sym x.there ∙ there)) x.faulty

  pub fault_one : (ty : IntType) (name : List ℕ) (f g : CellFault) → HoldsFault h form n ty name f → HoldsFault h form n ty name g → f ≡ g
  fault_one ty name f g x y = same_Some f g (sym x.faulty ∙ fault_there ty name x.bytes g x.there y)

  pub never_both : (ty : IntType) (name : List ℕ) (cells : List ℤ) (f : CellFault) → HoldsCells h form n ty name cells → HoldsFault h form n ty name f → ⊥
  never_both ty name cells f x y =
      let bad : None ≡ Some f = sym x.good.0 ∙ fault_there ty name x.bytes f x.there y in
      cc

  pub arrays_one : (types : List IntType) (names : List (List ℕ)) (xs ys : List (List ℤ)) → HoldCells h form n types names xs
      → HoldCells h form n types names ys → xs ≡ ys
  arrays_one types [] [] [] a b = refl
  arrays_one types [] [] (y ∷ ys) a b = absurd b
  arrays_one types [] (x ∷ xs) ys a b = absurd a
  arrays_one types (name ∷ names) [] ys a b = absurd a
  arrays_one types (name ∷ names) (x ∷ xs) [] a b = absurd b
  arrays_one [] (name ∷ names) (x ∷ xs) (y ∷ ys) a b = absurd a
  arrays_one (ty ∷ types) (name ∷ names) (x ∷ xs) (y ∷ ys) a b =
      let first : x ≡ y = cells_one ty name x y a.0 b.0 in
      let rest : xs ≡ ys = arrays_one types names xs ys a.1 b.1 in
      cc

  pub faults_one : (types : List IntType) (names : List (List ℕ)) (k l : ℕ) (f g : CellFault) → HaveFault h form n types names k f
      → HaveFault h form n types names l g → (k ≡ l) × (f ≡ g)
  faults_one types [] k l f g a b = absurd a
  faults_one [] (name ∷ names) k l f g a b = absurd a
  faults_one (ty ∷ types) (name ∷ names) zero zero f g a b = (refl, fault_one ty name f g a b)
  faults_one (ty ∷ types) (name ∷ names) zero (suc l) f g a b = absurd (never_both ty name b.0.0 f b.0.1 a)
  faults_one (ty ∷ types) (name ∷ names) (suc k) zero f g a b = absurd (never_both ty name a.0.0 g a.0.1 b)
  faults_one (ty ∷ types) (name ∷ names) (suc k) (suc l) f g a b =
      let rest = faults_one types names k l f g a.1 b.1 in
      (ap suc rest.0, rest.1)

  pub fault_or_arrays : (types : List IntType) (names : List (List ℕ)) (k : ℕ) (f : CellFault) (arrays : List (List ℤ))
      → HaveFault h form n types names k f → HoldCells h form n types names arrays → ⊥
  fault_or_arrays types [] k f arrays a b = absurd a
  fault_or_arrays [] (name ∷ names) k f arrays a b = absurd a
  fault_or_arrays (ty ∷ types) (name ∷ names) k f [] a b = absurd b
  fault_or_arrays (ty ∷ types) (name ∷ names) zero f (cells ∷ arrays) a b = never_both ty name cells f b.0 a
  fault_or_arrays (ty ∷ types) (name ∷ names) (suc k) f (cells ∷ arrays) a b = fault_or_arrays types names k f arrays a.1 b.1

  -- one more name holds its array
  pub hold_more : (types : List IntType) (names : List (List ℕ)) (k : ℕ) (arrays : List (List ℤ)) (cells : List ℤ) → k < length types
      → k < length names → HoldCells h form n types (take k names) arrays
      → HoldsCells h form n (slice_index_or types k int32) (get_or names k []) cells
      → HoldCells h form n types (take (suc k) names) (arrays ++ cells ∷ [])
  hold_more [] names k arrays cells few less a b = absurd (omega arith)
  hold_more (ty ∷ types) [] k arrays cells few less a b = absurd (omega arith)
  hold_more (ty ∷ types) (name ∷ names) zero [] cells few less a b = (b, tt)
  hold_more (ty ∷ types) (name ∷ names) zero (x ∷ xs) cells few less a b = absurd a
  hold_more (ty ∷ types) (name ∷ names) (suc k) [] cells few less a b = absurd a
  hold_more (ty ∷ types) (name ∷ names) (suc k) (x ∷ xs) cells few less a b =
      (a.0, hold_more types names k xs cells (omega arith) (omega arith) a.1 b)

  -- the name behind those that hold arrays has a fault
  pub fault_behind : (types : List IntType) (names : List (List ℕ)) (k : ℕ) (arrays : List (List ℤ)) (f : CellFault) → k < length types
      → k < length names → HoldCells h form n types (take k names) arrays
      → HoldsFault h form n (slice_index_or types k int32) (get_or names k []) f
      → HaveFault h form n types names k f
  fault_behind [] names k arrays f few less a b = absurd (omega arith)
  fault_behind (ty ∷ types) [] k arrays f few less a b = absurd (omega arith)
  fault_behind (ty ∷ types) (name ∷ names) zero arrays f few less a b = b
  fault_behind (ty ∷ types) (name ∷ names) (suc k) [] f few less a b = absurd a
  fault_behind (ty ∷ types) (name ∷ names) (suc k) (x ∷ xs) f few less a b =
      ((x, a.0), fault_behind types names k xs f (omega arith) (omega arith) a.1 b)
