-- A simulation comes to one status alone, and its stalls are one list.
use Rattle.std.proofs.Common.{◌≡◌, ℕ, zero, suc, ◌<◌, Bool, List, [], ◌∷◌, length, map, All, slice_get, slice_index_or, Option, Some, None, ℤ, refl, sym, ap, subst, ◌∙◌, arith}
use Rattle.std.proofs.lemmas.List.Elements.{All-head, All-tail}
use Rattle.std.proofs.lemmas.Option.{same_Some}
use Rattle.soda_words.specs.IntType.{IntType}
use Rattle.soda_ir.specs.Program.{PlainProgram, input_types}
use Rattle.soda_eval.specs.Runs.{cells_at}
use Rattle.array_bytes.specs.Arrays.{good_cells}
use Rattle.array_bytes.specs.declared.fault.CellFault.{CellFault}
use Rattle.array_bytes.specs.declared.form.Form.{Form}
use Rattle.std.specs.List.{filter_map}
use Rattle.param_lines.specs.Lines.{rows_of as words_of_lines}
use Rattle.sim_lines.specs.Stalls.{refused_line, stall_of}
use Rattle.sim_lines.specs.declared.stall.Stall.{Stall}
use Rattle.sim_course.specs.Inputs.{goods_of}
use Rattle.sim_course.specs.Meeting.{MeetsFirst}
use Rattle.job_files.specs.Contents.{Holding}
use Rattle.command_words.specs.Orders.{Asked}
use Rattle.job_status.specs.declared.status.ArrayFault.TheVariants as of
use Rattle.job_status.specs.declared.status.Status.{Status}
use Rattle.job_status.specs.declared.status.Status.TheVariants as is
use Rattle.sodac_cli.specs.Simulated.{AreAllGood, ComesTo, InputHasFault, at_end, done, held, met}
use Rattle.sodac_cli.specs.Work.{HasStallsBy, HoldCells, HoldsFault, RefusesStallsBy, form_of, input_names, rows_of}
use Rattle.sodac_cli.proofs.ArrayLaws.{fault_one, fault_or_arrays, faults_one, never_both}

-- a stall file lists one list of stalls at most, is refused at one line at most, and never does both
module _ (h : Holding) (p : PlainProgram) where
  pub stalls_one : (o : Option (List ℕ)) (s t : List Stall) → HasStallsBy o h p s → HasStallsBy o h p t → s ≡ t
  stalls_one None s t x y = x ∙ sym y
  stalls_one (Some name) s t x y =
      let same : y.0 ≡ x.0 = same_Some y.0 x.0 (sym y.1 ∙ x.1) in
      x.3 ∙ ap (λ (bytes : List ℕ). filter_map (stall_of p) (words_of_lines bytes)) (sym same) ∙ sym y.3

  pub stall_line_one : (o : Option (List ℕ)) (k l : ℕ) → RefusesStallsBy o h p k → RefusesStallsBy o h p l → k ≡ l
  stall_line_one None k l x y = absurd x
  stall_line_one (Some name) k l x y =
      let same : y.0 ≡ x.0 = same_Some y.0 x.0 (sym y.1 ∙ x.1) in
      same_Some k l (sym x.2 ∙ ap (λ (bytes : List ℕ). refused_line p bytes) (sym same) ∙ y.2)

  pub stalls_or_line : (o : Option (List ℕ)) (s : List Stall) (l : ℕ) → HasStallsBy o h p s → RefusesStallsBy o h p l → ⊥
  stalls_or_line None s l x y = y
  stalls_or_line (Some name) s l x y =
      let same : y.0 ≡ x.0 = same_Some y.0 x.0 (sym y.1 ∙ x.1) in
      let none : None ≡ Some l = sym x.2 ∙ ap (λ (bytes : List ℕ). refused_line p bytes) (sym same) ∙ y.2 in
      cc

-- an input whose number is that of a name and a type
module _ (h : Holding) (form : Form) (n : ℕ) where
  no_fault : (types : List IntType) (names : List (List ℕ)) (arrays : List (List ℤ)) (k : ℕ) (ty : IntType) (name : List ℕ) (f : CellFault)
      → HoldCells h form n types names arrays → slice_get names k ≡ Some name → slice_get types k ≡ Some ty → HoldsFault h form n ty name f → ⊥
  no_fault types [] arrays k ty name f a named typed bad = let no : None ≡ Some name = named in cc
  no_fault [] (x ∷ names) [] k ty name f a named typed bad = absurd a
  no_fault [] (x ∷ names) (y ∷ arrays) k ty name f a named typed bad = absurd a
  no_fault (t ∷ types) (x ∷ names) [] k ty name f a named typed bad = absurd a
  no_fault (t ∷ types) (x ∷ names) (y ∷ arrays) zero ty name f a named typed bad =
      let P : IntType → Type 0 = λ s. HoldsFault h form n s x f in
      let Q : List ℕ → Type 0 = λ s. HoldsFault h form n ty s f in
      never_both h form n t x y f a.0 (subst P (sym (same_Some t ty typed)) (subst Q (sym (same_Some x name named)) bad))
  no_fault (t ∷ types) (x ∷ names) (y ∷ arrays) (suc k) ty name f a named typed bad = no_fault types names arrays k ty name f a.1 named typed bad

  good_there : (types : List IntType) (names : List (List ℕ)) (k : ℕ) (ty : IntType) (name : List ℕ) → slice_get names k ≡ Some name
      → slice_get types k ≡ Some ty → All (λ cells. length cells ≡ n) (goods_of form n types (map (held h) names))
      → length (slice_index_or (goods_of form n types (map (held h) names)) k []) ≡ n
  good_there types [] k ty name named typed all = let no : None ≡ Some name = named in absurd (cc)
  good_there [] (x ∷ names) k ty name named typed all = let no : None ≡ Some ty = typed in absurd (cc)
  good_there (t ∷ types) (x ∷ names) zero ty name named typed all =
      All-head (λ (cells : List ℤ). length cells ≡ n) (good_cells form t n (held h x)) (goods_of form n types (map (held h) names)) all
  good_there (t ∷ types) (x ∷ names) (suc k) ty name named typed all = good_there types names k ty name named typed
      (All-tail (λ (cells : List ℤ). length cells ≡ n) (good_cells form t n (held h x)) (goods_of form n types (map (held h) names)) all)

module _ (met_once : (p : PlainProgram) (delays : List ℕ) (n : ℕ) (flags : ℕ → List Bool) (goods : ℕ → ℕ) (cycle m input later other another : ℕ)
    → MeetsFirst p delays n flags goods cycle m input → MeetsFirst p delays n flags goods later other another
    → (cycle ≡ later) × (m ≡ other) × (input ≡ another))
    (h : Holding) (a : Asked) (p : PlainProgram) where
  -- an input has one first fault
  input_fault_one : (k l : ℕ) (f g : CellFault) → k ≡ l → InputHasFault h a p k f → InputHasFault h a p l g → f ≡ g
  input_fault_one k l f g same x y =
      let n = cells_at p (rows_of a) in
      let name : y.name ≡ x.name = same_Some y.name x.name (sym y.named ∙ ap (λ (i : ℕ). slice_get (input_names a p) i) (sym same) ∙ x.named) in
      let ty : y.ty ≡ x.ty = same_Some y.ty x.ty (sym y.typed ∙ ap (λ (i : ℕ). slice_get (input_types p.tensors) i) (sym same) ∙ x.typed) in
      let P : IntType → Type 0 = λ s. HoldsFault h (form_of a) n s x.name g in
      let Q : List ℕ → Type 0 = λ s. HoldsFault h (form_of a) n y.ty s g in
      fault_one h (form_of a) n x.ty x.name f g x.faulty (subst P ty (subst Q name y.faulty))

  -- where all cells are good no fault is met before the end
  all_good_unmet : (k : ℕ) (f : CellFault) (arrays : List (List ℤ)) → InputHasFault h a p k f → AreAllGood h a p arrays
      → length (slice_index_or (goods_of (form_of a) (cells_at p (rows_of a)) (input_types p.tensors) (map (held h) (input_names a p))) k [])
      < cells_at p (rows_of a) → ⊥
  all_good_unmet k f arrays x good short =
      let n = cells_at p (rows_of a) in
      let P : List (List ℤ) → Type 0 = λ gs. All (λ cells. length cells ≡ n) gs in
      let whole = good_there h (form_of a) n (input_types p.tensors) (input_names a p) k x.ty x.name x.named x.typed (subst P (sym good.are) good.whole) in
      omega (arith, whole, short)

  pub comes_one : (delays : List ℕ) (stalls : List Stall) (s t : Status) → ComesTo a p delays stalls h s → ComesTo a p delays stalls h t → s ≡ t
  comes_one delays stalls s t (done arrays has) (done others had) = refl
  comes_one delays stalls s t (done arrays has) (met there c m k f first x) =
      absurd (no_fault h (form_of a) (cells_at p (rows_of a)) (input_types p.tensors) (input_names a p) arrays k x.ty x.name f has x.named x.typed x.faulty)
  comes_one delays stalls s t (done arrays has) (at_end there others good k f fault) =
      absurd (fault_or_arrays h (form_of a) (cells_at p (rows_of a)) (input_types p.tensors) (input_names a p) k f arrays fault has)
  comes_one delays stalls s t (met there c m k f first x) (done arrays has) =
      absurd (no_fault h (form_of a) (cells_at p (rows_of a)) (input_types p.tensors) (input_names a p) arrays k x.ty x.name f has x.named x.typed x.faulty)
  comes_one delays stalls s t (met there c m k f first x) (met here d o l g other y) =
      let same = met_once p delays _ _ _ c m k d o l first other in
      let one : f ≡ g = input_fault_one k l f g same.2 x y in
      ap (λ (i : ℕ). is.Array (of.Cell i f)) same.2 ∙ ap (λ (z : CellFault). is.Array (of.Cell l z)) one
  comes_one delays stalls s t (met there c m k f first x) (at_end here arrays good l g fault) = absurd (all_good_unmet k f arrays x good first.meets.short)
  comes_one delays stalls s t (at_end there others good k f fault) (done arrays has) =
      absurd (fault_or_arrays h (form_of a) (cells_at p (rows_of a)) (input_types p.tensors) (input_names a p) k f arrays fault has)
  comes_one delays stalls s t (at_end here arrays good l g fault) (met there c m k f first x) = absurd (all_good_unmet k f arrays x good first.meets.short)
  comes_one delays stalls s t (at_end there arrays good k f fault) (at_end here others fine l g other) =
      let same = faults_one h (form_of a) (cells_at p (rows_of a)) (input_types p.tensors) (input_names a p) k l f g fault other in
      ap (λ (i : ℕ). is.Array (of.Cell i f)) same.0 ∙ ap (λ (z : CellFault). is.Array (of.Cell l z)) same.1
