-- The good cells and the first fault of a file whose first cells are known.
use Rattle.std.proofs.Common.{◌≡◌, ℕ, zero, suc, ◌+◌, ◌-◌, ◌≤◌, ◌<◌, Bool, true, false, List, [], ◌∷◌, ◌++◌, map, length, take, ltb, nat_lt, Option, Some, None, ℤ, All, if◌then◌else◌, refl, sym, ◌∙◌, ap, arith, length-append}
use Rattle.std.proofs.lemmas.Bool.{lt-ltb, le-ltb}
use Rattle.std.proofs.lemmas.List.{append-nil, map-append}
use Rattle.std.proofs.lemmas.List.Elements.{All-head, All-tail}
use lib.Seq.{take-append-add}
use Rattle.soda_words.specs.IntType.{IntType}
use Rattle.array_bytes.specs.Sizes.{most_bytes}
use Rattle.array_bytes.specs.Runs.{runs, ended_runs}
use Rattle.array_bytes.specs.Values.{is_of, text_value}
use Rattle.array_bytes.specs.Arrays.{Shown, cut_shown, fault_from, first_fault, full_shown, good_cells, good_of, has_more, is_long, shown, text_shown}
use Rattle.array_bytes.specs.Machine.Scans.{FailsAfter}
use Rattle.array_bytes.specs.declared.form.Form.{Form}
use Rattle.array_bytes.specs.declared.form.Form.TheVariants.{Text, Raw}
use Rattle.array_bytes.specs.declared.fault.CellFault.{CellFault}
use Rattle.array_bytes.specs.declared.fault.CellFault.TheVariants.{CellRange}
use Rattle.array_bytes.proofs.RunLaws.{ended_grow, runs_grow}

abbrev pub some : ℤ → Option ℤ
some v = Some v

abbrev pub IsOf : IntType → ℤ → Type 0
IsOf t v = is_of t v ≡ true

pub good_prefix : (t : IntType) (n : ℕ) (cells : List ℤ) (vs : List (Option ℤ)) → All (IsOf t) cells → length cells ≤ n
    → good_of t n (map some cells ++ vs) ≡ cells ++ good_of t (n - length cells) vs
good_prefix t n [] vs h le = let z : n ≡ n - 0 = omega arith in ap (λ (k : ℕ). good_of t k vs) z
good_prefix t zero (c ∷ cs) vs h le = absurd (omega arith)
good_prefix t (suc n) (c ∷ cs) vs h le =
    let k : n - length cs ≡ suc n - suc (length cs) = omega arith in
    ap (λ b. if b then c ∷ good_of t n (map some cs ++ vs) else []) (All-head (IsOf t) c cs h)
    ∙ ap (λ (xs : List ℤ). c ∷ xs) (good_prefix t n cs vs (All-tail (IsOf t) c cs h) (omega arith))
    ∙ ap (λ (j : ℕ). c ∷ (cs ++ good_of t j vs)) k

pub fault_prefix : (t : IntType) (i n : ℕ) (cells : List ℤ) (vs : List (Option ℤ)) (short : ℕ → CellFault) (rest : Option CellFault) → All (IsOf t) cells → length cells ≤ n
    → fault_from t i n (map some cells ++ vs) short rest ≡ fault_from t (i + length cells) (n - length cells) vs short rest
fault_prefix t i n [] vs short rest h le =
    let z : n ≡ n - 0 = omega arith in
    let y : i ≡ i + 0 = omega arith in
    ap (λ (k : ℕ). fault_from t i k vs short rest) z ∙ ap (λ (j : ℕ). fault_from t j (n - 0) vs short rest) y
fault_prefix t i zero (c ∷ cs) vs short rest h le = absurd (omega arith)
fault_prefix t i (suc n) (c ∷ cs) vs short rest h le =
    let k : n - length cs ≡ suc n - suc (length cs) = omega arith in
    let j : i + 1 + length cs ≡ i + suc (length cs) = omega arith in
    ap (λ b. if b then fault_from t (i + 1) n (map some cs ++ vs) short rest else Some (CellRange i)) (All-head (IsOf t) c cs h)
    ∙ fault_prefix t (i + 1) n cs vs short rest (All-tail (IsOf t) c cs h) (omega arith)
    ∙ ap (λ (m : ℕ). fault_from t (i + 1 + length cs) m vs short rest) k
    ∙ ap (λ (m : ℕ). fault_from t m (suc n - suc (length cs)) vs short rest) j

-- a file that shows these cells first
module _ (form : Form) (t : IntType) (n : ℕ) (bytes : List ℕ) (s : Shown) (at : shown form t n bytes ≡ s) (cells : List ℤ) (vs : List (Option ℤ)) (first : s.values ≡ map some cells ++ vs) (of_type : All (IsOf t) cells) (few : length cells ≤ n) where
  pub good_is : good_cells form t n bytes ≡ cells ++ good_of t (n - length cells) vs
  unfolding good_cells
  good_is = ap (λ (x : Shown). good_of t n x.values) at ∙ ap (good_of t n) first ∙ good_prefix t n cells vs of_type few

  pub fault_is : first_fault form t n bytes ≡ fault_from t (length cells) (n - length cells) vs s.short s.rest
  unfolding first_fault
  fault_is =
      let z : 0 + length cells ≡ length cells = omega arith in
      ap (λ (x : Shown). fault_from t 0 n x.values x.short x.rest) at
      ∙ ap (λ (xs : List (Option ℤ)). fault_from t 0 n xs s.short s.rest) first
      ∙ fault_prefix t 0 n cells vs s.short s.rest of_type few
      ∙ ap (λ (j : ℕ). fault_from t j (n - length cells) vs s.short s.rest) z

text_at : (n : ℕ) (bytes : List ℕ) (b : Bool) → is_long n bytes ≡ b → text_shown n bytes ≡ (if b then cut_shown n (take (most_bytes n) bytes) else full_shown n bytes)
unfolding text_shown
text_at n bytes b e = ap (λ t. if t then cut_shown n (take (most_bytes n) bytes) else full_shown n bytes) e

-- a text that isn't too long
pub full_at : (n : ℕ) (bytes : List ℕ) → length bytes ≤ most_bytes n → text_shown n bytes ≡ full_shown n bytes
full_at n bytes le = text_at n bytes false (le-ltb (most_bytes n) (length bytes) le)

-- a text that is
pub cut_at : (n : ℕ) (bytes : List ℕ) → most_bytes n < length bytes → text_shown n bytes ≡ cut_shown n (take (most_bytes n) bytes)
cut_at n bytes lt = text_at n bytes true (lt-ltb (most_bytes n) (length bytes) lt)

-- what is read of it begins with what was taken
pub cut_front : (n : ℕ) (p ys : List ℕ) → length p ≤ most_bytes n → take (most_bytes n) (p ++ ys) ≡ p ++ take (most_bytes n - length p) ys
cut_front n p ys le =
    let k : most_bytes n ≡ length p + (most_bytes n - length p) = omega arith in
    ap (λ (m : ℕ). take m (p ++ ys)) k ∙ take-append-add p ys (most_bytes n - length p)

-- what it shows begins with the runs that have ended in what was taken
pub shows_ended : (n : ℕ) (p ys : List ℕ) → length p ≤ most_bytes n → (zs : List (Option ℤ)) × ((text_shown n (p ++ ys)).values ≡ map text_value (ended_runs p) ++ zs)
shows_ended n p ys le =
    elim (is_long n (p ++ ys)) as (λ b. is_long n (p ++ ys) ≡ b → (zs : List (Option ℤ)) × ((text_shown n (p ++ ys)).values ≡ map text_value (ended_runs p) ++ zs)) [
      | true ↦ λ e.
          let more = ended_grow p (take (most_bytes n - length p) ys) in
          (map text_value more.0, ap (λ (x : Shown). x.values) (text_at n (p ++ ys) true e) ∙ ap (λ (xs : List ℕ). map text_value (ended_runs xs)) (cut_front n p ys le) ∙ ap (map text_value) more.1 ∙ map-append text_value (ended_runs p) more.0)
      | false ↦ λ e.
          let more = runs_grow p ys in
          (map text_value more.0, ap (λ (x : Shown). x.values) (text_at n (p ++ ys) false e) ∙ ap (map text_value) more.1 ∙ map-append text_value (ended_runs p) more.0)
    ] refl
