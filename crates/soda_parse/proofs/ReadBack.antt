-- A formula's cells and values are found again under their names.
use Rattle.std.proofs.Common.{◌≡◌, ℕ, zero, suc, ◌*◌, ◌/◌, ◌%◌, ◌<◌, ◌≤◌, ◌==◌, ◌&&◌, Bool, true, false, nat_le, nat_lt, List, [], ◌∷◌, ◌++◌, length, map, Some, None, Option, refl, sym, ap, ◌∙◌, arith, ℤ, pos}
use Rattle.std.specs.Prelude.{find, option_map, position, slice_get, ◌-ℤ◌, if◌then◌else◌}
use Rattle.std.proofs.lemmas.Bool.Decides.{nat_tests}
use Rattle.std.proofs.lemmas.Int.{ints}
use Rattle.std.proofs.lemmas.Nat.{div_below}
use Rattle.std.proofs.Math.Nat.{mul_comm, mul-one}
use Rattle.soda_words.specs.IntType.{IntType, IsType}
use Rattle.soda_print.specs.Sized.{IsSized}
use Rattle.soda_checks.specs.Conditions.{are_below}
use Rattle.soda_checks.specs.Outline.{is_same}
use Rattle.soda_checks.specs.declared.outline.Outline.{Outline}
use Rattle.soda_ir.specs.Formula.{Formula, number, read, param as value_of, unary, binary, choice, cast}
use Rattle.soda_ir.specs.Points.{size}
use Rattle.soda_ir.specs.Program.{PlainParam, PlainProgram}
use Rattle.soda_ir.specs.Uses.{each_use, is_good_cell, is_good_place, is_near}
use Rattle.soda_parse.specs.Meaning.{cell_formula, formula_of as meant, named_value, offset_or_none, place_at, place_of, shifted, tensor_number}
use Rattle.soda_print.specs.Canonical.{indexes, tensor_name}
use Rattle.soda_formula.specs.declared.statement.ParamLine.{ParamLine}
use Rattle.soda_formula.specs.declared.statement.Size.{Size}
use Rattle.soda_words.specs.declared.token.Word.{Word}
use Rattle.soda_words.specs.Names.{is_word}
use Rattle.soda_parse.proofs.SameTypes.{both_of}
use Rattle.soda_parse.proofs.Lookups.{Fresh, fails_there, place_first, place_next}
use Rattle.soda_parse.proofs.Back.{IsBack, IsTyped, param_lines}
use Rattle.soda_parse.proofs.Statements.{param_on, word, written_value, zeros}
use Rattle.std.proofs.lemmas.Bool.{ltb-true}
use Rattle.soda_parse.proofs.Truths.{le_true, lt_true}
use Rattle.soda_words.proofs.CallerLemmas.{is_word-turned, is_word-itself}

-- what stands under a param's name
pub record IsParamAt (params : List ParamLine) (k : ℕ) (q : PlainParam) (w : Word) : Type 0 where
  pub line : ℕ
  pub place : position (λ r. is_same w r.name) params ≡ Some k
  pub found : find (λ r. is_same w r.name) params ≡ Some (param_on line q)

same_param : (a b : PlainParam) → Some a ≡ Some b → a ≡ b
same_param a b e = cc

found_first : (line : ℕ) (r q : PlainParam) (qs : List PlainParam) (w : Word) → r ≡ q → w.text ≡ q.name → IsParamAt (param_lines line (r ∷ qs)) 0 q w
found_first line r q qs w e n =
    let same : is_word w.text r.name ≡ true = ap (λ (v : List ℕ). is_word v r.name) (n ∙ ap (λ (s : PlainParam). s.name) (sym e)) ∙ is_word-itself r.name in
    record {
      line = line;
      place = place_first (λ (s : ParamLine). is_same w s.name) (param_on line r) (param_lines (suc line) qs) same;
      found = rw same (ap (λ (s : PlainParam). Some (param_on line s)) e);
    }

found_next : (line : ℕ) (r q : PlainParam) (qs : List PlainParam) (k : ℕ) (w : Word) → is_word w.text r.name ≡ false →
    IsParamAt (param_lines (suc line) qs) k q w → IsParamAt (param_lines line (r ∷ qs)) (suc k) q w
found_next line r q qs k w e h = record {
  line = h.line;
  place = place_next (λ (s : ParamLine). is_same w s.name) (param_on line r) (param_lines (suc line) qs) e ∙ ap (option_map suc) h.place;
  found = rw e h.found;
}

name_mapped : (qs : List PlainParam) (k : ℕ) (q : PlainParam) → slice_get qs k ≡ Some q → slice_get (map (λ (r : PlainParam). r.name) qs) k ≡ Some q.name
name_mapped [] k q e = cc
name_mapped (r ∷ qs) zero q e = ap (λ (s : PlainParam). Some s.name) (same_param r q e)
name_mapped (r ∷ qs) (suc k) q e = name_mapped qs k q e

-- a param's line is found under its name
pub param_at : (line : ℕ) (qs : List PlainParam) (k : ℕ) (q : PlainParam) (w : Word) → Fresh (map (λ (r : PlainParam). r.name) qs) →
    slice_get qs k ≡ Some q → w.text ≡ q.name → IsParamAt (param_lines line qs) k q w
param_at line [] k q w f e n = cc
param_at line (r ∷ qs) zero q w f e n = found_first line r q qs w (same_param r q e) n
param_at line (r ∷ qs) (suc k) q w f e n =
    let other : is_word r.name q.name ≡ false = fails_there (is_word r.name) (map (λ (s : PlainParam). s.name) qs) k q.name f.1 (name_mapped qs k q e) in
    let apart : is_word w.text r.name ≡ false = ap (λ (v : List ℕ). is_word v r.name) n ∙ (is_word-turned q.name r.name ∙ other) in
    found_next line r q qs k w apart (param_at (suc line) qs k q w f.2 e n)

-- the sizes of a line
abbrev pub sizes_on : ℕ → List ℕ → List Size
sizes_on line ns = map (λ n. record { line = line; value = n }) ns

-- the indexes of a place are below the sizes, and name the place
pub record IsIndexed (sizes : List Size) (is : List ℕ) (i : ℕ) : Type 0 where
  pub below : are_below is sizes ≡ true
  pub place : place_at sizes is ≡ i

one_index : (line n i : ℕ) → i < n * 1 → IsIndexed (sizes_on line (n ∷ [])) (i ∷ []) i
one_index line n i h = record { below = rw (lt_true i n (omega arith)) refl; place = refl }

two_indexes : (z : Bool) (line n m i : ℕ) → z ≡ (m == 0) → i < n * (m * 1) → IsIndexed (sizes_on line (n ∷ m ∷ [])) (if z then [] else i / m ∷ i % m ∷ []) i
two_indexes true line n m i z h = let none : m ≡ 0 = grind (arith, nat_tests) in absurd (omega (arith, ap (λ (k : ℕ). n * (k * 1)) none))
two_indexes false line n m i z h =
    let some : 0 < m = grind (arith, nat_tests) in
    let first : i / m < n = div_below i m n some (omega (arith, mul-one m)) in
    let second : i % m < m = omega arith in
    record { below = rw (lt_true (i / m) n first, lt_true (i % m) m second) refl; place = omega (arith, mul_comm (i / m) m) }

-- the indexes of a place are below the sizes, and name this place
pub indexed : (line : ℕ) (ns : List ℕ) (i : ℕ) → length ns ≤ 2 → i < size ns → IsIndexed (sizes_on line ns) (indexes ns i) i
indexed line [] i few h = record { below = refl; place = omega arith }
indexed line (n ∷ []) i few h = one_index line n i h
indexed line (n ∷ m ∷ []) i few h = two_indexes (m == 0) line n m i refl h
indexed line (n ∷ m ∷ k ∷ ns) i few h = absurd (omega arith)

-- the value of a param is found again
value_back : (o : Outline) (line k i : ℕ) (q : PlainParam) → IsParamAt o.params k q (word line q.name) → length q.sizes ≤ 2 → i < size q.sizes → i < 65536 →
    named_value o.params (word line q.name) (indexes q.sizes i) ≡ value_of k i
value_back o line k i q h two within small =
    let ix : IsIndexed (sizes_on h.line q.sizes) (indexes q.sizes i) i = indexed h.line q.sizes i two within in
    let place : place_of (sizes_on h.line q.sizes) (indexes q.sizes i) ≡ i = rw (ix.below, ix.place, lt_true i 65536 small) refl in
    rw (h.place, h.found) (ap (λ (n : ℕ). value_of k n) place)

minus_0 : (d : ℤ) → d -ℤ pos 0 ≡ d
minus_0 d = omega (arith, ints)

shifted_none : (ds : List ℤ) → shifted ds [] ≡ ds
shifted_none [] = refl
shifted_none (d ∷ ds) = ap (λ (es : List ℤ). d ∷ es) (shifted_none ds)

-- zeros on the left side change no offset
pub shifted_zeros : (ds : List ℤ) (ns : List ℕ) → shifted ds (map (λ n. pos 0) ns ++ pos 0 ∷ []) ≡ ds
shifted_zeros [] ns = refl
shifted_zeros (d ∷ ds) [] = ap (λ (e : ℤ). e ∷ shifted ds []) (minus_0 d) ∙ ap (λ (es : List ℤ). d ∷ es) (shifted_none ds)
shifted_zeros (d ∷ ds) (n ∷ ns) =
    ap (λ (e : ℤ). e ∷ shifted ds (map (λ n. pos 0) ns ++ pos 0 ∷ [])) (minus_0 d) ∙ ap (λ (es : List ℤ). d ∷ es) (shifted_zeros ds ns)

-- what the formulas of a program may take for granted
pub record Knows (o : Outline) (p : PlainProgram) : Type 0 where
  pub tensors : (line k : ℕ) → k < length p.tensors → tensor_number o (word line (tensor_name p k)) ≡ Some k
  pub params : (line k : ℕ) (q : PlainParam) → slice_get p.params k ≡ Some q → IsParamAt o.params k q (word line q.name)
  pub two : (k : ℕ) (q : PlainParam) → slice_get p.params k ≡ Some q → length q.sizes ≤ 2
  pub few : (k : ℕ) (q : PlainParam) → slice_get p.params k ≡ Some q → size q.sizes ≤ 65536
  pub dims : suc (length p.extents) ≤ 4
  pub types : (t : IntType) → IsType t → IsTyped t

-- a cell that is there has as many components as dimensions, all of them near
pub record IsCellThere (p : PlainProgram) (k : ℕ) (ds : List ℤ) : Type 0 where
  pub within : k < length p.tensors
  pub many : length ds ≡ suc (length p.extents)
  pub near : is_near ds ≡ true

-- a good cell is one of a tensor that is there, with an offset that may be
pub cell_there : (p : PlainProgram) (k : ℕ) (ds : List ℤ) → is_good_cell p k ds ≡ true → IsCellThere p k ds
cell_there p k ds h =
    let a = both_of (nat_lt k (length p.tensors) && length ds == suc (length p.extents)) (is_near ds) h in
    let b = both_of (nat_lt k (length p.tensors)) (length ds == suc (length p.extents)) a.0 in
    record { within = ltb-true k (length p.tensors) b.0; many = grind (arith, nat_tests, b.1); near = a.1 }

cell_back : (o : Outline) (p : PlainProgram) (line k : ℕ) (ds : List ℤ) → Knows o p → IsCellThere p k ds →
    cell_formula (tensor_number o (word line (tensor_name p k))) (offset_or_none (shifted ds (zeros p))) ≡ read k ds
cell_back o p line k ds h there =
    let few : nat_le (length ds) 4 ≡ true = le_true (length ds) 4 (omega (arith, there.many, h.dims)) in
    let stays : offset_or_none ds ≡ ds = rw (few, there.near) refl in
    rw (h.tensors line k there.within, shifted_zeros ds p.extents) (ap (λ (es : List ℤ). read k es) stays)

place_back : (o : Outline) (p : PlainProgram) (line k i : ℕ) (r : Option PlainParam) → Knows o p → slice_get p.params k ≡ r →
    (elim r as (λ v. Bool) [ None ↦ false | Some q ↦ nat_lt i (size q.sizes) ]) ≡ true → meant o (zeros p) (written_value line i r) ≡ value_of k i
place_back o p line k i None h e u = cc
place_back o p line k i (Some q) h e u =
    let within : i < size q.sizes = ltb-true i (size q.sizes) u in
    let few : size q.sizes ≤ 65536 = h.few k q e in
    value_back o line k i q (h.params line k q e) (h.two k q e) within (omega arith)

two_ops : (f : Formula → Formula → Formula) (a b c d : Formula) → a ≡ b → c ≡ d → f a c ≡ f b d
two_ops f a b c d e g = rw (e, g) refl

three_ops : (a b c d e f : Formula) → a ≡ b → c ≡ d → e ≡ f → choice a c e ≡ choice b d f
three_ops a b c d e f g h k = rw (g, h, k) refl

cast_ops : (t u : IntType) (a b : Formula) → t ≡ u → a ≡ b → cast t a ≡ cast u b
cast_ops t u a b e g = rw (e, g) refl

-- each good formula is read back
pub formula_back : (o : Outline) (p : PlainProgram) (f : Formula) → Knows o p → each_use (is_good_cell p) (is_good_place p) f ≡ true → IsSized f → IsBack o p f
formula_back o p (number n) h u s line = refl
formula_back o p (read k ds) h u s line = cell_back o p line k ds h (cell_there p k ds u)
formula_back o p (value_of k i) h u s line = place_back o p line k i (slice_get p.params k) h refl u
formula_back o p (unary op a) h u s line = ap (λ (b : Formula). unary op b) (formula_back o p a h u s line)
formula_back o p (binary op a b) h u s line =
    let both = both_of (each_use (is_good_cell p) (is_good_place p) a) (each_use (is_good_cell p) (is_good_place p) b) u in
    two_ops (λ c d. binary op c d) _ a _ b (formula_back o p a h both.0 s.0 line) (formula_back o p b h both.1 s.1 line)
formula_back o p (choice c a b) h u s line =
    let e : Formula → Bool = each_use (is_good_cell p) (is_good_place p) in
    let both = both_of (e c && e a) (e b) u in
    let front = both_of (e c) (e a) both.0 in
    three_ops _ c _ a _ b (formula_back o p c h front.0 s.0 line) (formula_back o p a h front.1 s.1 line) (formula_back o p b h both.1 s.2 line)
formula_back o p (cast t a) h u s line = cast_ops _ t _ a (h.types t s.0 line) (formula_back o p a h u s.1 line)
