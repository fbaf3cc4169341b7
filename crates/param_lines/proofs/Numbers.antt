-- Numbers read word by word are those of all words.
use Rattle.std.proofs.Common.{◌≡◌, ℕ, Bool, true, false, ◌&&◌, ◌==◌, List, [], ◌∷◌, ◌++◌, map, length, Option, Some, None, option_map, ℤ, refl, sym, ◌∙◌, ap, arith, if◌then◌else◌, append_assoc, min, ◌^◌, ◌<◌}
use Rattle.std.specs.List.{list_all}
use Rattle.std.proofs.Math.Bool.{and-true}
use Rattle.std.proofs.lemmas.Bool.{eq-eqb, ne_eqb}
use Rattle.std.proofs.lemmas.List.{append-nil, length-map}
use Rattle.soda_words.specs.IntType.{IntType}
use Rattle.soda_ir.specs.Points.{size}
use Rattle.soda_ir.specs.Program.{PlainParam}
use Rattle.soda_ir.specs.Valid.{value_count}
use Rattle.array_bytes.specs.Runs.{runs}
use Rattle.param_lines.specs.Values.{decimal_value, is_value_of}
use Rattle.param_lines.specs.pieces.Slots.{value_in, values_for, values_in, with_first}

-- values before others
abbrev pub with_front : List ℤ → Option (List ℤ) → Option (List ℤ)
with_front values more = option_map (λ vs. values ++ vs) more

-- the numbers of the first words are read
pub record AreRead (t : IntType) (values : List ℤ) (rest text : List ℕ) : Type 0 where
  pub same : with_front values (values_in t (runs rest)) ≡ values_in t (runs text)

-- no values before others
pub none_front : (o : Option (List ℤ)) → with_front [] o ≡ o
none_front None = refl
none_front (Some vs) = refl

-- no number is read
pub begun : (t : IntType) (text : List ℕ) → AreRead t [] text text
begun t text = record { same = none_front (values_in t (runs text)) }

moved : (values : List ℤ) (v : ℤ) (o : Option (List ℤ)) → with_front (values ++ v ∷ []) o ≡ with_front values (option_map (λ vs. v ∷ vs) o)
moved values v None = refl
moved values v (Some vs) = ap (λ (xs : List ℤ). Some xs) (append_assoc values (v ∷ []) vs)

-- one number more
pub one_more : (t : IntType) (values more : List ℤ) (rest word after text : List ℕ) (v : ℤ) → AreRead t values rest text → runs rest ≡ word ∷ runs after → Some v ≡ value_in t word → more ≡ values ++ v ∷ [] → AreRead t more after text
one_more t values more rest word after text v read cut is added = record {
  same =
      ap (λ (xs : List ℤ). with_front xs (values_in t (runs after))) added
      ∙ (moved values v (values_in t (runs after))
      ∙ (ap (λ o. with_front values (with_first o (values_in t (runs after)))) is
      ∙ (ap (λ ws. with_front values (values_in t ws)) (sym cut) ∙ read.same)));
}

-- a word that is no number
pub stopped : (t : IntType) (values : List ℤ) (rest word after text : List ℕ) → AreRead t values rest text → runs rest ≡ word ∷ runs after → None ≡ value_in t word → None ≡ values_in t (runs text)
stopped t values rest word after text read cut is =
    ap (λ o. with_front values (with_first o (values_in t (runs after)))) is
    ∙ (ap (λ ws. with_front values (values_in t ws)) (sym cut) ∙ read.same)

-- all words are read
pub ended : (t : IntType) (values : List ℤ) (rest text : List ℕ) → AreRead t values rest text → runs rest ≡ [] → Some values ≡ values_in t (runs text)
ended t values rest text read none =
    ap (λ (xs : List ℤ). Some xs) (sym (append-nil values))
    ∙ (ap (λ ws. with_front values (values_in t ws)) (sym none) ∙ read.same)

-- the numbers of words, where all write one
pub values_in-is : (t : IntType) (ws : List (List ℕ)) → values_in t ws ≡ (if list_all (is_value_of t) ws then Some (map decimal_value ws) else None)
values_in-is t [] = refl
values_in-is t (w ∷ ws) =
    ap (with_first (value_in t w)) (values_in-is t ws) ∙ by (is_value_of t w) (list_all (is_value_of t) ws)
  where
    by : (a b : Bool) → with_first (if a then Some (decimal_value w) else None) (if b then Some (map decimal_value ws) else None) ≡ (if (a && b) then Some (decimal_value w ∷ map decimal_value ws) else None)
    by true true = refl
    by true false = refl
    by false b = refl

-- no values for a param where a word is no number of its type
pub values_none : (p : PlainParam) (ws : List (List ℕ)) → None ≡ values_in p.ty ws → None ≡ values_for p ws
values_none p ws e = by (list_all (is_value_of p.ty) ws) (length ws == size p.sizes) (e ∙ values_in-is p.ty ws)
  where
    by : (b a : Bool) → None ≡ (if b then Some (map decimal_value ws) else None) → None ≡ (if (a && b) then Some (map decimal_value ws) else None)
    by true a f = cc
    by false true f = refl
    by false false f = refl

-- the values of a param, where each word is a number of its type
pub values_some : (p : PlainParam) (ws : List (List ℕ)) (values : List ℤ) → Some values ≡ values_in p.ty ws → (if length values == size p.sizes then Some values else None) ≡ values_for p ws
values_some p ws values e = by (list_all (is_value_of p.ty) ws) (e ∙ values_in-is p.ty ws)
  where
    by : (b : Bool) → Some values ≡ (if b then Some (map decimal_value ws) else None) → (if length values == size p.sizes then Some values else None) ≡ (if (length ws == size p.sizes && b) then Some (map decimal_value ws) else None)
    by false f = cc
    by true f =
        let same : values ≡ map decimal_value ws = cc in
        ap (λ (vs : List ℤ). if length vs == size p.sizes then Some vs else None) same
        ∙ (ap (λ n. if n == size p.sizes then Some (map decimal_value ws) else None) (length-map ws decimal_value)
        ∙ ap (λ c. if c then Some (map decimal_value ws) else None) (sym (and-true (length ws == size p.sizes))))

-- as many values as a param has places
pub as_many : (p : PlainParam) (values : List ℤ) (len count : ℕ) → len ≡ length values → len < 2 ^ 64 → count ≡ min (value_count (p ∷ [])) (2 ^ 64) → (len ≡ count → length values ≡ size p.sizes) × (length values ≡ size p.sizes → len ≡ count)
as_many p values len count l small c =
    let one : value_count (p ∷ []) ≡ size p.sizes = omega arith in
    (λ e. omega arith, λ e. omega arith)

pub values_many : (p : PlainParam) (ws : List (List ℕ)) (values : List ℤ) → Some values ≡ values_in p.ty ws → length values ≡ size p.sizes → Some values ≡ values_for p ws
values_many p ws values e many =
    ap (λ c. if c then Some values else None) (sym (eq-eqb (length values) (size p.sizes) many)) ∙ values_some p ws values e

pub values_few : (p : PlainParam) (ws : List (List ℕ)) (values : List ℤ) → Some values ≡ values_in p.ty ws → (length values ≡ size p.sizes → ⊥) → None ≡ values_for p ws
values_few p ws values e few =
    ap (λ c. if c then Some values else None) (sym (ne_eqb (length values) (size p.sizes) few)) ∙ values_some p ws values e
