-- The slot of the param that a line names, found by its place.
use Rattle.std.proofs.Common.{◌≡◌, ℕ, zero, suc, ◌+◌, ◌<◌, ◌≤◌, Bool, true, false, List, [], ◌∷◌, map, length, set, get_or, Option, Some, None, ℤ, refl, sym, ◌∙◌, ap, cond, arith, if◌then◌else◌}
use Rattle.std.specs.Prelude.{position}
use Rattle.std.specs.List.{position_from}
use Rattle.soda_words.specs.Names.{is_word}
use Rattle.soda_words.proofs.CallerLemmas.{position-from}
use Rattle.std.proofs.lemmas.List.{get_or-map, get_or_read, length-map}
use Rattle.std.proofs.lemmas.List.Quantifiers.{position-Some}
use Rattle.soda_ir.specs.declared.program.Param.{Param}
use Rattle.soda_ir.specs.Program.{PlainParam, plain_param}
use Rattle.param_lines.specs.Values.{decimal_value}
use Rattle.param_lines.specs.pieces.Slots.{are_taken, is_taken, slots_with}

-- a place isn't before the first
from_first : (t : List ℕ → Bool) (i n : ℕ) (xs : List (List ℕ)) → position_from t i xs ≡ Some n → i ≤ n
from_first t i n [] e = cc
from_first t i n (x ∷ xs) e = by (from_first t (i + 1) n xs) (t x) e
  where
    by : (position_from t (i + 1) xs ≡ Some n → i + 1 ≤ n) → (c : Bool) → cond c (Some i) (position_from t (i + 1) xs) ≡ Some n → i ≤ n
    by more true e = let same : i ≡ n = cc in omega arith
    by more false e = omega (arith, more e)

-- the line is taken where the slot at this place takes it, and fills that slot
pub record IsPlaced (ps : List PlainParam) (slots : List (Option (List ℤ))) (name : List ℕ) (ws : List (List ℕ)) (k : ℕ) : Type 0 where
  pub taken : (d : PlainParam) → are_taken ps slots (name ∷ ws) ≡ is_taken (get_or ps k d) (get_or slots k None) ws
  pub filled : slots_with ps slots (name ∷ ws) ≡ set slots k (Some (map decimal_value ws))

placed_from : (ps : List PlainParam) (slots : List (Option (List ℤ))) (name : List ℕ) (ws : List (List ℕ)) (i k : ℕ) → length slots ≡ length ps → position_from (is_word name) i (map (λ p. p.name) ps) ≡ Some (i + k) → IsPlaced ps slots name ws k
placed_from [] slots name ws i k l e = cc
placed_from (p ∷ ps) [] name ws i k l e = absurd (omega arith)
placed_from (p ∷ ps) (s ∷ slots) name ws i k l e =
    by (λ j. placed_from ps slots name ws (i + 1) j (omega arith)) (λ n. from_first (is_word name) (i + 1) n (map (λ p. p.name) ps)) (is_word name p.name) refl k e
  where
    by : ((j : ℕ) → position_from (is_word name) (i + 1) (map (λ p. p.name) ps) ≡ Some (i + 1 + j) → IsPlaced ps slots name ws j) → ((n : ℕ) → position_from (is_word name) (i + 1) (map (λ p. p.name) ps) ≡ Some n → i + 1 ≤ n) → (c : Bool) → is_word name p.name ≡ c → (n : ℕ) → cond c (Some i) (position_from (is_word name) (i + 1) (map (λ p. p.name) ps)) ≡ Some (i + n) → IsPlaced (p ∷ ps) (s ∷ slots) name ws n
    by more first true q zero e = record {
      taken = λ d. ap (λ c. if c then is_taken p s ws else are_taken ps slots (name ∷ ws)) q;
      filled = ap (λ c. if c then Some (map decimal_value ws) ∷ slots else s ∷ slots_with ps slots (name ∷ ws)) q;
    }
    by more first true q (suc n) e = let same : i ≡ i + suc n = cc in absurd (omega arith)
    by more first false q zero e = absurd (omega (arith, first (i + 0) e))
    by more first false q (suc n) e =
        let next : i + suc n ≡ i + 1 + n = omega arith in
        let placed = more n (e ∙ ap (λ m. Some m) next) in
        record {
          taken = λ d. ap (λ c. if c then is_taken p s ws else are_taken ps slots (name ∷ ws)) q ∙ placed.taken d;
          filled = ap (λ c. if c then Some (map decimal_value ws) ∷ slots else s ∷ slots_with ps slots (name ∷ ws)) q ∙ ap (λ (ss : List (Option (List ℤ))). s ∷ ss) placed.filled;
        }

pub placed : (ps : List PlainParam) (slots : List (Option (List ℤ))) (name : List ℕ) (ws : List (List ℕ)) (k : ℕ) → length slots ≡ length ps → Some k ≡ position (is_word name) (map (λ p. p.name) ps) → IsPlaced ps slots name ws k
placed ps slots name ws k l e =
    let zero_more : k ≡ 0 + k = omega arith in
    placed_from ps slots name ws 0 k l (sym (position-from (is_word name) (map (λ p. p.name) ps)) ∙ (sym e ∙ ap (λ n. Some n) zero_more))

none_from : (ps : List PlainParam) (slots : List (Option (List ℤ))) (name : List ℕ) (ws : List (List ℕ)) (i : ℕ) → length slots ≡ length ps → position_from (is_word name) i (map (λ p. p.name) ps) ≡ None → are_taken ps slots (name ∷ ws) ≡ false
none_from [] slots name ws i l e = refl
none_from (p ∷ ps) [] name ws i l e = refl
none_from (p ∷ ps) (s ∷ slots) name ws i l e =
    by (none_from ps slots name ws (i + 1) (omega arith)) (is_word name p.name) e
  where
    by : (position_from (is_word name) (i + 1) (map (λ p. p.name) ps) ≡ None → are_taken ps slots (name ∷ ws) ≡ false) → (c : Bool) → cond c (Some i) (position_from (is_word name) (i + 1) (map (λ p. p.name) ps)) ≡ None → (if c then is_taken p s ws else are_taken ps slots (name ∷ ws)) ≡ false
    by more true e = cc
    by more false e = more e

-- a line that names no param isn't taken
pub not_placed : (ps : List PlainParam) (slots : List (Option (List ℤ))) (name : List ℕ) (ws : List (List ℕ)) → length slots ≡ length ps → None ≡ position (is_word name) (map (λ p. p.name) ps) → are_taken ps slots (name ∷ ws) ≡ false
not_placed ps slots name ws l e =
    none_from ps slots name ws 0 l (sym (position-from (is_word name) (map (λ p. p.name) ps)) ∙ sym e)

-- the param at a place, the slot there, and the line that names the param
pub record IsAt (params : List Param) (slots : List (Option (List ℤ))) (name : List ℕ) (k : ℕ) (param : Param) (slot : Option (List ℤ)) : Type 0 where
  pub many : length slots ≡ length params
  pub found : Some k ≡ position (is_word name) (map (λ p. p.name) (map plain_param params))
  pub its_param : param ≡ get_or params k param
  pub its_slot : slot ≡ get_or slots k slot

at_within : (params : List Param) (name : List ℕ) (k : ℕ) → Some k ≡ position (is_word name) (map (λ p. p.name) (map plain_param params)) → k < length params
at_within params name k e =
    let names = map (λ p. p.name) (map plain_param params) in
    let within = (position-Some (is_word name) names k [] (sym e)).0 in
    omega (arith, length-map (map plain_param params) (λ p. p.name), length-map params plain_param)

at_placed : (params : List Param) (slots : List (Option (List ℤ))) (name : List ℕ) (k : ℕ) (param : Param) (slot : Option (List ℤ)) (ws : List (List ℕ)) → IsAt params slots name k param slot → IsPlaced (map plain_param params) slots name ws k
at_placed params slots name k param slot ws at =
    placed (map plain_param params) slots name ws k (at.many ∙ sym (length-map params plain_param)) at.found

pub at_taken : (params : List Param) (slots : List (Option (List ℤ))) (name : List ℕ) (k : ℕ) (param : Param) (slot : Option (List ℤ)) (ws : List (List ℕ)) → IsAt params slots name k param slot → is_taken (plain_param param) slot ws ≡ are_taken (map plain_param params) slots (name ∷ ws)
at_taken params slots name k param slot ws at =
    let within = at_within params name k at.found in
    let own : plain_param param ≡ get_or (map plain_param params) k (plain_param param) = ap plain_param at.its_param ∙ sym (get_or-map plain_param params k param (plain_param param) within) in
    let there : slot ≡ get_or slots k None = get_or_read slots k slot (omega (arith, at.many)) at.its_slot None in
    (λ i. is_taken (own i) (there i) ws) ∙ sym ((at_placed params slots name k param slot ws at).taken (plain_param param))

pub at_filled : (params : List Param) (slots : List (Option (List ℤ))) (name : List ℕ) (k : ℕ) (param : Param) (slot : Option (List ℤ)) (ws : List (List ℕ)) → IsAt params slots name k param slot → set slots k (Some (map decimal_value ws)) ≡ slots_with (map plain_param params) slots (name ∷ ws)
at_filled params slots name k param slot ws at = sym (at_placed params slots name k param slot ws at).filled
