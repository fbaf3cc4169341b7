-- The values of a params file are in the ranges of their params.
use Rattle.std.proofs.Common.{◌≡◌, ℕ, zero, suc, ◌<◌, Bool, true, false, not, ◌&&◌, ◌||◌, ◌==◌, List, [], ◌∷◌, ◌++◌, map, length, get_or, take, replicate, slice_index_or, Option, Some, None, option_map, ℤ, refl, sym, ◌∙◌, ap, subst, arith, ⊎_elim, if◌then◌else◌}
use Rattle.std.specs.List.{list_all, list_any}
use Rattle.std.proofs.lemmas.Bool.{and_from, and_parts, both_ways, eqb-true, false_from_ne_true, not-true, not_from_false, or_cases}
use Rattle.std.proofs.lemmas.List.Folds.{list_any_at}
use Rattle.soda_words.specs.IntType.{IntType}
use Rattle.soda_words.specs.Names.{is_word}
use Rattle.soda_words.proofs.CallerLemmas.{is_word-same, is_word-turned}
use Rattle.soda_ir.specs.Points.{size}
use Rattle.soda_ir.specs.Program.{PlainParam}
use Rattle.soda_ir.specs.Valid.{are_free_names}
use Rattle.soda_words.specs.Names.{is_free_name}
use Rattle.soda_eval.specs.Runs.{HasValues, place_types}
use Rattle.array_bytes.specs.Values.{is_of}
use Rattle.array_bytes.proofs.CallerLemmas.{in_range_of}
use Rattle.param_lines.specs.Lines.{rows_of}
use Rattle.param_lines.specs.Params.{GivesParams, is_fine, is_named, is_of_param, joined, values_at, words_of}
use Rattle.param_lines.specs.Values.{are_values, decimal_value, is_decimal, is_value_of}
use Rattle.param_lines.specs.pieces.Slots.{are_apart}
use Rattle.param_lines.proofs.Named.{no_other}

-- the values of a param, before those of others
has_front : (t : IntType) (ws : List (List ℕ)) (ts : List IntType) (rest : List ℤ) → list_all (is_value_of t) ws ≡ true → HasValues ts rest → HasValues (replicate (length ws) t ++ ts) (map decimal_value ws ++ rest)
has_front t [] ts rest h k = k
has_front t (w ∷ ws) ts rest h k =
    let parts = and_parts (is_value_of t w) (list_all (is_value_of t) ws) h in
    let word = and_parts (is_decimal w) (is_of t (decimal_value w)) parts.0 in
    (in_range_of t (decimal_value w) word.1, has_front t ws ts rest parts.1 k)

-- a line is blank or gives a param its values
abbrev is_row : List PlainParam → List (List ℕ) → Bool
is_row ps [] = true
is_row ps (name ∷ ws) = is_of_param ps name ws

fine_row : (ps : List PlainParam) (before : List (List (List ℕ))) (row : List (List ℕ)) → is_fine ps before row ≡ true → is_row ps row ≡ true
fine_row ps before [] h = refl
fine_row ps before (name ∷ ws) h =
    (and_parts (is_of_param ps name ws) (not (list_any (is_named name) before)) h).0

-- what stands behind a name are the values of a param of this name
named_row : (ps : List PlainParam) (rows : List (List (List ℕ))) (n : List ℕ) (ws : List (List ℕ)) → ((i : ℕ) → i < length rows → is_row ps (slice_index_or rows i []) ≡ true) → words_of n rows ≡ Some ws → is_of_param ps n ws ≡ true
named_row ps [] n ws each e = cc
named_row ps ([] ∷ rows) n ws each e = named_row ps rows n ws (λ i l. each (suc i) (omega arith)) e
named_row ps ((f ∷ vs) ∷ rows) n ws each e =
    by (named_row ps rows n ws (λ i l. each (suc i) (omega arith))) (is_word n f) refl e
  where
    by : (words_of n rows ≡ Some ws → is_of_param ps n ws ≡ true) → (t : Bool) → is_word n f ≡ t → (if t then Some vs else words_of n rows) ≡ Some ws → is_of_param ps n ws ≡ true
    by more true q e =
        let same : n ≡ f = is_word-same n f q in
        let words : vs ≡ ws = cc in
        ap (λ m. is_of_param ps m ws) same ∙ (ap (is_of_param ps f) (sym words) ∙ each 0 (omega arith))
    by more false q e = more e

any_none_at : {X : Type 0} (p : X → Bool) (xs : List X) (k : ℕ) (d : X) → list_any p xs ≡ false → k < length xs → p (get_or xs k d) ≡ false
any_none_at p xs k d h l =
    false_from_ne_true (p (get_or xs k d)) (λ e. both_ways (list_any p xs) h (list_any_at p xs k d l e))

-- the param of a name is the one that has it
own : (ps : List PlainParam) (k : ℕ) (d : PlainParam) → are_apart ps ≡ true → k < length ps → (ws : List (List ℕ)) → is_of_param ps (get_or ps k d).name ws ≡ true → are_values (get_or ps k d) ws ≡ true
own [] k d h l ws e = absurd (omega arith)
own (p ∷ ps) zero d h l ws e =
    let apart = and_parts (not (list_any (λ q. is_word p.name q.name) ps)) (are_apart ps) h in
    let none = no_other ps p.name ws (not-true (list_any (λ q. is_word p.name q.name) ps) apart.0) in
    ⊎_elim (λ (a : (is_word p.name p.name && are_values p ws) ≡ true). (and_parts (is_word p.name p.name) (are_values p ws) a).1) (λ (b : is_of_param ps p.name ws ≡ true). absurd (both_ways (is_of_param ps p.name ws) none b)) (or_cases (is_word p.name p.name && are_values p ws) (is_of_param ps p.name ws) e)
own (p ∷ ps) (suc k) d h l ws e =
    let q = get_or ps k d in
    let apart = and_parts (not (list_any (λ q. is_word p.name q.name) ps)) (are_apart ps) h in
    let lt : k < length ps = omega arith in
    let other : is_word q.name p.name ≡ false = is_word-turned q.name p.name ∙ any_none_at (λ r. is_word p.name r.name) ps k d (not-true (list_any (λ q. is_word p.name q.name) ps) apart.0) lt in
    ⊎_elim (λ (a : (is_word q.name p.name && are_values p ws) ≡ true). absurd (both_ways (is_word q.name p.name) other (and_parts (is_word q.name p.name) (are_values p ws) a).0)) (λ (b : is_of_param ps q.name ws ≡ true). own ps k d apart.1 lt ws b) (or_cases (is_word q.name p.name && are_values p ws) (is_of_param ps q.name ws) e)

-- each of these params is given values of its own
abbrev AreOwn : List PlainParam → List (List (List ℕ)) → Type 0
AreOwn qs rows =
    (k : ℕ) (d : PlainParam) → k < length qs → (ws : List (List ℕ)) → words_of (get_or qs k d).name rows ≡ Some ws → are_values (get_or qs k d) ws ≡ true

-- the values of a param and those of the others
module _ (q : PlainParam) (qs : List PlainParam) (rows : List (List (List ℕ))) where
  fits : (ws : List (List ℕ)) (rest : List ℤ) → are_values q ws ≡ true → HasValues (place_types qs) rest → HasValues (place_types (q ∷ qs)) (map decimal_value ws ++ rest)
  fits ws rest own_values more =
      let parts = and_parts (length ws == size q.sizes) (list_all (is_value_of q.ty) ws) own_values in
      let many : length ws ≡ size q.sizes = eqb-true (length ws) (size q.sizes) parts.0 in
      let P : ℕ → Type 0 = λ n. HasValues (replicate n q.ty ++ place_types qs) (map decimal_value ws ++ rest) in
      subst P many (has_front q.ty ws (place_types qs) rest parts.1 more)

  ends : (ws : List (List ℕ)) (values : List ℤ) → are_values q ws ≡ true → (o : Option (List ℤ)) → ((rest : List ℤ) → o ≡ Some rest → HasValues (place_types qs) rest) → option_map (λ more. map decimal_value ws ++ more) o ≡ Some values → HasValues (place_types (q ∷ qs)) values
  ends ws values own_values None more e = cc
  ends ws values own_values (Some rest) more e =
      let all : map decimal_value ws ++ rest ≡ values = cc in
      let P : List ℤ → Type 0 = HasValues (place_types (q ∷ qs)) in
      subst P all (fits ws rest own_values (more rest refl))

  begin : (o : Option (List (List ℕ))) (values : List ℤ) → ((ws : List (List ℕ)) → o ≡ Some ws → are_values q ws ≡ true) → ((rest : List ℤ) → joined (map (values_at rows) qs) ≡ Some rest → HasValues (place_types qs) rest) → joined (option_map (λ ws. map decimal_value ws) o ∷ map (values_at rows) qs) ≡ Some values → HasValues (place_types (q ∷ qs)) values
  begin None values each more e = cc
  begin (Some ws) values each more e = ends ws values (each ws refl) (joined (map (values_at rows) qs)) more e

has_values : (qs : List PlainParam) (rows : List (List (List ℕ))) → AreOwn qs rows → (values : List ℤ) → joined (map (values_at rows) qs) ≡ Some values → HasValues (place_types qs) values
has_values [] rows each values e = let none : [] ≡ values = cc in let P : List ℤ → Type 0 = HasValues [] in subst P none tt
has_values (q ∷ qs) rows each values e =
    begin q qs rows (words_of q.name rows) values (λ ws w. each 0 q (omega arith) ws w) (has_values qs rows (λ k d l. each (suc k) d (omega arith))) e

-- the values that a file gives are in range
pub given_in_range : (ps : List PlainParam) (bytes : List ℕ) (values : List ℤ) → are_apart ps ≡ true → GivesParams ps bytes values → HasValues (place_types ps) values
given_in_range ps bytes values apart given =
    let rows = rows_of bytes in
    let each : (i : ℕ) → i < length rows → is_row ps (slice_index_or rows i []) ≡ true = λ i l. fine_row ps (take i rows) (slice_index_or rows i []) (given.fine.each i l) in
    has_values ps rows (λ k d l ws e. own ps k d apart l ws (named_row ps rows (get_or ps k d).name ws each e)) values given.whole

-- the params of a valid program have names of their own
front_apart : (p : PlainParam) (ps : List PlainParam) (others : List (List ℕ)) → list_any (is_word p.name) (map (λ q. q.name) ps ++ others) ≡ false → list_any (λ q. is_word p.name q.name) ps ≡ false
front_apart p [] others h = refl
front_apart p (q ∷ ps) others h = by (front_apart p ps others) (is_word p.name q.name) h
  where
    by : (list_any (is_word p.name) (map (λ r. r.name) ps ++ others) ≡ false → list_any (λ r. is_word p.name r.name) ps ≡ false) → (t : Bool) → (t || list_any (is_word p.name) (map (λ r. r.name) ps ++ others)) ≡ false → (t || list_any (λ r. is_word p.name r.name) ps) ≡ false
    by more true e = e
    by more false e = more e

pub names_apart : (ps : List PlainParam) (others : List (List ℕ)) → are_free_names (map (λ q. q.name) ps ++ others) ≡ true → are_apart ps ≡ true
names_apart [] others h = refl
names_apart (p ∷ ps) others h =
    let both = and_parts (is_free_name p.name && not (list_any (is_word p.name) (map (λ q. q.name) ps ++ others))) (are_free_names (map (λ q. q.name) ps ++ others)) h in
    let name = and_parts (is_free_name p.name) (not (list_any (is_word p.name) (map (λ q. q.name) ps ++ others))) both.0 in
    let none = front_apart p ps others (not-true (list_any (is_word p.name) (map (λ q. q.name) ps ++ others)) name.1) in
    and_from (not (list_any (λ q. is_word p.name q.name) ps)) (are_apart ps) (not_from_false (list_any (λ q. is_word p.name q.name) ps) none) (names_apart ps others both.1)
