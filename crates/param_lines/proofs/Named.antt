-- What the lines give a name, with one line more.
use Rattle.std.proofs.Common.{◌≡◌, ℕ, Bool, true, false, not, ◌&&◌, ◌||◌, List, [], ◌∷◌, ◌++◌, map, Option, Some, None, is_some, option_map, refl, sym, ◌∙◌, ap, if◌then◌else◌}
use Rattle.std.specs.List.{list_any}
use Rattle.std.proofs.lemmas.Bool.{and_left, and_parts, not-true, or_from, or_parts}
use Rattle.soda_words.specs.Names.{is_word}
use Rattle.soda_words.specs.Tokens.{or_else}
use Rattle.soda_words.proofs.CallerLemmas.{absent, is_word-same, is_word-turned}
use Rattle.soda_ir.specs.Program.{PlainParam}
use Rattle.param_lines.specs.Params.{is_fine, is_named, is_of_param, values_at, words_of}
use Rattle.param_lines.specs.Values.{are_values, decimal_value}
use Rattle.param_lines.specs.pieces.Slots.{are_apart, are_taken, is_taken, slots_with}

-- one line more
words_of-push : (n : List ℕ) (rows : List (List (List ℕ))) (f : List ℕ) (ws : List (List ℕ)) → words_of n (rows ++ (f ∷ ws) ∷ []) ≡ or_else (words_of n rows) (if is_word n f then Some ws else None)
words_of-push n [] f ws = refl
words_of-push n ([] ∷ rows) f ws = words_of-push n rows f ws
words_of-push n ((g ∷ vs) ∷ rows) f ws = by (words_of-push n rows f ws) (is_word n g)
  where
    by : words_of n (rows ++ (f ∷ ws) ∷ []) ≡ or_else (words_of n rows) (if is_word n f then Some ws else None) → (t : Bool) → (if t then Some vs else words_of n (rows ++ (f ∷ ws) ∷ [])) ≡ or_else (if t then Some vs else words_of n rows) (if is_word n f then Some ws else None)
    by e true = refl
    by e false = e

-- one blank line more
words_of-blank : (n : List ℕ) (rows : List (List (List ℕ))) → words_of n (rows ++ [] ∷ []) ≡ words_of n rows
words_of-blank n [] = refl
words_of-blank n ([] ∷ rows) = words_of-blank n rows
words_of-blank n ((g ∷ vs) ∷ rows) = ap (λ o. if is_word n g then Some vs else o) (words_of-blank n rows)

-- a line begins with the name exactly where something stands behind it
named_some : (n : List ℕ) (rows : List (List (List ℕ))) → is_some (words_of n rows) ≡ list_any (is_named n) rows
named_some n [] = refl
named_some n ([] ∷ rows) = named_some n rows
named_some n ((g ∷ vs) ∷ rows) = by (named_some n rows) (is_word n g)
  where
    by : is_some (words_of n rows) ≡ list_any (is_named n) rows → (t : Bool) → is_some (if t then Some vs else words_of n rows) ≡ (t || list_any (is_named n) rows)
    by e true = refl
    by e false = e

-- a param of another name is given no values
pub no_other : (ps : List PlainParam) (name : List ℕ) (ws : List (List ℕ)) → list_any (λ q. is_word name q.name) ps ≡ false → is_of_param ps name ws ≡ false
no_other [] name ws h = refl
no_other (p ∷ ps) name ws h =
    let parts = or_parts (is_word name p.name) (list_any (λ q. is_word name q.name) ps) h in
    or_from (is_word name p.name && are_values p ws) (is_of_param ps name ws) (and_left (is_word name p.name) (are_values p ws) parts.0) (no_other ps name ws parts.1)

some_mapped : (o : Option (List (List ℕ))) → is_some (option_map (λ ws. map decimal_value ws) o) ≡ is_some o
some_mapped None = refl
some_mapped (Some ws) = refl

or_none : (o : Option (List (List ℕ))) → or_else o None ≡ o
or_none None = refl
or_none (Some ws) = refl

turned_round : (a b : Bool) → (not a && b) ≡ ((b || false) && not a)
turned_round true true = refl
turned_round true false = refl
turned_round false true = refl
turned_round false false = refl

-- the names behind the first are others
others_of : (p : PlainParam) (ps : List PlainParam) (name : List ℕ) → are_apart (p ∷ ps) ≡ true → name ≡ p.name → list_any (λ q. is_word name q.name) ps ≡ false
others_of p ps name h same =
    ap (λ n. list_any (λ q. is_word n q.name) ps) same
    ∙ not-true (list_any (λ q. is_word p.name q.name) ps) (and_parts (not (list_any (λ q. is_word p.name q.name) ps)) (are_apart ps) h).0

pub fewer_apart : (p : PlainParam) (ps : List PlainParam) → are_apart (p ∷ ps) ≡ true → are_apart ps ≡ true
fewer_apart p ps h = (and_parts (not (list_any (λ q. is_word p.name q.name) ps)) (are_apart ps) h).1

taken_from : (ps : List PlainParam) (done : List (List (List ℕ))) (name : List ℕ) (ws : List (List ℕ)) → are_apart ps ≡ true → are_taken ps (map (values_at done) ps) (name ∷ ws) ≡ (is_of_param ps name ws && not (list_any (is_named name) done))
taken_from [] done name ws h = refl
taken_from (p ∷ ps) done name ws h =
    by (taken_from ps done name ws (fewer_apart p ps h)) (is_word name p.name) refl
  where
    by : are_taken ps (map (values_at done) ps) (name ∷ ws) ≡ (is_of_param ps name ws && not (list_any (is_named name) done)) → (t : Bool) → is_word name p.name ≡ t → (if t then is_taken p (values_at done p) ws else are_taken ps (map (values_at done) ps) (name ∷ ws)) ≡ (((t && are_values p ws) || is_of_param ps name ws) && not (list_any (is_named name) done))
    by e false q = e
    by e true q =
        let same : name ≡ p.name = is_word-same name p.name q in
        let some : is_some (values_at done p) ≡ list_any (is_named name) done = some_mapped (words_of p.name done) ∙ (named_some p.name done ∙ ap (λ n. list_any (is_named n) done) (sym same)) in
        let none : is_of_param ps name ws ≡ false = no_other ps name ws (others_of p ps name h same) in
        ap (λ s. not s && are_values p ws) some
        ∙ (turned_round (list_any (is_named name) done) (are_values p ws)
        ∙ ap (λ o. (are_values p ws || o) && not (list_any (is_named name) done)) (sym none))

-- a line is taken exactly where it is fine behind those before it
pub taken_fine : (ps : List PlainParam) (done : List (List (List ℕ))) (row : List (List ℕ)) → are_apart ps ≡ true → are_taken ps (map (values_at done) ps) row ≡ is_fine ps done row
taken_fine ps done [] h = refl
taken_fine ps done (name ∷ ws) h = taken_from ps done name ws h

value_kept : (p : PlainParam) (done : List (List (List ℕ))) (name : List ℕ) (ws : List (List ℕ)) → is_word name p.name ≡ false → values_at done p ≡ values_at (done ++ (name ∷ ws) ∷ []) p
value_kept p done name ws q =
    let other : is_word p.name name ≡ false = is_word-turned p.name name ∙ q in
    ap (option_map (λ us. map decimal_value us)) (sym (words_of-push p.name done name ws ∙ (ap (λ t. or_else (words_of p.name done) (if t then Some ws else None)) other ∙ or_none (words_of p.name done))))

values_kept : (ps : List PlainParam) (done : List (List (List ℕ))) (name : List ℕ) (ws : List (List ℕ)) → list_any (λ q. is_word name q.name) ps ≡ false → map (values_at done) ps ≡ map (values_at (done ++ (name ∷ ws) ∷ [])) ps
values_kept [] done name ws h = refl
values_kept (p ∷ ps) done name ws h =
    let parts = or_parts (is_word name p.name) (list_any (λ q. is_word name q.name) ps) h in
    let first = value_kept p done name ws parts.0 in
    let more = values_kept ps done name ws parts.1 in
    λ i. first i ∷ more i

value_new : (p : PlainParam) (done : List (List (List ℕ))) (name : List ℕ) (ws : List (List ℕ)) → is_word name p.name ≡ true → list_any (is_named name) done ≡ false → Some (map decimal_value ws) ≡ values_at (done ++ (name ∷ ws) ∷ []) p
value_new p done name ws q fresh =
    let same : name ≡ p.name = is_word-same name p.name q in
    let own : is_word p.name name ≡ true = is_word-turned p.name name ∙ q in
    let none : words_of p.name done ≡ None = absent (named_some p.name done ∙ (ap (λ n. list_any (is_named n) done) (sym same) ∙ fresh)) in
    ap (option_map (λ us. map decimal_value us)) (sym (words_of-push p.name done name ws ∙ (ap (λ o. or_else o (if is_word p.name name then Some ws else None)) none ∙ ap (λ t. if t then Some ws else None) own)))

slots_from : (ps : List PlainParam) (done : List (List (List ℕ))) (name : List ℕ) (ws : List (List ℕ)) → are_apart ps ≡ true → list_any (is_named name) done ≡ false → slots_with ps (map (values_at done) ps) (name ∷ ws) ≡ map (values_at (done ++ (name ∷ ws) ∷ [])) ps
slots_from [] done name ws h fresh = refl
slots_from (p ∷ ps) done name ws h fresh =
    by (slots_from ps done name ws (fewer_apart p ps h) fresh) (is_word name p.name) refl
  where
    by : slots_with ps (map (values_at done) ps) (name ∷ ws) ≡ map (values_at (done ++ (name ∷ ws) ∷ [])) ps → (t : Bool) → is_word name p.name ≡ t → (if t then Some (map decimal_value ws) ∷ map (values_at done) ps else values_at done p ∷ slots_with ps (map (values_at done) ps) (name ∷ ws)) ≡ values_at (done ++ (name ∷ ws) ∷ []) p ∷ map (values_at (done ++ (name ∷ ws) ∷ [])) ps
    by e false q = let first = value_kept p done name ws q in λ i. first i ∷ e i
    by e true q =
        let first = value_new p done name ws q fresh in
        let more = values_kept ps done name ws (others_of p ps name h (is_word-same name p.name q)) in
        λ i. first i ∷ more i

slots_blank : (ps : List PlainParam) (done : List (List (List ℕ))) → map (values_at done) ps ≡ map (values_at (done ++ [] ∷ [])) ps
slots_blank [] done = refl
slots_blank (p ∷ ps) done =
    let first : values_at done p ≡ values_at (done ++ [] ∷ []) p = ap (option_map (λ us. map decimal_value us)) (sym (words_of-blank p.name done)) in
    let more = slots_blank ps done in
    λ i. first i ∷ more i

-- the slots with a fine line are those of the lines with it
pub slots_read : (ps : List PlainParam) (done : List (List (List ℕ))) (row : List (List ℕ)) → are_apart ps ≡ true → is_fine ps done row ≡ true → slots_with ps (map (values_at done) ps) row ≡ map (values_at (done ++ row ∷ [])) ps
slots_read ps done [] h fine = slots_blank ps done
slots_read ps done (name ∷ ws) h fine =
    slots_from ps done name ws h (not-true (list_any (is_named name) done) (and_parts (is_of_param ps name ws) (not (list_any (is_named name) done)) fine).1)
