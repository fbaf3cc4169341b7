-- A params file that is written for values gives them.
use Rattle.std.proofs.Common.{◌≡◌, ℕ, zero, suc, ◌<◌, ◌≤◌, true, false, not, ◌&&◌, ◌||◌, List, [], ◌∷◌, ◌++◌, map, length, take, slice_index_or, Option, Some, option_map, ℤ, refl, sym, ◌∙◌, ap, subst, arith, append_assoc, if◌then◌else◌}
use Rattle.std.specs.Fmt.{signed_decimal}
use Rattle.std.specs.List.{list_any}
use Rattle.std.proofs.lemmas.Bool.{and_from, and_parts, not-true, not_from_false, or_from, or_left, or_parts, or_right}
use Rattle.std.proofs.lemmas.List.{append-nil}
use Rattle.std.proofs.lemmas.List.Folds.{list_any-append}
use Rattle.soda_words.specs.Names.{is_free_name, is_word}
use Rattle.soda_words.proofs.CallerLemmas.{is_word-itself, is_word-turned}
use Rattle.soda_ir.specs.Program.{PlainParam}
use Rattle.soda_ir.specs.Valid.{are_free_names}
use Rattle.array_bytes.specs.Runs.{runs}
use Rattle.param_lines.specs.Lines.{rows_of}
use Rattle.param_lines.specs.Params.{AreAllFine, GivesParams, is_fine, is_named, is_of_param, joined, most_params, values_at, words_of}
use Rattle.param_lines.specs.Values.{are_values, decimal_value}
use Rattle.param_lines.specs.Written.{HaveValues, in_order, params_text, spaced}
use Rattle.param_lines.specs.pieces.Slots.{are_apart}
use Rattle.param_lines.proofs.Decimals.{all_back, all_words, are_its_values}
use Rattle.param_lines.proofs.Named.{fewer_apart}
use Rattle.param_lines.proofs.Spaced.{line_flat, lines_line, name_word, runs_spaced}
use Rattle.param_lines.proofs.Typed.{names_apart}

-- the words of the lines that are written
abbrev written_rows : List PlainParam → List (List ℤ) → List (List (List ℕ))
written_rows [] vss = []
written_rows (p ∷ ps) [] = []
written_rows (p ∷ ps) (vs ∷ vss) = (p.name ∷ map signed_decimal vs) ∷ written_rows ps vss

-- the names are free
abbrev AreFree : List PlainParam → Type 0
AreFree [] = Unit {0}
AreFree (p ∷ ps) = (is_free_name p.name ≡ true) × AreFree ps

free_names : (ps : List PlainParam) → are_free_names (map (λ q. q.name) ps) ≡ true → AreFree ps
free_names [] h = tt
free_names (p ∷ ps) h =
    let both = and_parts (is_free_name p.name && not (list_any (is_word p.name) (map (λ q. q.name) ps))) (are_free_names (map (λ q. q.name) ps)) h in
    let name = and_parts (is_free_name p.name) (not (list_any (is_word p.name) (map (λ q. q.name) ps))) both.0 in
    (name.0, free_names ps both.1)

rows_written : (ps : List PlainParam) (vss : List (List ℤ)) → AreFree ps → HaveValues ps vss → rows_of (params_text ps vss) ≡ written_rows ps vss
rows_written [] vss f h = refl
rows_written (p ∷ ps) [] f h = absurd h
rows_written (p ∷ ps) (vs ∷ vss) f h =
    let words = all_words p.ty vs h.0.0 h.0.1.in_range in
    let name = name_word p.name f.0 in
    let first = runs_spaced p.name vs name words in
    let more = rows_written ps vss f.1 h.1 in
    ap (λ (ls : List (List ℕ)). map runs ls) (lines_line (p.name ++ spaced vs) (params_text ps vss) (line_flat p.name vs name words)) ∙ (λ i. first i ∷ more i)

-- no line before begins with the name of one of these params
abbrev AreFresh : List PlainParam → List (List (List ℕ)) → Type 0
AreFresh [] before = Unit {0}
AreFresh (q ∷ qs) before = (list_any (is_named q.name) before ≡ false) × AreFresh qs before

none_before : (qs : List PlainParam) → AreFresh qs []
none_before [] = tt
none_before (q ∷ qs) = (refl, none_before qs)

still_fresh : (qs : List PlainParam) (before : List (List (List ℕ))) (name : List ℕ) (ws : List (List ℕ)) → AreFresh qs before → list_any (λ q. is_word name q.name) qs ≡ false → AreFresh qs (before ++ (name ∷ ws) ∷ [])
still_fresh [] before name ws h k = tt
still_fresh (q ∷ qs) before name ws h k =
    let parts = or_parts (is_word name q.name) (list_any (λ r. is_word name r.name) qs) k in
    let other : is_word q.name name ≡ false = is_word-turned q.name name ∙ parts.0 in
    (list_any-append (is_named q.name) before ((name ∷ ws) ∷ []) ∙ or_from (list_any (is_named q.name) before) (is_word q.name name || false) h.0 (or_from (is_word q.name name) false other refl), still_fresh qs before name ws h.1 parts.1)

apart_first : (q : PlainParam) (qs : List PlainParam) → are_apart (q ∷ qs) ≡ true → list_any (λ r. is_word q.name r.name) qs ≡ false
apart_first q qs h =
    not-true (list_any (λ r. is_word q.name r.name) qs) (and_parts (not (list_any (λ r. is_word q.name r.name) qs)) (are_apart qs) h).0

of_param : (front : List PlainParam) (q : PlainParam) (qs : List PlainParam) (ws : List (List ℕ)) → are_values q ws ≡ true → is_of_param (front ++ q ∷ qs) q.name ws ≡ true
of_param front q qs ws h =
    list_any-append (λ p. is_word q.name p.name && are_values p ws) front (q ∷ qs) ∙ or_right (is_of_param front q.name ws) (is_of_param (q ∷ qs) q.name ws) (or_left (is_word q.name q.name && are_values q ws) (is_of_param qs q.name ws) (and_from (is_word q.name q.name) (are_values q ws) (is_word-itself q.name) h))

fine_from : (front qs : List PlainParam) (vss : List (List ℤ)) (before : List (List (List ℕ))) → are_apart qs ≡ true → AreFresh qs before → HaveValues qs vss → (i : ℕ) → i < length (written_rows qs vss) → is_fine (front ++ qs) (before ++ take i (written_rows qs vss)) (slice_index_or (written_rows qs vss) i []) ≡ true
fine_from front [] vss before a f h i l = absurd (omega arith)
fine_from front (q ∷ qs) [] before a f h i l = absurd h
fine_from front (q ∷ qs) (vs ∷ vss) before a f h zero l =
    let words = map signed_decimal vs in
    let fresh : list_any (is_named q.name) (before ++ []) ≡ false = ap (list_any (is_named q.name)) (append-nil before) ∙ f.0 in
    and_from (is_of_param (front ++ q ∷ qs) q.name words) (not (list_any (is_named q.name) (before ++ []))) (of_param front q qs words (are_its_values q vs h.0.0 h.0.1)) (not_from_false (list_any (is_named q.name) (before ++ [])) fresh)
fine_from front (q ∷ qs) (vs ∷ vss) before a f h (suc i) l =
    let row = q.name ∷ map signed_decimal vs in
    let rows = written_rows qs vss in
    let more = fine_from (front ++ q ∷ []) qs vss (before ++ row ∷ []) (fewer_apart q qs a) (still_fresh qs before q.name (map signed_decimal vs) f.1 (apart_first q qs a)) h.1 i (omega arith) in
    let params = append_assoc front (q ∷ []) qs in
    let lines_before = append_assoc before (row ∷ []) (take i rows) in
    ap (λ ps. is_fine ps (before ++ row ∷ take i rows) (slice_index_or rows i [])) (sym params)
    ∙ (ap (λ bs. is_fine ((front ++ q ∷ []) ++ qs) bs (slice_index_or rows i [])) (sym lines_before) ∙ more)

words_found : (n : List ℕ) (before : List (List (List ℕ))) (ws : List (List ℕ)) (more : List (List (List ℕ))) → list_any (is_named n) before ≡ false → words_of n (before ++ (n ∷ ws) ∷ more) ≡ Some ws
words_found n [] ws more h = ap (λ t. if t then Some ws else words_of n more) (is_word-itself n)
words_found n ([] ∷ before) ws more h = words_found n before ws more h
words_found n ((f ∷ us) ∷ before) ws more h =
    let parts = or_parts (is_word n f) (list_any (is_named n) before) h in
    ap (λ t. if t then Some us else words_of n (before ++ (n ∷ ws) ∷ more)) parts.0 ∙ words_found n before ws more parts.1

values_from : (all : List (List (List ℕ))) (qs : List PlainParam) (vss : List (List ℤ)) (before : List (List (List ℕ))) → all ≡ before ++ written_rows qs vss → are_apart qs ≡ true → AreFresh qs before → HaveValues qs vss → joined (map (values_at all) qs) ≡ Some (in_order vss)
values_from all [] [] before e a f h = refl
values_from all [] (vs ∷ vss) before e a f h = absurd h
values_from all (q ∷ qs) [] before e a f h = absurd h
values_from all (q ∷ qs) (vs ∷ vss) before e a f h =
    let row = q.name ∷ map signed_decimal vs in
    let rows = written_rows qs vss in
    let found : words_of q.name all ≡ Some (map signed_decimal vs) = ap (words_of q.name) e ∙ words_found q.name before (map signed_decimal vs) rows f.0 in
    let more = values_from all qs vss (before ++ row ∷ []) (e ∙ sym (append_assoc before (row ∷ []) rows)) (fewer_apart q qs a) (still_fresh qs before q.name (map signed_decimal vs) f.1 (apart_first q qs a)) h.1 in
    ap (λ (o : Option (List (List ℕ))). joined (option_map (λ ws. map decimal_value ws) o ∷ map (values_at all) qs)) found
    ∙ (ap (option_map (λ rest. map decimal_value (map signed_decimal vs) ++ rest)) more
    ∙ ap (λ (us : List ℤ). Some (us ++ in_order vss)) (all_back q.ty vs h.0.0 h.0.1.in_range))

-- the file that is written for values gives them
pub written_gives : (ps : List PlainParam) (vss : List (List ℤ)) → are_free_names (map (λ q. q.name) ps) ≡ true → HaveValues ps vss → length (params_text ps vss) ≤ most_params → GivesParams ps (params_text ps vss) (in_order vss)
written_gives ps vss names h short =
    let rows = rows_written ps vss (free_names ps names) h in
    let apart = names_apart ps [] (ap are_free_names (append-nil (map (λ q. q.name) ps)) ∙ names) in
    let fine : AreAllFine ps (written_rows ps vss) = record { each = fine_from [] ps vss [] apart (none_before ps) h } in
    let P : List (List (List ℕ)) → Type 0 = AreAllFine ps in
    record {
      short = short;
      fine = subst P (sym rows) fine;
      whole = ap (λ all. joined (map (values_at all) ps)) rows ∙ values_from (written_rows ps vss) ps vss [] refl apart (none_before ps) h;
    }
