-- A text is its first line and the others, and its first run and the others.
use Rattle.std.proofs.Common.{◌≡◌, ℕ, ◌<◌, ◌≤◌, Bool, true, false, List, [], ◌∷◌, length, drop, refl, sym, ◌∙◌, ap, arith, if◌then◌else◌, ◌==◌}
use Rattle.std.specs.List.{filter}
use Rattle.array_bytes.specs.Runs.{fields, is_run, is_space, put_first, runs}
use Rattle.param_lines.specs.Lines.{lines}
use Rattle.param_lines.specs.pieces.Fronts.{line_front, line_rest, run_front, run_rest, space_rest}

lines_split : (bs : List ℕ) → 0 < length bs → lines bs ≡ line_front bs ∷ lines (drop 1 (line_rest bs))
lines_split [] h = absurd (omega arith)
lines_split (b ∷ []) h = by (b == 10)
  where
    by : (t : Bool) → (if t then [] ∷ [] else (b ∷ []) ∷ []) ≡ (if t then [] else b ∷ []) ∷ lines (drop 1 (if t then b ∷ [] else []))
    by true = refl
    by false = refl
lines_split (b ∷ c ∷ cs) h = by (lines_split (c ∷ cs) (omega arith)) (b == 10)
  where
    by : lines (c ∷ cs) ≡ line_front (c ∷ cs) ∷ lines (drop 1 (line_rest (c ∷ cs))) → (t : Bool) → (if t then [] ∷ lines (c ∷ cs) else put_first b (lines (c ∷ cs))) ≡ (if t then [] else b ∷ line_front (c ∷ cs)) ∷ lines (drop 1 (if t then b ∷ c ∷ cs else line_rest (c ∷ cs)))
    by e true = refl
    by e false = ap (put_first b) e

-- the first line, and the others
pub line_cut : (bs front rest : List ℕ) → 0 < length bs → front ≡ line_front bs → rest ≡ drop 1 (line_rest bs) → lines bs ≡ front ∷ lines rest
line_cut bs front rest h f r =
    lines_split bs h ∙ (λ i. sym f i ∷ lines (sym r i))

-- the fields of a text are the front before its white space, and those of what follows
fields_split : (bs : List ℕ) → fields bs ≡ run_front bs ∷ drop 1 (fields (run_rest bs))
fields_split [] = refl
fields_split (b ∷ bs) = by (fields_split bs) (is_space b) refl
  where
    by : fields bs ≡ run_front bs ∷ drop 1 (fields (run_rest bs)) → (t : Bool) → is_space b ≡ t → (if t then [] ∷ fields bs else put_first b (fields bs)) ≡ (if t then [] else b ∷ run_front bs) ∷ drop 1 (fields (if t then b ∷ bs else run_rest bs))
    by e true q = ap (λ u. [] ∷ drop 1 (if u then [] ∷ fields bs else put_first b (fields bs))) (sym q)
    by e false q = ap (put_first b) e

rest_begins : (bs : List ℕ) → fields (run_rest bs) ≡ [] ∷ drop 1 (fields (run_rest bs))
rest_begins [] = refl
rest_begins (b ∷ bs) = by (rest_begins bs) (is_space b) refl
  where
    by : fields (run_rest bs) ≡ [] ∷ drop 1 (fields (run_rest bs)) → (t : Bool) → is_space b ≡ t → fields (if t then b ∷ bs else run_rest bs) ≡ [] ∷ drop 1 (fields (if t then b ∷ bs else run_rest bs))
    by e true q =
        ap (λ u. if u then [] ∷ fields bs else put_first b (fields bs)) q ∙ ap (λ u. [] ∷ drop 1 (if u then [] ∷ fields bs else put_first b (fields bs))) (sym q)
    by e false q = e

runs_space : (bs : List ℕ) → runs bs ≡ runs (space_rest bs)
unfolding runs
runs_space [] = refl
runs_space (b ∷ bs) = by (runs_space bs) (is_space b) refl
  where
    by : filter is_run (fields bs) ≡ filter is_run (fields (space_rest bs)) → (t : Bool) → is_space b ≡ t → filter is_run (fields (b ∷ bs)) ≡ filter is_run (fields (if t then space_rest bs else b ∷ bs))
    by e true q = ap (λ u. filter is_run (if u then [] ∷ fields bs else put_first b (fields bs))) q ∙ e
    by e false q = refl

runs_front : (c : ℕ) (cs : List ℕ) → is_space c ≡ false → runs (c ∷ cs) ≡ run_front (c ∷ cs) ∷ runs (run_rest (c ∷ cs))
unfolding runs
runs_front c cs q =
    ap (λ (fs : List (List ℕ)). filter is_run fs) (fields_split (c ∷ cs))
    ∙ ap (λ t. filter is_run ((if t then [] else c ∷ run_front cs) ∷ drop 1 (fields (run_rest (c ∷ cs))))) q
    ∙ ap (λ (fs : List (List ℕ)). (c ∷ run_front cs) ∷ filter is_run fs) (sym (rest_begins (c ∷ cs)))
    ∙ ap (λ t. (if t then [] else c ∷ run_front cs) ∷ filter is_run (fields (run_rest (c ∷ cs)))) (sym q)

-- what follows white space begins with none
no_space : (bs : List ℕ) (c : ℕ) (cs : List ℕ) → space_rest bs ≡ c ∷ cs → is_space c ≡ false
no_space [] c cs e = cc
no_space (b ∷ bs) c cs e = by (no_space bs c cs) (is_space b) refl e
  where
    by : (space_rest bs ≡ c ∷ cs → is_space c ≡ false) → (t : Bool) → is_space b ≡ t → (if t then space_rest bs else b ∷ bs) ≡ c ∷ cs → is_space c ≡ false
    by more true q f = more f
    by more false q f = let same : b ≡ c = cc in ap is_space (sym same) ∙ q

space_rest_short : (bs : List ℕ) → length (space_rest bs) ≤ length bs
space_rest_short [] = omega arith
space_rest_short (b ∷ bs) = by (space_rest_short bs) (is_space b)
  where
    by : length (space_rest bs) ≤ length bs → (t : Bool) → length (if t then space_rest bs else b ∷ bs) ≤ length (b ∷ bs)
    by h true = omega arith
    by h false = omega arith

run_rest_short : (bs : List ℕ) → length (run_rest bs) ≤ length bs
run_rest_short [] = omega arith
run_rest_short (b ∷ bs) = by (run_rest_short bs) (is_space b)
  where
    by : length (run_rest bs) ≤ length bs → (t : Bool) → length (if t then b ∷ bs else run_rest bs) ≤ length (b ∷ bs)
    by h true = omega arith
    by h false = omega arith

-- what is known of the first run of a text and of what follows it
pub record IsNextRun (text word after : List ℕ) : Type 0 where
  pub same : runs text ≡ word ∷ runs after
  pub shorter : length after < length text

next_of : (text rest : List ℕ) → rest ≡ space_rest text → 0 < length rest → IsNextRun text (run_front rest) (run_rest rest)
next_of text [] e h = absurd (omega arith)
next_of text (c ∷ cs) e h =
    let none = no_space text c cs (sym e) in
    record {
      same = runs_space text ∙ (ap runs (sym e) ∙ runs_front c cs none);
      shorter = let fewer : length (run_rest (c ∷ cs)) ≤ length cs = rw none (run_rest_short cs) in omega (arith, space_rest_short text, ap length e);
    }

-- the first run, and what follows it
pub next_is : (text rest word after : List ℕ) → rest ≡ space_rest text → 0 < length rest → word ≡ run_front rest → after ≡ run_rest rest → IsNextRun text word after
next_is text rest word after e h w a = rw (w, a) (next_of text rest e h)

-- white space has no runs
pub no_runs : (text rest : List ℕ) → rest ≡ space_rest text → length rest ≡ 0 → runs text ≡ []
unfolding runs
no_runs text [] e h = runs_space text ∙ ap runs (sym e)
no_runs text (c ∷ cs) e h = absurd (omega arith)
