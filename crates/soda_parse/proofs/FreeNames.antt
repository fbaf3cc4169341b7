-- The names of an accepted text are free and pairwise different.
use Rattle.std.proofs.Common.{◌≡◌, ℕ, ◌||◌, Bool, true, false, List, [], ◌∷◌, ◌++◌, map, Some, None, refl, sym, ap, ◌∙◌, cond, append_assoc}
use Rattle.std.specs.List.{list_all, list_any}
use Rattle.soda_checks.specs.Conditions.{taken_behind}
use Rattle.soda_checks.specs.Outline.{is_one_of, is_same, outline_in, outline_of}
use Rattle.soda_checks.specs.declared.outline.Outline.{Outline}
use Rattle.soda_checks.specs.declared.outline.Defined.{Defined}
use Rattle.soda_ir.specs.Valid.{are_free_names}
use Rattle.soda_parse.proofs.SameTypes.{both_of}
use Rattle.soda_formula.specs.Statements.{PlainStatement, kernel, burst_width, unroll_factor, iterate, border, cluster, param, input, local, output}
use Rattle.soda_formula.specs.declared.statement.InputLine.{InputLine}
use Rattle.soda_formula.specs.declared.statement.ParamLine.{ParamLine}
use Rattle.soda_words.specs.Names.{is_free_name, is_name, is_reserved, is_word}
use Rattle.soda_words.specs.declared.token.Word.{Word}
use Rattle.soda_parse.proofs.Truths.{neither_of}
use Rattle.soda_words.proofs.CallerLemmas.{is_word-turned}

-- the names of an outline, params before inputs before locals and outputs
abbrev names_of : Outline → List (List ℕ)
names_of o =
    map (λ (w : Word). w.text) (map (λ (q : ParamLine). q.name) o.params) ++ (map (λ (i : InputLine). i.name.text) o.inputs ++ map
    (λ (d : Defined). d.name.text) o.defined)

-- each is free, and like none behind it
abbrev Fresh : List (List ℕ) → Type 0
Fresh [] = Unit {0}
Fresh (w ∷ ws) = (is_free_name w ≡ true) × (list_any (is_word w) ws ≡ false) × Fresh ws

of_fresh : (ws : List (List ℕ)) → Fresh ws → are_free_names ws ≡ true
of_fresh [] f = refl
of_fresh (w ∷ ws) f = rw (f.0, f.1) (of_fresh ws f.2)

-- no name of the first is like one of the second
abbrev Apart : List Word → List (List ℕ) → Type 0
Apart [] ws = Unit {0}
Apart (e ∷ es) ws = (list_any (is_word e.text) ws ≡ false) × Apart es ws

apart_last : (es : List Word) (w : Word) (ws : List (List ℕ)) → Apart (es ++ w ∷ []) ws → Apart es ws × (list_any (is_word w.text) ws ≡ false)
apart_last [] w ws a = (tt, a.0)
apart_last (e ∷ es) w ws a = let more = apart_last es w ws a.1 in ((a.0, more.0), more.1)

apart_none : (es : List Word) → Apart es []
apart_none [] = tt
apart_none (e ∷ es) = (refl, apart_none es)

apart_more : (es : List Word) (w : Word) (ws : List (List ℕ)) → Apart es ws → is_one_of es w ≡ false → Apart es (w.text ∷ ws)
apart_more [] w ws a e = tt
apart_more (x ∷ es) w ws a e =
    let both = neither_of (is_same w x) (is_one_of es w) e in
    let here : is_word x.text w.text ≡ false = is_word-turned x.text w.text ∙ both.0 in
    (rw here a.0, apart_more es w ws a.1 both.1)

abbrev texts : List Word → List (List ℕ)
texts ws = map (λ (w : Word). w.text) ws

taken_step : (earlier : List Word) (w : Word) (ws : List Word) (t : Bool) → (is_reserved w.text || is_one_of earlier w) ≡ t →
    cond t (Some w.line) (taken_behind (earlier ++ w ∷ []) ws) ≡ None → (t ≡ false) × (taken_behind (earlier ++ w ∷ []) ws ≡ None)
taken_step earlier w ws true e f = cc
taken_step earlier w ws false e f = (refl, f)

all_fresh : (earlier ws : List Word) → taken_behind earlier ws ≡ None → list_all (λ w. is_name w.text) ws ≡ true → Fresh (texts ws) × Apart earlier (texts ws)
all_fresh earlier [] e n = (tt, apart_none earlier)
all_fresh earlier (w ∷ ws) e n =
    let step = taken_step earlier w ws (is_reserved w.text || is_one_of earlier w) refl e in
    let free = neither_of (is_reserved w.text) (is_one_of earlier w) step.0 in
    let named = both_of (is_name w.text) (list_all (λ w. is_name w.text) ws) n in
    let more = all_fresh (earlier ++ w ∷ []) ws step.1 named.1 in
    let last = apart_last earlier w (texts ws) more.1 in
    let good : is_free_name w.text ≡ true = rw (named.0, free.0) refl in
    ((good, last.1, more.0), apart_more earlier w (texts ws) last.0 free.1)

or_swap : (a b c : Bool) → (a || (b || c)) ≡ (b || (a || c))
or_swap true true c = refl
or_swap true false c = refl
or_swap false b c = refl

any_insert : (f : List ℕ → Bool) (xs : List (List ℕ)) (n : List ℕ) (ys : List (List ℕ)) → list_any f (xs ++ n ∷ ys) ≡ (f n || list_any f (xs ++ ys))
any_insert f [] n ys = refl
any_insert f (x ∷ xs) n ys = ap (λ (b : Bool). f x || b) (any_insert f xs n ys) ∙ or_swap (f x) (f n) (list_any f (xs ++ ys))

insert : (xs : List (List ℕ)) (n : List ℕ) (ys : List (List ℕ)) → Fresh (xs ++ ys) → is_free_name n ≡ true → list_any (is_word n) (xs ++ ys) ≡ false →
    Fresh (xs ++ n ∷ ys)
insert [] n ys f g e = (g, e, f)
insert (x ∷ xs) n ys f g e =
    let both = neither_of (is_word n x) (list_any (is_word n) (xs ++ ys)) e in
    let here : is_word x n ≡ false = is_word-turned x n ∙ both.0 in
    let none : list_any (is_word x) (xs ++ n ∷ ys) ≡ false = any_insert (is_word x) xs n ys ∙ rw (here, f.1) refl in
    (f.0, none, insert xs n ys f.2 g both.1)

-- the names in their order have what the declared ones have
record Reordered (ws vs : List (List ℕ)) : Type 0 where
  pub alike : (f : List ℕ → Bool) → list_any f vs ≡ list_any f ws
  pub fresh : Fresh ws → Fresh vs

-- a name more
one_more : (n : List ℕ) (ws xs ys : List (List ℕ)) → Reordered ws (xs ++ ys) → Reordered (n ∷ ws) (xs ++ n ∷ ys)
one_more n ws xs ys r = record {
  alike = λ f. any_insert f xs n ys ∙ ap (λ (b : Bool). f n || b) (r.alike f);
  fresh = λ f. insert xs n ys (r.fresh f.2) f.0 (r.alike (is_word n) ∙ f.1);
}

two_before : (n : List ℕ) (ws xs ys zs : List (List ℕ)) → Reordered ws (xs ++ (ys ++ zs)) → Reordered (n ∷ ws) (xs ++ (ys ++ n ∷ zs))
two_before n ws xs ys zs r =
    let from : xs ++ (ys ++ zs) ≡ (xs ++ ys) ++ zs = sym (append_assoc xs ys zs) in
    let to : (xs ++ ys) ++ n ∷ zs ≡ xs ++ (ys ++ n ∷ zs) = append_assoc xs ys (n ∷ zs) in
    rw to at (one_more n ws (xs ++ ys) zs (rw from at r))

reordered : (ss : List PlainStatement) → Reordered (texts (outline_of ss).declared) (names_of (outline_of ss))
unfolding outline_of outline_in
reordered [] = record { alike = λ f. refl; fresh = λ f. tt }
reordered (kernel l w ∷ ss) = reordered ss
reordered (burst_width l n ∷ ss) = reordered ss
reordered (unroll_factor l n ∷ ss) = reordered ss
reordered (iterate l n ∷ ss) = reordered ss
reordered (border l p ∷ ss) = reordered ss
reordered (cluster l ∷ ss) = reordered ss
reordered (param q ∷ ss) =
    one_more q.name.text (texts (outline_of ss).declared) [] (names_of (outline_of ss)) (reordered ss)
reordered (input i ∷ ss) =
    one_more i.name.text (texts (outline_of ss).declared) (texts (map (λ (q : ParamLine). q.name) (outline_of ss).params))
    (map (λ (j : InputLine). j.name.text) (outline_of ss).inputs ++ map (λ (d : Defined). d.name.text) (outline_of ss).defined) (reordered ss)
reordered (local g ∷ ss) =
    two_before g.name.text (texts (outline_of ss).declared) (texts (map (λ (q : ParamLine). q.name) (outline_of ss).params))
    (map (λ (j : InputLine). j.name.text) (outline_of ss).inputs) (map (λ (d : Defined). d.name.text) (outline_of ss).defined) (reordered ss)
reordered (output g ∷ ss) =
    two_before g.name.text (texts (outline_of ss).declared) (texts (map (λ (q : ParamLine). q.name) (outline_of ss).params))
    (map (λ (j : InputLine). j.name.text) (outline_of ss).inputs) (map (λ (d : Defined). d.name.text) (outline_of ss).defined) (reordered ss)

-- names of which none is taken before are pairwise different, and free
pub free_names : (o : Outline) (ss : List PlainStatement) → taken_behind [] (outline_of ss).declared ≡ None →
    list_all (λ w. is_name w.text) (outline_of ss).declared ≡ true →
    are_free_names (map (λ w. w.text) (map (λ q. q.name) (outline_of ss).params) ++
    (map (λ i. i.name.text) (outline_of ss).inputs ++ map (λ d. d.name.text) (outline_of ss).defined)) ≡ true
free_names o ss none named =
    of_fresh (names_of (outline_of ss)) ((reordered ss).fresh (all_fresh [] (outline_of ss).declared none named).0)
