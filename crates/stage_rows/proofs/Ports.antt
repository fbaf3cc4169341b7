-- Values for the ports of a staged tensor.
use Rattle.std.proofs.Common.{◌≡◌, ℕ, zero, suc, ◌+◌, ◌<◌, ◌==◌, ◌++◌, ◌∷◌, [], List, true, false, map, take, get_or, length, Some, None, slice_get, slice_index_or, refl, sym, ◌∙◌, ap, subst, ℤ, if◌then◌else◌}
use Rattle.std.proofs.lemmas.List.{get_or-map, map-append, take_more}
use Rattle.std.proofs.lemmas.List.Elements.{filter-append}
use Rattle.delay_net.specs.declared.net.Read.{Read}
use Rattle.soda_words.specs.IntType.{IntType}
use Rattle.int_types.specs.Ranges.{InRange}
use Rattle.soda_eval.specs.Runs.{HasValues}
use Rattle.time_stages.proofs.CallerLemmas.{place_in}
use Rattle.staged_cells.specs.Cells.{reads_by}

-- what a list of another list's values has at a place
pub mapped_there : {A B : Type 0} (f : A → B) (xs : List A) (i : ℕ) (x : A) (d : B) → slice_get xs i ≡ Some x → slice_index_or (map f xs) i d ≡ f x
mapped_there f xs i x d e =
    let at = place_in xs i x e in
    get_or-map f xs i x d at.0 ∙ ap f at.1

pub mapped_past : {A B : Type 0} (f : A → B) (xs : List A) (i : ℕ) (d : B) → slice_get xs i ≡ None → slice_index_or (map f xs) i d ≡ d
mapped_past f [] i d e = refl
mapped_past f (x ∷ xs) zero d e = absurd (cc)
mapped_past f (x ∷ xs) (suc i) d e = mapped_past f xs i d e

-- one value more
value_more : (ts : List IntType) (vs : List ℤ) (t : IntType) (v : ℤ) → HasValues ts vs → InRange t v → HasValues (ts ++ t ∷ []) (vs ++ v ∷ [])
value_more [] [] t v h r = (r, tt)
value_more [] (w ∷ vs) t v h r = absurd h
value_more (u ∷ ts) [] t v h r = absurd h
value_more (u ∷ ts) (w ∷ vs) t v h r = (h.0, value_more ts vs t v h.1 r)

reads_more : (rs : List Read) (i n : ℕ) (r : Read) → i < length rs → r ≡ get_or rs i r
    → reads_by (take (i + 1) rs) n ≡ reads_by (take i rs) n ++ (if r.reader == n then r ∷ [] else [])
reads_more rs i n r lt is =
    ap (λ (qs : List Read). reads_by qs n) (take_more rs i r lt)
    ∙ filter-append (λ (q : Read). q.reader == n) (take i rs) (get_or rs i r ∷ [])
    ∙ ap (λ (q : Read). reads_by (take i rs) n ++ (if q.reader == n then q ∷ [] else [])) (sym is)

pub port_more : (f : Read → IntType) (rs : List Read) (i n : ℕ) (r : Read) (vs more : List ℤ) (v : ℤ) → i < length rs → r ≡ get_or rs i r
    → (r.reader == n) ≡ true → HasValues (map f (reads_by (take i rs) n)) vs → InRange (f r) v → more ≡ vs ++ v ∷ []
    → HasValues (map f (reads_by (take (i + 1) rs) n)) more
port_more f rs i n r vs more v lt is mine have range now =
    let by = reads_more rs i n r lt is ∙ ap (λ b. reads_by (take i rs) n ++ (if b then r ∷ [] else [])) mine in
    let types : map f (reads_by (take (i + 1) rs) n) ≡ map f (reads_by (take i rs) n) ++ f r ∷ [] = ap (map f) by ∙ map-append f (reads_by (take i rs) n) (r ∷ []) in
    subst (λ (ts : List IntType). HasValues ts more) (sym types)
    (subst (λ (ws : List ℤ). HasValues (map f (reads_by (take i rs) n) ++ f r ∷ []) ws) (sym now) (value_more (map f (reads_by (take i rs) n)) vs (f r) v have range))

nil_behind : {A : Type 0} (xs : List A) → xs ++ [] ≡ xs
nil_behind [] = refl
nil_behind (x ∷ xs) = ap (λ ys. x ∷ ys) (nil_behind xs)

pub port_same : (f : Read → IntType) (rs : List Read) (i n : ℕ) (r : Read) (vs : List ℤ) → i < length rs → r ≡ get_or rs i r
    → (r.reader == n) ≡ false → HasValues (map f (reads_by (take i rs) n)) vs → HasValues (map f (reads_by (take (i + 1) rs) n)) vs
port_same f rs i n r vs lt is other have =
    let by = reads_more rs i n r lt is ∙ ap (λ b. reads_by (take i rs) n ++ (if b then r ∷ [] else [])) other ∙ nil_behind (reads_by (take i rs) n) in
    subst (λ (qs : List Read). HasValues (map f qs) vs) (sym by) have

-- there is a value for each read
pub one_for_each : (f : Read → IntType) (rs : List Read) (vs : List ℤ) → HasValues (map f rs) vs → length vs ≡ length (map f rs)
one_for_each f [] [] h = refl
one_for_each f [] (v ∷ vs) h = absurd h
one_for_each f (r ∷ rs) [] h = absurd h
one_for_each f (r ∷ rs) (v ∷ vs) h = ap suc (one_for_each f rs vs h.1)
