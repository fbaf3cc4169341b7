-- Where names stand in lists of different names.
use Rattle.std.proofs.Common.{◌≡◌, ℕ, zero, suc, ◌+◌, ◌&&◌, ◌||◌, Bool, true, false, not, List, [], ◌∷◌, ◌++◌, length, map, Some, None, Option, refl, sym, ap, ◌∙◌, arith, cond}
use Rattle.std.specs.Prelude.{nat_lt, option_map, position, slice_get}
use Rattle.std.specs.List.{list_any, position_or_len}
use Rattle.std.proofs.lemmas.Bool.{not-true}
use Rattle.std.proofs.lemmas.Bool.Decides.{nat_tests}
use Rattle.soda_words.specs.Names.{is_free_name, is_word}
use Rattle.soda_words.specs.Tokens.{or_else}
use Rattle.soda_ir.specs.Valid.{are_free_names}
use Rattle.soda_parse.proofs.SameTypes.{both_of}
use Rattle.std.proofs.lemmas.Option.{same_Some}
use Rattle.soda_parse.proofs.Truths.{or_second, neither_of}
use Rattle.soda_words.proofs.CallerLemmas.{is_word-turned, is_word-itself}

-- the first place
below_first : (n : ℕ) → cond {A = Option ℕ} (nat_lt 0 (suc n)) (Some 0) None ≡ Some 0
below_first n = grind (arith, nat_tests)

-- an item that passes stands first
pub place_first : {A : Type 0} (test : A → Bool) (x : A) (xs : List A) → test x ≡ true → position test (x ∷ xs) ≡ Some 0
place_first test x xs e = rw e (below_first (length xs))

below_more : (i n : ℕ) → cond (nat_lt (1 + i) (suc n)) (Some (1 + i)) None ≡ option_map suc (cond (nat_lt i n) (Some i) None)
below_more i n = grind (arith, nat_tests)

-- behind an item that does not pass, places are one further on
pub place_next : {A : Type 0} (test : A → Bool) (x : A) (xs : List A) → test x ≡ false → position test (x ∷ xs) ≡ option_map suc (position test xs)
place_next test x xs e = rw e (below_more (position_or_len test xs) (length xs))

place_by : {A B : Type 0} (test : B → Bool) (f : A → B) (x : A) (xs : List A) (t : Bool) → test (f x) ≡ t →
    position (λ y. test (f y)) xs ≡ position test (map f xs) → position (λ y. test (f y)) (x ∷ xs) ≡ position test (map f (x ∷ xs))
place_by test f x xs true e more = place_first (λ y. test (f y)) x xs e ∙ sym (place_first test (f x) (map f xs) e)
place_by test f x xs false e more =
    place_next (λ y. test (f y)) x xs e ∙ (ap (option_map suc) more ∙ sym (place_next test (f x) (map f xs) e))

-- a place by a test of images is a place among the images
pub place_mapped : {A B : Type 0} (test : B → Bool) (f : A → B) (xs : List A) → position (λ y. test (f y)) xs ≡ position test (map f xs)
place_mapped test f [] = refl
place_mapped test f (x ∷ xs) = place_by test f x xs (test (f x)) refl (place_mapped test f xs)

shift_0 : (r : Option ℕ) → option_map (λ k. 0 + k) r ≡ r
shift_0 None = refl
shift_0 (Some k) = ap (λ (n : ℕ). Some n) (omega arith)

shift_more : (n : ℕ) (a b : Option ℕ) → or_else (option_map suc a) (option_map (λ k. suc n + k) b) ≡ option_map suc (or_else a (option_map (λ k. n + k) b))
shift_more n (Some a) b = refl
shift_more n None None = refl
shift_more n None (Some k) = ap (λ (m : ℕ). Some m) (omega arith)

two_by : {A : Type 0} (test : A → Bool) (x : A) (xs ys : List A) (t : Bool) → test x ≡ t →
    or_else (position test xs) (option_map (λ k. length xs + k) (position test ys)) ≡ position test (xs ++ ys) →
    or_else (position test (x ∷ xs)) (option_map (λ k. suc (length xs) + k) (position test ys)) ≡ position test (x ∷ (xs ++ ys))
two_by test x xs ys true e more =
    ap (λ (r : Option ℕ). or_else r (option_map (λ k. suc (length xs) + k) (position test ys))) (place_first test x xs e) ∙
    sym (place_first test x (xs ++ ys) e)
two_by test x xs ys false e more =
    ap (λ (r : Option ℕ). or_else r (option_map (λ k. suc (length xs) + k) (position test ys))) (place_next test x xs e)
    ∙ (shift_more (length xs) (position test xs) (position test ys) ∙ (ap (option_map suc) more ∙ sym (place_next test x (xs ++ ys) e)))

-- a place in the first list, or else in the second behind it, is one in both joined
pub place_in_two : {A : Type 0} (test : A → Bool) (xs ys : List A) → or_else (position test xs) (option_map (λ k. length xs + k) (position test ys)) ≡
    position test (xs ++ ys)
place_in_two test [] ys = shift_0 (position test ys)
place_in_two test (x ∷ xs) ys = two_by test x xs ys (test x) refl (place_in_two test xs ys)

-- a test of images is a test of what they are images of
pub any_mapped : {A B : Type 0} (test : B → Bool) (f : A → B) (xs : List A) → list_any (λ y. test (f y)) xs ≡ list_any test (map f xs)
any_mapped test f [] = refl
any_mapped test f (x ∷ xs) = ap (λ (b : Bool). test (f x) || b) (any_mapped test f xs)

-- each name is free, and like none behind it
abbrev pub Fresh : List (List ℕ) → Type 0
Fresh [] = Unit {0}
Fresh (w ∷ ws) = (is_free_name w ≡ true) × (list_any (is_word w) ws ≡ false) × Fresh ws

-- free names are pairwise different
pub fresh : (ws : List (List ℕ)) → are_free_names ws ≡ true → Fresh ws
fresh [] h = tt
fresh (w ∷ ws) h =
    let a = both_of (is_free_name w && not (list_any (is_word w) ws)) (are_free_names ws) h in
    let b = both_of (is_free_name w) (not (list_any (is_word w) ws)) a.0 in
    (b.0, not-true (list_any (is_word w) ws) b.1, fresh ws a.1)

front_none : (v : List ℕ) (us ws : List (List ℕ)) → list_any (is_word v) (us ++ ws) ≡ false → list_any (is_word v) us ≡ false
front_none v [] ws e = refl
front_none v (u ∷ us) ws e =
    let both = neither_of (is_word v u) (list_any (is_word v) (us ++ ws)) e in
    rw both.0 (front_none v us ws both.1)

-- names of a prefix are pairwise different where all are
pub fresh_front : (vs ws : List (List ℕ)) → Fresh (vs ++ ws) → Fresh vs
fresh_front [] ws f = tt
fresh_front (v ∷ vs) ws f = (f.0, front_none v vs ws f.1, fresh_front vs ws f.2)

-- names behind a prefix are pairwise different where all are
pub fresh_back : (vs ws : List (List ℕ)) → Fresh (vs ++ ws) → Fresh ws
fresh_back [] ws f = f
fresh_back (v ∷ vs) ws f = fresh_back vs ws f.2

-- a test that fails for all fails for the one at a place
pub fails_there : (test : List ℕ → Bool) (ws : List (List ℕ)) (k : ℕ) (w : List ℕ) → list_any test ws ≡ false → slice_get ws k ≡ Some w → test w ≡ false
fails_there test [] k w e f = cc
fails_there test (v ∷ ws) zero w e f = ap test (sym (same_Some v w f)) ∙ (neither_of (test v) (list_any test ws) e).0
fails_there test (v ∷ ws) (suc k) w e f = fails_there test ws k w (neither_of (test v) (list_any test ws) e).1 f

-- a name stands where it stands
pub place_there : (ws : List (List ℕ)) (k : ℕ) (w : List ℕ) → Fresh ws → slice_get ws k ≡ Some w → position (is_word w) ws ≡ Some k
place_there [] k w f e = cc
place_there (v ∷ ws) zero w f e = place_first (is_word w) v ws (ap (is_word w) (same_Some v w e) ∙ is_word-itself w)
place_there (v ∷ ws) (suc k) w f e =
    let other : is_word w v ≡ false = is_word-turned w v ∙ fails_there (is_word v) ws k w f.1 e in
    place_next (is_word w) v ws other ∙ ap (option_map suc) (place_there ws k w f.2 e)

-- a name is one of those where it stands
pub one_there : (ws : List (List ℕ)) (k : ℕ) (w : List ℕ) → slice_get ws k ≡ Some w → list_any (is_word w) ws ≡ true
one_there [] k w e = cc
one_there (v ∷ ws) zero w e = rw (ap (is_word w) (same_Some v w e) ∙ is_word-itself w) refl
one_there (v ∷ ws) (suc k) w e = or_second (is_word w v) (list_any (is_word w) ws) (one_there ws k w e)

-- what stands at a place has its image at this place
pub there_mapped : {A B : Type 0} (f : A → B) (xs : List A) (k : ℕ) (x : A) → slice_get xs k ≡ Some x → slice_get (map f xs) k ≡ Some (f x)
there_mapped f [] k x e = cc
there_mapped f (y ∷ xs) zero x e = ap (λ z. Some (f z)) (same_Some y x e)
there_mapped f (y ∷ xs) (suc k) x e = there_mapped f xs k x e

-- what stands at a place stands there with more behind
pub there_front : {A : Type 0} (xs ys : List A) (k : ℕ) (x : A) → slice_get xs k ≡ Some x → slice_get (xs ++ ys) k ≡ Some x
there_front [] ys k x e = cc
there_front (y ∷ xs) ys zero x e = e
there_front (y ∷ xs) ys (suc k) x e = there_front xs ys k x e
