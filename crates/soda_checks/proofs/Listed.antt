-- Look-ups of names as walks along lists.
use Rattle.std.proofs.Common.{◌≡◌, ℕ, zero, suc, ◌+◌, Bool, true, false, cond, ◌||◌, List, [], ◌∷◌, map, take, Option, None, Some, is_some, refl, sym, ap, ◌∙◌, arith, ltb, lt-ltb, le-ltb, ltb-false, length, get_or, IfSome}
use Rattle.std.specs.Prelude.{position, find, slice_get, option_map}
use Rattle.std.specs.Borrow.{Bor}
use Rattle.std.specs.Option.{option_copied}
use Rattle.std.proofs.lemmas.Option.{slice_get_past, slice_get_read}
use Rattle.std.specs.List.{list_any, position_from}
use Rattle.std.proofs.lemmas.Bool.Decides.{Decides-ltb, Decides-like, same_from_decides}
use Rattle.soda_checks.specs.Outline.{is_one_of}
use Rattle.soda_words.proofs.CallerLemmas as words
use Rattle.soda_words.specs.Names.{is_word}
use Rattle.soda_words.specs.declared.token.Word.{Word}

-- a word that has a place is among the names
pub listed : (w : List ℕ) (names : List (List ℕ)) → is_some (position (is_word w) names) ≡ list_any (is_word w) names
listed w names = words.is_some-position (is_word w) names

-- a test of images
pub list_any_map : {X Y : Type 0} (f : X → Y) (p : Y → Bool) (xs : List X) → list_any p (map f xs) ≡ list_any (λ x. p (f x)) xs
list_any_map f p [] = refl
list_any_map f p (x ∷ xs) = ap (λ b. p (f x) || b) (list_any_map f p xs)

-- there is a place, and it is one of the first so many
abbrev pub is_place_below : Option ℕ → ℕ → Bool
is_place_below None n = false
is_place_below (Some k) n = ltb k n

below_zero : (o : Option ℕ) → false ≡ is_place_below o 0
below_zero None = refl
below_zero (Some k) = sym (le-ltb k 0 (omega arith))

below_suc : (o : Option ℕ) (n : ℕ) → is_place_below o n ≡ is_place_below (option_map (λ k. k + 1) o) (suc n)
below_suc None n = refl
below_suc (Some k) n =
    same_from_decides (ltb k n) (ltb (k + 1) (suc n)) (Decides-ltb k n)
    (Decides-like (ltb (k + 1) (suc n)) (λ h. omega (arith, h)) (λ h. omega (arith, h)) (Decides-ltb (k + 1) (suc n)))

module _ {X : Type 0} (p : X → Bool) where
  position_from-later : (i : ℕ) (xs : List X) → position_from p (i + 1) xs ≡ option_map (λ k. k + 1) (position_from p i xs)
  position_from-later i [] = refl
  position_from-later i (x ∷ xs) = by (position_from-later (i + 1) xs) (p x)
    where
      by : position_from p (i + 1 + 1) xs ≡ option_map (λ k. k + 1) (position_from p (i + 1) xs) → (c : Bool)
          → cond c (Some (i + 1)) (position_from p (i + 1 + 1) xs) ≡ option_map (λ k. k + 1) (cond c (Some i) (position_from p (i + 1) xs))
      by rest true = refl
      by rest false = rest

  before_from : (n : ℕ) (xs : List X) → list_any p (take n xs) ≡ is_place_below (position_from p 0 xs) n
  before_from zero [] = refl
  before_from zero (x ∷ xs) = below_zero (position_from p 0 (x ∷ xs))
  before_from (suc n) [] = refl
  before_from (suc n) (x ∷ xs) = by (before_from n xs) (p x)
    where
      by : list_any p (take n xs) ≡ is_place_below (position_from p 0 xs) n → (c : Bool)
          → (c || list_any p (take n xs)) ≡ is_place_below (cond c (Some 0) (position_from p (0 + 1) xs)) (suc n)
      by rest true = sym (lt-ltb 0 (suc n) (omega arith))
      by rest false = rest ∙ (below_suc (position_from p 0 xs) n ∙ ap (λ o. is_place_below o (suc n)) (sym (position_from-later 0 xs)))

-- one of the first so many is written so, exactly where the first place among all is below
pub before : (n : ℕ) (ws : List Word) (w : Word) → is_one_of (take n ws) w ≡ is_place_below (position (is_word w.text) (map (λ v. v.text) ws)) n
before n ws w =
    let test : Word → Bool = λ v. is_word w.text v.text in
    before_from test n ws ∙ ap (λ o. is_place_below o n)
    (sym (words.position-from test ws) ∙ sym (words.position-map (λ v. v.text) (is_word w.text) ws))

module _ (n : ℕ) (ws : List Word) (w : Word) (names : List (List ℕ)) (are : names ≡ map (λ v. v.text) ws) where
  -- the first place, compared
  pub before_at : (k : ℕ) → position (is_word w.text) names ≡ Some k → ltb k n ≡ is_one_of (take n ws) w
  before_at k at =
      sym (before n ws w ∙ ap (λ o. is_place_below o n) (ap (position (is_word w.text)) (sym are) ∙ at))

  -- no place is before any
  pub before_none : position (is_word w.text) names ≡ None → false ≡ is_one_of (take n ws) w
  before_none at =
      sym (before n ws w ∙ ap (λ o. is_place_below o n) (ap (position (is_word w.text)) (sym are) ∙ at))

module _ {X : Type 0} (name : X → List ℕ) (w : List ℕ) where
  -- what stands at the place of a name
  pub named : (xs : List X) (names : List (List ℕ)) (k : ℕ) → names ≡ map name xs → position (is_word w) names ≡ Some k
      → find (λ x. is_word w (name x)) xs ≡ slice_get xs k
  named xs names k are at =
      words.find-place (λ x. is_word w (name x)) xs k (sym (words.position-map name (is_word w) xs) ∙ (ap (position (is_word w)) (sym are) ∙ at))

  -- nothing has a name without a place
  pub unnamed : (xs : List X) (names : List (List ℕ)) → names ≡ map name xs → position (is_word w) names ≡ None
      → find (λ x. is_word w (name x)) xs ≡ None
  unnamed xs names are at =
      words.find-no_place (λ x. is_word w (name x)) xs (sym (words.position-map name (is_word w) xs) ∙ (ap (position (is_word w)) (sym are) ∙ at))

-- what `get` gives of a list
pub got : {X : Type 0} (xs : List X) (i : ℕ) (o : Option (Bor X)) → is_some o ≡ ltb i (length xs) → IfSome o (λ x. x.now ≡ get_or xs i x.now)
    → option_copied o ≡ slice_get xs i
got xs i None h g = sym (slice_get_past xs i (ltb-false i (length xs) (sym h)))
got xs i (Some b) h g = sym (slice_get_read xs (length xs) i b.now refl ((Decides-ltb i (length xs)).0 (sym h)) g)
