-- What crates above cite: words as equal lists, where a word first stands in a list, numbers as they are written, and equal types.
use Rattle.std.proofs.Common.{◌≡◌, ℕ, zero, suc, ◌+◌, ◌<◌, ◌≤◌, ◌^◌, Bool, true, false, not, cond, ◌&&◌, ◌||◌, ◌==◌, List, [], ◌∷◌, ◌++◌, map, length, get_or, Option, None, Some, is_some, if◌then◌else◌, refl, sym, ap, ◌∙◌, true≢false, arith, ltb, lt-ltb, rules}
use Rattle.std.proofs.Math.Dec.{eqb-suc-zero}
use Rattle.std.specs.Prelude.{position, find, slice_get, bytes_eq, unwrap_or, nat_lt}
use Rattle.std.specs.Bool.{beq}
use Rattle.std.specs.Cmp.{booleans_Decides}
use Rattle.std.specs.List.{list_all, list_any, position_from, position_or_len}
use Rattle.std.specs.Fmt.{decimal}
use Rattle.std.proofs.lemmas.Bool.{and_from, and_parts, eqb-true, eq-eqb, or_right}
use Rattle.std.proofs.lemmas.Fmt.{decimal-digits_value, decimal_digit, decimal_nonempty, digits_decimal, digits_value-decimal, first_decimal, length-decimal-le}
use Rattle.std.proofs.lemmas.Str.Parse.{IsNumeralModel, numerals_by_fold}
use borrow.Author.Tests.{ltb-true}
use Rattle.std.proofs.lemmas.Iterator.Adapters.{position_from-zero}
use Rattle.std.proofs.lemmas.List.Folds.{find_at}
use Rattle.std.proofs.lemmas.Slice.Eq.{bytes_eq-Decides}
use Rattle.soda_words.specs.IntType.{IntType, is_same_type}
use Rattle.soda_words.specs.Names.{begins_name, behind, is_digit, is_some_digits, is_word, is_word_byte}
use Rattle.soda_words.specs.Tokens.{begins_with_zero, is_number, or_else, value_behind}

-- a word is one exactly where the bytes are equal
pub is_word-bytes_eq : (w n : List ℕ) → is_word w n ≡ bytes_eq w n
is_word-bytes_eq [] [] = refl
is_word-bytes_eq [] (b ∷ bs) = eqb-suc-zero (length bs)
is_word-bytes_eq (p ∷ ps) [] = refl
is_word-bytes_eq (p ∷ ps) (b ∷ bs) = by (is_word-bytes_eq ps bs) (p == b)
  where
    by : is_word ps bs ≡ bytes_eq ps bs → (c : Bool) → elim (if c then behind ps bs else None) [ None ↦ false | Some rest ↦ length rest == 0 ] ≡ (c && bytes_eq ps bs)
    by rest true = rest
    by rest false = refl

-- a word that the bytes are is equal to them
pub is_word-same : (w n : List ℕ) → is_word w n ≡ true → w ≡ n
is_word-same w n h = (bytes_eq-Decides w n).0 (sym (is_word-bytes_eq w n) ∙ h)

-- each word is itself
pub is_word-itself : (w : List ℕ) → is_word w w ≡ true
is_word-itself [] = refl
is_word-itself (b ∷ bs) =
    ap (λ c. elim (if c then behind bs bs else None) as (λ (r : Option (List ℕ)). Bool) [ None ↦ false | Some rest ↦ length rest == 0 ]) (eq-eqb b b refl) ∙ is_word-itself bs

-- two tests that imply each other are one
pub same_tests : (a b : Bool) → (a ≡ true → b ≡ true) → (b ≡ true → a ≡ true) → a ≡ b
same_tests true b h k = sym (h refl)
same_tests false true h k = k refl
same_tests false false h k = refl

-- a word is another only where that is this one
turned : (v w : List ℕ) → is_word v w ≡ true → is_word w v ≡ true
turned v w e =
    let i : v ≡ w = is_word-same v w e in
    ap (λ u. is_word w u) i ∙ ap (λ u. is_word u w) (sym i) ∙ e

-- the order of two words makes no difference
pub is_word-turned : (v w : List ℕ) → is_word v w ≡ is_word w v
is_word-turned v w = same_tests (is_word v w) (is_word w v) (turned v w) (turned w v)

module _ {X : Type 0} (p : X → Bool) where
  -- the places among all, from 0
  pub position-from : (xs : List X) → position p xs ≡ position_from p 0 xs
  position-from xs = position_from-zero p xs

  position_from-push : (i : ℕ) (xs : List X) (y : X) → position_from p i (xs ++ y ∷ []) ≡ or_else (position_from p i xs) (if p y then Some (i + length xs) else None)
  position_from-push i [] y = ap (λ n. if p y then Some n else None) (omega arith)
  position_from-push i (x ∷ xs) y = by (position_from-push (i + 1) xs y) (p x)
    where
      by : position_from p (i + 1) (xs ++ y ∷ []) ≡ or_else (position_from p (i + 1) xs) (if p y then Some (i + 1 + length xs) else None) → (c : Bool) → cond c (Some i) (position_from p (i + 1) (xs ++ y ∷ [])) ≡ or_else (cond c (Some i) (position_from p (i + 1) xs)) (if p y then Some (i + suc (length xs)) else None)
      by rest true = refl
      by rest false = rest ∙ ap (λ n. or_else (position_from p (i + 1) xs) (if p y then Some n else None)) (omega arith)

  -- one more stands behind the others
  pub position-push : (xs : List X) (y : X) → position p (xs ++ y ∷ []) ≡ or_else (position p xs) (if p y then Some (length xs) else None)
  position-push xs y =
      let zero_more : 0 + length xs ≡ length xs = omega arith in
      position-from (xs ++ y ∷ []) ∙ (position_from-push 0 xs y ∙ (λ i. or_else (sym (position-from xs) i) (if p y then Some (zero_more i) else None)))

  is_some-position_from : (i : ℕ) (xs : List X) → is_some (position_from p i xs) ≡ list_any p xs
  is_some-position_from i [] = refl
  is_some-position_from i (x ∷ xs) = by (is_some-position_from (i + 1) xs) (p x)
    where
      by : is_some (position_from p (i + 1) xs) ≡ list_any p xs → (c : Bool) → is_some (cond c (Some i) (position_from p (i + 1) xs)) ≡ (c || list_any p xs)
      by rest true = refl
      by rest false = rest

  -- there is a place exactly where one passes
  pub is_some-position : (xs : List X) → is_some (position p xs) ≡ list_any p xs
  is_some-position xs = ap is_some (position-from xs) ∙ is_some-position_from 0 xs

-- nothing is there
pub absent : {A : Type 0} {o : Option A} → is_some o ≡ false → o ≡ None
absent {o = None} h = refl
absent {o = Some a} h = absurd (true≢false h)

module _ {X Y : Type 0} (f : X → Y) (p : Y → Bool) where
  position_from-map : (i : ℕ) (xs : List X) → position_from p i (map f xs) ≡ position_from (λ x. p (f x)) i xs
  position_from-map i [] = refl
  position_from-map i (x ∷ xs) = ap (cond (p (f x)) (Some i)) (position_from-map (i + 1) xs)

  -- a place among images
  pub position-map : (xs : List X) → position p (map f xs) ≡ position (λ x. p (f x)) xs
  position-map xs =
      position-from p (map f xs) ∙ (position_from-map 0 xs ∙ sym (position-from (λ x. p (f x)) xs))

module _ {X : Type 0} (p : X → Bool) where
  -- what stands at the first place
  pub find-place : (xs : List X) (k : ℕ) → position p xs ≡ Some k → find p xs ≡ slice_get xs k
  find-place xs k h = find_at p xs ∙ ap (slice_get xs) (by (ltb (position_or_len p xs) (length xs)) h)
    where
      by : (c : Bool) → cond c (Some (position_or_len p xs)) None ≡ Some k → position_or_len p xs ≡ k
      by true e = ap (λ o. unwrap_or o k) e
      by false e = absurd (true≢false (sym (ap is_some e)))

  is_some-find : (xs : List X) → is_some (find p xs) ≡ list_any p xs
  is_some-find [] = refl
  is_some-find (x ∷ xs) = by (is_some-find xs) (p x)
    where
      by : is_some (find p xs) ≡ list_any p xs → (c : Bool) → is_some (cond c (Some x) (find p xs)) ≡ (c || list_any p xs)
      by rest true = refl
      by rest false = rest

  -- nothing is found where there is no place
  pub find-no_place : (xs : List X) → position p xs ≡ None → find p xs ≡ None
  find-no_place xs h = absent (is_some-find xs ∙ (sym (is_some-position p xs) ∙ ap is_some h))

-- digits write numbers as std says it of numerals
pub own : IsNumeralModel (λ ds. list_all is_digit ds ≡ true) (value_behind 0)
own = numerals_by_fold _ (search rules) value_behind (search rules)

-- digits are bytes of a word
pub digits_words : (ds : List ℕ) → list_all is_digit ds ≡ true → list_all is_word_byte ds ≡ true
digits_words [] h = refl
digits_words (d ∷ ds) h =
    let parts = and_parts (is_digit d) (list_all is_digit ds) h in
    and_from (is_word_byte d) (list_all is_word_byte ds) (or_right (begins_name d) (is_digit d) parts.0) (digits_words ds parts.1)

-- digits, and not none
pub some_digits : (ds : List ℕ) → list_all is_digit ds ≡ true → 0 < length ds → is_some_digits ds ≡ true
some_digits [] h lt = absurd (omega arith)
some_digits (d ∷ ds) h lt = h

-- some digits are digits, and not none
pub some_are_digits : (ds : List ℕ) → is_some_digits ds ≡ true → (list_all is_digit ds ≡ true) × (0 < length ds)
some_are_digits [] h = cc
some_are_digits (d ∷ ds) h = (h, omega arith)

-- a number that begins with 0 is 0
zero_first : (ds : List ℕ) → (not (begins_with_zero ds) || length ds == 1) ≡ true → get_or ds 0 0 ≡ 48 → length ds ≡ 1
zero_first [] h e = absurd (omega arith)
zero_first (d ∷ ds) h e =
    let z : (d == 48) ≡ true = eq-eqb d 48 e in
    let k : (length (d ∷ ds) == 1) ≡ true = ap (λ t. not t || length (d ∷ ds) == 1) (sym z) ∙ h in
    eqb-true (length (d ∷ ds)) 1 k

-- digits that do not begin with 0 may be many
no_zero_first : (ds : List ℕ) → 48 < get_or ds 0 0 → (not (begins_with_zero ds) || length ds == 1) ≡ true
no_zero_first [] h = absurd (omega arith)
no_zero_first (d ∷ ds) h =
    elim (d == 48) as (λ t. (d == 48) ≡ t → (not t || length (d ∷ ds) == 1) ≡ true) [
      | true ↦ λ q. absurd (omega (arith, eqb-true d 48 q))
      | false ↦ λ q. refl
    ] refl

-- a decimal begins with 0 only where it is 0
one_zero : (n : ℕ) → n < 2 ^ 64 → (not (begins_with_zero (decimal n)) || length (decimal n) == 1) ≡ true
one_zero zero h = ap (λ (ds : List ℕ). not (begins_with_zero ds) || length ds == 1) (decimal_digit 0 (omega arith))
one_zero (suc n) h = no_zero_first (decimal (suc n)) (first_decimal (suc n) (omega arith) h)

-- a decimal below 2 ^ 64 is a number
pub number_is : (n : ℕ) → n < 2 ^ 64 → is_number (decimal n) ≡ true
number_is n h =
    and_from (is_some_digits (decimal n) && (not (begins_with_zero (decimal n)) || length (decimal n) == 1)) (nat_lt (value_behind 0 (decimal n)) (2 ^ 64))
    (and_from (is_some_digits (decimal n)) (not (begins_with_zero (decimal n)) || length (decimal n) == 1) (some_digits (decimal n) (digits_decimal own n h) (decimal_nonempty n h)) (one_zero n h))
    (lt-ltb (value_behind 0 (decimal n)) (2 ^ 64) (omega (arith, digits_value-decimal own n h)))

-- a number is written as its decimal
pub number_written : (ds : List ℕ) → is_number ds ≡ true → (ds ≡ decimal (value_behind 0 ds)) × (value_behind 0 ds < 2 ^ 64)
number_written ds h =
    let one = not (begins_with_zero ds) || length ds == 1 in
    let outer = and_parts (is_some_digits ds && one) (nat_lt (value_behind 0 ds) (2 ^ 64)) h in
    let inner = and_parts (is_some_digits ds) one outer.0 in
    let small : value_behind 0 ds < 2 ^ 64 = ltb-true (value_behind 0 ds) (2 ^ 64) outer.1 in
    let d = some_are_digits ds inner.0 in
    (sym (decimal-digits_value own ds d.0 d.1 (zero_first ds inner.1) small), small)

-- a number of 64 bits has at most 20 digits
pub number_short : (n : ℕ) → n < 2 ^ 64 → length (decimal n) ≤ 20
number_short n h = length-decimal-le 20 n (omega arith) (omega arith) h

-- the test for equal types is passed by one type alone
pub equal_types : (t u : IntType) → is_same_type t u ≡ true → t ≡ u
equal_types t u e =
    let parts = and_parts (beq t.signed u.signed) (t.bits == u.bits) e in
    let sign : t.signed ≡ u.signed = (booleans_Decides t.signed u.signed).0 parts.0 in
    let width : t.bits ≡ u.bits = eqb-true _ _ parts.1 in
    λ i. record { signed = sign i; bits = width i }

-- and by each type itself
pub type_itself : (t : IntType) → is_same_type t t ≡ true
type_itself t = and_from _ _ ((booleans_Decides t.signed t.signed).1 refl) (eq-eqb t.bits t.bits refl)
