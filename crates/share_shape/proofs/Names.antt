-- The name of a local is one that it may have, and no other thing has it.
use Rattle.std.proofs.Common.{◌≡◌, ℕ, zero, suc, ◌+◌, ◌%◌, ◌^◌, ◌<◌, ◌≤◌, Bool, true, false, not, ◌&&◌, ◌||◌, List, [], ◌∷◌, length, refl, sym, ◌∙◌, ap, arith, ⊎_elim, if◌then◌else◌}
use Rattle.std.specs.Fmt.{decimal}
use Rattle.std.specs.List.{insert, list_all, list_any}
use Rattle.std.proofs.lemmas.Bool.{and_from, and_parts, cases_lt, false_from_ne_true, false≢true, lt-ltb, not-true, or_parts}
use Rattle.std.proofs.lemmas.Fmt.{decimal_by_steps, decimal_injective}
use Rattle.std.proofs.lemmas.List.Folds.{list_all-append}
use Rattle.std.proofs.lemmas.Nat.{mod_below}
use Rattle.soda_words.specs.Names.{is_free_name, is_word, is_word_byte}
use Rattle.soda_words.proofs.CallerLemmas.{is_word-same, is_word-turned, number_short}
use Rattle.soda_ir.specs.Counts.{count_below}
use Rattle.soda_ir.specs.Valid.{are_free_names}
use Rattle.share_shape.specs.Procedure.{first_unused, is_used, share_name}

digit_at : (d : ℕ) → d < 10 → is_word_byte (48 + d) ≡ true
digit_at zero h = refl
digit_at (suc zero) h = refl
digit_at (suc (suc zero)) h = refl
digit_at (suc (suc (suc zero))) h = refl
digit_at (suc (suc (suc (suc zero)))) h = refl
digit_at (suc (suc (suc (suc (suc zero))))) h = refl
digit_at (suc (suc (suc (suc (suc (suc zero)))))) h = refl
digit_at (suc (suc (suc (suc (suc (suc (suc zero))))))) h = refl
digit_at (suc (suc (suc (suc (suc (suc (suc (suc zero)))))))) h = refl
digit_at (suc (suc (suc (suc (suc (suc (suc (suc (suc zero))))))))) h = refl
digit_at (suc (suc (suc (suc (suc (suc (suc (suc (suc (suc d)))))))))) h = absurd (omega arith)

digits_fit : (n : ℕ) → n < 2 ^ 64 → list_all is_word_byte (decimal n) ≡ true
digits_fit n h =
    decimal_by_steps (λ m ds. list_all is_word_byte ds ≡ true) (λ m l. and_from _ _ (digit_at m l) refl)
    (λ m ds l e. list_all-append is_word_byte ds ((48 + m % 10) ∷ []) ∙ and_from _ _ e (and_from _ _ (digit_at (m % 10) (mod_below m 10 (omega arith))) refl)) n h

pub share_free : (n : ℕ) → n < 2 ^ 64 → is_free_name (share_name n) ≡ true
share_free n h =
    let short : length (104 ∷ 97 ∷ 114 ∷ 101 ∷ 95 ∷ decimal n) < 64 = omega (arith, number_short n h) in
    and_from _ _ (and_from _ _ (digits_fit n h) (lt-ltb _ _ short)) refl

-- no two of them are the same
drop_front : (xs ys : List ℕ) → 115 ∷ 104 ∷ 97 ∷ 114 ∷ 101 ∷ 95 ∷ xs ≡ 115 ∷ 104 ∷ 97 ∷ 114 ∷ 101 ∷ 95 ∷ ys → xs ≡ ys
drop_front xs ys e = cc

share_one : (m n : ℕ) → m < 2 ^ 64 → n < 2 ^ 64 → share_name m ≡ share_name n → m ≡ n
share_one m n h l e = decimal_injective m n h l (drop_front (decimal m) (decimal n) e)

-- a test that one number passes at most
none_below : (test : ℕ → Bool) (n : ℕ) → ((i : ℕ) → i < n → test i ≡ false) → count_below test n ≡ 0
none_below test zero h = refl
none_below test (suc n) h = omega (arith, none_below test n (λ i l. h i (omega arith)), ap {B = ℕ} (λ b. if b then 1 else 0) (h n (omega arith)))

one_by : (test : ℕ → Bool) (n : ℕ) (b : Bool) → test n ≡ b → ((i j : ℕ) → i < suc n → j < suc n → test i ≡ true → test j ≡ true → i ≡ j) → count_below test n ≤ 1 → count_below test n + (if b then 1 else 0) ≤ 1
one_by test n true e h l =
    let none = none_below test n (λ i m. false_from_ne_true (test i) (λ t. let same : i ≡ n = h i n (omega arith) (omega arith) t e in omega arith)) in omega (arith, none)
one_by test n false e h l = omega arith

one_at_most : (test : ℕ → Bool) (n : ℕ) → ((i j : ℕ) → i < n → j < n → test i ≡ true → test j ≡ true → i ≡ j) → count_below test n ≤ 1
one_at_most test zero h = omega arith
one_at_most test (suc n) h =
    let r = one_by test n (test n) refl h (one_at_most test n (λ i j a b. h i j (omega arith) (omega arith))) in r

either_count : (a b : Bool) → (if a || b then 1 else 0) ≤ (if a then 1 else 0) + (if b then 1 else 0)
either_count true b = omega arith
either_count false true = omega arith
either_count false false = omega arith

counts_add : (f g : ℕ → Bool) (n : ℕ) → count_below (λ k. f k || g k) n ≤ count_below f n + count_below g n
counts_add f g zero = omega arith
counts_add f g (suc n) = omega (arith, counts_add f g n, either_count (f n) (g n))

-- as many numbers are used as there are names, at most
few_used : (ws : List (List ℕ)) (n : ℕ) → n ≤ 2 ^ 64 → count_below (is_used ws) n ≤ length ws
few_used [] n h = omega (arith, none_below (λ k. false) n (λ i l. refl))
few_used (w ∷ ws) n h =
    let one = one_at_most (λ k. is_word (share_name k) w) n (λ i j a b p q. share_one i j (omega arith) (omega arith) (is_word-same (share_name i) w p ∙ sym (is_word-same (share_name j) w q))) in
    omega (arith, counts_add (λ k. is_word (share_name k) w) (is_used ws) n, one, few_used ws n h)

all_counted : (test : ℕ → Bool) (n : ℕ) → ((i : ℕ) → i < n → test i ≡ true) → count_below test n ≡ n
all_counted test zero h = refl
all_counted test (suc n) h = omega (arith, all_counted test n (λ i l. h i (omega arith)), ap {B = ℕ} (λ b. if b then 1 else 0) (h n (omega arith)))

-- where the number that is found is used, all are
last_by : (used : ℕ → Bool) (k n : ℕ) (b : Bool) → used k ≡ b → used (if b then first_unused used (suc k) n else k) ≡ true → (used (first_unused used (suc k) n) ≡ true → (i : ℕ) → suc k ≤ i → i ≤ suc k + n → used i ≡ true) → (i : ℕ) → k ≤ i → i ≤ k + suc n → used i ≡ true
last_by used k n true e h rest i l m =
    ⊎_elim (λ (a : k < i). rest h i (omega arith) (omega arith)) (λ (a : i ≤ k). let s : i ≡ k = omega arith in ap used s ∙ e) (cases_lt k i)
last_by used k n false e h rest i l m = absurd (false≢true (sym e ∙ h))

all_used : (used : ℕ → Bool) (k n : ℕ) → used (first_unused used k n) ≡ true → (i : ℕ) → k ≤ i → i ≤ k + n → used i ≡ true
all_used used k zero h i l m = let s : i ≡ k = omega arith in ap used s ∙ h
all_used used k (suc n) h i l m = last_by used k n (used k) refl h (all_used used (suc k) n) i l m

pub unused : (ws : List (List ℕ)) → length ws < 2 ^ 64 → is_used ws (first_unused (is_used ws) 0 (length ws)) ≡ false
unused ws h =
    false_from_ne_true (is_used ws (first_unused (is_used ws) 0 (length ws))) (λ e.
    let all = all_used (is_used ws) 0 (length ws) e in
    let n = suc (length ws) in
    omega (arith, few_used ws n (omega arith), all_counted (is_used ws) n (λ i l. all i (omega arith) (omega arith))))

-- and it is no greater than the number of names
within_by : (k n m : ℕ) (b : Bool) → m ≤ suc k + n → (if b then m else k) ≤ k + suc n
within_by k n m true h = omega arith
within_by k n m false h = omega arith

pub unused_within : (used : ℕ → Bool) (k n : ℕ) → first_unused used k n ≤ k + n
unused_within used k zero = omega arith
unused_within used k (suc n) =
    within_by k n (first_unused used (suc k) n) (used k) (unused_within used (suc k) n)

-- all below it are used
below_by : (used : ℕ → Bool) (k n i : ℕ) (b : Bool) → used k ≡ b → k ≤ i → i < (if b then first_unused used (suc k) n else k) → (suc k ≤ i → i < first_unused used (suc k) n → used i ≡ true) → used i ≡ true
below_by used k n i true e l h rest =
    ⊎_elim (λ (a : k < i). rest (omega arith) h) (λ (a : i ≤ k). let s : i ≡ k = omega arith in ap used s ∙ e) (cases_lt k i)
below_by used k n i false e l h rest = absurd (omega arith)

pub below_used : (used : ℕ → Bool) (k n i : ℕ) → k ≤ i → i < first_unused used k n → used i ≡ true
below_used used k zero i l h = absurd (omega arith)
below_used used k (suc n) i l h =
    below_by used k n i (used k) refl l h (λ a b. below_used used (suc k) n i a b)

-- names with a free one more among them
any_insert : (test : List ℕ → Bool) (ws : List (List ℕ)) (i : ℕ) (w : List ℕ) → test w ≡ false → list_any test ws ≡ false → list_any test (insert ws i w) ≡ false
any_insert test [] zero w h e = ap (λ b. b || false) h
any_insert test [] (suc i) w h e = ap (λ b. b || false) h
any_insert test (v ∷ vs) zero w h e = ap (λ b. b || list_any test (v ∷ vs)) h ∙ e
any_insert test (v ∷ vs) (suc i) w h e =
    let parts = or_parts (test v) (list_any test vs) e in
    ap (λ b. b || list_any test (insert vs i w)) parts.0 ∙ any_insert test vs i w h parts.1

pub free_insert : (ws : List (List ℕ)) (i : ℕ) (w : List ℕ) → are_free_names ws ≡ true → is_free_name w ≡ true → list_any (is_word w) ws ≡ false → are_free_names (insert ws i w) ≡ true
free_insert [] zero w e f h = and_from _ _ (and_from _ _ f refl) refl
free_insert [] (suc i) w e f h = and_from _ _ (and_from _ _ f refl) refl
free_insert (v ∷ vs) zero w e f h = and_from _ _ (and_from _ _ f (ap not h)) e
free_insert (v ∷ vs) (suc i) w e f h =
    let parts = and_parts (is_free_name v && not (list_any (is_word v) vs)) (are_free_names vs) e in
    let front = and_parts (is_free_name v) (not (list_any (is_word v) vs)) parts.0 in
    let one = or_parts (is_word w v) (list_any (is_word w) vs) h in
    and_from _ _ (and_from _ _ front.0 (ap not (any_insert (is_word v) vs i w (is_word-turned v w ∙ one.0) (not-true (list_any (is_word v) vs) front.1)))) (free_insert vs i w parts.1 f one.1)
