-- The tokens of a text that is put together part by part.
use Rattle.std.proofs.Common.{◌≡◌, ℕ, suc, ◌<◌, ◌^◌, ◌==◌, Bool, true, false, ◌&&◌, ◌||◌, nat_le, nat_lt, lit<, List, [], ◌∷◌, ◌++◌, length, Some, refl, sym, ap, ◌∙◌, arith, cond, inl, inr, if◌then◌else◌}
use Rattle.std.specs.Fmt.{decimal}
use Rattle.std.specs.List.{list_all}
use Rattle.std.proofs.lemmas.Bool.{and_from, and_parts, or_left}
use Rattle.std.proofs.lemmas.Bool.Decides.{eqb_tells, nat_tests}
use Rattle.std.proofs.lemmas.Fmt.{decimal_nonempty, digits_decimal, digits_value-decimal}
use Rattle.soda_words.proofs.CallerLemmas.{digits_words, number_is, own}
use Rattle.soda_words.specs.Names.{begins_name, is_digit, is_name, is_word_byte}
use Rattle.soda_words.specs.Tokens.{Front, first_word, front_of, is_number, is_white, line_behind, placed, tokens_behind, value_behind, word_token}
use Rattle.soda_words.specs.declared.symbol.Symbol.TheVariants.{OpenRound, CloseRound, OpenSquare, CloseSquare, Comma, Colon, PlusSign, MinusSign, Tilde, Bang}
use Rattle.soda_words.specs.declared.token.Placed.{Placed}
use Rattle.soda_words.specs.declared.token.Token.{Token}
use Rattle.soda_words.specs.declared.token.Token.TheVariants.{Bad, Name, Number, Sign}

-- a word doesn't go on in these bytes
abbrev pub Stops : List ℕ → Type 0
Stops [] = Unit {0}
Stops (b ∷ bs) = is_word_byte b ≡ false

abbrev pub are_word_bytes : List ℕ → Bool
are_word_bytes w = list_all is_word_byte w

abbrev pub on_line : ℕ → Token → Placed
on_line line t = record { line = line; token = t }

none_of : (s t u v : Bool) → s ≡ false → t ≡ false → u ≡ false → v ≡ false → (s || t || u || v) ≡ false
none_of s t u v p q r w = rw (p, q, r, w) refl

neither : (s t u : Bool) → s ≡ false → t ≡ false → u ≡ false → (s || t || u) ≡ false
neither s t u p q r = rw (p, q, r) refl

-- a byte of a word is none that isn't one
differs : (b k : ℕ) → is_word_byte k ≡ false → is_word_byte b ≡ true → b == k ≡ false
differs b k h w = elim (eqb_tells b k) [ inl p ↦ (let e : is_word_byte k ≡ true = ap is_word_byte (sym p.1) ∙ w in cc) | inr q ↦ q.0 ]

not_white : (b : ℕ) → is_word_byte b ≡ true → is_white b ≡ false
not_white b w = none_of (b == 9) (b == 10) (b == 13) (b == 32) (differs b 9 refl w) (differs b 10 refl w) (differs b 13 refl w) (differs b 32 refl w)

same_line : (line b : ℕ) → is_word_byte b ≡ true → line_behind line b ≡ line
same_line line b w = ap (λ t. if t then suc line else line) (differs b 10 refl w)

first_word_is : (w rest : List ℕ) → are_word_bytes w ≡ true → Stops rest → first_word (w ++ rest) ≡ w
first_word_is [] [] h s = refl
first_word_is [] (b ∷ bs) h s = ap (λ t. if t then b ∷ first_word bs else []) s
first_word_is (b ∷ bs) rest h s =
    ap (λ t. if t then b ∷ first_word (bs ++ rest) else []) ((and_parts (is_word_byte b) (are_word_bytes bs) h).0)
    ∙ ap (λ (v : List ℕ). b ∷ v) (first_word_is bs rest ((and_parts (is_word_byte b) (are_word_bytes bs) h).1) s)

-- the bytes of a word are passed
passed : (w rest : List ℕ) (line : ℕ) → are_word_bytes w ≡ true → tokens_behind (length w) line (w ++ rest) ≡ tokens_behind 0 line rest
unfolding tokens_behind
passed [] rest line h = refl
passed (b ∷ bs) rest line h =
    ap (λ l. tokens_behind (length bs) l (bs ++ rest)) (same_line line b ((and_parts (is_word_byte b) (are_word_bytes bs) h).0))
    ∙ passed bs rest line ((and_parts (is_word_byte b) (are_word_bytes bs) h).1)

third_of : (s t u : Bool) (f g h k : Front) → s ≡ false → t ≡ false → u ≡ true → cond s f (cond t g (cond u h k)) ≡ h
third_of s t u f g h k p q r = rw (p, q, r) refl

word_front : (b : ℕ) (bs : List ℕ) → is_word_byte b ≡ true
    → front_of b bs ≡ record { token = Some (word_token (b ∷ first_word bs)); more = length (first_word bs) }
unfolding front_of
word_front b bs w = third_of (is_white b) (b == 35) (is_word_byte b) _ _ _ _ (not_white b w) (differs b 35 refl w) w

-- a word is one token, where it doesn't go on
pub word_first : (b : ℕ) (w rest : List ℕ) (line : ℕ) → are_word_bytes (b ∷ w) ≡ true → Stops rest
    → tokens_behind 0 line (b ∷ (w ++ rest)) ≡ on_line line (word_token (b ∷ w)) ∷ tokens_behind 0 line rest
unfolding tokens_behind
word_first b w rest line h s =
    let one : is_word_byte b ≡ true = (and_parts (is_word_byte b) (are_word_bytes w) h).0 in
    let more : are_word_bytes w ≡ true = (and_parts (is_word_byte b) (are_word_bytes w) h).1 in
    ap (λ (f : Front). placed line f.token ++ tokens_behind f.more (line_behind line b) (w ++ rest)) (word_front b (w ++ rest) one)
    ∙ ap (λ (v : List ℕ). on_line line (word_token (b ∷ v)) ∷ tokens_behind (length v) (line_behind line b) (w ++ rest)) (first_word_is w rest more s)
    ∙ ap (λ l. on_line line (word_token (b ∷ w)) ∷ tokens_behind (length w) l (w ++ rest)) (same_line line b one)
    ∙ ap (λ (ts : List Placed). on_line line (word_token (b ∷ w)) ∷ ts) (passed w rest line more)

-- a blank is no token
pub blank_first : (rest : List ℕ) (line : ℕ) → tokens_behind 0 line (32 ∷ rest) ≡ tokens_behind 0 line rest
unfolding tokens_behind front_of
blank_first rest line = refl

-- a line feed is none, and begins a line
pub feed_first : (rest : List ℕ) (line : ℕ) → tokens_behind 0 line (10 ∷ rest) ≡ tokens_behind 0 (suc line) rest
unfolding tokens_behind front_of
feed_first rest line = refl

-- the marks, and the prefix operators but `!`, are tokens whatever follows
pub open_first : (rest : List ℕ) (line : ℕ) → tokens_behind 0 line (40 ∷ rest) ≡ on_line line (Sign OpenRound) ∷ tokens_behind 0 line rest
unfolding tokens_behind front_of
open_first [] line = refl
open_first (b ∷ bs) line = refl

pub close_first : (rest : List ℕ) (line : ℕ) → tokens_behind 0 line (41 ∷ rest) ≡ on_line line (Sign CloseRound) ∷ tokens_behind 0 line rest
unfolding tokens_behind front_of
close_first [] line = refl
close_first (b ∷ bs) line = refl

pub open_square_first : (rest : List ℕ) (line : ℕ) → tokens_behind 0 line (91 ∷ rest) ≡ on_line line (Sign OpenSquare) ∷ tokens_behind 0 line rest
unfolding tokens_behind front_of
open_square_first [] line = refl
open_square_first (b ∷ bs) line = refl

pub close_square_first : (rest : List ℕ) (line : ℕ) → tokens_behind 0 line (93 ∷ rest) ≡ on_line line (Sign CloseSquare) ∷ tokens_behind 0 line rest
unfolding tokens_behind front_of
close_square_first [] line = refl
close_square_first (b ∷ bs) line = refl

pub comma_first : (rest : List ℕ) (line : ℕ) → tokens_behind 0 line (44 ∷ rest) ≡ on_line line (Sign Comma) ∷ tokens_behind 0 line rest
unfolding tokens_behind front_of
comma_first [] line = refl
comma_first (b ∷ bs) line = refl

pub colon_first : (rest : List ℕ) (line : ℕ) → tokens_behind 0 line (58 ∷ rest) ≡ on_line line (Sign Colon) ∷ tokens_behind 0 line rest
unfolding tokens_behind front_of
colon_first [] line = refl
colon_first (b ∷ bs) line = refl

pub minus_first : (rest : List ℕ) (line : ℕ) → tokens_behind 0 line (45 ∷ rest) ≡ on_line line (Sign MinusSign) ∷ tokens_behind 0 line rest
unfolding tokens_behind front_of
minus_first [] line = refl
minus_first (b ∷ bs) line = refl

pub plus_first : (rest : List ℕ) (line : ℕ) → tokens_behind 0 line (43 ∷ rest) ≡ on_line line (Sign PlusSign) ∷ tokens_behind 0 line rest
unfolding tokens_behind front_of
plus_first [] line = refl
plus_first (b ∷ bs) line = refl

pub tilde_first : (rest : List ℕ) (line : ℕ) → tokens_behind 0 line (126 ∷ rest) ≡ on_line line (Sign Tilde) ∷ tokens_behind 0 line rest
unfolding tokens_behind front_of
tilde_first [] line = refl
tilde_first (b ∷ bs) line = refl

-- a name is one token
pub name_first : (w rest : List ℕ) (line : ℕ) → is_name w ≡ true → Stops rest
    → tokens_behind 0 line (w ++ rest) ≡ on_line line (Name w) ∷ tokens_behind 0 line rest
name_first [] rest line h s = cc
name_first (b ∷ w) rest line h s =
    let lead : (begins_name b && are_word_bytes w) ≡ true = (and_parts (begins_name b && are_word_bytes w) (nat_lt (length w) 64) h).0 in
    let one : is_word_byte b ≡ true = or_left (begins_name b) (is_digit b) ((and_parts (begins_name b) (are_word_bytes w) lead).0) in
    word_first b w rest line (and_from (is_word_byte b) (are_word_bytes w) one ((and_parts (begins_name b) (are_word_bytes w) lead).1)) s
    ∙ ap (λ t. on_line line
    (if t then Name (b ∷ w) else (if is_number (b ∷ w) then Number (value_behind 0 (b ∷ w)) else Bad)) ∷ tokens_behind 0 line rest) h

other : (d k : ℕ) → nat_le d 57 ≡ true → 57 < k → d == k ≡ false
other d k h lt = grind (arith, nat_tests)

above : (k d : ℕ) → nat_le d 57 ≡ true → 57 < k → nat_le k d ≡ false
above k d h lt = grind (arith, nat_tests)

no_name_digit : (d : ℕ) → is_digit d ≡ true → begins_name d ≡ false
no_name_digit d h =
    let most : nat_le d 57 ≡ true = (and_parts (nat_le 48 d) (nat_le d 57) h).1 in
    neither (nat_le 65 d && nat_le d 90) (nat_le 97 d && nat_le d 122) (d == 95) (ap (λ t. t && nat_le d 90) (above 65 d most (lit< tt)))
    (ap (λ t. t && nat_le d 122) (above 97 d most (lit< tt))) (other d 95 most (lit< tt))

digits_no_name : (ds : List ℕ) → list_all is_digit ds ≡ true → is_name ds ≡ false
digits_no_name [] h = refl
digits_no_name (d ∷ ds) h =
    ap (λ t. t && are_word_bytes ds && nat_lt (length ds) 64) (no_name_digit d ((and_parts (is_digit d) (list_all is_digit ds) h).0))

word_numbered : (w : List ℕ) (n line : ℕ) (rest : List ℕ) → w ≡ decimal n → 0 < length w → are_word_bytes w ≡ true → Stops rest
    → tokens_behind 0 line (w ++ rest) ≡ on_line line (word_token w) ∷ tokens_behind 0 line rest
word_numbered [] n line rest e lt h s = absurd (omega arith)
word_numbered (b ∷ w) n line rest e lt h s = word_first b w rest line h s

-- a number is one token
pub number_first : (n : ℕ) (rest : List ℕ) (line : ℕ) → n < 2 ^ 64 → Stops rest
    → tokens_behind 0 line (decimal n ++ rest) ≡ on_line line (Number n) ∷ tokens_behind 0 line rest
number_first n rest line h s =
    let digits = digits_decimal own n h in
    word_numbered (decimal n) n line rest refl (decimal_nonempty n h) (digits_words (decimal n) digits) s
    ∙ ap (λ t. on_line line
    (if t then Name (decimal n) else (if is_number (decimal n) then Number (value_behind 0 (decimal n)) else Bad)) ∷ tokens_behind 0 line rest)
    (digits_no_name (decimal n) digits)
    ∙ ap (λ t. on_line line (if t then Number (value_behind 0 (decimal n)) else Bad) ∷ tokens_behind 0 line rest) (number_is n h)
    ∙ ap (λ v. on_line line (Number v) ∷ tokens_behind 0 line rest) (digits_value-decimal own n h)

-- `!` is a token where no `=` follows
pub bang_first : (b : ℕ) (rest : List ℕ) (line : ℕ) → b == 61 ≡ false
    → tokens_behind 0 line (33 ∷ b ∷ rest) ≡ on_line line (Sign Bang) ∷ tokens_behind 0 line (b ∷ rest)
unfolding tokens_behind front_of
bang_first b rest line h = rw h refl

-- the bytes don't begin with `=`
abbrev pub BeginsOther : List ℕ → Type 0
BeginsOther [] = ⊥
BeginsOther (b ∷ bs) = b == 61 ≡ false

pub name_begins : (w : List ℕ) → is_name w ≡ true → BeginsOther w
name_begins [] h = cc
name_begins (b ∷ w) h =
    let lead : (begins_name b && are_word_bytes w) ≡ true = (and_parts (begins_name b && are_word_bytes w) (nat_lt (length w) 64) h).0 in
    differs b 61 refl (or_left (begins_name b) (is_digit b) ((and_parts (begins_name b) (are_word_bytes w) lead).0))

words_begin : (w : List ℕ) → are_word_bytes w ≡ true → 0 < length w → BeginsOther w
words_begin [] h lt = absurd (omega arith)
words_begin (b ∷ w) h lt = differs b 61 refl ((and_parts (is_word_byte b) (are_word_bytes w) h).0)

pub number_begins : (n : ℕ) → n < 2 ^ 64 → BeginsOther (decimal n)
number_begins n h = words_begin (decimal n) (digits_words (decimal n) (digits_decimal own n h)) (decimal_nonempty n h)
