-- What is skipped between tokens, and the loop that reads them.
use Rattle.std.proofs.Common.{◌≡◌, ℕ, zero, suc, ◌+◌, ◌<◌, ◌≤◌, ◌==◌, Bool, true, false, List, [], ◌∷◌, ◌++◌, length, drop, get_or, Option, Some, None, refl, sym, ap, ◌∙◌, arith, append_assoc, cond, inl, inr, add-one, append-nil}
use Rattle.std.proofs.lemmas.Bool.Decides.{eqb_tells}
use Rattle.std.proofs.lemmas.List.{length-drop}
use Rattle.std.proofs.Math.Bool.{and-false}
use Rattle.soda_words.specs.declared.symbol.Symbol.{Symbol}
use Rattle.soda_words.specs.Names.{is_word_byte}
use Rattle.soda_words.specs.Symbols.{double_of}
use Rattle.soda_words.specs.Tokens.{Front, tokens_of, double_front, first_line, first_word, front_at, front_of, is_white, line_behind, placed, symbol_front, tokens_behind}
use Rattle.soda_words.specs.declared.token.Placed.{Placed}
use Rattle.soda_words.specs.declared.token.Token.{Token}
use Rattle.soda_words.proofs.Fronts.{AreRead}

-- none of the first bytes is a line feed
abbrev NoFeed : ℕ → List ℕ → Type 0
NoFeed zero bs = Unit {0}
NoFeed (suc k) [] = Unit {0}
NoFeed (suc k) (b ∷ bs) = (b == 10 ≡ false) × NoFeed k bs

skipped : (k line : ℕ) (bs : List ℕ) → NoFeed k bs → tokens_behind k line bs ≡ tokens_behind 0 line (drop k bs)
unfolding tokens_behind
skipped zero line bs h = refl
skipped (suc k) line [] h = refl
skipped (suc k) line (b ∷ bs) h = rw h.0 (skipped k line bs h.1)

in_line : (bs : List ℕ) → NoFeed (length (first_line bs)) bs
in_line [] = tt
in_line (b ∷ bs) = elim (b == 10) as (λ t. (t ≡ b == 10) → NoFeed (length (cond t [] (b ∷ first_line bs))) (b ∷ bs)) [ true ↦ λ e. tt | false ↦ λ e. (sym e, in_line bs) ] refl

no_word_feed : (b : ℕ) → is_word_byte b ≡ true → b == 10 ≡ false
no_word_feed b h =
    elim (eqb_tells b 10) [ inl p ↦ (let e : is_word_byte 10 ≡ true = ap is_word_byte (sym p.1) ∙ h in cc) | inr q ↦ q.0 ]

in_word : (bs : List ℕ) → NoFeed (length (first_word bs)) bs
in_word [] = tt
in_word (b ∷ bs) = elim (is_word_byte b) as (λ t. (t ≡ is_word_byte b) → NoFeed (length (cond t (b ∷ first_word bs) [])) (b ∷ bs)) [ true ↦ λ e. (no_word_feed b (sym e), in_word bs) | false ↦ λ e. tt ] refl

-- a symbol of two bytes does not end with a line feed
double_of_feed : (b : ℕ) → double_of b 10 ≡ None
double_of_feed b = simp and-false

in_double : (b c : ℕ) (bs : List ℕ) (o : Option Symbol) → (o ≡ double_of b c) → NoFeed (double_front b o).more (c ∷ bs)
in_double b c bs None e = tt
in_double b c bs (Some s) e =
    elim (eqb_tells c 10) [ inl p ↦ (let e : double_of b 10 ≡ Some s = ap (double_of b) (sym p.1) ∙ sym e in let d = double_of_feed b in cc) | inr q ↦ (q.0, tt) ]

in_symbol : (b : ℕ) (bs : List ℕ) → NoFeed (symbol_front b bs).more bs
in_symbol b [] = tt
in_symbol b (c ∷ bs) = in_double b c bs (double_of b c) refl

either : (t : Bool) (f g : Front) (bs : List ℕ) → NoFeed f.more bs → NoFeed g.more bs → NoFeed (cond t f g).more bs
either true f g bs h k = h
either false f g bs h k = k

-- no byte behind the first of a front is a line feed
in_front : (b : ℕ) (bs : List ℕ) → NoFeed (front_of b bs).more bs
unfolding front_of
in_front b bs = either (is_white b) _ _ bs tt (either (b == 35) _ _ bs (in_line bs) (either (is_word_byte b) _ _ bs (in_word bs) (in_symbol b bs)))

read_more : (b line : ℕ) (bs : List ℕ) → tokens_behind 0 line (b ∷ bs) ≡ placed line (front_of b bs).token ++ tokens_behind 0 (line_behind line b) (drop (front_of b bs).more bs)
unfolding tokens_behind
read_more b line bs = ap (λ ts. placed line (front_of b bs).token ++ ts) (skipped (front_of b bs).more (line_behind line b) bs (in_front b bs))

line_grows : (line b : ℕ) → line_behind line b ≤ line + 1
line_grows line b = elim (b == 10) as (λ t. cond t (suc line) line ≤ line + 1) [ true ↦ omega arith | false ↦ omega arith ]

-- one turn of the loop that reads tokens
pub turn : (found : List Placed) (line : ℕ) (rest text : List ℕ) → AreRead found line rest text → 0 < length rest → (front_at rest).more + 1 ≤ length rest → AreRead (found ++ placed line (front_at rest).token) (line_behind line (get_or rest 0 0)) (drop ((front_at rest).more + 1) rest) text
turn found line [] text read lt within = absurd (omega arith)
turn found line (b ∷ bs) text read lt within = record {
  small = omega (arith, read.small, line_grows line b, length-drop {A = ℕ} ((front_of b bs).more + 1) (b ∷ bs));
  value = rw (add-one, append_assoc) (ap (λ ts. found ++ ts) (sym (read_more b line bs)) ∙ read.value);
}

-- the same, where what stands after the turn is known by equations
pub turned : (found found' : List Placed) (line line' more : ℕ) (token : Option Token) (rest rest' text : List ℕ) → AreRead found line rest text → 0 < length rest → more + 1 ≤ length rest → more ≡ (front_at rest).more → token ≡ (front_at rest).token → found' ≡ found ++ placed line token → line' ≡ line_behind line (get_or rest 0 0) → rest' ≡ drop (more + 1) rest → AreRead found' line' rest' text
turned found found' line line' more token rest rest' text read lt within m k f l r =
    let within' : (front_at rest).more + 1 ≤ length rest = omega arith in
    let t = turn found line rest text read lt within' in
    rw (f, l, r, m, k) t

pub ended : (found : List Placed) (line : ℕ) (rest text : List ℕ) → AreRead found line rest text → length rest ≤ 0 → found ≡ tokens_of text
unfolding tokens_behind
ended found line [] text read le = sym (append-nil found) ∙ read.value
ended found line (b ∷ bs) text read le = absurd (omega arith)
