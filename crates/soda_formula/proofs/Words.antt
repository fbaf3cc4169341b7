-- Small facts of the machine: words, operators and tests.
use Rattle.std.proofs.Common.{◌≡◌, ℕ, ◌≤◌, Bool, true, false, nat_le, ◌||◌, List, codes, Option, Some, None, if◌then◌else◌, refl, sym, ◌∙◌, ap}
use Rattle.std.proofs.lemmas.Bool.{leb-true}
use Rattle.soda_words.specs.declared.operators.BinOp.{BinOp}
use Rattle.soda_words.specs.declared.operators.BinOp.TheVariants.{Min, Max}
use Rattle.soda_words.specs.Names.{is_cast_word, is_word, is_reserved}
use Rattle.soda_words.specs.declared.symbol.Symbol.{Symbol}
use Rattle.soda_words.specs.declared.symbol.Symbol.TheVariants.{BarBar, OpenRound, OpenSquare}
use Rattle.soda_words.specs.declared.token.Token.TheVariants.{Sign}
use Rattle.soda_words.specs.declared.token.Word.{Word}
use Rattle.soda_formula.specs.Grammar.{Infix, infix_of, call_text}
use Rattle.soda_formula.specs.machine.Steps.{Mode, called, named, in_cast, in_abs, in_first, in_test, none, opening_of, word_mode}

-- the levels of operators between two operands
abbrev is_below_prefix : Option Infix → Bool
is_below_prefix None = true
is_below_prefix (Some i) = nat_le i.level 8

below_prefix : (s : Symbol) → is_below_prefix (infix_of s) ≡ true
below_prefix BarBar = refl
below_prefix _ = refl

pub infix-level : (s : Symbol) (i : Infix) → infix_of s ≡ Some i → i.level ≤ 8
infix-level s i e = leb-true i.level 8 (rw e at (below_prefix s))

pub infix-opening : (s : Symbol) (i : Infix) → infix_of s ≡ Some i → opening_of (Sign s) ≡ none
infix-opening OpenRound i e = cc
infix-opening OpenSquare i e = cc
infix-opening _ i e = refl

pub word-cast : (w : Word) → is_cast_word w.text ≡ true → word_mode w ≡ called (in_cast w)
word-cast w e = rw e

pub word-call : (line : ℕ) (op : BinOp) (text : List ℕ) → call_text op ≡ Some text → word_mode (record { line = line; text = text }) ≡ called (in_first op)
word-call line Min text e = let h : codes "min" ≡ text = cc in rw (← h)
word-call line Max text e = let h : codes "max" ≡ text = cc in rw (← h)
word-call line _ text e = cc

last_of : (m1 m2 m3 m4 m5 n : Mode) (a b c d e : Bool) → ((((a || b) || c) || d) || e) ≡ false
    → (if a then m1 else (if b then m2 else (if c then m3 else (if d then m4 else (if e then m5 else n))))) ≡ n
last_of m1 m2 m3 m4 m5 n false false false false false h = refl
last_of m1 m2 m3 m4 m5 n _ _ _ _ _ h = cc

pub word-free : (w : Word) → is_reserved w.text ≡ false → word_mode w ≡ named w
word-free w h =
    last_of _ _ _ _ _ _ (is_cast_word w.text) (is_word (codes "min") w.text) (is_word (codes "max") w.text) (is_word (codes "abs") w.text)
    (is_word (codes "select") w.text) h

-- what a word begins, test by test
pub mode-cast : (w : Word) → is_cast_word w.text ≡ true → called (in_cast w) ≡ word_mode w
mode-cast w a = rw a

pub mode-min : (w : Word) → is_cast_word w.text ≡ false → is_word (codes "min") w.text ≡ true → called (in_first Min) ≡ word_mode w
mode-min w a b = rw (a, b)

pub mode-max : (w : Word) → is_cast_word w.text ≡ false → is_word (codes "min") w.text ≡ false → is_word (codes "max") w.text ≡ true
    → called (in_first Max) ≡ word_mode w
mode-max w a b c = rw (a, b, c)

pub mode-abs : (w : Word) → is_cast_word w.text ≡ false → is_word (codes "min") w.text ≡ false → is_word (codes "max") w.text ≡ false
    → is_word (codes "abs") w.text ≡ true → called in_abs ≡ word_mode w
mode-abs w a b c d = rw (a, b, c, d)

pub mode-select : (w : Word) → is_cast_word w.text ≡ false → is_word (codes "min") w.text ≡ false → is_word (codes "max") w.text ≡ false
    → is_word (codes "abs") w.text ≡ false → is_word (codes "select") w.text ≡ true → called in_test ≡ word_mode w
mode-select w a b c d e = rw (a, b, c, d, e)

pub mode-name : (w : Word) → is_cast_word w.text ≡ false → is_word (codes "min") w.text ≡ false → is_word (codes "max") w.text ≡ false
    → is_word (codes "abs") w.text ≡ false → is_word (codes "select") w.text ≡ false → named w ≡ word_mode w
mode-name w a b c d e = rw (a, b, c, d, e)

-- a test for a word, at the bytes that both are
pub at-word : (now word now' text : List ℕ) (b : Bool) → now ≡ word → now' ≡ text → b ≡ is_word now now' → is_word word text ≡ b
at-word now word now' text b e t h = sym (h ∙ ap (λ w. is_word w now') e ∙ ap (is_word word) t)

-- a test of some bytes, at the bytes that they are
pub at-text : (test : List ℕ → Bool) (now text : List ℕ) (b : Bool) → now ≡ text → b ≡ test now → test text ≡ b
at-text test now text b t e = ap test (sym t) ∙ sym e
