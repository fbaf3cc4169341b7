-- Where a token is none of those that may stand there.
use Rattle.std.proofs.Common.{◌≡◌, List, ℤ, ℕ, None, refl}
use Rattle.soda_words.specs.declared.symbol.Symbol.{Symbol}
use Rattle.soda_words.specs.declared.symbol.Symbol.TheVariants.{MinusSign, OpenRound, CloseRound, OpenSquare, CloseSquare, Comma}
use Rattle.soda_words.specs.declared.token.Token.{Token}
use Rattle.soda_words.specs.declared.token.Token.TheVariants.{Sign}
use Rattle.soda_words.specs.declared.token.Word.{Word}
use Rattle.soda_formula.specs.Reading.{open_behind, counted, place_behind, place_outside, behind_name, in_offsets}
use Rattle.soda_formula.specs.machine.Steps.{Frame, Held, none, round, mark_after, group_begun, opened, opening_of, component, component_followed, index_closed}

pub no-mark : (s : Symbol) (h : Held) → (s ≡ CloseRound → ⊥) → (s ≡ Comma → ⊥) → mark_after s h ≡ None
no-mark CloseRound h n m = absurd (n refl)
no-mark Comma h n m = absurd (m refl)
no-mark _ h n m = refl

pub no-group : (s : Symbol) (fs : List Frame) → (s ≡ OpenRound → ⊥) → group_begun s fs ≡ None
no-group OpenRound fs n = absurd (n refl)
no-group _ fs n = refl

pub no-call : (s : Symbol) (f : Frame) (fs : List Frame) → (s ≡ OpenRound → ⊥) → opened f fs (Sign s) ≡ None
no-call OpenRound f fs n = absurd (n refl)
no-call _ f fs n = refl

pub no-opening : (s : Symbol) → (s ≡ OpenRound → ⊥) → (s ≡ OpenSquare → ⊥) → opening_of (Sign s) ≡ none
no-opening OpenRound n m = absurd (n refl)
no-opening OpenSquare n m = absurd (m refl)
no-opening _ n m = refl

pub no-component : (s : Symbol) (w : Word) (zs : List ℤ) (fs : List Frame) → (s ≡ MinusSign → ⊥) → component w zs fs (Sign s) ≡ None
no-component MinusSign w zs fs n = absurd (n refl)
no-component _ w zs fs n = refl

pub no-components : (s : Symbol) (w : Word) (zs : List ℤ) (fs : List Frame) → (s ≡ Comma → ⊥) → (s ≡ CloseRound → ⊥)
    → component_followed w zs fs (Sign s) ≡ None
no-components Comma w zs fs n m = absurd (n refl)
no-components CloseRound w zs fs n m = absurd (m refl)
no-components _ w zs fs n m = refl

pub no-close : (s : Symbol) (w : Word) (is : List ℕ) (fs : List Frame) → (s ≡ CloseSquare → ⊥) → index_closed w is fs (Sign s) ≡ None
no-close CloseSquare w is fs n = absurd (n refl)
no-close _ w is fs n = refl

pub no-bracket : (s : Symbol) (k : ℕ) → (s ≡ OpenRound → ⊥) → (s ≡ OpenSquare → ⊥) → (s ≡ CloseRound → ⊥) → (s ≡ CloseSquare → ⊥) → open_behind k (Sign s) ≡ k
no-bracket OpenRound k n m o p = absurd (n refl)
no-bracket OpenSquare k n m o p = absurd (m refl)
no-bracket CloseRound k n m o p = absurd (o refl)
no-bracket CloseSquare k n m o p = absurd (p refl)
no-bracket _ k n m o p = refl

pub no-minus : (s : Symbol) → (s ≡ MinusSign → ⊥) → counted in_offsets (Sign s) ≡ 1
no-minus MinusSign n = absurd (n refl)
no-minus _ n = refl

pub no-end : (s : Symbol) → (s ≡ CloseRound → ⊥) → place_behind in_offsets (Sign s) ≡ in_offsets
no-end CloseRound n = absurd (n refl)
no-end _ n = refl

-- behind a name only `(` begins offsets
pub opening-place : (t : Token) → opening_of t ≡ round → place_behind behind_name t ≡ in_offsets
opening-place (Sign OpenRound) e = refl
opening-place _ e = cc

pub other-place : (t : Token) → (opening_of t ≡ round → ⊥) → place_behind behind_name t ≡ place_outside t
other-place (Sign OpenRound) n = absurd (n refl)
other-place _ n = refl

pub ruleset refusals = (no-bracket, no-minus, no-end, no-mark, no-group, no-call, no-opening, no-component, no-components, no-close)
