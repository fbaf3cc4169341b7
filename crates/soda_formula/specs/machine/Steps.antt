-- The machine that reads a formula one token at a time: what it holds, and what a token makes of it.
use Rattle.std.specs.Prelude.{ℕ, nat_le, nat_lt, List, [], ◌∷◌, ◌++◌, length, codes, Option, Some, None, ℤ, pos, neg_ℤ, if◌then◌else◌}
use Rattle.soda_words.specs.declared.operators.UnOp.{UnOp}
use Rattle.soda_words.specs.declared.operators.UnOp.TheVariants.{Abs}
use Rattle.soda_words.specs.declared.operators.BinOp.{BinOp}
use Rattle.soda_words.specs.declared.operators.BinOp.TheVariants.{Min, Max}
use Rattle.soda_words.specs.Limits.{most_sizes}
use Rattle.soda_words.specs.Names.{is_cast_word, is_word}
use Rattle.soda_words.specs.OperatorTable.{binary_row, unary_row}
use Rattle.soda_words.specs.declared.symbol.Symbol.{Symbol}
use Rattle.soda_words.specs.declared.symbol.Symbol.TheVariants.{MinusSign, OpenRound, CloseRound, OpenSquare, CloseSquare, Comma}
use Rattle.soda_words.specs.declared.token.Placed.{Placed}
use Rattle.soda_words.specs.declared.token.Token.{Token}
use Rattle.soda_words.specs.declared.token.Token.TheVariants.{Name, Number, Sign, Bad}
use Rattle.soda_words.specs.declared.token.Word.{Word}
use Rattle.soda_formula.specs.Terms.{Term, literal, cell, value, unary, binary, choice, cast}
use Rattle.soda_formula.specs.Grammar.{Infix, infix_of, prefix_of}

-- what was begun and waits for the formula behind it
pub data Frame : Type 0 where
  -- a prefix operator
  behind_prefix : UnOp → Frame
  -- a left operand and the operator behind it
  behind_infix : (level : ℕ) → BinOp → Term → Frame
  -- a bracket
  in_group : Frame
  -- a cast word and a bracket
  in_cast : (type : Word) → Frame
  -- `abs` and a bracket
  in_abs : Frame
  -- `min` or `max` and a bracket
  in_first : BinOp → Frame
  -- the first of two formulas and a comma
  in_second : BinOp → Term → Frame
  -- `select` and a bracket
  in_test : Frame
  -- the first of three formulas and a comma
  in_then : Term → Frame
  -- the first two of three formulas and a comma
  in_else : Term → Term → Frame

-- what is read of the operand at hand
pub data Mode : Type 0 where
  -- an operand is to come
  wanted : Mode
  -- the word of a call or a cast; its bracket is to come
  called : Frame → Mode
  -- a whole operand
  whole : Term → Mode
  -- a name that isn't reserved
  named : Word → Mode
  -- in offsets: a component is to come
  at_component : Word → List ℤ → Mode
  -- in offsets: the number behind a minus sign is to come
  at_magnitude : Word → List ℤ → Mode
  -- in offsets, behind a component
  behind_component : Word → List ℤ → Mode
  -- an index is to come
  at_index : Word → List ℕ → Mode
  -- behind the number of an index
  at_close : Word → List ℕ → Mode
  -- behind some indexes
  indexed : Word → List ℕ → Mode

-- what the machine holds, the innermost frame first
pub record State : Type 0 where
  pub mode : Mode
  pub frames : List Frame

-- a term, and the frames around it
pub record Held : Type 0 where
  pub frames : List Frame
  pub term : Term

abbrev pub in_state : Mode → List Frame → Option State
in_state m fs = Some (record { mode = m; frames = fs })

-- the operators that bind at least as tightly as this level take their right operand
abbrev pub reduce : ℕ → List Frame → Term → Held
reduce l [] t = record { frames = []; term = t }
reduce l (behind_prefix op ∷ fs) t = reduce l fs (unary op t)
reduce l (behind_infix k op a ∷ fs) t =
    if nat_le l k then reduce l fs (binary op a t) else record { frames = behind_infix k op a ∷ fs; term = t }
reduce l (f ∷ fs) t = record { frames = f ∷ fs; term = t }

-- the operand that ends with `)`
abbrev pub enclosed : Frame → Term → Option Term
enclosed in_group t = Some t
enclosed (in_cast w) t = Some (cast w t)
enclosed in_abs t = Some (unary Abs t)
enclosed (in_second op a) t = Some (binary op a t)
enclosed (in_else c a) t = Some (choice c a t)
enclosed _ t = None

abbrev pub enclosed_in : Option Term → List Frame → Option State
enclosed_in None fs = None
enclosed_in (Some t) fs = in_state (whole t) fs

-- behind `)`
abbrev pub closing : List Frame → Term → Option State
closing [] t = None
closing (f ∷ fs) t = enclosed_in (enclosed f t) fs

-- what waits behind `,`
abbrev pub parted : Frame → Term → Option Frame
parted (in_first op) t = Some (in_second op t)
parted in_test t = Some (in_then t)
parted (in_then c) t = Some (in_else c t)
parted _ t = None

abbrev pub wanted_in : Option Frame → List Frame → Option State
wanted_in None fs = None
wanted_in (Some f) fs = in_state wanted (f ∷ fs)

-- behind `,`
abbrev pub parting : List Frame → Term → Option State
parting [] t = None
parting (f ∷ fs) t = wanted_in (parted f t) fs

-- behind a mark that is no operator between two operands
abbrev pub mark_after : Symbol → Held → Option State
mark_after CloseRound h = closing h.frames h.term
mark_after Comma h = parting h.frames h.term
mark_after _ h = None

-- behind an operator of this level
abbrev pub infix_after : Infix → Held → Option State
infix_after i h = in_state wanted (behind_infix i.level i.op h.term ∷ h.frames)

abbrev pub sign_after : Option Infix → Symbol → List Frame → Term → Option State
sign_after (Some i) s fs t = infix_after i (reduce i.level fs t)
sign_after None s fs t = mark_after s (reduce 0 fs t)

-- a token behind a whole operand
abbrev pub after : List Frame → Term → Token → Option State
after fs t (Sign s) = sign_after (infix_of s) s fs t
after fs t _ = None

-- what a word begins
abbrev pub word_mode : Word → Mode
word_mode w =
    if is_cast_word w.text then called (in_cast w) else
    (if is_word (binary_row Min).spelling w.text then called (in_first Min) else
    (if is_word (binary_row Max).spelling w.text then called (in_first Max) else
    (if is_word (unary_row Abs).spelling w.text then called in_abs else
    (if is_word (codes "select") w.text then called in_test else named w))))

-- a bracket where an operand is wanted
abbrev pub group_begun : Symbol → List Frame → Option State
group_begun OpenRound fs = in_state wanted (in_group ∷ fs)
group_begun _ fs = None

abbrev pub sign_begun : Option UnOp → Symbol → List Frame → Option State
sign_begun (Some op) s fs = in_state wanted (behind_prefix op ∷ fs)
sign_begun None s fs = group_begun s fs

-- a token where an operand is wanted
abbrev pub begun : List Frame → ℕ → Token → Option State
begun fs line (Name text) = in_state (word_mode (record { line = line; text = text })) fs
begun fs line (Number n) = in_state (whole (literal n)) fs
begun fs line (Sign s) = sign_begun (prefix_of s) s fs
begun fs line Bad = None

-- a token where the bracket of a call is wanted
abbrev pub opened : Frame → List Frame → Token → Option State
opened f fs (Sign OpenRound) = in_state wanted (f ∷ fs)
opened f fs _ = None

-- an opening bracket, or another token
pub data Opening : Type 0 where
  round : Opening
  square : Opening
  none : Opening

abbrev pub opening_of : Token → Opening
opening_of (Sign OpenRound) = round
opening_of (Sign OpenSquare) = square
opening_of _ = none

-- a token behind a name
abbrev pub name_followed : Opening → Word → List Frame → Token → Option State
name_followed round w fs t = in_state (at_component w []) fs
name_followed square w fs t = in_state (at_index w []) fs
name_followed none w fs t = after fs (value w []) t

-- a token behind some indexes
abbrev pub index_followed : Opening → Word → List ℕ → List Frame → Token → Option State
index_followed square w is fs t = if nat_lt (length is) most_sizes then in_state (at_index w is) fs else None
index_followed round w is fs t = None
index_followed none w is fs t = after fs (value w is) t

-- a token where a component is wanted
abbrev pub component : Word → List ℤ → List Frame → Token → Option State
component w zs fs (Number n) = in_state (behind_component w (zs ++ pos n ∷ [])) fs
component w zs fs (Sign MinusSign) = in_state (at_magnitude w zs) fs
component w zs fs _ = None

-- a token behind the minus sign of a component
abbrev pub magnitude : Word → List ℤ → List Frame → Token → Option State
magnitude w zs fs (Number n) = in_state (behind_component w (zs ++ neg_ℤ (pos n) ∷ [])) fs
magnitude w zs fs _ = None

-- a token behind a component
abbrev pub component_followed : Word → List ℤ → List Frame → Token → Option State
component_followed w zs fs (Sign Comma) = in_state (at_component w zs) fs
component_followed w zs fs (Sign CloseRound) = in_state (whole (cell w zs)) fs
component_followed w zs fs _ = None

-- a token where an index is wanted
abbrev pub index : Word → List ℕ → List Frame → Token → Option State
index w is fs (Number n) = in_state (at_close w (is ++ n ∷ [])) fs
index w is fs _ = None

-- a token behind the number of an index
abbrev pub index_closed : Word → List ℕ → List Frame → Token → Option State
index_closed w is fs (Sign CloseSquare) = in_state (indexed w is) fs
index_closed w is fs _ = None

-- the state behind a token, if some formula goes on with it
abbrev pub feed : Mode → List Frame → Placed → Option State
feed wanted fs p = begun fs p.line p.token
feed (called f) fs p = opened f fs p.token
feed (whole t) fs p = after fs t p.token
feed (named w) fs p = name_followed (opening_of p.token) w fs p.token
feed (at_component w zs) fs p = component w zs fs p.token
feed (at_magnitude w zs) fs p = magnitude w zs fs p.token
feed (behind_component w zs) fs p = component_followed w zs fs p.token
feed (at_index w is) fs p = index w is fs p.token
feed (at_close w is) fs p = index_closed w is fs p.token
feed (indexed w is) fs p = index_followed (opening_of p.token) w is fs p.token

-- the operand that may end here
abbrev pub operand : Mode → Option Term
operand (whole t) = Some t
operand (named w) = Some (value w [])
operand (indexed w is) = Some (value w is)
operand _ = None

-- the term that no frame is around
abbrev pub left_alone : Held → Option Term
left_alone h = elim h.frames [ [] ↦ Some h.term | f ∷ fs ↦ None ]

abbrev pub finished : Option Term → List Frame → Option Term
finished None fs = None
finished (Some t) fs = left_alone (reduce 0 fs t)

-- the formula that may end here
abbrev pub finish : State → Option Term
finish s = finished (operand s.mode) s.frames

abbrev pub then_feed : Option State → Placed → Option State
then_feed None p = None
then_feed (Some s) p = feed s.mode s.frames p

-- the state behind some tokens
abbrev pub feeds : Option State → List Placed → Option State
feeds o [] = o
feeds o (p ∷ ps) = feeds (then_feed o p) ps

-- the state where a formula begins
abbrev pub start : Option State
start = in_state wanted []

-- the formula that may end behind some tokens
abbrev pub ends : Option State → Option Term
ends None = None
ends (Some s) = finish s
