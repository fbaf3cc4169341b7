-- What the reader's values stand for in the machine.
use Rattle.std.specs.Prelude.{◌≡◌, ◌<◌, ℕ, List, [], ◌∷◌, length, Option, Some, None, option_map}
use Rattle.soda_formula.specs.declared.frame.Infix.{Infix as Operator}
use Rattle.soda_formula.specs.declared.frame.Frame.{Frame as Waiting}
use Rattle.soda_formula.specs.declared.frame.Frame.TheVariants as waiting
use Rattle.soda_formula.specs.declared.frame.Mode.{Mode as Reading}
use Rattle.soda_formula.specs.declared.frame.Mode.TheVariants as reading
use Rattle.soda_formula.specs.declared.frame.Reader.{Reader}
use Rattle.soda_formula.specs.declared.frame.Fed.{Fed}
use Rattle.soda_formula.specs.declared.frame.Fed.TheVariants.{On, End}
use Rattle.soda_formula.specs.declared.frame.Taken.{Taken}
use Rattle.soda_formula.specs.declared.frame.Taken.TheVariants.{Again, Done}
use Rattle.soda_formula.specs.declared.frame.Opening.{Opening as Bracket}
use Rattle.soda_formula.specs.declared.frame.Opening.TheVariants as bracket
use Rattle.soda_formula.specs.declared.size.Place.{Place as Spot}
use Rattle.soda_formula.specs.declared.size.Place.TheVariants as spot
use Rattle.soda_formula.specs.declared.written.Written.{Written}
use Rattle.soda_formula.specs.Reading.{Place, outside, behind_name, in_offsets}
use Rattle.soda_formula.specs.Terms.{Term}
use Rattle.soda_formula.specs.Tree.{term_of}
use Rattle.soda_formula.specs.Grammar.{Infix}
use Rattle.soda_formula.specs.machine.Steps.{Frame, behind_prefix, behind_infix, in_group, in_cast, in_abs, in_first, in_second, in_test, in_then, in_else, Mode, wanted, called, whole, named, at_component, at_magnitude, behind_component, at_index, at_close, indexed, State, Held, reduce, Opening, round, square, none}

abbrev pub infix_as : Operator → Infix
infix_as i = record { level = i.level; op = i.op }

abbrev pub frame_of : Waiting → Frame
frame_of (waiting.Prefix op) = behind_prefix op
frame_of (waiting.Infix i left) = behind_infix i.level i.op (term_of left)
frame_of waiting.Group = in_group
frame_of (waiting.Cast w) = in_cast w
frame_of waiting.Abs = in_abs
frame_of (waiting.First op) = in_first op
frame_of (waiting.Second op a) = in_second op (term_of a)
frame_of waiting.Test = in_test
frame_of (waiting.Then c) = in_then (term_of c)
frame_of (waiting.Else c a) = in_else (term_of c) (term_of a)

-- these frames around some more, the innermost last
unfoldable pub stacked : List Frame → List Waiting → List Frame
stacked around [] = around
stacked around (f ∷ fs) = stacked (frame_of f ∷ around) fs

unfoldable pub frames_of : List Waiting → List Frame
frames_of fs = stacked [] fs

abbrev pub mode_of : Reading → Mode
mode_of reading.Wanted = wanted
mode_of (reading.Called f) = called (frame_of f)
mode_of (reading.Whole a) = whole (term_of a)
mode_of (reading.Named w) = named w
mode_of (reading.Component w zs) = at_component w zs
mode_of (reading.Magnitude w zs) = at_magnitude w zs
mode_of (reading.BehindComponent w zs) = behind_component w zs
mode_of (reading.Index w is) = at_index w is
mode_of (reading.Close w is) = at_close w is
mode_of (reading.Indexed w is) = indexed w is

abbrev pub opening_as : Bracket → Opening
opening_as bracket.Round = round
opening_as bracket.Square = square
opening_as bracket.Neither = none

abbrev pub place_as : Spot → Place
place_as spot.Outside = outside
place_as spot.BehindName = behind_name
place_as spot.InOffsets = in_offsets

abbrev pub state_of : Reader → State
state_of r = record { mode = mode_of r.mode; frames = frames_of r.frames }

-- an operand, and the frames around it
abbrev pub held : List Waiting → Written → Held
held fs w = record { frames = frames_of fs; term = term_of w }

-- what a token did is this: the state behind it, if there is one, and else the formula in front of it
abbrev pub IsFed : Option State → Option Term → Fed → Type 0
IsFed next found (On r) = Some (state_of r) ≡ next
IsFed next found (End w) = (next ≡ None) × (option_map term_of w ≡ found)

-- what became of an operand: one operator less with a larger operand, or all that this level asks for
abbrev pub IsTaken : ℕ → List Waiting → List Waiting → Term → Taken → Type 0
IsTaken level before fs t (Again w) =
    (reduce level (frames_of before) t ≡ reduce level (frames_of fs) (term_of w)) × (length fs < length before)
IsTaken level before fs t (Done w) =
    reduce level (frames_of before) t ≡ held fs w
