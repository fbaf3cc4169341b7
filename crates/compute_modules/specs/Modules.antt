-- Computing modules: what a module sends, for which cell, and how many ports it has.
use Rattle.std.specs.Prelude.{ℕ, List, Option, ℤ, pos}
use Rattle.soda_words.specs.IntType.{IntType}
use Rattle.int_types.specs.Ranges.{wrapped}
use Rattle.formula_code.specs.declared.code.Code.{Code}
use Rattle.compute_modules.specs.declared.module.ComputeModule.{ComputeModule}
use Rattle.compute_modules.specs.declared.side.Side.{Side}
use Rattle.compute_modules.specs.declared.side.Spot.{Spot}
use Rattle.compute_modules.specs.declared.side.Spot.TheVariants.{Inside, Nowhere, Outside}
use Rattle.compute_modules.specs.declared.tap.Tap.{Tap}
use Rattle.compute_modules.specs.pieces.Formulas.{code_value}
use Rattle.compute_modules.specs.pieces.Taps.{border_taken}
use Rattle.compute_modules.specs.pieces.Walks.{box, number_at, spot_in}

-- the one value inside the region, the other outside it, and 0 where there is no cell
abbrev pub by_spot : Spot → (inner outer : ℤ) → ℤ
by_spot Nowhere inner outer = pos 0
by_spot Inside inner outer = inner
by_spot Outside inner outer = outer

-- what is sent for the cell of a number, by the parts that a module is made of
abbrev pub sent_for : IntType → Code → List Tap → Option Tap → List Side → (ports : List ℤ) → ℤ → ℤ
sent_for ty code taps border sides ports z =
    by_spot (spot_in sides z) (wrapped ty (code_value code taps ports)) (border_taken border ports)

-- what a module sends for the cell of a number, where its ports hold these
unfoldable pub value_of : ComputeModule → (ports : List ℤ) → ℤ → ℤ
value_of m = sent_for m.ty m.formula.code m.formula.taps.items m.border (box m.walk.sides.items)

-- the number of the cell that its next firing is about
abbrev pub place_of : ComputeModule → ℤ
place_of m = number_at m.walk.at m.walk.early

-- how far behind that the cell of the firing after it stands
abbrev pub step_of : ComputeModule → ℕ
step_of m = m.walk.step

-- how many ports it has
abbrev pub count_of : ComputeModule → ℕ
count_of m = m.ports
