-- The value of a formula's code over what is at its taps.
use Rattle.std.specs.Prelude.{List, map, ℤ}
use Rattle.soda_ir.specs.Formula.{Formula}
use Rattle.soda_eval.specs.Values.{IsReadable, Scope, Values}
use Rattle.lane_code.specs.Lanes.{at, top}
use Rattle.lane_code.specs.Machine.{stack_after}
use Rattle.lane_code.specs.Reads.{Agree, plain_read}
use Rattle.formula_code.specs.Codes.{IsCode}
use Rattle.formula_code.specs.declared.code.Code.{Code}
use Rattle.compute_modules.specs.declared.tap.Tap.{Tap}
use Rattle.compute_modules.specs.pieces.Taps.{taken}

-- what the code leaves, where its reads are what is at the taps
abbrev pub code_value : Code → List Tap → (ports : List ℤ) → ℤ
code_value code taps ports = top (stack_after code.wide.instrs (at (map (taken ports) taps)))

-- it is the code of a formula, which can be read whatever the ports hold
pub record HasFormula (code : Code) (taps : List Tap) : Type 0 where
  pub scope : Scope
  pub params : List ℤ
  pub formula : Formula
  pub compiled : IsCode scope params formula code
  pub cells : (ports : List ℤ) → Values
  pub agree : (ports : List ℤ) → Agree (map plain_read code.wide.reads) (at (map (taken ports) taps)) (cells ports)
  pub readable : (ports : List ℤ) → IsReadable scope (cells ports) params formula
