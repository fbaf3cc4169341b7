-- A design of a program under its least plan.
use Rattle.std.specs.Prelude.{◌≡◌}
use Rattle.flow_solve.specs.LeastPlan.{IsLeastPlan}
use Rattle.module_text.specs.Designs.{IsDesign, PlainDesign}
use Rattle.soda_ir.specs.Program.{PlainProgram}
use Rattle.time_stages.specs.Staged.{staged_reads, staged_widths}

-- a design of this program under its least plan
pub record IsLeastDesign (p : PlainProgram) (d : PlainDesign) : Type 0 where
  pub design : IsDesign d
  pub program : d.program ≡ p
  pub plan : IsLeastPlan (staged_widths p) (staged_reads p) d.delays
