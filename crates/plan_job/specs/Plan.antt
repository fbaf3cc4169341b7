-- What is printed of a program's plan. Of the delays there is one choice; of the certificate any that fits will do.
use Rattle.std.specs.Prelude.{◌≡◌, ℕ, ◌≤◌, List, ◌∷◌, ◌++◌, codes}
use Rattle.delay_net.specs.Certificate.{Fits}
use Rattle.delay_net.specs.Windows.{IsAssignment, MeetsWindows, total_storage}
use Rattle.flow_solve.specs.LeastPlan.{IsLeastPlan}
use Rattle.soda_ir.specs.Program.{PlainProgram}
use Rattle.soda_print.specs.Canonical.{ended}
use Rattle.time_stages.specs.Staged.{staged_reads, staged_widths}
use Rattle.design_lines.specs.PlanLines.{plan_lines}

-- the total storage in bits of the staged program under these delays
abbrev pub storage_under : PlainProgram → List ℕ → ℕ
storage_under p delays = total_storage (staged_widths p) (staged_reads p) delays

-- The text is the kernel's line and the lines of a plan: its delays are those of least storage that are pointwise
-- least, no other delays that meet the windows need less storage, and the certificate shows it.
pub record IsPlanText (p : PlainProgram) (text : List ℕ) : Type 0 where
  pub delays : List ℕ
  pub hold : List ℕ
  pub need : List ℕ
  pub plan : IsLeastPlan (staged_widths p) (staged_reads p) delays
  pub least : (others : List ℕ) → IsAssignment (staged_widths p) others → MeetsWindows (staged_reads p) others
      → storage_under p delays ≤ storage_under p others
  pub fits : Fits (staged_widths p) (staged_reads p) delays hold need
  pub lines : text ≡ ended ((codes "kernel " ++ p.kernel) ∷ plan_lines p delays hold need)
