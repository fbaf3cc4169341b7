-- What `compile` writes and prints of a program: the text of its design under the least plan, and the size of its
-- network. Of the delays there is one choice; of the certificate in the text any that fits will do.
use Rattle.std.specs.Prelude.{◌≡◌, ℕ, List, ◌++◌, codes, length, Option}
use Rattle.std.specs.Fmt.{decimal}
use Rattle.flow_solve.specs.LeastPlan.{IsLeastPlan}
use Rattle.soda_ir.specs.Program.{PlainProgram}
use Rattle.soda_ir.specs.declared.limit.LimitKind.{LimitKind}
use Rattle.time_stages.specs.Staged.{staged_reads, staged_widths}
use Rattle.net_build.specs.Limits.{limit_passed}
use Rattle.net_build.specs.Planned.{net_under, plan_of}
use Rattle.plan_job.specs.Plan.{storage_under}
use Rattle.module_text.specs.Designs.{PlainDesign}
use Rattle.module_text.specs.Texts.{IsDesignText, version_1}

-- the text of a design of this program: its delays are the least plan, and its certificate fits them
pub record IsModuleText (p : PlainProgram) (text : List ℕ) : Type 0 where
  pub design : PlainDesign
  pub program : design.program ≡ p
  pub plan : IsLeastPlan (staged_widths p) (staged_reads p) design.delays
  pub text_is : IsDesignText version_1 text design

-- so many modules, queues and bits of storage, a line each
abbrev pub size_of : (modules queues bits : ℕ) → List ℕ
size_of modules queues bits = codes "modules " ++ (decimal modules
    ++ (codes "\nqueues " ++ (decimal queues ++ (codes "\nstorage " ++ (decimal bits ++ codes "\n")))))

-- the size of the network of a program under these delays: its modules, its queues, and its storage in bits
abbrev pub size_lines : PlainProgram → (delays : List ℕ) → List ℕ
size_lines p delays =
    size_of (length (net_under p delays).modules) (length (net_under p delays).queues) (storage_under p delays)

-- the lines are those of the size of the program's network under its least plan
pub record IsSizeText (p : PlainProgram) (lines : List ℕ) : Type 0 where
  pub delays : List ℕ
  pub plan : IsLeastPlan (staged_widths p) (staged_reads p) delays
  pub lines_are : lines ≡ size_lines p delays

-- this limit of networks is the first that the network passes under the least plan, with the number that passes it; or
-- it passes none
pub record PassesLimit (p : PlainProgram) (passed : Option (LimitKind × ℕ)) : Type 0 where
  pub delays : List ℕ
  pub plan : IsLeastPlan (staged_widths p) (staged_reads p) delays
  pub passes : limit_passed (plan_of p delays) ≡ passed
