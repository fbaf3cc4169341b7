-- Designs: a program, delays of its staged tensors, and a certificate that shows that no delays need less storage. The
-- staging and the network of a design follow from these.
use Rattle.std.specs.Prelude.{◌≡◌, ℕ, ◌^◌, ◌<◌, List, length, None}
use Rattle.std.specs.List.{All}
use Rattle.delay_net.specs.Certificate.{Fits}
use Rattle.delay_net.specs.Windows.{HasShortDelays, IsAssignment, MeetsWindows}
use Rattle.net_build.specs.Limits.{limit_passed}
use Rattle.net_build.specs.Planned.{plan_of}
use Rattle.soda_ir.specs.declared.program.Parts.{Parts}
use Rattle.soda_ir.specs.Program.{PlainProgram, plain}
use Rattle.soda_ir.specs.Valid.{IsValid}
use Rattle.time_stages.specs.Staged.{staged_reads, staged_widths}

-- a design as plain data: the delay of each staged tensor, and the hold and the need of each of their reads
pub record PlainDesign : Type 0 where
  pub program : PlainProgram
  pub delays : List ℕ
  pub hold : List ℕ
  pub need : List ℕ

-- each number fits 32 bits
abbrev pub AreSmall : List ℕ → Type 0
AreSmall numbers = All (λ n. n < 2 ^ 32) numbers

-- What a design is: a valid program; one delay for each staged tensor, below 2 ^ 62, that meets the windows; one hold
-- and one need for each read, with which the certificate fits the delays; and no limit of networks is passed.
pub record IsDesign (d : PlainDesign) : Type 0 where
  pub valid : IsValid d.program
  pub assignment : IsAssignment (staged_widths d.program) d.delays
  pub short : HasShortDelays d.delays
  pub meets : MeetsWindows (staged_reads d.program) d.delays
  pub holds : length d.hold ≡ length (staged_reads d.program)
  pub needs : length d.need ≡ length (staged_reads d.program)
  pub small_holds : AreSmall d.hold
  pub small_needs : AreSmall d.need
  pub fits : Fits (staged_widths d.program) (staged_reads d.program) d.delays d.hold d.need
  pub within : limit_passed (plan_of d.program d.delays) ≡ None

-- what the code has of a design: the parts of its program as they lie in memory
pub record Held : Type 0 where
  pub program : Parts
  pub delays : List ℕ
  pub hold : List ℕ
  pub need : List ℕ

-- the design that it holds
abbrev pub plain_design : Held → PlainDesign
plain_design h = record { program = plain h.program; delays = h.delays; hold = h.hold; need = h.need }
