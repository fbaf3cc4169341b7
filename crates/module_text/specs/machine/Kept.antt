-- What a design keeps beside what it is.
use Rattle.std.specs.Prelude.{◌≡◌}
use Rattle.net_ir.specs.Nets.{Net}
use Rattle.net_build.specs.Planned.{net_under}
use Rattle.soda_ir.specs.Program.{plain}
use Rattle.time_stages.specs.declared.staging.Staged.{Staged}
use Rattle.time_stages.specs.Staged.{staged}
use Rattle.module_text.specs.Designs.{Held, IsDesign, plain_design}

-- it is a design, and the staging and the network are those of it
pub record IsKept (h : Held) (staging : Staged) (network : Net) : Type 0 where
  pub is : IsDesign (plain_design h)
  pub staging_is : staging ≡ staged (plain h.program)
  pub network_is : network ≡ net_under (plain h.program) h.delays
