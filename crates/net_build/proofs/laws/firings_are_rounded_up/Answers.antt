use Rattle.std.proofs.Common.{◌+◌}
use Rattle.net_build.specs.Limits.{greatest_delay}
use Rattle.net_build.proofs.Rounded.{rounded_up}
use Rattle.net_build.proofs.laws.firings_are_rounded_up.Goals as goal

pub returns : goal.returns
returns c = λ cells p n some. rounded_up (cells + greatest_delay p) p.unroll n some
