use Rattle.net_shape.specs.Plans.{taps_at}
use Rattle.net_shape.proofs.Numbers.{taps_rise}
use Rattle.net_shape.proofs.Rising.{gap_positive}
use Rattle.net_shape.proofs.Sizes.{gaps_are}
use Rattle.net_shape.proofs.laws.gaps_are_of_taps.Goals as goal

pub returns-clause-gaps : goal.returns-clause-gaps
returns-clause-gaps c = λ p v lane plan. gaps_are (taps_at p v lane) (taps_rise p v lane plan.lanes)

pub returns-clause-some : goal.returns-clause-some
returns-clause-some c = λ p v lane tap plan has. gap_positive (taps_at p v lane) tap (taps_rise p v lane plan.lanes) has
