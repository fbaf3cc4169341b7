-- A plan within the limits of the code that makes its network.
use Rattle.std.specs.Prelude.{◌≡◌, ◌<◌, ◌≤◌, ℕ, All, List, length, map}
use Rattle.delay_net.specs.Limits.{most_reads, most_tensors}
use Rattle.net_shape.specs.Plans.{IsPlan, Plan, age_of}
use Rattle.reuse_chain.specs.Limits.{age_end, most_lanes}

-- a plan of few lanes, tensors and reads, and the ages of its reads, which are short
pub record IsLayout (p : Plan) (given : List ℕ) : Type 0 where
  pub plan : IsPlan p
  pub few_lanes : p.unroll ≤ most_lanes
  pub few_tensors : length p.kinds ≤ most_tensors
  pub few_reads : length p.reads ≤ most_reads
  pub ages : given ≡ map (age_of p) p.reads
  pub short : All (λ age. age < age_end) given
