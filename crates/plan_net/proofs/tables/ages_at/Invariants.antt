use Rattle.std.proofs.Common.{◌≡◌, ◌<◌, All, map, take}
use Rattle.net_shape.specs.Plans.{age_of}
use Rattle.net_shape.specs.Queues.{read_at}
use Rattle.reuse_chain.specs.Limits.{age_end}
use Rattle.plan_net.proofs.tables.ages_at.Given as goal

-- the ages of the reads so far
abbrev pub invariant-loop-number : goal.invariant-loop-number
invariant-loop-number l = record {
  told : l.ages.items ≡ map (λ n. age_of l.layout (read_at l.layout n)) (take l.number-index l.numbers);
  short : All (λ age. age < age_end) l.ages.items;
}
