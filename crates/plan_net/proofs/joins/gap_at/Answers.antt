use Rattle.std.proofs.Common.{◌≡◌, ◌+◌, ◌-◌, ◌∙◌, ap, sym, arith, get_or}
use Rattle.reuse_chain.proofs.CallerLemmas.{rises}
use Rattle.net_shape.specs.Modules.{gap_of}
use Rattle.plan_net.proofs.Standing.{gap_place}
use Rattle.plan_net.proofs.joins.gap_at.Goals as goal

pub returns-else-place-eq0 : goal.returns-else-place-eq0
returns-else-place-eq0 c =
    let ts = c.args.taps.now in
    let i : c.args.place - 1 + 1 ≡ c.args.place = omega (arith, c.if-place-eq0.false) in
    let is = gap_place 0 ts (c.args.place - 1) (rises ts c.requires.rising) (omega (arith, i, c.requires.within)) in
    sym (ap (λ k. gap_of ts (get_or ts k 0)) (sym i) ∙ is ∙ ap (λ k. get_or ts k 0 - get_or ts (c.args.place - 1) 0) i)
