use Rattle.std.proofs.Common.{◌<◌, ap, ◌∙◌, subst, sym, refl, All, arith}
use Rattle.net_ir.specs.declared.network.Ends.{Ends}
use Rattle.net_ir.specs.Nets.{queue_at}
use Rattle.net_ir.proofs.Ends.{entrances_known}
use Rattle.net_ir.proofs.Listing.{listed_further}
use Rattle.net_ir.proofs.network.list_queue.Goals as goal

pub put_by_port-requires-clause-others : goal.put_by_port-requires-clause-others
put_by_port-requires-clause-others c =
    let queues = c.args.queues.now in
    let e : Ends = c.index_mut-to.result.now in
    let t = (queue_at queues c.args.number).to in
    let same = ap (λ (x : Ends). x.entrances.items) c.index_mut-to.ensures.value ∙ c.requires.listed.entrances_at t e c.requires.to in
    let known : All (λ n. n < c.args.number) e.entrances.items = subst (All (λ n. n < c.args.number)) (sym same) (entrances_known queues t c.args.number) in
    λ k d h. omega (arith, known k d h)

pub returns : goal.returns
returns c =
    let was : Ends = c.index_mut-to.result.now in
    let from : Ends = c.index_mut-from.result.now in
    listed_further c.args.queues.now c.args.ends.now.items c.args.number
    was (record { entrances = c.put_by_port.new.ports; exits = was.exits })
    from (record { entrances = from.entrances; exits = c.push.new.self })
    c.requires.listed c.requires.to c.requires.from
    c.index_mut-to.ensures.value c.in_ok-put_by_port.ensures refl
    c.index_mut-from.ensures.value refl c.in_ok-push.ensures.items
