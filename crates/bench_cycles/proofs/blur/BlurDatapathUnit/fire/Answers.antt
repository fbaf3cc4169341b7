use Rattle.std.proofs.Common.{◌≡◌, ◌∙◌, List, get_or, sym, ap, arith, rules}
use Rattle.std.proofs.lemmas.Int.{to_z-of_z}
use mir.Syntax.{w128}
use mir.Val.{SFits}
use Rattle.net_ir.specs.declared.network.Module.{Module}
use Rattle.net_ir.specs.declared.network.Module.TheVariants.{Source, Forward, Compute, Sink}
use Rattle.bench_cycles.proofs.Laws.{lawful_sends}
use Rattle.bench_cycles.proofs.blur.BlurDatapathUnit.fire.Goals as goal

pub returns-in-Source-clause-sent : goal.returns-in-Source-clause-sent
returns-in-Source-clause-sent c stream law =
    let kind : Module = Source c.in-Source.tensor in
    let is : get_or c.modules.result.now c.args.module (Source 0) ≡ kind = c.in-Source.is in
    lawful_sends c.args.net.now stream c.args.module _ c.args.ports.now c.send_cells.new.sends kind law
    c.requires.known (ap (λ (xs : List Module). get_or xs c.args.module (Source 0)) (sym c.modules.ensures.value) ∙ is) (c.requires.found stream law)
    (c.send_cells.auto.sends ∙ c.requires.sends)
    (λ j h. c.send_cells.ensures j (omega (arith, c.send_cells.auto.sends)))

pub returns-in-Forward-clause-sent : goal.returns-in-Forward-clause-sent
returns-in-Forward-clause-sent c stream law =
    let kind : Module = Forward c.in-Forward.tensor c.in-Forward.lane c.in-Forward.tap in
    let is : get_or c.modules.result.now c.args.module (Source 0) ≡ kind = c.in-Forward.is in
    let fits : SFits w128 c.first.result = search rules in
    lawful_sends c.args.net.now stream c.args.module _ c.args.ports.now c.send_same.new.sends kind law
    c.requires.known (ap (λ (xs : List Module). get_or xs c.args.module (Source 0)) (sym c.modules.ensures.value) ∙ is) (c.requires.found stream law)
    (c.send_same.auto.sends ∙ c.requires.sends)
    (λ j h. c.send_same.ensures j (omega (arith, c.send_same.auto.sends))
    ∙ to_z-of_z w128 c.first.result fits ∙ c.first.ensures)

pub returns-in-Compute-clause-sent : goal.returns-in-Compute-clause-sent
returns-in-Compute-clause-sent c stream law =
    let kind : Module = Compute c.in-Compute.tensor c.in-Compute.lane in
    let is : get_or c.modules.result.now c.args.module (Source 0) ≡ kind = c.in-Compute.is in
    let fits : SFits w128 c.sum.result = search rules in
    lawful_sends c.args.net.now stream c.args.module _ c.args.ports.now c.send_same-in-Compute.new.sends kind law
    c.requires.known (ap (λ (xs : List Module). get_or xs c.args.module (Source 0)) (sym c.modules.ensures.value) ∙ is) (c.requires.found stream law)
    (c.send_same-in-Compute.auto.sends ∙ c.requires.sends)
    (λ j h. c.send_same-in-Compute.ensures j (omega (arith, c.send_same-in-Compute.auto.sends))
    ∙ to_z-of_z w128 c.sum.result fits ∙ c.sum.ensures)

pub returns-in-Sink-clause-sent : goal.returns-in-Sink-clause-sent
returns-in-Sink-clause-sent c stream law =
    let kind : Module = Sink c.in-Sink.tensor in
    let is : get_or c.modules.result.now c.args.module (Source 0) ≡ kind = c.in-Sink.is in
    lawful_sends c.args.net.now stream c.args.module _ c.args.ports.now c.send_same-in-Sink.new.sends kind law
    c.requires.known (ap (λ (xs : List Module). get_or xs c.args.module (Source 0)) (sym c.modules.ensures.value) ∙ is) (c.requires.found stream law)
    (c.send_same-in-Sink.auto.sends ∙ c.requires.sends)
    (λ j h. c.send_same-in-Sink.ensures j (omega (arith, c.send_same-in-Sink.auto.sends)))
