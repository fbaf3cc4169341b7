use Rattle.std.proofs.Common.{◌≡◌, ◌∙◌, ℕ, ℤ, pos, List, [], ◌∷◌, ◌++◌, get_or, sym, ap, subst, arith, rules}
use Rattle.std.proofs.lemmas.Int.{to_z-of_z}
use mir.Syntax.{w128}
use mir.Val.{SFits, to_z, of_z}
use Rattle.net_ir.specs.declared.network.Module.{Module}
use Rattle.net_ir.specs.declared.network.Module.TheVariants.{Source, Forward, Compute, Sink}
use Rattle.net_cycles.specs.Between.{fired_once}
use Rattle.cycle_rows.specs.Relayed.{module_at, AgreesWith, IsReady}
use Rattle.cycle_rows.proofs.Sent.{sent_all, narrower, not_source, not_sink, ready_read, cell_at, ready_given}
use Rattle.cycle_rows.proofs.relay.RelayDatapath.fire.Goals as goal

pub returns-then-module-self-clause-sent : goal.returns-then-module-self-clause-sent
returns-then-module-self-clause-sent g c stream agrees =
    let net = c.args.net.now in
    let self = c.args.self.now in
    let fired = c.args._fired.now in
    let m = c.args.module in
    let kind : Module = Source c.in-Source.tensor in
    let found_kind : get_or c.modules.result.now m (Source 0) ≡ kind = c.in-Source.is in
    let is : module_at net m ≡ kind = ap (λ (xs : List Module). get_or xs m (Source 0)) (sym c.modules.ensures.value) ∙ found_kind in
    sent_all net self.source stream m (get_or fired m 0) kind self.read.items c.args.ports.now c.send_same.new.sends (pos 0) is agrees
    c.requires.known (c.requires.found stream agrees) (c.send_same.auto.sends ∙ c.requires.sends)
    (λ j h. c.send_same.ensures j (omega (arith, c.send_same.auto.sends))) (λ w s. s.1 c.if-module-self.true)

pub returns-in-Forward-clause-sent : goal.returns-in-Forward-clause-sent
returns-in-Forward-clause-sent g c stream agrees =
    let net = c.args.net.now in
    let self = c.args.self.now in
    let fired = c.args._fired.now in
    let m = c.args.module in
    let kind : Module = Forward c.in-Forward.tensor c.in-Forward.lane c.in-Forward.tap in
    let found_kind : get_or c.modules.result.now m (Source 0) ≡ kind = c.in-Forward.is in
    let is : module_at net m ≡ kind = ap (λ (xs : List Module). get_or xs m (Source 0)) (sym c.modules.ensures.value) ∙ found_kind in
    let fits : SFits w128 c.first.result = search rules in
    sent_all net self.source stream m (get_or fired m 0) kind self.read.items c.args.ports.now c.send_same-in-Forward.new.sends c.first.result is agrees
    c.requires.known (c.requires.found stream agrees) (c.send_same-in-Forward.auto.sends ∙ c.requires.sends)
    (λ j h. c.send_same-in-Forward.ensures j (omega (arith, c.send_same-in-Forward.auto.sends)) ∙ to_z-of_z w128 c.first.result fits)
    (λ w s. s ∙ sym c.first.ensures)

pub returns-in-Compute-clause-sent : goal.returns-in-Compute-clause-sent
returns-in-Compute-clause-sent g c stream agrees =
    let net = c.args.net.now in
    let self = c.args.self.now in
    let fired = c.args._fired.now in
    let m = c.args.module in
    let kind : Module = Compute c.in-Compute.tensor c.in-Compute.lane in
    let found_kind : get_or c.modules.result.now m (Source 0) ≡ kind = c.in-Compute.is in
    let is : module_at net m ≡ kind = ap (λ (xs : List Module). get_or xs m (Source 0)) (sym c.modules.ensures.value) ∙ found_kind in
    let fits : SFits w128 c.sum.result = search rules in
    sent_all net self.source stream m (get_or fired m 0) kind self.read.items c.args.ports.now c.send_same-in-Compute.new.sends c.sum.result is agrees
    c.requires.known (c.requires.found stream agrees) (c.send_same-in-Compute.auto.sends ∙ c.requires.sends)
    (λ j h. c.send_same-in-Compute.ensures j (omega (arith, c.send_same-in-Compute.auto.sends)) ∙ to_z-of_z w128 c.sum.result fits)
    (λ w s. s ∙ sym c.sum.ensures)

pub returns-then-module-self-2-clause-sent : goal.returns-then-module-self-2-clause-sent
returns-then-module-self-2-clause-sent g c stream agrees =
    let net = c.args.net.now in
    let self = c.args.self.now in
    let fired = c.args._fired.now in
    let m = c.args.module in
    let kind : Module = Sink c.in-Sink.tensor in
    let found_kind : get_or c.modules.result.now m (Source 0) ≡ kind = c.in-Sink.is in
    let is : module_at net m ≡ kind = ap (λ (xs : List Module). get_or xs m (Source 0)) (sym c.modules.ensures.value) ∙ found_kind in
    sent_all net self.source stream m (get_or fired m 0) kind self.read.items c.args.ports.now c.send_same-in-Sink.new.sends (pos 0) is agrees
    c.requires.known (c.requires.found stream agrees) (c.send_same-in-Sink.auto.sends ∙ c.requires.sends)
    (λ j h. c.send_same-in-Sink.ensures j (omega (arith, c.send_same-in-Sink.auto.sends))) (λ w s. s)

pub returns-in-Ok-push-clause-sent : goal.returns-in-Ok-push-clause-sent
returns-in-Ok-push-clause-sent g c stream agrees =
    let net = c.args.net.now in
    let self = c.args.self.now in
    let fired = c.args._fired.now in
    let m = c.args.module in
    let kind : Module = Sink c.in-Sink.tensor in
    let found_kind : get_or c.modules.result.now m (Source 0) ≡ kind = c.in-Sink.is in
    let is : module_at net m ≡ kind = ap (λ (xs : List Module). get_or xs m (Source 0)) (sym c.modules.ensures.value) ∙ found_kind in
    sent_all net self.source stream m (get_or fired m 0) kind self.read.items c.args.ports.now c.send_same-in-Sink.new.sends (pos 0) is agrees
    c.requires.known (c.requires.found stream agrees) (c.send_same-in-Sink.auto.sends ∙ c.requires.sends)
    (λ j h. c.send_same-in-Sink.ensures j (omega (arith, c.send_same-in-Sink.auto.sends))) (λ w s. s)

pub returns-in-Ok-clause-sent : goal.returns-in-Ok-clause-sent
returns-in-Ok-clause-sent g c stream agrees =
    let net = c.args.net.now in
    let self = c.args.self.now in
    let fired = c.args._fired.now in
    let m = c.args.module in
    let kind : Module = Source c.in-Source.tensor in
    let found_kind : get_or c.modules.result.now m (Source 0) ≡ kind = c.in-Source.is in
    let is : module_at net m ≡ kind = ap (λ (xs : List Module). get_or xs m (Source 0)) (sym c.modules.ensures.value) ∙ found_kind in
    let k : ℕ = get_or fired m 0 in
    let cell : ℤ = to_z w128 (of_z w128 c.in-Some.cell) in
    let read : List ℤ = self.read.items ++ cell ∷ [] in
    let pushed : c.push.new.self.items ≡ read = c.in-Ok.ensures.items in
    let agree : AgreesWith net self.source read stream = subst (λ (xs : List ℤ). AgreesWith net self.source xs stream) pushed agrees in
    let before : AgreesWith net self.source self.read.items stream = narrower net self.source self.read.items (cell ∷ []) stream agree in
    let at = cell_at net self.source self.sink self.read.items self.given.items fired c.requires.ready m kind is c.requires.known
    c.requires.whole cell c.if-module-self.false in
    sent_all net self.source stream m k kind read c.args.ports.now c.send_same-in-Source.new.sends cell is agree
    c.requires.known (c.requires.found stream before) (c.send_same-in-Source.auto.sends ∙ c.requires.sends)
    (λ j h. c.send_same-in-Source.ensures j (omega (arith, c.send_same-in-Source.auto.sends)))
    (λ w s. s.0 c.if-module-self.false at.0 ∙ at.1)

pub returns-in-Ok-clause-ready : goal.returns-in-Ok-clause-ready
returns-in-Ok-clause-ready g c =
    let net = c.args.net.now in
    let self = c.args.self.now in
    let fired = c.args._fired.now in
    let m = c.args.module in
    let kind : Module = Source c.in-Source.tensor in
    let found_kind : get_or c.modules.result.now m (Source 0) ≡ kind = c.in-Source.is in
    let is : module_at net m ≡ kind = ap (λ (xs : List Module). get_or xs m (Source 0)) (sym c.modules.ensures.value) ∙ found_kind in
    let cell : ℤ = to_z w128 (of_z w128 c.in-Some.cell) in
    let pushed : c.push.new.self.items ≡ self.read.items ++ cell ∷ [] = c.in-Ok.ensures.items in
    subst (λ (xs : List ℤ). IsReady net self.source self.sink xs self.given.items (fired_once fired m)) (sym pushed)
    (ready_read net self.source self.sink self.read.items self.given.items fired c.requires.ready m kind is c.requires.known
    c.requires.whole cell c.if-module-self.false
    (not_sink net self.source self.sink self.read.items self.given.items fired c.requires.ready m kind is c.requires.known
    c.requires.whole (λ x. x)))

pub returns-in-Ok-push-clause-ready : goal.returns-in-Ok-push-clause-ready
returns-in-Ok-push-clause-ready g c =
    let net = c.args.net.now in
    let self = c.args.self.now in
    let fired = c.args._fired.now in
    let m = c.args.module in
    let kind : Module = Sink c.in-Sink.tensor in
    let found_kind : get_or c.modules.result.now m (Source 0) ≡ kind = c.in-Sink.is in
    let is : module_at net m ≡ kind = ap (λ (xs : List Module). get_or xs m (Source 0)) (sym c.modules.ensures.value) ∙ found_kind in
    let cell : ℤ = to_z w128 (of_z w128 c.first-in-Sink.result) in
    let fits : SFits w128 c.first-in-Sink.result = search rules in
    let pushed : c.push-in-Sink.new.self.items ≡ self.given.items ++ cell ∷ [] = c.in-Ok-push.ensures.items in
    subst (λ (xs : List ℤ). IsReady net self.source self.sink self.read.items xs (fired_once fired m)) (sym pushed)
    (ready_given net self.source self.sink self.read.items self.given.items fired c.requires.ready m kind is c.requires.known
    c.requires.whole cell c.if-module-self-2.false
    (not_source net self.source self.sink self.read.items self.given.items fired c.requires.ready m kind is c.requires.known
    c.requires.whole (λ x. x))
    (λ stream agrees. to_z-of_z w128 c.first-in-Sink.result fits ∙ c.first-in-Sink.ensures
    ∙ ap (λ (xs : List ℤ). get_or xs 0 (pos 0)) (c.requires.found stream agrees)))
