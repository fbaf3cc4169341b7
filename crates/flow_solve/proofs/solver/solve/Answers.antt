use Rattle.std.proofs.Common.{ℕ, List, ◌≡◌, ◌+◌, ◌*◌, ◌<◌, ℤ, pos, ◌-ℤ◌, ◌<ℤ◌, length, get_or, slice_index, sym, ap, ◌∙◌, subst, arith}
use Rattle.std.proofs.lemmas.Int.{ints}
use Rattle.std.proofs.lemmas.List.{get_or_default, with_items_is}
use Rattle.std.specs.Vec.{with_items}
use Rattle.delay_net.specs.Windows.{at_least_0}
use Rattle.delay_net.specs.Certificate.{Fits, value_of}
use Rattle.flow_solve.specs.declared.arc.Arc.{Arc}
use Rattle.flow_solve.specs.declared.arc.Longest.{Longest}
use Rattle.flow_solve.specs.Walk.{at, IsSimple, TellsWalks, IsGreatestLength}
use Rattle.flow_solve.specs.machine.Residual.{residual}
use Rattle.flow_solve.specs.LeastPlan.{IsLeastPlan}
use Rattle.flow_solve.proofs.PlanLemmas.{plan_is, plan_one, graph_is}
use Rattle.flow_solve.proofs.Potential.{AreDelays}
use Rattle.flow_solve.proofs.StartLemmas.{value_bound, value_within, room_falls}
use Rattle.flow_solve.proofs.solver.solve.Goals as goal
use Rattle.flow_solve.proofs.solver.solve.Goals.{After-drop-arcs-in-Lengths}

pub longest-requires : goal.longest-requires
longest-requires c =
    let net = c.args.net.now in
    let n = length net.weights in
    let hold = c.loop-need.hold.items in
    let need = c.loop-need.need.items in
    let arcs_is : c.deref-in-loop-need-2.result.now ≡ residual n net.reads hold need =
    c.deref-in-loop-need-2.ensures.value ∙ c.in_ok-arcs.ensures
    ∙ ap (λ (h : List ℕ). residual n net.reads h c.deref-in-loop-need.result.now) c.deref.ensures.value
    ∙ ap (λ (m : List ℕ). residual n net.reads hold m) c.deref-in-loop-need.ensures.value in
    record {
      graph = graph_is net.weights net.reads hold need (length c.weights.result.now) c.deref-in-loop-need-2.result.now c.weights.ensures.net
          (ap length c.weights.ensures.value) arcs_is;
    }

found : (c : After-drop-arcs-in-Lengths) → IsLeastPlan c.args.net.now.weights c.args.net.now.reads c.in_ok-delays-in-Lengths.delays.items
    × Fits c.args.net.now.weights c.args.net.now.reads c.in_ok-delays-in-Lengths.delays.items c.loop-need.hold.items c.loop-need.need.items
found c =
    let net = c.args.net.now in
    let n = length net.weights in
    let hold = c.loop-need.hold.items in
    let need = c.loop-need.need.items in
    let lengths = c.in-Lengths.lengths.items in
    let arcs_is : c.deref-in-loop-need-2.result.now ≡ residual n net.reads hold need =
    c.deref-in-loop-need-2.ensures.value ∙ c.in_ok-arcs.ensures
    ∙ ap (λ (h : List ℕ). residual n net.reads h c.deref-in-loop-need.result.now) c.deref.ensures.value
    ∙ ap (λ (m : List ℕ). residual n net.reads hold m) c.deref-in-loop-need.ensures.value in
    let size : length c.weights.result.now ≡ n = ap length c.weights.ensures.value in
    let nodes_are : 2 * length c.weights.result.now ≡ n + n = omega (arith, size) in
    let told = subst
    (λ (l : Longest). TellsWalks (2 * length c.weights.result.now) c.deref-in-loop-need-2.result.now l) c.in-Lengths.is c.in_ok-lengths.ensures.told in
    let greatest = subst (λ (g : List Arc). (v : ℕ) → v < n + n → IsGreatestLength (n + n) g v (at lengths v)) arcs_is
    (subst (λ (m : ℕ). (v : ℕ) → v < m → IsGreatestLength m c.deref-in-loop-need-2.result.now v (at lengths v)) nodes_are told.1) in
    let delays = c.in_ok-delays-in-Lengths.delays.items in
    let values = subst (λ (l : List ℤ). (t : ℕ) → t < length c.weights.result.now
    → at l t ≡ pos (slice_index delays t)) c.deref-in-Lengths.ensures.value c.in_ok-delays-in-Lengths.ensures.value in
    let are : AreDelays (at lengths) n delays = (c.in_ok-delays-in-Lengths.ensures.size ∙ size, λ t lt. values t (omega arith)) in
    plan_is net.weights net.reads hold need delays lengths c.weights.ensures.net c.loop-need.invariant.balanced c.loop-need.invariant.holds c.loop-need.invariant.needs greatest are

pub returns-in-Lengths-clause-plan : goal.returns-in-Lengths-clause-plan
returns-in-Lengths-clause-plan c = (found c).0

pub returns-in-Lengths-clause-fits : goal.returns-in-Lengths-clause-fits
returns-in-Lengths-clause-fits c =
    let net = c.args.net.now in
    let delays = c.in_ok-delays-in-Lengths.delays.items in
    subst (λ (h : List ℕ). Fits net.weights net.reads delays h c.from_vec-need.result) (sym c.from_vec-hold.ensures)
    (subst (λ (m : List ℕ). Fits net.weights net.reads delays c.loop-need.hold.items m) (sym c.from_vec-need.ensures) (found c).1)

pub returns-in-Lengths-clause-short : goal.returns-in-Lengths-clause-short
returns-in-Lengths-clause-short c = λ k d lt.
    let lengths = c.in-Lengths.lengths.items in
    let delays = c.in_ok-delays-in-Lengths.delays.items in
    let simple = subst (λ (l : Longest). IsSimple (2 * length c.weights.result.now) l) c.in-Lengths.is c.in_ok-lengths.ensures.simple in
    let in_range : k < length c.weights.result.now = omega (arith, c.in_ok-delays-in-Lengths.ensures.size, lt) in
    let values = subst (λ (l : List ℤ). (t : ℕ) → t < length c.weights.result.now
    → at l t ≡ pos (slice_index delays t)) c.deref-in-Lengths.ensures.value c.in_ok-delays-in-Lengths.ensures.value in
    let top = (simple k (omega arith)).1 in
    let here = values k in_range in
    let same : get_or delays k d ≡ get_or delays k 0 = get_or_default delays k d 0 lt in
    omega (arith, ints)

pub loop-need-smaller : goal.loop-need-smaller
loop-need-smaller c =
    let net = c.args.net.now in
    let hold = c.loop-need.hold.items in
    let need = c.loop-need.need.items in
    let hold_len : length c.send_around.new.hold ≡ c.loop-need.hold.len = omega (arith, c.send_around.auto.hold, c.deref_mut.ensures.len) in
    let need_len : length c.send_around.new.need ≡ c.loop-need.need.len = omega (arith, c.send_around.auto.need, c.deref_mut-in-Cycle.ensures.len) in
    let hold_is : (with_items c.loop-need.hold c.send_around.new.hold).items
    ≡ c.send_around.new.hold = with_items_is c.loop-need.hold c.send_around.new.hold hold_len in
    let need_is : (with_items c.loop-need.need c.send_around.new.need).items
    ≡ c.send_around.new.need = with_items_is c.loop-need.need c.send_around.new.need need_len in
    let within = value_within net.weights net.reads c.send_around.new.hold c.send_around.new.need c.weights.ensures.net c.send_around.ensures.balanced in
    let bound = value_bound net.weights net.reads in
    let value : List ℕ → List ℕ → ℤ = value_of net.reads in
    let more : value hold need <ℤ value c.send_around.new.hold c.send_around.new.need =
    subst (λ (h : List ℕ). value h need <ℤ value c.send_around.new.hold c.send_around.new.need) c.deref_mut.ensures.value
    (subst (λ (m : List ℕ). value c.deref_mut.result.now m
    <ℤ value c.send_around.new.hold c.send_around.new.need) c.deref_mut-in-Cycle.ensures.value c.send_around.ensures.more) in
    let falls = room_falls bound (value hold need) (value c.send_around.new.hold c.send_around.new.need) more within in
    subst (λ (h : List ℕ). at_least_0 (pos bound -ℤ value h (with_items c.loop-need.need c.send_around.new.need).items)
    < at_least_0 (pos bound -ℤ value hold need)) (sym hold_is)
    (subst (λ (m : List ℕ). at_least_0 (pos bound -ℤ value c.send_around.new.hold m) < at_least_0 (pos bound -ℤ value hold need)) (sym need_is) falls)

pub returns-in-Lengths-clause-one : goal.returns-in-Lengths-clause-one
returns-in-Lengths-clause-one c = λ plan is.
    plan_one c.args.net.now.weights c.args.net.now.reads c.in_ok-delays-in-Lengths.delays.items plan (found c).0 is
