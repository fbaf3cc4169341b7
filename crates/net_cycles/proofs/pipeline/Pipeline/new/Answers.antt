use Rattle.std.proofs.Common.{◌≡◌, ◌∙◌, ℕ, List, length, map, pos, replicate, slice_index, sym, ap, subst, rules}
use Rattle.std.proofs.lemmas.List.{length-replicate}
use Rattle.net_ir.specs.declared.network.Queue.{Queue}
use Rattle.net_ir.specs.States.{IsLawful}
use Rattle.net_ir.proofs.CallerLemmas.{IsLawful-zeros}
use Rattle.ring_region.specs.Fifos.{emptied}
use Rattle.net_cycles.specs.Between.{between}
use Rattle.net_cycles.specs.Streams.{HoldCounts}
use Rattle.net_cycles.proofs.Runs.{run_none}
use Rattle.net_cycles.proofs.Start.{get_or-zeros, zeros_between, counts_at_start, streams_at_start}
use Rattle.net_cycles.proofs.pipeline.Pipeline.new.Goals as goal

pub returns-clause-zeros : goal.returns-clause-zeros
returns-clause-zeros c =
    let unfired : c.in_ok-fired.fired.items ≡ replicate {A = ℕ} (length c.args.network.modules) 0 =
    c.in_ok-fired.ensures.items_if_clones_equal (λ y e. e) ∙ ap (λ n. replicate {A = ℕ} n 0) (ap length c.modules.ensures.value) in
    ap between unfired ∙ zeros_between c.args.network

pub returns-clause-unfired : goal.returns-clause-unfired
returns-clause-unfired c m =
    let unfired : c.in_ok-fired.fired.items ≡ replicate {A = ℕ} (length c.args.network.modules) 0 =
    c.in_ok-fired.ensures.items_if_clones_equal (λ y e. e) ∙ ap (λ n. replicate {A = ℕ} n 0) (ap length c.modules.ensures.value) in
    ap (λ (xs : List ℕ). slice_index xs m) unfired ∙ get_or-zeros (length c.args.network.modules) m

pub returns-clause-run : goal.returns-clause-run
returns-clause-run c =
    let unfired : c.in_ok-fired.fired.items ≡ replicate {A = ℕ} (length c.args.network.modules) 0 =
    c.in_ok-fired.ensures.items_if_clones_equal (λ y e. e) ∙ ap (λ n. replicate {A = ℕ} n 0) (ap length c.modules.ensures.value) in
    run_none c.args.network c.args.firings c.in_ok-fired.fired.items (ap between unfired ∙ zeros_between c.args.network)

pub returns-clause-streams : goal.returns-clause-streams
returns-clause-streams c =
    let capacities : c.in_ok-capacities.capacities.items ≡ map (λ (q : Queue). q.capacity) c.args.network.queues = search rules in
    streams_at_start c.args.network (length c.args.network.modules) c.in_ok-rings.rings
    (c.in_ok-rings.ensures ∙ ap (map emptied) (c.deref.ensures.value ∙ capacities)) c.in_ok-fired.fired.items

pub invariant_of-result : goal.invariant_of-result
invariant_of-result c =
    let net = c.args.network in
    let unfired : c.in_ok-fired.fired.items ≡ replicate {A = ℕ} (length net.modules) 0 =
    c.in_ok-fired.ensures.items_if_clones_equal (λ y e. e) ∙ ap (λ n. replicate {A = ℕ} n 0) (ap length c.modules.ensures.value) in
    let capacities : c.in_ok-capacities.capacities.items ≡ map (λ (q : Queue). q.capacity) net.queues = search rules in
    record {
      running = record {
        network = c.queues.ensures.network;
        whole = ap length unfired ∙ length-replicate (length net.modules) 0;
        lawful = subst (IsLawful net c.args.firings) (sym (ap between unfired ∙ zeros_between net)) (IsLawful-zeros net c.args.firings);
        counts = subst (λ (xs : List ℕ). HoldCounts net xs c.in_ok-rings.rings) (sym unfired)
            (counts_at_start net (length net.modules) c.in_ok-rings.rings
            (c.in_ok-rings.ensures ∙ ap (map emptied) (c.deref.ensures.value ∙ capacities)) c.requires.positive);
      };
      modules = c.modules.ensures.small;
      port_places = ap length (c.in_ok-ports.ensures.items_if_clones_equal (λ y e. e))
          ∙ length-replicate (length c.queues-2.result.now) (pos 0) ∙ ap length c.queues-2.ensures.value;
      send_places = ap length (c.in_ok-sends.ensures.items_if_clones_equal (λ y e. e))
          ∙ length-replicate (length c.queues-3.result.now) (pos 0) ∙ ap length c.queues-3.ensures.value;
    }
