-- Where more is taken, the lists that are sent and handed on go on, and begin as before.
use Rattle.std.proofs.Common.{◌≡◌, ℕ, ◌+◌, ◌-◌, ◌*◌, ◌/◌, ◌%◌, ◌<◌, ◌≤◌, nat_le, min, List, length, slice_index, sym, ◌∙◌, ap, arith, ⊎_elim, if◌then◌else◌, ℤ, pos}
use Rattle.std.proofs.Math.Nat.{mul-le-mul}
use Rattle.std.proofs.lemmas.Bool.{cases_lt, le-leb, lt-leb}
use Rattle.std.proofs.lemmas.Nat.{mod_below}
use Rattle.net_ir.specs.Firings.{firings_at}
use Rattle.net_ir.specs.Nets.{Net, StandByPort, entrances, queue_at}
use Rattle.net_ir.specs.declared.network.Module.TheVariants.{Sink}
use Rattle.net_shape.specs.Modules.{IsThere, number_of}
use Rattle.net_shape.specs.Plans.{IsPlan}
use Rattle.net_build.specs.Planned.{net_under, plan_of}
use Rattle.soda_ir.specs.Program.{PlainProgram}
use Rattle.soda_ir.proofs.CallerLemmas.{get-listed, length-listed}
use Rattle.soda_eval.specs.Runs.{cells_at}
use Rattle.staged_cells.specs.Sends.{AreLonger, IsPrefix, firings_given, handed_list, item_taken, items_given, items_of, port_items, sent_item, sent_list}
use Rattle.staged_cells.specs.Streams.{sender_of}
use Rattle.staged_cells.proofs.Handed.{as_many_lanes, item_there, lane_port}
use Rattle.staged_cells.proofs.Lists.{least_is, same_map}
use Rattle.staged_cells.proofs.Runs.{given_at}

module _ (net : Net) (firings : ℕ) (taken more : ℕ → List ℤ) (m : ℕ) (longer : AreLonger (entrances net m) taken more) where
  -- no fewer firings are given
  firings_grow : firings_given net firings taken m ≤ firings_given net firings more m
  unfolding firings_given
  firings_grow =
      let es = entrances net m in
      let f : (ℕ → List ℤ) → ℕ → ℕ = λ lists queue. length (lists queue) + (queue_at net.queues queue).lead in
      let n = firings_given net firings taken m in
      let low = (least_is (firings_at net firings m) (f taken) es n).0 (omega arith) in
      (least_is (firings_at net firings m) (f more) es n).1 (low.0, λ j lt. omega (arith, low.1 j lt, (longer j lt).short))

  -- the ports hold the same in a firing that was given before
  ports_same : (k : ℕ) → k < firings_given net firings taken m → port_items net (items_of taken) m k ≡ port_items net (items_of more) m k
  ports_same k lt =
      let lead : ℕ → ℕ = λ queue. (queue_at net.queues queue).lead in
      let at : (ℕ → List ℤ) → ℕ → ℤ = λ lists queue. if nat_le (lead queue) k then items_of lists queue (k - lead queue) else pos 0 in
      same_map (at taken) (at more) (entrances net m) (λ j within.
      let queue = slice_index (entrances net m) j in
      ⊎_elim
      (λ (early : k < lead queue).
      ap (λ b. if b then items_of taken queue (k - lead queue) else pos 0) (lt-leb (lead queue) k early)
      ∙ sym (ap (λ b. if b then items_of more queue (k - lead queue) else pos 0) (lt-leb (lead queue) k early)))
      (λ (late : lead queue ≤ k).
      ap (λ b. if b then items_of taken queue (k - lead queue) else pos 0) (le-leb (lead queue) k late)
      ∙ (longer j within).same (k - lead queue) (omega (arith, given_at net firings taken m k j lt within))
      ∙ sym (ap (λ b. if b then items_of more queue (k - lead queue) else pos 0) (le-leb (lead queue) k late)))
      (cases_lt k (lead queue)))

-- what is sent goes on
pub sent_grows : (p : PlainProgram) (rows : ℕ) (params : List ℤ) (delays : List ℕ) (array : List ℤ) (firings : ℕ) (taken more : ℕ → List ℤ) (queue : ℕ)
    → AreLonger (entrances (net_under p delays) (sender_of (net_under p delays) queue)) taken more
    → IsPrefix (sent_list p rows params delays array firings taken queue) (sent_list p rows params delays array firings more queue)
unfolding sent_list
sent_grows p rows params delays array firings taken more queue longer =
    let net = net_under p delays in
    let m = sender_of net queue in
    let item : (ℕ → List ℤ) → ℕ → ℤ = λ lists k. sent_item p rows params delays array queue k (port_items net (items_of lists) m k) in
    let n = firings_given net firings taken m in
    let next = firings_given net firings more m in
    let up = firings_grow net firings taken more m longer in
    record {
      short = omega (arith, length-listed (item taken) n, length-listed (item more) next);
      same = λ i lt.
          let below : i < n = omega (arith, length-listed (item taken) n) in
          get-listed (item taken) n i (pos 0) below
          ∙ ap (sent_item p rows params delays array queue i) (ports_same net firings taken more m longer i below)
          ∙ sym (get-listed (item more) next i (pos 0) (omega arith));
    }

-- what a sink hands on goes on
pub handed_grows : (p : PlainProgram) (delays : List ℕ) (plan : IsPlan (plan_of p delays)) (stand : (m : ℕ) → StandByPort (net_under p delays) m) (v : ℕ)
    (h : IsThere (plan_of p delays) (Sink v))
    (rows firings : ℕ) (taken more : ℕ → List ℤ) (delay : ℕ) → AreLonger (entrances (net_under p delays) (number_of (plan_of p delays) (Sink v))) taken more
    → IsPrefix (handed_list p rows delays firings taken (number_of (plan_of p delays) (Sink v)) delay)
    (handed_list p rows delays firings more (number_of (plan_of p delays) (Sink v)) delay)
unfolding handed_list items_given
handed_grows p delays plan stand v h rows firings taken more delay longer =
    let net = net_under p delays in
    let u = p.unroll in
    let m = number_of (plan_of p delays) (Sink v) in
    let es = entrances net m in
    let f : (ℕ → List ℤ) → ℕ → ℕ = λ lists queue. u * length (lists queue) + (queue_at net.queues queue).port in
    let all = u * firings_at net firings m in
    let n = items_given net u firings taken m in
    let next = items_given net u firings more m in
    let low = (least_is all (f taken) es n).0 (omega arith) in
    let same : u ≤ u = omega arith in
    let up : n ≤ next = (least_is all (f more) es n).1
    (low.0, λ j lt. let product = mul-le-mul (longer j lt).short same in omega (arith, low.1 j lt, product)) in
    let g : (ℕ → List ℤ) → ℕ → ℤ = λ lists i. item_taken net u lists m (i + delay) in
    let count = min (cells_at p rows) (n - delay) in
    let later = min (cells_at p rows) (next - delay) in
    record {
      short = omega (arith, length-listed (g taken) count, length-listed (g more) later);
      same = λ i lt.
          let below : i < count = omega (arith, length-listed (g taken) count) in
          let t = i + delay in
          let lane = t % u in
          let here : lane < u = mod_below t u plan.lanes in
          let within : lane < length es = omega (arith, as_many_lanes p delays plan stand v h) in
          let some : t / u < length (taken (slice_index es lane)) =
          item_there u t (length (taken (slice_index es lane))) plan.lanes (omega (arith, low.1 lane within, lane_port p delays plan stand v h lane here)) in
          get-listed (g taken) count i (pos 0) below
          ∙ (longer lane within).same (t / u) some
          ∙ sym (get-listed (g more) later i (pos 0) (omega arith));
    }
