-- Whole lists: where what is taken was sent, and what is sent is what modules send from it, each list is its queue's stream.
use Rattle.std.proofs.Common.{◌≡◌, ℕ, zero, suc, ◌+◌, ◌-◌, ◌<◌, ◌≤◌, ◌⊎◌, min, List, length, map, get_or, slice_index, slice_index_or, refl, ◌∙◌, ap, subst, arith, ⊎_elim, inl, inr, ℤ, pos}
use Rattle.std.specs.List.{fold}
use Rattle.std.proofs.lemmas.Bool.{cases_lt}
use Rattle.std.proofs.lemmas.List.{get_or-map, length-map}
use Rattle.net_ir.specs.Firings.{firings_at}
use Rattle.net_ir.specs.Nets.{Net, StandByPort, entrances, queue_at}
use Rattle.net_ir.specs.declared.network.Module.{Module}
use Rattle.net_ir.specs.declared.network.Module.TheVariants.{Source, Forward, Compute, Sink}
use Rattle.net_ir.specs.declared.network.Queue.{Queue}
use Rattle.net_shape.specs.Plans.{IsPlan, Plan}
use Rattle.net_shape.specs.Queues.{read_at}
use Rattle.net_build.specs.Planned.{net_under, plan_of}
use Rattle.soda_ir.specs.Program.{PlainProgram, input_types}
use Rattle.soda_ir.proofs.CallerLemmas.{get-listed, length-listed}
use Rattle.soda_eval.specs.Runs.{HasArrays, cells_at}
use Rattle.staged_cells.specs.Sends.{AreSent, PortsCarry, array_of, firings_given, items_of, port_items, sent_item, sent_list}
use Rattle.staged_cells.specs.Streams.{HasStreams, module_at, receiver, sender, sender_of, stream, tensor_of}
use Rattle.staged_cells.proofs.Entrances.{entrance_is}
use Rattle.staged_cells.proofs.Firings.{firing_sends, ports_carry, sink_joins}
use Rattle.staged_cells.proofs.Links.{Joins, joined_at, no_read}
use Rattle.staged_cells.proofs.Lists.{least_each}

-- how far down a lane a module sends: what computes or reads a tensor first, then the forwarding modules by tap
abbrev depth : Module → ℕ
depth (Source v) = 0
depth (Forward v lane tap) = suc tap
depth (Compute v lane) = 0
depth (Sink v) = 0

-- what a module takes comes from an earlier tensor, or of the same from less far down
comes_before : (p : Plan) (plan : IsPlan p) (s m r : Module) (a b : Queue) → Joins p s m a → Joins p m r b
    → (tensor_of s < tensor_of m) ⊎ ((tensor_of s ≡ tensor_of m) × (depth s < depth m))
comes_before p plan (Source w) (Source v) r a b j i = absurd j
comes_before p plan (Source w) (Forward v lane tap) r a b j i = inr (j.0, omega arith)
comes_before p plan (Source w) (Compute v lane) r a b j i = absurd j
comes_before p plan (Source w) (Sink v) r a b j i = absurd j
comes_before p plan (Forward w row t) (Source v) r a b j i = absurd j
comes_before p plan (Forward w row t) (Forward v lane tap) r a b j i = inr (j.0, omega (arith, j.2))
comes_before p plan (Forward w row t) (Compute v lane) r a b j i =
    inl (let before : (read_at p a.port).of < (read_at p a.port).reader = plan.of a.port no_read j.0 in omega (arith, j.1, j.2))
comes_before p plan (Forward w row t) (Sink v) r a b j i = absurd (sink_joins p v r b i)
comes_before p plan (Compute w row) (Source v) r a b j i = absurd j
comes_before p plan (Compute w row) (Forward v lane tap) r a b j i = inr (j.0, omega arith)
comes_before p plan (Compute w row) (Compute v lane) r a b j i = absurd j
comes_before p plan (Compute w row) (Sink v) r a b j i = absurd (sink_joins p v r b i)
comes_before p plan (Sink w) m r a b j i = absurd (sink_joins p w m a j)

-- what a firing that the lists give takes from a queue
pub given_at : (net : Net) (firings : ℕ) (taken : ℕ → List ℤ) (m k j : ℕ) → k < firings_given net firings taken m → j < length (entrances net m)
    → k < length (taken (slice_index (entrances net m) j)) + (queue_at net.queues (slice_index (entrances net m) j)).lead
unfolding firings_given
given_at net firings taken m k j lt within =
    let f : ℕ → ℕ = λ q. length (taken q) + (queue_at net.queues q).lead in
    let es = entrances net m in
    let low : fold min (firings_at net firings m) (map f es) ≤ get_or (map f es) j 0 =
    least_each (firings_at net firings m) (map f es) j 0 (omega (arith, length-map es f)) in
    omega (arith, get_or-map f es j 0 0 within)

module _ (p : PlainProgram) (delays : List ℕ) (design : HasStreams p delays) (plan : IsPlan (plan_of p delays))
    (stand : (m : ℕ) → StandByPort (net_under p delays) m)
    (rows : ℕ) (params : List ℤ) (inputs : List (List ℤ)) (arrays : HasArrays (cells_at p rows) (input_types p.tensors) inputs)
    (firings : ℕ) (taken sent : ℕ → List ℤ) (run : AreSent p rows params inputs delays firings taken sent) where
  abbrev the_plan : Plan
  the_plan = plan_of p delays

  abbrev net : Net
  net = net_under p delays

  abbrev items : ℕ → ℕ → ℤ
  items = stream p rows params inputs delays

  -- what was sent into a queue is its stream
  abbrev IsRight : ℕ → Type 0
  IsRight q = (i : ℕ) → i < length (sent q) → slice_index_or (sent q) i (pos 0) ≡ items q i

  -- so it is of a queue where it is of those that its sender takes from
  one_right : (q : ℕ) → q < length net.queues → ((e : ℕ) → e < length net.queues → (queue_at net.queues e).to ≡ sender_of net q → IsRight e) → IsRight q
  unfolding sent_list
  one_right q lt before i below =
      let m = sender_of net q in
      let f : ℕ → ℤ = λ k. sent_item p rows params delays (array_of inputs (sender net q)) q k (port_items net (items_of taken) m k) in
      let n = firings_given net firings taken m in
      let s = run.sends q lt in
      let some : i < n = omega (arith, s.short, length-listed f n) in
      let ports = port_items net (items_of taken) m i in
      let carry : PortsCarry net items m i ports = λ j within le.
      let e = slice_index (entrances net m) j in
      let k = i - (queue_at net.queues e).lead in
      let ends = entrance_is the_plan plan stand m j 0 within in
      let t = run.takes e ends.0 in
      let there : k < length (taken e) = omega (arith, given_at net firings taken m i j some within) in
      ports_carry net (items_of taken) m i ports refl j within le ∙ t.same k there ∙ before e ends.0 ends.1 k (omega (arith, t.short)) in
      s.same i below ∙ get-listed f n i (pos 0) some ∙ firing_sends p delays design plan stand rows params inputs arrays q i ports lt carry

  by_depth : (n : ℕ) → ((q : ℕ) → q < length net.queues → tensor_of (sender net q) < n → IsRight q) → (h q : ℕ) → q < length net.queues
      → tensor_of (sender net q) ≡ n → depth (sender net q) < h → IsRight q
  by_depth n before zero q lt e d = absurd (omega arith)
  by_depth n before (suc h) q lt e d =
      one_right q lt (λ x below to.
      let a = joined_at the_plan plan x below in
      let b = joined_at the_plan plan q lt in
      let j : Joins the_plan (sender net x) (sender net q) (queue_at net.queues x) =
      subst (λ (r : Module). Joins the_plan (sender net x) r (queue_at net.queues x)) (ap (module_at net) to) a.joins in
      ⊎_elim
      (λ (l : tensor_of (sender net x) < tensor_of (sender net q)). before x below (omega arith))
      (λ (l : (tensor_of (sender net x) ≡ tensor_of (sender net q)) × (depth (sender net x) < depth (sender net q))). by_depth n before h x below (l.0 ∙ e)
      (omega (arith, l.1)))
      (comes_before the_plan plan (sender net x) (sender net q) (receiver net q) (queue_at net.queues x) (queue_at net.queues q) j b.joins))

  by_tensor : (n q : ℕ) → q < length net.queues → tensor_of (sender net q) < n → IsRight q
  by_tensor zero q lt d = absurd (omega arith)
  by_tensor (suc n) q lt d =
      ⊎_elim
      (λ (l : tensor_of (sender net q) < n). by_tensor n q lt l)
      (λ (l : n ≤ tensor_of (sender net q)). by_depth n (by_tensor n) (suc (depth (sender net q))) q lt (omega arith) (omega arith))
      (cases_lt (tensor_of (sender net q)) n)

  -- each list that is sent is its queue's stream
  pub lists_right : (q : ℕ) → q < length net.queues → IsRight q
  lists_right q lt = by_tensor (suc (tensor_of (sender net q))) q lt (omega arith)
