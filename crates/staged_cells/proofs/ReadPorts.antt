-- The items of queues, and the ports of a computing module: those of its tensor's reads, in order.
use Rattle.std.proofs.Common.{◌≡◌, ℕ, suc, ◌+◌, ◌<◌, ◌==◌, List, [], ◌∷◌, length, map, get_or, Some, slice_get, slice_index_or, sym, ◌∙◌, ap, subst, arith, ℤ, pos}
use Rattle.std.proofs.lemmas.List.{get_or-map, get_or_default, length-map}
use Rattle.soda_words.specs.IntType.{IntType, int32}
use Rattle.int_types.specs.Ranges.{InRange, wrapped}
use Rattle.int_types.proofs.CallerLemmas.{wrapped_in_range}
use Rattle.delay_net.specs.declared.net.Read.{Read}
use Rattle.net_ir.specs.Nets.{Net, StandByPort, entrances, queue_at}
use Rattle.net_ir.specs.declared.network.Module.{Module}
use Rattle.net_ir.specs.declared.network.Module.TheVariants.{Compute}
use Rattle.net_shape.specs.Modules.{IsThere, number_of}
use Rattle.net_shape.specs.Plans.{IsPlan, Plan}
use Rattle.net_shape.specs.Queues.{read_at}
use Rattle.net_build.specs.Planned.{net_under, plan_of}
use Rattle.soda_ir.specs.Points.{listed}
use Rattle.soda_ir.specs.Program.{PlainProgram}
use Rattle.soda_ir.proofs.CallerLemmas.{listed-cons}
use Rattle.soda_eval.specs.Runs.{HasValues}
use Rattle.time_stages.specs.Staged.{staged_reads}
use Rattle.time_stages.proofs.CallerLemmas.{place_in}
use Rattle.staged_cells.specs.Cells.{port_types, reads_by, type_at}
use Rattle.staged_cells.specs.Sends.{wrapped_ports}
use Rattle.staged_cells.specs.Streams.{cell_number, lane_between, receiver, sender, stage_cell, stream, tensor_of}
use Rattle.staged_cells.proofs.Entrances.{compute_ports, numbers_by}
use Rattle.staged_cells.proofs.Links.{no_read}
use Rattle.staged_cells.proofs.Lists.{filter_places}

-- an item of a queue between two modules
pub item_is : (p : PlainProgram) (delays : List ℕ) (rows : ℕ) (params : List ℤ) (inputs : List (List ℤ)) (q : ℕ) (s r : Module) (k : ℕ)
    → sender (net_under p delays) q ≡ s → receiver (net_under p delays) q ≡ r
    → stream p rows params inputs delays q k ≡ stage_cell p rows params inputs (tensor_of s) (cell_number (plan_of p delays) (tensor_of s) (lane_between s r) k)
unfolding stream
item_is p delays rows params inputs q s r k e f =
    ap (λ (m : Module). stage_cell p rows params inputs (tensor_of m)
    (cell_number (plan_of p delays) (tensor_of m) (lane_between m (receiver (net_under p delays) q)) k)) e
    ∙ ap (λ (m : Module). stage_cell p rows params inputs (tensor_of s) (cell_number (plan_of p delays) (tensor_of s) (lane_between s m) k)) f

-- what is wrapped to the types of the ports is in their ranges
values_listed : (types : List IntType) (f : ℕ → ℤ) → ((j : ℕ) → j < length types → InRange (slice_index_or types j int32) (f j))
    → HasValues types (listed f (length types))
values_listed [] f h = tt
values_listed (t ∷ ts) f h =
    subst (HasValues (t ∷ ts)) (sym (listed-cons f (length ts))) (h 0 (omega arith), values_listed ts (λ k. f (suc k)) (λ j lt. h (suc j) (omega arith)))

pub wrapped_values : (p : PlainProgram) (x : ℕ) (ports : List ℤ) → HasValues (port_types p x) (wrapped_ports p x ports)
wrapped_values p x ports =
    values_listed (port_types p x) (λ j. wrapped (slice_index_or (port_types p x) j int32) (slice_index_or ports j (pos 0)))
    (λ j lt. wrapped_in_range (slice_index_or (port_types p x) j int32) (slice_index_or ports j (pos 0)))

module _ (p : PlainProgram) (delays : List ℕ) (plan : IsPlan (plan_of p delays)) (stand : (m : ℕ) → StandByPort (net_under p delays) m) where
  abbrev the_plan : Plan
  the_plan = plan_of p delays

  abbrev net : Net
  net = net_under p delays

  abbrev reads : List Read
  reads = staged_reads p

  -- the reads of a tensor by their places
  mine_are : (x : ℕ) → reads_by reads x ≡ map (read_at the_plan) (numbers_by the_plan plan stand x)
  mine_are x = filter_places (λ (r : Read). r.reader == x) (read_at the_plan) 0 reads
      (λ i d lt. ap (read_at the_plan) (let e : 0 + i ≡ i = omega arith in e) ∙ get_or_default reads i no_read d lt)

  module _ (x lane : ℕ) (h : IsThere the_plan (Compute x lane)) where
    abbrev es : List ℕ
    es = entrances net (number_of the_plan (Compute x lane))

    as_many : length es ≡ length (reads_by reads x)
    as_many =
        sym (length-map es (λ q. (queue_at net.queues q).port))
        ∙ ap length (compute_ports the_plan plan stand x lane h)
        ∙ sym (length-map (numbers_by the_plan plan stand x) (read_at the_plan))
        ∙ ap length (sym (mine_are x))

    -- a computing module has a queue for each read of its tensor
    pub reads_counted : length es ≡ length (port_types p x)
    reads_counted = as_many ∙ sym (length-map (reads_by reads x) (λ (r : Read). type_at p r.of))

    -- the read of an entrance
    pub read_is : (j : ℕ) (r : Read) → slice_get (reads_by reads x) j ≡ Some r
        → (j < length es) × (read_at the_plan (queue_at net.queues (get_or es j 0)).port ≡ r)
    read_is j r e =
        let at = place_in (reads_by reads x) j r e in
        let lt : j < length es = omega (arith, as_many, at.0) in
        let ns = numbers_by the_plan plan stand x in
        let below : j < length ns = omega (arith, at.0, ap length (mine_are x), length-map ns (read_at the_plan)) in
        let port : (queue_at net.queues (get_or es j 0)).port ≡ get_or ns j 0 = sym (get_or-map (λ q. (queue_at net.queues q).port) es j 0 0 lt)
        ∙ ap (λ xs. get_or xs j 0) (compute_ports the_plan plan stand x lane h) in
        (lt, ap (read_at the_plan) port ∙ sym (get_or-map (read_at the_plan) ns j 0 r below) ∙ sym (ap (λ (rs : List Read). get_or rs j r) (mine_are x)) ∙ at.1)
