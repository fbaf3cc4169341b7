-- One firing: where the ports hold what the queues carry, what is sent is what they carry.
use Rattle.std.proofs.Common.{◌≡◌, ℕ, ◌+◌, ◌-◌, ◌*◌, ◌<◌, ◌≤◌, nat_le, false, List, [], length, map, get_or, Option, None, Some, slice_get, slice_index, slice_index_or, refl, sym, ◌∙◌, ap, subst, arith, ⊎_elim, if◌then◌else◌, ℤ, pos, ◌+ℤ◌, ◌-ℤ◌}
use Rattle.std.proofs.lemmas.Bool.{cases_lt, false_from_ne_true, le-leb}
use Rattle.std.proofs.lemmas.List.Elements.{Contains-get_or}
use Rattle.std.proofs.lemmas.List.{get_or-map, length-map}
use Rattle.soda_words.specs.IntType.{int32}
use Rattle.int_types.specs.Ranges.{wrapped}
use Rattle.delay_net.specs.Windows.{MeetsWindow}
use Rattle.delay_net.specs.declared.net.Read.{Read}
use Rattle.net_ir.specs.Nets.{Net, StandByPort, StandInOrder, entrances, exits, queue_at}
use Rattle.net_ir.specs.declared.network.Module.{Module}
use Rattle.net_ir.specs.declared.network.Module.TheVariants.{Source, Forward, Compute, Sink}
use Rattle.net_ir.specs.declared.network.Queue.{Queue}
use Rattle.net_shape.specs.Modules.{IsThere, number_of}
use Rattle.net_shape.specs.Plans.{IsPlan, Plan, age_of}
use Rattle.net_shape.specs.Queues.{read_at}
use Rattle.net_build.specs.Planned.{net_under, plan_of}
use Rattle.soda_ir.specs.Counts.{is_input}
use Rattle.soda_ir.specs.Program.{PlainProgram, input_types}
use Rattle.soda_ir.specs.Valid.{IsSound}
use Rattle.soda_ir.proofs.CallerLemmas.{get-listed}
use Rattle.soda_eval.specs.Runs.{HasArrays, cells_at}
use Rattle.time_stages.specs.declared.staging.StagedTensor.{StagedTensor}
use Rattle.time_stages.specs.Staged.{staged_reads, staged_tensors, type_of}
use Rattle.time_stages.proofs.CallerLemmas.{place_in}
use Rattle.staged_cells.specs.Cells.{IsNumber, PortsHold, defined_cell, port_types, reads_by, sent_cell, type_at}
use Rattle.staged_cells.specs.Sends.{PortsCarry, array_of, computed, numbered, port_items, sent_by, sent_item, wrapped_ports}
use Rattle.staged_cells.specs.Streams.{HasStreams, cell_number, lane_between, lane_of, module_at, receiver, sender, sender_of, stage_cell, stream, tensor_of}
use Rattle.staged_cells.proofs.CellNumbers.{age_is, number_early, number_read}
use Rattle.staged_cells.proofs.Designs.{input_place, is_source, kind_input, kind_is, kinds_are, some_stage, staged_at}
use Rattle.staged_cells.proofs.Entrances.{entrance_is, forward_entrance}
use Rattle.staged_cells.proofs.Lists.{same_map}
use Rattle.staged_cells.proofs.Links.{Joins, joined_at, module_of, no_read}
use Rattle.staged_cells.proofs.ReadPorts.{item_is, read_is}
use Rattle.staged_cells.proofs.Sent.{sent_is}
use Rattle.staged_cells.proofs.StageCells.{source_is, stage_is, stage_wrapped, type_is, width_some}

-- what comes to a forwarding module is of its tensor and lane
into_forward : (p : Plan) (s : Module) (v lane tap : ℕ) (q : Queue) → Joins p s (Forward v lane tap) q
    → (tensor_of s ≡ v) × (lane_between s (Forward v lane tap) ≡ lane) × (q.lead ≡ 0)
into_forward p (Source w) v lane tap q j = (j.0, refl, j.1)
into_forward p (Forward w row a) v lane tap q j = (j.0, j.1, j.3)
into_forward p (Compute w row) v lane tap q j = (j.0, j.1, j.2)
into_forward p (Sink w) v lane tap q j = absurd j

-- what comes to a port of a computing module is of the tensor of the port's read
pub record IsRead (p : Plan) (s r : Module) (x lane : ℕ) (q : Queue) : Type 0 where
  pub row : ℕ
  pub known : q.port < length p.reads
  pub of : tensor_of s ≡ (read_at p q.port).of
  pub lane_is : lane_between s r ≡ row
  pub reader : x ≡ (read_at p q.port).reader
  pub there : row < p.unroll
  pub back : row + age_of p (read_at p q.port) ≡ q.lead * p.unroll + lane

pub into_reader : (p : Plan) (s r : Module) (x lane : ℕ) (q : Queue) → IsThere p s → Joins p s (Compute x lane) q → IsRead p s r x lane q
into_reader p (Source w) r x lane q h j = absurd j
into_reader p (Forward w row a) r x lane q h j =
    record { row = row; known = j.0; of = j.1; lane_is = refl; reader = j.2; there = h.1; back = j.3 ∙ ap (λ z. z * p.unroll + lane) (sym j.4) }
into_reader p (Compute w row) r x lane q h j = absurd j
into_reader p (Sink w) r x lane q h j = absurd j

-- a sink sends nothing
pub sink_joins : (p : Plan) (v : ℕ) (r : Module) (q : Queue) → Joins p (Sink v) r q → ⊥
sink_joins p v (Source w) q j = j
sink_joins p v (Forward w lane tap) q j = j
sink_joins p v (Compute w lane) q j = j
sink_joins p v (Sink w) q j = j

-- the ports hold what the queues carry, where the list of what they hold says so
pub ports_carry : (net : Net) (items : ℕ → ℕ → ℤ) (m k : ℕ) (ports : List ℤ) → ports ≡ port_items net items m k → PortsCarry net items m k ports
ports_carry net items m k ports e = λ j lt le.
    let q = slice_index (entrances net m) j in
    let lead = (queue_at net.queues q).lead in
    ap (λ vs. slice_index_or vs j (pos 0)) e
    ∙ get_or-map (λ n. if nat_le (queue_at net.queues n).lead k then items n (k - (queue_at net.queues n).lead) else pos 0) (entrances net m) j 0 (pos 0) lt
    ∙ ap (λ b. if b then items q (k - lead) else pos 0) (le-leb lead k le)

module _ (p : PlainProgram) (delays : List ℕ) (design : HasStreams p delays) (plan : IsPlan (plan_of p delays))
    (stand : (m : ℕ) → StandByPort (net_under p delays) m)
    (rows : ℕ) (params : List ℤ) (inputs : List (List ℤ)) (arrays : HasArrays (cells_at p rows) (input_types p.tensors) inputs) where
  abbrev the_plan : Plan
  the_plan = plan_of p delays

  abbrev net : Net
  net = net_under p delays

  abbrev items : ℕ → ℕ → ℤ
  items = stream p rows params inputs delays

  abbrev reads : List Read
  reads = staged_reads p

  sound : IsSound p
  sound = design.valid.sound

  module _ (x lane k : ℕ) (h : IsThere the_plan (Compute x lane)) (ports : List ℤ)
      (carry : PortsCarry net items (number_of the_plan (Compute x lane)) k ports) where
    abbrev m : ℕ
    m = number_of the_plan (Compute x lane)

    abbrev es : List ℕ
    es = entrances net m

    abbrev z : ℤ
    z = cell_number the_plan x lane k

    -- the cell that a read is of, where it is there
    port_cell : (j : ℕ) (r : Read) → slice_get (reads_by reads x) j ≡ Some r → IsNumber p rows (z +ℤ r.offset)
        → slice_index_or ports j (pos 0) ≡ stage_cell p rows params inputs r.of (z +ℤ r.offset)
    port_cell j r e there =
        let at = read_is p delays plan stand x lane h j r e in
        let n = get_or es j 0 in
        let q = queue_at net.queues n in
        let ends = entrance_is the_plan plan stand m j 0 at.0 in
        let joined = joined_at the_plan plan n ends.0 in
        let to : receiver net n ≡ Compute x lane = ap (module_at net) ends.1 ∙ module_of the_plan plan (Compute x lane) h in
        let s = sender net n in
        let is = into_reader the_plan s (Compute x lane) x lane q joined.sends (subst (λ (b : Module). Joins the_plan s b q) to joined.joins) in
        let of : tensor_of s ≡ r.of = is.of ∙ ap (λ (y : Read). y.of) at.1 in
        let mine : r.reader ≡ x = ap (λ (y : Read). y.reader) (sym at.1) ∙ sym is.reader in
        let back : is.row + age_of the_plan r ≡ q.lead * p.unroll + lane = ap (λ (y : Read). is.row + age_of the_plan y) (sym at.1) ∙ is.back in
        let window : MeetsWindow delays r = subst (MeetsWindow delays) at.1 (design.meets q.port no_read is.known) in
        let old : pos (age_of the_plan r) ≡ ((pos (slice_index delays x) -ℤ r.offset) -ℤ pos (slice_index delays r.of)) = age_is delays r window
        ∙ ap (λ y. (pos (slice_index delays y) -ℤ r.offset) -ℤ pos (slice_index delays r.of)) mine in
        ⊎_elim
        (λ (early : k < q.lead). absurd (number_early p.unroll k q.lead is.row lane (age_of the_plan r) (slice_index delays x)
        (slice_index delays r.of) r.offset old back early is.there there.0))
        (λ (late : q.lead ≤ k).
        carry j at.0 late
        ∙ item_is p delays rows params inputs n s (Compute x lane) (k - q.lead) refl to
        ∙ ap (λ y. stage_cell p rows params inputs y (cell_number the_plan y (lane_between s (Compute x lane)) (k - q.lead))) of
        ∙ ap (λ y. stage_cell p rows params inputs r.of (cell_number the_plan r.of y (k - q.lead))) is.lane_is
        ∙ ap (stage_cell p rows params inputs r.of)
        (number_read p.unroll k q.lead is.row lane (age_of the_plan r) (slice_index delays x) (slice_index delays r.of) r.offset old back late))
        (cases_lt k q.lead)

    -- so the ports, wrapped, hold the defined cells
    ports_hold : PortsHold p rows params inputs x z (wrapped_ports p x ports)
    ports_hold j r u e named there =
        let at = place_in (reads_by reads x) j r e in
        let types = port_types p x in
        let lt : j < length types = omega (arith, at.0, length-map (reads_by reads x) (λ (q : Read). type_at p q.of)) in
        let type : slice_index_or types j int32 ≡ type_of p u.tensor = get_or-map (λ (q : Read). type_at p q.of) (reads_by reads x) j r int32 at.0
        ∙ ap (λ (q : Read). type_at p q.of) at.1 ∙ type_is p sound rows params inputs r.of u named in
        let cell : slice_index_or ports j (pos 0) ≡ defined_cell p rows params inputs u (z +ℤ r.offset) = port_cell j r e there
        ∙ stage_is p sound rows params inputs r.of u named (z +ℤ r.offset) in
        get-listed (λ i. wrapped (slice_index_or types i int32) (slice_index_or ports i (pos 0))) (length types) j (pos 0) lt
        ∙ ap (λ t. wrapped t (slice_index_or ports j (pos 0))) type
        ∙ ap (wrapped (type_of p u.tensor)) cell
        ∙ stage_wrapped p sound rows params inputs r.of u named arrays (width_some p sound rows params inputs r.of u named design.widths) (z +ℤ r.offset)

    -- and what is computed from them is the cell
    computed_is : computed p rows params x ports z ≡ stage_cell p rows params inputs x z
    computed_is =
        let s = get_or (staged_tensors p) x some_stage in
        let e : slice_get (staged_tensors p) x ≡ Some s = staged_at p sound delays x h.0 in
        let local : is_input p s.tensor ≡ false =
        false_from_ne_true (is_input p s.tensor) (λ i. h.1 (kind_is p sound delays x (omega (arith, h.0, kinds_are p sound delays)) ∙ kind_input p s i)) in
        ap (λ (o : Option StagedTensor). elim o [ None ↦ pos 0 | Some u ↦ sent_cell p rows params x u (wrapped_ports p x ports) z ]) e
        ∙ sent_is p sound rows params inputs x s e z (wrapped_ports p x ports) ports_hold local
        ∙ sym (stage_is p sound rows params inputs x s e z)

  -- what a forwarding module takes
  forward_takes : (v lane tap k : ℕ) (h : IsThere the_plan (Forward v lane tap)) (ports : List ℤ)
      → PortsCarry net items (number_of the_plan (Forward v lane tap)) k ports
      → slice_index_or ports 0 (pos 0) ≡ stage_cell p rows params inputs v (cell_number the_plan v lane k)
  forward_takes v lane tap k h ports carry =
      let m = number_of the_plan (Forward v lane tap) in
      let some = forward_entrance the_plan plan stand v lane tap h in
      let n = get_or (entrances net m) 0 0 in
      let q = queue_at net.queues n in
      let ends = entrance_is the_plan plan stand m 0 0 some in
      let joined = joined_at the_plan plan n ends.0 in
      let to : receiver net n ≡ Forward v lane tap = ap (module_at net) ends.1 ∙ module_of the_plan plan (Forward v lane tap) h in
      let s = sender net n in
      let is = into_forward the_plan s v lane tap q (subst (λ (b : Module). Joins the_plan s b q) to joined.joins) in
      let now : k - q.lead ≡ k = omega (arith, is.2) in
      carry 0 some (omega (arith, is.2))
      ∙ ap (items n) now
      ∙ item_is p delays rows params inputs n s (Forward v lane tap) k refl to
      ∙ ap (λ y. stage_cell p rows params inputs y (cell_number the_plan y (lane_between s (Forward v lane tap)) k)) is.0
      ∙ ap (λ y. stage_cell p rows params inputs v (cell_number the_plan v y k)) is.1

  -- what a source sends
  source_sends : (v lane k : ℕ) (h : IsThere the_plan (Source v))
      → numbered (array_of inputs (Source v)) (cell_number the_plan v lane k) ≡ stage_cell p rows params inputs v (cell_number the_plan v lane k)
  source_sends v lane k h =
      let s = get_or (staged_tensors p) v some_stage in
      let e : slice_get (staged_tensors p) v ≡ Some s = staged_at p sound delays v h.0 in
      let z = cell_number the_plan v lane k in
      let input = is_source p sound delays v h.0 h.1 in
      ap (λ i. numbered (slice_index_or inputs i []) z) (sym (input_place p sound v s e input))
      ∙ source_is p sound rows params inputs v s e arrays input z
      ∙ sym (stage_is p sound rows params inputs v s e z)

  by_sender : (s r : Module) (q : Queue) (k : ℕ) (ports : List ℤ) → IsThere the_plan s → Joins the_plan s r q
      → PortsCarry net items (number_of the_plan s) k ports
      → sent_by p rows params delays (array_of inputs s) s (lane_between s r) k ports ≡ stage_cell p rows params inputs (tensor_of s)
      (cell_number the_plan (tensor_of s) (lane_between s r) k)
  by_sender (Source v) r q k ports h j carry = source_sends v (lane_of r) k h
  by_sender (Forward v lane tap) r q k ports h j carry = forward_takes v lane tap k h ports carry
  by_sender (Compute v lane) r q k ports h j carry = computed_is v lane k h ports carry
  by_sender (Sink v) r q k ports h j carry = absurd (sink_joins the_plan v r q j)

  -- what is sent in a firing is the item of the queue
  pub firing_sends : (queue k : ℕ) (ports : List ℤ) → queue < length net.queues → PortsCarry net items (sender_of net queue) k ports
      → sent_item p rows params delays (array_of inputs (sender net queue)) queue k ports ≡ items queue k
  unfolding sent_item stream
  firing_sends queue k ports lt carry =
      let joined = joined_at the_plan plan queue lt in
      by_sender (sender net queue) (receiver net queue) (queue_at net.queues queue) k ports joined.sends joined.joins
      (subst (λ n. PortsCarry net items n k ports) joined.from carry)

  -- and what a module sends in a firing are the items of the queues from it
  pub module_sends : (m k : ℕ) (ports : List ℤ) → StandInOrder net m → PortsCarry net items m k ports
      → map (λ queue. sent_item p rows params delays (array_of inputs (module_at net m)) queue k ports) (exits net m)
      ≡ map (λ queue. items queue k) (exits net m)
  module_sends m k ports order carry =
      let qs = exits net m in
      same_map (λ queue. sent_item p rows params delays (array_of inputs (module_at net m)) queue k ports) (λ queue. items queue k) qs (λ j lt.
      let q = get_or qs j 0 in
      let from = (order.all q).0 (Contains-get_or qs j 0 lt) in
      ap (λ n. sent_item p rows params delays (array_of inputs (module_at net n)) q k ports) (sym from.1)
      ∙ firing_sends q k ports from.0 (subst (λ n. PortsCarry net items n k ports) (sym from.1) carry))
