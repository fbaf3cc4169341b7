-- What a sink takes and hands on.
use Rattle.std.proofs.Common.{◌≡◌, ℕ, ◌+◌, ◌-◌, ◌*◌, ◌/◌, ◌%◌, ◌<◌, ◌≤◌, ◌==◌, min, nat_le, if◌then◌else◌, List, [], length, map, get_or, Option, None, Some, slice_get, slice_index, slice_index_or, refl, sym, ◌∙◌, ap, subst, arith, ⊎_elim, ℤ, pos, ◌-ℤ◌}
use Rattle.std.specs.List.{fold}
use Rattle.std.proofs.Math.Nat.{mul-le-mul}
use Rattle.std.proofs.lemmas.Bool.{and_parts, cases_lt, eqb-true, le-leb}
use Rattle.std.proofs.lemmas.Int.{ints}
use Rattle.std.proofs.lemmas.Nat.{div-add-mod', mod_below}
use Rattle.std.proofs.lemmas.List.{ext_get_or, get_or-map, length-map}
use Rattle.std.proofs.lemmas.List.FromFn.{get_or-range_with_len, length-range_with_len}
use Rattle.net_ir.specs.Firings.{firings_at}
use Rattle.net_ir.specs.Nets.{Net, StandByPort, age, age_at, entrances, queue_at}
use Rattle.net_ir.specs.declared.network.Module.{Module}
use Rattle.net_ir.specs.declared.network.Module.TheVariants.{Source, Forward, Compute, Sink}
use Rattle.net_ir.specs.declared.network.Queue.{Queue}
use Rattle.net_shape.specs.Modules.{IsThere, modules_of, number_of}
use Rattle.net_shape.specs.Plans.{IsPlan, Plan}
use Rattle.net_shape.specs.Queues.{network_of}
use Rattle.net_shape.proofs.CallerLemmas.{each_there, number_is}
use Rattle.net_build.specs.Planned.{firings_for, net_under, plan_of}
use Rattle.net_build.proofs.CallerLemmas.{each_within}
use Rattle.reuse_chain.specs.Lanes.{greatest}
use Rattle.soda_ir.specs.Counts.{is_output, output_number}
use Rattle.soda_ir.specs.Points.{listed}
use Rattle.soda_ir.specs.Program.{PlainProgram, input_types}
use Rattle.soda_ir.specs.Valid.{IsSound}
use Rattle.soda_ir.proofs.CallerLemmas.{get-listed, length-listed}
use Rattle.soda_eval.specs.Runs.{HasArrays, cells_at, defined_arrays}
use Rattle.time_stages.specs.declared.staging.StagedTensor.{StagedTensor}
use Rattle.time_stages.specs.Staged.{staged_tensors}
use Rattle.staged_cells.specs.Sends.{AreSent, IsPrefix, handed_list, item_taken, items_given, output_of, port_items}
use Rattle.staged_cells.specs.Streams.{HasStreams, cell_number, lane_between, module_at, receiver, sender, stage_cell, stream, tensor_of}
use Rattle.staged_cells.proofs.Designs.{kind_is, kinds_are, output_kind, some_stage, staged_at}
use Rattle.staged_cells.proofs.Entrances.{entrance_is, sink_ports}
use Rattle.staged_cells.proofs.ReadPorts.{item_is}
use Rattle.staged_cells.proofs.Links.{Joins, joined_at, module_of}
use Rattle.staged_cells.proofs.Lists.{least_each, least_reached}
use Rattle.staged_cells.proofs.Runs.{lists_right}
use Rattle.staged_cells.proofs.StageCells.{output_is}

-- a module of the network is there, at its number
pub number_there : (p : Plan) → IsPlan p → (m : ℕ) → m < length (network_of p).modules
    → IsThere p (module_at (network_of p) m) × (m ≡ number_of p (module_at (network_of p) m))
unfolding network_of
number_there p plan m lt =
    let t = each_there p plan.lanes m (Sink 0) lt in
    (t.0, sym (number_is p plan.lanes (get_or (modules_of p) m (Sink 0)) t.0 ∙ t.1))

-- what comes to a sink is of its tensor, and of the lane of the port
into_sink : (p : Plan) (s r : Module) (v : ℕ) (q : Queue) → Joins p s (Sink v) q → (tensor_of s ≡ v) × (lane_between s r ≡ q.port)
into_sink p (Source w) r v q j = absurd j
into_sink p (Forward w row a) r v q j = absurd j
into_sink p (Compute w row) r v q j = (j.0, j.1)
into_sink p (Sink w) r v q j = absurd j

-- and the queue has no lead
sink_lead : (p : Plan) (s : Module) (v : ℕ) (q : Queue) → Joins p s (Sink v) q → q.lead ≡ 0
sink_lead p (Source w) v q j = absurd j
sink_lead p (Forward w row a) v q j = absurd j
sink_lead p (Compute w row) v q j = j.2
sink_lead p (Sink w) v q j = absurd j

-- as many firings as a module of age 0 has are enough for each cell of each tensor
firings_enough : (cells : ℕ) (p : Plan) (v : ℕ) → 0 < p.unroll → cells + slice_index p.delays v ≤ p.unroll * firings_for cells p
firings_enough cells p v some =
    let n = cells + greatest p.delays + (p.unroll - 1) in
    omega (arith, div-add-mod' n p.unroll, mod_below n p.unroll some, each_within p.delays v)

-- of the items before t, lane by lane, item t / u of lane t mod u is one that is there
pub item_there : (u t n : ℕ) → 0 < u → t < u * n + t % u → t / u < n
item_there u t n some lt =
    ⊎_elim
    (λ (l : t / u < n). l)
    (λ (l : n ≤ t / u). let same : u ≤ u = omega arith in let product = mul-le-mul l same in absurd (omega (arith, div-add-mod' t u, product)))
    (cases_lt (t / u) n)

-- the defined array of a sink's output
pub sink_array : (p : PlainProgram) → IsSound p → (delays : List ℕ) (rows : ℕ) (params : List ℤ) (inputs : List (List ℤ)) (v : ℕ)
    → IsThere (plan_of p delays) (Sink v)
    → slice_index_or (defined_arrays p rows params inputs) (output_of p v) [] ≡ listed (λ n. stage_cell p rows params inputs v (pos n)) (cells_at p rows)
sink_array p sound delays rows params inputs v h =
    let s = get_or (staged_tensors p) v some_stage in
    let e : slice_get (staged_tensors p) v ≡ Some s = staged_at p sound delays v h.0 in
    let both = and_parts (is_output p s.tensor) (s.turn == p.iterate)
    (output_kind p sound s (sym (kind_is p sound delays v (omega (arith, h.0, kinds_are p sound delays))) ∙ h.1)) in
    ap (λ (o : Option StagedTensor). slice_index_or (defined_arrays p rows params inputs) (elim o [ None ↦ 0 | Some u ↦ output_number p u.tensor ]) []) e
    ∙ output_is p sound rows params inputs v s e both.0 (eqb-true s.turn p.iterate both.1)

module _ (p : PlainProgram) (delays : List ℕ) (plan : IsPlan (plan_of p delays)) (stand : (m : ℕ) → StandByPort (net_under p delays) m) (v : ℕ)
    (h : IsThere (plan_of p delays) (Sink v)) where
  abbrev the_plan : Plan
  the_plan = plan_of p delays

  abbrev net : Net
  net = net_under p delays

  abbrev m : ℕ
  m = number_of the_plan (Sink v)

  abbrev es : List ℕ
  es = entrances net m

  abbrev port : ℕ → ℕ
  port q = (queue_at net.queues q).port

  -- a sink has a queue for each lane
  pub as_many_lanes : length es ≡ p.unroll
  as_many_lanes = sym (length-map es port) ∙ ap length (sink_ports the_plan plan stand v h) ∙ length-range_with_len 0 p.unroll

  pub lane_port : (lane : ℕ) → lane < p.unroll → port (get_or es lane 0) ≡ lane
  lane_port lane lt =
      omega (
        arith,
        get_or-map port es lane 0 0 (omega (arith, as_many_lanes)),
        ap (λ xs. get_or xs lane 0)
            (sink_ports the_plan plan stand v h),
        get_or-range_with_len 0 p.unroll lane 0 lt,
      )

  module _ (rows : ℕ) (params : List ℤ) (inputs : List (List ℤ)) where
    -- what the queues to it carry are the cells of its output
    pub lane_carries : (lane k : ℕ) → lane < p.unroll
        → stream p rows params inputs delays (slice_index es lane) k ≡ stage_cell p rows params inputs v (cell_number the_plan v lane k)
    lane_carries lane k lt =
        let n = get_or es lane 0 in
        let q = queue_at net.queues n in
        let ends = entrance_is the_plan plan stand m lane 0 (omega (arith, as_many_lanes)) in
        let joined = joined_at the_plan plan n ends.0 in
        let to : receiver net n ≡ Sink v = ap (module_at net) ends.1 ∙ module_of the_plan plan (Sink v) h in
        let s = sender net n in
        let is = into_sink the_plan s (Sink v) v q (subst (λ (b : Module). Joins the_plan s b q) to joined.joins) in
        item_is p delays rows params inputs n s (Sink v) k refl to
        ∙ ap (λ y. stage_cell p rows params inputs y (cell_number the_plan y (lane_between s (Sink v)) k)) is.0
        ∙ ap (λ y. stage_cell p rows params inputs v (cell_number the_plan v y k)) (is.1 ∙ lane_port lane lt)

    lane_lead : (lane : ℕ) → lane < p.unroll → (queue_at net.queues (get_or es lane 0)).lead ≡ 0
    lane_lead lane lt =
        let n = get_or es lane 0 in
        let q = queue_at net.queues n in
        let ends = entrance_is the_plan plan stand m lane 0 (omega (arith, as_many_lanes)) in
        let joined = joined_at the_plan plan n ends.0 in
        let to : receiver net n ≡ Sink v = ap (module_at net) ends.1 ∙ module_of the_plan plan (Sink v) h in
        sink_lead the_plan (sender net n) v q (subst (λ (b : Module). Joins the_plan (sender net n) b q) to joined.joins)

    -- so its ports hold the cells of its output, lane by lane
    pub lanes_held : (k : ℕ) → port_items net (stream p rows params inputs delays) m k
        ≡ listed (λ lane. stage_cell p rows params inputs v (cell_number the_plan v lane k)) p.unroll
    lanes_held k =
        let items : ℕ → ℕ → ℤ = stream p rows params inputs delays in
        let f : ℕ → ℤ = λ n. if nat_le (queue_at net.queues n).lead k then items n (k - (queue_at net.queues n).lead) else pos 0 in
        let g : ℕ → ℤ = λ lane. stage_cell p rows params inputs v (cell_number the_plan v lane k) in
        ext_get_or (pos 0) (map f es) (listed g p.unroll) (length-map es f ∙ as_many_lanes ∙ sym (length-listed g p.unroll))
        (λ lane lt.
        let within : lane < length es = omega (arith, length-map es f, lt) in
        let below : lane < p.unroll = omega (arith, as_many_lanes) in
        let e = get_or es lane 0 in
        let lead = (queue_at net.queues e).lead in
        let none : lead ≡ 0 = lane_lead lane below in
        let le : lead ≤ k = omega (arith, none) in
        let now : k - lead ≡ k = omega (arith, none) in
        get_or-map f es lane 0 (pos 0) within
        ∙ ap (λ b. if b then items e (k - lead) else pos 0) (le-leb lead k le)
        ∙ ap (items e) now
        ∙ lane_carries lane k below
        ∙ sym (get-listed g p.unroll lane (pos 0) below))

    module _ (design : HasStreams p delays) (arrays : HasArrays (cells_at p rows) (input_types p.tensors) inputs) (firings : ℕ) (taken sent : ℕ → List ℤ)
        (run : AreSent p rows params inputs delays firings taken sent) where
      -- an item that a sink takes
      item_right : (t : ℕ) → t < items_given net p.unroll firings taken m
          → item_taken net p.unroll taken m t ≡ stage_cell p rows params inputs v (pos t -ℤ pos (slice_index delays v))
      unfolding items_given
      item_right t lt =
          let u = p.unroll in
          let lane = t % u in
          let k = t / u in
          let below : lane < u = mod_below t u plan.lanes in
          let within : lane < length es = omega (arith, as_many_lanes) in
          let e = get_or es lane 0 in
          let f : ℕ → ℕ = λ q. u * length (taken q) + port q in
          let low : fold min (u * firings_at net firings m) (map f es) ≤ get_or (map f es) lane 0 =
          least_each (u * firings_at net firings m) (map f es) lane 0 (omega (arith, length-map es f)) in
          let some : k < length (taken e) =
          item_there u t (length (taken e)) plan.lanes (omega (arith, get_or-map f es lane 0 0 within, lane_port lane below)) in
          let ends = entrance_is the_plan plan stand m lane 0 within in
          let prefix = run.takes e ends.0 in
          let number : cell_number the_plan v lane k ≡ (pos t -ℤ pos (slice_index delays v)) =
          ap (λ n. pos n -ℤ pos (slice_index delays v)) (let w : u * k + lane ≡ t = omega (arith, div-add-mod' t u) in w) in
          prefix.same k some
          ∙ lists_right p delays design plan stand rows params inputs arrays firings taken sent run e ends.0 k (omega (arith, prefix.short))
          ∙ lane_carries lane k below
          ∙ ap (stage_cell p rows params inputs v) number

      -- what it hands on is a prefix of the defined array
      pub handed_right : (handed : List ℤ) → IsPrefix handed (handed_list p rows delays firings taken m (slice_index delays v))
          → IsPrefix handed (slice_index_or (defined_arrays p rows params inputs) (output_of p v) [])
      unfolding handed_list
      handed_right handed prefix =
          let d = slice_index delays v in
          let given = items_given net p.unroll firings taken m in
          let count = min (cells_at p rows) (given - d) in
          let f : ℕ → ℤ = λ n. item_taken net p.unroll taken m (n + d) in
          let g : ℕ → ℤ = λ n. stage_cell p rows params inputs v (pos n) in
          let short : length handed ≤ count = omega (arith, prefix.short, length-listed f count) in
          subst (IsPrefix handed) (sym (sink_array p design.valid.sound delays rows params inputs v h)) (record {
            short = omega (arith, short, length-listed g (cells_at p rows));
            same = λ i lt.
                let back : (pos (i + d) -ℤ pos d) ≡ pos i = omega (arith, ints) in
                prefix.same i lt
                ∙ get-listed f count i (pos 0) (omega arith)
                ∙ item_right (i + d) (omega arith)
                ∙ ap (stage_cell p rows params inputs v) back
                ∙ sym (get-listed g (cells_at p rows) i (pos 0) (omega arith));
          })

  -- where all items are taken that a module of age 0 sends, all cells are handed on
  pub handed_whole : (rows firings : ℕ) (taken : ℕ → List ℤ) → firings ≡ firings_for (cells_at p rows) the_plan
      → ((lane : ℕ) → lane < p.unroll → firings ≤ length (taken (slice_index es lane)))
      → length (handed_list p rows delays firings taken m (slice_index delays v)) ≡ cells_at p rows
  unfolding handed_list items_given
  handed_whole rows firings taken many_firings each =
      let enough : cells_at p rows + slice_index delays v ≤ p.unroll * firings =
      omega (arith, firings_enough (cells_at p rows) the_plan v plan.lanes, ap (λ n. p.unroll * n) many_firings) in
      let u = p.unroll in
      let d = slice_index delays v in
      let f : ℕ → ℕ = λ q. u * length (taken q) + port q in
      let none : age_at net m ≡ 0 = ap age (module_of the_plan plan (Sink v) h) in
      let start : u * firings ≤ u * firings_at net firings m = let e : firings ≡ firings_at net firings m = omega arith in omega (arith, ap (λ n. u * n) e) in
      let given : u * firings ≤ fold min (u * firings_at net firings m) (map f es) =
      least_reached (u * firings) (u * firings_at net firings m) (map f es) start (λ k b lt.
      let within : k < length es = omega (arith, length-map es f) in
      let many = each k (omega (arith, as_many_lanes)) in
      let same : u ≤ u = omega arith in
      let product = mul-le-mul many same in
      omega (arith, get_or-map f es k 0 b within, product)) in
      length-listed (λ n. item_taken net p.unroll taken m (n + d)) (min (cells_at p rows) (fold min (u * firings_at net firings m) (map f es) - d))
      ∙ omega arith
