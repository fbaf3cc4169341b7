-- The values at the ports of a computing module: of the types of what is read, so that wrapping changes none.
use Rattle.std.proofs.Common.{◌≡◌, ℕ, suc, ◌-◌, ◌<◌, nat_le, List, [], ◌∷◌, length, map, get_or, Some, slice_get, slice_index_or, refl, sym, ◌∙◌, ap, subst, arith, if◌then◌else◌, ℤ, pos}
use Rattle.std.proofs.lemmas.List.{get_or-map, length-map}
use Rattle.soda_words.specs.IntType.{IntType, int32}
use Rattle.int_types.specs.Ranges.{InRange, wrapped}
use Rattle.int_types.proofs.CallerLemmas.{own_wrap, wrapped_is}
use Rattle.delay_net.specs.declared.net.Read.{Read}
use Rattle.net_ir.specs.Nets.{Net, StandByPort, entrances, queue_at}
use Rattle.net_ir.specs.declared.network.Module.{Module}
use Rattle.net_ir.specs.declared.network.Module.TheVariants.{Source, Forward, Compute, Sink}
use Rattle.net_shape.specs.Modules.{IsThere, number_of}
use Rattle.net_shape.specs.Plans.{IsPlan, Plan}
use Rattle.net_build.specs.Planned.{net_under, plan_of}
use Rattle.soda_ir.specs.Program.{PlainProgram, input_types}
use Rattle.soda_ir.specs.Valid.{IsSound}
use Rattle.soda_ir.proofs.CallerLemmas.{known_list}
use Rattle.soda_eval.specs.Runs.{HasArrays, HasValues, cells_at}
use Rattle.time_stages.specs.declared.staging.StagedTensor.{StagedTensor}
use Rattle.time_stages.specs.Staged.{staged_reads, staged_tensors, type_of}
use Rattle.time_stages.proofs.CallerLemmas.{get_at}
use Rattle.staged_cells.specs.Cells.{port_types, reads_by, type_at}
use Rattle.staged_cells.specs.Sends.{port_items, wrapped_ports}
use Rattle.staged_cells.specs.Streams.{HasStreams, cell_number, lane_between, module_at, receiver, sender, stream, tensor_of}
use Rattle.staged_cells.proofs.Designs.{some_stage, staged_at}
use Rattle.staged_cells.proofs.Entrances.{entrance_is}
use Rattle.staged_cells.proofs.Firings.{into_reader}
use Rattle.staged_cells.proofs.Links.{Joins, joined_at, module_of, no_read}
use Rattle.staged_cells.proofs.ReadPorts.{item_is, read_is, reads_counted}
use Rattle.staged_cells.proofs.Sent.{value_at_place}
use Rattle.staged_cells.proofs.StageCells.{either_in_range, stage_in_range, stage_is, type_is, width_some}

-- the tensor of a module is there
there_within : (p : Plan) (m : Module) → IsThere p m → tensor_of m < length p.kinds
there_within p (Source v) h = h.0
there_within p (Forward v lane tap) h = h.0
there_within p (Compute v lane) h = h.0
there_within p (Sink v) h = h.0

values_length : (types : List IntType) (vs : List ℤ) → HasValues types vs → length vs ≡ length types
values_length [] [] h = refl
values_length [] (v ∷ vs) h = absurd h
values_length (t ∷ ts) [] h = absurd h
values_length (t ∷ ts) (v ∷ vs) h = ap suc (values_length ts vs h.1)

values_by : (types : List IntType) (vs : List ℤ) → length vs ≡ length types
    → ((j : ℕ) → j < length types → InRange (slice_index_or types j int32) (slice_index_or vs j (pos 0)))
    → HasValues types vs
values_by [] [] e h = tt
values_by [] (v ∷ vs) e h = absurd (omega arith)
values_by (t ∷ ts) [] e h = absurd (omega arith)
values_by (t ∷ ts) (v ∷ vs) e h = (h 0 (omega arith), values_by ts vs (omega arith) (λ j lt. h (suc j) (omega arith)))

module _ (p : PlainProgram) (delays : List ℕ) (design : HasStreams p delays) (plan : IsPlan (plan_of p delays))
    (stand : (m : ℕ) → StandByPort (net_under p delays) m) (x lane : ℕ) (h : IsThere (plan_of p delays) (Compute x lane)) where
  abbrev the_plan : Plan
  the_plan = plan_of p delays

  abbrev net : Net
  net = net_under p delays

  abbrev es : List ℕ
  es = entrances net (number_of the_plan (Compute x lane))

  abbrev types : List IntType
  types = port_types p x

  sound : IsSound p
  sound = design.valid.sound

  -- the staged tensor that a port reads
  abbrev source : ℕ → StagedTensor
  source j = get_or (staged_tensors p) (tensor_of (sender net (get_or es j 0))) some_stage

  source_there : (j : ℕ) → j < length es → slice_get (staged_tensors p) (tensor_of (sender net (get_or es j 0))) ≡ Some (source j)
  source_there j lt =
      let ends = entrance_is the_plan plan stand (number_of the_plan (Compute x lane)) j 0 lt in
      staged_at p sound delays (tensor_of (sender net (get_or es j 0)))
      (there_within the_plan (sender net (get_or es j 0)) (joined_at the_plan plan (get_or es j 0) ends.0).sends)

  ends_here : (j : ℕ) → j < length es → receiver net (get_or es j 0) ≡ Compute x lane
  ends_here j lt =
      let ends = entrance_is the_plan plan stand (number_of the_plan (Compute x lane)) j 0 lt in
      ap (module_at net) ends.1 ∙ module_of the_plan plan (Compute x lane) h

  port_type : (j : ℕ) → j < length es → slice_index_or types j int32 ≡ type_of p (source j).tensor
  port_type j lt =
      let mine = reads_by (staged_reads p) x in
      let within : j < length mine = omega (arith, reads_counted p delays plan stand x lane h, length-map mine (λ (r : Read). type_at p r.of)) in
      let r = get_or mine j no_read in
      let at = read_is p delays plan stand x lane h j r (get_at mine j no_read within) in
      let n = get_or es j 0 in
      let q = queue_at net.queues n in
      let ends = entrance_is the_plan plan stand (number_of the_plan (Compute x lane)) j 0 lt in
      let joined = joined_at the_plan plan n ends.0 in
      let s = sender net n in
      let is = into_reader the_plan s (Compute x lane) x lane q joined.sends (subst (λ (b : Module). Joins the_plan s b q) (ends_here j lt) joined.joins) in
      let of : tensor_of s ≡ r.of = is.of ∙ ap (λ (y : Read). y.of) at.1 in
      get_or-map (λ (y : Read). type_at p y.of) mine j no_read int32 within
      ∙ ap (type_at p) (sym of)
      ∙ type_is p sound 0 [] [] (tensor_of s) (source j) (source_there j lt)

  port_bits : (j : ℕ) → j < length es → 0 < (slice_index_or types j int32).bits
  port_bits j lt =
      subst (λ (t : IntType). 0 < t.bits) (sym (port_type j lt))
      (width_some p sound 0 [] [] (tensor_of (sender net (get_or es j 0))) (source j) (source_there j lt) design.widths)

  -- wrapping changes no value in range
  pub wrapped_kept : (ports : List ℤ) → HasValues types ports → wrapped_ports p x ports ≡ ports
  wrapped_kept ports have =
      let many = values_length types ports have in
      sym (known_list (λ j. wrapped (slice_index_or types j int32) (slice_index_or ports j (pos 0))) (length types) ports (pos 0) many (λ j lt.
      let t = slice_index_or types j int32 in
      let v = slice_index_or ports j (pos 0) in
      wrapped_is t v v (port_bits j (omega (arith, reads_counted p delays plan stand x lane h))) (own_wrap t v (value_at_place types ports j have lt))))

  -- the items of the streams are in range
  pub streams_in_range : (rows : ℕ) (params : List ℤ) (inputs : List (List ℤ)) → HasArrays (cells_at p rows) (input_types p.tensors) inputs → (k : ℕ)
      → HasValues types (port_items net (stream p rows params inputs delays) (number_of the_plan (Compute x lane)) k)
  streams_in_range rows params inputs arrays k =
      let items = stream p rows params inputs delays in
      let f : ℕ → ℤ = λ queue. if nat_le (queue_at net.queues queue).lead k then items queue (k - (queue_at net.queues queue).lead) else pos 0 in
      values_by types (map f es) (length-map es f ∙ reads_counted p delays plan stand x lane h) (λ j lt.
      let within : j < length es = omega (arith, reads_counted p delays plan stand x lane h) in
      let n = get_or es j 0 in
      let i = k - (queue_at net.queues n).lead in
      let s = sender net n in
      let z = cell_number the_plan (tensor_of s) (lane_between s (Compute x lane)) i in
      let cell = item_is p delays rows params inputs n s (Compute x lane) i refl (ends_here j within)
      ∙ stage_is p sound rows params inputs (tensor_of s) (source j) (source_there j within) z in
      let good : InRange (type_of p (source j).tensor) (items n i) =
      subst (InRange (type_of p (source j).tensor)) (sym cell)
      (stage_in_range p sound rows params inputs (tensor_of s) (source j) (source_there j within) arrays z) in
      subst (λ (t : IntType). InRange t (slice_index_or (map f es) j (pos 0))) (sym (port_type j within))
      (subst (InRange (type_of p (source j).tensor)) (sym (get_or-map f es j 0 (pos 0) within))
      (either_in_range (type_of p (source j).tensor) (nat_le (queue_at net.queues n).lead k) (items n i) good)))
