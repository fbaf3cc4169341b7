-- A firing of a module of a run: that it may be done, what it sends, and what it hands on.
use Rattle.std.proofs.Common.{◌≡◌, ℕ, ◌+◌, ◌-◌, ◌*◌, ◌<◌, ◌≤◌, ◌^◌, ◌++◌, All, List, [], length, map, take, get_or, slice_index, slice_index_or, sym, ap, subst, ◌∙◌, arith, ℤ, pos, ◌-ℤ◌, ◌<ℤ◌}
use Rattle.std.proofs.lemmas.List.{length-map}
use Rattle.std.proofs.lemmas.List.Elements.{All-get_or}
use Rattle.int_types.specs.Ranges.{InRange, wrapped}
use Rattle.bursts.specs.Readers.{kind}
use Rattle.bursts.specs.Writers.{output}
use Rattle.soda_io.specs.Store.{Store}
use Rattle.net_ir.specs.Nets.{entrances, exits}
use Rattle.net_ir.specs.declared.network.Module.{Module}
use Rattle.net_ir.specs.declared.network.Module.TheVariants.{Source}
use Rattle.soda_ir.specs.Points.{listed}
use Rattle.soda_ir.specs.Program.{input_types}
use Rattle.soda_ir.proofs.CallerLemmas.{get-listed, length-listed}
use Rattle.staged_cells.specs.Cells.{type_at}
use Rattle.staged_cells.specs.Sends.{computed, numbered}
use Rattle.staged_cells.specs.Streams.{cell_number, lane_of, module_at, receiver, stage_cell}
use Rattle.file_modules.specs.Firings.{cells_before, handed}
use Rattle.file_modules.specs.Modules.{handed_by, read_before, sink, source}
use Rattle.file_modules.specs.Modules as of
use Rattle.file_modules.specs.Laws.{AreCells}
use Rattle.file_modules.proofs.CallerLemmas.{hands_first, hands_next}
use Rattle.cycle_sim.specs.Settings.{AreInputs, IsSettings, Settings, array_cells, array_over, net_in, plan_in}
use Rattle.cycle_sim.specs.Sends.{SendsBy, exit_lanes}
use Rattle.cycle_sim.specs.Stations.{AreBegun, IsSinkOf, IsSourceOf, SourceAt, StationAt, Units, good_in, lane_cell, station_at, was_read}
use Rattle.cycle_sim.specs.machine.Firings.{Fired, GoesOn, MayFire, Moves, OfSource}
use Rattle.cycle_sim.specs.declared.stations.SourceStation.{SourceStation}
use Rattle.cycle_sim.specs.declared.stations.SinkStation.{SinkStation}
use Rattle.cycle_sim.specs.declared.stations.Station.{Station}
use Rattle.cycle_sim.specs.declared.stations.Station.TheVariants as station
use Rattle.cycle_sim.proofs.Lanes.{difference, same_lane, short_array, small_place, some_bits, wrapped_part}
use Rattle.cycle_sim.proofs.Moving.{same_good, there}

-- a module of a run may fire
pub may_fire : {U : Type 0} (tells : Type 0) (units : Units U) (c : Settings) (given : ℕ) (store : Store) (stations : List (Station U)) (m k ports sends : ℕ) (a : Station U)
    → IsSettings c → StationAt tells units c given store stations m k (module_at (net_in c) m) a → k < 2 ^ 40
    → ports ≡ length (entrances (net_in c) m) → sends ≡ length (exits (net_in c) m) → MayFire tells units given store k ports sends a
may_fire tells units c given store stations m k ports sends (station.Source s) is at small p q = (
  at.3,
  q ∙ sym (ap length at.2.lanes ∙ length-map (exits (net_in c) m) (λ queue. lane_of (receiver (net_in c) queue))),
  subst (λ n. All (λ lane. lane < n) s.lanes.items) (sym at.2.unroll)
      (subst (λ xs. All (λ lane. lane < c.program.unroll) xs) (sym at.2.lanes) at.2.within),
)
may_fire tells units c given store stations m k ports sends station.Forward is at small p q = tt
may_fire tells units c given store stations m k ports sends (station.Compute u) is at small p q = (
  p ∙ sym at.3.count,
  subst (λ z. z <ℤ pos (2 ^ 60)) (sym at.3.place)
      (small_place c.program.unroll k at.1 (slice_index c.delays at.0) is.lanes at.3.within small),
)
may_fire tells units c given store stations m k ports sends (station.Sink s) is at small p q =
    (at.3.known, at.3.created, p ∙ at.2.lanes ∙ sym at.2.unroll)

module _ {U : Type 0} (tells : Type 0) (units : Units U) (c : Settings) (given : ℕ) (old new : Store) (before after : List (Station U)) (m k : ℕ)
    (moves : Moves tells given old new before after m) (told : tells) (inputs : List (List ℤ)) (arrays : AreInputs c inputs)
    (begun : AreBegun new after inputs) (ports sends : List ℤ) where
  -- a source sends the cells of its input's array
  source_sends : (v : ℕ) (s : SourceStation) → station_at before m ≡ station.Source s → IsSourceOf c m v s
      → Fired tells units given old new k ports sends (station.Source s) moves.is → length sends ≡ length (exits (net_in c) m)
      → SendsBy c inputs (Source v) k (exit_lanes (net_in c) m) ports sends
  source_sends v s was is fired many j lt =
      let on = subst (λ a. GoesOn a moves.is) was moves.on in
      let r : SourceStation = on.0 in
      let now : station_at after m ≡ station.Source r = there tells given old new before after m moves ∙ on.1 in
      let own : SourceAt tells given new (k + 1) r = subst (λ t. OfSource t (SourceAt tells given new (k + 1))) on.1 fired.0 in
      let read : was_read r ≡ read_before (source s.reads) (k + 1) = ap (λ n. read_before (source r.reads) n) own.done
      ∙ ap (λ (x : of.Source). read_before x (k + 1)) on.2 in
      let good : good_in new r ≡ good_in old s = same_good old new s r on.2 (moves.read told s was) in
      let input : r.input ≡ v = on.3 ∙ is.input in
      let array : List ℤ = slice_index_or inputs v [] in
      let same : take (read_before (source s.reads) (k + 1)) (good_in old s) ≡ take (read_before (source s.reads) (k + 1)) array =
      sym (ap (λ n. take n (good_in new r)) read ∙ ap (take (read_before (source s.reads) (k + 1))) good)
      ∙ begun m r now
      ∙ ap (λ n. take n (slice_index_or inputs r.input [])) read
      ∙ ap (λ i. take (read_before (source s.reads) (k + 1)) (slice_index_or inputs i [])) input in
      let lane : ℕ = slice_index (exit_lanes (net_in c) m) j in
      let within : lane < c.program.unroll = All-get_or (λ n. n < c.program.unroll) (exit_lanes (net_in c) m) j 0
      (omega (arith, lt, many, length-map (exits (net_in c) m) (λ queue. lane_of (receiver (net_in c) queue)))) is.within in
      let inside : lane < s.reads.unroll = subst (λ n. lane < n) (sym is.unroll) within in
      let short : length array ≤ (kind s.reads.reader).cells = subst (λ n. length array ≤ n) (sym is.cells)
      (short_array (input_types c.program.tensors) inputs arrays v) in
      (fired.1 told).0 j lt
      ∙ ap (λ (xs : List ℕ). lane_cell s.reads (good_in old s) k (slice_index xs j)) is.lanes
      ∙ same_lane s.reads.unroll s.reads.delay (kind s.reads.reader).cells k lane (good_in old s) array inside short same
      ∙ ap (λ u. numbered array (pos (u * k + lane) -ℤ pos s.reads.delay)) is.unroll
      ∙ ap (λ d. numbered array (pos (c.program.unroll * k + lane) -ℤ pos d)) is.delay

  -- what a module sends
  pub sends_by : (a : Station U) → station_at before m ≡ a → (is : Module) → StationAt tells units c given old before m k is a
      → Fired tells units given old new k ports sends a moves.is → length ports ≡ length (entrances (net_in c) m)
      → length sends ≡ length (exits (net_in c) m) → SendsBy c inputs is k (exit_lanes (net_in c) m) ports sends
  sends_by (station.Source s) was is at fired p many =
      subst (λ (q : Module). SendsBy c inputs q k (exit_lanes (net_in c) m) ports sends) (sym at.1) (source_sends at.0 s was at.2 fired many)
  sends_by station.Forward was is at fired p many =
      subst (λ (q : Module). SendsBy c inputs q k (exit_lanes (net_in c) m) ports sends) (sym at.3) (λ j lt. fired j lt)
  sends_by (station.Compute u) was is at fired p many =
      subst (λ (q : Module). SendsBy c inputs q k (exit_lanes (net_in c) m) ports sends) (sym at.2)
      (λ j lt. fired.1 j lt ∙ at.3.value ports (units.place u) (p ∙ sym at.3.count)
      ∙ ap (λ z. computed c.program c.rows c.params at.0 ports z) at.3.place)
  sends_by (station.Sink s) was is at fired p many =
      subst (λ (q : Module). SendsBy c inputs q k (exit_lanes (net_in c) m) ports sends) (sym at.1) (λ j lt. fired.1 j lt)

-- what a sink hands on, where its ports hold the cells of its output
module _ (c : Settings) (settings : IsSettings c) (inputs : List (List ℤ)) (v k : ℕ) (ports : List ℤ)
    (held : ports ≡ listed (λ lane. stage_cell c.program c.rows c.params inputs v (cell_number (plan_in c) v lane k)) c.program.unroll)
    (in_range : (z : ℤ) → InRange (type_at c.program v) (stage_cell c.program c.rows c.params inputs v z)) where
  abbrev pub u : ℕ
  u = c.program.unroll

  abbrev pub d : ℕ
  d = slice_index c.delays v

  abbrev pub n : ℕ
  n = array_cells c

  abbrev pub cell : ℤ → ℤ
  cell z = stage_cell c.program c.rows c.params inputs v z

  abbrev pub array : List ℤ
  array = array_over c inputs v

  are_cells : AreCells u d n k array ports
  are_cells r lt from below =
      ap (λ xs. get_or xs r (pos 0)) held
      ∙ get-listed (λ lane. cell (cell_number (plan_in c) v lane k)) u r (pos 0) lt
      ∙ ap cell (difference (u * k + r) d from)
      ∙ sym (get-listed (λ i. cell (pos i)) n (u * k + r - d) (pos 0) below)

  size : length ports ≡ u
  size = ap length held ∙ length-listed (λ lane. cell (cell_number (plan_in c) v lane k)) u

  long : length array ≡ n
  long = length-listed (λ i. cell (pos i)) n

  cells_in_range : (i : ℕ) → i < length array → InRange (type_at c.program v) (get_or array i (pos 0))
  cells_in_range i lt =
      subst (InRange (type_at c.program v)) (sym (get-listed (λ i. cell (pos i)) n i (pos 0) (omega (arith, long)))) (in_range (pos i))

  handed_wrapped : map (wrapped (type_at c.program v)) (handed u d n k ports) ≡ handed u d n k ports
  handed_wrapped =
      let next = hands_next u d n k array ports size (omega (arith, long)) are_cells in
      ap (map (wrapped (type_at c.program v))) next
      ∙ wrapped_part (type_at c.program v) array (cells_before u d n (k + 1) - cells_before u d n k) (cells_before u d n k)
      (some_bits c.program settings.streams.widths v) cells_in_range
      ∙ sym next

  pub hands : (m : ℕ) (s : SinkStation) → IsSinkOf c m v s
      → take (cells_before u d n k) array ++ map (wrapped (output s.writes.writer).ty) (handed_by (sink s.writes) k ports)
      ≡ take (cells_before u d n (k + 1)) array
  hands m s is =
      let same : handed_by (sink s.writes) k ports ≡ handed u d n k ports = ap (λ x. handed x s.writes.delay s.writes.cells k ports) is.unroll
      ∙ ap (λ x. handed u x s.writes.cells k ports) is.delay
      ∙ ap (λ x. handed u d x k ports) is.cells in
      ap (λ xs. take (cells_before u d n k) array ++ map (wrapped (output s.writes.writer).ty) xs) same
      ∙ ap (λ t. take (cells_before u d n k) array ++ map (wrapped t) (handed u d n k ports)) is.ty
      ∙ ap (λ xs. take (cells_before u d n k) array ++ xs) handed_wrapped
      ∙ hands_first u d n k array ports size (omega (arith, long)) are_cells
