-- What a module is behind its firing.
use Rattle.std.proofs.Common.{◌≡◌, ℕ, ◌+◌, ◌*◌, ◌<◌, ◌++◌, List, map, take, slice_index, Some, refl, sym, ap, subst, ◌∙◌, arith, ℤ, pos, ◌+ℤ◌, ◌-ℤ◌}
use Rattle.std.proofs.lemmas.Int.{ints}
use Rattle.soda_io.specs.Store.{Store}
use Rattle.bursts.specs.Writers.{HasPut, output}
use Rattle.int_types.specs.Ranges.{wrapped}
use Rattle.net_ir.specs.declared.network.Module.TheVariants.{Sink}
use Rattle.staged_cells.specs.Streams.{module_at}
use Rattle.file_modules.specs.Firings.{cells_before}
use Rattle.file_modules.specs.Modules.{handed_by, sink, source}
use Rattle.file_modules.specs.Modules as of
use Rattle.cycle_sim.specs.Settings.{AreInputs, Settings, array_cells, array_over, net_in}
use Rattle.cycle_sim.specs.Stations.{AreBegun, IsSinkOf, IsSourceOf, SinkAt, SourceAt, StationAt, UnitAt, Units, id_of, station_at, write_id}
use Rattle.cycle_sim.specs.machine.Firings.{Fired, GoesOn, Moves, OfCompute, OfSink, OfSource}
use Rattle.cycle_sim.specs.declared.stations.SourceStation.{SourceStation}
use Rattle.cycle_sim.specs.declared.stations.SinkStation.{SinkStation}
use Rattle.cycle_sim.specs.declared.stations.Station.{Station}
use Rattle.cycle_sim.specs.declared.stations.Station.TheVariants as station
use Rattle.cycle_sim.proofs.Moving.{begun_before}

-- what a source was made for
pub source_made : (c : Settings) (m v : ℕ) (s r : SourceStation) → source r.reads ≡ source s.reads → r.input ≡ s.input → r.lanes ≡ s.lanes
    → IsSourceOf c m v s → IsSourceOf c m v r
source_made c m v s r same input lanes is = record {
  input = input ∙ is.input;
  unroll = ap (λ (x : of.Source). x.unroll) same ∙ is.unroll;
  delay = ap (λ (x : of.Source). x.delay) same ∙ is.delay;
  cells = ap (λ (x : of.Source). x.kind.cells) same ∙ is.cells;
  form = ap (λ (x : of.Source). x.kind.form) same ∙ is.form;
  ty = ap (λ (x : of.Source). x.kind.ty) same ∙ is.ty;
  lanes = ap (λ xs. xs.items) lanes ∙ is.lanes;
  within = is.within;
}

-- what a sink was made for
pub sink_made : (c : Settings) (m v : ℕ) (s r : SinkStation) → sink r.writes ≡ sink s.writes → r.output ≡ s.output → IsSinkOf c m v s → IsSinkOf c m v r
sink_made c m v s r same number is = record {
  lanes = is.lanes;
  number = number ∙ is.number;
  unroll = ap (λ (x : of.Sink). x.unroll) same ∙ is.unroll;
  delay = ap (λ (x : of.Sink). x.delay) same ∙ is.delay;
  cells = ap (λ (x : of.Sink). x.cells) same ∙ is.cells;
  form = ap (λ (x : of.Sink). x.output.form) same ∙ is.form;
  run = ap (λ (x : of.Sink). x.output.run) same ∙ is.run;
  ty = ap (λ (x : of.Sink). x.output.ty) same ∙ is.ty;
}

-- the number of the next cell
next_number : (u k lane d : ℕ) → ((pos (u * k + lane) -ℤ pos d) +ℤ pos u) ≡ (pos (u * (k + 1) + lane) -ℤ pos d)
next_number u k lane d =
    let step : u * (k + 1) ≡ u * k + u = grind arith in
    omega (arith, ints, step)

-- a computing module behind a firing
unit_after : {U : Type 0} (units : Units U) (c : Settings) (m v lane k : ℕ) (u w : U) → units.value w ≡ units.value u
    → units.place w ≡ (units.place u +ℤ pos (units.step u)) → units.step w ≡ units.step u → units.count w ≡ units.count u
    → UnitAt units c m v lane k u → UnitAt units c m v lane (k + 1) w
unit_after units c m v lane k u w value place step count at = record {
  within = at.within;
  value = λ ports z many. ap (λ f. f ports z) value ∙ at.value ports z (many ∙ count);
  place = place ∙ ap (λ n. units.place u +ℤ pos n) at.step ∙ ap (λ z. z +ℤ pos c.program.unroll) at.place
      ∙ next_number c.program.unroll k lane (slice_index c.delays v);
  step = step ∙ at.step;
  count = count ∙ at.count;
}

module _ {U : Type 0} (tells : Type 0) (units : Units U) (c : Settings) (given : ℕ) (old new : Store) (before after : List (Station U)) (m k : ℕ)
    (moves : Moves tells given old new before after m) (ports sends : List ℤ) where
  -- What a firing hands on makes the first cells of the output's array longer, over all inputs that go on from what was
  -- read by then.
  abbrev pub HandsOn : (v : ℕ) → SinkStation → Type 0
  HandsOn v s = tells → (inputs : List (List ℤ)) → AreInputs c inputs → AreBegun new after inputs
      → take (cells_before c.program.unroll (slice_index c.delays v) (array_cells c) k) (array_over c inputs v)
      ++ map (wrapped (output s.writes.writer).ty) (handed_by (sink s.writes) k ports)
      ≡ take (cells_before c.program.unroll (slice_index c.delays v) (array_cells c) (k + 1)) (array_over c inputs v)

  sink_after : (v : ℕ) (s r : SinkStation) → sink r.writes ≡ sink s.writes → HandsOn v s
      → (tells → (had : List ℤ) (bytes : List ℕ) → old.bytes (old.name (write_id s)) ≡ Some bytes → HasPut s.writes.writer had bytes
      → (more : List ℕ) × (new.bytes (new.name (write_id s)) ≡ Some more)
      × HasPut r.writes.writer (had ++ map (wrapped (output s.writes.writer).ty) (handed_by (sink s.writes) k ports)) more)
      → (tells → new.opened (write_id s) ≡ old.opened (write_id s))
      → SinkAt tells c given old before v k s → SinkAt tells c given new after v (k + 1) r
  sink_after v s r same hands fired opened at =
      let id : write_id r ≡ write_id s = ap (λ (x : of.Sink). x.output.id) same in
      record {
        known = subst (λ n. n < given) (sym id) at.known;
        created = λ told. ap new.opened id ∙ opened told ∙ at.created told;
        put = λ told inputs arrays begun.
            let had = at.put told inputs arrays (begun_before tells given old new before after m moves told inputs begun) in
            let now = fired told _ had.0 had.1 had.2 in (
              now.0,
              ap (λ i. new.bytes (new.name i)) id ∙ now.1,
              subst (λ cells. HasPut r.writes.writer cells now.0) (hands told inputs arrays begun) now.2,
            );
      }

  -- the module that fired
  pub station_after : (a : Station U) → station_at before m ≡ a → StationAt tells units c given old before m k (module_at (net_in c) m) a
      → ((v : ℕ) (s : SinkStation) → a ≡ station.Sink s → module_at (net_in c) m ≡ Sink v → IsSinkOf c m v s → HandsOn v s)
      → Fired tells units given old new k ports sends a moves.is
      → StationAt tells units c given new after m (k + 1) (module_at (net_in c) m) moves.is
  station_after (station.Source s) is at hands fired =
      let on = subst (λ a. GoesOn a moves.is) is moves.on in
      let own : SourceAt tells given new (k + 1) on.0 = subst (λ t. OfSource t (SourceAt tells given new (k + 1))) on.1 fired.0 in
      subst (StationAt tells units c given new after m (k + 1) (module_at (net_in c) m)) (sym on.1)
      (at.0, at.1, source_made c m at.0 s on.0 on.2 on.3 on.4 at.2, own)
  station_after station.Forward is at hands fired =
      let on = subst (λ a. GoesOn a moves.is) is moves.on in
      subst (StationAt tells units c given new after m (k + 1) (module_at (net_in c) m)) (sym on) at
  station_after (station.Compute u) is at hands fired =
      let on = subst (λ a. GoesOn a moves.is) is moves.on in
      let own = subst (λ t. OfCompute t (λ w. (units.value w ≡ units.value u) × (units.place w ≡ units.place u +ℤ pos (units.step u))
      × (units.step w ≡ units.step u) × (units.count w ≡ units.count u))) on.1 fired.0 in
      subst (StationAt tells units c given new after m (k + 1) (module_at (net_in c) m)) (sym on.1)
      (at.0, at.1, at.2, unit_after units c m at.0 at.1 k u on.0 own.0 own.1 own.2 own.3 at.3)
  station_after (station.Sink s) is at hands fired =
      let on = subst (λ a. GoesOn a moves.is) is moves.on in
      let own = subst (λ t. OfSink t (λ r. tells → (had : List ℤ) (bytes : List ℕ) → old.bytes (old.name (write_id s)) ≡ Some bytes
      → HasPut s.writes.writer had bytes → (more : List ℕ) × (new.bytes (new.name (write_id s)) ≡ Some more)
      × HasPut r.writes.writer (had ++ map (wrapped (output s.writes.writer).ty) (handed_by (sink s.writes) k ports)) more)) on.1 fired.0 in
      subst (StationAt tells units c given new after m (k + 1) (module_at (net_in c) m)) (sym on.1) (
        at.0,
        at.1,
        sink_made c m at.0 s on.0 on.2 on.3 at.2,
        sink_after at.0 s on.0 on.2 (hands at.0 s refl at.1 at.2) own (λ told. (moves.own told (write_id s) (ap id_of is)).1) at.3,
      )
