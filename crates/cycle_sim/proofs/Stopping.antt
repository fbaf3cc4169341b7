-- What holds where a firing of a module was stopped.
use Rattle.std.proofs.Common.{◌≡◌, ◌≢◌, ℕ, ◌+◌, ◌<◌, ◌≤◌, Bool, false, List, ◌++◌, append_assoc, length, take, drop, slice_index, Some, Err, refl, sym, ap, subst, ◌∙◌, ℤ, ⊎_elim}
use Rattle.std.proofs.lemmas.Bool.Decides.{eqb_tells}
use Rattle.std.proofs.lemmas.Bool.{cases_lt}
use Rattle.std.proofs.lemmas.Option.{none-some}
use Rattle.std.proofs.lemmas.List.{get_or_past, take-append-drop}
use Rattle.soda_io.specs.Store.{Store, content}
use Rattle.array_bytes.specs.Written.{array_bytes, begun, ending}
use Rattle.bursts.proofs.CallerLemmas.{prefix_on}
use Rattle.bursts.specs.Readers.{kind}
use Rattle.bursts.specs.Writers.{HasPut, IsPrefix, Output, output}
use Rattle.file_modules.specs.Firings.{cells_before}
use Rattle.file_modules.specs.Modules.{FaultIs, read_before, sink, source}
use Rattle.file_modules.specs.Modules as of
use Rattle.net_ir.specs.declared.network.Module.{Module}
use Rattle.net_ir.specs.declared.network.Module.TheVariants.{Sink}
use Rattle.staged_cells.specs.Streams.{module_at, tensor_of}
use Rattle.cycle_sim.specs.Settings.{AreInputs, Settings, array_cells, array_over, net_in}
use Rattle.cycle_sim.specs.Stations.{AreBegun, AreReady, IsSinkOf, StationAt, Units, good_in, id_of, read_id, station_at, was_read, write_id, written_by}
use Rattle.cycle_sim.specs.Using.{Ends, IsFailedCall, read_by}
use Rattle.cycle_sim.specs.Stopped.{CauseIs, IsStopped}
use Rattle.cycle_sim.specs.machine.Firings.{GoesOn, Moves, OfSink, OfSource, Stops, done_of}
use Rattle.cycle_sim.specs.declared.stop.Stop.{Stop}
use Rattle.cycle_sim.specs.declared.stop.Stop.TheVariants as stops
use Rattle.cycle_sim.specs.declared.stations.SourceStation.{SourceStation}
use Rattle.cycle_sim.specs.declared.stations.SinkStation.{SinkStation}
use Rattle.cycle_sim.specs.declared.stations.Station.{Station}
use Rattle.cycle_sim.specs.declared.stations.Station.TheVariants as station
use Rattle.cycle_sim.proofs.After.{HandsOn}
use Rattle.cycle_sim.proofs.Keeping.{station_kept}
use Rattle.cycle_sim.proofs.Moving.{begun_before, other, same_good, there}

-- the bytes that begin with cells
abbrev pub begun_by : Output → List ℤ → List ℕ
begun_by o cells = begun o.form o.ty o.run cells

-- the bytes of an array
abbrev pub array_by : Output → List ℤ → List ℕ
array_by o cells = array_bytes o.form o.ty o.run cells

-- a file that holds a prefix of the bytes of an array
abbrev pub HoldsPart : Store → Output → (array : List ℤ) → Type 0
HoldsPart store o array =
    (bytes : List ℕ) × (store.bytes (store.name o.id) ≡ Some bytes) × IsPrefix bytes (array_by o array)

-- a prefix of the bytes that begin with the first cells is one of all
pub part_of : (o : Output) (array : List ℤ) (count : ℕ) (bytes : List ℕ) → IsPrefix bytes (begun_by o (take count array))
    → IsPrefix bytes (array_by o array)
unfolding array_bytes
part_of o array count bytes p =
    let more : IsPrefix bytes (begun_by o array) =
    subst (λ xs. IsPrefix bytes (begun_by o xs)) (take-append-drop count array)
    (prefix_on o.form o.ty o.run (take count array) (drop count array) bytes p) in
    record {
      rest = more.rest ++ ending o.form array;
      same = ap (λ xs. xs ++ ending o.form array) more.same ∙ append_assoc bytes more.rest (ending o.form array);
    }

-- what a sink has put is one
pub put_part : (store : Store) (s : SinkStation) (array : List ℤ) (count : ℕ) (bytes : List ℕ)
    → store.bytes (store.name (write_id s)) ≡ Some bytes → HasPut s.writes.writer (take count array) bytes
    → HoldsPart store (output s.writes.writer) array
put_part store s array count bytes is h =
    (bytes, is, part_of (output s.writes.writer) array count bytes (record { rest = s.writes.writer.buffer.items; same = sym h.buffered }))

module _ {U : Type 0} (tells : Type 0) (given : ℕ) (old new : Store) (before after : List (Station U)) (m k p q : ℕ)
    (moves : Moves tells given old new before after m) (ports : List ℤ) where
  -- its cause
  cause_is : (a : Station U) → station_at before m ≡ a → (stop : Stop)
      → ((i : ℕ) → id_of a ≡ Some i → tells → Ends old new i (IsFailedCall stop)) → Stops tells old new p q k ports a stop
      → CauseIs tells old new after p q m k stop
  cause_is (station.Source s) was (stops.Input input fault) ends h =
      let on = subst (λ a. GoesOn a moves.is) was moves.on in (
        on.0,
        there tells given old new before after m moves ∙ on.1,
        h.0 ∙ sym on.3,
        λ told. subst (λ (x : of.Source). FaultIs x.kind (content new x.kind.id) (read_before x (k + 1)) (Err fault)) (sym on.2)
            (subst (λ b. FaultIs (kind s.reads.reader) b (read_before (source s.reads) (k + 1)) (Err fault)) (sym (moves.read told s was)) (h.1 told)),
        h.2,
        ends (read_id on.0) (ap (λ (x : of.Source). Some x.kind.id) (sym on.2)),
      )
  cause_is (station.Source s) was (stops.Output number error) ends h = absurd h
  cause_is station.Forward was stop ends h = absurd h
  cause_is (station.Compute u) was stop ends h = absurd h
  cause_is (station.Sink s) was (stops.Input input fault) ends h = absurd h
  cause_is (station.Sink s) was (stops.Output number error) ends h =
      let on = subst (λ a. GoesOn a moves.is) was moves.on in (
        on.0,
        there tells given old new before after m moves ∙ on.1,
        h.0 ∙ sym on.3,
        h.2,
        ends (write_id on.0) (ap (λ (x : of.Sink). Some x.output.id) (sym on.2)),
      )

  -- the source that fired has read good cells
  own_good : (units : Units U) (c : Settings) (told : tells) (a : Station U) → station_at before m ≡ a
      → StationAt tells units c given old before m k (module_at (net_in c) m) a → done_of moves.is ≡ done_of a
      → (r : SourceStation) → moves.is ≡ station.Source r → was_read r ≤ length (good_in new r)
  own_good units c told (station.Source s) was at still r is =
      let on = subst (λ a. GoesOn a moves.is) was moves.on in
      let good : good_in new on.0 ≡ good_in old s = same_good old new s on.0 on.2 (moves.read told s was) in
      let done : on.0.done ≡ s.done = ap done_of (sym on.1) ∙ still in
      let P : of.Source → Type 0 = λ x. read_before x s.done ≤ length (good_in new on.0) in
      let before_it : read_before (source s.reads) s.done ≤ length (good_in old s) =
      subst (λ n. read_before (source s.reads) n ≤ length (good_in old s)) (sym at.3.done) (at.3.good told) in
      let own : was_read on.0 ≤ length (good_in new on.0) =
      subst (λ n. read_before (source on.0.reads) n ≤ length (good_in new on.0)) (sym done)
      (subst P (sym on.2) (subst (λ xs. read_before (source s.reads) s.done ≤ length xs) (sym good) before_it)) in
      let Q : SourceStation → Type 0 = λ x. was_read x ≤ length (good_in new x) in
      subst (λ a. OfSource a Q) (sym on.1 ∙ is) own
  own_good units c told station.Forward was at still r is =
      absurd (none-some (read_id r) (ap id_of (sym (subst (λ a. GoesOn a moves.is) was moves.on) ∙ is)))
  own_good units c told (station.Compute u) was at still r is =
      absurd (none-some (read_id r) (ap id_of (sym (subst (λ a. GoesOn a moves.is) was moves.on).1 ∙ is)))
  own_good units c told (station.Sink s) was at still r is =
      absurd (none-some (read_id r) (ap read_by (sym (subst (λ a. GoesOn a moves.is) was moves.on).1 ∙ is)))

  -- another source
  other_good : (units : Units U) (c : Settings) (told : tells) (n i : ℕ) (kind : Module) (a : Station U) → station_at before n ≡ a → n ≢ m
      → StationAt tells units c given old before n i kind a → (r : SourceStation) → a ≡ station.Source r → was_read r ≤ length (good_in new r)
  other_good units c told n i kind a was ne at r is =
      let kept = subst (StationAt tells units c given new after n i kind) is (station_kept tells given old new before after m moves units c n i kind a was ne at) in
      subst (λ k. read_before (source r.reads) k ≤ length (good_in new r)) (sym kept.3.done) (kept.3.good told)

  module _ (units : Units U) (c : Settings) (told : tells) (inputs : List (List ℤ)) (arrays : AreInputs c inputs)
      (begun : AreBegun new after inputs) where
    -- the sink that was stopped
    own_part : (a : Station U) → station_at before m ≡ a → StationAt tells units c given old before m k (module_at (net_in c) m) a
        → ((v : ℕ) (s : SinkStation) → a ≡ station.Sink s → module_at (net_in c) m ≡ Sink v → IsSinkOf c m v s → HandsOn tells units c given old new before after m k moves ports ports v s)
        → (stop : Stop) → Stops tells old new p q k ports a stop → (v : ℕ) (s : SinkStation) → moves.is ≡ station.Sink s
        → module_at (net_in c) m ≡ Sink v → HoldsPart new (output s.writes.writer) (array_over c inputs v)
    own_part (station.Source r) was at hands stop h v s is kind =
        absurd (none-some (write_id s) (ap written_by (sym (subst (λ a. GoesOn a moves.is) was moves.on).1 ∙ is)))
    own_part station.Forward was at hands stop h v s is kind =
        absurd (none-some (write_id s) (ap written_by (sym (subst (λ a. GoesOn a moves.is) was moves.on) ∙ is)))
    own_part (station.Compute u) was at hands stop h v s is kind =
        absurd (none-some (write_id s) (ap written_by (sym (subst (λ a. GoesOn a moves.is) was moves.on).1 ∙ is)))
    own_part (station.Sink t) was at hands (stops.Input input fault) h v s is kind = absurd h
    own_part (station.Sink t) was at hands (stops.Output number error) h v s is kind =
        let on = subst (λ a. GoesOn a moves.is) was moves.on in
        let same : at.0 ≡ v = ap tensor_of (sym at.1 ∙ kind) in
        let had = at.3.put told inputs arrays (begun_before tells given old new before after m moves told inputs begun) in
        let more = h.1 told _ had.0 had.1 had.2 in
        let o : Output = output t.writes.writer in
        let count : ℕ = cells_before c.program.unroll (slice_index c.delays at.0) (array_cells c) (k + 1) in
        let part : HoldsPart new o (array_over c inputs v) = (
          more.0,
          more.1,
          subst (λ w. IsPrefix more.0 (array_by o (array_over c inputs w))) same
              (part_of o (array_over c inputs at.0) count more.0
              (subst (λ xs. IsPrefix more.0 (begun_by o xs)) (hands at.0 t refl at.1 at.2 told inputs arrays begun) more.2)),
        ) in
        let P : SinkStation → Type 0 = λ x. HoldsPart new (output x.writes.writer) (array_over c inputs v) in
        subst (λ a. OfSink a P) (sym on.1 ∙ is)
        (subst (λ (x : of.Sink). HoldsPart new x.output (array_over c inputs v)) (sym on.2) part)

    -- another sink
    other_part : (n i : ℕ) (kind : Module) (a : Station U) → station_at before n ≡ a → n ≢ m → StationAt tells units c given old before n i kind a
        → (v : ℕ) (s : SinkStation) → a ≡ station.Sink s → kind ≡ Sink v → HoldsPart new (output s.writes.writer) (array_over c inputs v)
    other_part n i kind a was ne at v s is named =
        let kept = subst (StationAt tells units c given new after n i kind) is (station_kept tells given old new before after m moves units c n i kind a was ne at) in
        let same : kept.0 ≡ v = ap tensor_of (sym kept.1 ∙ named) in
        let put = kept.3.put told inputs arrays begun in
        subst (λ w. HoldsPart new (output s.writes.writer) (array_over c inputs w)) same
        (put_part new s (array_over c inputs kept.0) (cells_before c.program.unroll (slice_index c.delays kept.0) (array_cells c) i) put.0 put.1 put.2)

  -- a run that was stopped in this firing
  pub was_stopped : (units : Units U) (c : Settings) (fired : List ℕ) → k ≡ slice_index fired m → AreReady tells units c given old before fired
      → length after ≡ length before
      → ((v : ℕ) (s : SinkStation) → station_at before m ≡ station.Sink s → module_at (net_in c) m ≡ Sink v
      → IsSinkOf c m v s → HandsOn tells units c given old new before after m k moves ports ports v s)
      → (once : Bool) → once ≡ false → (stop : Stop) → ((i : ℕ) → id_of (station_at before m) ≡ Some i → tells → Ends old new i (IsFailedCall stop))
      → done_of moves.is ≡ done_of (station_at before m) → Stops tells old new p q k ports (station_at before m) stop
      → IsStopped tells c once old new after p q m k stop
  was_stopped units c fired at ready same hands once begins stop ends still h = record {
    begun = begins;
    cause = cause_is (station_at before m) refl stop ends h;
    good = λ told n r is.
        ⊎_elim
        (λ found.
        let e : n ≡ m = found.1 in
        own_good units c told (station_at before m) refl
        (subst (λ i. StationAt tells units c given old before m i (module_at (net_in c) m) (station_at before m)) (sym at) (ready.each m moves.known))
        still r (sym (there tells given old new before after m moves) ∙ ap (station_at after) (sym e) ∙ is))
        (λ found.
        let was : station_at before n ≡ station.Source r = sym (other tells given old new before after m moves n found.1) ∙ is in
        ⊎_elim
        (λ (lt : n < length before).
        other_good units c told n (slice_index fired n) (module_at (net_in c) n) (station_at before n) refl found.1 (ready.each n lt) r was)
        (λ (le : length before ≤ n).
        absurd (none-some (read_id r) (sym (ap id_of (get_or_past before n station.Forward le)) ∙ ap id_of was)))
        (cases_lt n (length before)))
        (eqb_tells n m);
    prefixes = λ told n v s is kind inputs arrays begun.
        ⊎_elim
        (λ found.
        let e : n ≡ m = found.1 in
        own_part units c told inputs arrays begun (station_at before m) refl
        (subst (λ i. StationAt tells units c given old before m i (module_at (net_in c) m) (station_at before m)) (sym at) (ready.each m moves.known))
        hands stop h v s (sym (there tells given old new before after m moves) ∙ ap (station_at after) (sym e) ∙ is)
        (ap (module_at (net_in c)) (sym e) ∙ kind))
        (λ found.
        let was : station_at before n ≡ station.Sink s = sym (other tells given old new before after m moves n found.1) ∙ is in
        ⊎_elim
        (λ (lt : n < length before).
        other_part units c told inputs arrays begun n (slice_index fired n) (module_at (net_in c) n) (station_at before n) refl found.1
        (ready.each n lt) v s was kind)
        (λ (le : length before ≤ n).
        absurd (none-some (write_id s) (sym (ap id_of (get_or_past before n station.Forward le)) ∙ ap id_of was)))
        (cases_lt n (length before)))
        (eqb_tells n m);
  }
