-- Behind the finishing of one output the modules stand as they stood, and that output's file is whole.
use Rattle.std.proofs.Common.{◌≡◌, ◌≢◌, ◌↔◌, ℕ, ◌+◌, ◌*◌, ◌<◌, ◌≤◌, Bool, true, false, nat_lt, List, [], append-nil, length, length-set, take, slice_index, slice_set, Some, refl, sym, ap, subst, ◌∙◌, arith, ⊎_elim, ℤ, pos}
use Rattle.std.proofs.lemmas.Bool.Decides.{eqb_tells}
use Rattle.std.proofs.lemmas.Bool.{cases_lt, le-ltb, lt-ltb}
use Rattle.std.proofs.lemmas.Option.{none-some, same_Some}
use Rattle.std.proofs.lemmas.List.{get_or_past, take_all}
use Rattle.array_bytes.specs.Written.{array_bytes}
use Rattle.soda_io.specs.Store.{Store}
use Rattle.bursts.specs.Blocks.{cells_in, fault_in}
use Rattle.bursts.specs.Readers.{kind}
use Rattle.bursts.specs.Writers.{IsPrefix, Output, output}
use Rattle.file_modules.specs.Firings.{cells_before}
use Rattle.file_modules.specs.Modules.{read_before, source}
use Rattle.file_modules.specs.Modules as of
use Rattle.file_modules.proofs.CallerLemmas.{ends_with_all}
use Rattle.net_build.proofs.CallerLemmas.{each_within}
use Rattle.net_build.specs.Limits.{greatest_delay}
use Rattle.net_build.specs.Planned.{firings_for}
use Rattle.net_ir.specs.Firings.{firings_at}
use Rattle.net_ir.specs.Nets.{Net, age_at}
use Rattle.net_ir.specs.States.{IsFinished, turn_at}
use Rattle.net_ir.specs.declared.events.Turn.{Turn}
use Rattle.net_cycles.specs.Between.{between, whole}
use Rattle.std.proofs.Math.ListN.{get_or-map}
use Rattle.net_shape.specs.Plans.{Plan}
use Rattle.net_ir.specs.declared.network.Module.{Module}
use Rattle.net_ir.specs.declared.network.Module.TheVariants.{Sink}
use Rattle.soda_ir.proofs.CallerLemmas.{length-listed}
use Rattle.staged_cells.specs.Streams.{module_at, stage_cell, tensor_of}
use Rattle.cycle_sim.specs.Ending.{AllFired, AreEnding, Chosen, EndingAt, IsReadOut, IsWhole}
use Rattle.cycle_sim.specs.Settings.{AreInputs, Settings, array_cells, array_over, net_in, plan_in}
use Rattle.cycle_sim.specs.Stations.{AreBegun, AreReady, SinkAt, SourceAt, StationAt, Units, good_in, id_of, read_id, station_at, was_read, write_id}
use Rattle.cycle_sim.specs.Onward.{Onward}
use Rattle.cycle_sim.specs.Stopped.{CauseIs, IsStopped}
use Rattle.cycle_sim.specs.Using.{Ends, IsFailedCall, read_by}
use Rattle.cycle_sim.specs.machine.Closing.{Finished, MayFinish, StopsFinish}
use Rattle.cycle_sim.specs.machine.Firings.{GoesOn, Moves, OfSink, Spares, Touches}
use Rattle.cycle_sim.specs.declared.stop.Stop.{Stop}
use Rattle.cycle_sim.specs.declared.stop.Stop.TheVariants as stops
use Rattle.cycle_sim.specs.declared.stations.SourceStation.{SourceStation}
use Rattle.cycle_sim.specs.declared.stations.SinkStation.{SinkStation}
use Rattle.cycle_sim.specs.declared.stations.Station.{Station}
use Rattle.cycle_sim.specs.declared.stations.Station.TheVariants as station
use Rattle.cycle_sim.proofs.After.{sink_made}
use Rattle.cycle_sim.proofs.Asked.{ends_of}
use Rattle.cycle_sim.proofs.GoingOn.{onward_of}
use Rattle.cycle_sim.proofs.Stopping.{HoldsPart, array_by, put_part}
use Rattle.cycle_sim.proofs.Keeping.{sink_kept, source_kept, still_apart}
use Rattle.cycle_sim.proofs.Moving.{begun_before, moves, other, same_content, there}

-- a fact for each side
either : (b : Bool) {P Q R S : Type 0} → (P → R) → (Q → S) → Chosen b P Q → Chosen b R S
either true f g x = f x
either false f g x = g x

-- all cells of an array
pub whole_array : (c : Settings) (inputs : List (List ℤ)) (v n : ℕ) → n ≡ array_cells c → take n (array_over c inputs v) ≡ array_over c inputs v
whole_array c inputs v n e =
    take_all n (array_over c inputs v) (omega (arith, e, length-listed (λ i. stage_cell c.program c.rows c.params inputs v (pos i)) (array_cells c)))

-- a source that is spared
over_kept : (tells : Type 0) (given : ℕ) (old new : Store) (s : SourceStation) → (tells → Spares old new (read_id s))
    → IsReadOut tells given old s → IsReadOut tells given new s
over_kept tells given old new s spare at = record {
  known = at.known;
  opened = λ told. (spare told).opened ∙ at.opened told;
  ended = at.ended;
  fine = λ told. ap (fault_in (kind s.reads.reader)) (same_content old new (read_id s) (spare told)) ∙ at.fine told;
  cells = λ told. ap (λ b. length (cells_in (kind s.reads.reader) b)) (same_content old new (read_id s) (spare told)) ∙ at.cells told;
}

module _ {U : Type 0} (tells : Type 0) (given : ℕ) (old new : Store) (before after : List (Station U)) (m : ℕ)
    (moves : Moves tells given old new before after m) (units : Units U) (c : Settings) where
  -- a finished sink that is spared
  whole_kept : (v : ℕ) (s : SinkStation) → (tells → Spares old new (write_id s)) → IsWhole tells c given old before v s
      → IsWhole tells c given new after v s
  whole_kept v s spare at = record {
    known = at.known;
    created = λ told. (spare told).opened ∙ at.created told;
    whole = λ told inputs arrays begun.
        let d = spare told in
        ap new.bytes d.name ∙ d.bytes ∙ at.whole told inputs arrays (begun_before tells given old new before after m moves told inputs begun);
  }

  -- a sink that is spared
  pub sink_ending : (finished : Bool) (v k : ℕ) (s : SinkStation) → (tells → Spares old new (write_id s))
      → Chosen finished (IsWhole tells c given old before v s) (SinkAt tells c given old before v k s)
      → Chosen finished (IsWhole tells c given new after v s) (SinkAt tells c given new after v k s)
  sink_ending finished v k s spare at =
      either finished (whole_kept v s spare) (sink_kept tells given old new before after m moves c v k s spare) at

  -- any module but that one
  pub ending_kept : (finished over : Bool) (n k : ℕ) (kind : Module) (a : Station U) → station_at before n ≡ a → n ≢ m
      → EndingAt tells units c given old before finished over n k kind a → EndingAt tells units c given new after finished over n k kind a
  ending_kept finished over n k kind (station.Source s) is ne at =
      let spare : tells → Spares old new (read_id s) = λ told. moves.others told n (read_id s) ne (ap id_of is) in
      (at.0, at.1, at.2, either over (over_kept tells given old new s spare) (source_kept tells given old new k s spare) at.3)
  ending_kept finished over n k kind station.Forward is ne at = at
  ending_kept finished over n k kind (station.Compute u) is ne at = at
  ending_kept finished over n k kind (station.Sink s) is ne at =
      let spare : tells → Spares old new (write_id s) = λ told. moves.others told n (write_id s) ne (ap id_of is) in
      (at.0, at.1, at.2, sink_ending finished at.0 k s spare at.3)

  -- the one whose output was finished, all of whose cells were put
  pub own_finished : (over : Bool) (k : ℕ) (kind : Module) (a : Station U) → station_at before m ≡ a → module_at (net_in c) m ≡ kind
      → EndingAt tells units c given old before false over m k kind a
      → ((v : ℕ) → kind ≡ Sink v → cells_before c.program.unroll (slice_index c.delays v) (array_cells c) k ≡ array_cells c)
      → Finished tells old new a moves.is → EndingAt tells units c given new after true over m k kind moves.is
  own_finished over k kind (station.Source s) is at_kind at all f =
      subst (EndingAt tells units c given new after true over m k kind) (sym f.0)
      (at.0, at.1, at.2, subst (λ st. Chosen over (IsReadOut tells given st s) (SourceAt tells given st k s)) (sym f.1) at.3)
  own_finished over k kind station.Forward is at_kind at all f =
      subst (EndingAt tells units c given new after true over m k kind) (sym f) at
  own_finished over k kind (station.Compute u) is at_kind at all f =
      subst (EndingAt tells units c given new after true over m k kind) (sym f) at
  own_finished over k kind (station.Sink s) is at_kind at all f =
      let on = subst (λ a. GoesOn a moves.is) is moves.on in
      let r : SinkStation = on.0 in
      let id : write_id r ≡ write_id s = ap (λ (x : of.Sink). x.output.id) on.2 in
      let whole : IsWhole tells c given new after at.0 r = record {
        known = subst (λ n. n < given) (sym id) at.3.known;
        created = λ told. ap new.opened id ∙ (moves.own told (write_id s) (ap id_of is)).1 ∙ at.3.created told;
        whole = λ told inputs arrays begun.
            let had = at.3.put told inputs arrays (begun_before tells given old new before after m moves told inputs begun) in
            let P : Output → Type 0 = λ o. new.bytes (new.name o.id) ≡ Some (array_bytes o.form o.ty o.run (array_over c inputs at.0)) in
            let own : P (output s.writes.writer) =
            f told _ had.0 had.1 had.2
            ∙ ap (λ xs. Some (array_bytes (output s.writes.writer).form (output s.writes.writer).ty (output s.writes.writer).run xs))
            (whole_array c inputs at.0 (cells_before c.program.unroll (slice_index c.delays at.0) (array_cells c) k) (all at.0 at.1)) in
            subst (λ (x : of.Sink). P x.output) (sym on.2) own;
      } in
      subst (EndingAt tells units c given new after true over m k kind) (sym on.1)
      (at.0, at.1, sink_made c m at.0 s r on.2 on.3 at.2, whole)

  -- all modules, one of which stands otherwise
  pub ending_after : (fired : List ℕ) (f o g p : ℕ) → AreEnding tells units c given old before fired f o
      → ((n : ℕ) → n ≢ m → (nat_lt n g ≡ nat_lt n f) × (nat_lt n p ≡ nat_lt n o)) → length after ≡ length before
      → EndingAt tells units c given new after (nat_lt m g) (nat_lt m p) m (slice_index fired m) (module_at (net_in c) m) moves.is
      → AreEnding tells units c given new after fired g p
  ending_after fired f o g p ready same long own = record {
    settings = ready.settings;
    count = long ∙ ready.count;
    each = λ n lt.
        let within : n < length before = omega (arith, long, lt) in
        ⊎_elim
        (λ found.
        subst (λ i. EndingAt tells units c given new after (nat_lt i g) (nat_lt i p) i (slice_index fired i) (module_at (net_in c) i) (station_at after i)) (sym found.1)
        (subst (EndingAt tells units c given new after (nat_lt m g) (nat_lt m p) m (slice_index fired m) (module_at (net_in c) m))
        (sym (there tells given old new before after m moves)) own))
        (λ found.
        let flags = same n found.1 in
        let kept = ending_kept (nat_lt n f) (nat_lt n o) n (slice_index fired n) (module_at (net_in c) n) (station_at before n) refl found.1 (ready.each n within) in
        subst (EndingAt tells units c given new after (nat_lt n g) (nat_lt n p) n (slice_index fired n) (module_at (net_in c) n))
        (sym (other tells given old new before after m moves n found.1))
        (subst (λ b. EndingAt tells units c given new after (nat_lt n g) b n (slice_index fired n) (module_at (net_in c) n) (station_at before n)) (sym flags.1)
        (subst (λ b. EndingAt tells units c given new after b (nat_lt n o) n (slice_index fired n) (module_at (net_in c) n) (station_at before n)) (sym flags.0) kept)))
        (eqb_tells n m);
    apart = still_apart tells given old new before after m moves ready.apart;
  }

-- before number m + 1 stand those before number m, and m
pub next_flag : (n m : ℕ) → n ≢ m → nat_lt n (m + 1) ≡ nat_lt n m
next_flag n m ne =
    ⊎_elim
    (λ lt. let less : n < m + 1 = omega (arith, lt) in lt-ltb n (m + 1) less ∙ sym (lt-ltb n m lt))
    (λ le. let far : m + 1 ≤ n = omega (arith, le, ne) in le-ltb n (m + 1) far ∙ sym (le-ltb n m le))
    (cases_lt n m)

-- modules whose outputs are finished, and whose inputs are read to their ends
module _ {U : Type 0} (tells : Type 0) (units : Units U) (c : Settings) (given : ℕ) (old : Store) (stations : List (Station U)) (fired : List ℕ) (f o : ℕ)
    (ready : AreEnding tells units c given old stations fired f o) where
  known_in : (finished over : Bool) (n k i : ℕ) (kind : Module) (a : Station U) → EndingAt tells units c given old stations finished over n k kind a
      → id_of a ≡ Some i → i < given
  known_in finished true n k i kind (station.Source s) at e = subst (λ x. x < given) (same_Some (read_id s) i e) at.3.known
  known_in finished false n k i kind (station.Source s) at e = subst (λ x. x < given) (same_Some (read_id s) i e) at.3.known
  known_in finished over n k i kind station.Forward at e = absurd (none-some i e)
  known_in finished over n k i kind (station.Compute u) at e = absurd (none-some i e)
  known_in true over n k i kind (station.Sink s) at e = subst (λ x. x < given) (same_Some (write_id s) i e) at.3.known
  known_in false over n k i kind (station.Sink s) at e = subst (λ x. x < given) (same_Some (write_id s) i e) at.3.known

  -- each id was given
  pub known_there : (n i : ℕ) → id_of (station_at stations n) ≡ Some i → i < given
  known_there n i e =
      ⊎_elim
      (λ (lt : n < length stations).
      known_in (nat_lt n f) (nat_lt n o) n (slice_index fired n) i (module_at (net_in c) n) (station_at stations n) (ready.each n lt) e)
      (λ (le : length stations ≤ n). absurd (none-some i (sym (ap id_of (get_or_past stations n station.Forward le)) ∙ e)))
      (cases_lt n (length stations))

-- how modules stand whose outputs are finished, one after the other
module _ {U : Type 0} (tells : Type 0) (units : Units U) (c : Settings) (given : ℕ) (old : Store) (stations : List (Station U)) (fired : List ℕ) (m : ℕ)
    (ready : AreEnding tells units c given old stations fired m 0) where
  own_stands : m < length stations → (a : Station U) → station_at stations m ≡ a
      → EndingAt tells units c given old stations false false m (slice_index fired m) (module_at (net_in c) m) a
  own_stands lt a is =
      subst (EndingAt tells units c given old stations false false m (slice_index fired m) (module_at (net_in c) m)) is
      (subst (λ b. EndingAt tells units c given old stations b false m (slice_index fired m) (module_at (net_in c) m) (station_at stations m))
      (le-ltb m m (omega arith))
      (subst (λ b. EndingAt tells units c given old stations (nat_lt m m) b m (slice_index fired m) (module_at (net_in c) m) (station_at stations m))
      (le-ltb m 0 (omega arith)) (ready.each m lt)))

  may_by : (k : ℕ) (kind : Module) (a : Station U) → EndingAt tells units c given old stations false false m k kind a → MayFinish tells given old a
  may_by k kind (station.Source s) at = tt
  may_by k kind station.Forward at = tt
  may_by k kind (station.Compute u) at = tt
  may_by k kind (station.Sink s) at = (at.3.known, at.3.created)

  -- the next one may be finished
  pub may_finish : m < length stations → (a : Station U) → station_at stations m ≡ a → MayFinish tells given old a
  may_finish lt a is = may_by (slice_index fired m) (module_at (net_in c) m) a (own_stands lt a is)

  module _ (lt : m < length stations) (new : Store) (a is : Station U) (fails : Type 0) (was : station_at stations m ≡ a) (on : GoesOn a is)
      (touch : tells → Touches given old new a is fails) where
    abbrev pub finished_one : List (Station U)
    finished_one = slice_set stations m is

    pub touched : tells → Touches given old new (station_at stations m) is fails
    touched told = subst (λ b. Touches given old new b is fails) (sym was) (touch told)

    abbrev pub one_moves : Moves tells given old new stations finished_one m
    one_moves = moves tells given old stations ready.apart (known_there tells units c given old stations fired m 0 ready) m is new fails lt (subst (λ b. GoesOn b is) (sym was) on) touched

    pub finish_onward : (p q : ℕ) (once now : Bool) → p ≤ q → (now ≡ false → (once ≡ false) × (q ≡ p)) → once ≡ false → (fails → now ≡ true)
        → Onward tells c c given given old new stations finished_one p q once now
    unfolding moves
    finish_onward p q once now later kept begins stops =
        onward_of tells given old new stations finished_one m one_moves fails touched ready.apart (known_there tells units c given old stations fired m 0 ready m) c p q once now later kept begins stops

    -- what stands then
    pub finish_next : ((v : ℕ) → module_at (net_in c) m ≡ Sink v
        → cells_before c.program.unroll (slice_index c.delays v) (array_cells c) (slice_index fired m) ≡ array_cells c)
        → Finished tells old new a is → AreEnding tells units c given new finished_one fired (m + 1) 0
    unfolding moves
    finish_next all done =
        ending_after tells given old new stations finished_one m one_moves units c fired m 0 (m + 1) 0 ready
        (λ n ne. (next_flag n m ne, refl)) (length-set stations m is)
        (subst (λ b. EndingAt tells units c given new finished_one b (nat_lt m 0) m (slice_index fired m) (module_at (net_in c) m) is)
        (sym (lt-ltb m (m + 1) (omega arith)))
        (subst (λ b. EndingAt tells units c given new finished_one true b m (slice_index fired m) (module_at (net_in c) m) is)
        (sym (le-ltb m 0 (omega arith)))
        (own_finished tells given old new stations finished_one m one_moves units c false (slice_index fired m) (module_at (net_in c) m) a was refl
        (own_stands lt a was) all done)))

    -- the sink that was stopped
    own_prefix : (c_put : (v : ℕ) → module_at (net_in c) m ≡ Sink v
        → cells_before c.program.unroll (slice_index c.delays v) (array_cells c) (slice_index fired m) ≡ array_cells c) → (told : tells)
        → (inputs : List (List ℤ)) → AreInputs c inputs → AreBegun new finished_one inputs → (p q : ℕ) (stop : Stop) → (b : Station U)
        → station_at stations m ≡ b → EndingAt tells units c given old stations false false m (slice_index fired m) (module_at (net_in c) m) b
        → GoesOn b is → StopsFinish tells old new p q b stop → (v : ℕ) (s : SinkStation) → is ≡ station.Sink s → module_at (net_in c) m ≡ Sink v
        → HoldsPart new (output s.writes.writer) (array_over c inputs v)
    unfolding moves
    own_prefix c_put told inputs arrays begun p q stop (station.Source t) at_m at goes h v s same kind = absurd h
    own_prefix c_put told inputs arrays begun p q stop station.Forward at_m at goes h v s same kind = absurd h
    own_prefix c_put told inputs arrays begun p q stop (station.Compute u) at_m at goes h v s same kind = absurd h
    own_prefix c_put told inputs arrays begun p q (stops.Input input fault) (station.Sink t) at_m at goes h v s same kind = absurd h
    own_prefix c_put told inputs arrays begun p q (stops.Output number error) (station.Sink t) at_m at goes h v s same kind =
        let tensor : at.0 ≡ v = ap tensor_of (sym at.1 ∙ kind) in
        let had = at.3.put told inputs arrays (begun_before tells given old new stations finished_one m one_moves told inputs begun) in
        let more = h.1 told _ had.0 had.1 had.2 in
        let o : Output = output t.writes.writer in
        let count : ℕ = cells_before c.program.unroll (slice_index c.delays at.0) (array_cells c) (slice_index fired m) in
        let part : HoldsPart new o (array_over c inputs v) = (
          more.0,
          more.1,
          subst (λ w. IsPrefix more.0 (array_by o (array_over c inputs w))) tensor
              (subst (λ xs. IsPrefix more.0 (array_by o xs)) (whole_array c inputs at.0 count (c_put at.0 at.1)) more.2),
        ) in
        let P : SinkStation → Type 0 = λ x. HoldsPart new (output x.writes.writer) (array_over c inputs v) in
        subst (λ b. OfSink b P) (sym goes.1 ∙ same)
        (subst (λ (x : of.Sink). HoldsPart new x.output (array_over c inputs v)) (sym goes.2) part)

    -- another sink
    other_prefix : (told : tells) (inputs : List (List ℤ)) → AreInputs c inputs → AreBegun new finished_one inputs → (f o : Bool) (n k : ℕ) (kind : Module)
        → (s : SinkStation) → EndingAt tells units c given new finished_one f o n k kind (station.Sink s) → (v : ℕ) → kind ≡ Sink v
        → HoldsPart new (output s.writes.writer) (array_over c inputs v)
    other_prefix told inputs arrays begun true o n k kind s at v named =
        let tensor : at.0 ≡ v = ap tensor_of (sym at.1 ∙ named) in
        subst (λ w. HoldsPart new (output s.writes.writer) (array_over c inputs w)) tensor (
          array_by (output s.writes.writer) (array_over c inputs at.0),
          at.3.whole told inputs arrays begun,
          record { rest = []; same = sym (append-nil (array_by (output s.writes.writer) (array_over c inputs at.0))) },
        )
    other_prefix told inputs arrays begun false o n k kind s at v named =
        let tensor : at.0 ≡ v = ap tensor_of (sym at.1 ∙ named) in
        let put = at.3.put told inputs arrays begun in
        subst (λ w. HoldsPart new (output s.writes.writer) (array_over c inputs w)) tensor
        (put_part new s (array_over c inputs at.0) (cells_before c.program.unroll (slice_index c.delays at.0) (array_cells c) k) put.0 put.1 put.2)

    -- a source has read good cells
    read_good : (told : tells) (f o : Bool) (n k : ℕ) (kind : Module) (r : SourceStation)
        → EndingAt tells units c given new finished_one f o n k kind (station.Source r) → was_read r ≤ length (good_in new r)
    read_good told f true n k kind r at = omega (arith, at.3.cells told)
    read_good told f false n k kind r at =
        subst (λ i. read_before (source r.reads) i ≤ length (good_in new r)) (sym at.3.done) (at.3.good told)

    stop_cause : (p q : ℕ) (stop : Stop) (b : Station U) → station_at stations m ≡ b → GoesOn b is
        → ((i : ℕ) → id_of b ≡ Some i → tells → Ends old new i (IsFailedCall stop)) → StopsFinish tells old new p q b stop
        → CauseIs tells old new finished_one p q m (slice_index fired m) stop
    unfolding moves
    stop_cause p q stop (station.Source t) at goes ends h = absurd h
    stop_cause p q stop station.Forward at goes ends h = absurd h
    stop_cause p q stop (station.Compute u) at goes ends h = absurd h
    stop_cause p q (stops.Input input fault) (station.Sink t) at goes ends h = absurd h
    stop_cause p q (stops.Output number error) (station.Sink t) at goes ends h = (
      goes.0,
      there tells given old new stations finished_one m one_moves ∙ goes.1,
      h.0 ∙ sym goes.3,
      h.2,
      ends (write_id goes.0) (ap (λ (x : of.Sink). Some x.output.id) (sym goes.2)),
    )

    never_source : (p q : ℕ) (stop : Stop) (b : Station U) → GoesOn b is → StopsFinish tells old new p q b stop → (r : SourceStation)
        → is ≡ station.Source r → ⊥
    never_source p q stop (station.Source t) goes h r same = h
    never_source p q stop station.Forward goes h r same = h
    never_source p q stop (station.Compute u) goes h r same = h
    never_source p q stop (station.Sink t) goes h r same = none-some (read_id r) (ap read_by (sym goes.1 ∙ same))

    -- what holds where the finishing was stopped
    pub finish_stopped : ((v : ℕ) → module_at (net_in c) m ≡ Sink v
        → cells_before c.program.unroll (slice_index c.delays v) (array_cells c) (slice_index fired m) ≡ array_cells c)
        → (p q : ℕ) (once : Bool) → once ≡ false → (stop : Stop) → IsFailedCall stop ≡ fails → StopsFinish tells old new p q a stop
        → IsStopped tells c once old new finished_one p q m (slice_index fired m) stop
    unfolding moves
    finish_stopped all p q once begins stop same_fails h =
        let kept : (n : ℕ) → n ≢ m → n < length stations → EndingAt tells units c given new finished_one (nat_lt n m) (nat_lt n 0) n (slice_index fired n)
        (module_at (net_in c) n) (station_at stations n) = λ n ne lt_n. ending_kept tells given old new stations finished_one m one_moves units c (nat_lt n m) (nat_lt n 0) n (slice_index fired n)
        (module_at (net_in c) n) (station_at stations n) refl ne (ready.each n lt_n) in
        record {
          begun = begins;
          cause = stop_cause p q stop a was on
              (λ i e told. subst (Ends old new i) (sym same_fails) (ends_of tells given old new stations finished_one m one_moves fails (touched told) i (ap id_of was ∙ e))) h;
          good = λ told n r found.
              ⊎_elim
              (λ same. absurd (never_source p q stop a on h r
              (sym (there tells given old new stations finished_one m one_moves) ∙ ap (station_at finished_one) (sym same.1) ∙ found)))
              (λ ne.
              let before : station_at stations n ≡ station.Source r = sym (other tells given old new stations finished_one m one_moves n ne.1) ∙ found in
              ⊎_elim
              (λ (lt_n : n < length stations). read_good told (nat_lt n m) (nat_lt n 0) n (slice_index fired n) (module_at (net_in c) n) r
              (subst (EndingAt tells units c given new finished_one (nat_lt n m) (nat_lt n 0) n (slice_index fired n) (module_at (net_in c) n)) before
              (kept n ne.1 lt_n)))
              (λ (le : length stations ≤ n). absurd (none-some (read_id r) (sym (ap id_of (get_or_past stations n station.Forward le)) ∙ ap id_of before)))
              (cases_lt n (length stations)))
              (eqb_tells n m);
          prefixes = λ told n v s found kind inputs arrays begun.
              ⊎_elim
              (λ same. own_prefix all told inputs arrays begun p q stop a was (own_stands lt a was) on h v s
              (sym (there tells given old new stations finished_one m one_moves) ∙ ap (station_at finished_one) (sym same.1) ∙ found)
              (ap (module_at (net_in c)) (sym same.1) ∙ kind))
              (λ ne.
              let before : station_at stations n ≡ station.Sink s = sym (other tells given old new stations finished_one m one_moves n ne.1) ∙ found in
              ⊎_elim
              (λ (lt_n : n < length stations). other_prefix told inputs arrays begun (nat_lt n m) (nat_lt n 0) n (slice_index fired n) (module_at (net_in c) n) s
              (subst (EndingAt tells units c given new finished_one (nat_lt n m) (nat_lt n 0) n (slice_index fired n) (module_at (net_in c) n)) before
              (kept n ne.1 lt_n)) v kind)
              (λ (le : length stations ≤ n). absurd (none-some (write_id s) (sym (ap id_of (get_or_past stations n station.Forward le)) ∙ ap id_of before)))
              (cases_lt n (length stations)))
              (eqb_tells n m);
        }

-- in the firings of a module of age 0 all cells are put, or read
pub all_put : (c : Settings) (fired : List ℕ) → AllFired c fired → 0 < c.program.unroll
    → ((cells : ℕ) (p : Plan) (n : ℕ) → 0 < p.unroll → (firings_for cells p ≤ n) ↔ (cells + greatest_delay p ≤ p.unroll * n))
    → (m : ℕ) → m < length (net_in c).modules → (v : ℕ) → age_at (net_in c) m ≡ 0
    → cells_before c.program.unroll (slice_index c.delays v) (array_cells c) (slice_index fired m) ≡ array_cells c
all_put c fired all lanes rounded m lt v aged =
    let whole : ℕ = firings_for (array_cells c) (plan_in c) in
    let done : slice_index fired m ≡ whole = omega (arith, all m lt, aged) in
    let enough = (rounded (array_cells c) (plan_in c) whole lanes).0 (omega arith) in
    ap (cells_before c.program.unroll (slice_index c.delays v) (array_cells c)) done
    ∙ ends_with_all c.program.unroll (slice_index c.delays v) (array_cells c) whole (omega (arith, enough, each_within c.delays v))

-- modules that stand ready for a firing, before the first output is finished
module _ {U : Type 0} (tells : Type 0) (units : Units U) (c : Settings) (given : ℕ) (store : Store) (stations : List (Station U)) where
  not_ending : (m k : ℕ) (kind : Module) (a : Station U) → StationAt tells units c given store stations m k kind a
      → EndingAt tells units c given store stations false false m k kind a
  not_ending m k kind (station.Source s) at = at
  not_ending m k kind station.Forward at = at
  not_ending m k kind (station.Compute u) at = at
  not_ending m k kind (station.Sink s) at = at

  pub none_ending : (fired : List ℕ) → AreReady tells units c given store stations fired → AreEnding tells units c given store stations fired 0 0
  none_ending fired ready = record {
    settings = ready.settings;
    count = ready.count;
    each = λ m lt.
        subst (λ b. EndingAt tells units c given store stations b b m (slice_index fired m) (module_at (net_in c) m) (station_at stations m))
        (sym (le-ltb m 0 (omega arith)))
        (not_ending m (slice_index fired m) (module_at (net_in c) m) (station_at stations m) (ready.each m lt));
    apart = ready.apart;
  }

-- where no firing is left the modules have done all
pub all_done : (c : Settings) (net : Net) (firings : ℕ) (fired : List ℕ) → net ≡ net_in c → firings ≡ firings_for (array_cells c) (plan_in c)
    → IsFinished net firings (between fired) → AllFired c fired
all_done c net firings fired same enough over m lt =
    let turn : (turn_at (between fired) m).fired ≡ slice_index fired m = ap (λ (t : Turn). t.fired) (get_or-map whole fired m 0) in
    sym turn ∙ over m (subst (λ (n : Net). m < length n.modules) (sym same) lt)
    ∙ ap (λ n. firings_at n firings m) same ∙ ap (λ k. firings_at (net_in c) k m) enough
