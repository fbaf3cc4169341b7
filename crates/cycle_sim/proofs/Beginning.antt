-- The modules of a run stand ready before its first cycle, where its files are fresh.
use Rattle.std.proofs.Common.{◌≡◌, ◌≢◌, ℕ, ◌<◌, ◌≤◌, List, [], length, take, slice_index, Some, sym, ap, subst, ◌∙◌, arith, ⊎_elim}
use Rattle.std.proofs.lemmas.Bool.{cases_lt}
use Rattle.std.proofs.lemmas.Option.{none-some, same_Some}
use Rattle.std.proofs.lemmas.List.{get_or_past}
use Rattle.soda_io.specs.Store.{Store}
use Rattle.bursts.specs.Readers.{kind}
use Rattle.bursts.specs.Writers.{HasPut}
use Rattle.bursts.proofs.CallerLemmas.{stands_first}
use Rattle.file_modules.proofs.CallerLemmas.{begins_with_none}
use Rattle.net_ir.specs.declared.network.Module.{Module}
use Rattle.net_ir.specs.declared.network.Module.TheVariants.{Source, Sink}
use Rattle.staged_cells.specs.Sends.{output_of}
use Rattle.staged_cells.specs.Streams.{module_at}
use Rattle.cycle_sim.specs.Settings.{IsSettings, Settings, array_cells, array_over, net_in}
use Rattle.cycle_sim.specs.Stations.{AreApart, AreReady, SinkAt, SourceAt, StationAt, Units, id_of, read_id, station_at, write_id, written_by}
use Rattle.cycle_sim.specs.Handles.{HaveHandles, handle_of}
use Rattle.cycle_sim.specs.Fresh.{AreFresh, IsNew, IsNewSink, IsNewSource}
use Rattle.cycle_sim.specs.declared.stations.SourceStation.{SourceStation}
use Rattle.cycle_sim.specs.declared.stations.SinkStation.{SinkStation}
use Rattle.cycle_sim.specs.declared.stations.Station.{Station}
use Rattle.cycle_sim.specs.declared.stations.Station.TheVariants as station

-- the law that no two modules are one
pub record OneModule (c : Settings) : Type 0 where
  pub modules : (m n : ℕ) → m < length (net_in c).modules → n < length (net_in c).modules
      → module_at (net_in c) m ≡ module_at (net_in c) n → m ≡ n
  pub sinks : (m n v w : ℕ) → m < length (net_in c).modules → n < length (net_in c).modules → module_at (net_in c) m ≡ Sink v
      → module_at (net_in c) n ≡ Sink w → output_of c.program v ≡ output_of c.program w → m ≡ n

module _ {U : Type 0} (tells : Type 0) (units : Units U) (c : Settings) (inputs outputs : List ℕ) (given : ℕ) (store : Store)
    (fresh : AreFresh tells inputs outputs given store) where
  source_begins : (s : SourceStation) → IsNewSource inputs s → SourceAt tells given store 0 s
  source_begins s is = record {
    known = subst (λ n. n < given) (sym is.id) (fresh.read s.input is.there);
    opened = λ told. ap store.opened is.id ∙ fresh.opened told s.input is.there;
    fine = is.fine;
    done = is.done;
    count = is.count ∙ sym (begins_with_none s.reads.unroll s.reads.delay (kind s.reads.reader).cells);
    good = λ told. omega (arith, begins_with_none s.reads.unroll s.reads.delay (kind s.reads.reader).cells);
    stands = λ told. stands_first s.reads.reader store (slice_index inputs s.input) is.id (fresh.unread told s.input is.there) is.stands;
  }

  sink_begins : (stations : List (Station U)) (v : ℕ) (s : SinkStation) → IsNewSink outputs s → SinkAt tells c given store stations v 0 s
  sink_begins stations v s is = record {
    known = subst (λ n. n < given) (sym is.id) (fresh.written s.output is.there);
    created = λ told. ap store.opened is.id ∙ fresh.created told s.output is.there;
    put = λ told input_cells arrays begun. (
      [],
      ap (λ i. store.bytes (store.name i)) is.id ∙ fresh.empty told s.output is.there,
      subst (λ n. HasPut s.writes.writer (take n (array_over c input_cells v)) []) (sym (begins_with_none c.program.unroll (slice_index c.delays v) (array_cells c)))
          is.none,
    );
  }

  station_begins : (stations : List (Station U)) (m : ℕ) (kind : Module) (a : Station U) → IsNew units c inputs outputs m kind a
      → StationAt tells units c given store stations m 0 kind a
  station_begins stations m kind (station.Source s) is = (is.0, is.1, is.2, source_begins s is.3)
  station_begins stations m kind station.Forward is = is
  station_begins stations m kind (station.Compute u) is = is
  station_begins stations m kind (station.Sink s) is = (is.0, is.1, is.2, sink_begins stations is.0 s is.3)

  module _ (one : OneModule c) (stations : List (Station U)) (whole : length stations ≡ length (net_in c).modules)
      (new : (m : ℕ) → m < length stations → IsNew units c inputs outputs m (module_at (net_in c) m) (station_at stations m)) where
    other_output : (m n v w : ℕ) (s t : SinkStation) → m ≢ n → m < length stations → n < length stations → module_at (net_in c) m ≡ Sink v
        → module_at (net_in c) n ≡ Sink w → s.output ≡ output_of c.program v → t.output ≡ output_of c.program w → s.output ≢ t.output
    other_output m n v w s t ne ml nl x y a b = λ same.
        ne (one.sinks m n v w (subst (λ k. m < k) whole ml) (subst (λ k. n < k) whole nl) x y (sym a ∙ same ∙ b))

    ids_apart : (m n i j : ℕ) → m ≢ n → m < length stations → n < length stations → (a b : Station U) → IsNew units c inputs outputs m (module_at (net_in c) m) a
        → IsNew units c inputs outputs n (module_at (net_in c) n) b → id_of a ≡ Some i → id_of b ≡ Some j → i ≢ j
    ids_apart m n i j ne ml nl station.Forward b x y e f = absurd (none-some i e)
    ids_apart m n i j ne ml nl (station.Compute u) b x y e f = absurd (none-some i e)
    ids_apart m n i j ne ml nl (station.Source s) station.Forward x y e f = absurd (none-some j f)
    ids_apart m n i j ne ml nl (station.Source s) (station.Compute u) x y e f = absurd (none-some j f)
    ids_apart m n i j ne ml nl (station.Sink s) station.Forward x y e f = absurd (none-some j f)
    ids_apart m n i j ne ml nl (station.Sink s) (station.Compute u) x y e f = absurd (none-some j f)
    ids_apart m n i j ne ml nl (station.Source s) (station.Source t) x y e f = λ same.
        fresh.inputs_apart s.input t.input
        (λ (number : s.input ≡ t.input).
        ne (one.modules m n (subst (λ k. m < k) whole ml) (subst (λ k. n < k) whole nl)
        (x.1 ∙ ap Source (sym x.2.input ∙ number ∙ y.2.input) ∙ sym y.1)))
        x.3.there y.3.there (sym x.3.id ∙ same_Some (read_id s) i e ∙ same ∙ sym (same_Some (read_id t) j f) ∙ y.3.id)
    ids_apart m n i j ne ml nl (station.Source s) (station.Sink t) x y e f = λ same.
        fresh.apart s.input t.output x.3.there y.3.there (sym x.3.id ∙ same_Some (read_id s) i e ∙ same ∙ sym (same_Some (write_id t) j f) ∙ y.3.id)
    ids_apart m n i j ne ml nl (station.Sink s) (station.Source t) x y e f = λ same.
        fresh.apart t.input s.output y.3.there x.3.there (sym y.3.id ∙ same_Some (read_id t) j f ∙ sym same ∙ sym (same_Some (write_id s) i e) ∙ x.3.id)
    ids_apart m n i j ne ml nl (station.Sink s) (station.Sink t) x y e f = λ same.
        fresh.outputs_apart s.output t.output (other_output m n x.0 y.0 s t ne ml nl x.1 y.1 x.2.number y.2.number) x.3.there y.3.there
        (sym x.3.id ∙ same_Some (write_id s) i e ∙ same ∙ sym (same_Some (write_id t) j f) ∙ y.3.id)

    names_apart : tells → (m n i j : ℕ) → m ≢ n → m < length stations → n < length stations → (a b : Station U) → IsNew units c inputs outputs m (module_at (net_in c) m) a
        → IsNew units c inputs outputs n (module_at (net_in c) n) b → written_by a ≡ Some i → id_of b ≡ Some j → store.name j ≢ store.name i
    names_apart told m n i j ne ml nl (station.Source s) b x y e f = absurd (none-some i e)
    names_apart told m n i j ne ml nl station.Forward b x y e f = absurd (none-some i e)
    names_apart told m n i j ne ml nl (station.Compute u) b x y e f = absurd (none-some i e)
    names_apart told m n i j ne ml nl (station.Sink s) station.Forward x y e f = absurd (none-some j f)
    names_apart told m n i j ne ml nl (station.Sink s) (station.Compute u) x y e f = absurd (none-some j f)
    names_apart told m n i j ne ml nl (station.Sink s) (station.Source t) x y e f = λ same.
        fresh.names_of_inputs told t.input s.output y.3.there x.3.there
        (ap store.name (sym y.3.id ∙ same_Some (read_id t) j f) ∙ same ∙ ap store.name (sym (same_Some (write_id s) i e) ∙ x.3.id))
    names_apart told m n i j ne ml nl (station.Sink s) (station.Sink t) x y e f = λ same.
        fresh.names_of_outputs told t.output s.output
        (λ number. other_output m n x.0 y.0 s t ne ml nl x.1 y.1 x.2.number y.2.number (sym number)) y.3.there x.3.there
        (ap store.name (sym y.3.id ∙ same_Some (write_id t) j f) ∙ same ∙ ap store.name (sym (same_Some (write_id s) i e) ∙ x.3.id))

    within : (n i : ℕ) → id_of (station_at stations n) ≡ Some i → n < length stations
    within n i e =
        ⊎_elim
        (λ (lt : n < length stations). lt)
        (λ (le : length stations ≤ n). absurd (none-some i (sym (ap id_of (get_or_past stations n station.Forward le)) ∙ e)))
        (cases_lt n (length stations))

    writer : (a : Station U) (i : ℕ) → written_by a ≡ Some i → id_of a ≡ Some i
    writer (station.Source s) i e = absurd (none-some i e)
    writer station.Forward i e = e
    writer (station.Compute u) i e = e
    writer (station.Sink s) i e = e

    begin_apart : AreApart tells store stations
    begin_apart = record {
      ids = λ m n i j ne e f.
          let ml = within m i e in
          let nl = within n j f in
          ids_apart m n i j ne ml nl (station_at stations m) (station_at stations n) (new m ml) (new n nl) e f;
      names = λ told m n i j ne e f.
          let ml = within m i (writer (station_at stations m) i e) in
          let nl = within n j f in
          names_apart told m n i j ne ml nl (station_at stations m) (station_at stations n) (new m ml) (new n nl) e f;
    }

    -- all modules stand ready
    pub begin_ready : IsSettings c → (fired : List ℕ) → ((m : ℕ) → m < length stations → slice_index fired m ≡ 0)
        → AreReady tells units c given store stations fired
    begin_ready settings fired none = record {
      settings = settings;
      count = whole;
      each = λ m lt.
          subst (λ k. StationAt tells units c given store stations m k (module_at (net_in c) m) (station_at stations m)) (sym (none m lt))
          (station_begins stations m (module_at (net_in c) m) (station_at stations m) (new m lt));
      apart = begin_apart;
    }

    -- each works with the file of its input or output
    handles : (m : ℕ) (kind : Module) (a : Station U) → IsNew units c inputs outputs m kind a
        → id_of a ≡ handle_of c inputs outputs kind
    handles m kind (station.Source s) is =
        ap Some (is.3.id ∙ ap (slice_index inputs) is.2.input) ∙ sym (ap (handle_of c inputs outputs) is.1)
    handles m kind station.Forward is = sym (ap (handle_of c inputs outputs) is.3)
    handles m kind (station.Compute u) is = sym (ap (handle_of c inputs outputs) is.2)
    handles m kind (station.Sink s) is =
        ap Some (is.3.id ∙ ap (slice_index outputs) is.2.number) ∙ sym (ap (handle_of c inputs outputs) is.1)

    pub begin_handles : HaveHandles c inputs outputs stations
    begin_handles m lt =
        handles m (module_at (net_in c) m) (station_at stations m) (new m (subst (λ n. m < n) (sym whole) lt))
