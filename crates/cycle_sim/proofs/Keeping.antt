-- Behind a firing of one module the others stand as they stood.
use Rattle.std.proofs.Common.{◌≡◌, ◌≢◌, ℕ, ◌+◌, ◌<◌, ◌≤◌, List, length, slice_index, Some, refl, sym, ap, subst, ◌∙◌, arith, ⊎_elim, get_or-set_same, get_or-set_other, length-set}
use Rattle.std.proofs.lemmas.Bool.Decides.{eqb_tells}
use Rattle.std.proofs.lemmas.Option.{none-some}
use Rattle.soda_io.specs.Store.{Store, content}
use Rattle.bursts.specs.Blocks.{cells_in}
use Rattle.bursts.specs.Readers.{StandsAt, kind}
use Rattle.net_cycles.specs.Between.{fired_once}
use Rattle.net_ir.specs.declared.network.Module.{Module}
use Rattle.staged_cells.specs.Streams.{module_at}
use Rattle.file_modules.specs.Modules.{Sink, Source, read_before, source}
use Rattle.cycle_sim.specs.Settings.{Settings, net_in}
use Rattle.cycle_sim.specs.Stations.{AreApart, AreReady, SinkAt, SourceAt, StationAt, Units, id_of, read_id, station_at, write_id, written_by}
use Rattle.cycle_sim.specs.Using.{read_by}
use Rattle.cycle_sim.specs.machine.Firings.{GoesOn, Moves, Spares}
use Rattle.cycle_sim.specs.declared.stations.SourceStation.{SourceStation}
use Rattle.cycle_sim.specs.declared.stations.SinkStation.{SinkStation}
use Rattle.cycle_sim.specs.declared.stations.Station.{Station}
use Rattle.cycle_sim.specs.declared.stations.Station.TheVariants as station
use Rattle.cycle_sim.proofs.Moving.{begun_before, other, same_content, there}

-- a source that is spared
pub source_kept : (tells : Type 0) (given : ℕ) (old new : Store) (k : ℕ) (s : SourceStation) → (tells → Spares old new (read_id s))
    → SourceAt tells given old k s → SourceAt tells given new k s
source_kept tells given old new k s spare at = record {
  known = at.known;
  opened = λ told. (spare told).opened ∙ at.opened told;
  fine = at.fine;
  done = at.done;
  count = at.count;
  good = λ told.
      let bytes : content new (read_id s) ≡ content old (read_id s) = same_content old new (read_id s) (spare told) in
      subst (λ b. read_before (source s.reads) k ≤ length (cells_in (kind s.reads.reader) b)) (sym bytes) (at.good told);
  stands = λ told.
      let d = spare told in
      let bytes : content new (read_id s) ≡ content old (read_id s) = same_content old new (read_id s) d in
      subst (λ p. StandsAt s.reads.reader (content new (read_id s)) p) (sym d.place)
      (subst (λ b. StandsAt s.reads.reader b (old.place (read_id s))) (sym bytes) (at.stands told));
}

module _ {U : Type 0} (tells : Type 0) (given : ℕ) (old new : Store) (before after : List (Station U)) (m : ℕ)
    (moves : Moves tells given old new before after m) where
  -- a sink that is spared
  pub sink_kept : (c : Settings) (v k : ℕ) (s : SinkStation) → (tells → Spares old new (write_id s))
      → SinkAt tells c given old before v k s → SinkAt tells c given new after v k s
  sink_kept c v k s spare at = record {
    known = at.known;
    created = λ told. (spare told).opened ∙ at.created told;
    put = λ told inputs arrays begun.
        let put = at.put told inputs arrays (begun_before tells given old new before after m moves told inputs begun) in
        let d = spare told in
        (put.0, ap new.bytes d.name ∙ d.bytes ∙ put.1, put.2);
  }

  -- any module but that one
  pub station_kept : (units : Units U) (c : Settings) (n k : ℕ) (kind : Module) (a : Station U) → station_at before n ≡ a → n ≢ m
      → StationAt tells units c given old before n k kind a → StationAt tells units c given new after n k kind a
  station_kept units c n k kind (station.Source s) is ne at =
      (at.0, at.1, at.2, source_kept tells given old new k s (λ told. moves.others told n (read_id s) ne (ap id_of is)) at.3)
  station_kept units c n k kind station.Forward is ne at = at
  station_kept units c n k kind (station.Compute u) is ne at = at
  station_kept units c n k kind (station.Sink s) is ne at =
      (at.0, at.1, at.2, sink_kept c at.0 k s (λ told. moves.others told n (write_id s) ne (ap id_of is)) at.3)

  -- what was made for an id stays
  same_id : (a b : Station U) → GoesOn a b → id_of b ≡ id_of a
  same_id (station.Source s) b on = ap id_of on.1 ∙ ap (λ (x : Source). Some x.kind.id) on.2
  same_id station.Forward b on = ap id_of on
  same_id (station.Compute u) b on = ap id_of on.1
  same_id (station.Sink s) b on = ap id_of on.1 ∙ ap (λ (x : Sink). Some x.output.id) on.2

  same_writer : (a b : Station U) → GoesOn a b → written_by b ≡ written_by a
  same_writer (station.Source s) b on = ap written_by on.1
  same_writer station.Forward b on = ap written_by on
  same_writer (station.Compute u) b on = ap written_by on.1
  same_writer (station.Sink s) b on = ap written_by on.1 ∙ ap (λ (x : Sink). Some x.output.id) on.2

  same_reader : (a b : Station U) → GoesOn a b → read_by b ≡ read_by a
  same_reader (station.Source s) b on = ap read_by on.1 ∙ ap (λ (x : Source). Some x.kind.id) on.2
  same_reader station.Forward b on = ap read_by on
  same_reader (station.Compute u) b on = ap read_by on.1
  same_reader (station.Sink s) b on = ap read_by on.1

  pub ids_stay : (n : ℕ) → id_of (station_at after n) ≡ id_of (station_at before n)
  ids_stay n =
      ⊎_elim
      (λ found. ap (λ i. id_of (station_at after i)) found.1 ∙ ap id_of (there tells given old new before after m moves)
      ∙ same_id (station_at before m) moves.is moves.on ∙ ap (λ i. id_of (station_at before i)) (sym found.1))
      (λ found. ap id_of (other tells given old new before after m moves n found.1))
      (eqb_tells n m)

  pub writers_stay : (n : ℕ) → written_by (station_at after n) ≡ written_by (station_at before n)
  writers_stay n =
      ⊎_elim
      (λ found. ap (λ i. written_by (station_at after i)) found.1 ∙ ap written_by (there tells given old new before after m moves)
      ∙ same_writer (station_at before m) moves.is moves.on ∙ ap (λ i. written_by (station_at before i)) (sym found.1))
      (λ found. ap written_by (other tells given old new before after m moves n found.1))
      (eqb_tells n m)

  pub readers_stay : (n : ℕ) → read_by (station_at after n) ≡ read_by (station_at before n)
  readers_stay n =
      ⊎_elim
      (λ found. ap (λ i. read_by (station_at after i)) found.1 ∙ ap read_by (there tells given old new before after m moves)
      ∙ same_reader (station_at before m) moves.is moves.on ∙ ap (λ i. read_by (station_at before i)) (sym found.1))
      (λ found. ap read_by (other tells given old new before after m moves n found.1))
      (eqb_tells n m)

  name_stays : tells → (n i : ℕ) → id_of (station_at before n) ≡ Some i → new.name i ≡ old.name i
  name_stays told n i e =
      ⊎_elim
      (λ found. (moves.own told i (ap (λ k. id_of (station_at before k)) (sym found.1) ∙ e)).0)
      (λ found. (moves.others told n i found.1 e).name)
      (eqb_tells n m)

  pub writer_id : (a : Station U) (i : ℕ) → written_by a ≡ Some i → id_of a ≡ Some i
  writer_id (station.Source s) i e = absurd (none-some i e)
  writer_id station.Forward i e = e
  writer_id (station.Compute u) i e = e
  writer_id (station.Sink s) i e = e

  -- ids and names stay apart
  pub still_apart : AreApart tells old before → AreApart tells new after
  still_apart apart = record {
    ids = λ a b i j ne e f. apart.ids a b i j ne (sym (ids_stay a) ∙ e) (sym (ids_stay b) ∙ f);
    names = λ told a b i j ne e f.
        let w = sym (writers_stay a) ∙ e in
        let g = sym (ids_stay b) ∙ f in
        λ same. apart.names told a b i j ne w g
        (sym (name_stays told b j g) ∙ same ∙ name_stays told a i (writer_id (station_at before a) i w));
  }

  -- all modules, where that one has fired once more
  pub ready_after : (units : Units U) (c : Settings) (fired : List ℕ) → length fired ≡ length before
      → AreReady tells units c given old before fired
      → StationAt tells units c given new after m (slice_index fired m + 1) (module_at (net_in c) m) moves.is
      → AreReady tells units c given new after (fired_once fired m)
  ready_after units c fired whole ready own = record {
    settings = ready.settings;
    count = ap length moves.set ∙ length-set before m moves.is ∙ ready.count;
    each = λ n lt.
        let within : n < length before = omega (arith, ap length moves.set, length-set before m moves.is, lt) in
        ⊎_elim
        (λ found.
        let place : slice_index (fired_once fired m) m ≡ slice_index fired m + 1 = get_or-set_same fired m (slice_index fired m + 1) 0 (omega (arith, whole, moves.known)) in
        subst (λ i. StationAt tells units c given new after i (slice_index (fired_once fired m) i) (module_at (net_in c) i) (station_at after i)) (sym found.1)
        (subst (λ k. StationAt tells units c given new after m k (module_at (net_in c) m) (station_at after m)) (sym place)
        (subst (StationAt tells units c given new after m (slice_index fired m + 1) (module_at (net_in c) m))
        (sym (there tells given old new before after m moves)) own)))
        (λ found.
        let place : slice_index (fired_once fired m) n ≡ slice_index fired n = get_or-set_other fired m n (slice_index fired m + 1) 0 found.1 in
        subst (λ k. StationAt tells units c given new after n k (module_at (net_in c) n) (station_at after n)) (sym place)
        (subst (StationAt tells units c given new after n (slice_index fired n) (module_at (net_in c) n))
        (sym (other tells given old new before after m moves n found.1))
        (station_kept units c n (slice_index fired n) (module_at (net_in c) n) (station_at before n) refl found.1 (ready.each n within))))
        (eqb_tells n m);
    apart = still_apart ready.apart;
  }
