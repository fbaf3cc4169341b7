-- What one module's firing asks of the files.
use Rattle.std.proofs.Common.{◌≡◌, ◌↔◌, ℕ, [], Result, Err, Some, refl, sym, ap, subst}
use Rattle.std.proofs.lemmas.Option.{none-some, same_Some}
use Rattle.std.proofs.lemmas.List.{append-nil}
use Rattle.std.proofs.lemmas.List.Elements.{All-nil, All-weaker}
use Rattle.soda_io.specs.Store.{Store}
use Rattle.soda_io.specs.declared.call.FileCall.{FileCall}
use Rattle.soda_io.specs.declared.call.FileCall.TheVariants as call
use Rattle.soda_io.specs.declared.error.IoErr.{IoErr}
use Rattle.soda_io.specs.declared.error.IoErr.TheVariants as io
use Rattle.array_bytes.specs.declared.fault.CellFault.{CellFault}
use Rattle.whole_files.specs.Journal.{IsReadBy, IsWriteBy, gots}
use Rattle.bursts.specs.Blocks.{FailsNow, ReadsOn, WritesOn}
use Rattle.bursts.specs.Readers.{is_done}
use Rattle.cycle_sim.specs.Stations.{read_id, write_id}
use Rattle.cycle_sim.specs.Using.{IsUseOf, ReadsUp, read_by}
use Rattle.cycle_sim.specs.machine.Firings.{Touches}
use Rattle.cycle_sim.specs.declared.stations.SourceStation.{SourceStation}
use Rattle.cycle_sim.specs.declared.stations.SinkStation.{SinkStation}
use Rattle.cycle_sim.specs.declared.stations.Station.{Station}
use Rattle.cycle_sim.specs.declared.stations.Station.TheVariants.{Source, Forward, Compute, Sink}

read_use : (U : Type 0) (s : SourceStation) (e : FileCall) → IsReadBy (read_id s) e → IsUseOf {U = U} (Source s) e
read_use U s (call.Open name id) is = is
read_use U s (call.Create name id) is = is
read_use U s (call.Read id asked got) is = ap Some (sym is)
read_use U s (call.Write id given taken) is = absurd is

write_use : (U : Type 0) (s : SinkStation) (e : FileCall) → IsWriteBy (write_id s) e → IsUseOf {U = U} (Sink s) e
write_use U s (call.Open name id) is = is
write_use U s (call.Create name id) is = is
write_use U s (call.Read id asked got) is = absurd is
write_use U s (call.Write id given taken) is = ap Some (sym is)

module _ {U : Type 0} (given : ℕ) (old new : Store) (fails : Type 0) where
  -- a source
  pub source_touches : (s r : SourceStation) (result : Result (Unit {0}) CellFault) (P : ℕ → ℕ → Type 0)
      → ReadsOn given old new (read_id s) (is_done s.reads.reader) (is_done r.reads.reader) (FailsNow s.reads.reader.fault result) P
      → fails ↔ FailsNow s.reads.reader.fault result → Touches {U = U} given old new (Source s) (Source r) fails
  source_touches s r result P on iff = record {
    ids = on.ids;
    places = λ i lt ne. on.others i lt (λ e. ne (ap Some (sym e)));
    bytes = λ name apart. on.bytes name;
    entries = on.entries;
    calls = on.calls;
    own = All-weaker (IsReadBy (read_id s)) (IsUseOf {U = U} (Source s)) (λ e is. read_use U s e is) on.entries on.reads.own;
    last = on.reads.failed;
    by_call = (λ f. on.failed.0 (iff.0 f), λ ends. iff.1 (on.failed.1 ends));
    reads = λ i is.
        let own : ReadsUp (is_done s.reads.reader) (is_done r.reads.reader) (gots (read_id s) on.entries) = record {
          quiet = λ e. ap (gots (read_id s)) (on.quiet e);
          stays = on.stays;
          end = on.reads.end;
          going = on.going;
          met = on.met;
        } in
        subst (λ k. ReadsUp (is_done s.reads.reader) (is_done r.reads.reader) (gots k on.entries)) (same_Some (read_id s) i is) own;
  }

  -- a sink
  pub sink_touches : (s r : SinkStation) (result : Result (Unit {0}) IoErr) → WritesOn given old new (write_id s) result
      → fails ↔ (result ≡ Err io.Failed) → Touches {U = U} given old new (Sink s) (Sink r) fails
  sink_touches s r result on iff = record {
    ids = on.ids;
    places = λ i lt ne. on.places i lt;
    bytes = λ name apart. on.others name (apart (write_id s) refl);
    entries = on.entries;
    calls = on.calls;
    own = All-weaker (IsWriteBy (write_id s)) (IsUseOf {U = U} (Sink s)) (λ e is. write_use U s e is) on.entries on.writes.own;
    last = on.writes.failed;
    by_call = (λ f. on.failed.0 (iff.0 f), λ ends. iff.1 (on.failed.1 ends));
    reads = λ i is. absurd (none-some i is);
  }

-- a module without a file
module _ {U : Type 0} (given : ℕ) (store : Store) where
  none_touches : (a b : Station U) → ((i : ℕ) → read_by a ≡ Some i → ⊥) → Touches given store store a b ⊥
  none_touches a b none = record {
    ids = record { name = λ k lt. refl; opened = λ k lt. refl };
    places = λ i lt ne. refl;
    bytes = λ name apart. refl;
    entries = [];
    calls = sym (append-nil store.calls);
    own = All-nil (IsUseOf a);
    last = tt;
    by_call = (λ f. absurd f, λ ends. absurd ends);
    reads = λ i is. absurd (none i is);
  }

  pub forward_touches : (b : Station U) → Touches given store store Forward b ⊥
  forward_touches b = none_touches Forward b (λ i e. none-some i e)

  pub compute_touches : (u : U) (b : Station U) → Touches given store store (Compute u) b ⊥
  compute_touches u b = none_touches (Compute u) b (λ i e. none-some i e)
