-- What a firing of one module asks of the files, among the other modules.
use Rattle.std.proofs.Common.{◌≡◌, ◌≢◌, ◌==◌, ℕ, All, Bool, true, false, if◌then◌else◌, List, [], ◌∷◌, Some, refl, sym, ap, subst, ◌∙◌, ⊎_elim}
use Rattle.std.proofs.lemmas.Bool.Decides.{eqb_tells}
use Rattle.std.proofs.lemmas.Bool.{cases_Bool, eqb-true, false≢true}
use Rattle.std.proofs.lemmas.Option.{none-some, same_Some}
use Rattle.std.proofs.lemmas.List.Elements.{All-head, All-tail, All-weaker}
use Rattle.soda_io.specs.Store.{Store}
use Rattle.soda_io.specs.declared.call.FileCall.{FileCall}
use Rattle.soda_io.specs.declared.call.FileCall.TheVariants.{Create, Open, Read, Write}
use Rattle.whole_files.specs.Journal.{EndsFailed, gots}
use Rattle.cycle_sim.specs.Stations.{id_of, read_id, station_at, write_id}
use Rattle.cycle_sim.specs.Using.{Ends, EndsFailedBy, IsBy, IsUseOf, ReadsUp, Uses, has_ended, read_by}
use Rattle.cycle_sim.specs.machine.Asking.{reads_none}
use Rattle.cycle_sim.specs.machine.Firings.{Moves, Touches}
use Rattle.cycle_sim.specs.declared.stations.Station.{Station}
use Rattle.cycle_sim.specs.declared.stations.Station.TheVariants as station
use Rattle.cycle_sim.proofs.Moving.{other, there}

-- what a module reads or writes by is its id
reader_id : {U : Type 0} (a : Station U) (i : ℕ) → read_by a ≡ Some i → id_of a ≡ Some i
reader_id (station.Source s) i e = e
reader_id station.Forward i e = absurd (none-some i e)
reader_id (station.Compute u) i e = absurd (none-some i e)
reader_id (station.Sink s) i e = absurd (none-some i e)

-- calls of a module are by its id
by_id : {U : Type 0} (a : Station U) (i : ℕ) → id_of a ≡ Some i → (e : FileCall) → IsUseOf a e → IsBy i e
by_id a i is (Open name id) called = called
by_id a i is (Create name id) called = called
by_id (station.Source s) i is (Read id asked got) called = sym (same_Some (read_id s) id called) ∙ same_Some (read_id s) i is
by_id station.Forward i is (Read id asked got) called = absurd (none-some id called)
by_id (station.Compute u) i is (Read id asked got) called = absurd (none-some id called)
by_id (station.Sink s) i is (Read id asked got) called = absurd (none-some id called)
by_id (station.Source s) i is (Write id given taken) called = absurd (none-some id called)
by_id station.Forward i is (Write id given taken) called = absurd (none-some id called)
by_id (station.Compute u) i is (Write id given taken) called = absurd (none-some id called)
by_id (station.Sink s) i is (Write id given taken) called = sym (same_Some (write_id s) id called) ∙ same_Some (write_id s) i is

-- calls that end with a failed one end with one by the id
pub ends_by : {U : Type 0} (a : Station U) (i : ℕ) → id_of a ≡ Some i → (es : List FileCall) → All (IsUseOf a) es → EndsFailed es → EndsFailedBy i es
ends_by a i is [] all ends = absurd ends
ends_by a i is (e ∷ []) all ends = record {
  before = [];
  last = e;
  are = refl;
  failed = ends;
  by = by_id a i is e (All-head (IsUseOf a) e [] all);
}
ends_by a i is (e ∷ f ∷ es) all ends =
    let rest = ends_by a i is (f ∷ es) (All-tail (IsUseOf a) e (f ∷ es) all) ends in
    record {
      before = e ∷ rest.before;
      last = rest.last;
      are = ap (λ xs. e ∷ xs) rest.are;
      failed = rest.failed;
      by = rest.by;
    }

-- none of its calls reads another's file
gots_other : {U : Type 0} (a : Station U) (i : ℕ) → read_by a ≢ Some i → (es : List FileCall) → All (IsUseOf a) es → gots i es ≡ []
gots_other a i ne [] all = refl
gots_other a i ne (Open name id ∷ es) all = gots_other a i ne es (All-tail (IsUseOf a) (Open name id) es all)
gots_other a i ne (Create name id ∷ es) all = gots_other a i ne es (All-tail (IsUseOf a) (Create name id) es all)
gots_other a i ne (Read id asked got ∷ es) all =
    let rest = gots_other a i ne es (All-tail (IsUseOf a) (Read id asked got) es all) in
    let own : read_by a ≡ Some id = All-head (IsUseOf a) (Read id asked got) es all in
    ⊎_elim
    (λ e. absurd (ne (own ∙ ap Some (eqb-true id i e))))
    (λ e. ap (λ b. if b then (got ∷ gots i es) else gots i es) e ∙ rest)
    (cases_Bool (id == i))
gots_other a i ne (Write id given taken ∷ es) all = gots_other a i ne es (All-tail (IsUseOf a) (Write id given taken) es all)

module _ {U : Type 0} (tells : Type 0) (given : ℕ) (old new : Store) (before after : List (Station U)) (m : ℕ)
    (moves : Moves tells given old new before after m) (fails : Type 0) (touch : Touches given old new (station_at before m) moves.is fails) where
  -- what the run asked in this firing, the first that was stopped if it was
  pub uses_of : (once now : Bool) → once ≡ false → (fails → now ≡ true)
      → ((n i j : ℕ) → n ≢ m → id_of (station_at before n) ≡ Some i → id_of (station_at before m) ≡ Some j → i ≢ j)
      → Uses old new before after once now
  uses_of once now begins stops apart = record {
    entries = touch.entries;
    calls = touch.calls;
    own = All-weaker (IsUseOf (station_at before m)) (λ e. (n : ℕ) × IsUseOf (station_at before n) e) (λ e is. (m, is)) touch.entries touch.own;
    failed = touch.last;
    stopped = λ ends. stops (touch.by_call.1 ends);
    quiet = λ e. absurd (false≢true (sym begins ∙ e));
    reads = λ n i is.
        ⊎_elim
        (λ found.
        let same : n ≡ m = found.1 in
        let reads = touch.reads i (ap (λ k. read_by (station_at before k)) (sym same) ∙ is) in
        subst (λ a. ReadsUp (has_ended (station_at before n)) (has_ended a) (gots i touch.entries))
        (sym (ap (station_at after) same ∙ there tells given old new before after m moves))
        (subst (λ k. ReadsUp (has_ended (station_at before k)) (has_ended moves.is) (gots i touch.entries)) (sym same) reads))
        (λ found.
        let none : gots i touch.entries ≡ [] =
        gots_other (station_at before m) i
        (λ by. apart n i i found.1 (reader_id (station_at before n) i is) (reader_id (station_at before m) i by) refl) touch.entries touch.own in
        subst (ReadsUp (has_ended (station_at before n)) (has_ended (station_at after n))) (sym none)
        (subst (λ a. ReadsUp (has_ended (station_at before n)) (has_ended a) [])
        (sym (other tells given old new before after m moves n found.1)) (reads_none (has_ended (station_at before n)))))
        (eqb_tells n m);
  }

  -- what was asked where the firing was stopped
  pub ends_of : (i : ℕ) → id_of (station_at before m) ≡ Some i → Ends old new i fails
  ends_of i is = record {
    entries = touch.entries;
    calls = touch.calls;
    so = λ f. ends_by (station_at before m) i is touch.entries touch.own (touch.by_call.0 f);
    only = λ ends. touch.by_call.1 ends;
  }
