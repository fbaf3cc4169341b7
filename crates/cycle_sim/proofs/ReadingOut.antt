-- Behind the reading of one input to its end the modules stand as they stood, and that input is read out.
use Rattle.std.proofs.Common.{◌≡◌, ℕ, ◌+◌, ◌<◌, ◌≤◌, Bool, true, false, nat_lt, List, Err, length, length-set, slice_index, slice_set, Some, refl, sym, ap, subst, ◌∙◌, arith}
use Rattle.std.proofs.lemmas.Bool.{le-ltb, lt-ltb}
use Rattle.soda_io.specs.Store.{Store, content}
use Rattle.bursts.specs.Blocks.{EndIs}
use Rattle.bursts.specs.Readers.{kind}
use Rattle.file_modules.specs.Firings.{cells_before}
use Rattle.file_modules.specs.Modules.{read_before, source}
use Rattle.file_modules.specs.Modules as of
use Rattle.net_ir.specs.declared.network.Module.TheVariants.{Source}
use Rattle.staged_cells.specs.Streams.{module_at}
use Rattle.cycle_sim.specs.Ending.{AreEnding, EndingAt, IsReadOut}
use Rattle.cycle_sim.specs.Settings.{Settings, array_cells, net_in}
use Rattle.cycle_sim.specs.Stations.{IsSourceOf, SourceAt, Units, id_of, read_id, station_at, write_id}
use Rattle.cycle_sim.specs.Onward.{Onward}
use Rattle.cycle_sim.specs.Unended.{IsUnended, IsUnendedBy}
use Rattle.cycle_sim.specs.Using.{Ends, IsFailedCall}
use Rattle.cycle_sim.specs.machine.Closing.{MayEnd, ReadOut, StopsEnd}
use Rattle.cycle_sim.specs.machine.Firings.{GoesOn, Moves, OfSource, Spares, Touches}
use Rattle.cycle_sim.specs.declared.stop.Stop.{Stop}
use Rattle.cycle_sim.specs.declared.stop.Stop.TheVariants as stops
use Rattle.cycle_sim.specs.declared.stations.SourceStation.{SourceStation}
use Rattle.cycle_sim.specs.declared.stations.Station.{Station}
use Rattle.cycle_sim.specs.declared.stations.Station.TheVariants as station
use Rattle.cycle_sim.proofs.After.{source_made}
use Rattle.cycle_sim.proofs.Asked.{ends_of}
use Rattle.cycle_sim.proofs.Finishing.{ending_after, ending_kept, known_there, next_flag, sink_ending}
use Rattle.cycle_sim.proofs.GoingOn.{onward_of}
use Rattle.cycle_sim.proofs.Moving.{moves, other, there}

module _ {U : Type 0} (tells : Type 0) (units : Units U) (c : Settings) (given : ℕ) (old : Store) (stations : List (Station U)) (fired : List ℕ) (f m : ℕ)
    (ready : AreEnding tells units c given old stations fired f m) where
  abbrev pub Stands : Station U → Type 0
  Stands a = EndingAt tells units c given old stations (nat_lt m f) false m (slice_index fired m) (module_at (net_in c) m) a

  own_stands : m < length stations → (a : Station U) → station_at stations m ≡ a → Stands a
  own_stands lt a is =
      subst Stands is
      (subst (λ b. EndingAt tells units c given old stations (nat_lt m f) b m (slice_index fired m) (module_at (net_in c) m) (station_at stations m))
      (le-ltb m m (omega arith)) (ready.each m lt))

  -- all cells were read
  all_read : (v : ℕ) (s : SourceStation) → IsSourceOf c m v s
      → cells_before c.program.unroll (slice_index c.delays v) (array_cells c) (slice_index fired m) ≡ array_cells c
      → read_before (source s.reads) (slice_index fired m) ≡ (kind s.reads.reader).cells
  all_read v s of all =
      ap (λ u. cells_before u s.reads.delay (kind s.reads.reader).cells (slice_index fired m)) of.unroll
      ∙ ap (λ d. cells_before c.program.unroll d (kind s.reads.reader).cells (slice_index fired m)) of.delay
      ∙ ap (λ n. cells_before c.program.unroll (slice_index c.delays v) n (slice_index fired m)) of.cells
      ∙ all ∙ sym of.cells

  may_by : ((v : ℕ) → module_at (net_in c) m ≡ Source v
      → cells_before c.program.unroll (slice_index c.delays v) (array_cells c) (slice_index fired m) ≡ array_cells c)
      → (a : Station U) → Stands a → MayEnd tells given old a
  may_by all (station.Source s) at = (
    subst (λ k. SourceAt tells given old k s) (sym at.3.done) at.3,
    at.3.count ∙ all_read at.0 s at.2 (all at.0 at.1),
  )
  may_by all station.Forward at = tt
  may_by all (station.Compute u) at = tt
  may_by all (station.Sink s) at = tt

  -- the next one may be read to its end
  pub may_end : ((v : ℕ) → module_at (net_in c) m ≡ Source v
      → cells_before c.program.unroll (slice_index c.delays v) (array_cells c) (slice_index fired m) ≡ array_cells c)
      → m < length stations → (a : Station U) → station_at stations m ≡ a → MayEnd tells given old a
  may_end all lt a is = may_by all a (own_stands lt a is)

  module _ (lt : m < length stations) (new : Store) (a is : Station U) (fails : Type 0) (was : station_at stations m ≡ a) (on : GoesOn a is)
      (touch : tells → Touches given old new a is fails) where
    abbrev pub ended_one : List (Station U)
    ended_one = slice_set stations m is

    pub touched : tells → Touches given old new (station_at stations m) is fails
    touched told = subst (λ b. Touches given old new b is fails) (sym was) (touch told)

    abbrev pub one_moves : Moves tells given old new stations ended_one m
    one_moves =
        moves tells given old stations ready.apart (known_there tells units c given old stations fired f m ready) m is new fails lt
        (subst (λ b. GoesOn b is) (sym was) on) touched

    pub end_onward : (p q : ℕ) (once now : Bool) → p ≤ q → (now ≡ false → (once ≡ false) × (q ≡ p)) → once ≡ false → (fails → now ≡ true)
        → Onward tells c c given given old new stations ended_one p q once now
    unfolding moves
    end_onward p q once now later kept begins stops =
        onward_of tells given old new stations ended_one m one_moves fails touched ready.apart
        (known_there tells units c given old stations fired f m ready m) c p q once now later kept begins stops

    own_out : (b : Station U) → station_at stations m ≡ b → GoesOn b is → Stands b → ReadOut tells given old new b is
        → EndingAt tells units c given new ended_one (nat_lt m f) true m (slice_index fired m) (module_at (net_in c) m) is
    unfolding moves
    own_out (station.Source s) at_m goes at out =
        let own : IsReadOut tells given new goes.0 = subst (λ t. OfSource t (IsReadOut tells given new)) goes.1 out in
        subst (EndingAt tells units c given new ended_one (nat_lt m f) true m (slice_index fired m) (module_at (net_in c) m)) (sym goes.1)
        (at.0, at.1, source_made c m at.0 s goes.0 goes.2 goes.3 goes.4 at.2, own)
    own_out station.Forward at_m goes at out =
        subst (EndingAt tells units c given new ended_one (nat_lt m f) true m (slice_index fired m) (module_at (net_in c) m)) (sym out) at
    own_out (station.Compute u) at_m goes at out =
        subst (EndingAt tells units c given new ended_one (nat_lt m f) true m (slice_index fired m) (module_at (net_in c) m)) (sym out) at
    own_out (station.Sink s) at_m goes at out =
        let spare : tells → Spares old new (write_id s) = λ told.
        subst (λ st. Spares old st (write_id s)) (sym out.1) (record { name = refl; opened = refl; place = refl; bytes = refl }) in
        subst (EndingAt tells units c given new ended_one (nat_lt m f) true m (slice_index fired m) (module_at (net_in c) m)) (sym out.0)
        (at.0, at.1, at.2, sink_ending tells given old new stations ended_one m one_moves units c (nat_lt m f) at.0 (slice_index fired m) s spare at.3)

    -- what stands then
    pub end_next : ReadOut tells given old new a is → AreEnding tells units c given new ended_one fired f (m + 1)
    unfolding moves
    end_next out =
        ending_after tells given old new stations ended_one m one_moves units c fired f m f (m + 1) ready
        (λ n ne. (refl, next_flag n m ne)) (length-set stations m is)
        (subst (λ b. EndingAt tells units c given new ended_one (nat_lt m f) b m (slice_index fired m) (module_at (net_in c) m) is)
        (sym (lt-ltb m (m + 1) (omega arith))) (own_out a was on (own_stands lt a was) out))

    end_cause : (p q : ℕ) (stop : Stop) (b : Station U) → station_at stations m ≡ b → GoesOn b is
        → ((i : ℕ) → id_of b ≡ Some i → tells → Ends old new i (IsFailedCall stop)) → StopsEnd tells old p q b stop
        → IsUnendedBy tells old new ended_one p q m stop
    unfolding moves
    end_cause p q (stops.Input input fault) (station.Source s) at goes ends h = (
      goes.0,
      there tells given old new stations ended_one m one_moves ∙ goes.1,
      h.0 ∙ sym goes.3,
      λ told. subst (λ (x : of.Source). EndIs x.kind (content new x.kind.id) (Err fault)) (sym goes.2)
          (subst (λ bytes. EndIs (kind s.reads.reader) bytes (Err fault)) (sym (one_moves.read told s at)) (h.1 told)),
      h.2,
      ends (read_id goes.0) (ap (λ (x : of.Source). Some x.kind.id) (sym goes.2)),
    )
    end_cause p q (stops.Output number error) (station.Source s) at goes ends h = absurd h
    end_cause p q stop station.Forward at goes ends h = absurd h
    end_cause p q stop (station.Compute u) at goes ends h = absurd h
    end_cause p q stop (station.Sink s) at goes ends h = absurd h

    -- what holds where the reading was stopped
    pub end_stopped : (p q : ℕ) (once : Bool) → once ≡ false → (stop : Stop) → IsFailedCall stop ≡ fails → StopsEnd tells old p q a stop
        → IsUnended tells units c given once old new ended_one fired f p q m stop
    unfolding moves
    end_stopped p q once begins stop same_fails h = record {
      begun = begins;
      cause = end_cause p q stop a was on
          (λ i e told. subst (Ends old new i) (sym same_fails) (ends_of tells given old new stations ended_one m one_moves fails (touched told) i (ap id_of was ∙ e))) h;
      others = λ n lt_n ne.
          let within : n < length stations = omega (arith, lt_n, length-set stations m is) in
          subst (EndingAt tells units c given new ended_one (nat_lt n f) (nat_lt n m) n (slice_index fired n) (module_at (net_in c) n))
          (sym (other tells given old new stations ended_one m one_moves n ne))
          (ending_kept tells given old new stations ended_one m one_moves units c (nat_lt n f) (nat_lt n m) n (slice_index fired n) (module_at (net_in c) n)
          (station_at stations n) refl ne (ready.each n within));
    }
