-- A firing of one module of a run: what it leaves of the whole.
use Rattle.std.proofs.Common.{◌≡◌, ℕ, ◌<◌, ◌≤◌, ◌^◌, Bool, true, false, List, length, slice_index, slice_set, length-set, refl, sym, ap, subst, ◌∙◌, arith, ℤ}
use Rattle.int_types.specs.Ranges.{InRange}
use Rattle.soda_io.specs.Store.{Store}
use Rattle.net_ir.specs.Nets.{Net, entrances, exits}
use Rattle.net_ir.specs.declared.network.Module.TheVariants.{Sink}
use Rattle.net_cycles.specs.Between.{fired_once}
use Rattle.net_cycles.specs.Streams.{port_values, sent_values}
use Rattle.soda_ir.specs.Points.{listed}
use Rattle.staged_cells.specs.Cells.{type_at}
use Rattle.staged_cells.specs.Streams.{cell_number, module_at, stage_cell}
use Rattle.cycle_sim.specs.Settings.{AreInputs, IsSettings, Settings, net_in, plan_in, streams_over}
use Rattle.cycle_sim.specs.Sends.{SendsBy, exit_lanes}
use Rattle.cycle_sim.specs.Stations.{AgreesWith, AreBegun, AreReady, IsSinkOf, StationAt, Units, station_at}
use Rattle.cycle_sim.specs.Onward.{Onward}
use Rattle.cycle_sim.specs.Stopped.{IsStopped}
use Rattle.cycle_sim.specs.Using.{Ends, IsFailedCall}
use Rattle.cycle_sim.specs.machine.Firings.{Fired, GoesOn, MayFire, Moves, Stops, Touches, done_of}
use Rattle.cycle_sim.specs.declared.stop.Stop.{Stop}
use Rattle.cycle_sim.specs.declared.stations.SinkStation.{SinkStation}
use Rattle.cycle_sim.specs.declared.stations.Station.{Station}
use Rattle.cycle_sim.specs.declared.stations.Station.TheVariants as station
use Rattle.cycle_sim.proofs.After.{HandsOn, station_after}
use Rattle.cycle_sim.proofs.Asked.{ends_of}
use Rattle.cycle_sim.proofs.GoingOn.{onward_of}
use Rattle.cycle_sim.proofs.Keeping.{ready_after}
use Rattle.cycle_sim.proofs.Moving.{begun_before, known_id, moves}
use Rattle.cycle_sim.proofs.Passing.{hands, may_fire, sends_by}
use Rattle.cycle_sim.proofs.Stopping.{was_stopped}

-- the laws of runs
abbrev pub Sending : Type 0
Sending = (c : Settings) (inputs : List (List ℤ)) (m k : ℕ) (ports sends : List ℤ) → IsSettings c → AreInputs c inputs
    → ports ≡ port_values (net_in c) (streams_over c inputs) m k → length sends ≡ length (exits (net_in c) m)
    → SendsBy c inputs (module_at (net_in c) m) k (exit_lanes (net_in c) m) ports sends
    → sends ≡ sent_values (net_in c) (streams_over c inputs) m k

abbrev pub Taking : Type 0
Taking = (c : Settings) (inputs : List (List ℤ)) (m v k : ℕ) (ports : List ℤ) → IsSettings c → m < length (net_in c).modules
    → module_at (net_in c) m ≡ Sink v → ports ≡ port_values (net_in c) (streams_over c inputs) m k
    → ports ≡ listed (λ lane. stage_cell c.program c.rows c.params inputs v (cell_number (plan_in c) v lane k)) c.program.unroll

abbrev pub Ranging : Type 0
Ranging = (c : Settings) (inputs : List (List ℤ)) (v : ℕ) (z : ℤ) → IsSettings c → AreInputs c inputs
    → InRange (type_at c.program v) (stage_cell c.program c.rows c.params inputs v z)

module _ {U : Type 0} (tells : Type 0) (units : Units U) (c : Settings) (given : ℕ) (old : Store) (stations : List (Station U)) (fired : List ℕ) (m : ℕ)
    (net : Net) (same : net ≡ net_in c) (ready : AreReady tells units c given old stations fired) (known : m < length net.modules) where
  abbrev pub k : ℕ
  k = slice_index fired m

  pub there_is : m < length stations
  there_is = omega (arith, known, ap (λ (n : Net). length n.modules) same, ready.count)

  -- it may be done
  pub may : (ports sends : ℕ) (a : Station U) → station_at stations m ≡ a → k < 2 ^ 40 → ports ≡ length (entrances net m) → sends ≡ length (exits net m)
      → MayFire tells units given old k ports sends a
  may ports sends a is small p q =
      may_fire tells units c given old stations m k ports sends a ready.settings
      (subst (StationAt tells units c given old stations m k (module_at (net_in c) m)) is (ready.each m there_is)) small
      (p ∙ ap (λ n. length (entrances n m)) same) (q ∙ ap (λ n. length (exits n m)) same)

  module _ (new : Store) (a is : Station U) (fails : Type 0) (was : station_at stations m ≡ a) (on : GoesOn a is)
      (touch : tells → Touches given old new a is fails) where
    abbrev pub after : List (Station U)
    after = slice_set stations m is

    abbrev pub the_moves : Moves tells given old new stations after m
    the_moves =
        moves tells given old stations ready.apart (known_id tells units c given old stations fired ready) m is new fails there_is (subst (λ b. GoesOn b is) (sym was) on)
        (λ told. subst (λ b. Touches given old new b is fails) (sym was) (touch told))

    touched : tells → Touches given old new (station_at stations m) is fails
    touched told = subst (λ b. Touches given old new b is fails) (sym was) (touch told)

    -- the streams that agree agreed before
    pub agrees_before : (stream : ℕ → ℕ → ℤ) → AgreesWith tells c new after stream → AgreesWith tells c old stations stream
    agrees_before stream agrees = record {
      told = agrees.told;
      inputs = agrees.inputs;
      arrays = agrees.arrays;
      begun = begun_before tells given old new stations after m the_moves agrees.told agrees.inputs agrees.begun;
      are = agrees.are;
    }

    -- what changed
    pub goes_onward : (p q : ℕ) (once now : Bool) → p ≤ q → (now ≡ false → (once ≡ false) × (q ≡ p)) → once ≡ false
        → (fails → now ≡ true) → Onward tells c c given given old new stations after p q once now
    unfolding moves
    goes_onward p q once now later kept begins stops =
        onward_of tells given old new stations after m the_moves fails touched ready.apart (known_id tells units c given old stations fired ready m)
        c p q once now later kept begins stops

    module _ (ports sends : List ℤ) (found : (stream : ℕ → ℕ → ℤ) → AgreesWith tells c old stations stream → ports ≡ port_values net stream m k) where
      ports_are : tells → (inputs : List (List ℤ)) → AreInputs c inputs → AreBegun new after inputs
          → ports ≡ port_values (net_in c) (streams_over c inputs) m k
      ports_are told inputs arrays begun =
          let agrees : AgreesWith tells c old stations (streams_over c inputs) = record {
            told = told;
            inputs = inputs;
            arrays = arrays;
            begun = begun_before tells given old new stations after m the_moves told inputs begun;
            are = refl;
          } in
          found (streams_over c inputs) agrees ∙ ap (λ n. port_values n (streams_over c inputs) m k) same

      hands_on : Taking → Ranging → (v : ℕ) (s : SinkStation) → station_at stations m ≡ station.Sink s → module_at (net_in c) m ≡ Sink v
          → IsSinkOf c m v s → HandsOn tells units c given old new stations after m k the_moves ports sends v s
      hands_on taking ranging v s at kind of told inputs arrays begun =
          hands c ready.settings inputs v k ports
          (taking c inputs m v k ports ready.settings (subst (λ (n : Net). m < length n.modules) same known) kind (ports_are told inputs arrays begun))
          (λ z. ranging c inputs v z ready.settings arrays) m s of

      fired_there : Fired tells units given old new k ports sends a is → Fired tells units given old new k ports sends (station_at stations m) is
      fired_there = subst (λ b. Fired tells units given old new k ports sends b is) (sym was)

      -- what it sent
      pub was_sent : Sending → length ports ≡ length (entrances net m) → length sends ≡ length (exits net m)
          → Fired tells units given old new k ports sends a is → (stream : ℕ → ℕ → ℤ) → AgreesWith tells c new after stream
          → sends ≡ sent_values net stream m k
      unfolding moves
      was_sent sending p q fire stream agrees =
          let many : length sends ≡ length (exits (net_in c) m) = q ∙ ap (λ n. length (exits n m)) same in
          let by = sends_by tells units c given old new stations after m k the_moves agrees.told agrees.inputs agrees.arrays agrees.begun ports sends
          (station_at stations m) refl (module_at (net_in c) m) (ready.each m there_is) (fired_there fire)
          (p ∙ ap (λ n. length (entrances n m)) same) many in
          sending c agrees.inputs m k ports sends ready.settings agrees.arrays (ports_are agrees.told agrees.inputs agrees.arrays agrees.begun) many by
          ∙ ap (λ n. sent_values n (streams_over c agrees.inputs) m k) (sym same)
          ∙ ap (λ st. sent_values net st m k) (sym agrees.are)

      -- how the modules stand behind it
      pub ready_next : Taking → Ranging → length fired ≡ length net.modules → Fired tells units given old new k ports sends a is
          → AreReady tells units c given new after (fired_once fired m)
      unfolding moves
      ready_next taking ranging whole fire =
          ready_after tells given old new stations after m the_moves units c fired
          (omega (arith, whole, ap (λ (n : Net). length n.modules) same, ready.count)) ready
          (station_after tells units c given old new stations after m k the_moves ports sends (station_at stations m) refl (ready.each m there_is)
          (hands_on taking ranging) (fired_there fire))

      -- what holds where it was stopped
      pub stopped_there : Taking → Ranging → (p q : ℕ) (once : Bool) → once ≡ false → (stop : Stop) → IsFailedCall stop ≡ fails
          → done_of is ≡ done_of a → Stops tells old new p q k ports a stop → IsStopped tells c once old new after p q m k stop
      unfolding moves
      stopped_there taking ranging p q once begins stop same_fails still stops =
          was_stopped tells given old new stations after m k p q the_moves ports units c fired refl ready (length-set stations m is)
          (hands_on taking ranging) once begins stop
          (λ i e told. subst (Ends old new i) (sym same_fails) (ends_of tells given old new stations after m the_moves fails (touched told) i e))
          (still ∙ ap done_of (sym was)) (subst (λ b. Stops tells old new p q k ports b stop) (sym was) stops)
