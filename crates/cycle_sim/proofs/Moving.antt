-- A firing of one module leaves the others as they were, and no inputs go on from what was read that didn't before.
use Rattle.std.proofs.Common.{◌≡◌, ◌≢◌, ℕ, ◌*◌, ◌<◌, ◌≤◌, List, [], length, take, slice_index, slice_index_or, slice_set, Some, Option, refl, sym, ap, subst, ◌∙◌, arith, ℤ, ⊎_elim, get_or-set_same, get_or-set_other, unwrap_or}
use Rattle.std.proofs.Math.Nat.{mul-le-mul}
use Rattle.std.proofs.lemmas.Bool.Decides.{eqb_tells}
use Rattle.std.proofs.lemmas.Bool.{cases_lt}
use Rattle.std.proofs.lemmas.Option.{none-some, same_Some}
use Rattle.std.proofs.lemmas.List.{get_or_past, take-take}
use Rattle.net_ir.specs.declared.network.Module.{Module}
use Rattle.staged_cells.specs.Streams.{module_at}
use Rattle.soda_io.specs.Store.{Store, content}
use Rattle.bursts.specs.Blocks.{cells_in}
use Rattle.bursts.specs.Readers.{kind}
use Rattle.file_modules.specs.Firings.{cells_before}
use Rattle.file_modules.specs.Modules.{Source, source}
use Rattle.cycle_sim.specs.Settings.{Settings, net_in}
use Rattle.cycle_sim.specs.Stations.{AreApart, AreBegun, AreReady, StationAt, Units, good_in, id_of, read_id, station_at, was_read, write_id, written_by}
use Rattle.cycle_sim.specs.machine.Firings.{GoesOn, Moves, Spares, Touches}
use Rattle.cycle_sim.specs.declared.stations.SourceStation.{SourceStation}
use Rattle.cycle_sim.specs.declared.stations.Station.{Station}
use Rattle.cycle_sim.specs.declared.stations.Station.TheVariants as station

-- an id of another module is spared
pub spared : {U : Type 0} (given : ℕ) (old new : Store) (a b : Station U) (fails : Type 0) → Touches given old new a b fails → (i : ℕ) → i < given → id_of a ≢ Some i
    → ((j : ℕ) → written_by a ≡ Some j → old.name i ≢ old.name j) → Spares old new i
spared given old new a b fails touch i lt ne apart = record {
  name = touch.ids.name i lt;
  opened = touch.ids.opened i lt;
  place = touch.places i lt ne;
  bytes = touch.bytes (old.name i) apart;
}

-- the content of a spared id stays
pub same_content : (old new : Store) (i : ℕ) → Spares old new i → content new i ≡ content old i
same_content old new i s =
    ap (λ name. unwrap_or (new.bytes name) []) s.name ∙ ap (λ (b : Option (List ℕ)). unwrap_or b []) s.bytes

-- more firings are about no fewer cells
pub more_before : (u d n k l : ℕ) → k ≤ l → cells_before u d n k ≤ cells_before u d n l
more_before u d n k l le =
    let same : u ≤ u = omega arith in
    let product : u * k ≤ u * l = mul-le-mul same le in
    omega arith

-- lists that begin with the same cells begin with the same fewer ones
pub fewer : (i j : ℕ) (xs ys : List ℤ) → i ≤ j → take j xs ≡ take j ys → take i xs ≡ take i ys
fewer i j xs ys le same = sym (take-take i j xs le) ∙ ap (take i) same ∙ take-take i j ys le

-- what a source has read at a later time
read_less : (s r : SourceStation) → source r.reads ≡ source s.reads → s.done ≤ r.done → was_read s ≤ was_read r
read_less s r same le =
    let P : Source → Type 0 = λ x. cells_before s.reads.unroll s.reads.delay (kind s.reads.reader).cells s.done
    ≤ cells_before x.unroll x.delay x.kind.cells r.done in
    subst P (sym same) (more_before s.reads.unroll s.reads.delay (kind s.reads.reader).cells s.done r.done le)

-- the good cells of its file, where its content stays
pub same_good : (old new : Store) (s r : SourceStation) → source r.reads ≡ source s.reads → content new (read_id s) ≡ content old (read_id s)
    → good_in new r ≡ good_in old s
same_good old new s r same kept =
    ap (λ (x : Source). cells_in x.kind (content new x.kind.id)) same ∙ ap (cells_in (kind s.reads.reader)) kept

module _ {U : Type 0} (tells : Type 0) (given : ℕ) (old new : Store) (before after : List (Station U)) (m : ℕ)
    (moves : Moves tells given old new before after m) where
  abbrev pub there : station_at after m ≡ moves.is
  there = ap (λ a. station_at a m) moves.set ∙ get_or-set_same before m moves.is station.Forward moves.known

  abbrev pub other : (n : ℕ) → n ≢ m → station_at after n ≡ station_at before n
  other n ne = ap (λ a. station_at a n) moves.set ∙ get_or-set_other before m n moves.is station.Forward ne

  -- no inputs go on from what was read that didn't before
  pub begun_before : tells → (inputs : List (List ℤ)) → AreBegun new after inputs → AreBegun old before inputs
  begun_before told inputs begun n s is =
      ⊎_elim
      (λ found.
      let e : n ≡ m = found.1 in
      let was : station_at before m ≡ station.Source s = ap (station_at before) (sym e) ∙ is in
      let on = subst (λ a. GoesOn a moves.is) was moves.on in
      let r = on.0 in
      let now : station_at after n ≡ station.Source r = ap (station_at after) e ∙ there ∙ on.1 in
      let less : was_read s ≤ was_read r = read_less s r on.2 on.5 in
      let good : good_in new r ≡ good_in old s = same_good old new s r on.2 (moves.read told s was) in
      let same : take (was_read r) (good_in new r) ≡ take (was_read r) (slice_index_or inputs r.input []) = begun n r now in
      fewer (was_read s) (was_read r) (good_in old s) (slice_index_or inputs s.input []) less
      (ap (take (was_read r)) (sym good) ∙ same ∙ ap (λ i. take (was_read r) (slice_index_or inputs i [])) on.3))
      (λ found.
      let ne : n ≢ m = found.1 in
      let now : station_at after n ≡ station.Source s = other n ne ∙ is in
      let spared : Spares old new (read_id s) = moves.others told n (read_id s) ne (ap id_of is) in
      ap (take (was_read s)) (sym (ap (cells_in (kind s.reads.reader)) (same_content old new (read_id s) spared))) ∙ begun n s now)
      (eqb_tells n m)

module _ {U : Type 0} (tells : Type 0) (given : ℕ) (store : Store) (stations : List (Station U)) (apart : AreApart tells store stations)
    (known_id : (n i : ℕ) → id_of (station_at stations n) ≡ Some i → i < given) where
  -- a step of one module among the others
  unfoldable pub moves : (m : ℕ) (is : Station U) (new : Store) (fails : Type 0) → m < length stations → GoesOn (station_at stations m) is
      → (tells → Touches given store new (station_at stations m) is fails) → Moves tells given store new stations (slice_set stations m is) m
  moves m is new fails lt on touch = record {
    known = lt;
    is = is;
    set = refl;
    on = on;
    others = λ told n i ne e.
        spared given store new (station_at stations m) is fails (touch told) i (known_id n i e)
        (λ own. apart.ids m n i i (λ same. ne (sym same)) own e refl)
        (λ j w. apart.names told m n j i (λ same. ne (sym same)) w e);
    own = λ told i e. ((touch told).ids.name i (known_id m i e), (touch told).ids.opened i (known_id m i e));
    read = λ told s was.
        let id = known_id m (read_id s) (ap id_of was) in
        ap (λ name. unwrap_or (new.bytes name) []) ((touch told).ids.name (read_id s) id)
        ∙ ap (λ (b : Option (List ℕ)). unwrap_or b []) ((touch told).bytes (store.name (read_id s))
        (λ j w. absurd (none-some j (sym (ap written_by was) ∙ w))));
  }

module _ {U : Type 0} (tells : Type 0) (units : Units U) (c : Settings) (given : ℕ) (store : Store) (stations : List (Station U)) (fired : List ℕ)
    (ready : AreReady tells units c given store stations fired) where
  known : (m : ℕ) (i : ℕ) (kind : Module) (k : ℕ) (a : Station U) → StationAt tells units c given store stations m k kind a → id_of a ≡ Some i → i < given
  known m i kind k (station.Source s) at e = subst (λ n. n < given) (same_Some (read_id s) i e) at.3.known
  known m i kind k station.Forward at e = absurd (none-some i e)
  known m i kind k (station.Compute u) at e = absurd (none-some i e)
  known m i kind k (station.Sink s) at e = subst (λ n. n < given) (same_Some (write_id s) i e) at.3.known

  -- each id was given
  pub known_id : (n i : ℕ) → id_of (station_at stations n) ≡ Some i → i < given
  known_id n i e =
      ⊎_elim
      (λ (lt : n < length stations). known n i (module_at (net_in c) n) (slice_index fired n) (station_at stations n) (ready.each n lt) e)
      (λ (le : length stations ≤ n). absurd (none-some i (sym (ap id_of (get_or_past stations n station.Forward le)) ∙ e)))
      (cases_lt n (length stations))
