-- One run of firings after another is a run of firings, and what stops the second stops the whole.
use Rattle.std.proofs.Common.{◌≡◌, Bool, false, ◌∙◌, ℕ, ◌<◌, ◌≤◌, List, refl, sym, subst, arith}
use Rattle.soda_io.specs.Store.{Store}
use Rattle.array_bytes.specs.declared.fault.CellFault.TheVariants as cell
use Rattle.soda_io.specs.declared.error.IoErr.TheVariants as io
use Rattle.cycle_sim.specs.Settings.{Settings}
use Rattle.cycle_sim.specs.Stations.{Units, read_id, write_id}
use Rattle.cycle_sim.specs.Unended.{IsUnended, IsUnendedBy}
use Rattle.cycle_sim.specs.Using.{Uses}
use Rattle.cycle_sim.specs.machine.Asking.{ends_since, no_uses, uses_both}
use Rattle.cycle_sim.specs.Onward.{Onward}
use Rattle.cycle_sim.specs.Stopped.{CauseIs, IsStopped}
use Rattle.cycle_sim.specs.declared.stop.Stop.{Stop}
use Rattle.cycle_sim.specs.declared.stop.Stop.TheVariants.{Input, Output}
use Rattle.cycle_sim.specs.declared.stations.Station.{Station}

-- no firing leads nowhere
pub first_stays : {U : Type 0} (tells : Type 0) (c : Settings) (given : ℕ) (store : Store) (stations : List (Station U))
    (faults : ℕ) (stopped : Bool) → Onward tells c c given given store store stations stations faults faults stopped stopped
first_stays tells c given store stations faults stopped = record {
  settings = refl;
  given = refl;
  faults = omega arith;
  kept = λ e. (e, refl);
  stays = λ e. e;
  ids = λ m. refl;
  writers = λ m. refl;
  readers = λ m. refl;
  names = λ told. record { name = λ k lt. refl; opened = λ k lt. refl };
  bytes = λ told name spared. refl;
  uses = λ told. no_uses store stations stopped;
}

-- one run after another
pub one_follows : {U : Type 0} {tells : Type 0} {c d e : Settings} {g h i : ℕ} {x y z : Store}
    {before mid after : List (Station U)} {p q r : ℕ} {j k l : Bool} → Onward tells c d g h x y before mid p q j k
    → Onward tells d e h i y z mid after q r k l → Onward tells c e g i x z before after p r j l
one_follows {g = g} {h = h} {x = x} {y = y} {z = z} {before = before} {mid = mid} {after = after} {j = j} {k = k} {l = l} one two = record {
  settings = two.settings ∙ one.settings;
  given = two.given ∙ one.given;
  faults = omega (arith, one.faults, two.faults);
  kept = λ e. let last = two.kept e in let first = one.kept last.0 in (first.0, last.1 ∙ first.1);
  stays = λ e. two.stays (one.stays e);
  ids = λ m. two.ids m ∙ one.ids m;
  writers = λ m. two.writers m ∙ one.writers m;
  readers = λ m. two.readers m ∙ one.readers m;
  names = λ told. record {
    name = λ k lt. (two.names told).name k (subst (λ n. k < n) (sym one.given) lt) ∙ (one.names told).name k lt;
    opened = λ k lt. (two.names told).opened k (subst (λ n. k < n) (sym one.given) lt) ∙ (one.names told).opened k lt;
  };
  bytes = λ told name spared.
      two.bytes told name (λ m k lt writes same.
      let known : k < g = subst (λ n. k < n) one.given lt in
      spared m k known (sym (one.writers m) ∙ writes) (same ∙ (one.names told).name k known))
      ∙ one.bytes told name spared;
  uses = λ told. uses_both x y z before mid after j k l one.readers one.writers one.stays two.stays (one.uses told) (two.uses told);
}

-- a cause is told from an earlier time, from which on no call failed
cause_since : {U : Type 0} (tells : Type 0) (x y store : Store) (before mid stations : List (Station U)) (j : Bool) (p q r m k : ℕ) (stop : Stop)
    → p ≤ q → (tells → Uses x y before mid j false) → CauseIs tells y store stations q r m k stop → CauseIs tells x store stations p r m k stop
cause_since tells x y store before mid stations j p q r m k (Input input fault) le uses c = (
  c.0,
  c.1,
  c.2,
  c.3,
  λ failed. omega (arith, c.4 failed),
  λ told. ends_since x y store before mid j (read_id c.0) (fault ≡ cell.Failed) (uses told) (c.5 told),
)
cause_since tells x y store before mid stations j p q r m k (Output number error) le uses c = (
  c.0,
  c.1,
  c.2,
  λ failed. omega (arith, c.3 failed),
  λ told. ends_since x y store before mid j (write_id c.0) (error ≡ io.Failed) (uses told) (c.4 told),
)

pub stopped_since : {U : Type 0} {tells : Type 0} {c d e : Settings} {g h : ℕ} {x y store : Store}
    {before mid stations : List (Station U)} {p q r m k : ℕ} {once now : Bool} {stop : Stop}
    → Onward tells c d g h x y before mid p q once now → IsStopped tells e now y store stations q r m k stop
    → IsStopped tells e once x store stations p r m k stop
stopped_since {tells = tells} {x = x} {y = y} {store = store} {before = before} {mid = mid} {stations = stations} {p = p} {q = q} {r = r} {m = m} {k = k} {once = once} {stop = stop} one s = record {
  begun = (one.kept s.begun).0;
  cause = cause_since tells x y store before mid stations once p q r m k stop one.faults
      (λ told. subst (Uses x y before mid once) s.begun (one.uses told)) s.cause;
  good = s.good;
  prefixes = s.prefixes;
}

-- a stop at an input's end is told from an earlier time
unended_by_since : {U : Type 0} (tells : Type 0) (x y store : Store) (before mid stations : List (Station U)) (j : Bool) (p q r m : ℕ) (stop : Stop)
    → p ≤ q → (tells → Uses x y before mid j false) → IsUnendedBy tells y store stations q r m stop → IsUnendedBy tells x store stations p r m stop
unended_by_since tells x y store before mid stations j p q r m (Input input fault) le uses c = (
  c.0,
  c.1,
  c.2,
  c.3,
  λ failed. omega (arith, c.4 failed),
  λ told. ends_since x y store before mid j (read_id c.0) (fault ≡ cell.Failed) (uses told) (c.5 told),
)
unended_by_since tells x y store before mid stations j p q r m (Output output error) le uses c = c

pub unended_since : {U : Type 0} {tells : Type 0} {units : Units U} {c d e : Settings} {given g h finished : ℕ} {x y store : Store}
    {before mid stations : List (Station U)} {fired : List ℕ} {p q r m : ℕ} {once now : Bool} {stop : Stop}
    → Onward tells c d g h x y before mid p q once now → IsUnended tells units e given now y store stations fired finished q r m stop
    → IsUnended tells units e given once x store stations fired finished p r m stop
unended_since {tells = tells} {x = x} {y = y} {store = store} {before = before} {mid = mid} {stations = stations} {p = p} {q = q} {r = r} {m = m} {once = once} {stop = stop} one s = record {
  begun = (one.kept s.begun).0;
  cause = unended_by_since tells x y store before mid stations once p q r m stop one.faults
      (λ told. subst (Uses x y before mid once) s.begun (one.uses told)) s.cause;
  others = s.others;
}
