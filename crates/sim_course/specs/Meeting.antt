-- Which fault of an input a simulation meets first. The fault stands at the cell behind the good ones; the source of the
-- input meets it in the firing that the cell is read in, in the cycle that the counts give that firing.
use Rattle.std.specs.Prelude.{◌≡◌, ◌⊎◌, ◌+◌, ◌/◌, ◌<◌, ℕ, Bool, true, List, Some, slice_get, slice_index}
use Rattle.net_ir.specs.declared.network.Module.TheVariants.{Source}
use Rattle.net_ir.specs.States.{turn_at}
use Rattle.net_ir.specs.CycleRun.{fires}
use Rattle.net_build.specs.Planned.{firings_for, net_under, plan_of}
use Rattle.soda_ir.specs.Program.{PlainProgram}
use Rattle.sim_course.specs.Course.{state_met}

-- one visit stands before another: it is in an earlier cycle, or in the same one, of an earlier module
abbrev pub IsBefore : (cycle number later module_then : ℕ) → Type 0
IsBefore cycle m later other = (cycle < later) ⊎ ((cycle ≡ later) × (m < other))

-- a program under delays, with arrays of n cells, stalled modules in each cycle, and how many good cells each input has
module _ (p : PlainProgram) (delays : List ℕ) (n : ℕ) (flags : ℕ → List Bool) (goods : ℕ → ℕ) where
  -- how often a module of age 0 fires
  abbrev firings : ℕ
  firings = firings_for n (plan_of p delays)

  -- In this cycle the module of this number fires. It is the source of this input, and the firing is the one that reads
  -- the cell behind the good ones.
  pub record MeetsFault (cycle m input : ℕ) : Type 0 where
    pub source : slice_get (net_under p delays).modules m ≡ Some (Source input)
    pub fires : fires (net_under p delays) firings (flags cycle)
        (state_met (net_under p delays) firings flags cycle m) m ≡ true
    pub short : goods input < n
    pub firing : (turn_at (state_met (net_under p delays) firings flags cycle m) m).fired
        ≡ (goods input + slice_index delays input) / p.unroll

  -- and no visit before that one meets a fault
  pub record MeetsFirst (cycle m input : ℕ) : Type 0 where
    pub meets : MeetsFault cycle m input
    pub first : (k l i : ℕ) → MeetsFault k l i → ¬ IsBefore k l cycle m
