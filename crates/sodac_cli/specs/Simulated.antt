-- What a job that simulates is about: its network under the least plan, the stalls of its modules, the good cells of its
-- inputs, how it goes until its status is due, and its printed lines.
use Rattle.std.specs.Prelude.{◌≡◌, ℕ, zero, suc, Bool, if◌then◌else◌, List, [], ◌++◌, All, map, length, Some, slice_get, unwrap_or, ℤ}
use Rattle.soda_words.specs.IntType.{IntType}
use Rattle.soda_ir.specs.Program.{PlainProgram, input_types}
use Rattle.soda_eval.specs.Runs.{cells_at}
use Rattle.time_stages.specs.Staged.{staged_reads, staged_tensors, staged_widths}
use Rattle.flow_solve.specs.LeastPlan.{IsLeastPlan}
use Rattle.net_ir.specs.Nets.{Net}
use Rattle.net_build.specs.Planned.{firings_for, net_under, plan_of}
use Rattle.plan_job.specs.Plan.{storage_under}
use Rattle.array_bytes.specs.declared.fault.CellFault.{CellFault}
use Rattle.sim_lines.specs.Flags.{flags_in}
use Rattle.sim_lines.specs.Printed.{cycle_line, end_lines}
use Rattle.sim_lines.specs.declared.stall.Stall.{Stall}
use Rattle.sim_course.specs.Course.{EndsAfter, Goes, fired_in, held_in}
use Rattle.sim_course.specs.Inputs.{GoOn, good_count, goods_of}
use Rattle.sim_course.specs.Meeting.{MeetsFirst}
use Rattle.job_files.specs.Contents.{Holding, IsThere}
use Rattle.command_words.specs.Orders.{Asked}
use Rattle.job_status.specs.declared.status.ArrayFault.TheVariants as of
use Rattle.job_status.specs.declared.status.Status.{Status}
use Rattle.job_status.specs.declared.status.Status.TheVariants as is
use Rattle.sodac_cli.specs.Work.{HasFault, HasInputs, HasParams, HasStalls, HoldsFault, form_of, input_names, rows_of}

-- what a name holds, and nothing where there is no such name
abbrev pub held : Holding → List ℕ → List ℕ
held h name = unwrap_or (h name) []

-- the good cells of the inputs, in order: those before the first fault of each
abbrev pub input_goods : Holding → Asked → PlainProgram → List (List ℤ)
input_goods h a p = goods_of (form_of a) (cells_at p (rows_of a)) (input_types p.tensors) (map (held h) (input_names a p))

-- arrays that the inputs may hold, as far as their good cells tell
abbrev pub MayHold : Holding → Asked → PlainProgram → List (List ℤ) → Type 0
MayHold h a p arrays = GoOn (cells_at p (rows_of a)) (input_types p.tensors) (input_goods h a p) arrays

-- all cells of the inputs are good, and these: a fault stands at an end, if there is one
pub record AreAllGood (h : Holding) (a : Asked) (p : PlainProgram) (arrays : List (List ℤ)) : Type 0 where
  pub are : input_goods h a p ≡ arrays
  pub whole : All (λ cells. length cells ≡ cells_at p (rows_of a)) arrays

-- the input of this number has this first fault
pub record InputHasFault (h : Holding) (a : Asked) (p : PlainProgram) (number : ℕ) (fault : CellFault) : Type 0 where
  pub name : List ℕ
  pub ty : IntType
  pub named : slice_get (input_names a p) number ≡ Some name
  pub typed : slice_get (input_types p.tensors) number ≡ Some ty
  pub faulty : HoldsFault h (form_of a) (cells_at p (rows_of a)) ty name fault

-- a simulation under these delays of its staged tensors, with these stalls
module _ (a : Asked) (p : PlainProgram) (delays : List ℕ) (stalls : List Stall) where
  -- its network
  abbrev pub sim_net : Net
  sim_net = net_under p delays

  -- how often a module of age 0 fires
  abbrev pub sim_firings : ℕ
  sim_firings = firings_for (cells_at p (rows_of a)) (plan_of p delays)

  -- the modules that are stalled in each cycle
  abbrev pub sim_flags : (cycle : ℕ) → List Bool
  sim_flags cycle = flags_in (staged_tensors p) stalls sim_net.modules cycle

  -- a firing is left as each of so many cycles begins
  abbrev pub Cycles : (count : ℕ) → Type 0
  Cycles count = Goes sim_net sim_firings sim_flags count

  -- it has so many cycles
  abbrev pub HasCycles : (count : ℕ) → Type 0
  HasCycles count = EndsAfter sim_net sim_firings sim_flags count

  -- the lines of the first so many cycles: how many modules fired in each, and how many were held
  abbrev pub trace_lines : (count : ℕ) → List ℕ
  trace_lines zero = []
  trace_lines (suc cycle) = trace_lines cycle ++ cycle_line cycle (fired_in sim_net sim_firings sim_flags cycle)
      (held_in sim_net sim_firings sim_flags cycle)

  -- those that are printed: all where `--trace` is given, else none
  abbrev pub traced : (count : ℕ) → List ℕ
  traced count = if a.trace then trace_lines count else []

  -- all printed lines of a simulation that has so many cycles
  abbrev pub whole_lines : (count : ℕ) → List ℕ
  whole_lines count = traced count ++ end_lines count (storage_under p delays)

  -- The status that it comes to: Ok where all inputs are good; else the fault that is met first; and where all cells are
  -- good but there are faults at ends, that of the first input in order that has one.
  pub data ComesTo (h : Holding) : Status → Type 0 where
    done : (arrays : List (List ℤ)) → HasInputs h a p arrays → ComesTo h is.Ok
    met : All (IsThere h) (input_names a p) → (cycle m number : ℕ) (fault : CellFault)
        → MeetsFirst p delays (cells_at p (rows_of a)) sim_flags (good_count (input_goods h a p)) cycle m number
        → InputHasFault h a p number fault → ComesTo h (is.Array (of.Cell number fault))
    at_end : All (IsThere h) (input_names a p) → (arrays : List (List ℤ)) → AreAllGood h a p arrays
        → (number : ℕ) (fault : CellFault) → HasFault h a p number fault → ComesTo h (is.Array (of.Cell number fault))

  -- how many whole cycles are done until then: all that it has, or those before the one in which a fault is met
  abbrev pub CyclesUntil : (h : Holding) (status : Status) → ComesTo h status → (count : ℕ) → Type 0
  CyclesUntil h status (done arrays has) count = HasCycles count
  CyclesUntil h status (met there cycle m number fault first has) count = count ≡ cycle
  CyclesUntil h status (at_end there arrays good number fault has) count = HasCycles count

-- what a simulation stands on: the least plan of its program, the values of its params and its stalls
pub record IsReadyToRun (h : Holding) (a : Asked) (p : PlainProgram) (delays : List ℕ) (values : List ℤ)
    (stalls : List Stall) : Type 0 where
  pub plan : IsLeastPlan (staged_widths p) (staged_reads p) delays
  pub params : HasParams h a p values
  pub listed : HasStalls h a p stalls
