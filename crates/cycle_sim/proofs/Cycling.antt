-- Cycles of a run, in which modules are stalled as a stall list says.
use Rattle.std.proofs.Common.{◌≡◌, ◌↔◌, ℕ, ◌+◌, ◌*◌, ◌<◌, ◌≤◌, ◌^◌, List, Bool, length, sym, subst, arith, ⊎_elim}
use Rattle.std.proofs.lemmas.Bool.{cases_lt}
use Rattle.net_build.specs.Limits.{greatest_delay, most_delay}
use Rattle.net_build.specs.Planned.{firings_for}
use Rattle.net_ir.specs.CycleRun.{EndsInTime, cycles, stalled_cycles}
use Rattle.net_ir.specs.Nets.{Net}
use Rattle.net_ir.specs.States.{IsFinished, zeros}
use Rattle.net_cycles.specs.Between.{between}
use Rattle.net_cycles.specs.Cycles.{HasRun}
use Rattle.net_shape.specs.Plans.{Plan}
use Rattle.sim_lines.specs.declared.stall.Stall.{Stall}
use Rattle.soda_words.specs.Limits.{most_cells}
use Rattle.cycle_sim.specs.Settings.{Settings, array_cells, net_in, plan_in}
use Rattle.cycle_sim.specs.Stalled.{stalled_until}

-- where a firing is left, few cycles were done
pub still_few : (c : Settings) (net : Net) (firings : ℕ) (fired : List ℕ) (stalls : List Stall) (n : ℕ) → 0 < c.program.unroll
    → array_cells c ≤ most_cells → greatest_delay (plan_in c) ≤ most_delay → net ≡ net_in c → firings ≡ firings_for (array_cells c) (plan_in c)
    → ((cells : ℕ) (p : Plan) (k : ℕ) → 0 < p.unroll → (firings_for cells p ≤ k) ↔ (cells + greatest_delay p ≤ p.unroll * k))
    → ((k : ℕ) (many : List (List Bool)) → EndsInTime (net_in c) k many) → stalled_cycles (stalled_until c stalls n) ≤ length stalls
    → length (stalled_until c stalls n) ≡ n → length stalls < 2 ^ 62 → HasRun net firings (stalled_until c stalls n) fired
    → ¬ IsFinished net firings (between fired) → n < 2 ^ 63
still_few c net firings fired stalls n lanes few delays same enough rounded in_time stalled whole small ran left =
    let k : ℕ = firings_for (array_cells c) (plan_in c) in
    let some : k ≤ 2 ^ 40 = (rounded (array_cells c) (plan_in c) (2 ^ 40) lanes).1 (omega (arith, lanes, few, delays)) in
    ⊎_elim
    (λ (lt : n < 2 ^ 63). lt)
    (λ (le : 2 ^ 63 ≤ n).
    let over : IsFinished (net_in c) k (cycles (net_in c) k (stalled_until c stalls n) (zeros (net_in c))) =
    (in_time k (stalled_until c stalls n)).ends (omega (arith, some, stalled, whole, small, le)) in
    let here : IsFinished net firings (cycles net firings (stalled_until c stalls n) (zeros net)) =
    subst (λ m. IsFinished m firings (cycles m firings (stalled_until c stalls n) (zeros m))) (sym same)
    (subst (λ f. IsFinished (net_in c) f (cycles (net_in c) f (stalled_until c stalls n) (zeros (net_in c)))) (sym enough) over) in
    absurd (left (subst (IsFinished net firings) (sym ran.state) here)))
    (cases_lt n (2 ^ 63))
