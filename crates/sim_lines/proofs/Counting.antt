-- In how many cycles some module is stalled.
use Rattle.std.proofs.Common.{◌≡◌, ℕ, zero, suc, ◌+◌, ◌≤◌, Bool, true, false, ◌&&◌, ◌||◌, ◌==◌, cond, List, [], ◌∷◌, length, Option, Some, None, refl, ap, arith, ⊎_elim, if◌then◌else◌}
use Rattle.std.specs.List.{list_any}
use Rattle.std.proofs.lemmas.Bool.{and_parts, cases_Bool, eqb-true, false≢true, ne_eqb, or_cases, or_left, or_right}
use Rattle.std.proofs.lemmas.List.Sums.{sum_by-append}
use Rattle.net_ir.specs.declared.network.Module.{Module}
use Rattle.net_ir.specs.CycleRun.{count_below, stalled_cycles}
use Rattle.time_stages.specs.declared.staging.StagedTensor.{StagedTensor}
use Rattle.sim_lines.specs.declared.stall.Stall.{Stall}
use Rattle.sim_lines.specs.Flags.{end_of, flags_in, flags_until, has_stall, is_listed, is_stalled}

tensor_listed : (stalls : List Stall) (cycle tensor : ℕ) → is_listed stalls cycle tensor ≡ true → has_stall stalls cycle ≡ true
tensor_listed [] cycle tensor h = h
tensor_listed (s ∷ ss) cycle tensor h =
    ⊎_elim (λ a. or_left (s.cycle == cycle) (has_stall ss cycle) (and_parts (s.cycle == cycle) (s.tensor == tensor) a).0) (λ b. or_right (s.cycle == cycle) (has_stall ss cycle) (tensor_listed ss cycle tensor b)) (or_cases (s.cycle == cycle && s.tensor == tensor) (is_listed ss cycle tensor) h)

end_listed : (stalls : List Stall) (cycle : ℕ) (end : Option ℕ) → elim end [ None ↦ false | Some tensor ↦ is_listed stalls cycle tensor ] ≡ true → has_stall stalls cycle ≡ true
end_listed stalls cycle None h = absurd (false≢true h)
end_listed stalls cycle (Some tensor) h = tensor_listed stalls cycle tensor h

-- where a flag is set some stall is listed
flag_listed : (staged : List StagedTensor) (stalls : List Stall) (modules : List Module) (cycle : ℕ) → list_any (λ flag. flag) (flags_in staged stalls modules cycle) ≡ true → has_stall stalls cycle ≡ true
flag_listed staged stalls [] cycle h = absurd (false≢true h)
flag_listed staged stalls (x ∷ xs) cycle h =
    ⊎_elim (λ a. end_listed stalls cycle (end_of staged x) a) (λ b. flag_listed staged stalls xs cycle b) (or_cases (is_stalled staged stalls cycle x) (list_any (λ flag. flag) (flags_in staged stalls xs cycle)) h)

-- 1 where it is so
abbrev one_if : Bool → ℕ
one_if b = if b then 1 else 0

counted_once : (b c : Bool) → (b ≡ true → c ≡ true) → cond b 1 0 ≤ (if c then 1 else 0)
counted_once true true h = omega arith
counted_once true false h = absurd (false≢true (h refl))
counted_once false c h = omega arith

pub cycles_listed : (staged : List StagedTensor) (stalls : List Stall) (modules : List Module) (n : ℕ) → stalled_cycles (flags_until staged stalls modules n) ≤ count_below (has_stall stalls) n
cycles_listed staged stalls modules zero = omega arith
cycles_listed staged stalls modules (suc n) =
    let now = flags_in staged stalls modules n in
    let one : cond (list_any (λ flag. flag) now) 1 0 ≤ (if has_stall stalls n then 1 else 0) =
    counted_once (list_any (λ flag. flag) now) (has_stall stalls n) (flag_listed staged stalls modules n) in
    omega (arith, one, cycles_listed staged stalls modules n, sum_by-append (λ flags. cond (list_any (λ flag. flag) flags) 1 0) (flags_until staged stalls modules n) (now ∷ []))

none_below : (n : ℕ) → count_below (has_stall []) n ≡ 0
none_below zero = refl
none_below (suc n) = omega (arith, none_below n)

one_more : (s : Stall) (ss : List Stall) (n : ℕ) → count_below (has_stall (s ∷ ss)) n ≤ count_below (λ cycle. s.cycle == cycle) n + count_below (has_stall ss) n
one_more s ss zero = omega arith
one_more s ss (suc n) =
    let now = elim (s.cycle == n) as (λ b. (if b || has_stall ss n then 1 else 0) ≤ (if b then 1 else 0) + (if has_stall ss n then 1 else 0)) [
      | true ↦ omega arith
      | false ↦ omega arith
    ] in
    omega (arith, one_more s ss n, now)

not_yet : (k n : ℕ) → n ≤ k → count_below (λ cycle. k == cycle) n ≡ 0
not_yet k zero h = refl
not_yet k (suc n) h =
    let off : (if k == n then 1 else 0) ≡ 0 = ap one_if (ne_eqb k n (λ e. absurd (omega arith))) in
    omega (arith, off, not_yet k n (omega arith))

at_most_once : (k n : ℕ) → count_below (λ cycle. k == cycle) n ≤ 1
at_most_once k zero = omega arith
at_most_once k (suc n) =
    ⊎_elim (λ (e : (k == n) ≡ true). let here : k ≡ n = eqb-true k n e in let on : (if k == n then 1 else 0) ≡ 1 = ap one_if e in omega (arith, on, not_yet k n (omega arith))) (λ (e : (k == n) ≡ false). let off : (if k == n then 1 else 0) ≡ 0 = ap one_if e in omega (arith, off, at_most_once k n)) (cases_Bool (k == n))

-- some stall is listed for no more cycles than there are stalls
pub listed_few : (stalls : List Stall) (n : ℕ) → count_below (has_stall stalls) n ≤ length stalls
listed_few [] n = omega (arith, none_below n)
listed_few (s ∷ ss) n = omega (arith, one_more s ss n, at_most_once s.cycle n, listed_few ss n)
