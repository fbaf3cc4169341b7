-- A run of cycles with one cycle more.
use Rattle.std.proofs.Common.{◌≡◌, ℕ, Bool, List, [], ◌∷◌, ◌++◌, length, length-append, take, refl, sym, ap, ◌∙◌, subst, ⊎_elim, arith}
use Rattle.std.proofs.lemmas.Bool.{cases_lt}
use Rattle.std.proofs.lemmas.List.{take-append-le}
use Rattle.std.proofs.Math.Seq.{take-length}
use Rattle.net_ir.specs.declared.events.Turn.{Turn}
use Rattle.net_ir.specs.Nets.{Net}
use Rattle.net_ir.specs.States.{zeros, IsFinished}
use Rattle.net_ir.specs.CycleRun.{cycle, cycles, EndsWith}
use Rattle.net_cycles.specs.Between.{between}
use Rattle.net_cycles.specs.Cycles.{HasRun}

module _ (net : Net) (firings : ℕ) where
  cycles_one : (stalls : List (List Bool)) (stalled : List Bool) (state : List Turn)
      → cycles net firings (stalls ++ stalled ∷ []) state ≡ cycle net firings stalled (cycles net firings stalls state)
  cycles_one [] stalled state = refl
  cycles_one (x ∷ xs) stalled state = cycles_one xs stalled (cycle net firings x state)

  -- the run of no cycles
  pub run_none : (fired : List ℕ) → between fired ≡ zeros net → HasRun net firings [] fired
  run_none fired zeros_are = record { state = zeros_are; going = λ k h. absurd (omega arith) }

  pub run_more : (stalls : List (List Bool)) (stalled : List Bool) (old new : List ℕ) → HasRun net firings stalls old
      → ¬ IsFinished net firings (between old) → between new ≡ cycle net firings stalled (between old)
      → HasRun net firings (stalls ++ stalled ∷ []) new
  run_more stalls stalled old new run left step = record {
    state = step ∙ ap (cycle net firings stalled) run.state ∙ sym (cycles_one stalls stalled (zeros net));
    going = λ k h. ⊎_elim
        (λ less. subst (λ xs. ¬ IsFinished net firings (cycles net firings xs (zeros net)))
        (sym (take-append-le k stalls (stalled ∷ []) (omega arith))) (run.going k less))
        (λ more. let at : k ≡ length stalls = omega (arith, length-append stalls (stalled ∷ [])) in
        subst (λ xs. ¬ IsFinished net firings (cycles net firings xs (zeros net)))
        (sym (ap (λ n. take n (stalls ++ stalled ∷ [])) at
        ∙ take-append-le (length stalls) stalls (stalled ∷ []) (omega arith) ∙ take-length stalls))
        (subst (λ s. ¬ IsFinished net firings s) run.state left))
        (cases_lt k (length stalls));
  }

  -- a run that has come to where no firing is left ends there
  pub run_ends : (stalls : List (List Bool)) (fired : List ℕ) → HasRun net firings stalls fired
      → IsFinished net firings (between fired) → EndsWith net firings stalls
  run_ends stalls fired run done = (subst (IsFinished net firings) run.state done, run.going)
