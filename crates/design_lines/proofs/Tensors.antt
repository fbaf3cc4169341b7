-- The line of a staged tensor, as it is read.
use Rattle.std.proofs.Common.{◌≡◌, ℕ, ◌<◌, ◌≤◌, ◌^◌, List, [], ◌∷◌, ◌++◌, sym, ap, ◌∙◌, codes, arith}
use Rattle.soda_ir.specs.Program.{PlainProgram}
use Rattle.design_lines.specs.PlanLines.{tensor_front, tensor_line}
use Rattle.time_stages.specs.declared.staging.StagedTensor.{StagedTensor}
use Rattle.design_lines.specs.Lines.{GoesOn}
use Rattle.design_lines.specs.machine.Reading.{two_numbered}
use Rattle.design_lines.proofs.Pieces.{one_line}
use Rattle.design_lines.proofs.Plans.{tensor_apart, tensor_is}

-- a line with this front is that of the tensor
pub tensor_yes : (p : PlainProgram) (n : ℕ) (s : StagedTensor) (front text rest : List ℕ) (a b : ℕ) → front ≡ tensor_front p n s
    → text ≡ (two_numbered front (codes " storage ") a b ++ codes "\n") ++ rest → text ≡ (tensor_line p n s a b ++ codes "\n") ++ rest
tensor_yes p n s front text rest a b is e =
    e ∙ ap (λ (f : List ℕ). (two_numbered f (codes " storage ") a b ++ codes "\n") ++ rest) is
    ∙ ap (λ (l : List ℕ). (l ++ codes "\n") ++ rest) (sym (tensor_is p n s a b))

-- where there is no line with this front there is none of the tensor
pub tensor_none : (p : PlainProgram) (n : ℕ) (s : StagedTensor) (front text : List ℕ) → front ≡ tensor_front p n s
    → ((a b : ℕ) → a < 2 ^ 64 → b < 2 ^ 64 → GoesOn (two_numbered front (codes " storage ") a b ∷ []) text → ⊥)
    → (a b : ℕ) → a < 2 ^ 62 → b < 2 ^ 64 → GoesOn (tensor_line p n s a b ∷ []) text → ⊥
tensor_none p n s front text is none a b small fits g =
    none a b (omega arith) fits (
      g.0,
      g.1 ∙ ap (λ (l : List ℕ). ((l ++ codes "\n") ++ []) ++ g.0) (tensor_is p n s a b)
          ∙ ap (λ (f : List ℕ). ((two_numbered f (codes " storage ") a b ++ codes "\n") ++ []) ++ g.0) (sym is),
    )

-- where its delay is too great there is no line of the tensor
pub tensor_far : (p : PlainProgram) (n : ℕ) (s : StagedTensor) (text rest : List ℕ) (a b : ℕ) → text ≡ (tensor_line p n s a b ++ codes "\n") ++ rest
    → a < 2 ^ 64 → 2 ^ 62 ≤ a → (d t : ℕ) → d < 2 ^ 62 → t < 2 ^ 64 → GoesOn (tensor_line p n s d t ∷ []) text → ⊥
tensor_far p n s text rest a b e fits far d t small fine g =
    let l = one_line (tensor_line p n s d t) text g in
    let told = tensor_apart p n s a b d t rest l.0 fits (omega arith) (sym e ∙ l.1) in
    let same : a ≡ d = told.0 in
    absurd (omega arith)
