-- Steps and marks that a search changes.
use Rattle.std.proofs.Common.{◌≡◌, ℕ, ◌<◌, List, [], ◌∷◌, ◌++◌, get_or, set, length-set, Some, IfSome, subst, sym, ◌∙◌, arith}
use Rattle.std.specs.List.{All}
use Rattle.std.proofs.lemmas.List.Elements.{All-set, All-push}
use Rattle.flow_solve.specs.Limits.{most_nodes}
use Rattle.flow_solve.specs.declared.steps.Step.{Step}
use Rattle.flow_solve.specs.declared.search.Mark.{Mark}
use Rattle.flow_solve.specs.machine.Steps.{IsStep, HasStep, AreMarks}

pub marks-set : (reads : ℕ) (marks new : List Mark) (i : ℕ) (mark : Mark) → new ≡ set marks i mark → AreMarks reads marks → HasStep reads mark
    → AreMarks reads new
marks-set reads marks new i mark e are has =
    subst (AreMarks reads) (sym e) (record {
      nodes = length-set marks i mark ∙ are.nodes;
      each = All-set (HasStep reads) marks i mark has are.each;
    })

pub marks-same : (reads : ℕ) (marks new : List Mark) → new ≡ marks → AreMarks reads marks → AreMarks reads new
marks-same reads marks new e are = subst (AreMarks reads) (sym e) are

-- the last step of a mark
pub step_at : (reads : ℕ) (marks : List Mark) (i : ℕ) (d : Mark) (step : Step) → AreMarks reads marks → i < most_nodes → (get_or marks i d).last ≡ Some step
    → IsStep reads step
step_at reads marks i d step are lt is = subst (λ o. IfSome o (IsStep reads)) is (are.each i d (omega (arith, are.nodes)))

pub steps_push : (reads : ℕ) (steps new : List Step) (step : Step) → new ≡ steps ++ step ∷ [] → All (IsStep reads) steps → IsStep reads step
    → All (IsStep reads) new
steps_push reads steps new step e all is = subst (λ (l : List Step). All (IsStep reads) l) (sym e) (All-push (IsStep reads) steps step all is)
