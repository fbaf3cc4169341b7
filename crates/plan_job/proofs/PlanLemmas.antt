-- What makes the text of a plan.
use Rattle.std.proofs.Common.{◌≡◌, ℕ, List, ◌++◌, codes, subst, ap, ◌∙◌}
use Rattle.delay_net.specs.Certificate.{Fits}
use Rattle.delay_net.specs.declared.net.Read.{Read}
use Rattle.flow_solve.specs.LeastPlan.{IsLeastPlan}
use Rattle.soda_ir.specs.Program.{PlainProgram}
use Rattle.soda_print.specs.Canonical.{ended}
use Rattle.time_stages.specs.Staged.{staged_reads, staged_widths}
use Rattle.design_lines.specs.PlanLines.{plan_lines}
use Rattle.plan_job.specs.Plan.{IsPlanText}

pub plan_text_is : (p : PlainProgram) (weights : List ℕ) (reads : List Read) (delays hold need first text : List ℕ) → weights ≡ staged_widths p
    → reads ≡ staged_reads p → IsLeastPlan weights reads delays → Fits weights reads delays hold need
    → first ≡ (codes "kernel " ++ p.kernel) ++ codes "\n" → text ≡ first ++ ended (plan_lines p delays hold need) → IsPlanText p text
plan_text_is p weights reads delays hold need first text widths same least fits begins lines =
    let P : List ℕ → List Read → Type 0 = λ ws rs. IsLeastPlan ws rs delays in
    let F : List ℕ → List Read → Type 0 = λ ws rs. Fits ws rs delays hold need in
    let plan : P (staged_widths p) (staged_reads p) = subst (P (staged_widths p)) same (subst (λ ws. P ws reads) widths least) in
    record {
      delays = delays;
      hold = hold;
      need = need;
      plan = plan;
      least = plan.least.least;
      fits = subst (F (staged_widths p)) same (subst (λ ws. F ws reads) widths fits);
      lines = lines ∙ ap (λ (w : List ℕ). w ++ ended (plan_lines p delays hold need)) begins;
    }
