use Rattle.std.proofs.Common.{List, ℕ, ap, ◌∙◌, sym}
use Rattle.soda_ir.specs.Program.{plain}
use Rattle.net_build.specs.Limits.{limit_passed}
use Rattle.net_build.specs.Planned.{net_under, plan_of}
use Rattle.module_text.proofs.held.with_staging.Goals as goal

pub invariant_of-result : goal.invariant_of-result
invariant_of-result c =
    let p = plain c.args.program in
    record {
      is = record {
        valid = c.parts-valid.ensures.valid;
        assignment = c.requires.assignment;
        short = c.requires.short;
        meets = c.requires.meets;
        holds = c.requires.holds;
        needs = c.requires.needs;
        small_holds = c.amounts_are_small.ensures.holds;
        small_needs = c.amounts_are_small.ensures.needs;
        fits = c.requires.fits;
        within = ap (λ (ds : List ℕ). limit_passed (plan_of p ds)) (sym c.deref.ensures.value) ∙ c.in-Ok.ensures.kept;
      };
      staging_is = c.requires.staging;
      network_is = c.in-Ok.ensures.network ∙ ap (λ (ds : List ℕ). net_under p ds) c.deref.ensures.value;
    }
