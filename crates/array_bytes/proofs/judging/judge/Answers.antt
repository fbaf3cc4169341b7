use Rattle.std.proofs.Common.{◌≡◌, Some, None, ap, sym, subst, ◌∙◌, Option, Result, Err, ℤ, FitsSigned, refl, rules}
use Rattle.std.specs.Int.{w128}
use Rattle.std.proofs.lemmas.Int.{to_z-of_z}
use Rattle.array_bytes.specs.Machine.Scans.{Judges, near_value}
use Rattle.array_bytes.specs.declared.fault.CellFault.{CellFault}
use Rattle.array_bytes.specs.declared.fault.CellFault.TheVariants.{BadCell}
use Rattle.array_bytes.proofs.RunPush.{judges_run}
use Rattle.array_bytes.proofs.judging.judge.Goals as goal

pub returns-in-Some-clause-judged : goal.returns-in-Some-clause-judged
returns-in-Some-clause-judged c = λ bytes is.
    let fits : FitsSigned w128 c.in-Some.value = search rules in
    let value : Some c.in-Some.value ≡ near_value bytes = sym c.in-Some.is ∙ c.value.ensures bytes is in
    let P : Option ℤ → Type 0 = λ v. Judges c.args.ty c.args.number v c.of_type.result in
    judges_run c.args.ty c.args.number bytes c.of_type.result c.bits-bits.ensures.valid (subst P (ap (λ v. Some v) (to_z-of_z w128 c.in-Some.value fits) ∙ value) c.of_type.ensures.judged)

pub returns-in-None-clause-judged : goal.returns-in-None-clause-judged
returns-in-None-clause-judged c = λ bytes is.
    let value : None ≡ near_value bytes = sym c.in-None.is ∙ c.value.ensures bytes is in
    let bad : Result ℤ CellFault = Err (BadCell c.args.number) in
    let P : Option ℤ → Type 0 = λ v. Judges c.args.ty c.args.number v bad in
    judges_run c.args.ty c.args.number bytes bad c.bits-bits.ensures.valid (subst P value refl)
