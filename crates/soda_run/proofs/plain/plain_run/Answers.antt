use Rattle.std.proofs.Common.{◌≡◌, ◌≢◌, ◌<◌, ℕ, [], List, length, map, slice_index_or, sym, ap, ◌∙◌, subst, arith, Result, Ok, Err, IfOk}
use Rattle.soda_ir.specs.Program.{outputs_of, plain}
use Rattle.soda_eval.specs.Runs.{defined_arrays}
use Rattle.time_stages.proofs.CallerLemmas.{outputs_below}
use Rattle.soda_run.proofs.Outputs.{outputs_apart}
use Rattle.soda_run.proofs.Sequence.{last_arrays}
use Rattle.soda_run.proofs.plain.plain_run.Goals as goal

-- what a call gave is more
more_of : {A E : Type 0} → (P Q : A → Type 0) (r : Result A E) → ((a : A) → P a → Q a) → IfOk r P → IfOk r Q
more_of P Q (Ok a) h p = h a p
more_of P Q (Err e) h p = p

pub take_all-requires-clause-there : goal.take_all-requires-clause-there
take_all-requires-clause-there c =
    let p = plain c.args.program.now in
    let numbers : c.as_slice.result.now ≡ outputs_of p = c.as_slice.ensures ∙ c.in_ok-plan.ensures.outputs in
    subst (λ (xs : List ℕ). (j : ℕ) → j < length xs → slice_index_or xs j 0 < length c.in_ok-arrays.arrays.items) (sym numbers) (λ j l. omega (arith, outputs_below p j l, c.in_ok-arrays.ensures.many))

pub take_all-requires-clause-apart : goal.take_all-requires-clause-apart
take_all-requires-clause-apart c =
    let p = plain c.args.program.now in
    let numbers : c.as_slice.result.now ≡ outputs_of p = c.as_slice.ensures ∙ c.in_ok-plan.ensures.outputs in
    subst (λ (xs : List ℕ). (i j : ℕ) → i < j → j < length xs → slice_index_or xs i 0 ≢ slice_index_or xs j 0) (sym numbers) (outputs_apart p)

pub returns : goal.returns
returns c =
    let p = plain c.args.program.now in
    let numbers : c.as_slice.result.now ≡ outputs_of p = c.as_slice.ensures ∙ c.in_ok-plan.ensures.outputs in
    let arrays = c.in_ok-arrays.arrays.items in
    more_of (λ v. v.items ≡ map (λ x. slice_index_or arrays x []) c.as_slice.result.now) (λ v. v.items ≡ defined_arrays p c.args.rows c.args.params.now c.args.inputs.now) c.take_all.result (λ v e. e ∙ ap (map (λ x. slice_index_or arrays x [])) numbers ∙ last_arrays p c.in_ok-plan.ensures.sound c.args.rows c.args.params.now c.args.inputs.now arrays c.in_ok-arrays.ensures) c.take_all.ensures
