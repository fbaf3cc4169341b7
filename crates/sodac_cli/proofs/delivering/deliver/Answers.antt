use Rattle.std.proofs.Common.{◌≡◌, ℕ, All, List, map, sym, ap, subst, ◌∙◌, arith}
use Rattle.soda_words.specs.IntType.{IntType}
use Rattle.soda_ir.specs.declared.program.Parts.{Parts}
use Rattle.soda_ir.specs.declared.program.Tensor.{Tensor}
use Rattle.soda_ir.specs.Program.{plain, plain_tensor}
use Rattle.soda_ir.specs.Valid.{output_types}
use Rattle.job_arrays.specs.Arrays.{FillBurst}
use Rattle.sodac_cli.specs.Machine.Steps.{WritesOutputs}
use Rattle.sodac_cli.proofs.Judged.{both_within}
use Rattle.sodac_cli.proofs.Ready.{outputs_fill}
use Rattle.sodac_cli.proofs.Written.{unwritten_memory}
use Rattle.sodac_cli.proofs.delivering.deliver.Goals as goal

pub returns-in_default-clause-runs : goal.returns-in_default-clause-runs
returns-in_default-clause-runs g c = λ told first begun a values inputs w.
    unwritten_memory first begun a (plain c.args.program.now) values inputs _ _ w.writing

pub write_outputs-status-requires-clause-few : goal.write_outputs-status-requires-clause-few
write_outputs-status-requires-clause-few g c =
    let p = plain c.args.program.now in
    omega (arith, c.requires.as_many, both_within p.tensors, c.parts.ensures.valid.sound.limits.few_tensors)

pub write_outputs-status-requires-clause-bursts : goal.write_outputs-status-requires-clause-bursts
write_outputs-status-requires-clause-bursts g c =
    let p = plain c.args.program.now in
    let sound = c.parts.ensures.valid.sound in
    let types_are : c.deref.result.now ≡ output_types p.tensors =
    c.deref.ensures.value ∙ c.in-Ok.ensures
    ∙ ap (λ (ts : List Tensor). output_types (map plain_tensor ts)) (c.as_slice.ensures ∙ ap (λ (q : Parts). q.tensors) c.parts.ensures.value) in
    let P : List IntType → Type 0 = λ ts. All (λ (t : IntType). FillBurst c.args.layout.burst t) ts in
    let Q : ℕ → Type 0 = λ n. All (λ (t : IntType). FillBurst n t) (output_types p.tensors) in
    subst P (sym types_are) (subst Q (sym c.requires.burst) (outputs_fill p.burst sound.limits.least_burst sound.limits.most_burst p.tensors sound.ends.bursts))

pub returns-clause-runs : goal.returns-clause-runs
returns-clause-runs g c = λ told first begun a values inputs w.
    let p = plain c.args.program.now in
    let types_are : c.deref.result.now ≡ output_types p.tensors =
    c.deref.ensures.value ∙ c.in-Ok.ensures
    ∙ ap (λ (ts : List Tensor). output_types (map plain_tensor ts)) (c.as_slice.ensures ∙ ap (λ (q : Parts). q.tensors) c.parts.ensures.value) in
    let P : List IntType → Type 0 = λ ts. WritesOutputs first begun a p (g.F.Files.given c.args.files.now) (g.F.Files.store c.args.files.now) values inputs c.args.ids.now ts
    c.args.layout c.args.arrays.now in
    c.write_outputs-status.ensures.runs told first begun a p values inputs (subst P (sym types_are) w)
