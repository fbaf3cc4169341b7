use Rattle.std.proofs.Common.{◌≡◌, ℕ, All, List, map, sym, ap, subst, ◌∙◌, arith}
use Rattle.std.proofs.lemmas.Result.{IfErr-weaker, IfOk-weaker}
use Rattle.soda_words.specs.IntType.{IntType}
use Rattle.soda_ir.specs.declared.program.Parts.{Parts}
use Rattle.soda_ir.specs.declared.program.Tensor.{Tensor}
use Rattle.soda_ir.specs.Program.{input_types, plain, plain_tensor}
use Rattle.job_arrays.specs.Arrays.{FillBurst}
use Rattle.sodac_cli.specs.Machine.Steps.{ReadsInputs}
use Rattle.sodac_cli.proofs.Gathered.{gathering_memory}
use Rattle.sodac_cli.proofs.Judged.{both_within}
use Rattle.sodac_cli.proofs.Ready.{inputs_fill}
use Rattle.sodac_cli.proofs.gathering.gather.Goals as goal

pub returns-in_default-clause-ends : goal.returns-in_default-clause-ends
returns-in_default-clause-ends g c = λ told first begun a values r.
    gathering_memory first begun a (plain c.args.program.now) values _ _ _ _ r.gathering

pub read_inputs-found-requires-clause-few : goal.read_inputs-found-requires-clause-few
read_inputs-found-requires-clause-few g c =
    let p = plain c.args.program.now in
    omega (arith, c.requires.as_many, both_within p.tensors, c.parts.ensures.valid.sound.limits.few_tensors)

pub read_inputs-found-requires-clause-bursts : goal.read_inputs-found-requires-clause-bursts
read_inputs-found-requires-clause-bursts g c =
    let p = plain c.args.program.now in
    let sound = c.parts.ensures.valid.sound in
    let types_are : c.deref.result.now ≡ input_types p.tensors =
    c.deref.ensures.value ∙ c.in-Ok.ensures
    ∙ ap (λ (ts : List Tensor). input_types (map plain_tensor ts)) (c.as_slice.ensures ∙ ap (λ (q : Parts). q.tensors) c.parts.ensures.value) in
    let P : List IntType → Type 0 = λ ts. All (λ (t : IntType). FillBurst c.args.layout.burst t) ts in
    let Q : ℕ → Type 0 = λ n. All (λ (t : IntType). FillBurst n t) (input_types p.tensors) in
    subst P (sym types_are) (subst Q (sym c.requires.burst) (inputs_fill p.burst sound.limits.least_burst sound.limits.most_burst p.tensors sound.ends.bursts))

pub returns-clause-goes : goal.returns-clause-goes
returns-clause-goes g c = λ told.
    let p = plain c.args.program.now in
    let types_are : c.deref.result.now ≡ input_types p.tensors =
    c.deref.ensures.value ∙ c.in-Ok.ensures
    ∙ ap (λ (ts : List Tensor). input_types (map plain_tensor ts)) (c.as_slice.ensures ∙ ap (λ (q : Parts). q.tensors) c.parts.ensures.value) in
    IfOk-weaker c.read_inputs-found.result _ _ (λ arrays goes first begun a values r.
    let P : List IntType → Type 0 = λ ts. ReadsInputs first begun a p (g.F.Files.given c.args.files.now) (g.F.Files.store c.args.files.now) values c.args.ids.now ts c.args.layout in
    goes first begun a p values (subst P (sym types_are) r)) (c.read_inputs-found.ensures.goes told)

pub returns-clause-ends : goal.returns-clause-ends
returns-clause-ends g c = λ told.
    let p = plain c.args.program.now in
    let types_are : c.deref.result.now ≡ input_types p.tensors =
    c.deref.ensures.value ∙ c.in-Ok.ensures
    ∙ ap (λ (ts : List Tensor). input_types (map plain_tensor ts)) (c.as_slice.ensures ∙ ap (λ (q : Parts). q.tensors) c.parts.ensures.value) in
    IfErr-weaker c.read_inputs-found.result _ _ (λ status ends first begun a values r.
    let P : List IntType → Type 0 = λ ts. ReadsInputs first begun a p (g.F.Files.given c.args.files.now) (g.F.Files.store c.args.files.now) values c.args.ids.now ts c.args.layout in
    ends first begun a p values (subst P (sym types_are) r)) (c.read_inputs-found.ensures.ends told)
