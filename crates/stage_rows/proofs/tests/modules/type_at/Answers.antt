use Rattle.std.proofs.Common.{◌≡◌, None, sym, ◌∙◌, ap, slice_get}
use Rattle.soda_words.specs.IntType.{int32}
use Rattle.soda_ir.specs.Program.{plain}
use Rattle.time_stages.specs.declared.staging.Staged.{Staged}
use Rattle.time_stages.specs.declared.staging.StagedTensor.{StagedTensor}
use Rattle.time_stages.specs.Staged.{staged_tensors, type_of}
use Rattle.stage_rows.proofs.Ports.{mapped_past}
use Rattle.stage_rows.proofs.tests.modules.type_at.Goals as goal

pub returns-in-None : goal.returns-in-None
returns-in-None c =
    let p = plain c.args.program.now in
    let none : slice_get (staged_tensors p) c.args.number ≡ None =
    sym (ap (λ (z : Staged). slice_get z.tensors c.args.number) c.requires) ∙ sym c.in-None.ensures.value in
    c.int32.ensures ∙ sym (mapped_past (λ (s : StagedTensor). type_of p s.tensor) (staged_tensors p) c.args.number int32 none)
