use Rattle.std.proofs.Common.{◌≡◌, ◌∙◌, ap}
use Rattle.int_types.specs.Ranges.{wrapped}
use Rattle.soda_ir.specs.declared.program.Parts.{Parts}
use Rattle.soda_ir.specs.Program.{plain}
use Rattle.time_stages.specs.declared.staging.Staged.{Staged}
use Rattle.time_stages.specs.Staged.{staged_tensors, type_of}
use Rattle.compute_modules.specs.declared.module.ComputeModule.{ComputeModule}
use Rattle.compute_modules.specs.pieces.Formulas.{code_value}
use Rattle.compute_modules.proofs.Modules.{module_is, stage_there}
use Rattle.compute_modules.proofs.module.ComputeModule.new.Goals as goal

pub returns-in-Ok-clause-value : goal.returns-in-Ok-clause-value
returns-in-Ok-clause-value c =
    let p = plain c.args.program.now in
    let s = c.index-as_slice-tensor.result in
    let there = stage_there c.as_slice.result.now (staged_tensors p) c.args.tensor s c.requires.tensor.0
    (c.as_slice.ensures ∙ ap (λ (z : Staged). z.tensors) c.requires.staging) c.requires.tensor.1 c.index-as_slice-tensor.is in
    let made : ComputeModule = record {
      ty = c.type_of-ty.result;
      formula = c.in_ok-formula.formula;
      border = c.border_of.result;
      walk = c.in-Ok.walk;
      ports = c.count_ports.result;
    } in
    let type : c.type_of-ty.result ≡ type_of p s.tensor = c.type_of-ty.ensures ∙ ap (λ (q : Parts). type_of (plain q) s.tensor) c.parts.ensures.value in
    module_is p c.args.rows c.args.params.now c.args.tensor s made there
    (c.stages_have_dimensions.ensures p c.args.rows c.args.tensor s c.parts.ensures.valid.sound there)
    (λ ports. ap (λ t. wrapped t (code_value made.formula.code made.formula.taps.items ports)) type ∙ c.in_ok-formula.ensures ports)
    c.border_of.ensures c.in-Ok.ensures.sides
