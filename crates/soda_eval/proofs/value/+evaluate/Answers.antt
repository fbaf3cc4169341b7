use Rattle.std.proofs.Common.{rules, ◌≡◌, ℤ, ◌∙◌, FitsSigned, to_z, of_z}
use Rattle.std.specs.Int.{w128}
use Rattle.std.proofs.lemmas.Int.{to_z-of_z}
use Rattle.std.proofs.lemmas.List.{length-map}
use Rattle.soda_eval.proofs.Values.{read_known, value_known, un_step, bin_step, select_step, cast_step}
use Rattle.soda_eval.proofs.value.+evaluate.Goals as goal

-- the same value, as the code passes it on
passed : (v y : ℤ) → FitsSigned w128 v → v ≡ y → to_z w128 (of_z w128 v) ≡ y
passed v y f e = to_z-of_z w128 v f ∙ e

pub tensor_type-requires : goal.tensor_type-requires
tensor_type-requires g t c =
    let h = read_known _ _ _ _ _ _ c.in-Cell.is c.requires in simp (length-map, length-map) at h

pub returns-in-Un-clause-value : goal.returns-in-Un-clause-value
returns-in-Un-clause-value g t c =
    let v : FitsSigned w128 c.evaluate-ty.result.1 = search rules in
    un_step _ _ _ _ _ _ _ _ _ _ c.in-Un.is c.get.ensures c.evaluate-ty.ensures.ty (passed _ _ v c.evaluate-ty.ensures.value) c.unary.ensures.value

pub returns-in-Bin-clause-value : goal.returns-in-Bin-clause-value
returns-in-Bin-clause-value g t c =
    let v : FitsSigned w128 c.evaluate-left.result.1 = search rules in
    let w : FitsSigned w128 c.evaluate-right.result.1 = search rules in
    bin_step _ _ _ _ _ _ _ _ _ _ _ _ _ _ c.in-Bin.is c.get-in-Bin.ensures c.get-in-Bin-2.ensures c.evaluate-left.ensures.ty (passed _ _ v c.evaluate-left.ensures.value) c.evaluate-right.ensures.ty (passed _ _ w c.evaluate-right.ensures.value) c.binary.ensures.value

pub returns-in-Select-clause-value : goal.returns-in-Select-clause-value
returns-in-Select-clause-value g t c =
    let d : FitsSigned w128 c.evaluate-c.result.1 = search rules in
    let v : FitsSigned w128 c.evaluate-left-in-Select.result.1 = search rules in
    let w : FitsSigned w128 c.evaluate-right-in-Select.result.1 = search rules in
    select_step _ _ _ _ _ _ _ _ _ _ _ _ _ _ _ _ c.in-Select.is c.get-in-Select.ensures c.get-in-Select-2.ensures c.get-in-Select-3.ensures (passed _ _ d c.evaluate-c.ensures.value) c.evaluate-left-in-Select.ensures.ty (passed _ _ v c.evaluate-left-in-Select.ensures.value) c.evaluate-right-in-Select.ensures.ty (passed _ _ w c.evaluate-right-in-Select.ensures.value) c.select.ensures.value

pub returns-in-Cast-clause-value : goal.returns-in-Cast-clause-value
returns-in-Cast-clause-value g t c =
    let fits : FitsSigned w128 c.wrap.result = search rules in
    let v : FitsSigned w128 c.evaluate-v.result.1 = search rules in
    to_z-of_z w128 c.wrap.result fits ∙ cast_step _ _ _ _ _ _ _ _ _ c.in-Cast.is c.get-in-Cast.ensures (passed _ _ v c.evaluate-v.ensures.value) c.wrap.ensures.value

pub param_type-requires : goal.param_type-requires
param_type-requires g t c =
    let h = (value_known _ _ _ _ _ _ c.in-Par.is c.requires).0 in simp (length-map, length-map) at h

pub param_value-requires-clause-there : goal.param_value-requires-clause-there
param_value-requires-clause-there g t c =
    let h = (value_known _ _ _ _ _ _ c.in-Par.is c.requires).0 in simp (length-map, length-map) at h
