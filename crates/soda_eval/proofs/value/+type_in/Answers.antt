use Rattle.std.proofs.lemmas.List.{length-map}
use Rattle.soda_ir.specs.Program.{plain}
use Rattle.soda_eval.proofs.Readable.{cell_known, param_known}
use Rattle.soda_eval.proofs.value.+type_in.Goals as goal

pub tensor_type-requires : goal.tensor_type-requires
tensor_type-requires t c =
    let h = cell_known (plain c.args.parts.now) c.args.expr.now c.in-Cell.tensor c.in-Cell.offset c.in-Cell.is c.requires in simp length-map at h

pub param_type-requires : goal.param_type-requires
param_type-requires t c =
    let h = param_known (plain c.args.parts.now) c.args.expr.now c.in-Par.param c.in-Par.place c.in-Par.is c.requires in simp length-map at h
