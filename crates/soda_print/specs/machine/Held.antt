-- The texts of formulas, params and tensors as the code holds them.
use Rattle.std.specs.Prelude.{ℕ, List, map}
use Rattle.soda_ir.specs.Program.{plain, plain_param, plain_tensor}
use Rattle.soda_ir.specs.Tree.{formula_of}
use Rattle.soda_ir.specs.declared.expr.Expr.{Expr}
use Rattle.soda_ir.specs.declared.program.Param.{Param}
use Rattle.soda_ir.specs.declared.program.Parts.{Parts}
use Rattle.soda_ir.specs.declared.program.Tensor.{Tensor}
use Rattle.soda_print.specs.Canonical.{ended, formula_text, param_line, tensor_line}

-- the text of a formula
abbrev pub held_formula : Parts → Expr → List ℕ
held_formula parts e = formula_text (plain parts) (formula_of e)

-- the lines of params
abbrev pub held_params : List Param → List ℕ
held_params qs = ended (map param_line (map plain_param qs))

-- the line of a tensor
abbrev pub held_line : Parts → Tensor → List ℕ
held_line parts t = tensor_line (plain parts) (plain_tensor t)

-- the lines of tensors
abbrev pub held_tensors : Parts → List Tensor → List ℕ
held_tensors parts ts = ended (map (tensor_line (plain parts)) (map plain_tensor ts))
