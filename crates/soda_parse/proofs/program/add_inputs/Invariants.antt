use Rattle.std.proofs.Common.{◌≡◌, ◌++◌, map, take}
use Rattle.soda_ir.specs.Program.{plain_tensor}
use Rattle.soda_parse.specs.Meaning.{input_of}
use Rattle.soda_parse.proofs.program.add_inputs.Given as goal

abbrev pub invariant-loop-line : goal.invariant-loop-line
invariant-loop-line l = map plain_tensor l.tensors ≡ map plain_tensor l.initial.tensors ++ map input_of (take l.line-index l.lines)
