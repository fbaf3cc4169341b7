-- The program between two steps: sharing leaves all of its parts alone but the tensors.
use Rattle.std.specs.Prelude.{ℕ, List, map}
use Rattle.soda_ir.specs.declared.program.Parts.{Parts}
use Rattle.soda_ir.specs.declared.program.Tensor.{Tensor}
use Rattle.soda_ir.specs.Program.{PlainProgram, plain_param, plain_tensor}
use Rattle.soda_ir.specs.Valid.{names_of}

-- the program of these parts, with these tensors in place of its own
abbrev pub with_tensors : Parts → List Tensor → PlainProgram
with_tensors p ts = record {
  kernel = p.kernel;
  burst = p.burst;
  unroll = p.unroll;
  iterate = p.iterate;
  border = p.border;
  params = map plain_param p.params;
  extents = p.extents;
  tensors = map plain_tensor ts;
}

-- the names of its params and tensors
abbrev pub names_with : Parts → List Tensor → List (List ℕ)
names_with p ts = names_of (map plain_param p.params) (map plain_tensor ts)
