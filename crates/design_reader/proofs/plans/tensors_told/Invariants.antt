use Rattle.soda_ir.specs.Program.{plain}
use Rattle.design_reader.proofs.Telling.{TensorMore}
use Rattle.design_reader.proofs.plans.tensors_told.Given as goal

-- what the lines so far tell
abbrev pub invariant-loop-number : goal.invariant-loop-number
invariant-loop-number l = TensorMore (plain l.parts) l.text l.delays.items l.storages.items l.rest l.number
