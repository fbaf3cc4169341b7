use Rattle.std.proofs.Common.{length, arith}
use Rattle.soda_ir.specs.Valid.{names_of}
use Rattle.share_shape.specs.Procedure.{is_used}
use Rattle.share_shape.proofs.Names.{below_used, unused}
use Rattle.share_shape.proofs.laws.names_are_new.Goals as goal

pub returns : goal.returns
returns c = record {
  unused = λ p h. unused (names_of p.params p.tensors) h;
  smallest = λ p n h. below_used (is_used (names_of p.params p.tensors)) 0 (length (names_of p.params p.tensors)) n (omega arith) h;
}
