use Rattle.std.proofs.Common.{◌≡◌, map, take}
use Rattle.std.specs.List.{All}
use Rattle.delay_net.specs.Shape.{IsWidth}
use Rattle.soda_ir.specs.Program.{plain}
use Rattle.time_stages.specs.Staged.{type_of}
use Rattle.time_stages.proofs.nets.widths.Given as goal

abbrev pub invariant-loop-staged : goal.invariant-loop-staged
invariant-loop-staged l = record {
  value : l.widths.items ≡ map (λ s. (type_of (plain l.parts) s.tensor).bits) (take l.staged-index l.tensors);
  widths : All IsWidth l.widths.items;
}
