use Rattle.std.proofs.Common.{map, take}
use Rattle.delay_net.specs.declared.net.Read.{Read}
use Rattle.soda_ir.specs.Program.{plain}
use Rattle.soda_eval.specs.Runs.{HasValues}
use Rattle.staged_cells.specs.Cells.{reads_by, type_at}
use Rattle.stage_rows.proofs.tests.modules.make_ports.Given as goal

abbrev pub invariant-loop-read : goal.invariant-loop-read
invariant-loop-read l =
    HasValues (map (λ (r : Read). type_at (plain l.program) r.of) (reads_by (take l.read-index l.reads) l.number)) l.ports.items
