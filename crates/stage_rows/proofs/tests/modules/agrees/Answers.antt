use Rattle.std.proofs.Common.{length, ◌∙◌, ap, sym}
use Rattle.soda_ir.specs.Program.{plain}
use Rattle.staged_cells.specs.Cells.{reads_by, type_at}
use Rattle.time_stages.specs.Staged.{staged_reads}
use Rattle.stage_rows.proofs.Ports.{one_for_each}
use Rattle.stage_rows.proofs.tests.modules.agrees.Goals as goal

pub next-requires-clause-ports : goal.next-requires-clause-ports
next-requires-clause-ports c =
    ap length c.deref-in-loop.ensures.value ∙ c.in_ok-held.ensures ∙ ap length c.deref.ensures.value
    ∙ one_for_each (λ r. type_at (plain c.args.program.now) r.of) (reads_by (staged_reads (plain c.args.program.now)) c.args.number) c.in_ok-ports.ports.items c.in_ok-ports.ensures ∙ sym c.loop.invariant.count
