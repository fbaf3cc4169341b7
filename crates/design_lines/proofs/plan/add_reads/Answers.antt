use Rattle.std.proofs.Common.{◌≡◌, ℕ, ◌++◌, get_or, slice_index, pos, sym, ap, ◌∙◌}
use Rattle.delay_net.specs.declared.net.Read.{Read}
use Rattle.delay_net.specs.Windows.{age, at_least_0}
use Rattle.design_lines.specs.PlanLines.{read_line}
use Rattle.design_lines.proofs.Written.{written_more}
use Rattle.design_lines.proofs.plan.add_reads.Goals as goal

pub loop-number-preserved : goal.loop-number-preserved
loop-number-preserved c =
    let delays = c.args.delays.now in
    let i = c.loop-number.number in
    let none : Read = record { reader = 0; of = 0; offset = pos 0 } in
    let r = get_or c.reads-reads.result.now i none in
    written_more (λ n x. read_line n x (at_least_0 (age delays x)) (slice_index c.as_slice-hold.result.now n) (slice_index c.as_slice-need.result.now n))
    c.reads-reads.result.now i none c.args.text.now.items c.loop-number.text.items c.add_read.new.text.items _
    c.loop-number.invariant c.loop-number-test.true
    (ap (λ z. read_line i r (at_least_0 z) (slice_index c.as_slice-hold.result.now i) (slice_index c.as_slice-need.result.now i)) (sym c.age_of-age.ensures))
    c.in_ok-add_read.ensures
