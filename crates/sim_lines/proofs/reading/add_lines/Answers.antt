use Rattle.std.proofs.Common.{◌≡◌, ◌∙◌, ◌+◌, Some, sym, ap}
use Rattle.soda_ir.specs.Program.{plain}
use Rattle.sim_lines.proofs.Progress.{line_more, line_wrong, none_read}
use Rattle.sim_lines.proofs.reading.add_lines.Goals as goal

pub loop-rest-init : goal.loop-rest-init
loop-rest-init c = none_read (plain c.args.program.now) c.args.bytes.now c.args.stalls.now.items

pub returns-then-not-branch-clause-wrong : goal.returns-then-not-branch-clause-wrong
returns-then-not-branch-clause-wrong c = λ line e.
    let p = plain c.args.program.now in
    let number : c.loop-rest.number + 1 ≡ line = cc in
    line_wrong p c.args.bytes.now c.loop-rest.rest.now c.split_line.result.0.now c.split_line.result.1.now c.loop-rest.number c.args.stalls.now.items c.loop-rest.stalls.items c.loop-rest.invariant c.split_line.ensures.lines (sym c.in_ok-add_line.ensures.fine ∙ c.if-not-branch.true) ∙ ap (λ n. Some n) number

pub loop-rest-preserved : goal.loop-rest-preserved
loop-rest-preserved c =
    line_more (plain c.args.program.now) c.args.bytes.now c.loop-rest.rest.now c.split_line.result.0.now c.split_line.result.1.now c.loop-rest.number c.args.stalls.now.items c.loop-rest.stalls.items c.add_line.new.stalls.items c.loop-rest.invariant c.split_line.ensures.lines c.split_line.ensures.shorter (sym c.in_ok-add_line.ensures.fine ∙ c.if-not-branch.false) (c.in_ok-add_line.ensures.added c.if-not-branch.false)
