use Rattle.std.proofs.Common.{◌≡◌, ◌∙◌, ◌+◌, ℕ, map, sym, subst}
use Rattle.soda_ir.specs.Program.{plain_param}
use Rattle.param_lines.specs.Lines.{rows_of}
use Rattle.param_lines.specs.Params.{IsFirstWrong}
use Rattle.param_lines.proofs.Progress.{row_more, row_wrong}
use Rattle.param_lines.proofs.reading.read_rows.Goals as goal

pub returns-then-not-branch-clause-wrong : goal.returns-then-not-branch-clause-wrong
returns-then-not-branch-clause-wrong c = λ line e.
    let ps = map plain_param c.args.params.now in
    let P : ℕ → Type 0 = IsFirstWrong ps (rows_of c.args.bytes.now) in
    let number : c.loop-rest.number + 1 ≡ line = cc in
    subst P number (row_wrong ps c.args.bytes.now c.loop-rest.rest.now c.split_line.result.0.now c.split_line.result.1.now c.loop-rest.number c.loop-rest.slots c.loop-rest.invariant c.requires.apart c.split_line.ensures.lines (sym c.in_ok-read_row.ensures.fine ∙ c.if-not-branch.true))

pub loop-rest-preserved : goal.loop-rest-preserved
loop-rest-preserved c =
    let ps = map plain_param c.args.params.now in
    row_more ps c.args.bytes.now c.loop-rest.rest.now c.split_line.result.0.now c.split_line.result.1.now c.loop-rest.number c.loop-rest.slots c.read_row.new.slots c.loop-rest.invariant c.requires.apart c.split_line.ensures.lines c.split_line.ensures.shorter (sym c.in_ok-read_row.ensures.fine ∙ c.if-not-branch.false) (c.in_ok-read_row.ensures.filled c.if-not-branch.false)
