use Rattle.std.proofs.Common.{◌+◌, ◌++◌, Bool, not, ◌&&◌, sym, ap, ◌∙◌, drop, take}
use Rattle.job_files.specs.Files.{names_of}
use Rattle.command_words.specs.Orders.{asked}
use Rattle.sodac_cli.specs.Due.{are_apart}
use Rattle.sodac_cli.specs.Work.{text_names}
use Rattle.sodac_cli.proofs.Judged.{apart_all, apart_step}
use Rattle.sodac_cli.proofs.judging.are_apart.Goals as goal

pub loop-at-preserved : goal.loop-at-preserved
loop-at-preserved c =
    let names = names_of c.args.names.now in
    let later : Bool = are_apart (text_names (asked c.args.order.now) ++ take (c.loop-at.at + 1) names) (drop (c.loop-at.at + 1) names) in
    c.loop-at.invariant
    ∙ apart_step (text_names (asked c.args.order.now)) c.args.names.now c.loop-at.at _ c.is_among.result c.loop-at-test.true c.is_among.ensures
    ∙ ap (λ among. not among && later) c.if-is_among.false

pub returns-then-is_among : goal.returns-then-is_among
returns-then-is_among c =
    let names = names_of c.args.names.now in
    let later : Bool = are_apart (text_names (asked c.args.order.now) ++ take (c.loop-at.at + 1) names) (drop (c.loop-at.at + 1) names) in
    sym (c.loop-at.invariant
    ∙ apart_step (text_names (asked c.args.order.now)) c.args.names.now c.loop-at.at _ c.is_among.result c.loop-at-test.true c.is_among.ensures
    ∙ ap (λ among. not among && later) c.if-is_among.true)

pub returns : goal.returns
returns c = sym (c.loop-at.invariant ∙ apart_all (text_names (asked c.args.order.now)) c.args.names.now c.loop-at.at c.loop-at-test.false)
