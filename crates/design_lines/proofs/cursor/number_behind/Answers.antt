use Rattle.std.proofs.Common.{◌∙◌}
use Rattle.design_lines.proofs.Pieces.{no_number, number_whole, run_of}
use Rattle.design_lines.proofs.cursor.number_behind.Goals as goal

pub returns-in_default : goal.returns-in_default
returns-in_default c = λ n rest small e.
    let k = c.digit_count-count in
    let run = run_of c.args.text.now c.args.piece.now rest k.result n k.ensures.within k.ensures.digits k.ensures.end c.requires e in
    no_number _ n c.in_default.ensures small (c.split_at.ensures.front ∙ run.0)

pub returns-in-Some-behind : goal.returns-in-Some-behind
returns-in-Some-behind c =
    number_whole c.args.text.now c.split_at.result.0.now c.split_at.result.1.now c.args.piece.now c.in-Some-behind.rest.now c.digit_count-count.result
    c.in-Some.number c.split_at.ensures.front c.split_at.ensures.back c.in-Some.ensures.0 c.in-Some.ensures.1 c.in-Some-behind.ensures

pub returns-in-None : goal.returns-in-None
returns-in-None c = λ n rest small e.
    let k = c.digit_count-count in
    let run = run_of c.args.text.now c.args.piece.now rest k.result n k.ensures.within k.ensures.digits k.ensures.end c.requires e in
    c.in-None.ensures rest (c.split_at.ensures.back ∙ run.1)
