use Rattle.std.proofs.Common.{codes, ◌++◌}
use Rattle.std.specs.Fmt.{decimal}
use Rattle.design_lines.proofs.Pieces.{two_first, two_second}
use Rattle.design_lines.proofs.cursor.two_behind.Goals as goal

pub returns-in_default-number_behind : goal.returns-in_default-number_behind
returns-in_default-number_behind c = λ a b sa sb g.
    let l = two_first c.args.front.now c.args.between.now c.args.text.now c.in-Some.numbers.now a b c.in-Some.ensures g in
    c.in_default-number_behind.ensures a (decimal b ++ (codes "\n" ++ l.0)) sa l.1

pub returns-in-None : goal.returns-in-None
returns-in-None c = λ a b sa sb g.
    let one = c.in-Some-number_behind.one in
    let l = two_first c.args.front.now c.args.between.now c.args.text.now c.in-Some.numbers.now a b c.in-Some.ensures g in
    c.in-None.ensures b l.0 sb (two_second c.args.between.now c.in-Some.numbers.now one.rest.now l.0 one.number a b c.requires c.in-Some-number_behind.ensures.1 l.1)
