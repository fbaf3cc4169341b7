use Rattle.design_lines.proofs.Pieces.{line_after}
use Rattle.design_lines.proofs.cursor.behind_line.Goals as goal

pub returns-in-Some : goal.returns-in-Some
returns-in-Some c = line_after c.args.line.now c.args.text.now c.in-Some.rest.now c.behind-in-Some.result c.in-Some.ensures c.behind-in-Some.ensures
