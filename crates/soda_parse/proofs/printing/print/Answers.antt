use Rattle.soda_ir.specs.Program.{plain}
use Rattle.soda_parse.proofs.Accepted.{text_alone, text_of_one, text_read_back}
use Rattle.soda_parse.proofs.printing.print.Goals as goal

pub returns-clause-read_back : goal.returns-clause-read_back
returns-clause-read_back c =
    text_read_back (λ t. t.items) c.print.result (plain c.args.program.now) c.print.ensures.text c.print.ensures.valid c.print.ensures.sized

pub returns-clause-one : goal.returns-clause-one
returns-clause-one c =
    text_of_one (λ t. t.items) c.print.result (plain c.args.program.now) c.print.ensures.text c.print.ensures.valid c.print.ensures.sized

pub returns-clause-alone : goal.returns-clause-alone
returns-clause-alone c =
    text_alone (λ t. t.items) c.print.result (plain c.args.program.now) c.print.ensures.text c.print.ensures.valid c.print.ensures.sized
