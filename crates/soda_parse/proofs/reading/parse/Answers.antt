use Rattle.soda_ir.specs.Program.{plain}
use Rattle.soda_parse.proofs.Exclusive.{none_accepted, none_refused, only_cause, only_one}
use Rattle.soda_parse.proofs.reading.parse.Goals as goal

pub returns-clause-only : goal.returns-clause-only
returns-clause-only c = only_one plain c.args.most c.args.text.now c.read_text.result c.read_text.ensures.accepted

pub returns-clause-not_refused : goal.returns-clause-not_refused
returns-clause-not_refused c =
    none_refused plain c.args.most c.args.text.now c.read_text.result c.read_text.ensures.accepted

pub returns-clause-first : goal.returns-clause-first
returns-clause-first c = only_cause c.args.most c.args.text.now c.read_text.result c.read_text.ensures.refused

pub returns-clause-not_accepted : goal.returns-clause-not_accepted
returns-clause-not_accepted c =
    none_accepted c.args.most c.args.text.now c.read_text.result c.read_text.ensures.refused
