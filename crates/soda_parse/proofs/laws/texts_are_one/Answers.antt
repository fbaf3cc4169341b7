use Rattle.soda_parse.proofs.Exclusive.{never_both, program_is_one, refusal_is_one}
use Rattle.soda_parse.proofs.laws.texts_are_one.Goals as goal

pub returns-clause-program : goal.returns-clause-program
returns-clause-program c = program_is_one

pub returns-clause-cause : goal.returns-clause-cause
returns-clause-cause c = refusal_is_one

pub returns-clause-apart : goal.returns-clause-apart
returns-clause-apart c = never_both
