use Rattle.job_program.proofs.OneProgram.{never_both, one_cause, one_program}
use Rattle.job_program.proofs.laws.one_program_is_spoken_of.Goals as goal

pub returns : goal.returns
returns c =
    let texts = c.texts_are_one.ensures in
    record {
      program = one_program texts.program texts.cause texts.apart;
      cause = one_cause texts.program texts.cause texts.apart;
      apart = never_both texts.program texts.cause texts.apart;
    }
