use Rattle.std.proofs.Common.{sym}
use Rattle.command_words.specs.Orders.{asked}
use Rattle.soda_words.specs.Limits.{most_text}
use Rattle.soda_ir.specs.Program.{plain}
use Rattle.job_program.specs.Spoken.{RefusesProgram}
use Rattle.whole_files.specs.declared.reading.ReadFail.TheVariants.{Failed, Memory, TooLong}
use Rattle.sodac_cli.proofs.Reading.{memory_runs, refusal_given, refused_runs, text_read, unread_runs}
use Rattle.sodac_cli.proofs.program.read_program.Goals as goal

pub returns-in-Err-TooLong-clause-ends : goal.returns-in-Err-TooLong-clause-ends
returns-in-Err-TooLong-clause-ends g c = λ told built.
    unread_runs _ _ (asked c.args.order.now) _ _ c.in-Err-TooLong.field-0 TooLong c.in-Err-TooLong.field-0-is
    (c.in-Err-TooLong.ensures.ends told (asked c.args.order.now) (sym c.program_name.ensures) built)

pub returns-in-Err-Failed-clause-ends : goal.returns-in-Err-Failed-clause-ends
returns-in-Err-Failed-clause-ends g c = λ told built.
    unread_runs _ _ (asked c.args.order.now) _ _ c.in-Err-Failed.field-0 Failed c.in-Err-Failed.field-0-is
    (c.in-Err-Failed.ensures.ends told (asked c.args.order.now) (sym c.program_name.ensures) built)

pub returns-in-Err-Memory-clause-ends : goal.returns-in-Err-Memory-clause-ends
returns-in-Err-Memory-clause-ends g c = λ told built.
    unread_runs _ _ (asked c.args.order.now) _ _ c.in-Err-Memory.field-0 Memory c.in-Err-Memory.field-0-is
    (c.in-Err-Memory.ensures.ends told (asked c.args.order.now) (sym c.program_name.ensures) built)

pub returns-in-Ok-spoken-clause-goes : goal.returns-in-Ok-spoken-clause-goes
returns-in-Ok-spoken-clause-goes g c = λ told.
    let a = asked c.args.order.now in
    text_read _ _ a _ _ _ (c.in-Ok.ensures.goes told a (sym c.program_name.ensures)) c.deref.result.now c.deref.ensures.value (plain c.in-Ok-spoken.program)
    c.in-Ok-spoken.ensures.spoken

pub returns-in-Err-Refused-clause-ends : goal.returns-in-Err-Refused-clause-ends
returns-in-Err-Refused-clause-ends g c = λ told built.
    let a = asked c.args.order.now in
    let text = c.deref.result.now in
    refused_runs _ _ a _ _ _ (c.in-Ok.ensures.goes told a (sym c.program_name.ensures)) text c.deref.ensures.value built c.in-Err-Refused.refusal
    (refusal_given (RefusesProgram most_text a.share text) c.spoken_program-spoken.result c.in-Err-Refused.field-0 c.in-Err-Refused.refusal
    c.in-Err-Refused.is (rw c.in-Err-Refused.is at c.in-Err-Refused.field-0-is) c.spoken_program-spoken.ensures.refused)

pub returns-in-Err-Memory-spoken-clause-ends : goal.returns-in-Err-Memory-spoken-clause-ends
returns-in-Err-Memory-spoken-clause-ends g c = λ told built.
    let a = asked c.args.order.now in
    memory_runs _ _ a _ _ _ (c.in-Ok.ensures.goes told a (sym c.program_name.ensures)) c.deref.result.now c.deref.ensures.value built
