use Rattle.std.proofs.Common.{Some, Err, ap, subst, ◌∙◌}
use Rattle.soda_ir.specs.Program.{plain}
use Rattle.whole_files.specs.declared.reading.ReadFail.{ReadFail}
use Rattle.param_lines.specs.declared.line_fail.LineFail.{LineFail}
use Rattle.sodac_cli.specs.Correct.{Runs}
use Rattle.sodac_cli.specs.Machine.Text.{unread_lines}
use Rattle.sodac_cli.proofs.ParamsRead.{lines_memory, lines_refused, lines_settled}
use Rattle.sodac_cli.proofs.params.values_given.Goals as goal

pub returns-in-Err-TooLong-clause-ends : goal.returns-in-Err-TooLong-clause-ends
returns-in-Err-TooLong-clause-ends g c = λ told first begun a named judged w.
    let P : ReadFail → Type 0 = λ f. Runs first begun (Some a) (g.F.Files.given c.read_lines.new.files) (g.F.Files.store c.read_lines.new.files) (unread_lines f) in
    subst P c.in-Err-TooLong.field-0-is (c.in-Err-TooLong.ensures.ends told first begun a (plain c.args.program.now) named judged w)

pub returns-in-Err-Failed-clause-ends : goal.returns-in-Err-Failed-clause-ends
returns-in-Err-Failed-clause-ends g c = λ told first begun a named judged w.
    let P : ReadFail → Type 0 = λ f. Runs first begun (Some a) (g.F.Files.given c.read_lines.new.files) (g.F.Files.store c.read_lines.new.files) (unread_lines f) in
    subst P c.in-Err-Failed.field-0-is (c.in-Err-Failed.ensures.ends told first begun a (plain c.args.program.now) named judged w)

pub returns-in-Err-Memory-clause-ends : goal.returns-in-Err-Memory-clause-ends
returns-in-Err-Memory-clause-ends g c = λ told first begun a named judged w.
    let P : ReadFail → Type 0 = λ f. Runs first begun (Some a) (g.F.Files.given c.read_lines.new.files) (g.F.Files.store c.read_lines.new.files) (unread_lines f) in
    subst P c.in-Err-Memory.field-0-is (c.in-Err-Memory.ensures.ends told first begun a (plain c.args.program.now) named judged w)

pub returns-in-Err-Line-clause-ends : goal.returns-in-Err-Line-clause-ends
returns-in-Err-Line-clause-ends g c = λ told first begun a named judged w.
    lines_refused first begun a (plain c.args.program.now) _ _ c.args.name.now _ (c.in-Ok.ensures.goes told first begun a (plain c.args.program.now) named judged w)
    c.deref.result.now c.deref.ensures.value c.in-Err-Line.line
    (c.read_params-found.ensures.refused c.in-Err-Line.line
    (c.in-Err-Line.is ∙ ap (λ (f : LineFail). Err f) (rw c.in-Err-Line.is at c.in-Err-Line.field-0-is)))

pub returns-in-Err-Memory-found-clause-ends : goal.returns-in-Err-Memory-found-clause-ends
returns-in-Err-Memory-found-clause-ends g c = λ told first begun a named judged w.
    lines_memory first begun a (plain c.args.program.now) _ _ c.args.name.now _ (c.in-Ok.ensures.goes told first begun a (plain c.args.program.now) named judged w)
    c.deref.result.now c.deref.ensures.value

pub returns-in-Ok-found-clause-goes : goal.returns-in-Ok-found-clause-goes
returns-in-Ok-found-clause-goes g c = λ told first begun a named judged w.
    lines_settled first begun a (plain c.args.program.now) _ _ c.args.name.now _ (c.in-Ok.ensures.goes told first begun a (plain c.args.program.now) named judged w)
    c.deref.result.now c.deref.ensures.value c.in-Ok-found.values.items c.in-Ok-found.ensures.given
