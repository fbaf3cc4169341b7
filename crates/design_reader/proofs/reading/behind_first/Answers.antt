use Rattle.std.proofs.Common.{◌≡◌, length, arith}
use Rattle.std.proofs.lemmas.Result.{err_from_is_err_and}
use Rattle.design_lines.specs.Lines.{IsWritten}
use Rattle.design_lines.proofs.CallerLemmas.{few_lines}
use Rattle.design_reader.specs.machine.Pieces.{IsRefusedFirst, at_program}
use Rattle.soda_ir.specs.Program.{PlainProgram, plain}
use Rattle.soda_print.specs.Canonical.{canonical, canonical_lines}
use Rattle.design_reader.proofs.First.{no_program, program_text, refused_behind, told_behind}
use Rattle.design_reader.proofs.Stopping.{refused_on}
use Rattle.design_reader.proofs.reading.behind_first.Goals as goal

pub returns-in_default-clause-refused : goal.returns-in_default-clause-refused
returns-in_default-clause-refused c = at_program c.in_default.ensures

pub returns-in_err-program-clause-refused : goal.returns-in_err-program-clause-refused
returns-in_err-program-clause-refused c =
    let text = c.args.text.now in
    let cut = c.in-Some.cut in
    let p = err_from_is_err_and c.from_residual.result c.from_residual.ensures.1 in
    rw (p.1, p.2) (refused_on c.in_err-program.field-0.0
    (λ n. (n ≡ 2) × ((q : PlainProgram) → IsWritten q → canonical q ≡ cut.program.now → length (canonical_lines q) ≡ cut.lines → ⊥))
    (IsRefusedFirst text) (λ n h. no_program text cut.program.now cut.rest.now cut.lines n c.in-Some.ensures h) c.in_err-program.ensures.refused)

pub overflow_add-cut : goal.overflow_add-cut
overflow_add-cut c =
    omega (arith, few_lines (plain c.in_ok-program.program) c.in_ok-program.ensures.written, c.in_ok-program.ensures.is.1)

pub behind_program-requires-clause-few : goal.behind_program-requires-clause-few
behind_program-requires-clause-few c =
    omega (arith, few_lines (plain c.in_ok-program.program) c.in_ok-program.ensures.written, c.in_ok-program.ensures.is.1)

pub returns-clause-text : goal.returns-clause-text
returns-clause-text c =
    let text = c.args.text.now in
    let cut = c.in-Some.cut in
    let told = c.in_ok-program in
    told_behind c.behind_program.result told.program text cut.rest.now told.ensures.written
    (program_text (plain told.program) text cut.program.now cut.rest.now cut.lines c.in-Some.ensures told.ensures.is.0 told.ensures.is.1)
    c.behind_program.ensures.program c.behind_program.ensures.text

pub returns-clause-refused : goal.returns-clause-refused
returns-clause-refused c =
    let text = c.args.text.now in
    let cut = c.in-Some.cut in
    let told = c.in_ok-program in
    refused_behind c.behind_program.result (plain told.program) text cut.rest.now told.ensures.written
    (program_text (plain told.program) text cut.program.now cut.rest.now cut.lines c.in-Some.ensures told.ensures.is.0 told.ensures.is.1)
    c.behind_program.ensures.refused
