use Rattle.std.proofs.Common.{◌≤◌, length, arith}
use Rattle.design_reader.specs.Limits.{most_design_text}
use Rattle.design_reader.specs.Refused.{IsRefusedLine, at_first, too_long}
use Rattle.design_reader.specs.machine.Pieces.{IsRefusedFirst}
use Rattle.module_text.specs.Texts.{version_1}
use Rattle.design_reader.proofs.Behind.{refused_more}
use Rattle.design_reader.proofs.First.{refused_line, told_text}
use Rattle.design_reader.proofs.reading.read_design.Goals as goal

pub returns-then-bytes-gt-MOST_DESIGN_TEXT-clause-refused : goal.returns-then-bytes-gt-MOST_DESIGN_TEXT-clause-refused
returns-then-bytes-gt-MOST_DESIGN_TEXT-clause-refused c = too_long c.if-bytes-gt-MOST_DESIGN_TEXT.true

pub returns-in-Some-clause-text : goal.returns-in-Some-clause-text
returns-in-Some-clause-text c = told_text c.behind_first.result c.args.bytes.now c.in-Some.text.now c.in-Some.ensures c.behind_first.ensures.text

pub returns-in-Some-clause-refused : goal.returns-in-Some-clause-refused
returns-in-Some-clause-refused c =
    let bytes = c.args.bytes.now in
    let text = c.in-Some.text.now in
    let short : length bytes ≤ most_design_text = omega (arith, c.if-bytes-gt-MOST_DESIGN_TEXT.false) in
    refused_more c.behind_first.result (IsRefusedFirst text) (IsRefusedLine version_1 bytes)
    (λ n h. refused_line bytes text n short c.in-Some.ensures h) c.behind_first.ensures.refused

pub returns-in-None-clause-refused : goal.returns-in-None-clause-refused
returns-in-None-clause-refused c =
    at_first (omega (arith, c.if-bytes-gt-MOST_DESIGN_TEXT.false)) c.in-None.ensures
