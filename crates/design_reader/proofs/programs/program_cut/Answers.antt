use Rattle.design_reader.proofs.Cuts.{bytes_within, is_cut, no_count, no_lines}
use Rattle.std.proofs.Common.{sym}
use Rattle.design_reader.proofs.programs.program_cut.Goals as goal

pub returns-in_default-number_behind : goal.returns-in_default-number_behind
returns-in_default-number_behind c = λ p w g. no_count p c.args.text.now c.in-Some.number.now c.in-Some.ensures c.in_default-number_behind.ensures w g

pub split_at-requires : goal.split_at-requires
split_at-requires c = bytes_within c.in-Some-number_behind.told.number c.in-Some-number_behind.told.rest.now c.in-Some-line_bytes.bytes (sym c.in-Some-line_bytes.ensures)

pub returns-in-Some-line_bytes : goal.returns-in-Some-line_bytes
returns-in-Some-line_bytes c =
    let told = c.in-Some-number_behind.told in
    is_cut c.args.text.now c.in-Some.number.now told.rest.now c.split_at.result.0.now c.split_at.result.1.now told.number c.in-Some-line_bytes.bytes
    c.in-Some.ensures c.in-Some-number_behind.ensures.0 c.in-Some-number_behind.ensures.1 (sym c.in-Some-line_bytes.ensures)
    c.split_at.ensures.front c.split_at.ensures.back

pub returns-in-None : goal.returns-in-None
returns-in-None c =
    let told = c.in-Some-number_behind.told in
    λ p w g. no_lines p c.args.text.now c.in-Some.number.now told.rest.now told.number
    c.in-Some.ensures c.in-Some-number_behind.ensures.0 c.in-Some-number_behind.ensures.1 (sym c.in-None.ensures) w g
