use Rattle.std.proofs.Common.{◌≡◌, ◌<◌, length, ap, arith, ◌∙◌}
use Rattle.std.specs.Fmt.{signed_decimal}
use Rattle.std.specs.Int.{w128}
use Rattle.std.proofs.lemmas.Int.{to_z-of_z}
use Rattle.array_bytes.proofs.SizeLaws.{some_decimal}
use Rattle.array_bytes.proofs.written.put_text.Goals as goal

pub returns-clause-some : goal.returns-clause-some
returns-clause-some c =
    let some : 0 < length (signed_decimal c.args.cell) = some_decimal c.args.cell c.requires.below in
    let text : length c.as_bytes.result.now ≡ length (signed_decimal c.args.cell) = ap length (c.as_bytes.ensures.value ∙ c.format.ensures.text ∙ ap signed_decimal (to_z-of_z w128 c.args.cell c.ranges.cell)) in
    omega (arith, c.append.ensures.len, c.put_parting.ensures.more)
