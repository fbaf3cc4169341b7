use Rattle.std.proofs.Common.{◌≡◌, ◌<◌, ◌≤◌, ◌^◌, false, length, sym, ◌∙◌, arith}
use Rattle.share_shape.specs.Procedure.{is_used}
use Rattle.share_expr.specs.Working.{names_with}
use Rattle.share_expr.proofs.Numbers.{first_is, last_is, names_long}
use Rattle.share_expr.proofs.names.unused_number.Goals as goal

pub returns-then-not-branch : goal.returns-then-not-branch
returns-then-not-branch c =
    let few : length (names_with c.args.parts.now c.args.tensors.now) < 2 ^ 64 = omega (arith, names_long c.args.parts.now c.args.tensors.now) in
    let free : is_used (names_with c.args.parts.now c.args.tensors.now) c.loop-number.number ≡ false = sym c.in_ok-is_used.ensures ∙ c.if-not-branch.true in
    first_is (names_with c.args.parts.now c.args.tensors.now) few c.loop-number.number c.loop-number.invariant free

pub returns : goal.returns
returns c =
    let few : length (names_with c.args.parts.now c.args.tensors.now) < 2 ^ 64 = omega (arith, names_long c.args.parts.now c.args.tensors.now) in
    let past : length (names_with c.args.parts.now c.args.tensors.now) ≤ c.loop-number.number = omega (arith, names_long c.args.parts.now c.args.tensors.now) in
    let all : c.in-Some.most ≡ length (names_with c.args.parts.now c.args.tensors.now) = omega (arith, names_long c.args.parts.now c.args.tensors.now) in
    all ∙ last_is (names_with c.args.parts.now c.args.tensors.now) few c.loop-number.number c.loop-number.invariant past
