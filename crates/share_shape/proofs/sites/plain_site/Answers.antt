use Rattle.std.proofs.Common.{◌≡◌, length, map, sym, ◌∙◌, arith}
use Rattle.soda_ir.specs.Program.{plain_tensor}
use Rattle.soda_ir.specs.Tree.{formula_of}
use Rattle.share_shape.specs.machine.Search.{is_twice}
use Rattle.share_shape.proofs.Passing.{is_here, not_here, nowhere, search_exact}
use Rattle.share_shape.proofs.sites.plain_site.Goals as goal

pub returns-in-Some : goal.returns-in-Some
returns-in-Some c =
    search_exact (map plain_tensor c.args.tensors.now)
    ∙ is_here (is_twice (map plain_tensor c.args.tensors.now)) c.args.tensors.now c.loop-i.i c.index-tensors-i.result c.loop-i-test.true c.index-tensors-i.is (formula_of c.in-Some.compound.now) (sym c.in-Some.ensures) c.loop-i.invariant

pub loop-i-preserved : goal.loop-i-preserved
loop-i-preserved c =
    not_here (is_twice (map plain_tensor c.args.tensors.now)) c.args.tensors.now c.loop-i.i c.index-tensors-i.result c.loop-i-test.true c.index-tensors-i.is (sym c.in_default.ensures) c.loop-i.invariant

pub returns : goal.returns
returns c =
    let e : length c.args.tensors.now ≡ c.loop-i.i = omega arith in
    search_exact (map plain_tensor c.args.tensors.now) ∙ nowhere (is_twice (map plain_tensor c.args.tensors.now)) c.args.tensors.now c.loop-i.i e c.loop-i.invariant
