use Rattle.std.proofs.Common.{◌≡◌, length, nat_eq, sym, unwrap_or, arith}
use Rattle.std.specs.HashMap.{get}
use Rattle.soda_ir.specs.Tree.{formula_of}
use Rattle.share_shape.specs.machine.Marks.{is_repeated}
use Rattle.share_shape.proofs.Passing.{is_here, not_here, nowhere}
use Rattle.share_shape.proofs.sites.first_candidate.Goals as goal

pub returns-in-Some : goal.returns-in-Some
returns-in-Some c =
    is_here (is_repeated (λ q. unwrap_or (get nat_eq c.args.counts.now q) 0)) c.args.tensors.now c.loop-i.i c.index-tensors-i.result c.loop-i-test.true c.index-tensors-i.is (formula_of c.in-Some.compound.now) (sym c.in-Some.ensures) c.loop-i.invariant

pub loop-i-preserved : goal.loop-i-preserved
loop-i-preserved c =
    not_here (is_repeated (λ q. unwrap_or (get nat_eq c.args.counts.now q) 0)) c.args.tensors.now c.loop-i.i c.index-tensors-i.result c.loop-i-test.true c.index-tensors-i.is (sym c.in_default.ensures) c.loop-i.invariant

pub returns : goal.returns
returns c =
    let e : length c.args.tensors.now ≡ c.loop-i.i = omega arith in
    nowhere (is_repeated (λ q. unwrap_or (get nat_eq c.args.counts.now q) 0)) c.args.tensors.now c.loop-i.i e c.loop-i.invariant
