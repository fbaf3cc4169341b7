use Rattle.std.proofs.Common.{map, arith}
use Rattle.std.proofs.lemmas.List.{length-map}
use Rattle.soda_ir.specs.Program.{plain_tensor}
use Rattle.soda_ir.specs.Tree.{formula_of}
use Rattle.share_shape.specs.Compounds.{Site, site}
use Rattle.share_shape.proofs.CallerLemmas.{found_there}
use Rattle.share_expr.specs.Working.{with_tensors}
use Rattle.share_expr.proofs.Steps.{none_taken, taken, used_below}
use Rattle.share_expr.proofs.step.next_step.Goals as goal

pub shared_at-requires-clause-cell : goal.shared_at-requires-clause-cell
shared_at-requires-clause-cell c =
    let h = rw c.in-Some.is at c.in_ok-first_site.ensures in
    (found_there (map plain_tensor c.args.tensors.now) (site c.in-Some.at (formula_of c.in-Some.compound.now)) h).1

pub shared_at-requires-clause-there : goal.shared_at-requires-clause-there
shared_at-requires-clause-there c =
    let h = rw c.in-Some.is at c.in_ok-first_site.ensures in
    omega (arith, length-map c.args.tensors.now plain_tensor, (found_there (map plain_tensor c.args.tensors.now) (site c.in-Some.at (formula_of c.in-Some.compound.now)) h).0)

pub returns-in-None : goal.returns-in-None
returns-in-None c =
    let h = rw c.in-None.is at c.in_ok-first_site.ensures in
    none_taken (with_tensors c.args.parts.now c.args.tensors.now) h

pub returns-in_ok-tensors-in-Some : goal.returns-in_ok-tensors-in-Some
returns-in_ok-tensors-in-Some c =
    let h = rw c.in-Some.is at c.in_ok-first_site.ensures in
    let s : Site = site c.in-Some.at (formula_of c.in-Some.compound.now) in (
      taken c.args.parts.now c.args.tensors.now c.in_ok-tensors-in-Some.tensors.items s c.in_ok-tensors-in-Some.ensures h,
      used_below c.args.parts.now c.args.tensors.now c.in_ok-tensors-in-Some.tensors.items s c.in_ok-tensors-in-Some.ensures c.in_ok-number-in-Some.number _ c.in_ok-number-in-Some.ensures (omega arith),
    )
