use Rattle.std.proofs.Common.{◌≡◌, ◌++◌, map, take}
use Rattle.soda_checks.specs.declared.outline.Site.TheVariants.{Size}
use Rattle.soda_checks.proofs.gather.add_sizes.Given as goal

abbrev pub invariant-loop-size : goal.invariant-loop-size
invariant-loop-size l = l.sites ≡ l.initial.sites ++ map (λ s. Size s) (take l.size-index l.sizes)
