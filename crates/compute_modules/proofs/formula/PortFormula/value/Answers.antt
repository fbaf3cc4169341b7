use Rattle.std.proofs.Common.{List, map, ◌∙◌, ap, rules, FitsSigned}
use Rattle.std.specs.Int.{w128}
use Rattle.std.proofs.lemmas.Int.{to_z-of_z}
use Rattle.std.proofs.lemmas.List.{with_items_is}
use Rattle.std.proofs.Math.IntN.{ℤ_set}
use Rattle.std.proofs.Math.Logic.{∥∥₁_elim}
use Rattle.compute_modules.specs.declared.tap.Tap.{Tap}
use Rattle.compute_modules.specs.pieces.Taps.{taken}
use Rattle.compute_modules.proofs.Formulas.{value_is}
use Rattle.compute_modules.proofs.formula.PortFormula.value.Goals as goal

pub returns-clause-value : goal.returns-clause-value
returns-clause-value c =
    let fits : FitsSigned w128 c.run_one.result = search rules in
    let words = c.deref-2.ensures.value ∙ with_items_is c.args.self.now.values c.take_all.new.values (c.take_all.auto.values ∙ c.deref_mut.ensures.len)
    ∙ c.take_all.ensures ∙ ap (λ (ts : List Tap). map (taken c.args.ports.now) ts) c.deref.ensures.value in
    to_z-of_z w128 c.run_one.result fits
    ∙ ∥∥₁_elim c.args.self.now.formula (ℤ_set _ _)
    (λ h. value_is c.args.self.now.code c.args.self.now.taps.items c.args.ports.now c.deref-2.result.now c.run_one.result words h c.run_one.ensures.value)
