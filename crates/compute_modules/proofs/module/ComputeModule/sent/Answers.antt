use Rattle.std.proofs.Common.{refl, sym, ◌∙◌, ap, rules, FitsSigned}
use Rattle.std.specs.Int.{w128}
use Rattle.std.proofs.lemmas.Int.{to_z-of_z}
use Rattle.int_types.specs.Ranges.{wrapped}
use Rattle.compute_modules.specs.declared.module.ComputeModule.{ComputeModule}
use Rattle.compute_modules.specs.declared.side.Spot.TheVariants.{Inside, Nowhere, Outside}
use Rattle.compute_modules.proofs.Modules.{by_its_spot, same_value}
use Rattle.compute_modules.proofs.module.ComputeModule.sent.Goals as goal

pub returns-in-Nowhere-clause-sent : goal.returns-in-Nowhere-clause-sent
returns-in-Nowhere-clause-sent c = by_its_spot c.args.self.now c.args.ports.now Nowhere (sym c.in-Nowhere.is ∙ c.spot.ensures)

pub returns-in-Inside-clause-sent : goal.returns-in-Inside-clause-sent
returns-in-Inside-clause-sent c =
    let fits : FitsSigned w128 c.wrap.result = search rules in
    let inner : FitsSigned w128 c.value.result = search rules in
    to_z-of_z w128 c.wrap.result fits ∙ c.wrap.ensures.value
    ∙ ap (wrapped c.args.self.now.ty) (to_z-of_z w128 c.value.result inner ∙ c.value.ensures.value)
    ∙ by_its_spot c.args.self.now c.args.ports.now Inside (sym c.in-Inside.is ∙ c.spot.ensures)

pub returns-in-Inside-clause-value : goal.returns-in-Inside-clause-value
returns-in-Inside-clause-value c =
    let m = c.args.self.now in
    let after : ComputeModule = record { ty = m.ty; formula = c.value.new.self; border = m.border; walk = m.walk; ports = m.ports } in
    same_value m after refl c.value.ensures.code c.value.ensures.taps refl refl

pub returns-in-Outside-clause-sent : goal.returns-in-Outside-clause-sent
returns-in-Outside-clause-sent c =
    let fits : FitsSigned w128 c.border_value.result = search rules in
    to_z-of_z w128 c.border_value.result fits ∙ c.border_value.ensures
    ∙ by_its_spot c.args.self.now c.args.ports.now Outside (sym c.in-Outside.is ∙ c.spot.ensures)
