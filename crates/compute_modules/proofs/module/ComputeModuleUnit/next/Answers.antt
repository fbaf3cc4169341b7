use Rattle.std.proofs.Common.{refl, ◌∙◌}
use Rattle.compute_modules.specs.declared.module.ComputeModule.{ComputeModule}
use Rattle.compute_modules.proofs.Modules.{same_value}
use Rattle.compute_modules.proofs.module.ComputeModuleUnit.next.Goals as goal

pub returns-clause-same : goal.returns-clause-same
returns-clause-same c =
    let m = c.sent-value.new.self in
    let after : ComputeModule = record { ty = m.ty; formula = m.formula; border = m.border; walk = c.go_on.new.self; ports = m.ports } in
    same_value m after refl refl refl refl c.go_on.ensures.sides ∙ c.sent-value.ensures.value
