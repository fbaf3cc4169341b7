use Rattle.std.proofs.Common.{◌++◌, [], ◌∷◌, ap, sym, ◌∙◌}
use Rattle.std.proofs.lemmas.List.{map_more}
use Rattle.net_ir.specs.declared.network.Module.{Module}
use Rattle.net_ir.specs.declared.network.Module.TheVariants.{Sink}
use Rattle.net_ir.specs.States.{unmoved}
use Rattle.net_ir.proofs.counts.unmoved_turns.Goals as goal

pub loop-module-preserved : goal.loop-module-preserved
loop-module-preserved c =
    c.in_ok-push.ensures.items ∙ ap (λ xs. xs ++ unmoved ∷ []) c.loop-module.invariant
    ∙ sym (map_more (λ (_ : Module). unmoved) c.args.modules.now c.loop-module._module-index (Sink 0) c.loop-module-test.true)
