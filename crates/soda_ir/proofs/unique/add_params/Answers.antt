use Rattle.std.proofs.Common.{◌++◌, ◌+◌, [], ◌∷◌, ◌∙◌, ap, arith, map, take, drop}
use Rattle.soda_ir.specs.Program.{plain_param}
use Rattle.soda_ir.specs.Valid.{are_free_names}
use Rattle.soda_ir.proofs.FreeNames.{param_names_split, spoiled}
use Rattle.soda_ir.proofs.unique.add_params.Goals as goal

pub returns-then-not-free-clause-free : goal.returns-then-not-free-clause-free
returns-then-not-free-clause-free c =
    let i = c.loop-param.param-index in
    spoiled c.args.table.now (map (λ q. q.name) (map plain_param (take i c.args.params.now))) (map (λ q. q.name) (map plain_param (drop (i + 1) c.args.params.now))) _ c.loop-param.table c.param-item.result.name c.in_ok-free.free c.loop-param.invariant.named (
    param_names_split c.args.params.now i c.param-item.result (omega arith) c.param-item.is
    ) (c.in_ok-free.ensures.free ∙ ap (λ w. are_free_names (c.loop-param.table ++ w ∷ [])) c.as_slice.ensures) c.if-not-free.true
