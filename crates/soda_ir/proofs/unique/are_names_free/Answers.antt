use Rattle.std.proofs.Common.{◌++◌, ◌∙◌, ap, map}
use Rattle.soda_ir.specs.Program.{plain_param, plain_tensor}
use Rattle.soda_ir.specs.Valid.{are_free_names}
use Rattle.soda_ir.proofs.FreeNames.{front_spoiled}
use Rattle.soda_ir.proofs.unique.are_names_free.Goals as goal

pub returns-then-not-branch : goal.returns-then-not-branch
returns-then-not-branch c =
    front_spoiled (map (λ q. q.name) (map plain_param c.args.params.now)) (map (λ t. t.name) (map plain_tensor c.args.tensors.now)) c.in_ok-add_params.field-0 (c.in_ok-add_params.ensures.free ∙ ap (λ table. are_free_names (table ++ map (λ q. q.name) (map plain_param c.args.params.now))) c.new-table.ensures) c.if-not-branch.true
