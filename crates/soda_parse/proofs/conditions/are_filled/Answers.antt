use Rattle.std.proofs.Common.{◌∙◌, sym, ap}
use Rattle.std.specs.List.{list_all}
use Rattle.std.proofs.lemmas.List.Folds.{list_all-map}
use Rattle.soda_ir.specs.Program.{plain_tensor}
use Rattle.soda_ir.specs.Valid.{fills_burst}
use Rattle.soda_parse.proofs.conditions.are_filled.Goals as goal

pub returns : goal.returns
returns c =
    let p = c.args.parts.now in
    c.fill_burst.ensures ∙ (ap (λ ts. list_all (λ t. fills_burst p.burst (plain_tensor t)) ts) c.as_slice.ensures ∙
    sym (list_all-map (fills_burst p.burst) plain_tensor p.tensors))
