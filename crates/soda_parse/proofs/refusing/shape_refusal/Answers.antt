use Rattle.soda_parse.specs.Text.{shape_refusal}
use Rattle.soda_parse.proofs.Shapes.{shaped}
use Rattle.soda_parse.proofs.refusing.shape_refusal.Goals as goal

pub returns : goal.returns
unfolding shape_refusal
returns c =
    shaped _ _ _ _ _ _ _ _ _ c.shape_by-refusal.ensures
    c.in_ok-circle.ensures c.iterate_mismatch-iterate.ensures c.preserve_mismatch-preserve.ensures c.wrong_tile-tile.ensures
