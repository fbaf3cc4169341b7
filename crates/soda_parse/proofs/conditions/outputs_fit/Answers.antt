use Rattle.soda_parse.proofs.SameTypes.{decided}
use Rattle.soda_parse.proofs.conditions.outputs_fit.Goals as goal

pub returns : goal.returns
returns c = decided c.in_ok-fit.fit _ _ (rw c.as_slice.ensures at c.in_ok-fit.ensures)
