use Rattle.soda_eval.proofs.From.{cell_from, by_point}
use Rattle.soda_eval.proofs.laws.cell_from_any_store.Goals as goal

pub returns : goal.returns
returns c = record { cell = λ s g params region value m store f p x e h. cell_from s g params region value m store f p x e h; array = by_point }
