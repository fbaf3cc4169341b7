use Rattle.share_shape.proofs.Exact.{is_equal, passes}
use Rattle.share_shape.proofs.laws.shifts_are_tested.Goals as goal

pub returns : goal.returns
returns c = λ d f g h k l m. (λ e. is_equal d f g h k l m e, λ e. passes d f g h k e)
