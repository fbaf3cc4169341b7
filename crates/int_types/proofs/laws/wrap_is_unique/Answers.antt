use Rattle.int_types.proofs.Wrapped.{wrapped_wraps, wrapped_is, wrapped_same}
use Rattle.int_types.proofs.laws.wrap_is_unique.Goals as goal

pub returns-clause-there : goal.returns-clause-there
returns-clause-there c = wrapped_wraps

pub returns-clause-one : goal.returns-clause-one
returns-clause-one c = λ t v r h w. wrapped_is t v r h.some w

pub returns-clause-keeps_range : goal.returns-clause-keeps_range
returns-clause-keeps_range c = wrapped_same
