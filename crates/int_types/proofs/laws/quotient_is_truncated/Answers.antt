use Rattle.int_types.proofs.Truncated.{truncated}
use Rattle.int_types.proofs.laws.quotient_is_truncated.Goals as goal

pub returns : goal.returns
returns c = truncated
