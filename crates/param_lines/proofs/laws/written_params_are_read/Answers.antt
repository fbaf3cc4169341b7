use Rattle.param_lines.proofs.Written.{written_gives}
use Rattle.param_lines.proofs.laws.written_params_are_read.Goals as goal

pub returns : goal.returns
returns c = written_gives
