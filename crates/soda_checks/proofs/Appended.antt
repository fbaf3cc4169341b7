-- Lists that are put together part by part.
use Rattle.std.proofs.Common.{append-nil, append_assoc}
use Rattle.soda_formula.proofs.CallerLemmas.{levels}

pub ruleset appended = (append-nil, append_assoc, levels)
