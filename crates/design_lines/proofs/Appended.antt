-- Texts that are put together part by part.
use Rattle.std.proofs.Common.{append-nil, append_assoc}

pub ruleset appended = (append-nil, append_assoc)
