-- Places of names as places of what has them.
use Rattle.soda_checks.proofs.CallerLemmas.{placed}

-- places among names are places of what has them
pub ruleset listed = (placed)
