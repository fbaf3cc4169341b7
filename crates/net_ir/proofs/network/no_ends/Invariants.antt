use Rattle.std.proofs.Common.{◌≡◌, [], length, All}
use Rattle.net_ir.proofs.network.no_ends.Given as goal

abbrev pub invariant-loop-module : goal.invariant-loop-module
invariant-loop-module l =
    (length l.ends.items ≡ l._module) × All (λ e. (e.entrances.items ≡ []) × (e.exits.items ≡ [])) l.ends.items
