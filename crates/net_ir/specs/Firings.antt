-- The events of a firing.
use Rattle.std.specs.Prelude.{◌-◌, nat_le, ℕ, List, [], ◌∷◌, ◌++◌, map, filter}
use Rattle.net_ir.specs.declared.events.Event.{Event}
use Rattle.net_ir.specs.declared.events.Event.TheVariants.{Take, Send, Close}
use Rattle.net_ir.specs.Nets.{Net, age_at, queue_at, entrances, exits}

-- the queues that firing k of a module takes from: those with a lead of at most k, by port
unfoldable pub takes : Net → ℕ → ℕ → List ℕ
takes net m k = filter (λ q. nat_le (queue_at net.queues q).lead k) (entrances net m)

-- the events of firing k of a module: its takes by port, then its sends in queue order, then the closing
unfoldable pub events : Net → ℕ → ℕ → List Event
events net m k = map Take (takes net m k) ++ (map Send (exits net m) ++ Close ∷ [])

-- how many firings a module has: as many as a module of age 0, less its age
abbrev pub firings_at : Net → ℕ → ℕ → ℕ
firings_at net firings m = firings - age_at net m
