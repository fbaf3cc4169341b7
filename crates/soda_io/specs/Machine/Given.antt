-- The ids that files in memory gave.
use Rattle.std.specs.Prelude.{◌≡◌, ℕ, ◌<◌, true, List, length, is_some}
use Rattle.std.specs.BTreeMap.{BTreeMap}
use Rattle.std.specs.declared.string.String.{String}
use Rattle.std.specs.declared.vec.Vec.{Vec}
use Rattle.std.specs.declared.alloc.Global.{Global}
use Rattle.soda_io.specs.Held.{held}
use Rattle.soda_io.specs.Ids.{name_at}
use Rattle.soda_io.specs.declared.mem_id.MemId.{MemId}

-- the name of each id is there
abbrev pub AllHeld : List MemId → BTreeMap (String Global) (Vec ℕ Global) → Type 0
AllHeld is files = (k : ℕ) → k < length is → is_some (held files (name_at is k)) ≡ true
