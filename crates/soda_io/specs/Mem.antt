-- What files in memory stand for.
use Rattle.std.specs.Prelude.{◌≡◌, ◌⊎◌, ℕ, ◌≤◌, List, length, None, Contains}
use Rattle.soda_io.specs.Limits.{most_ids}
use Rattle.soda_io.specs.Store.{Store}
use Rattle.soda_io.specs.Held.{held}
use Rattle.soda_io.specs.Ids.{name_at, opened_at, place_at}
use Rattle.soda_io.specs.declared.mem_files.MemFiles.{MemFiles}

-- the bytes of the names, the ids and the journal
abbrev pub mem_store : MemFiles → Store
mem_store m = record {
  bytes = held m.files;
  name = name_at m.ids.items;
  opened = opened_at m.ids.items;
  place = place_at m.ids.items;
  calls = m.calls.items;
}

-- how many ids were given
abbrev pub mem_given : MemFiles → ℕ
mem_given m = length m.ids.items

-- the numbers of the calls that fail
abbrev pub mem_fails : MemFiles → List ℕ
mem_fails m = m.fails.items

-- the count of faults
abbrev pub mem_faults : MemFiles → ℕ
mem_faults m = m.faults

-- the next call's number, which is the journal's length, is one of those that fail
abbrev pub NextFails : MemFiles → Type 0
NextFails m = Contains (mem_fails m) (length m.calls.items)

-- an `open` fails: its number is listed, the name isn't held, or no id is left
abbrev pub OpenFails : MemFiles → List ℕ → Type 0
OpenFails m name = NextFails m ⊎ (held m.files name ≡ None) ⊎ (most_ids ≤ mem_given m)

-- a `create` fails: its number is listed, or no id is left
abbrev pub CreateFails : MemFiles → Type 0
CreateFails m = NextFails m ⊎ (most_ids ≤ mem_given m)
