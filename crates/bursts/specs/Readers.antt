-- What a reader stands for.
use Rattle.std.specs.Prelude.{◌≡◌, ℕ, Bool, List, ℤ}
use Rattle.std.specs.Prelude.{None}
use Rattle.bursts.specs.Blocks.{Kind}
use Rattle.bursts.specs.Machine.Sources.{SourceAt, raw_kind, text_kind}
use Rattle.bursts.specs.declared.reader.CellReader.{CellReader}
use Rattle.bursts.specs.declared.source.Source.{Source}
use Rattle.bursts.specs.declared.source.Source.TheVariants.{Text, Raw}

-- what it was made for, with this id
abbrev pub kind_of : ℕ → Source → Kind
kind_of id (Text r) = text_kind r id
kind_of id (Raw r) = raw_kind r id

abbrev pub kind : CellReader → Kind
kind r = kind_of r.id r.source

-- how many cells it has given
abbrev pub given_of : Source → ℕ
given_of (Text r) = r.scan.number
given_of (Raw r) = r.number

abbrev pub given_by : CellReader → ℕ
given_by r = given_of r.source

-- it has met the end
abbrev pub has_ended : Source → Bool
has_ended (Text r) = r.feed.ended
has_ended (Raw r) = r.feed.ended

-- it has met the end of its file
abbrev pub is_done : CellReader → Bool
is_done r = has_ended r.source

-- it stands at this place of a file with these bytes, and has given the cells before it; unless it has answered an Err
abbrev pub StandsAt : CellReader → List ℕ → ℕ → Type 0
StandsAt r bytes place = r.fault ≡ None → (cells : List ℤ) × SourceAt r.source bytes place cells
