-- What a network is made from, and the taps of its lanes.
use Rattle.std.specs.Prelude.{◌≢◌, ◌<◌, ◌==◌, ℕ, List, map, filter, length, slice_index_or}
use Rattle.std.specs.List.{All}
use Rattle.delay_net.specs.Windows.{age, at_least_0}
use Rattle.delay_net.specs.declared.net.Read.{Read}
use Rattle.net_shape.specs.declared.kinds.Kind.{Kind}
use Rattle.net_shape.specs.declared.kinds.Kind.TheVariants.{Input, Inner}
use Rattle.reuse_chain.specs.Lanes.{taps_of}

-- the unroll factor, what each staged tensor is, the reads of the staged program, and the delays of a plan
pub record Plan : Type 0 where
  pub unroll : ℕ
  pub kinds : List Kind
  pub reads : List Read
  pub delays : List ℕ

-- what a tensor is
abbrev pub kind_at : Plan → ℕ → Kind
kind_at p v = slice_index_or p.kinds v Inner

-- the age of a read in cells
abbrev pub age_of : Plan → Read → ℕ
age_of p read = at_least_0 (age p.delays read)

-- the ages in cells of the reads of a tensor
abbrev pub ages_of : Plan → ℕ → List ℕ
ages_of p v = map (age_of p) (filter (λ read. read.of == v) p.reads)

-- the taps of a lane of a tensor
unfoldable pub taps_at : Plan → ℕ → ℕ → List ℕ
taps_at p v lane = taps_of (ages_of p v) lane p.unroll

-- there is a lane, a tensor reads earlier tensors alone, and an input reads none
pub record IsPlan (p : Plan) : Type 0 where
  pub lanes : 0 < p.unroll
  pub of : All (λ read. read.of < read.reader) p.reads
  pub reader : All (λ read. read.reader < length p.kinds) p.reads
  pub inputs : All (λ read. kind_at p read.reader ≢ Input) p.reads
