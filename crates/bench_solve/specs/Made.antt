-- What the reads of a made net are.
use Rattle.std.specs.Prelude.{ℕ, ◌<◌}
use Rattle.delay_net.specs.Shape.{HasSmallOffset}
use Rattle.delay_net.specs.declared.net.Read.{Read}

-- a read by one of so many tensors of an earlier one, with a small offset
pub record IsReadBelow (tensors : ℕ) (read : Read) : Type 0 where
  pub order : read.of < read.reader
  pub reader : read.reader < tensors
  pub offset : HasSmallOffset read
