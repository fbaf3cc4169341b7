-- The two tensors of a read.
use Rattle.std.specs.Prelude.{ℕ}
use Rattle.delay_net.specs.declared.net.Read.{Read}
use Rattle.delay_net.specs.declared.certificate.End.{End}
use Rattle.delay_net.specs.declared.certificate.End.TheVariants.{Reader, Of}

-- the tensor at an end of a read
abbrev pub tensor_at : End → Read → ℕ
tensor_at Reader read = read.reader
tensor_at Of read = read.of
