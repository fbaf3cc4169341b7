-- Numbers of reads as weights.
use Rattle.std.specs.Prelude.{ℕ, ◌+◌, ◌*◌, List, [], ◌∷◌}
use Rattle.delay_net.specs.declared.net.Read.{Read}

-- over the reads, number times what f gives
unfoldable pub weighed : (Read → ℕ) → List Read → List ℕ → ℕ
weighed f [] numbers = 0
weighed f (read ∷ reads) [] = 0
weighed f (read ∷ reads) (n ∷ numbers) = n * f read + weighed f reads numbers
