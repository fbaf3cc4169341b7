-- The example network, put together from its parts.
use Rattle.std.proofs.Common.{◌≡◌, ℕ, List, [], ◌∷◌, ap, ◌∙◌}
use Rattle.net_ir.specs.Nets.{Net}
use Rattle.net_ir.specs.Worked.{two_reads}
use Rattle.net_ir.specs.declared.network.Module.{Module}
use Rattle.net_ir.specs.declared.network.Queue.{Queue}

abbrev one : Queue
one = record { from = 0; to = 3; port = 0; capacity = 1; lead = 4 }

abbrev two : Queue
two = record { from = 1; to = 2; port = 0; capacity = 1; lead = 0 }

abbrev three : ℕ → Queue
three capacity = record { from = 2; to = 0; port = 0; capacity = capacity; lead = 0 }

abbrev four : Queue
four = record { from = 2; to = 3; port = 1; capacity = 1; lead = 0 }

abbrev five : Queue
five = record { from = 3; to = 4; port = 0; capacity = 1; lead = 0 }

-- its modules and its five queues make the example network
pub two_reads_from : (capacity : ℕ) (modules : List Module) (queues : List Queue) (a b c d e : Queue)
    → modules ≡ (two_reads capacity).modules → queues ≡ a ∷ b ∷ c ∷ d ∷ e ∷ []
    → a ≡ one → b ≡ two → c ≡ three capacity → d ≡ four → e ≡ five
    → ◌≡◌ {A = Net} (record { modules = modules; queues = queues }) (two_reads capacity)
two_reads_from capacity modules queues a b c d e m q pa pb pc pd pe =
    ap (λ xs. record { modules = xs; queues = queues }) m
    ∙ ap (λ xs. record { modules = (two_reads capacity).modules; queues = xs })
    (q ∙ ap (λ x. x ∷ b ∷ c ∷ d ∷ e ∷ []) pa ∙ ap (λ x. one ∷ x ∷ c ∷ d ∷ e ∷ []) pb ∙ ap (λ x. one ∷ two ∷ x ∷ d ∷ e ∷ []) pc
    ∙ ap (λ x. one ∷ two ∷ three capacity ∷ x ∷ e ∷ []) pd ∙ ap (λ x. one ∷ two ∷ three capacity ∷ four ∷ x ∷ []) pe)
