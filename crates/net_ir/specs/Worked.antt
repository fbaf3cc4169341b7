-- A small network, as an example.
use Rattle.std.specs.Prelude.{ℕ, [], ◌∷◌}
use Rattle.net_ir.specs.declared.network.Module.TheVariants.{Source, Forward, Compute, Sink}
use Rattle.net_ir.specs.Nets.{Net}

-- The network of an output that reads an input at offsets 0 and 4: forward at tap 4, source, forward at tap 0, compute,
-- sink. Its queue 2, from the second forwarding module to the first, keeps the four cells between the two reads; here
-- it has any capacity.
abbrev pub two_reads : ℕ → Net
two_reads capacity = record {
  modules = Forward 0 0 4 ∷ Source 0 ∷ Forward 0 0 0 ∷ Compute 1 0 ∷ Sink 1 ∷ [];
  queues = record { from = 0; to = 3; port = 0; capacity = 1; lead = 4 }
      ∷ record { from = 1; to = 2; port = 0; capacity = 1; lead = 0 }
      ∷ record { from = 2; to = 0; port = 0; capacity = capacity; lead = 0 }
      ∷ record { from = 2; to = 3; port = 1; capacity = 1; lead = 0 }
      ∷ record { from = 3; to = 4; port = 0; capacity = 1; lead = 0 }
      ∷ [];
}
