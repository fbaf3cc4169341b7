-- What a certificate leaves: a graph of two nodes a tensor, its delay and its delay plus storage.
use Rattle.std.specs.Prelude.{ℕ, zero, suc, ◌+◌, pos, neg_ℤ, List, [], ◌∷◌}
use Rattle.delay_net.specs.declared.net.Read.{Read}
use Rattle.flow_solve.specs.declared.arc.Arc.{Arc}

-- no arc in effect: a loop of length 0
abbrev pub loop_at : ℕ → Arc
loop_at node = record { from = node; to = node; length = pos 0 }

-- the window of a read
abbrev pub window_arc : Read → Arc
window_arc r = record { from = r.of; to = r.reader; length = r.offset }

-- the storage that a read needs
abbrev pub storage_arc : ℕ → Read → Arc
storage_arc n r = record { from = r.reader; to = n + r.of; length = neg_ℤ r.offset }

-- the window back, where it is needed
abbrev pub window_back : Read → ℕ → Arc
window_back r zero = loop_at r.reader
window_back r (suc need) = record { from = r.reader; to = r.of; length = neg_ℤ r.offset }

-- the storage back, where it is held
abbrev pub storage_back : ℕ → Read → ℕ → Arc
storage_back n r zero = loop_at r.reader
storage_back n r (suc hold) = record { from = n + r.of; to = r.reader; length = r.offset }

-- four arcs for each read
unfoldable pub residual : ℕ → List Read → List ℕ → List ℕ → List Arc
residual n [] hold need = []
residual n (r ∷ reads) [] need = []
residual n (r ∷ reads) (h ∷ hold) [] = []
residual n (r ∷ reads) (h ∷ hold) (m ∷ need) =
    window_arc r ∷ storage_arc n r ∷ window_back r m ∷ storage_back n r h ∷ residual n reads hold need
