-- The limits of a graph, a name each. Those of a net are in `delay_net`.
use Rattle.std.specs.Prelude.{ℕ, ◌^◌}

-- a graph has at most this many nodes: two for each tensor of a net
abbrev pub most_nodes : ℕ
most_nodes = 1024

-- a graph has at most this many arcs: four for each read of a net
abbrev pub most_arcs : ℕ
most_arcs = 65536

-- the length of an arc is within plus or minus this
abbrev pub most_arc_length : ℕ
most_arc_length = 2 ^ 42

-- the greatest length of a walk in a graph without positive cycles is at most this
abbrev pub most_length : ℕ
most_length = 2 ^ 52
