-- The limit of the texts that are read, and of the queues that a design has.
use Rattle.std.specs.Prelude.{ℕ}

-- the bytes of the text of a design, at the most
abbrev pub most_design_text : ℕ
most_design_text = 201326592

-- the queues of the network of a design, at the most
abbrev pub most_queues : ℕ
most_queues = 1212416
