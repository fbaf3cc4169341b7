-- The lines of a design that are not those of its plan: of its program, and of its network. Each kind of line is a
-- function of what stands in it, and of its number.
use Rattle.std.specs.Prelude.{◌≡◌, ℕ, List, [], ◌∷◌, ◌++◌, codes, length}
use Rattle.std.specs.Fmt.{decimal}
use Rattle.net_ir.specs.Nets.{Net}
use Rattle.net_ir.specs.declared.network.Module.{Module}
use Rattle.net_ir.specs.declared.network.Module.TheVariants.{Source, Forward, Compute, Sink}
use Rattle.net_ir.specs.declared.network.Queue.{Queue}
use Rattle.design_lines.specs.PlanLines.{numbered}
use Rattle.soda_ir.specs.Program.{PlainProgram}
use Rattle.soda_ir.specs.Valid.{IsValid}
use Rattle.soda_print.specs.Canonical.{canonical_lines, ended}
use Rattle.soda_print.specs.Sized.{IsSizedProgram}

-- two numbers with a blank between them
abbrev pub two_numbers : ℕ → ℕ → List ℕ
two_numbers a b = decimal a ++ (codes " " ++ decimal b)

-- what a module is: its kind, its tensor, and where it has them its lane and its tap
abbrev pub module_words : Module → List ℕ
module_words (Source tensor) = codes "source " ++ decimal tensor
module_words (Forward tensor lane tap) = codes "forward " ++ (decimal tensor ++ (codes " " ++ two_numbers lane tap))
module_words (Compute tensor lane) = codes "compute " ++ two_numbers tensor lane
module_words (Sink tensor) = codes "sink " ++ decimal tensor

-- the line of a module
abbrev pub module_line : (number : ℕ) → Module → List ℕ
module_line number m = codes "module " ++ (decimal number ++ (codes " " ++ module_words m))

-- the two ends of a queue
abbrev pub end_words : Queue → List ℕ
end_words q = codes " from " ++ (decimal q.from ++ (codes " to " ++ decimal q.to))

-- the port of a queue, its capacity and its lead
abbrev pub port_words : Queue → List ℕ
port_words q =
    codes " port " ++ (decimal q.port ++ (codes " capacity " ++ (decimal q.capacity
    ++ (codes " lead " ++ decimal q.lead))))

-- the line of a queue
abbrev pub queue_line : (number : ℕ) → Queue → List ℕ
queue_line number q = (codes "queue " ++ decimal number) ++ (end_words q ++ port_words q)

-- the lines of a network, and the last
abbrev pub network_lines : Net → List (List ℕ)
network_lines net =
    numbered module_line 0 net.modules ++ (numbered queue_line 0 net.queues ++ codes "end" ∷ [])

-- how many lines the canonical text of the program has
abbrev pub program_line : PlainProgram → List ℕ
program_line p = codes "program " ++ decimal (length (canonical_lines p))

-- that, and these lines
abbrev pub program_lines : PlainProgram → List (List ℕ)
program_lines p = program_line p ∷ canonical_lines p

-- A program as the code can hold it: valid, its numbers within their types. Its canonical text is accepted as this
-- program and as no other.
pub record IsWritten (p : PlainProgram) : Type 0 where
  pub valid : IsValid p
  pub sized : IsSizedProgram p

-- the text goes on with these lines, each ended by a line feed
abbrev pub GoesOn : List (List ℕ) → List ℕ → Type 0
GoesOn lines text = (rest : List ℕ) × (text ≡ ended lines ++ rest)
