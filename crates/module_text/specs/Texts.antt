-- The text of a design: its lines, each ended by a line feed. It is a function of the design, so that there is one
-- spelling of it.
use Rattle.std.specs.Prelude.{◌≡◌, ℕ, List, [], ◌∷◌, ◌++◌, codes}
use Rattle.net_build.specs.Planned.{net_under}
use Rattle.net_ir.specs.Nets.{Net}
use Rattle.design_lines.specs.PlanLines.{plan_lines}
use Rattle.module_text.specs.Designs.{IsDesign, PlainDesign}
use Rattle.soda_print.specs.Canonical.{ended}
use Rattle.design_lines.specs.Lines.{IsWritten, network_lines, program_lines}

-- a version of the text: its first line, and the lines of a network that stand behind the total
pub record Version : Type 0 where
  pub first : List ℕ
  pub behind_total : Net → List (List ℕ)

-- the first version has none behind the total
abbrev pub version_1 : Version
version_1 = record { first = codes "soda 1"; behind_total = λ net. [] }

-- the lines of the network of a design, behind the total
abbrev pub lines_behind : Version → PlainDesign → List (List ℕ)
lines_behind v d = v.behind_total (net_under d.program d.delays) ++ network_lines (net_under d.program d.delays)

-- the lines up to the total
abbrev pub lines_to_total : Version → PlainDesign → List (List ℕ)
lines_to_total v d = v.first ∷ (program_lines d.program ++ plan_lines d.program d.delays d.hold d.need)

-- the lines of a design: the first, those of its program, those of its plan, those of its network, and the last
abbrev pub design_lines : Version → PlainDesign → List (List ℕ)
design_lines v d = lines_to_total v d ++ lines_behind v d

-- the text of a design
unfoldable pub design_text : Version → PlainDesign → List ℕ
design_text v d = ended (design_lines v d)

-- the bytes are the text of a design
pub record IsDesignText (v : Version) (bytes : List ℕ) (d : PlainDesign) : Type 0 where
  pub design : IsDesign d
  pub program : IsWritten d.program
  pub text : bytes ≡ design_text v d
