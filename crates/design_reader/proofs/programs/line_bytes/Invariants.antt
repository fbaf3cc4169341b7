use Rattle.std.proofs.Common.{◌≡◌, ◌+◌, drop, option_map}
use Rattle.design_lines.specs.machine.Reading.{line_bytes}
use Rattle.design_reader.proofs.programs.line_bytes.Given as goal

-- the bytes so far, and those of the lines that are left
abbrev pub invariant-loop-at : goal.invariant-loop-at
invariant-loop-at l = line_bytes l.lines l.text ≡ option_map (λ i. l.at + i) (line_bytes l.left (drop l.at l.text))
