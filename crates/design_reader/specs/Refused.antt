-- The refused line of a text: of the lines that the text of a design has, in order, the first that breaks its rule.
-- It stands for each line before it, what the text has of it, and for the line itself, that the text does not go on
-- with one that may follow.
use Rattle.std.specs.Prelude.{◌≡◌, ℕ, suc, ◌+◌, ◌<◌, ◌≤◌, List, [], ◌∷◌, ◌++◌, codes, length, None}
use Rattle.delay_net.specs.Certificate.{Fits}
use Rattle.delay_net.specs.Windows.{total_storage}
use Rattle.design_lines.specs.Lines.{GoesOn, IsWritten, program_lines}
use Rattle.design_lines.specs.PlanLines.{plan_lines, total_line}
use Rattle.module_text.specs.Designs.{IsDesign, PlainDesign}
use Rattle.module_text.specs.Texts.{Version, design_lines, lines_behind, lines_to_total}
use Rattle.net_build.specs.Limits.{limit_passed}
use Rattle.net_build.specs.Planned.{plan_of}
use Rattle.design_reader.specs.Limits.{most_design_text}
use Rattle.design_reader.specs.Stops.{IsReadStop, IsStop, IsTensorStop}
use Rattle.design_reader.specs.Told.{AreReadsTold, AreStorages, AreTold, told_reads, told_tensors}
use Rattle.soda_ir.specs.Program.{PlainProgram}
use Rattle.soda_print.specs.Canonical.{ended}
use Rattle.time_stages.specs.Staged.{staged_reads, staged_tensors, staged_widths}

-- how many lines stand before those of the staged tensors: the first, and those of the program
abbrev pub lines_before : PlainProgram → ℕ
lines_before p = suc (length (program_lines p))

-- the text goes on with a line for each staged tensor, with these delays and storages, and then with the rest
pub record HasTensors (p : PlainProgram) (text delays storages rest : List ℕ) : Type 0 where
  pub told : AreTold p delays storages
  pub all : length delays ≡ length (staged_tensors p)
  pub text_is : text ≡ ended (told_tensors p delays storages) ++ rest

-- the text goes on with a line for each read, with these holds and needs, and then with the rest
pub record HasReads (p : PlainProgram) (delays text hold need rest : List ℕ) : Type 0 where
  pub told : AreReadsTold (staged_reads p) delays hold need
  pub all : length hold ≡ length (staged_reads p)
  pub text_is : text ≡ ended (told_reads (staged_reads p) delays hold need) ++ rest

-- The line of the total may follow: the storages are the greatest ages, the certificate fits, no limit of networks is
-- passed, and the text goes on with the line of the storage in bits.
pub record HasTotal (p : PlainProgram) (delays storages hold need text : List ℕ) : Type 0 where
  pub ages : AreStorages (staged_reads p) delays storages
  pub fits : Fits (staged_widths p) (staged_reads p) delays hold need
  pub within : limit_passed (plan_of p delays) ≡ None
  pub line : GoesOn (total_line (total_storage (staged_widths p) (staged_reads p) delays) ∷ []) text

-- the design of a program under these delays and with this certificate
abbrev pub design_of : PlainProgram → (delays hold need : List ℕ) → PlainDesign
design_of p delays hold need = record { program = p; delays = delays; hold = hold; need = need }

-- Behind the lines of this program, a text is refused: at the line of a staged tensor or of a read, at that of the
-- total, at one of those behind the total, or behind the last.
pub data IsRefusedBehind (v : Version) (p : PlainProgram) (text : List ℕ) : ℕ → Type 0 where
  at_tensor : {line : ℕ} → IsTensorStop p text (lines_before p) line → IsRefusedBehind v p text line
  at_read : {line : ℕ} (delays storages rest : List ℕ) → HasTensors p text delays storages rest
      → IsReadStop (staged_reads p) delays rest (lines_before p + length delays) line → IsRefusedBehind v p text line
  at_total : (delays storages hold need middle rest : List ℕ) → HasTensors p text delays storages middle
      → HasReads p delays middle hold need rest → (HasTotal p delays storages hold need rest → ⊥)
      → IsRefusedBehind v p text (suc (lines_before p + length delays + length hold))
  at_network : {line : ℕ} (delays hold need rest : List ℕ) → IsDesign (design_of p delays hold need)
      → text ≡ ended (plan_lines p delays hold need) ++ rest
      → IsStop (lines_behind v (design_of p delays hold need)) rest
      (length (lines_to_total v (design_of p delays hold need))) line
      → IsRefusedBehind v p text line
  past_end : (delays hold need : List ℕ) (byte : ℕ) (rest : List ℕ) → IsDesign (design_of p delays hold need)
      → text ≡ ended (plan_lines p delays hold need ++ lines_behind v (design_of p delays hold need)) ++ byte ∷ rest
      → IsRefusedBehind v p text (suc (length (design_lines v (design_of p delays hold need))))

-- A text is refused: at line 0 where it is too long, at the first line where it does not begin with that, at the second
-- where the lines of no program follow, or behind the lines of a program.
pub data IsRefusedLine (v : Version) (bytes : List ℕ) : ℕ → Type 0 where
  too_long : most_design_text < length bytes → IsRefusedLine v bytes 0
  at_first : length bytes ≤ most_design_text → (GoesOn (v.first ∷ []) bytes → ⊥) → IsRefusedLine v bytes 1
  at_program : (rest : List ℕ) → length bytes ≤ most_design_text → bytes ≡ (v.first ++ codes "\n") ++ rest
      → ((p : PlainProgram) → IsWritten p → GoesOn (program_lines p) rest → ⊥) → IsRefusedLine v bytes 2
  behind_program : {line : ℕ} (p : PlainProgram) (rest : List ℕ) → length bytes ≤ most_design_text → IsWritten p
      → bytes ≡ ended (v.first ∷ program_lines p) ++ rest → IsRefusedBehind v p rest line → IsRefusedLine v bytes line
