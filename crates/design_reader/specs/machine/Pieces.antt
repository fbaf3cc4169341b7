-- What the reader has in hand between its steps.
use Rattle.std.specs.Prelude.{◌≡◌, ℕ, suc, ◌+◌, List, ◌∷◌, ◌++◌, codes, length}
use Rattle.std.specs.Fmt.{decimal}
use Rattle.delay_net.specs.Certificate.{Fits}
use Rattle.delay_net.specs.Windows.{total_storage}
use Rattle.design_lines.specs.Lines.{GoesOn, IsWritten, program_lines}
use Rattle.design_lines.specs.PlanLines.{plan_lines, total_line}
use Rattle.design_reader.specs.Refused.{HasReads, HasTensors, IsRefusedBehind, lines_before}
use Rattle.design_reader.specs.Stops.{IsStop}
use Rattle.design_reader.specs.Told.{AreStorages}
use Rattle.module_text.specs.Designs.{IsDesign, PlainDesign}
use Rattle.module_text.specs.Texts.{lines_behind, version_1}
use Rattle.soda_ir.specs.Program.{PlainProgram}
use Rattle.soda_print.specs.Canonical.{canonical, canonical_lines, ended}
use Rattle.time_stages.specs.Staged.{staged_reads, staged_widths}

-- A text cut behind as many lines as it says that its program has: these lines, and the rest. No program's lines are
-- others.
pub record IsCut (text : List ℕ) (lines : ℕ) (program rest : List ℕ) : Type 0 where
  pub text_is : text ≡ ((codes "program " ++ decimal lines) ++ codes "\n") ++ (program ++ rest)
  pub only : (p : PlainProgram) → IsWritten p → GoesOn (program_lines p) text
      → (canonical p ≡ program) × (length (canonical_lines p) ≡ lines)

-- The lines of a plan, which is one of a design but for the limits of networks, and then the rest. With what stands
-- before they are so many.
pub record IsPlanTold (p : PlainProgram) (text delays hold need rest : List ℕ) (lines : ℕ) : Type 0 where
  pub storages : List ℕ
  pub middle : List ℕ
  pub last : List ℕ
  pub tensors : HasTensors p text delays storages middle
  pub reads : HasReads p delays middle hold need last
  pub ages : AreStorages (staged_reads p) delays storages
  pub fits : Fits (staged_widths p) (staged_reads p) delays hold need
  pub last_is : last ≡ (total_line (total_storage (staged_widths p) (staged_reads p) delays) ++ codes "\n") ++ rest
  pub number : lines ≡ suc (lines_before p + length delays + length hold)

-- the text stops at one of these lines, or does not end behind the last
pub data IsEndStop (lines : List (List ℕ)) (text : List ℕ) (before : ℕ) : ℕ → Type 0 where
  within : {line : ℕ} → IsStop lines text before line → IsEndStop lines text before line
  past : (byte : ℕ) (rest : List ℕ) → text ≡ ended lines ++ byte ∷ rest
      → IsEndStop lines text before (suc (before + length lines))

-- behind the lines of its program, the text is that of a design
pub record IsDesignBehind (text : List ℕ) (d : PlainDesign) : Type 0 where
  pub design : IsDesign d
  pub text_is : text ≡ ended (plan_lines d.program d.delays d.hold d.need ++ lines_behind version_1 d)

-- behind its first line, the text is that of a design
pub record IsTextBehind (text : List ℕ) (d : PlainDesign) : Type 0 where
  pub written : IsWritten d.program
  pub rest : List ℕ
  pub behind : IsDesignBehind rest d
  pub text_is : text ≡ ended (program_lines d.program) ++ rest

-- behind the first line, a text is refused at this line
pub data IsRefusedFirst (text : List ℕ) : ℕ → Type 0 where
  at_program : ((p : PlainProgram) → IsWritten p → GoesOn (program_lines p) text → ⊥) → IsRefusedFirst text 2
  behind_program : {line : ℕ} (p : PlainProgram) (rest : List ℕ) → IsWritten p
      → text ≡ ended (program_lines p) ++ rest → IsRefusedBehind version_1 p rest line → IsRefusedFirst text line
