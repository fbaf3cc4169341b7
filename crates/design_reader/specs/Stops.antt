-- Where a text goes on with no line that may follow.
use Rattle.std.specs.Prelude.{◌≡◌, ℕ, suc, ◌+◌, ◌<◌, ◌^◌, List, [], ◌∷◌, ◌++◌, length, slice_get, Some, Result, Ok, Err}
use Rattle.delay_net.specs.Limits.{delay_end}
use Rattle.delay_net.specs.Windows.{MeetsWindow, age, at_least_0}
use Rattle.delay_net.specs.declared.net.Read.{Read}
use Rattle.design_lines.specs.PlanLines.{read_line, tensor_line}
use Rattle.soda_ir.specs.Program.{PlainProgram}
use Rattle.soda_print.specs.Canonical.{ended}
use Rattle.time_stages.specs.Staged.{staged_tensors}
use Rattle.time_stages.specs.declared.staging.StagedTensor.{StagedTensor}
use Rattle.design_lines.specs.Lines.{GoesOn}
use Rattle.design_reader.specs.Told.{AreReadsTold, AreTold, told_reads, told_tensors}
use Rattle.design_reader.specs.declared.fail.TextFail.{TextFail}
use Rattle.design_reader.specs.declared.fail.TextFail.TheVariants.{Refused, Memory}

-- a fact of the refused line, where there is one
abbrev pub IfRefused : {A : Type 0} → Result A TextFail → (ℕ → Type 0) → Type 0
IfRefused (Ok a) fact = Unit {0}
IfRefused (Err (Refused line)) fact = fact line
IfRefused (Err Memory) fact = Unit {0}

-- the text goes on with the first of these lines, but not with the one that follows; so many lines stand before
pub record IsStop (lines : List (List ℕ)) (text : List ℕ) (before line : ℕ) : Type 0 where
  pub kept : List (List ℕ)
  pub next : List ℕ
  pub after : List (List ℕ)
  pub rest : List ℕ
  pub lines_are : lines ≡ kept ++ next ∷ after
  pub text_is : text ≡ ended kept ++ rest
  pub stops : GoesOn (next ∷ []) rest → ⊥
  pub number : line ≡ suc (before + length kept)

-- the same of the lines of staged tensors
pub record IsTensorStop (p : PlainProgram) (text : List ℕ) (before line : ℕ) : Type 0 where
  pub delays : List ℕ
  pub storages : List ℕ
  pub next : StagedTensor
  pub rest : List ℕ
  pub told : AreTold p delays storages
  pub next_is : slice_get (staged_tensors p) (length delays) ≡ Some next
  pub text_is : text ≡ ended (told_tensors p delays storages) ++ rest
  pub stops : (delay storage : ℕ) → delay < delay_end → storage < 2 ^ 64
      → GoesOn (tensor_line p (length delays) next delay storage ∷ []) rest → ⊥
  pub number : line ≡ suc (before + length delays)

-- the same of the lines of reads
pub record IsReadStop (reads : List Read) (delays text : List ℕ) (before line : ℕ) : Type 0 where
  pub hold : List ℕ
  pub need : List ℕ
  pub next : Read
  pub rest : List ℕ
  pub told : AreReadsTold reads delays hold need
  pub next_is : slice_get reads (length hold) ≡ Some next
  pub text_is : text ≡ ended (told_reads reads delays hold need) ++ rest
  pub stops : (h n : ℕ) → h < 2 ^ 32 → n < 2 ^ 32 → MeetsWindow delays next
      → GoesOn (read_line (length hold) next (at_least_0 (age delays next)) h n ∷ []) rest → ⊥
  pub number : line ≡ suc (before + length hold)
