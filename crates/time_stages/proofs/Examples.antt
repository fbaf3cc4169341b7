-- The staged programs of small programs, by computation.
use Rattle.std.proofs.Common.{◌≡◌, ℕ, [], ◌∷◌, List, Some, None, ℤ, pos, negsuc, false, codes, refl}
use Rattle.delay_net.specs.declared.net.Read.{Read}
use Rattle.soda_words.specs.IntType.{IntType, int32}
use Rattle.soda_words.specs.declared.operators.BinOp.TheVariants.{Add, Div, Mul}
use Rattle.soda_ir.specs.declared.program.Border.{Border}
use Rattle.soda_ir.specs.declared.program.Border.TheVariants.{Ignore, Preserve}
use Rattle.soda_ir.specs.declared.program.Role.{Role}
use Rattle.soda_ir.specs.declared.program.Role.TheVariants.{Input, Local, Output}
use Rattle.soda_ir.specs.Counts.{is_reached, is_wanted, live_count, read_count}
use Rattle.soda_ir.specs.Formula.{Formula, number, read, binary}
use Rattle.soda_ir.specs.Program.{PlainProgram, PlainTensor}
use Rattle.time_stages.specs.declared.staging.StagedTensor.{StagedTensor}
use Rattle.time_stages.specs.Margins.{input_margins, margins_over}
use Rattle.time_stages.specs.Placing.{placed_in}
use Rattle.time_stages.specs.Staged.{reads_of, reads_of_first, staged_reads, staged_statements, staged_tensors, staged_widths}

abbrev uint : ℕ → IntType
uint bits = record { signed = false; bits = bits }

abbrev input : IntType → PlainTensor
input ty = record { name = codes "a"; ty = ty; role = Input; formula = None }

abbrev statement : Role → IntType → Formula → PlainTensor
statement role ty f = record { name = codes "b"; ty = ty; role = role; formula = Some f }

abbrev program : ℕ → Border → List ℕ → List PlainTensor → PlainProgram
program iterate border extents tensors = record {
  kernel = codes "k";
  burst = 8;
  unroll = 1;
  iterate = iterate;
  border = border;
  params = [];
  extents = extents;
  tensors = tensors;
}

-- the cell of a tensor in one dimension, and in two
abbrev at : ℕ → ℤ → Formula
at t d = read t (d ∷ [])

abbrev at2 : ℕ → ℤ → ℤ → Formula
at2 t d e = read t (d ∷ e ∷ [])

abbrev sum3 : Formula → Formula → Formula → Formula
sum3 a b c = binary Div (binary Add (binary Add a b) c) (number 3)

abbrev stage : (turn x : ℕ) → List ℕ → List ℕ → StagedTensor
stage turn x low high = record { turn = turn; tensor = x; low = low; high = high }

abbrev reads : (reader of : ℕ) → ℤ → Read
reads reader of offset = record { reader = reader; of = of; offset = offset }

-- a mean along the second dimension, and then one along the first
abbrev blur : PlainProgram
blur = program 1 Ignore (2000 ∷ []) (input (uint 16)
    ∷ statement Local (uint 16) (sum3 (at2 0 (pos 0) (pos 0)) (at2 0 (pos 0) (pos 1)) (at2 0 (pos 0) (pos 2)))
    ∷ statement Output (uint 16) (sum3 (at2 1 (pos 0) (pos 0)) (at2 1 (pos 1) (pos 0)) (at2 1 (pos 2) (pos 0))) ∷ [])

blur_tensors : staged_tensors blur ≡ stage 1 0 (0 ∷ 0 ∷ []) (0 ∷ 0 ∷ []) ∷ stage 1 1 (0 ∷ 0 ∷ []) (0 ∷ 2 ∷ [])
    ∷ stage 1 2 (0 ∷ 0 ∷ []) (2 ∷ 2 ∷ []) ∷ []
unfolding staged_tensors staged_statements placed_in margins_over input_margins is_reached is_wanted
blur_tensors = refl

blur_reads : staged_reads blur ≡ reads 1 0 (pos 0) ∷ reads 1 0 (pos 2000) ∷ reads 1 0 (pos 4000) ∷ reads 2 1 (pos 0)
    ∷ reads 2 1 (pos 1) ∷ reads 2 1 (pos 2) ∷ []
unfolding staged_reads reads_of_first reads_of staged_tensors staged_statements placed_in margins_over input_margins is_reached is_wanted
blur_reads = refl

blur_counts : (live_count blur ≡ 3) × (read_count blur ≡ 6)
unfolding live_count read_count is_reached is_wanted
blur_counts = (refl, refl)

-- a square, and the sum of it and of a cell far away
abbrev far : PlainProgram
far = program 1 Ignore [] (input (uint 8) ∷ statement Local int32 (binary Mul (at 0 (pos 0)) (at 0 (pos 0)))
    ∷ statement Output int32 (binary Add (at 1 (pos 0)) (at 0 (pos 1000))) ∷ [])

far_reads : staged_reads far ≡ reads 1 0 (pos 0) ∷ reads 2 0 (pos 1000) ∷ reads 2 1 (pos 0) ∷ []
unfolding staged_reads reads_of_first reads_of staged_tensors staged_statements placed_in margins_over input_margins is_reached is_wanted
far_reads = refl

far_widths : staged_widths far ≡ 8 ∷ 32 ∷ 32 ∷ []
unfolding staged_widths staged_tensors staged_statements placed_in margins_over input_margins is_reached is_wanted
far_widths = refl

-- the sum of the two neighbours, twice
abbrev neighbours : Border → PlainProgram
neighbours border = program 2 border [] (input (uint 8)
    ∷ statement Output (uint 8) (binary Add (at 0 (pos 1)) (at 0 (negsuc 0))) ∷ [])

-- under preserve each iteration reads its own place too, and its inputs have no margins
preserved_tensors : staged_tensors (neighbours Preserve) ≡ stage 1 0 (0 ∷ []) (0 ∷ []) ∷ stage 1 1 (1 ∷ []) (1 ∷ [])
    ∷ stage 2 1 (1 ∷ []) (1 ∷ []) ∷ []
unfolding staged_tensors staged_statements placed_in margins_over input_margins is_reached is_wanted
preserved_tensors = refl

preserved_reads : staged_reads (neighbours Preserve) ≡ reads 1 0 (negsuc 0) ∷ reads 1 0 (pos 0) ∷ reads 1 0 (pos 1)
    ∷ reads 2 1 (negsuc 0) ∷ reads 2 1 (pos 0) ∷ reads 2 1 (pos 1) ∷ []
unfolding staged_reads reads_of_first reads_of staged_tensors staged_statements placed_in margins_over input_margins is_reached is_wanted
preserved_reads = refl

ignored_tensors : staged_tensors (neighbours Ignore) ≡ stage 1 0 (0 ∷ []) (0 ∷ []) ∷ stage 1 1 (1 ∷ []) (1 ∷ [])
    ∷ stage 2 1 (2 ∷ []) (2 ∷ []) ∷ []
unfolding staged_tensors staged_statements placed_in margins_over input_margins is_reached is_wanted
ignored_tensors = refl

ignored_reads : staged_reads (neighbours Ignore) ≡ reads 1 0 (negsuc 0) ∷ reads 1 0 (pos 1) ∷ reads 2 1 (negsuc 0)
    ∷ reads 2 1 (pos 1) ∷ []
unfolding staged_reads reads_of_first reads_of staged_tensors staged_statements placed_in margins_over input_margins is_reached is_wanted
ignored_reads = refl

-- both outputs read the first input alone: the second output of the first iteration is not live, nor is the local; both
-- inputs are
abbrev one_sided : PlainProgram
one_sided = program 2 Ignore [] (input (uint 8) ∷ input (uint 8) ∷ statement Local (uint 8) (at 1 (pos 0))
    ∷ statement Output (uint 8) (at 0 (pos 1)) ∷ statement Output (uint 8) (binary Add (at 0 (pos 2)) (at 0 (pos 0))) ∷ [])

one_sided_tensors : staged_tensors one_sided ≡ stage 1 0 (0 ∷ []) (0 ∷ []) ∷ stage 1 1 (0 ∷ []) (0 ∷ [])
    ∷ stage 1 3 (0 ∷ []) (1 ∷ []) ∷ stage 2 3 (0 ∷ []) (2 ∷ []) ∷ stage 2 4 (0 ∷ []) (3 ∷ []) ∷ []
unfolding staged_tensors staged_statements placed_in margins_over input_margins is_reached is_wanted
one_sided_tensors = refl

one_sided_reads : staged_reads one_sided ≡ reads 2 0 (pos 1) ∷ reads 3 2 (pos 1) ∷ reads 4 2 (pos 0)
    ∷ reads 4 2 (pos 2) ∷ []
unfolding staged_reads reads_of_first reads_of staged_tensors staged_statements placed_in margins_over input_margins is_reached is_wanted
one_sided_reads = refl
