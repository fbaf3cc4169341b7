-- The lines of plans of small programs, by computation.
use Rattle.std.proofs.Common.{◌≡◌, ℕ, List, [], ◌∷◌, ◌++◌, Some, None, ℤ, pos, negsuc, false, codes, refl}
use Rattle.std.specs.Fmt.{digits}
use Rattle.delay_net.specs.Sums.{sum_below}
use Rattle.delay_net.specs.Windows.{storage_of, total_storage}
use Rattle.soda_words.specs.IntType.{IntType, int32}
use Rattle.soda_words.specs.declared.operators.BinOp.TheVariants.{Add, Div, Mul}
use Rattle.soda_ir.specs.declared.program.Border.TheVariants.{Ignore}
use Rattle.soda_ir.specs.declared.program.Role.TheVariants.{Input, Local, Output}
use Rattle.soda_ir.specs.Counts.{is_reached, is_wanted}
use Rattle.soda_ir.specs.Formula.{Formula, number, read, binary}
use Rattle.soda_ir.specs.Program.{PlainProgram, PlainTensor}
use Rattle.soda_print.specs.Canonical.{ended, tensor_name, type_text}
use Rattle.time_stages.specs.Margins.{input_margins, margins_over}
use Rattle.time_stages.specs.Placing.{placed_in}
use Rattle.time_stages.specs.Staged.{reads_of, reads_of_first, staged_reads, staged_statements, staged_tensors, staged_widths}
use Rattle.design_lines.specs.PlanLines.{plan_lines}

abbrev uint : ℕ → IntType
uint bits = record { signed = false; bits = bits }

abbrev program : (name : List ℕ) → (iterate : ℕ) → List ℕ → List PlainTensor → PlainProgram
program name iterate extents tensors = record {
  kernel = name;
  burst = 8;
  unroll = 1;
  iterate = iterate;
  border = Ignore;
  params = [];
  extents = extents;
  tensors = tensors;
}

abbrev at : ℕ → ℤ → Formula
at t d = read t (d ∷ [])

abbrev at2 : ℕ → ℤ → ℤ → Formula
at2 t d e = read t (d ∷ e ∷ [])

abbrev mean : Formula → Formula → Formula → Formula
mean a b c = binary Div (binary Add (binary Add a b) c) (number 3)

-- a mean of three cells, once and twice
abbrev avg : ℕ → PlainProgram
avg iterate = program (codes "avg") iterate [] (record { name = codes "a"; ty = uint 8; role = Input; formula = None }
    ∷ record { name = codes "o"; ty = uint 8; role = Output; formula = Some (mean (at 0 (negsuc 0)) (at 0 (pos 0)) (at 0 (pos 1))) }
    ∷ [])

avg_plan : ended (plan_lines (avg 1) (0 ∷ 1 ∷ []) (8 ∷ 0 ∷ 0 ∷ []) (0 ∷ 0 ∷ 8 ∷ []))
    ≡ codes "tensor 0 a@1 uint8 delay 0 storage 2\ntensor 1 o@1 uint8 delay 1 storage 0\n"
    ++ codes "read 0 reader 1 of 0 offset -1 age 2 hold 8 need 0\nread 1 reader 1 of 0 offset 0 age 1 hold 0 need 0\n"
    ++ codes "read 2 reader 1 of 0 offset 1 age 0 hold 0 need 8\ntotal bits 16\n"
unfolding digits storage_of total_storage sum_below tensor_name type_text staged_reads reads_of_first reads_of staged_tensors staged_statements staged_widths placed_in margins_over input_margins is_reached is_wanted
avg_plan = refl

-- an input of the second iteration is the output of the first
avg_twice : ended (plan_lines (avg 2) (0 ∷ 1 ∷ 2 ∷ []) (8 ∷ 0 ∷ 0 ∷ 8 ∷ 0 ∷ 0 ∷ []) (0 ∷ 0 ∷ 8 ∷ 0 ∷ 0 ∷ 8 ∷ []))
    ≡ codes "tensor 0 a@1 uint8 delay 0 storage 2\ntensor 1 o@1 uint8 delay 1 storage 2\ntensor 2 o@2 uint8 delay 2 storage 0\n"
    ++ codes "read 0 reader 1 of 0 offset -1 age 2 hold 8 need 0\nread 1 reader 1 of 0 offset 0 age 1 hold 0 need 0\n"
    ++ codes "read 2 reader 1 of 0 offset 1 age 0 hold 0 need 8\nread 3 reader 2 of 1 offset -1 age 2 hold 8 need 0\n"
    ++ codes "read 4 reader 2 of 1 offset 0 age 1 hold 0 need 0\nread 5 reader 2 of 1 offset 1 age 0 hold 0 need 8\ntotal bits 32\n"
unfolding digits storage_of total_storage sum_below tensor_name type_text staged_reads reads_of_first reads_of staged_tensors staged_statements staged_widths placed_in margins_over input_margins is_reached is_wanted
avg_twice = refl

-- a square, and the sum of it and of a cell far away: the later delays need less storage
abbrev far : PlainProgram
far = program (codes "far") 1 [] (record { name = codes "a"; ty = uint 8; role = Input; formula = None }
    ∷ record { name = codes "t"; ty = int32; role = Local; formula = Some (binary Mul (at 0 (pos 0)) (at 0 (pos 0))) }
    ∷ record { name = codes "o"; ty = int32; role = Output; formula = Some (binary Add (at 1 (pos 0)) (at 0 (pos 1000))) }
    ∷ [])

far_plan : ended (plan_lines far (0 ∷ 1000 ∷ 1000 ∷ []) (8 ∷ 0 ∷ 32 ∷ []) (0 ∷ 8 ∷ 24 ∷ []))
    ≡ codes "tensor 0 a@1 uint8 delay 0 storage 1000\ntensor 1 t@1 int32 delay 1000 storage 0\n"
    ++ codes "tensor 2 o@1 int32 delay 1000 storage 0\nread 0 reader 1 of 0 offset 0 age 1000 hold 8 need 0\n"
    ++ codes "read 1 reader 2 of 0 offset 1000 age 0 hold 0 need 8\nread 2 reader 2 of 1 offset 0 age 0 hold 32 need 24\n"
    ++ codes "total bits 8000\n"
unfolding digits storage_of total_storage sum_below tensor_name type_text staged_reads reads_of_first reads_of staged_tensors staged_statements staged_widths placed_in margins_over input_margins is_reached is_wanted
far_plan = refl

-- a mean along the second dimension, and then one along the first
abbrev blur : PlainProgram
blur = program (codes "blur") 1 (2000 ∷ []) (record { name = codes "input"; ty = uint 16; role = Input; formula = None }
    ∷ record { name = codes "blur_x"; ty = uint 16; role = Local; formula = Some (mean (at2 0 (pos 0) (pos 0)) (at2 0 (pos 0) (pos 1)) (at2 0 (pos 0) (pos 2))) }
    ∷ record { name = codes "blur_y"; ty = uint 16; role = Output; formula = Some (mean (at2 1 (pos 0) (pos 0)) (at2 1 (pos 1) (pos 0)) (at2 1 (pos 2) (pos 0))) }
    ∷ [])

blur_plan : ended (plan_lines blur (0 ∷ 4000 ∷ 4002 ∷ []) (16 ∷ 0 ∷ 0 ∷ 16 ∷ 0 ∷ 0 ∷ []) (0 ∷ 0 ∷ 16 ∷ 0 ∷ 0 ∷ 16 ∷ []))
    ≡ codes "tensor 0 input@1 uint16 delay 0 storage 4000\ntensor 1 blur_x@1 uint16 delay 4000 storage 2\n"
    ++ codes "tensor 2 blur_y@1 uint16 delay 4002 storage 0\nread 0 reader 1 of 0 offset 0 age 4000 hold 16 need 0\n"
    ++ codes "read 1 reader 1 of 0 offset 2000 age 2000 hold 0 need 0\nread 2 reader 1 of 0 offset 4000 age 0 hold 0 need 16\n"
    ++ codes "read 3 reader 2 of 1 offset 0 age 2 hold 16 need 0\nread 4 reader 2 of 1 offset 1 age 1 hold 0 need 0\n"
    ++ codes "read 5 reader 2 of 1 offset 2 age 0 hold 0 need 16\ntotal bits 64032\n"
unfolding digits storage_of total_storage sum_below tensor_name type_text staged_reads reads_of_first reads_of staged_tensors staged_statements staged_widths placed_in margins_over input_margins is_reached is_wanted
blur_plan = refl
