-- The staged program: the live tensors of all iterations, by their numbers, and their reads.
use Rattle.std.specs.Prelude.{ℕ, zero, suc, ◌-◌, Bool, not, ◌&&◌, ◌==◌, List, [], ◌∷◌, ◌++◌, map, filter, length, Some, None, slice_get, slice_index_or, if◌then◌else◌}
use Rattle.std.specs.List.{position_or_len}
use Rattle.std.specs.Ordering.{nat_cmp, int_cmp, ordering_then}
use Rattle.std.specs.declared.cmp.Ordering.{Ordering}
use Rattle.std.specs.declared.cmp.Ordering.TheVariants.{Less, Equal, Greater}
use Rattle.delay_net.specs.declared.net.Read.{Read}
use Rattle.soda_words.specs.IntType.{IntType, int32}
use Rattle.soda_ir.specs.declared.reads.Read.{Read as Reading}
use Rattle.soda_ir.specs.Counts.{is_input, is_live, tensor_reads}
use Rattle.soda_ir.specs.Points.{listed}
use Rattle.soda_ir.specs.Program.{PlainProgram, outputs_of}
use Rattle.time_stages.specs.declared.staging.Staged.{Staged}
use Rattle.time_stages.specs.declared.staging.StagedTensor.{StagedTensor}
use Rattle.time_stages.specs.Margins.{margins_of}
use Rattle.time_stages.specs.Placing.{placing_order}

-- a tensor of the iteration before which so many come, with its margins there
abbrev pub staged_tensor : PlainProgram → (earlier x : ℕ) → StagedTensor
staged_tensor p t x =
    record { turn = suc t; tensor = x; low = (margins_of p t x).low; high = (margins_of p t x).high }

-- the inputs, in number order
abbrev pub inputs_of : PlainProgram → List ℕ
inputs_of p = filter (is_input p) (listed (λ x. x) (length p.tensors))

-- the live locals and outputs of the iteration behind which so many come, in placing order
abbrev pub live_statements : PlainProgram → (later : ℕ) → List ℕ
live_statements p later = filter (is_live p later) (placing_order p)

-- those of the first t iterations, one iteration after the other
unfoldable pub staged_statements : PlainProgram → (t : ℕ) → List StagedTensor
staged_statements p zero = []
staged_statements p (suc t) =
    staged_statements p t ++ map (staged_tensor p t) (live_statements p (p.iterate - suc t))

-- the staged tensors, by their numbers: the inputs of the first iteration, then the live locals and outputs of all
unfoldable pub staged_tensors : PlainProgram → List StagedTensor
staged_tensors p = map (staged_tensor p 0) (inputs_of p) ++ staged_statements p p.iterate

-- this is the tensor of an iteration
abbrev pub is_stage : (turn x : ℕ) → StagedTensor → Bool
is_stage turn x s = s.turn == turn && s.tensor == x

-- the number of a tensor of an iteration among staged tensors: how many stand before it
abbrev pub number_of : List StagedTensor → (turn x : ℕ) → ℕ
number_of ts turn x = position_or_len (is_stage turn x) ts

-- the number of what a tensor of an iteration reads: an input of a later iteration is the output of its number, of the
-- iteration before
abbrev pub number_read : PlainProgram → List StagedTensor → (turn y : ℕ) → ℕ
number_read p ts turn y =
    if is_input p y && not (turn == 1) then number_of ts (turn - 1) (slice_index_or (outputs_of p) y 0)
    else number_of ts turn y

-- what a tensor of an iteration reads, as a tensor of the iteration that it is staged in
abbrev pub source_of : PlainProgram → (turn y : ℕ) → StagedTensor
source_of p turn y =
    if is_input p y && not (turn == 1) then staged_tensor p (turn - 2) (slice_index_or (outputs_of p) y 0)
    else staged_tensor p (turn - 1) y

-- a value put in its place in a list that is in order, unless it is there
abbrev pub put_in : {X : Type 0} → (X → X → Ordering) → X → List X → List X
put_in order x [] = x ∷ []
put_in order x (y ∷ ys) =
    elim (order x y) [ Less ↦ x ∷ y ∷ ys | Equal ↦ y ∷ ys | Greater ↦ y ∷ put_in order x ys ]

-- the values of a list in order, each once
abbrev pub in_order : {X : Type 0} → (X → X → Ordering) → List X → List X
in_order order [] = []
in_order order (x ∷ xs) = put_in order x (in_order order xs)

-- reads go by what is read, then by offset
abbrev pub read_order : Reading → Reading → Ordering
read_order a b = ordering_then (nat_cmp a.of b.of) (int_cmp a.offset b.offset)

-- what a staged tensor reads: each pair of a staged tensor and a linear offset once, in order; under preserve an output
-- reads the input of its number too
unfoldable pub reads_of : PlainProgram → List StagedTensor → StagedTensor → List Reading
reads_of p ts s =
    in_order read_order
    (map (λ r. record { of = number_read p ts s.turn r.of; offset = r.offset }) (tensor_reads p s.tensor))

-- a read with the number of its reader
abbrev pub read_by : (reader : ℕ) → Reading → Read
read_by reader r = record { reader = reader; of = r.of; offset = r.offset }

-- the reads of the first n staged tensors, by reader
unfoldable pub reads_of_first : PlainProgram → List StagedTensor → (n : ℕ) → List Read
reads_of_first p ts zero = []
reads_of_first p ts (suc n) =
    reads_of_first p ts n ++ elim (slice_get ts n) [ None ↦ [] | Some s ↦ map (read_by n) (reads_of p ts s) ]

-- the reads of the staged program: by reader, then by what is read, then by offset
unfoldable pub staged_reads : PlainProgram → List Read
staged_reads p = reads_of_first p (staged_tensors p) (length (staged_tensors p))

-- the staged program
abbrev pub staged : PlainProgram → Staged
staged p = record { tensors = staged_tensors p; reads = staged_reads p }

-- the type of a tensor of a program
abbrev pub type_of : PlainProgram → ℕ → IntType
type_of p x = slice_index_or (map (λ t. t.ty) p.tensors) x int32

-- the widths of the staged tensors, in bits
unfoldable pub staged_widths : PlainProgram → List ℕ
staged_widths p = map (λ s. (type_of p s.tensor).bits) (staged_tensors p)
