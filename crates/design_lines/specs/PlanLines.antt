-- The lines of a plan: the staged tensors with their delays and storage, their reads with ages and the certificate, and
-- the total storage. Each kind of line is a function of what stands in it.
use Rattle.std.specs.Prelude.{ℕ, suc, List, [], ◌∷◌, ◌++◌, codes, slice_index}
use Rattle.std.specs.Fmt.{decimal, signed_decimal}
use Rattle.delay_net.specs.declared.net.Read.{Read}
use Rattle.delay_net.specs.Windows.{age, at_least_0, storage_of, total_storage}
use Rattle.soda_words.specs.IntType.{IntType}
use Rattle.soda_ir.specs.Program.{PlainProgram}
use Rattle.soda_print.specs.Canonical.{tensor_name, type_text}
use Rattle.time_stages.specs.declared.staging.StagedTensor.{StagedTensor}
use Rattle.time_stages.specs.Staged.{staged_reads, staged_tensors, staged_widths, type_of}

-- what stands between the name and the delay in the line of a tensor: its iteration and its type
abbrev pub behind_name : (turn : ℕ) → IntType → List ℕ
behind_name turn ty = codes "@" ++ (decimal turn ++ (codes " " ++ (type_text ty ++ codes " delay ")))

-- what stands before the delay in the line of the staged tensor of this number
abbrev pub tensor_front : PlainProgram → (number : ℕ) → StagedTensor → List ℕ
tensor_front p number s =
    (codes "tensor " ++ (decimal number ++ codes " "))
    ++ (tensor_name p s.tensor ++ behind_name s.turn (type_of p s.tensor))

-- that line, with its delay and its storage in cells
abbrev pub tensor_line : PlainProgram → (number : ℕ) → StagedTensor → (delay storage : ℕ) → List ℕ
tensor_line p number s delay storage =
    tensor_front p number s ++ (decimal delay ++ (codes " storage " ++ decimal storage))

-- what a read is, with its number: the numbers of its reader and of what it reads, and its offset
abbrev pub read_words : (number : ℕ) → Read → List ℕ
read_words number r =
    codes "read " ++ (decimal number ++ (codes " reader " ++ (decimal r.reader ++ (codes " of " ++ (decimal r.of
    ++ (codes " offset " ++ signed_decimal r.offset))))))

-- what stands before the hold in the line of the read of this number
abbrev pub read_front : (number : ℕ) → Read → (age : ℕ) → List ℕ
read_front number r age = read_words number r ++ (codes " age " ++ (decimal age ++ codes " hold "))

-- that line, with what the certificate has for it
abbrev pub read_line : (number : ℕ) → Read → (age hold need : ℕ) → List ℕ
read_line number r age hold need = read_front number r age ++ (decimal hold ++ (codes " need " ++ decimal need))

-- the line of the total storage in bits
abbrev pub total_line : ℕ → List ℕ
total_line bits = codes "total bits " ++ decimal bits

-- what f gives at each of a list and its number, the first of which is k
abbrev pub numbered : {A B : Type 0} → (ℕ → A → B) → (k : ℕ) → List A → List B
numbered f k [] = []
numbered f k (x ∷ xs) = f k x ∷ numbered f (suc k) xs

-- the lines of the staged tensors under these delays
abbrev pub tensor_lines : PlainProgram → (delays : List ℕ) → List (List ℕ)
tensor_lines p delays = numbered
    (λ n s. tensor_line p n s (slice_index delays n) (storage_of (staged_reads p) delays n)) 0 (staged_tensors p)

-- the lines of their reads, with the hold and the need of each
abbrev pub read_lines : PlainProgram → (delays hold need : List ℕ) → List (List ℕ)
read_lines p delays hold need = numbered
    (λ n r. read_line n r (at_least_0 (age delays r)) (slice_index hold n) (slice_index need n)) 0 (staged_reads p)

-- the lines of a plan
abbrev pub plan_lines : PlainProgram → (delays hold need : List ℕ) → List (List ℕ)
plan_lines p delays hold need =
    tensor_lines p delays
    ++ (read_lines p delays hold need ++ total_line (total_storage (staged_widths p) (staged_reads p) delays) ∷ [])
