-- The stalls that a stall file lists, and the line at which it is refused.
use Rattle.std.specs.Prelude.{ℕ, suc, Bool, true, ◌||◌, nat_lt, List, [], ◌∷◌, map, length, position, Option, Some, None, is_some, option_map, if◌then◌else◌}
use Rattle.soda_words.specs.Names.{is_word}
use Rattle.soda_words.specs.Tokens.{is_number, value_behind}
use Rattle.soda_ir.specs.Counts.{is_input, is_output}
use Rattle.soda_ir.specs.Program.{PlainProgram}
use Rattle.param_lines.specs.Lines.{rows_of}
use Rattle.sim_lines.specs.Limits.{most_stall_bytes}
use Rattle.sim_lines.specs.declared.stall.Stall.{Stall}

-- the tensor of this number is an input or an output
abbrev pub is_end : PlainProgram → ℕ → Bool
is_end p tensor = is_input p tensor || is_output p tensor

-- a number, where it is that of an input or output
abbrev pub if_end : PlainProgram → Option ℕ → Option ℕ
if_end p None = None
if_end p (Some tensor) = if is_end p tensor then Some tensor else None

-- the number of the input or output of this name, if there is one
abbrev pub end_named : PlainProgram → List ℕ → Option ℕ
end_named p name = if_end p (position (is_word name) (map (λ t. t.name) p.tensors))

-- the stall that words list: the number of a cycle, and the name of an input or output
abbrev pub stall_of : PlainProgram → (words : List (List ℕ)) → Option Stall
stall_of p (cycle ∷ name ∷ []) =
    if is_number cycle
    then option_map (λ tensor. record { cycle = value_behind 0 cycle; tensor = tensor }) (end_named p name)
    else None
stall_of p _ = None

-- a line is fine: it is of white space only, or lists a stall
abbrev pub is_fine : PlainProgram → (words : List (List ℕ)) → Bool
is_fine p [] = true
is_fine p (word ∷ words) = is_some (stall_of p (word ∷ words))

-- the number of the first line that isn't fine, from 1
abbrev pub first_wrong : PlainProgram → (rows : List (List (List ℕ))) → Option ℕ
first_wrong p [] = None
first_wrong p (words ∷ rows) = if is_fine p words then option_map suc (first_wrong p rows) else Some 1

-- the line at which a stall file is refused, if it is: 0 where it is too long, else the first that isn't fine
abbrev pub refused_line : PlainProgram → (bytes : List ℕ) → Option ℕ
refused_line p bytes = if nat_lt most_stall_bytes (length bytes) then Some 0 else first_wrong p (rows_of bytes)
