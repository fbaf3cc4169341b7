-- Stall files of a copy by a local, the flags of a sum of three cells, and lines that are printed, by computation.
use Rattle.std.proofs.Common.{◌≡◌, ℕ, Bool, [], ◌∷◌, Some, None, pos, false, true, List, codes, refl}
use Rattle.std.specs.Fmt.{digits}
use Rattle.std.specs.List.{filter_map}
use Rattle.net_ir.specs.declared.network.Module.{Module}
use Rattle.net_ir.specs.declared.network.Module.TheVariants.{Source, Forward, Compute, Sink}
use Rattle.net_ir.specs.CycleRun.{stalled_cycles}
use Rattle.soda_words.specs.IntType.{IntType}
use Rattle.soda_ir.specs.declared.program.Border.TheVariants.{Ignore}
use Rattle.soda_ir.specs.declared.program.Role.TheVariants.{Input, Local, Output}
use Rattle.soda_ir.specs.Formula.{read}
use Rattle.soda_ir.specs.Program.{PlainProgram}
use Rattle.time_stages.specs.declared.staging.StagedTensor.{StagedTensor}
use Rattle.array_bytes.specs.Runs.{runs}
use Rattle.param_lines.specs.Lines.{rows_of}
use Rattle.sim_lines.specs.declared.stall.Stall.{Stall}
use Rattle.sim_lines.specs.Flags.{flags_until}
use Rattle.sim_lines.specs.Printed.{cycle_line, end_lines}
use Rattle.sim_lines.specs.Stalls.{refused_line, stall_of}

abbrev uint8 : IntType
uint8 = record { signed = false; bits = 8 }

-- an input, a local and an output, all copies
abbrev program : PlainProgram
program = record {
  kernel = codes "copy";
  burst = 8;
  unroll = 1;
  iterate = 1;
  border = Ignore;
  params = [];
  extents = [];
  tensors = record { name = codes "a"; ty = uint8; role = Input; formula = None }
      ∷ record { name = codes "t"; ty = uint8; role = Local; formula = Some (read 0 (pos 0 ∷ [])) }
      ∷ record { name = codes "o"; ty = uint8; role = Output; formula = Some (read 1 (pos 0 ∷ [])) }
      ∷ [];
}

abbrev stall : ℕ → ℕ → Stall
stall cycle tensor = record { cycle = cycle; tensor = tensor }

-- repeats are listed twice, and lines of white space only are passed over
three_stalls : filter_map (stall_of program) (rows_of (codes "2 a\n\n 3\to \n2 a")) ≡ stall 2 0 ∷ stall 3 2 ∷ stall 2 0 ∷ []
unfolding runs
three_stalls = refl

three_fine : refused_line program (codes "2 a\n\n 3\to \n2 a") ≡ None
unfolding runs
three_fine = refl

unknown_name : refused_line program (codes "2 b\n") ≡ Some 1
unfolding runs
unknown_name = refl

local_name : refused_line program (codes "\n2 a\n2 t\n") ≡ Some 3
unfolding runs
local_name = refl

leading_zero : refused_line program (codes "02 a\n") ≡ Some 1
unfolding runs
leading_zero = refl

third_word : refused_line program (codes "2 a\n2 a a\n") ≡ Some 2
unfolding runs
third_word = refl

past_the_greatest : refused_line program (codes "18446744073709551616 a") ≡ Some 1
unfolding runs
past_the_greatest = refl

the_greatest : refused_line program (codes "18446744073709551615 a") ≡ None
unfolding runs
the_greatest = refl

abbrev staged : (tensor : ℕ) → StagedTensor
staged tensor = record { turn = 1; tensor = tensor; low = 0 ∷ []; high = 0 ∷ [] }

-- the modules of a sum of three cells: its source, forwarding modules, its computing module and its sink
abbrev modules : List Module
modules = Forward 0 0 2 ∷ Forward 0 0 1 ∷ Source 0 ∷ Forward 0 0 0 ∷ Compute 1 0 ∷ Sink 1 ∷ []

abbrev no_flags : List Bool
no_flags = false ∷ false ∷ false ∷ false ∷ false ∷ false ∷ []

abbrev at_source : List Bool
at_source = false ∷ false ∷ true ∷ false ∷ false ∷ false ∷ []

abbrev at_sink : List Bool
at_sink = false ∷ false ∷ false ∷ false ∷ false ∷ true ∷ []

-- the input is listed for cycles 2 and 3, the output for cycle 4
six_cycles : flags_until (staged 0 ∷ staged 1 ∷ []) (stall 2 0 ∷ stall 3 0 ∷ stall 4 1 ∷ []) modules 6 ≡ no_flags ∷ no_flags ∷ at_source ∷ at_source ∷ at_sink ∷ no_flags ∷ []
six_cycles = refl

three_stalled : stalled_cycles (flags_until (staged 0 ∷ staged 1 ∷ []) (stall 2 0 ∷ stall 3 0 ∷ stall 4 1 ∷ []) modules 6) ≡ 3
three_stalled = refl

-- two sources of one input are both stalled, and a module of no staged tensor never is
two_sources : flags_until (staged 0 ∷ []) (stall 0 0 ∷ stall 0 0 ∷ []) (Source 0 ∷ Source 1 ∷ Source 0 ∷ []) 1 ≡ (true ∷ false ∷ true ∷ []) ∷ []
two_sources = refl

printed_cycle : cycle_line 10 4 2 ≡ codes "cycle 10 fired 4 held 2\n"
unfolding digits
printed_cycle = refl

printed_end : end_lines 6 16 ≡ codes "cycles 6\nstorage 16\n"
unfolding digits
printed_end = refl
