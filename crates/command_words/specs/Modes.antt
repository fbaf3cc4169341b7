-- The modes: the word of each, and the flags and options that it takes.
use Rattle.std.specs.Prelude.{Bool, true, false, List, [], ◌∷◌, Option, codes, find}
use Rattle.std.specs.Str.{bytes_eq}
use Rattle.clap.specs.Walk.{Text}
use Rattle.command_words.specs.declared.mode.Mode.{Mode}
use Rattle.command_words.specs.declared.mode.Mode.TheVariants.{Check, Plain, Plan, Compile, Sim, Selftest}

-- a mode's word, and whether it takes `--share`, `--raw`, `--trace`, `--params` and `--stall`
pub record ModeRow : Type 0 where
  pub word : Text
  pub share : Bool
  pub raw : Bool
  pub trace : Bool
  pub params : Bool
  pub stall : Bool

-- the row of a mode that takes no flag and no option
abbrev pub bare : Text → ModeRow
bare word = record { word = word; share = false; raw = false; trace = false; params = false; stall = false }

-- the table of modes
abbrev pub mode_row : Mode → ModeRow
mode_row Check = record (bare (codes "check")) { share = true }
mode_row Plain = record (bare (codes "plain")) { share = true; raw = true; params = true }
mode_row Plan = record (bare (codes "plan")) { share = true }
mode_row Compile = record (bare (codes "compile")) { share = true }
mode_row Sim =
    record { word = codes "sim"; share = true; raw = true; trace = true; params = true; stall = true }
mode_row Selftest = bare (codes "selftest")

-- all modes
abbrev pub modes : List Mode
modes = Check ∷ Plain ∷ Plan ∷ Compile ∷ Sim ∷ Selftest ∷ []

-- the mode of a word
abbrev pub mode_of : Text → Option Mode
mode_of word = find (λ mode. bytes_eq (mode_row mode).word word) modes
