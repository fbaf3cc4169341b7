-- The command `sodac`: what may stand on its line, as data of clap's own definition.
use Rattle.std.specs.Prelude.{Bool, List, [], ◌∷◌, Some, true, codes, fold}
use Rattle.clap.specs.Lexer.{usize_max}
use Rattle.clap.specs.Simple.{App, matches_of, new_app, new_rule, with_rule}
use Rattle.clap.specs.Takes.{takes}
use Rattle.clap.specs.Walk.{Row, Rule, Text}
use Rattle.clap.specs.declared.builder.action.ArgAction.TheVariants.{Append, Set, SetTrue}

-- a flag `--name`
abbrev pub flag : Text → Rule
flag name = record (new_rule name) { long = Some name; action = Some SetTrue }

-- an option `--name VALUE`
abbrev pub option : Text → Rule
option name = record (new_rule name) { long = Some name; action = Some Set }

-- a positional word that must be there
abbrev pub required_word : Text → Rule
required_word name = record (new_rule name) { required = true }

-- all further positional words, none or more
abbrev pub further_words : Text → Rule
further_words name =
    record (new_rule name) {
      action = Some Append;
      range = Some (record { start_inclusive = 0; end_inclusive = usize_max });
    }

-- what the command has, in order
abbrev pub sodac_rules : List Rule
sodac_rules =
    flag (codes "share") ∷ flag (codes "raw") ∷ flag (codes "trace") ∷ option (codes "params") ∷ option (codes "stall")
    ∷ required_word (codes "mode") ∷ further_words (codes "words") ∷ []

-- `sodac [--share] [--raw] [--trace] [--params FILE] [--stall FILE] MODE WORDS`
abbrev pub sodac_command : App
sodac_command = fold with_rule (new_app (codes "sodac")) sodac_rules

-- the command takes the words, the first of which is the program's own name
unfoldable pub are_taken : List Text → Bool
are_taken words = takes sodac_command words

-- what it finds in words that it takes: a row for each flag, option and positional word
unfoldable pub found_in : List Text → List Row
found_in words = matches_of sodac_command words
