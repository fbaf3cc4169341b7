-- What the words of a command line ask for.
use Rattle.std.specs.Prelude.{◌≡◌, ◌≢◌, ◌<◌, ◌^◌, ℕ, Bool, not, ◌&&◌, ◌||◌, List, [], ◌∷◌, map}
use Rattle.std.specs.Prelude.{Option, Some, None, codes, if◌then◌else◌, option_and_then, option_map}
use Rattle.std.specs.Str.{bytes_eq}
use Rattle.clap.specs.Takes.{is_given}
use Rattle.clap.specs.Walk.{Row, Text, all_of, first_of}
use Rattle.soda_words.specs.Tokens.{is_number, value_behind}
use Rattle.command_words.specs.Command.{are_taken, found_in}
use Rattle.command_words.specs.Modes.{ModeRow, mode_of, mode_row}
use Rattle.command_words.specs.declared.mode.Mode.{Mode}
use Rattle.command_words.specs.declared.mode.Mode.TheVariants.{Check, Plain, Plan, Compile, Sim, Selftest}
use Rattle.command_words.specs.declared.order.Order.{Order}
use Rattle.command_words.specs.declared.order.Source.{Source}
use Rattle.command_words.specs.declared.order.Source.TheVariants as declared

-- where a program comes from: a file's name, or the seed that makes it
pub data Origin : Type 0 where
  program : Text → Origin
  seed : ℕ → Origin

-- what the words behind a mode name: the origin, ROWS, the FILE that is written to, and NAMES
pub record Named : Type 0 where
  pub source : Origin
  pub rows : Option ℕ
  pub target : Option Text
  pub names : List Text

-- what a whole command line asks for
pub record Asked : Type 0 where
  pub mode : Mode
  pub share : Bool
  pub raw : Bool
  pub trace : Bool
  pub params : Option Text
  pub stall : Option Text
  pub source : Origin
  pub rows : Option ℕ
  pub target : Option Text
  pub names : List Text

-- the number that a word writes: `0`, or digits without a leading zero, below 2 ^ 64
abbrev pub number_of : Text → Option ℕ
number_of word = if is_number word then Some (value_behind 0 word) else None

-- this origin, and nothing else
abbrev pub only : Origin → Named
only source = record { source = source; rows = None; target = None; names = [] }

-- the words are PROGRAM
abbrev pub program_named : List Text → Option Named
program_named (name ∷ []) = Some (only (program name))
program_named _ = None

-- the words are PROGRAM FILE, two names that aren't equal
abbrev pub program_and_file_named : List Text → Option Named
program_and_file_named (name ∷ file ∷ []) =
    if bytes_eq name file then None else Some (record (only (program name)) { target = Some file })
program_and_file_named _ = None

-- the words are PROGRAM ROWS and any number of NAMES
abbrev pub arrays_named : List Text → Option Named
arrays_named (name ∷ rows ∷ names) =
    option_map (λ n. record (only (program name)) { rows = Some n; names = names }) (number_of rows)
arrays_named _ = None

-- the words are SEED
abbrev pub seed_named : List Text → Option Named
seed_named (word ∷ []) = option_map (λ n. only (seed n)) (number_of word)
seed_named _ = None

-- what the words behind a mode name, where they have the mode's form
abbrev pub named : Mode → List Text → Option Named
named Check = program_named
named Plain = arrays_named
named Plan = program_named
named Compile = program_and_file_named
named Sim = arrays_named
named Selftest = seed_named

-- what has this id is taken, or isn't given
abbrev pub allows : Bool → Text → List Row → Bool
allows taken id rows = taken || not (is_given id rows)

-- each flag and option that is given is one that the mode takes
abbrev pub allows_given : ModeRow → List Row → Bool
allows_given row rows =
    allows row.share (codes "share") rows && (allows row.raw (codes "raw") rows
    && (allows row.trace (codes "trace") rows && (allows row.params (codes "params") rows
    && allows row.stall (codes "stall") rows)))

-- what the words behind the mode name, where there are any
abbrev pub named_in : List Row → Mode → Option Named
named_in rows mode = option_and_then (named mode) (all_of (codes "words") rows)

-- a mode with the flags and options that are given, and what the words name
abbrev pub asked_by : List Row → Mode → Named → Asked
asked_by rows mode named = record {
  mode = mode;
  share = is_given (codes "share") rows;
  raw = is_given (codes "raw") rows;
  trace = is_given (codes "trace") rows;
  params = first_of (codes "params") rows;
  stall = first_of (codes "stall") rows;
  source = named.source;
  rows = named.rows;
  target = named.target;
  names = named.names;
}

-- what is asked of this mode
abbrev pub order_at : List Row → Mode → Option Asked
order_at rows mode = if allows_given (mode_row mode) rows
    then option_map (asked_by rows mode) (named_in rows mode) else None

-- what clap's matches ask for
abbrev pub order_in : List Row → Option Asked
order_in rows = option_and_then (order_at rows) (option_and_then mode_of (first_of (codes "mode") rows))

-- what the words of a command line ask for, the first of which is the program's own name; None where they aren't taken
unfoldable pub order_of : List Text → Option Asked
order_of words = if are_taken words then order_in (found_in words) else None

-- what of an order stands behind its mode
abbrev pub parts_of : Asked → Named
parts_of a = record { source = a.source; rows = a.rows; target = a.target; names = a.names }

-- PROGRAM, ROWS below 2 ^ 64 and NAMES, and nothing else
abbrev pub HasArrays : Named → Type 0
HasArrays n = (name : Text) × (rows : ℕ) × (rows < 2 ^ 64) × (names : List Text)
    × (n ≡ record (only (program name)) { rows = Some rows; names = names })

-- what a mode's words name, and nothing else
abbrev pub HasForm : Mode → Named → Type 0
HasForm Check n = (name : Text) × (n ≡ only (program name))
HasForm Plain n = HasArrays n
HasForm Plan n = (name : Text) × (n ≡ only (program name))
HasForm Compile n =
    (name : Text) × (file : Text) × (name ≢ file) × (n ≡ record (only (program name)) { target = Some file })
HasForm Sim n = HasArrays n
HasForm Selftest n = (k : ℕ) × (k < 2 ^ 64) × (n ≡ only (seed k))

-- an origin in code, with what it refers to
abbrev pub origin : Source → Origin
origin (declared.Program name) = program name.now
origin (declared.Seed n) = seed n

-- an order in code, with what it refers to
abbrev pub asked : Order → Asked
asked o = record {
  mode = o.mode;
  share = o.share;
  raw = o.raw;
  trace = o.trace;
  params = option_map (λ name. name.now) o.params;
  stall = option_map (λ name. name.now) o.stall;
  source = origin o.source;
  rows = o.rows;
  target = option_map (λ name. name.now) o.target;
  names = map (λ name. name.now) o.names.items;
}
