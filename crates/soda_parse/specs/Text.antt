-- Which texts are accepted, as which programs, and which are refused, and why.
use Rattle.std.specs.Prelude.{◌≡◌, ℕ, ◌<◌, ◌≤◌, Bool, List, [], ◌∷◌, length, Option, Some, None, option_map, if◌then◌else◌}
use Rattle.soda_checks.specs.Conditions.{missing, twice, float_type, bad_width, name_twice, unknown_name, wrong_dims, wrong_tile, param_use}
use Rattle.soda_checks.specs.Outline.{outline_of}
use Rattle.soda_checks.specs.declared.outline.Outline.{Outline}
use Rattle.soda_ir.specs.Counts.{live_count, read_count}
use Rattle.soda_ir.specs.Program.{PlainProgram}
use Rattle.soda_ir.specs.declared.limit.LimitKind.{LimitKind}
use Rattle.soda_ir.specs.declared.limit.LimitKind.TheVariants.{Unroll, Iterate, Dims, Tile as TileKind, Offset, Tensors, Params, Live, Reads}
use Rattle.soda_parse.specs.ProgramConditions.{unless_within, circular, iterate_mismatch, preserve_mismatch, tile_past, offset_past, params_past, bad_burst}
use Rattle.soda_parse.specs.Meaning.{program_by, tile_items}
use Rattle.soda_parse.specs.declared.refusal.Refusal.{Refusal}
use Rattle.soda_parse.specs.declared.refusal.Refusal.TheVariants.{TextTooLong, NotAscii, Syntax, Missing, Twice, FloatType, BadWidth, NameTwice, UnknownName, WrongDims, Circular, IterateMismatch, PreserveMismatch, Tile, Limit, BurstWidth, ParamUse}
use Rattle.soda_formula.specs.Statements.{PlainStatement}
use Rattle.soda_syntax.specs.SyntaxError.{IsSyntax, IsSyntaxError}
use Rattle.soda_words.specs.Limits.{most_unroll, most_iterate, most_dims, most_tensors, most_live, most_reads}
use Rattle.soda_words.specs.Tokens.{not_ascii, or_else, tokens_of}

-- a refusal, where something holds
abbrev pub refusal_if : Bool → Refusal → Option Refusal
refusal_if holds r = if holds then Some r else None

-- a limit that is passed, by a number
abbrev pub limit : LimitKind → Option ℕ → Option Refusal
limit kind n = option_map (λ k. Limit kind k) n

-- the first of these refusals
abbrev pub first_of : List (Option Refusal) → Option Refusal
first_of [] = None
first_of (r ∷ rs) = or_else r (first_of rs)

-- why names and types are refused, if they are
unfoldable pub names_refusal : Outline → Option Refusal
names_refusal o =
    first_of (option_map (λ n. Missing n) (missing o)
    ∷ option_map (λ l. Twice l) (twice o)
    ∷ option_map (λ l. FloatType l) (float_type o)
    ∷ option_map (λ l. BadWidth l) (bad_width o)
    ∷ option_map (λ l. NameTwice l) (name_twice o)
    ∷ option_map (λ l. UnknownName l) (unknown_name o)
    ∷ option_map (λ l. WrongDims l) (wrong_dims o)
    ∷ [])

-- the refusal of a program's shape, by what is wrong with it
abbrev pub shape_by : (circle : Option ℕ) (iterate preserve : Bool) (tile : Option ℕ) → Option Refusal
shape_by circle iterate preserve tile =
    first_of (option_map (λ l. Circular l) circle
    ∷ refusal_if iterate IterateMismatch
    ∷ refusal_if preserve PreserveMismatch
    ∷ option_map (λ l. Tile l) tile
    ∷ [])

-- why the shape of the program is refused, if it is
unfoldable pub shape_refusal : Outline → PlainProgram → Option Refusal
shape_refusal o p = shape_by (circular o p) (iterate_mismatch p) (preserve_mismatch p) (wrong_tile o)

-- the first limit on sizes that is passed, if one is
unfoldable pub size_refusal : Outline → PlainProgram → Option Refusal
size_refusal o p =
    first_of (limit Unroll (unless_within 1 most_unroll p.unroll)
    ∷ limit Iterate (unless_within 1 most_iterate p.iterate)
    ∷ limit Dims (unless_within 0 most_dims (length (tile_items o)))
    ∷ limit TileKind (tile_past p)
    ∷ limit Offset (offset_past o)
    ∷ limit Tensors (unless_within 0 most_tensors (length p.tensors))
    ∷ limit Params (params_past p)
    ∷ [])

-- the first limit on the staged program that is passed, if one is
unfoldable pub count_refusal : PlainProgram → Option Refusal
count_refusal p =
    first_of (limit Live (unless_within 0 most_live (live_count p))
    ∷ limit Reads (unless_within 0 most_reads (read_count p))
    ∷ [])

-- why the burst width or the use of a param is refused, if one is
unfoldable pub use_refusal : Outline → PlainProgram → Option Refusal
use_refusal o p =
    first_of (option_map (λ n. BurstWidth n) (bad_burst p) ∷ option_map (λ l. ParamUse l) (param_use o) ∷ [])

-- the first refusal beside those of names and of the shape
unfoldable pub late_refusal : Outline → PlainProgram → Option Refusal
late_refusal o p = or_else (size_refusal o p) (or_else (count_refusal p) (use_refusal o p))

-- why the statements of this outline and program are refused, if they are: the first of the conditions that fails
unfoldable pub refusal_by : Outline → PlainProgram → Option Refusal
refusal_by o p = or_else (names_refusal o) (or_else (shape_refusal o p) (late_refusal o p))

-- why statements are refused, if they are
abbrev pub statement_refusal : List PlainStatement → Option Refusal
statement_refusal ss = refusal_by (outline_of ss) (program_by (outline_of ss) ss)

-- a text of at most so many bytes is accepted, as this program
pub record Accepts (most : ℕ) (bytes : List ℕ) (p : PlainProgram) : Type 0 where
  pub short : length bytes ≤ most
  pub ascii : not_ascii bytes ≡ None
  pub statements : List PlainStatement
  pub syntax_kept : IsSyntax (tokens_of bytes) statements
  pub valid : statement_refusal statements ≡ None
  pub is : p ≡ program_by (outline_of statements) statements

-- a text is refused: the first condition that fails
pub data Refuses (most : ℕ) (bytes : List ℕ) : Refusal → Type 0 where
  too_long : most < length bytes → Refuses most bytes TextTooLong
  no_ascii : {line : ℕ} → length bytes ≤ most → not_ascii bytes ≡ Some line → Refuses most bytes (NotAscii line)
  no_syntax : {line : ℕ} →
      length bytes ≤ most → not_ascii bytes ≡ None → IsSyntaxError bytes line → Refuses most bytes (Syntax line)
  not_valid : {r : Refusal} (ss : List PlainStatement) →
      length bytes ≤ most → not_ascii bytes ≡ None → IsSyntax (tokens_of bytes) ss → statement_refusal ss ≡ Some r →
      Refuses most bytes r
