-- The conditions on the names, types and tiles of statements, each as what it finds wrong first.
use Rattle.std.specs.Prelude.{ℕ, Bool, true, false, not, ◌&&◌, ◌||◌, ◌==◌, nat_lt, List, [], ◌∷◌, ◌++◌, length, Option, Some, None, is_none, option_map, find, slice_get, if◌then◌else◌}
use Rattle.std.specs.List.{list_any}
use Rattle.soda_checks.specs.Outline.{is_one_of, is_same}
use Rattle.soda_checks.specs.Types.{is_float, type_of}
use Rattle.soda_checks.specs.declared.outline.Defined.{Defined}
use Rattle.soda_checks.specs.declared.outline.Outline.{Outline}
use Rattle.soda_checks.specs.declared.outline.Setting.{Setting}
use Rattle.soda_checks.specs.declared.outline.SettingKind.{SettingKind}
use Rattle.soda_checks.specs.declared.outline.SettingKind.TheVariants.{Kernel, BurstWidth, UnrollFactor, Iterate, Border, Cluster}
use Rattle.soda_checks.specs.declared.outline.Site.{Site}
use Rattle.soda_checks.specs.declared.outline.Site.TheVariants.{Size as SiteSize, Left, Cell, Value}
use Rattle.soda_checks.specs.declared.need.Need.{Need}
use Rattle.soda_checks.specs.declared.need.Need.TheVariants.{Kernel as NeedKernel, BurstWidth as NeedWidth, UnrollFactor as NeedFactor, Input as NeedInput, Output as NeedOutput}
use Rattle.soda_formula.specs.declared.statement.Extent.{Extent}
use Rattle.soda_formula.specs.declared.statement.Extent.TheVariants.{Fixed, Open}
use Rattle.soda_formula.specs.declared.statement.InputLine.{InputLine}
use Rattle.soda_formula.specs.declared.statement.ParamLine.{ParamLine}
use Rattle.soda_formula.specs.declared.statement.Size.{Size}
use Rattle.soda_words.specs.Names.{is_reserved}
use Rattle.soda_words.specs.Tokens.{or_else}
use Rattle.soda_words.specs.declared.token.Word.{Word}

-- what the function gives first along a list
abbrev pub first_by : {A B : Type 0} → (A → Option B) → List A → Option B
first_by f [] = None
first_by f (a ∷ rest) = or_else (f a) (first_by f rest)

-- the line of the first word that the test finds
abbrev pub line_where : (Word → Bool) → List Word → Option ℕ
line_where test ws = option_map (λ w. w.line) (find test ws)

-- a number for each setting
abbrev pub kind_number : SettingKind → ℕ
kind_number Kernel = 0
kind_number BurstWidth = 1
kind_number UnrollFactor = 2
kind_number Iterate = 3
kind_number Border = 4
kind_number Cluster = 5

-- the setting is of this kind
abbrev pub is_kind : SettingKind → Setting → Bool
is_kind k s = kind_number k == kind_number s.kind

-- a need, unless it is filled
abbrev pub need_unless : Bool → Need → Option Need
need_unless there n = if there then None else Some n

-- there is an output
abbrev pub has_output : List Defined → Bool
has_output ds = list_any (λ d. d.is_output) ds

-- Missing: the first need that no statement fills
abbrev pub missing : Outline → Option Need
missing o =
    or_else (need_unless (list_any (is_kind Kernel) o.settings) NeedKernel)
    (or_else (need_unless (list_any (is_kind BurstWidth) o.settings) NeedWidth)
    (or_else (need_unless (list_any (is_kind UnrollFactor) o.settings) NeedFactor)
    (or_else (need_unless (not (length o.inputs == 0)) NeedInput) (need_unless (has_output o.defined) NeedOutput))))

-- the line of the first setting that repeats one of its kind, among these or before it
abbrev pub twice_behind : List Setting → List Setting → Option ℕ
twice_behind earlier [] = None
twice_behind earlier (s ∷ ss) =
    if list_any (is_kind s.kind) earlier then Some s.line else twice_behind (earlier ++ s ∷ []) ss

-- Twice: the line of the first setting that repeats one
abbrev pub twice : Outline → Option ℕ
twice o = twice_behind [] o.settings

-- Float type: the line of the first type word or cast word that begins as a float type
abbrev pub float_type : Outline → Option ℕ
float_type o = line_where (λ w. is_float w.text) o.types

-- Bad width: the line of the first type word or cast word that stands for no integer type
abbrev pub bad_width : Outline → Option ℕ
bad_width o = line_where (λ w. is_none (type_of w.text)) o.types

-- the line of the first word that is reserved, like one of these, or like one before it
abbrev pub taken_behind : List Word → List Word → Option ℕ
taken_behind earlier [] = None
taken_behind earlier (w ∷ ws) =
    if (is_reserved w.text || is_one_of earlier w) then Some w.line else taken_behind (earlier ++ w ∷ []) ws

-- Name taken: the line of the first declared name that is reserved or declared before it
abbrev pub name_twice : Outline → Option ℕ
name_twice o = taken_behind [] o.declared

-- the line of a site
abbrev pub site_line : Site → ℕ
site_line (SiteSize s) = s.line
site_line (Left w offsets) = w.line
site_line (Cell w offsets) = w.line
site_line (Value w indexes) = w.line

-- a name in a formula that is none of these
abbrev pub is_unknown : List Word → Site → Bool
is_unknown declared (SiteSize s) = false
is_unknown declared (Left w offsets) = false
is_unknown declared (Cell w offsets) = not (is_one_of declared w)
is_unknown declared (Value w indexes) = not (is_one_of declared w)

-- Unknown name: the line of the first name in a formula that is declared nowhere
abbrev pub unknown_name : Outline → Option ℕ
unknown_name o = option_map site_line (find (is_unknown o.declared) o.sites)

-- the word names a tensor
abbrev pub is_tensor : Outline → Word → Bool
is_tensor o w = list_any (λ i. is_same w i.name) o.inputs || list_any (λ d. is_same w d.name) o.defined

-- the first tile of the text
abbrev pub first_tile : List InputLine → Option (List Extent)
first_tile inputs = first_by (λ i. i.tile) inputs

-- a left side, or a cell of a tensor, that has not so many offsets
abbrev pub has_wrong_dims : Outline → ℕ → Site → Bool
has_wrong_dims o dims (SiteSize s) = false
has_wrong_dims o dims (Left w offsets) = not (length offsets == dims)
has_wrong_dims o dims (Cell w offsets) = is_tensor o w && not (length offsets == dims)
has_wrong_dims o dims (Value w indexes) = false

-- the line of the first of them, beside the first tile of the text, if there is one
abbrev pub wrong_dims_beside : Outline → Option (List Extent) → Option ℕ
wrong_dims_beside o None = None
wrong_dims_beside o (Some tile) = option_map site_line (find (has_wrong_dims o (length tile)) o.sites)

-- Wrong number of offsets: the line of the first left side or cell that has not as many as the first tile has items
abbrev pub wrong_dims : Outline → Option ℕ
wrong_dims o = wrong_dims_beside o (first_tile o.inputs)

-- the last item and no other is `*`, and no extent is 0
abbrev pub is_tile : List Extent → Bool
is_tile [] = false
is_tile (Open ∷ rest) = length rest == 0
is_tile (Fixed n ∷ rest) = not (n == 0) && is_tile rest

-- two extents are one
abbrev pub is_same_extent : Extent → Extent → Bool
is_same_extent (Fixed m) (Fixed n) = m == n
is_same_extent (Fixed m) Open = false
is_same_extent Open (Fixed n) = false
is_same_extent Open Open = true

-- two tiles have the same extents, in order
abbrev pub is_same_tile : List Extent → List Extent → Bool
is_same_tile [] [] = true
is_same_tile [] (e ∷ es) = false
is_same_tile (d ∷ ds) [] = false
is_same_tile (d ∷ ds) (e ∷ es) = is_same_extent d e && is_same_tile ds es

-- the input has a tile that is none, or not the first one
abbrev pub has_wrong_tile : List Extent → InputLine → Bool
has_wrong_tile first i = elim i.tile [ None ↦ false | Some tile ↦ not (is_tile tile && is_same_tile tile first) ]

-- the line of the name of an input, if there is one
abbrev pub named_on : Option InputLine → Option ℕ
named_on input = option_map (λ i. i.name.line) input

-- Tile: the line of the name of the first input whose tile is wrong, or of the first input where none has a tile
abbrev pub wrong_tile : Outline → Option ℕ
wrong_tile o =
    elim (first_tile o.inputs) [
      | None ↦ named_on (slice_get o.inputs 0)
      | Some tile ↦ named_on (find (has_wrong_tile tile) o.inputs)
    ]

-- as many indexes as sizes, each below its size
abbrev pub are_below : List ℕ → List Size → Bool
are_below [] [] = true
are_below [] (s ∷ ss) = false
are_below (i ∷ is) [] = false
are_below (i ∷ is) (s ∷ ss) = nat_lt i s.value && are_below is ss

-- the name is no param with as many sizes as indexes, each index below its size
abbrev pub is_wrong_value : List ParamLine → Word → List ℕ → Bool
is_wrong_value params w indexes =
    elim (find (λ q. is_same w q.name) params) [ None ↦ true | Some q ↦ not (are_below indexes q.sizes) ]

-- a size of 0, a name with offsets that is no tensor, or one without that is no param with such indexes
abbrev pub is_wrong_site : Outline → Site → Bool
is_wrong_site o (SiteSize s) = s.value == 0
is_wrong_site o (Left w offsets) = false
is_wrong_site o (Cell w offsets) = not (is_tensor o w)
is_wrong_site o (Value w indexes) = is_wrong_value o.params w indexes

-- Param use: the line of the first size of 0 or wrong use
abbrev pub param_use : Outline → Option ℕ
param_use o = option_map site_line (find (is_wrong_site o) o.sites)
