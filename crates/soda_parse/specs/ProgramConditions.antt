-- The conditions on the program that statements stand for, each as what it finds wrong.
use Rattle.std.specs.Prelude.{ℕ, suc, ◌+◌, ◌*◌, Bool, true, false, not, ◌&&◌, ◌==◌, nat_le, nat_lt, List, [], ◌∷◌, map, length, Option, Some, None, find, if◌then◌else◌, ℤ, unsigned_abs}
use Rattle.std.specs.List.{list_all}
use Rattle.soda_words.specs.IntType.{IntType, is_same_type}
use Rattle.soda_checks.specs.Conditions.{is_tensor}
use Rattle.soda_checks.specs.declared.outline.Defined.{Defined}
use Rattle.soda_checks.specs.declared.outline.Outline.{Outline}
use Rattle.soda_checks.specs.declared.outline.Site.{Site}
use Rattle.soda_checks.specs.declared.outline.Site.TheVariants.{Size, Left, Cell, Value}
use Rattle.soda_ir.specs.Counts.{can_be_placed}
use Rattle.soda_ir.specs.Points.{size}
use Rattle.soda_ir.specs.Program.{PlainProgram, PlainParam, input_types, preserves}
use Rattle.soda_ir.specs.Valid.{fills_burst, output_types}
use Rattle.soda_parse.specs.Meaning.{shifted}
use Rattle.soda_words.specs.Limits.{most_tile, most_offset, most_values, least_burst, most_burst}
use Rattle.soda_words.specs.Tokens.{or_else}

-- the line of the first of these locals and outputs that cannot be placed, where the first is the tensor of this number
abbrev pub circular_from : PlainProgram → ℕ → List Defined → Option ℕ
circular_from p n [] = None
circular_from p n (d ∷ ds) = if can_be_placed p n then circular_from p (suc n) ds else Some d.name.line

-- Circular: the line of the name of the first local or output that cannot be placed
abbrev pub circular : Outline → PlainProgram → Option ℕ
circular o p = circular_from p (length o.inputs) o.defined

-- two lists have the same types, in order
abbrev pub are_same_types : List IntType → List IntType → Bool
are_same_types [] [] = true
are_same_types [] (b ∷ bs) = false
are_same_types (a ∷ as') [] = false
are_same_types (a ∷ as') (b ∷ bs) = is_same_type a b && are_same_types as' bs

-- there are as many inputs as outputs, of equal types in order
abbrev pub outputs_fit : PlainProgram → Bool
outputs_fit p = are_same_types (input_types p.tensors) (output_types p.tensors)

-- Iterate mismatch: the computation does not run just once, and the outputs do not fit the inputs
abbrev pub iterate_mismatch : PlainProgram → Bool
iterate_mismatch p = not (p.iterate == 1) && not (outputs_fit p)

-- Preserve mismatch: the border is preserved, and the outputs do not fit the inputs
abbrev pub preserve_mismatch : PlainProgram → Bool
preserve_mismatch p = preserves p && not (outputs_fit p)

-- the number, if it is none from the least to the most
abbrev pub unless_within : ℕ → ℕ → ℕ → Option ℕ
unless_within least most n = if (nat_le least n && nat_le n most) then None else Some n

-- the first number that passes the most
abbrev pub first_past : ℕ → List ℕ → Option ℕ
first_past most ns = find (λ n. nat_lt most n) ns

-- the products of the first numbers, of the first two and so on, times n
abbrev pub partial_products : ℕ → List ℕ → List ℕ
partial_products n [] = []
partial_products n (k ∷ ks) = n * k ∷ partial_products (n * k) ks

-- Limit tile: the first partial product of the fixed extents that passes the most
abbrev pub tile_past : PlainProgram → Option ℕ
tile_past p = first_past most_tile (partial_products 1 p.extents)

-- the magnitudes of the components of a cell of a tensor, with the left side subtracted
abbrev pub site_magnitudes : Outline → List ℤ → Site → List ℕ
site_magnitudes o left (Size s) = []
site_magnitudes o left (Left w offsets) = []
site_magnitudes o left (Cell w offsets) = if is_tensor o w then map unsigned_abs (shifted offsets left) else []
site_magnitudes o left (Value w indexes) = []

-- the left side that stands before what comes behind a site
abbrev pub left_behind : List ℤ → Site → List ℤ
left_behind left (Size s) = left
left_behind left (Left w offsets) = offsets
left_behind left (Cell w offsets) = left
left_behind left (Value w indexes) = left

-- the first magnitude past the most of the cells of tensors at these sites, with the left side before each subtracted
abbrev pub far_from : Outline → List ℤ → List Site → Option ℕ
far_from o left [] = None
far_from o left (s ∷ ss) =
    or_else (first_past most_offset (site_magnitudes o left s)) (far_from o (left_behind left s) ss)

-- Limit offset: the first such magnitude of the sites of all statements
abbrev pub offset_past : Outline → Option ℕ
offset_past o = far_from o [] o.sites

-- a param's partial products, and 1 where it has no size
abbrev pub param_products : List ℕ → List ℕ
param_products [] = 1 ∷ []
param_products (n ∷ ns) = partial_products 1 (n ∷ ns)

-- the first that passes the most among the values of all params before these together with each partial product of
-- these in turn
abbrev pub values_past : ℕ → List PlainParam → Option ℕ
values_past before [] = None
values_past before (q ∷ qs) =
    or_else (first_past most_values (map (λ n. before + n) (param_products q.sizes)))
    (values_past (before + size q.sizes) qs)

-- Limit params: the first running sum of the values of all params that passes the most
abbrev pub params_past : PlainProgram → Option ℕ
params_past p = values_past 0 p.params

-- from the least to the most, and whole cells of each input and output fill it
abbrev pub has_good_burst : PlainProgram → Bool
has_good_burst p = nat_le least_burst p.burst && nat_le p.burst most_burst && list_all (fills_burst p.burst) p.tensors

-- Burst width: the width, if it is not good
abbrev pub bad_burst : PlainProgram → Option ℕ
bad_burst p = if has_good_burst p then None else Some p.burst
