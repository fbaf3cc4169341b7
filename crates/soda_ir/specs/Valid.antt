-- What a program keeps, said of its parts.
use Rattle.std.specs.Prelude.{◌≡◌, ◌≢◌, ℕ, suc, ◌*◌, ◌%◌, ◌≤◌, ◌<◌, Bool, true, not, ◌&&◌, ◌==◌, nat_le, List, [], ◌∷◌, ◌++◌, map, length, sum_by, Some, None, if◌then◌else◌}
use Rattle.std.specs.List.{list_all, list_any}
use Rattle.soda_words.specs.IntType.{IntType}
use Rattle.soda_words.specs.Limits.{least_burst, most_brackets, most_burst, most_dims, most_iterate, most_live, most_reads, most_sizes, most_tensors, most_tile, most_tokens, most_unroll, most_values}
use Rattle.soda_words.specs.Names.{is_free_name, is_name, is_word}
use Rattle.soda_ir.specs.declared.program.Role.TheVariants.{Input, Local, Output}
use Rattle.soda_ir.specs.Counts.{can_be_placed, is_input_role, is_output_role, live_count, read_count}
use Rattle.soda_ir.specs.Points.{size}
use Rattle.soda_ir.specs.Program.{PlainProgram, PlainParam, PlainTensor, input_types, preserves}
use Rattle.soda_ir.specs.Uses.{each_use, formula_is, is_good_cell, is_good_place}
use Rattle.soda_ir.specs.Written.{most_open, token_count}

-- a formula names tensors, params and places that are there
abbrev pub has_good_uses : PlainProgram → PlainTensor → Bool
has_good_uses p t = formula_is (each_use (is_good_cell p) (is_good_place p)) t

-- a formula has no more tokens as it is written, and no more brackets open at once, than the language allows
abbrev pub is_small : PlainProgram → PlainTensor → Bool
is_small p t = formula_is (λ f. nat_le (token_count p f) most_tokens && nat_le (most_open p f) most_brackets) t

-- a tensor has a formula exactly where it is no input
abbrev pub has_formula_if_no_input : PlainTensor → Bool
has_formula_if_no_input t = elim t.formula [ None ↦ is_input_role t.role | Some f ↦ not (is_input_role t.role) ]

-- no input stands behind a local or output
abbrev pub has_inputs_first : List PlainTensor → Bool
has_inputs_first [] = true
has_inputs_first (t ∷ ts) =
    if is_input_role t.role then has_inputs_first ts else list_all (λ u. not (is_input_role u.role)) ts

-- each name is one that a param or tensor may have, and no two are the same
abbrev pub are_free_names : List (List ℕ) → Bool
are_free_names [] = true
are_free_names (w ∷ ws) = is_free_name w && not (list_any (is_word w) ws) && are_free_names ws

-- the names of the params and of the tensors
abbrev pub names_of : List PlainParam → List PlainTensor → List (List ℕ)
names_of qs ts = map (λ q. q.name) qs ++ map (λ t. t.name) ts

-- the types of the outputs
abbrev pub output_types : List PlainTensor → List IntType
output_types [] = []
output_types (t ∷ ts) =
    elim t.role [ Input ↦ output_types ts | Local ↦ output_types ts | Output ↦ t.ty ∷ output_types ts ]

-- the bytes of a cell of this type: the least of 1, 2, 4 and 8 that holds the width
abbrev pub cell_size : IntType → ℕ
cell_size t = if nat_le t.bits 8 then 1 else (if nat_le t.bits 16 then 2 else (if nat_le t.bits 32 then 4 else 8))

-- whole cells of an input or output fill a burst of this width
abbrev pub fills_burst : ℕ → PlainTensor → Bool
fills_burst width t =
    elim t.role [
      | Local ↦ true
      | Input ↦ width % (8 * cell_size t.ty) == 0
      | Output ↦ width % (8 * cell_size t.ty) == 0
    ]

-- no more sizes than a param may have, none of them 0
abbrev pub is_good_param : PlainParam → Bool
is_good_param q = nat_le (length q.sizes) most_sizes && list_all (λ n. not (n == 0)) q.sizes

-- how many values the params have together
abbrev pub value_count : List PlainParam → ℕ
value_count qs = sum_by (λ q. size q.sizes) qs

-- the settings and the numbers of things are within their limits, and no extent is 0
pub record KeepsLimits (p : PlainProgram) : Type 0 where
  pub some_lanes : 1 ≤ p.unroll
  pub few_lanes : p.unroll ≤ most_unroll
  pub some_iterations : 1 ≤ p.iterate
  pub few_iterations : p.iterate ≤ most_iterate
  pub few_dims : suc (length p.extents) ≤ most_dims
  pub extents : list_all (λ n. not (n == 0)) p.extents ≡ true
  pub small_tile : size p.extents ≤ most_tile
  pub few_tensors : length p.tensors ≤ most_tensors
  pub few_values : value_count p.params ≤ most_values
  pub least_burst : least_burst ≤ p.burst
  pub most_burst : p.burst ≤ most_burst

-- the names, params and formulas are good ones
pub record HasGoodParts (p : PlainProgram) : Type 0 where
  pub kernel : is_name p.kernel ≡ true
  pub params : list_all is_good_param p.params ≡ true
  pub names : are_free_names (names_of p.params p.tensors) ≡ true
  pub formulas : list_all has_formula_if_no_input p.tensors ≡ true
  pub uses : list_all (has_good_uses p) p.tensors ≡ true
  pub small : list_all (is_small p) p.tensors ≡ true

-- the inputs stand first, an input and an output are there, and whole cells of each fill a burst
pub record HasGoodEnds (p : PlainProgram) : Type 0 where
  pub inputs_first : has_inputs_first p.tensors ≡ true
  pub some_input : list_any (λ t. is_input_role t.role) p.tensors ≡ true
  pub some_output : list_any (λ t. is_output_role t.role) p.tensors ≡ true
  pub bursts : list_all (fills_burst p.burst) p.tensors ≡ true

-- where the program iterates or preserves its border, there are as many inputs as outputs, of equal types in order
pub record FitsItself (p : PlainProgram) : Type 0 where
  pub iterated : p.iterate ≢ 1 → input_types p.tensors ≡ output_types p.tensors
  pub preserved : preserves p ≡ true → input_types p.tensors ≡ output_types p.tensors

-- all that a valid program keeps but for its live tensors and reads
pub record IsSound (p : PlainProgram) : Type 0 where
  pub limits : KeepsLimits p
  pub parts : HasGoodParts p
  pub ends : HasGoodEnds p
  pub fits : FitsItself p
  -- each local and output can be placed
  pub placed : (x : ℕ) → x < length p.tensors → can_be_placed p x ≡ true

-- a valid program
pub record IsValid (p : PlainProgram) : Type 0 where
  pub sound : IsSound p
  pub few_live : live_count p ≤ most_live
  pub few_reads : read_count p ≤ most_reads
