-- A job of the mode `plain` whose arrays are asked for: names, ids and bursts.
use Rattle.std.proofs.Common.{◌≡◌, ◌<◌, ◌≤◌, ℕ, zero, suc, ◌+◌, ◌*◌, ◌%◌, ◌==◌, true, List, [], ◌∷◌, length, take, drop, slice_index_or, All, Bor, refl, sym, ap, ◌∙◌, arith}
use Rattle.std.specs.List.{list_all}
use Rattle.std.proofs.lemmas.Bool.{and_parts, eqb-true}
use Rattle.std.proofs.lemmas.List.{drop-map, take-map}
use Rattle.std.proofs.lemmas.List.Elements.{All-cons, All-nil}
use Rattle.soda_words.specs.IntType.{IntType}
use Rattle.soda_words.specs.Limits.{least_burst, most_burst}
use Rattle.soda_ir.specs.Program.{PlainTensor, input_types}
use Rattle.soda_ir.specs.Valid.{cell_size as cell_size_of, fills_burst, output_types}
use Rattle.soda_ir.specs.declared.program.Role.TheVariants.{Input, Local, Output}
use Rattle.array_bytes.specs.Sizes.{cell_size}
use Rattle.job_arrays.specs.Arrays.{FillBurst}
use Rattle.job_files.specs.Files.{ids_from, names_of}
use Rattle.sodac_cli.specs.Work.{first_extent}

-- the names that references point to, in front of a place and behind it
pub names_front : (names front : List (Bor (List ℕ))) (n count : ℕ) → front ≡ take n names → n ≡ count → names_of front ≡ take count (names_of names)
names_front names front n count are same =
    ap names_of are ∙ sym (take-map (λ (name : Bor (List ℕ)). name.now) n names) ∙ ap (λ k. take k (names_of names)) same

pub names_rest : (names rest : List (Bor (List ℕ))) (n count : ℕ) → rest ≡ drop n names → n ≡ count → names_of rest ≡ drop count (names_of names)
names_rest names rest n count are same =
    ap names_of are ∙ sym (drop-map (λ (name : Bor (List ℕ)). name.now) n names) ∙ ap (λ k. drop k (names_of names)) same

-- the names of the inputs and of the outputs, of names that were taken as a slice
module _ (items names : List (Bor (List ℕ))) (taken : names ≡ items) (n count : ℕ) (same : n ≡ count) where
  pub inputs_named : (front : List (Bor (List ℕ))) → front ≡ take n names → names_of front ≡ take count (names_of items)
  inputs_named front are =
      names_front names front n count are same ∙ ap (λ (ns : List (Bor (List ℕ))). take count (names_of ns)) taken

  pub outputs_named : (rest : List (Bor (List ℕ))) → rest ≡ drop n names → names_of rest ≡ drop count (names_of items)
  outputs_named rest are =
      names_rest names rest n count are same ∙ ap (λ (ns : List (Bor (List ℕ))). drop count (names_of ns)) taken

-- so many ids are below the next one
pub ids_below : (start count bound : ℕ) → start + count ≤ bound → All (λ id. id < bound) (ids_from start count)
ids_below start zero bound le = All-nil (λ (id : ℕ). id < bound)
ids_below start (suc count) bound le =
    All-cons (λ (id : ℕ). id < bound) start (ids_from (start + 1) count) (omega arith) (ids_below (start + 1) count bound (omega arith))

pub ids_length : (start count : ℕ) → length (ids_from start count) ≡ count
ids_length start zero = refl
ids_length start (suc count) = ap suc (ids_length (start + 1) count)

-- whole cells of each input and output fill a burst
same_size : (t : IntType) → cell_size_of t ≡ cell_size t
unfolding cell_size
same_size t = refl

burst_of : (burst : ℕ) (t : IntType) → least_burst ≤ burst → burst ≤ most_burst → (burst % (8 * cell_size_of t) == 0) ≡ true → FillBurst burst t
burst_of burst t least most whole = record {
  least = least;
  most = most;
  whole = ap (λ (n : ℕ). burst % (8 * n)) (sym (same_size t)) ∙ eqb-true (burst % (8 * cell_size_of t)) 0 whole;
}

module _ (burst : ℕ) (least : least_burst ≤ burst) (most : burst ≤ most_burst) where
  pub inputs_fill : (ts : List PlainTensor) → list_all (fills_burst burst) ts ≡ true → All (λ t. FillBurst burst t) (input_types ts)
  inputs_fill [] all = All-nil (λ (t : IntType). FillBurst burst t)
  inputs_fill (t ∷ ts) all =
      let both = and_parts (fills_burst burst t) (list_all (fills_burst burst) ts) all in
      let rest = inputs_fill ts both.1 in
      elim t.role as (λ r. (elim r [
        | Local ↦ true
        | Input ↦ burst % (8 * cell_size_of t.ty) == 0
        | Output ↦ burst % (8 * cell_size_of t.ty) == 0
      ]) ≡ true → All (λ u. FillBurst burst u) (elim r [ Input ↦ t.ty ∷ input_types ts | Local ↦ input_types ts | Output ↦ input_types ts ])) [
        | Input ↦ λ fits. All-cons (λ (u : IntType). FillBurst burst u) t.ty (input_types ts) (burst_of burst t.ty least most fits) rest
        | Local ↦ λ fits. rest
        | Output ↦ λ fits. rest
      ] both.0

  pub outputs_fill : (ts : List PlainTensor) → list_all (fills_burst burst) ts ≡ true → All (λ t. FillBurst burst t) (output_types ts)
  outputs_fill [] all = All-nil (λ (t : IntType). FillBurst burst t)
  outputs_fill (t ∷ ts) all =
      let both = and_parts (fills_burst burst t) (list_all (fills_burst burst) ts) all in
      let rest = outputs_fill ts both.1 in
      elim t.role as (λ r. (elim r [
        | Local ↦ true
        | Input ↦ burst % (8 * cell_size_of t.ty) == 0
        | Output ↦ burst % (8 * cell_size_of t.ty) == 0
      ]) ≡ true → All (λ u. FillBurst burst u) (elim r [ Input ↦ output_types ts | Local ↦ output_types ts | Output ↦ t.ty ∷ output_types ts ])) [
        | Input ↦ λ fits. rest
        | Local ↦ λ fits. rest
        | Output ↦ λ fits. All-cons (λ (u : IntType). FillBurst burst u) t.ty (output_types ts) (burst_of burst t.ty least most fits) rest
      ] both.0

-- how many cells a line has, from what is looked at of the extents
pub run_empty : (ns xs : List ℕ) → xs ≡ ns → length xs < 1 → 1 ≡ first_extent ns
run_empty ns [] e lt = ap first_extent e
run_empty ns (x ∷ xs) e lt = absurd (omega arith)

pub run_some : (ns xs : List ℕ) → xs ≡ ns → 1 ≤ length xs → slice_index_or xs 0 0 ≡ first_extent ns
run_some ns [] e le = absurd (omega arith)
run_some ns (x ∷ xs) e le = ap first_extent e
