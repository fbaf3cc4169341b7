-- An iteration begins with the margins that are defined, and all its cells are in range.
use Rattle.std.proofs.Common.{◌≡◌, ℕ, ◌<◌, suc, List, [], ℤ, length, slice_index_or, sym, ◌∙◌, ap, subst, arith}
use Rattle.std.proofs.lemmas.List.{get_or_default}
use Rattle.soda_ir.specs.Program.{PlainProgram, extents_at, input_types, outputs_of}
use Rattle.soda_ir.specs.Valid.{IsSound}
use Rattle.soda_ir.proofs.CallerLemmas.{get-listed, length-listed}
use Rattle.soda_eval.specs.Runs.{HasArrays, cells_at, run_of}
use Rattle.soda_eval.proofs.CallerLemmas.{cell_in_range, inputs_in_range}
use Rattle.time_stages.specs.declared.margins.Margins.{Margins}
use Rattle.time_stages.specs.Margins.{AreMade, dims_of, keeps_away, margins_of, no_margins}
use Rattle.time_stages.specs.Placing.{placing_order}
use Rattle.soda_run.specs.pieces.Filled.{AreFilled, Begins}
use Rattle.region_margins.proofs.CallerLemmas.{region_margins}
use Rattle.soda_run.proofs.Sequence.{next_begins}

pub begins_at : (p : PlainProgram) → IsSound p → (rows : ℕ) (params : List ℤ) (inputs : List (List ℤ)) → HasArrays (cells_at p rows) (input_types p.tensors) inputs → (t : ℕ) (made : List Margins) → t < p.iterate → AreMade p t made
    → Begins p rows (run_of p rows params inputs t) params made
begins_at p sound rows params inputs h t made l m =
    let many : length made ≡ length p.tensors = ap length m.are ∙ length-listed (margins_of p t) (length p.tensors) in
    let default : (x : ℕ) → x < length p.tensors → slice_index_or made x (no_margins (dims_of p)) ≡ slice_index_or made x (no_margins 0) = λ x b. get_or_default made x (no_margins (dims_of p)) (no_margins 0) (omega arith) in
    let at : (x : ℕ) → x < length p.tensors → slice_index_or made x (no_margins 0) ≡ margins_of p t x = λ x b. ap (λ ms. slice_index_or ms x (no_margins 0)) m.are ∙ get-listed (margins_of p t) (length p.tensors) x (no_margins 0) b in
    record {
      many = many;
      low_dims = λ x b. ap (λ (w : Margins). length w.low) (sym (default x b)) ∙ (m.most x).low_dims;
      high_dims = λ x b. ap (λ (w : Margins). length w.high) (sym (default x b)) ∙ (m.most x).high_dims;
      regions = λ x q b. region_margins p sound rows params inputs t x q b ∙ ap (λ (w : Margins). keeps_away (extents_at p rows) w.low w.high q) (sym (at x b));
      in_range = λ x q b. cell_in_range p sound rows params (run_of p rows params inputs t) (inputs_in_range p sound rows params inputs h t l) x q b;
    }

-- the same of margins that are handed over
pub begins_from : (p : PlainProgram) → IsSound p → (rows : ℕ) (params : List ℤ) (inputs : List (List ℤ)) → HasArrays (cells_at p rows) (input_types p.tensors) inputs → (t : ℕ) (handed made : List Margins) → handed ≡ made → t < p.iterate → AreMade p t made
    → Begins p rows (run_of p rows params inputs t) params handed
begins_from p sound rows params inputs h t handed made e l m =
    subst (Begins p rows (run_of p rows params inputs t) params) (sym e) (begins_at p sound rows params inputs h t made l m)

-- the arrays of the next iteration, as the exchange leaves them
pub exchanged_begins : (p : PlainProgram) → IsSound p → (rows : ℕ) (params : List ℤ) (inputs : List (List ℤ)) (t : ℕ) (outputs : List ℕ) (before arrays : List (List ℤ)) → outputs ≡ outputs_of p → suc t < p.iterate → AreFilled p rows (run_of p rows params inputs t) params (placing_order p) before
    → length arrays ≡ length before → ((j : ℕ) → j < length outputs → slice_index_or arrays j [] ≡ slice_index_or before (slice_index_or outputs j 0) [])
    → ((n : ℕ) → ((x : ℕ) → x < length before → length (slice_index_or before x []) ≡ n) → (x : ℕ) → x < length before → length (slice_index_or arrays x []) ≡ n) → AreFilled p rows (run_of p rows params inputs (suc t)) params [] arrays
exchanged_begins p sound rows params inputs t outputs before arrays e l a many moved whole =
    next_begins p sound rows params inputs t before arrays l a many (subst (λ (xs : List ℕ). (j : ℕ) → j < length xs → slice_index_or arrays j [] ≡ slice_index_or before (slice_index_or xs j 0) []) e moved) (whole (cells_at p rows) (λ x b. a.whole x (omega (arith, a.many, b))))
