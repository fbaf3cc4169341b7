-- A cell found by its distance from a place is the one at its point, where this lies in the box.
use Rattle.std.proofs.Common.{◌≡◌, ℕ, zero, suc, ◌<◌, ◌/◌, ◌==◌, Bool, true, ◌&&◌, nat_lt, List, [], ◌∷◌, ◌++◌, ℤ, pos, negsuc, ◌+ℤ◌, ◌*ℤ◌, unsigned_abs, All, length, slice_index_or, Some, refl, sym, ◌∙◌, ap, arith, length-append, if◌then◌else◌}
use Rattle.std.proofs.lemmas.Bool.{and_from, and_parts, eqb-true, ltb-true}
use Rattle.std.proofs.lemmas.Int.{ints}
use Rattle.std.proofs.lemmas.List.Elements.{All-head, All-tail}
use Rattle.soda_words.specs.IntType.{IntType, int32}
use Rattle.int_types.specs.Ranges.{InRange}
use Rattle.int_types.proofs.CallerLemmas.{zero_in_range}
use Rattle.soda_ir.specs.Counts.{formula_in}
use Rattle.soda_ir.specs.Formula.{Formula, number, read, param, unary, binary, choice, cast, every}
use Rattle.soda_ir.specs.Points.{linear, size}
use Rattle.soda_ir.specs.Program.{PlainProgram, extents_at}
use Rattle.soda_ir.specs.Uses.{is_good_cell, is_near}
use Rattle.soda_ir.specs.Valid.{IsSound}
use Rattle.soda_ir.proofs.CallerLemmas.{countable, every_both, good_length, reads_good}
use Rattle.soda_eval.specs.Arrays.{Each, array_cell}
use Rattle.soda_eval.specs.Points.{in_box, moved, point}
use Rattle.soda_eval.specs.Runs.{IsArray, cells_at, scope_of}
use Rattle.soda_eval.specs.Values.{valued}
use Rattle.soda_eval.proofs.CallerLemmas.{each_more, get_in_range, read_number, valued_same}
use Rattle.soda_run.specs.pieces.Reads.{numbered}

pub numbered_in_range : (t : IntType) (xs : List ℤ) (z : ℤ) → All (λ v. InRange t v) xs → InRange t (numbered xs z)
numbered_in_range t xs (pos k) h = get_in_range t xs k h
numbered_in_range t xs (negsuc k) h = zero_in_range t

pub none_numbered : (z : ℤ) → numbered [] z ≡ pos 0
none_numbered (pos k) = refl
none_numbered (negsuc k) = refl

module _ (ns : List ℕ) (rows i : ℕ) (o : List ℤ) where
  abbrev ext : List ℕ
  ext = ns ++ rows ∷ []

  abbrev target : List ℤ
  target = moved (point ext i) o

  read_same : (cells : List ℤ) → i < size ext → length o ≡ suc (length ns) → in_box ext target ≡ true → numbered cells (pos i +ℤ linear (ns ++ 1 ∷ []) o) ≡ array_cell ext cells target
  read_same cells h l e =
      ap (numbered cells) (read_number ns rows i o h l e)
      ∙ sym (ap (λ b. if b then slice_index_or cells (unsigned_abs (linear ext target)) (pos 0) else pos 0) e)

-- the value of a formula over cells that are found by distance
pub value_read : (p : PlainProgram) → IsSound p → (rows : ℕ) (arrays : List (List ℤ)) (params : List ℤ) (x i : ℕ) (f : Formula) (ns : List ℕ) → ns ≡ p.extents → formula_in p x ≡ Some f → i < cells_at p rows
    → every (λ t o. in_box (extents_at p rows) (moved (point (extents_at p rows) i) o)) f ≡ true
    → valued (scope_of p) (λ t o. numbered (slice_index_or arrays t []) (pos i +ℤ linear (ns ++ 1 ∷ []) o)) params f
    ≡ valued (scope_of p) (λ t o. array_cell (extents_at p rows) (slice_index_or arrays t []) (moved (point (extents_at p rows) i) o)) params f
value_read p sound rows arrays params x i f ns s e h inside =
    let box : ℕ → List ℤ → Bool = λ t o. in_box (extents_at p rows) (moved (point (extents_at p rows) i) o) in
    ap (λ (ms : List ℕ). valued (scope_of p) (λ t o. numbered (slice_index_or arrays t []) (pos i +ℤ linear (ms ++ 1 ∷ []) o)) params f) s
    ∙ valued_same (λ t o. is_good_cell p t o && box t o) (scope_of p) params (λ t o. numbered (slice_index_or arrays t []) (pos i +ℤ linear (p.extents ++ 1 ∷ []) o)) (λ t o. array_cell (extents_at p rows) (slice_index_or arrays t []) (moved (point (extents_at p rows) i) o))
    (λ t o g. let both = and_parts (is_good_cell p t o) (box t o) g in read_same p.extents rows i o (slice_index_or arrays t []) h (good_length p t o both.0) both.1) f (every_both (is_good_cell p) box f (reads_good p x f (countable p sound) e) inside)

-- the cells that are found by distance are in range
pub reads_in_range : (p : PlainProgram) (rows : ℕ) (arrays : List (List ℤ)) (at : List ℤ → ℤ) (f : Formula) → Each (λ t o. IsArray (slice_index_or (scope_of p).tensors t int32) (cells_at p rows) (slice_index_or arrays t [])) f
    → Each (λ t o. InRange (slice_index_or (scope_of p).tensors t int32) (numbered (slice_index_or arrays t []) (at o))) f
reads_in_range p rows arrays at f h =
    each_more (λ t o. IsArray (slice_index_or (scope_of p).tensors t int32) (cells_at p rows) (slice_index_or arrays t [])) (λ t o. InRange (slice_index_or (scope_of p).tensors t int32) (numbered (slice_index_or arrays t []) (at o))) (λ t o a. numbered_in_range (slice_index_or (scope_of p).tensors t int32) (slice_index_or arrays t []) (at o) a.in_range) f h
