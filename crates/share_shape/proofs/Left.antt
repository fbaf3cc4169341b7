-- No two compounds of the result differ by a vector alone.
use Rattle.std.proofs.Common.{◌≡◌, ℕ, zero, suc, ◌<◌, true, ◌==◌, List, [], ◌∷◌, Some, None, option_map, Option, slice_index_or, length, nat_lt, refl, sym, ◌∙◌, arith}
use Rattle.std.proofs.lemmas.Bool.{and_parts, false≢true}
use Rattle.soda_ir.specs.Formula.{Formula, every}
use Rattle.soda_ir.specs.Program.{PlainProgram}
use Rattle.soda_ir.specs.Valid.{IsSound}
use Rattle.share_shape.specs.Compounds.{Site, sites}
use Rattle.share_shape.specs.Procedure.{first_shared, next_shared, shared, shared_at}
use Rattle.share_shape.specs.Shifts.{IsShiftEqual}
use Rattle.soda_ir.proofs.CallerLemmas.{every_weaker}
use Rattle.share_shape.proofs.Ending.{ends}
use Rattle.share_shape.proofs.Exact.{has_dims, no_pair, passes}
use Rattle.share_shape.proofs.Fit.{IsFit, dims_of}
use Rattle.share_shape.proofs.Found.{Every, IsSite, every_closed, sites_have}
use Rattle.share_shape.proofs.Sides.{is_there}
use Rattle.share_shape.proofs.Sound.{shared_like}

every_at : {X : Type 0} → (P : X → Type 0) (xs : List X) → Every P xs → (i : ℕ) (d : X) → i < length xs → P (slice_index_or xs i d)
every_at P [] h i d l = absurd (omega arith)
every_at P (x ∷ xs) h zero d l = h.0
every_at P (x ∷ xs) h (suc i) d l = every_at P xs h.1 i d (omega arith)

none_by : (p : PlainProgram) (o : Option Site) → option_map (shared_at p) o ≡ None → o ≡ None
none_by p None e = refl
none_by p (Some s) e = cc

none_left : (p : PlainProgram) → next_shared p ≡ None → first_shared (sites p) ≡ None
unfolding next_shared
none_left p e = none_by p (first_shared (sites p)) e

apart : (q : PlainProgram) → IsFit q → next_shared q ≡ None → (s : Site) (i j : ℕ) → i < j → j < length (sites q) → IsShiftEqual (dims_of q) (slice_index_or (sites q) i s).compound (slice_index_or (sites q) j s).compound → ⊥
apart q fit e s i j h l equal =
    let n = length q.tensors in let d = dims_of q in
    let Q : Formula → Type 0 = λ f. every (is_there n d) f ≡ true in
    let all = sites_have Q (every_closed (is_there n d)) 0 q.tensors (λ y f k. fit.reads y f k) in
    let at : IsSite Q 0 q.tensors (slice_index_or (sites q) i s) = every_at (IsSite Q 0 q.tensors) (sites q) all i s (omega arith) in
    let f : Formula = (slice_index_or (sites q) i s).compound in
    let dims : has_dims d f ≡ true = every_weaker (is_there n d) (λ t o. length o == d) (λ t o k. (and_parts (nat_lt t n) (length o == d) k).1) f at.compound.has in
    false≢true (sym (no_pair (sites q) (none_left q e) s i j h l) ∙ passes d f (slice_index_or (sites q) j s).compound at.compound.cell dims equal)

pub nothing_left : (p : PlainProgram) (s : Site) (i j : ℕ) → IsSound p → i < j → j < length (sites (shared p)) → IsShiftEqual (suc (length (shared p).extents)) (slice_index_or (sites (shared p)) i s).compound (slice_index_or (sites (shared p)) j s).compound → ⊥
nothing_left p s i j sound = apart (shared p) (shared_like p sound).fit (ends p) s i j
