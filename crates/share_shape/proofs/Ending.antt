-- Sharing ends: as many steps as there are compounds leave no two that are shift-equal.
use Rattle.std.proofs.Common.{◌≡◌, ℕ, zero, suc, ◌+◌, ◌*◌, ◌<◌, ◌≤◌, List, Option, Some, None, option_map, map, length, refl, sym, ◌∙◌, ap, subst, arith}
use Rattle.std.specs.List.{insert}
use Rattle.std.proofs.Math.Nat.{mul-le-mul_left}
use Rattle.soda_ir.specs.Program.{PlainProgram, PlainTensor}
use Rattle.share_shape.specs.Compounds.{Site, sites, sites_from}
use Rattle.share_shape.specs.Procedure.{first_shared, local_for, next_shared, replaced_in, shared, shared_at, shared_in}
use Rattle.share_shape.specs.Shifts.{based}
use Rattle.share_shape.proofs.Counting.{count, count_renumbered, count_shifted, counts_over, length-sites, one_compound, site_hits, sum_insert, tensor_count, tensor_hits, total, twice}
use Rattle.share_shape.proofs.Found.{IsSite, found, none_closed, sites_have}

product_by : (n h : ℕ) → 1 ≤ n → 2 ≤ h → n + n ≤ n * h
product_by n h a b = omega (arith, mul-le-mul_left n b)

-- one step leaves fewer compounds
fewer_at : (p : PlainProgram) (s : Site) → first_shared (sites p) ≡ Some s → length (sites (shared_at p s)) < length (sites p)
unfolding shared_at
fewer_at p s e =
    let k = s.tensor in let c = s.compound in
    let at : IsSite (λ f. Unit {0}) 0 p.tensors s = found (IsSite (λ f. Unit {0}) 0 p.tensors) s (sites p) (sites_have (λ f. Unit {0}) none_closed 0 p.tensors (λ i f e. tt)) e in
    let new : List PlainTensor = insert (map (replaced_in k c) p.tensors) k (local_for p s) in
    let a : length (sites_from 0 new) ≡ total tensor_count new = length-sites 0 new in
    let b : total tensor_count new ≡ tensor_count (local_for p s) + total tensor_count (map (replaced_in k c) p.tensors) = sum_insert tensor_count (map (replaced_in k c) p.tensors) k (local_for p s) in
    let l : tensor_count (local_for p s) ≡ count c = (count_renumbered k (based c)).0 ∙ count_shifted _ c in
    let d : total tensor_count (map (replaced_in k c) p.tensors) + count c * total (tensor_hits c) p.tensors ≡ total tensor_count p.tensors = counts_over k c at.compound.cell p.tensors in
    let o : length (sites p) ≡ total tensor_count p.tensors = length-sites 0 p.tensors in
    let m : 2 ≤ total (tensor_hits c) p.tensors = omega (arith, twice s (sites p) e, site_hits c at.compound.cell 0 p.tensors) in
    let n : 1 ≤ count c = one_compound c at.compound.operation at.compound.cell in
    omega (arith, a, b, l, d, o, product_by (count c) (total (tensor_hits c) p.tensors) n m)

pub some_program : {p q : PlainProgram} → Some p ≡ Some q → p ≡ q
some_program e = cc

fewer_by : (p q : PlainProgram) (o : Option Site) → first_shared (sites p) ≡ o → option_map (shared_at p) o ≡ Some q → length (sites q) < length (sites p)
fewer_by p q None e h = cc
fewer_by p q (Some s) e h = subst (λ (r : PlainProgram). length (sites r) < length (sites p)) (some_program h) (fewer_at p s e)

pub fewer : (p q : PlainProgram) → next_shared p ≡ Some q → length (sites q) < length (sites p)
unfolding next_shared
fewer p q h = fewer_by p q (first_shared (sites p)) refl h

-- a step, and the others
pub steps_on : (n : ℕ) (p q : PlainProgram) → next_shared p ≡ Some q → shared_in (suc n) p ≡ shared_in n q
unfolding shared_in
steps_on n p q e = ap (λ (o : Option PlainProgram). elim o [ None ↦ p | Some r ↦ shared_in n r ]) e

pub steps_off : (n : ℕ) (p : PlainProgram) → next_shared p ≡ None → shared_in n p ≡ p
unfolding shared_in
steps_off zero p e = refl
steps_off (suc n) p e = ap (λ (o : Option PlainProgram). elim o [ None ↦ p | Some r ↦ shared_in n r ]) e

no_steps : (p : PlainProgram) → shared_in zero p ≡ p
unfolding shared_in
no_steps p = refl

abbrev IsLast : PlainProgram → Type 0
IsLast p = next_shared p ≡ None

ended_by : (n : ℕ) (p : PlainProgram) → ((q : PlainProgram) → length (sites q) ≤ n → IsLast (shared_in n q)) → length (sites p) ≤ suc n → (o : Option PlainProgram) → next_shared p ≡ o → IsLast (shared_in (suc n) p)
ended_by n p rest h None e = subst IsLast (sym (steps_off (suc n) p e)) e
ended_by n p rest h (Some q) e =
    subst IsLast (sym (steps_on n p q e)) (rest q (omega (arith, fewer p q e)))

empty_by : (p : PlainProgram) → length (sites p) ≤ 0 → (o : Option PlainProgram) → next_shared p ≡ o → IsLast (shared_in zero p)
empty_by p h None e = subst IsLast (sym (no_steps p)) e
empty_by p h (Some q) e = absurd (omega (arith, fewer p q e))

pub ended : (n : ℕ) (p : PlainProgram) → length (sites p) ≤ n → IsLast (shared_in n p)
ended zero p h = empty_by p h (next_shared p) refl
ended (suc n) p h = ended_by n p (ended n) h (next_shared p) refl

pub ends : (p : PlainProgram) → next_shared (shared p) ≡ None
unfolding shared
ends p = ended (length (sites p)) p (omega arith)

-- more steps change nothing
more_by : (m n : ℕ) (p : PlainProgram) → length (sites p) ≤ m → length (sites p) ≤ n → ((a b : ℕ) (q : PlainProgram) → length (sites q) < length (sites p) → length (sites q) ≤ a → length (sites q) ≤ b → shared_in a q ≡ shared_in b q) → (o : Option PlainProgram) → next_shared p ≡ o → shared_in m p ≡ shared_in n p
more_by m n p h k rest None e = steps_off m p e ∙ sym (steps_off n p e)
more_by zero n p h k rest (Some q) e = absurd (omega (arith, fewer p q e))
more_by (suc m) zero p h k rest (Some q) e = absurd (omega (arith, fewer p q e))
more_by (suc m) (suc n) p h k rest (Some q) e =
    let f = fewer p q e in
    steps_on m p q e ∙ rest m n q f (omega (arith, f)) (omega (arith, f)) ∙ sym (steps_on n p q e)

same_steps : (l m n : ℕ) (p : PlainProgram) → length (sites p) < l → length (sites p) ≤ m → length (sites p) ≤ n → shared_in m p ≡ shared_in n p
same_steps zero m n p g h k = absurd (omega arith)
same_steps (suc l) m n p g h k =
    more_by m n p h k (λ a b q f. same_steps l a b q (omega arith)) (next_shared p) refl

pub enough : (n : ℕ) (p : PlainProgram) → length (sites p) ≤ n → shared_in n p ≡ shared p
unfolding shared
enough n p h = same_steps (suc (length (sites p))) n (length (sites p)) p (omega arith) h (omega arith)

-- a property that each step keeps
kept_by : (P : PlainProgram → Type 0) → ((p q : PlainProgram) → next_shared p ≡ Some q → P p → P q) → (n : ℕ) (p : PlainProgram) → ((q : PlainProgram) → P q → P (shared_in n q)) → P p → (o : Option PlainProgram) → next_shared p ≡ o → P (shared_in (suc n) p)
kept_by P step n p rest h None e = subst P (sym (steps_off (suc n) p e)) h
kept_by P step n p rest h (Some q) e = subst P (sym (steps_on n p q e)) (rest q (step p q e h))

pub kept_in : (P : PlainProgram → Type 0) → ((p q : PlainProgram) → next_shared p ≡ Some q → P p → P q) → (n : ℕ) (p : PlainProgram) → P p → P (shared_in n p)
kept_in P step zero p h = subst P (sym (no_steps p)) h
kept_in P step (suc n) p h = kept_by P step n p (kept_in P step n) h (next_shared p) refl
