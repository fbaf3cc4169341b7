-- How far a cell stands away, how far a box reaches, and the read that an output has under preserve.
use Rattle.std.proofs.Common.{◌≡◌, ℕ, zero, suc, ◌+◌, ◌*◌, ◌<◌, ◌≤◌, ◌-◌, Bool, true, false, ◌&&◌, not, List, [], ◌∷◌, ◌++◌, ℤ, pos, ◌+ℤ◌, ◌*ℤ◌, unsigned_abs, length, take, drop, get_or, refl, sym, ◌∙◌, ap, subst, arith, nat_le, eqb, mul-le-mul_left, mul-le-mul_right, ◌==◌, nat_lt, map, Option, Some, None, slice_index_or, ◌^◌, if◌then◌else◌, Result, Ok, Err, OnOk, FitsSigned, to_z, of_z}
use Rattle.std.specs.List.{list_all}
use Rattle.std.proofs.lemmas.Bool.{and_parts, leb-true}
use Rattle.std.proofs.lemmas.Grind.{common_steps}
use Rattle.std.proofs.lemmas.Int.{ints, unsigned_abs-mul}
use Rattle.std.proofs.lemmas.List.{append-nil, append_assoc}
use Rattle.soda_ir.specs.Counts.{IsCountable, border_reads, is_output, output_number, reach}
use Rattle.soda_ir.specs.Points.{linear, size}
use Rattle.soda_ir.specs.Program.{PlainProgram, preserves}
use Rattle.soda_ir.specs.declared.reads.Read.{Read}
use Rattle.soda_ir.specs.Uses.{is_near}

linear-none : (ns : List ℕ) → linear ns [] ≡ pos 0
linear-none [] = refl
linear-none (n ∷ ns) = refl

linear-last : (n : ℕ) (o : List ℤ) → linear (n ∷ []) o ≡ get_or o 0 (pos 0)
linear-last n [] = refl
linear-last n (d ∷ ds) = omega (arith, ints)

near_first : (o : List ℤ) → is_near o ≡ true → unsigned_abs (get_or o 0 (pos 0)) ≤ 32768
near_first [] h = omega arith
near_first (d ∷ ds) h = leb-true (unsigned_abs d) 32768 (and_parts (nat_le (unsigned_abs d) 32768) (is_near ds) h).0

times_bound : (n s : ℕ) (r : ℤ) → unsigned_abs r ≤ 32768 * s → unsigned_abs (pos n *ℤ r) ≤ 32768 * (n * s)
times_bound n s r h =
    let m : n * unsigned_abs r ≤ n * (32768 * s) = mul-le-mul_left n h in
    omega (arith, unsigned_abs-mul (pos n) r, m)

sum_bound : (d x : ℤ) (s : ℕ) → unsigned_abs d ≤ 32768 → unsigned_abs x ≤ 32768 * s → unsigned_abs (d +ℤ x) ≤ 32768 * (1 + s)
sum_bound d x s h k = omega (arith, ints)

-- the bound of a distance
linear_bound : (ns : List ℕ) (o : List ℤ) → is_near o ≡ true → unsigned_abs (linear (ns ++ 1 ∷ []) o) ≤ 32768 * reach ns
linear_bound [] o h = rw (linear-last 1 o) (near_first o h)
linear_bound (n ∷ ns) [] h = omega arith
linear_bound (n ∷ ns) (d ∷ ds) h =
    let parts = and_parts (nat_le (unsigned_abs d) 32768) (is_near ds) h in
    sum_bound d (pos n *ℤ linear (ns ++ 1 ∷ []) ds) (n * reach ns) (near_first (d ∷ ds) h) (times_bound n (reach ns) (linear (ns ++ 1 ∷ []) ds) (linear_bound ns ds parts.1))

pub distance_bound : (ns : List ℕ) (o : List ℤ) (x : ℤ) → is_near o ≡ true → x ≡ linear (ns ++ 1 ∷ []) o → unsigned_abs x ≤ 32768 * reach ns
distance_bound ns o x h e = rw e (linear_bound ns o h)

pub nonzero : (n : ℕ) → not (eqb n 0) ≡ true → 0 < n
nonzero zero e = cc
nonzero (suc n) e = omega arith

pub reach_behind : (n s : ℕ) → 0 < n → s ≤ n * s
reach_behind zero s h = absurd (omega arith)
reach_behind (suc n) s h = omega arith

-- a box of so many cells reaches no further than this
pub reach_bound : (ns : List ℕ) → list_all (λ n. not (eqb n 0)) ns ≡ true → (reach ns ≤ (1 + length ns) * size ns) × (0 < size ns)
reach_bound [] h = (omega arith, omega arith)
reach_bound (n ∷ ns) h =
    let parts = and_parts (not (eqb n 0)) (list_all (λ m. not (eqb m 0)) ns) h in
    let some : 0 < n = nonzero n parts.0 in
    let rest = reach_bound ns parts.1 in
    let grown : n * reach ns ≤ n * ((1 + length ns) * size ns) = mul-le-mul_left n rest.0 in
    let least : size ns ≤ n * size ns = reach_behind n (size ns) some in
    let all : n * ((1 + length ns) * size ns) ≡ (1 + length ns) * (n * size ns) = omega arith in
    let two : (1 + suc (length ns)) * (n * size ns) ≡ n * size ns + (1 + length ns) * (n * size ns) = omega arith in
    (omega (arith, grown, least, rest.1, all, two), omega (arith, least, rest.1))

-- the front of a list of numbers
pub reach-cons : (ns : List ℕ) → 0 < length ns → reach ns ≡ 1 + get_or ns 0 0 * reach (take (length ns - 1) (drop 1 ns))
reach-cons [] h = absurd (omega arith)
reach-cons (n ∷ ns) h =
    let rest : take (length (n ∷ ns) - 1) (drop 1 (n ∷ ns)) ≡ ns = grind (arith, common_steps) in
    ap (λ xs. 1 + n * reach xs) (sym rest)

reach_some : (ns : List ℕ) → 1 ≤ reach ns
reach_some [] = omega arith
reach_some (n ∷ ns) = omega arith

-- an extent is no greater than the reach
pub first_reach : (ns : List ℕ) → 0 < length ns → slice_index_or ns 0 0 ≤ reach ns
first_reach ns h =
    let r = reach (take (length ns - 1) (drop 1 ns)) in
    let n = slice_index_or ns 0 0 in
    let m : n * 1 ≤ n * r = mul-le-mul_left n (reach_some (take (length ns - 1) (drop 1 ns))) in
    omega (arith, m, reach-cons ns h)

-- one dimension more reaches so far
pub outward_bound : (ns : List ℕ) (x r : ℤ) → 0 < length ns → unsigned_abs x ≤ 2 ^ 63 + slice_index_or ns 0 0 * unsigned_abs r → unsigned_abs r ≤ 2 ^ 63 * reach (take (length ns - 1) (drop 1 ns)) → unsigned_abs x ≤ 2 ^ 63 * reach ns
outward_bound ns x r h b s =
    let n = slice_index_or ns 0 0 in
    let t = reach (take (length ns - 1) (drop 1 ns)) in
    let m : n * unsigned_abs r ≤ n * (2 ^ 63 * t) = mul-le-mul_left n s in
    omega (arith, m, b, reach-cons ns h)

pub linear-empty : (ns : List ℕ) (o : List ℤ) → length o < 1 → pos 0 ≡ linear ns o
linear-empty ns [] h = sym (linear-none ns)
linear-empty ns (d ∷ ds) h = absurd (omega arith)

pub ruleset joined = (append-nil, append_assoc)

pub reach_of : (p : PlainProgram) → IsCountable p → reach p.extents ≤ 2 ^ 26
reach_of p v =
    let b = reach_bound p.extents v.extents in
    let few : 1 + length p.extents ≤ 4 = omega (arith, v.few_dims) in
    let m : (1 + length p.extents) * size p.extents ≤ 4 * size p.extents = mul-le-mul_right (size p.extents) few in
    omega (arith, b.0, m, v.small_tile)

-- the read that an output has under preserve, and no other
pub border_there : (p : PlainProgram) (x n : ℕ) (b : Bool) (before after : List Read) → b ≡ (preserves p && is_output p x) → b ≡ true → n ≡ output_number p x → after ≡ before ++ record { of = n; offset = pos 0 } ∷ [] → after ≡ before ++ border_reads p x
border_there p x n b before after h k m e =
    e
    ∙ ap (λ j. before ++ record { of = j; offset = pos 0 } ∷ []) m
    ∙ ap (λ c. before ++ (if c then record { of = output_number p x; offset = pos 0 } ∷ [] else [])) (sym k ∙ h)

pub border_not_there : (p : PlainProgram) (x : ℕ) (b : Bool) (before : List Read) → b ≡ (preserves p && is_output p x) → b ≡ false → before ≡ before ++ border_reads p x
border_not_there p x b before h k =
    sym (append-nil before) ∙ ap (λ c. before ++ (if c then record { of = output_number p x; offset = pos 0 } ∷ [] else [])) (sym k ∙ h)

pub on_ok : {A E : Type 0} {P Q : Type 0} (r : Result A E) → OnOk r P → (P → Q) → OnOk r Q
on_ok (Ok a) h f = f h
on_ok (Err e) h f = h
