-- The bytes of a cell as a number, and types that are one.
use Rattle.std.proofs.Common.{◌≡◌, ℕ, zero, suc, ◌*◌, ◌<◌, ◌≤◌, Bool, true, false, slice_index_or, refl, sym, arith, if◌then◌else◌, nat_le, ◌⊎◌, ◌&&◌, ◌∙◌, ap, eqb, eq-eqb, Decides}
use mathlib.Core.Bool.{beq}
use Rattle.std.proofs.lemmas.Bool.{eqb-true}
use Rattle.std.proofs.lemmas.Bool.Decides.{nat_tests}
use Rattle.soda_words.specs.IntType.{IntType, IsType, IsCellSize, cell_sizes}
use Rattle.soda_ir.specs.Valid.{cell_size}

one_of_four : (k s : ℕ) → k < 4 → slice_index_or cell_sizes k s ≡ s → (s ≡ 1) ⊎ ((s ≡ 2) ⊎ ((s ≡ 4) ⊎ (s ≡ 8)))
one_of_four zero s h e = grind arith
one_of_four (suc zero) s h e = grind arith
one_of_four (suc (suc zero)) s h e = grind arith
one_of_four (suc (suc (suc zero))) s h e = grind arith
one_of_four (suc (suc (suc (suc k)))) s h e = absurd (omega arith)

least_of_four : (n s : ℕ) → n ≤ 64 → (n ≤ 8 → s ≤ 1) → (n ≤ 16 → s ≤ 2) → (n ≤ 32 → s ≤ 4) → n ≤ 8 * s → (s ≡ 1) ⊎ ((s ≡ 2) ⊎ ((s ≡ 4) ⊎ (s ≡ 8))) → s ≡ (if nat_le n 8 then 1 else (if nat_le n 16 then 2 else (if nat_le n 32 then 4 else 8)))
least_of_four n s m a b c f one = grind (arith, nat_tests)

pub cell_size_is : (t : IntType) (s : ℕ) → IsType t → IsCellSize t s → s ≡ cell_size t
cell_size_is t s v h =
    least_of_four t.bits s v.most (λ l. h.smallest 1 (0, omega arith, refl) l) (λ l. h.smallest 2 (1, omega arith, refl) l) (λ l. h.smallest 4 (2, omega arith, refl) l) h.fits (one_of_four h.one.0 s h.one.1 h.one.2)

abbrev mk : Bool → ℕ → IntType
mk s m = record { signed = s; bits = m }

same_parts : (s t : Bool) (m n : ℕ) → (beq s t && eqb m n) ≡ true → mk s m ≡ mk t n
same_parts true true m n e = ap (λ k. mk true k) (eqb-true m n e)
same_parts false false m n e = ap (λ k. mk false k) (eqb-true m n e)
same_parts true false m n e = cc
same_parts false true m n e = cc

same_itself : (s : Bool) (m : ℕ) → (beq s s && eqb m m) ≡ true
same_itself true m = eq-eqb m m refl
same_itself false m = eq-eqb m m refl

-- types are one where their parts are
pub same_type : (a b : IntType) → Decides (beq a.signed b.signed && eqb a.bits b.bits) (a ≡ b)
same_type a b =
    (same_parts a.signed b.signed a.bits b.bits, λ e. ap (λ (t : IntType). beq a.signed t.signed && eqb a.bits t.bits) (sym e) ∙ same_itself a.signed a.bits)
