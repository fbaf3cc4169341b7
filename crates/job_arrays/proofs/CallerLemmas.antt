-- Lemmas that crates above cite.
use Rattle.std.proofs.Common.{◌≡◌, ◌*◌, ◌%◌, true, false, nat_le, if◌then◌else◌, refl, arith}
use Rattle.soda_words.specs.IntType.{IntType}
use Rattle.soda_words.specs.Limits.{most_burst}
use Rattle.array_bytes.specs.Sizes.{cell_size}
use Rattle.job_arrays.specs.Arrays.{FillBurst}

-- whole cells of each type fill the widest burst
fill_widest : (t : IntType) → most_burst % (8 * cell_size t) ≡ 0
unfolding cell_size
fill_widest t = elim (nat_le t.bits 8) as
    (λ b. most_burst % (8 * (if b then 1 else (if nat_le t.bits 16 then 2 else (if nat_le t.bits 32 then 4 else 8)))) ≡ 0) [
      | true ↦ refl
      | false ↦ elim (nat_le t.bits 16) as (λ b. most_burst % (8 * (if b then 2 else (if nat_le t.bits 32 then 4 else 8))) ≡ 0) [
        | true ↦ refl
        | false ↦ elim (nat_le t.bits 32) as (λ b. most_burst % (8 * (if b then 4 else 8)) ≡ 0) [ true ↦ refl | false ↦ refl ]
      ]
    ]

pub widest_fits : (t : IntType) → FillBurst most_burst t
widest_fits t = record { least = omega arith; most = omega arith; whole = fill_widest t }
