-- Ages of reads, and the storage of tensors, where the delays keep their limit.
use Rattle.std.proofs.Common.{◌≡◌, ℕ, ◌+◌, ◌≤◌, ◌^◌, List, pos, negsuc, ℤ, ◌≤ℤ◌, arith, ⊎_elim}
use Rattle.std.specs.List.{All}
use Rattle.std.proofs.lemmas.Int.{ints}
use Rattle.std.proofs.lemmas.List.Elements.{All-contains}
use Rattle.delay_net.specs.Shape.{HasSmallOffset}
use Rattle.delay_net.specs.Windows.{IsGreatestAge, age, at_least_0}
use Rattle.delay_net.specs.declared.net.Read.{Read}
use Rattle.reuse_chain.specs.Lanes.{greatest}
use Rattle.net_build.proofs.Greatest.{each_within}

-- a whole number within two counts together is within them as a count
count_within : (z : ℤ) (n d : ℕ) → z ≤ℤ pos (n + d) → at_least_0 z ≤ n + d
count_within (pos m) n d h = omega (arith, ints)
count_within (negsuc m) n d h = omega arith

-- an age as a count
pub age_is : (z : ℤ) (n : ℕ) → z ≡ pos n → n ≡ at_least_0 z
age_is (pos m) n h = omega (arith, ints)
age_is (negsuc m) n h = absurd (omega (arith, ints))

-- a read is at most as old as its reader is late, and as an offset is far
pub age_short : (delays : List ℕ) (r : Read) (m : ℕ) → greatest delays ≤ m → HasSmallOffset r → at_least_0 (age delays r) ≤ m + 2 ^ 42
age_short delays r m kept small =
    let late = each_within delays r.reader in
    count_within (age delays r) m (2 ^ 42) (omega (arith, ints, small.0, late, kept))

-- and so is a tensor's storage
pub storage_short : (reads : List Read) (delays : List ℕ) (tensor cells m : ℕ) → All HasSmallOffset reads → greatest delays ≤ m
    → IsGreatestAge reads delays tensor cells → cells ≤ m + 2 ^ 42
storage_short reads delays tensor cells m small kept is =
    ⊎_elim (λ none. omega arith)
    (λ some. let short = age_short delays some.0 m kept (All-contains HasSmallOffset reads some.0 small some.1) in
    omega (arith, short, age_is (age delays some.0) cells some.3))
    is.reached
