-- The dimensions of a box as the point of its cells moves on.
use Rattle.std.proofs.Common.{◌≡◌, ℕ, zero, suc, ◌+◌, ◌-◌, ◌*◌, ◌/◌, ◌%◌, ◌<◌, ◌≤◌, ◌^◌, ◌&&◌, Bool, List, [], ◌∷◌, length, min, nat_le, nat_lt, take, drop, get_or, refl, sym, ◌∙◌, ap, subst, arith, pos, ◌+ℤ◌, int_le, int_lt}
use Rattle.std.specs.List.{list_all}
use Rattle.std.proofs.lemmas.Bool.Decides.{nat_tests}
use Rattle.std.proofs.Math.Bool.{and_assoc}
use Rattle.std.proofs.lemmas.List.{take_all}
use Rattle.std.proofs.Math.Nat.{div-add-mod, div-lt_iff_lt-mul, mul-add-div, mul-add-mod_self_left, zero-div, zero-mod}
use Rattle.soda_ir.specs.Points.{size}
use Rattle.soda_eval.specs.Points.{point}
use Rattle.time_stages.specs.Margins.{keeps_away}
use Rattle.compute_modules.specs.declared.side.Side.{Side}
use Rattle.compute_modules.specs.pieces.Walks.{StandAt, box, cells_of, keeps_side, moved_sides, placed, side_at, sides_of}

-- so many cells on, in one dimension and in those behind it
rest_moved : (n i k : ℕ) → (i + k) % n ≡ (i % n + k) % n
rest_moved n i k =
    ap (λ m. m % n) (let e : i + k ≡ n * (i / n) + (i % n + k) = omega (arith, div-add-mod i n) in e)
    ∙ mul-add-mod_self_left n (i / n) (i % n + k)

part_moved : (n i k : ℕ) → 0 < n → (i + k) / n ≡ i / n + (i % n + k) / n
part_moved n i k h =
    ap (λ m. m / n) (let e : i + k ≡ n * (i / n) + (i % n + k) = omega (arith, div-add-mod i n) in e)
    ∙ mul-add-div h (i / n) (i % n + k)

some_numbers : (n m k : ℕ) → k < n * m → 0 < n
some_numbers zero m k h = absurd (omega arith)
some_numbers (suc n) m k h = omega arith

pub moved_at : (ss : List Side) (i k : ℕ) → i + k < cells_of ss → i + k < 2 ^ 64 → moved_sides (placed ss i) k ≡ placed ss (i + k)
moved_at [] i k h f = refl
moved_at (s ∷ ss) i k lt fit =
    let n = s.extent in
    let some = some_numbers n (cells_of ss) (i + k) lt in
    let c = i % n + k in
    let whole : n * (i / n) + i % n ≡ i = div-add-mod i n in
    let kept : min c (2 ^ 64 - 1) ≡ c = omega arith in
    let part = part_moved n i k some in
    let order : cells_of ss * n ≡ n * cells_of ss = omega arith in
    let within : (i + k) / n < cells_of ss = (div-lt_iff_lt-mul some).1 (omega arith) in
    let less : (i + k) / n ≤ i + k = omega (arith, some) in
    let first : side_at s (min c (2 ^ 64 - 1) % n) ≡ side_at s ((i + k) % n) = ap (side_at s) (ap (λ m. m % n) kept ∙ sym (rest_moved n i k)) in
    let rest : moved_sides (placed ss (i / n)) (min c (2 ^ 64 - 1) / n) ≡ placed ss ((i + k) / n) =
    ap (λ m. moved_sides (placed ss (i / n)) (m / n)) kept
    ∙ moved_at ss (i / n) (c / n) (omega arith) (omega arith)
    ∙ ap (placed ss) (sym part) in
    ap (λ (t : Side). t ∷ moved_sides (placed ss (i / n)) (min c (2 ^ 64 - 1) / n)) first ∙ ap (λ (ts : List Side). side_at s ((i + k) % n) ∷ ts) rest

-- the box stays
pub box_moved : (ss : List Side) (k : ℕ) → box (moved_sides ss k) ≡ box ss
box_moved [] k = refl
box_moved (s ∷ ss) k = ap (λ (ts : List Side). side_at s 0 ∷ ts) (box_moved ss (min (s.at + k) (2 ^ 64 - 1) / s.extent))

pub box_of : (ns ls hs : List ℕ) → box (sides_of ns ls hs) ≡ sides_of ns ls hs
box_of [] ls hs = refl
box_of (n ∷ ns) [] hs = refl
box_of (n ∷ ns) (l ∷ ls) [] = refl
box_of (n ∷ ns) (l ∷ ls) (h ∷ hs) = ap (λ (ts : List Side). (let s : Side = record { extent = n; low = l; end = n - h; at = 0 } in s) ∷ ts) (box_of ns ls hs)

pub placed_box : (ss : List Side) (i : ℕ) → placed (box ss) i ≡ placed ss i
placed_box [] i = refl
placed_box (s ∷ ss) i = ap (λ (ts : List Side). side_at s (i % s.extent) ∷ ts) (placed_box ss (i / s.extent))

pub cells_box : (ss : List Side) → cells_of (box ss) ≡ cells_of ss
cells_box [] = refl
cells_box (s ∷ ss) = ap (λ m. s.extent * m) (cells_box ss)

first_placed : (ss : List Side) → placed (box ss) 0 ≡ box ss
first_placed [] = refl
first_placed (s ∷ ss) =
    ap (λ m. side_at s m ∷ placed (box ss) (0 / s.extent)) (zero-mod s.extent)
    ∙ ap (λ m. side_at s 0 ∷ placed (box ss) m) (zero-div s.extent)
    ∙ ap (λ (ts : List Side). side_at s 0 ∷ ts) (first_placed ss)

pub cells_moved : (ss : List Side) (k : ℕ) → cells_of (moved_sides ss k) ≡ cells_of ss
cells_moved ss k = sym (cells_box (moved_sides ss k)) ∙ ap cells_of (box_moved ss k) ∙ cells_box ss

-- where the dimensions stand after a move
pub stands_on : (ss : List Side) (i k : ℕ) → cells_of ss < 2 ^ 64 → StandAt ss i → StandAt (moved_sides ss k) (i + k)
stands_on ss i k fit stands = λ within.
    let same = box_moved ss k in
    let cells = cells_moved ss k in
    let here : i + k < cells_of ss = omega (arith, within, cells) in
    ap (λ (ts : List Side). moved_sides ts k) (stands (omega arith))
    ∙ moved_at ss i k here (omega arith)
    ∙ sym (placed_box ss (i + k))
    ∙ ap (λ (ts : List Side). placed ts (i + k)) (sym same)
    ∙ placed_box (moved_sides ss k) (i + k)

pub stands_first : (ns ls hs : List ℕ) (k : ℕ) → cells_of (sides_of ns ls hs) < 2 ^ 64 → StandAt (moved_sides (sides_of ns ls hs) k) k
stands_first ns ls hs k fit =
    let ss = sides_of ns ls hs in
    let is : placed ss 0 ≡ ss = ap (λ (ts : List Side). placed ts 0) (sym (box_of ns ls hs)) ∙ first_placed ss ∙ box_of ns ls hs in
    let e : 0 + k ≡ k = omega arith in
    subst (StandAt (moved_sides ss k)) e (stands_on ss 0 k fit (λ within. sym is))

pub cells_by_extents : (ns ls hs : List ℕ) → length ls ≡ length ns → length hs ≡ length ns → cells_of (sides_of ns ls hs) ≡ size ns
cells_by_extents [] ls hs e f = refl
cells_by_extents (n ∷ ns) [] hs e f = absurd (omega arith)
cells_by_extents (n ∷ ns) (l ∷ ls) [] e f = absurd (omega arith)
cells_by_extents (n ∷ ns) (l ∷ ls) (h ∷ hs) e f = ap (λ m. n * m) (cells_by_extents ns ls hs (omega arith) (omega arith))

-- the margins of one dimension
one_kept : (n l h c : ℕ) (b : Bool) → ((nat_le l c && nat_lt c (n - h)) && b) ≡ (int_le (pos l) (pos c) && (int_lt (pos c +ℤ pos h) (pos n) && b))
one_kept n l h c b =
    let end : nat_lt c (n - h) ≡ nat_lt (c + h) n = grind (arith, nat_tests) in
    and_assoc (nat_le l c) (nat_lt c (n - h)) b ∙ ap (λ x. nat_le l c && (x && b)) end

pub kept_at : (ns ls hs : List ℕ) (i : ℕ) → length ls ≡ length ns → length hs ≡ length ns → list_all keeps_side (placed (sides_of ns ls hs) i) ≡ keeps_away ns ls hs (point ns i)
kept_at [] [] [] i e f = refl
kept_at [] [] (h ∷ hs) i e f = absurd (omega arith)
kept_at [] (l ∷ ls) hs i e f = absurd (omega arith)
kept_at (n ∷ ns) [] hs i e f = absurd (omega arith)
kept_at (n ∷ ns) (l ∷ ls) [] i e f = absurd (omega arith)
kept_at (n ∷ ns) (l ∷ ls) (h ∷ hs) i e f =
    ap (λ b. keeps_side (record { extent = n; low = l; end = n - h; at = i % n }) && b) (kept_at ns ls hs (i / n) (omega arith) (omega arith))
    ∙ one_kept n l h (i % n) (keeps_away ns ls hs (point ns (i / n)))

-- how many cells there are, by the first extent and the others
pub all_cells : (ns rest : List ℕ) (r m : ℕ) → 1 ≤ length ns → rest ≡ take (length ns - 1) (drop 1 ns) → (size rest < 2 ^ 64 → r ≡ size rest)
    → m ≡ min (get_or ns 0 0 * r) (2 ^ 64 - 1) → size ns < 2 ^ 64 → m ≡ size ns
all_cells [] rest r m l is h e fit = absurd (omega arith)
all_cells (zero ∷ ns) rest r m l is h e fit = e ∙ (let k : min (zero * r) (2 ^ 64 - 1) ≡ zero * size ns = omega arith in k)
all_cells (suc n ∷ ns) rest r m l is h e fit =
    let all : rest ≡ ns = is ∙ take_all (length (suc n ∷ ns) - 1) ns (omega arith) in
    let least : size ns ≤ suc n * size ns = omega arith in
    let known : r ≡ size ns = h (subst (λ (k : List ℕ). size k < 2 ^ 64) (sym all) (omega arith)) ∙ ap size all in
    e ∙ ap (λ k. min (suc n * k) (2 ^ 64 - 1)) known ∙ (let k : min (suc n * size ns) (2 ^ 64 - 1) ≡ suc n * size ns = omega arith in k)
