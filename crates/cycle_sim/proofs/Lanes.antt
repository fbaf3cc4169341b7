-- What a source sends at a lane is a cell of its input's array, and what a sink hands on is cells of its output's.
use Rattle.std.proofs.Common.{◌≡◌, ℕ, zero, suc, ◌+◌, ◌-◌, ◌*◌, ◌<◌, ◌≤◌, ◌^◌, List, [], ◌∷◌, All, length, map, take, drop, get_or, slice_index_or, refl, sym, ap, subst, ◌∙◌, arith, ⊎_elim, ℤ, pos, negsuc, ◌-ℤ◌, ◌<ℤ◌, length-take, length-drop}
use Rattle.std.proofs.Math.Nat.{mul-le-mul}
use Rattle.std.proofs.lemmas.Bool.{cases_lt}
use Rattle.std.proofs.lemmas.Int.{ints}
use Rattle.std.proofs.lemmas.List.{ext_get_or, get_or-map, get_or-take, get_or-drop, get_or_past, length-map}
use Rattle.std.proofs.lemmas.List.Elements.{All-get_or}
use Rattle.std.proofs.lemmas.Option.{slice_get_cases}
use Rattle.soda_words.specs.IntType.{IntType, int32}
use Rattle.int_types.specs.Ranges.{InRange, wrapped}
use Rattle.int_types.proofs.CallerLemmas.{own_wrap, wrapped_is}
use Rattle.delay_net.specs.Shape.{IsWidth}
use Rattle.soda_ir.specs.Program.{PlainProgram}
use Rattle.soda_eval.specs.Runs.{HasArrays}
use Rattle.time_stages.specs.declared.staging.StagedTensor.{StagedTensor}
use Rattle.time_stages.specs.Staged.{staged_tensors, staged_widths, type_of}
use Rattle.staged_cells.specs.Cells.{type_at}
use Rattle.staged_cells.specs.Sends.{numbered}
use Rattle.file_modules.specs.Firings.{cells_before, lane_of}
use Rattle.file_modules.proofs.CallerLemmas.{lane_below, lane_past, lane_there, next_first}

-- a difference that is a number, and one that is none
pub difference : (x d : ℕ) → d ≤ x → (pos x -ℤ pos d) ≡ pos (x - d)
difference x d le = omega (arith, ints)

numbered_pos : (array : List ℤ) (x d : ℕ) → d ≤ x → numbered array (pos x -ℤ pos d) ≡ get_or array (x - d) (pos 0)
numbered_pos array x d le = ap (numbered array) (difference x d le)

numbered_of : (array : List ℤ) (z : ℤ) → z <ℤ pos 0 → numbered array z ≡ pos 0
numbered_of array (pos n) lt = absurd (omega (arith, ints))
numbered_of array (negsuc n) lt = refl

-- arrays of n cells have no more
pub short_array : {n : ℕ} (types : List IntType) (inputs : List (List ℤ)) → HasArrays n types inputs → (v : ℕ)
    → length (slice_index_or inputs v []) ≤ n
short_array [] [] h v = omega arith
short_array [] (a ∷ rest) h v = absurd h
short_array (t ∷ ts) [] h v = absurd h
short_array (t ∷ ts) (a ∷ rest) h zero = omega (arith, h.0.whole)
short_array (t ∷ ts) (a ∷ rest) h (suc v) = short_array ts rest h.1 v

-- of lists that begin with the same cells as far as a firing reads, a lane's cell is the same
pub same_lane : (u d n k lane : ℕ) (good array : List ℤ) → lane < u → length array ≤ n
    → take (cells_before u d n (k + 1)) good ≡ take (cells_before u d n (k + 1)) array
    → lane_of u d n good k lane ≡ numbered array (pos (u * k + lane) -ℤ pos d)
same_lane u d n k lane good array lt short same =
    let x : ℕ = u * k + lane in
    let b : ℕ = cells_before u d n (k + 1) in
    ⊎_elim
    (λ (below : x < d). lane_below u d n good k lane below ∙ sym (numbered_of array (pos x -ℤ pos d) (omega (arith, ints))))
    (λ (from : d ≤ x).
    ⊎_elim
    (λ (there : x - d < n).
    let before : x - d < b = omega (arith, next_first u k) in
    lane_there u d n good k lane from there
    ∙ sym (get_or-take b good (x - d) (pos 0) before)
    ∙ ap (λ xs. get_or xs (x - d) (pos 0)) same
    ∙ get_or-take b array (x - d) (pos 0) before
    ∙ sym (numbered_pos array x d from))
    (λ (past : n ≤ x - d).
    lane_past u d n good k lane past
    ∙ sym (numbered_pos array x d from ∙ get_or_past array (x - d) (pos 0) (omega arith)))
    (cases_lt (x - d) n))
    (cases_lt x d)

-- the number of a firing's cell
pub small_place : (u k lane d : ℕ) → u ≤ 64 → lane < u → k < 2 ^ 40 → (pos (u * k + lane) -ℤ pos d) <ℤ pos (2 ^ 60)
small_place u k lane d few lt small =
    let le : k ≤ 2 ^ 40 = omega arith in
    let product : u * k ≤ 64 * 2 ^ 40 = mul-le-mul few le in
    omega (arith, ints, product)

-- a type of a staged tensor has a bit
pub some_bits : (p : PlainProgram) → All IsWidth (staged_widths p) → (v : ℕ) → 0 < (type_at p v).bits
unfolding staged_widths
some_bits p widths v =
    let ts : List StagedTensor = staged_tensors p in
    let wide : StagedTensor → ℕ = λ s. (type_of p s.tensor).bits in
    ⊎_elim
    (λ found.
    let s : StagedTensor = found.0 in
    let width = All-get_or IsWidth (map wide ts) v 0 (omega (arith, found.1, length-map ts wide)) widths in
    let is : get_or (map wide ts) v 0 ≡ wide s = get_or-map wide ts v s 0 found.1 ∙ ap wide found.3 in
    let type : type_at p v ≡ type_of p s.tensor = get_or-map (λ (t : StagedTensor). type_of p t.tensor) ts v s int32 found.1
    ∙ ap (λ (t : StagedTensor). type_of p t.tensor) found.3 in
    omega (arith, width.0, is, ap (λ (t : IntType). t.bits) type))
    (λ found.
    let types : List IntType = map (λ (t : StagedTensor). type_of p t.tensor) ts in
    let past : type_at p v ≡ int32 = get_or_past types v int32 (omega (arith, found.0, length-map ts (λ (t : StagedTensor). type_of p t.tensor))) in
    omega (arith, ap (λ (t : IntType). t.bits) past))
    (slice_get_cases ts v).1

-- wrapping changes no part of a list whose values are in range
pub wrapped_part : (t : IntType) (array : List ℤ) (count from : ℕ) → 0 < t.bits
    → ((i : ℕ) → i < length array → InRange t (get_or array i (pos 0)))
    → map (wrapped t) (take count (drop from array)) ≡ take count (drop from array)
wrapped_part t array count from some in_range =
    let part : List ℤ = take count (drop from array) in
    ext_get_or (pos 0) (map (wrapped t) part) part (length-map part (wrapped t))
    (λ j lt.
    let short : j < length part = omega (arith, length-map part (wrapped t)) in
    let few : j < count = omega (arith, length-take count (drop from array)) in
    let inside : from + j < length array = omega (arith, length-take count (drop from array), length-drop from array) in
    let is : get_or part j (pos 0) ≡ get_or array (from + j) (pos 0) = get_or-take count (drop from array) j (pos 0) few ∙ get_or-drop from array j (pos 0) in
    get_or-map (wrapped t) part j (pos 0) (pos 0) short
    ∙ sym (wrapped_is t (get_or part j (pos 0)) (get_or part j (pos 0)) some
    (own_wrap t (get_or part j (pos 0)) (subst (InRange t) (sym is) (in_range (from + j) inside)))))
