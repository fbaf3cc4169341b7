-- No two staged tensors are the same tensor in the same iteration, and no two outputs have one number.
use Rattle.std.proofs.Common.{◌≡◌, ◌≢◌, ◌+◌, ℕ, zero, suc, ◌-◌, ◌<◌, ◌≤◌, Bool, true, false, not, ◌==◌, eq-eqb, All, AllPairs, List, [], ◌∷◌, ◌++◌, length, map, filter, take, drop, get_or, slice_get, Some, refl, sym, ap, subst, ◌∙◌, arith, ⊎_elim, length-take, length-append, if◌then◌else◌}
use Rattle.std.proofs.Math.Seq.{drop-cons, get_or-append_right}
use Rattle.std.proofs.lemmas.Bool.{cases_lt, false≢true}
use Rattle.std.proofs.lemmas.List.{get_or-map, get_or-take, get_or_append_left, length-map, take-append-drop}
use Rattle.std.proofs.lemmas.List.Elements.{All-append, All-cons, All-filter, All-from_get_or, All-get_or, All-map, All-nil}
use Rattle.std.proofs.lemmas.List.Folds.{list_any_at}
use Rattle.std.proofs.lemmas.List.Kept.{AllPairs-filter}
use Rattle.std.proofs.lemmas.Option.{get_or_from_slice_get, slice_get-get_or, slice_get_within}
use Rattle.soda_ir.specs.Counts.{count_below, is_input, is_live}
use Rattle.soda_ir.specs.Points.{listed}
use Rattle.soda_ir.specs.Program.{PlainProgram}
use Rattle.soda_ir.proofs.CallerLemmas.{get-listed, length-listed}
use Rattle.time_stages.specs.declared.staging.StagedTensor.{StagedTensor}
use Rattle.time_stages.specs.Placing.{is_among, placing_order}
use Rattle.time_stages.specs.Staged.{inputs_of, live_statements, staged_statements, staged_tensor, staged_tensors}

-- any
abbrev pub no_stage : StagedTensor
no_stage = record { turn = 0; tensor = 0; low = []; high = [] }

-- they are no two of one tensor in one iteration
abbrev pub Differ : StagedTensor → StagedTensor → Type 0
Differ s t = s.turn ≡ t.turn → s.tensor ≡ t.tensor → ⊥

-- what holds of each pair within two lists, and of each pair between them
pairs_both : (R : StagedTensor → StagedTensor → Type 0) (xs ys : List StagedTensor) → AllPairs R xs → AllPairs R ys
    → ((i j : ℕ) (d : StagedTensor) → i < length xs → j < length ys → R (get_or xs i d) (get_or ys j d)) → AllPairs R (xs ++ ys)
pairs_both R xs ys a b between i j d lt within =
    let n : ℕ = length xs in
    let whole = length-append xs ys in
    ⊎_elim
    (λ (jl : j < n).
    let il : i < n = omega arith in
    subst (λ z. R z (get_or (xs ++ ys) j d)) (sym (get_or_append_left xs ys d i il))
    (subst (λ z. R (get_or xs i d) z) (sym (get_or_append_left xs ys d j jl)) (a i j d lt jl)))
    (λ (jr : n ≤ j).
    let later : j - n < length ys = omega (arith, whole, within) in
    let right : get_or (xs ++ ys) j d ≡ get_or ys (j - n) d = get_or-append_right xs ys j d jr in
    ⊎_elim
    (λ (il : i < n).
    subst (λ z. R z (get_or (xs ++ ys) j d)) (sym (get_or_append_left xs ys d i il))
    (subst (λ z. R (get_or xs i d) z) (sym right) (between i (j - n) d il later)))
    (λ (ir : n ≤ i).
    subst (λ z. R z (get_or (xs ++ ys) j d)) (sym (get_or-append_right xs ys i d ir))
    (subst (λ z. R (get_or ys (i - n) d) z) (sym right) (b (i - n) (j - n) d (omega arith) later)))
    (cases_lt i n))
    (cases_lt j n)

-- different tensors of one iteration
pairs_staged : (p : PlainProgram) (e : ℕ) (xs : List ℕ) → AllPairs (λ x y. x ≢ y) xs → AllPairs Differ (map (staged_tensor p e) xs)
pairs_staged p e xs apart i j d lt within turn same =
    let n = length-map xs (staged_tensor p e) in
    let jl : j < length xs = omega (arith, n, within) in
    let il : i < length xs = omega (arith, n, within) in
    let first : (get_or (map (staged_tensor p e) xs) i d).tensor ≡ get_or xs i 0 = ap (λ (s : StagedTensor). s.tensor) (get_or-map (staged_tensor p e) xs i 0 d il) in
    let second : (get_or (map (staged_tensor p e) xs) j d).tensor ≡ get_or xs j 0 = ap (λ (s : StagedTensor). s.tensor) (get_or-map (staged_tensor p e) xs j 0 d jl) in
    apart i j 0 lt jl (sym first ∙ same ∙ second)

-- the numbers below n
numbers_apart : (n : ℕ) → AllPairs (λ x y. x ≢ y) (listed (λ x. x) n)
numbers_apart n i j d lt within same =
    let size = length-listed (λ (x : ℕ). x) n in
    omega (arith, lt, ap (λ (z : ℕ). z) same, get-listed (λ (x : ℕ). x) n i d (omega (arith, size, within, lt)), get-listed (λ (x : ℕ). x) n j d (omega (arith, size, within)))

-- what a filter keeps passes its test
kept_by : (f : ℕ → Bool) (x : ℕ) (rest : List ℕ) (b : Bool) → f x ≡ b → All (λ y. f y ≡ true) rest → All (λ y. f y ≡ true) (if b then x ∷ rest else rest)
kept_by f x rest true e h = All-cons (λ y. f y ≡ true) x rest e h
kept_by f x rest false e h = h

kept : (f : ℕ → Bool) (xs : List ℕ) → All (λ y. f y ≡ true) (filter f xs)
kept f [] = All-nil (λ y. f y ≡ true)
kept f (x ∷ xs) = kept_by f x (filter f xs) (f x) refl (kept f xs)

-- one that passes is counted before each later number
counted : (f : ℕ → Bool) (x d : ℕ) → f x ≡ true → suc (count_below f x) ≤ count_below f (d + suc x)
counted f x zero e =
    let one : ◌≡◌ {A = ℕ} (if f x then 1 else 0) 1 = ap (λ c. if c then 1 else 0) e in
    let same : zero + suc x ≡ suc x = omega arith in
    let next : count_below f (suc x) ≡ count_below f x + (if f x then 1 else 0) = refl in
    omega (arith, one, ap (count_below f) same, next)
counted f x (suc d) e =
    let same : suc d + suc x ≡ suc (d + suc x) = omega arith in
    let next : count_below f (suc (d + suc x)) ≡ count_below f (d + suc x) + (if f (d + suc x) then 1 else 0) = refl in
    omega (arith, counted f x d e, ap (count_below f) same, next)

-- so it is not counted as a later one is
pub counted_apart : (f : ℕ → Bool) (x y : ℕ) → x < y → f x ≡ true → count_below f x ≡ count_below f y → ⊥
counted_apart f x y lt e same =
    let back : (y - suc x) + suc x ≡ y = omega (arith, lt) in
    omega (arith, counted f x (y - suc x) e, ap (count_below f) back, same)

-- and there are more in all
pub counted_within : (f : ℕ → Bool) (x n : ℕ) → x < n → f x ≡ true → suc (count_below f x) ≤ count_below f n
counted_within f x n lt e =
    let back : (n - suc x) + suc x ≡ n = omega (arith, lt) in
    omega (arith, counted f x (n - suc x) e, ap (count_below f) back)

module _ (p : PlainProgram)
    (once : (before after : List ℕ) (x : ℕ) → placing_order p ≡ before ++ x ∷ after → is_among x before ≡ false)
    (no_input : (x : ℕ) → x < length p.tensors → is_among x (placing_order p) ≡ not (is_input p x))
    (known : (v : ℕ) (s : StagedTensor) → slice_get (staged_tensors p) v ≡ Some s → s.tensor < length p.tensors) where
  -- the placing order has no number twice
  order_apart : AllPairs (λ x y. x ≢ y) (placing_order p)
  order_apart i j d lt within same =
      let xs : List ℕ = placing_order p in
      let x : ℕ = get_or xs j d in
      let is : xs ≡ take j xs ++ x ∷ drop (suc j) xs = sym (take-append-drop j xs) ∙ ap (λ ys. take j xs ++ ys) (drop-cons xs j d within) in
      let never : is_among x (take j xs) ≡ false = once (take j xs) (drop (suc j) xs) x is in
      let short : i < length (take j xs) = omega (arith, length-take j xs, lt, within) in
      let there : get_or (take j xs) i d ≡ x = get_or-take j xs i d lt ∙ same in
      let found : is_among x (take j xs) ≡ true = list_any_at (λ y. y == x) (take j xs) i d short (eq-eqb (get_or (take j xs) i d) x there) in
      false≢true (sym never ∙ found)

  -- those of the first iterations: of these, and no inputs
  abbrev pub IsStatement : ℕ → StagedTensor → Type 0
  IsStatement t s = (1 ≤ s.turn) × (s.turn ≤ t) × (is_among s.tensor (placing_order p) ≡ true)

  abbrev pub Ordered : ℕ → Type 0
  Ordered x = is_among x (placing_order p) ≡ true

  all_ordered : All Ordered (placing_order p)
  all_ordered =
      All-from_get_or Ordered (placing_order p) 0
      (λ i lt. list_any_at (λ y. y == get_or (placing_order p) i 0) (placing_order p) i 0 lt (eq-eqb (get_or (placing_order p) i 0) (get_or (placing_order p) i 0) refl))

  statements : (t : ℕ) → All (IsStatement t) (staged_statements p t) × AllPairs Differ (staged_statements p t)
  unfolding staged_statements
  statements zero = (All-nil (IsStatement zero), λ i j d lt within. absurd (omega (arith, within)))
  statements (suc t) =
      let xs : List ℕ = live_statements p (p.iterate - suc t) in
      let old : List StagedTensor = staged_statements p t in
      let new : List StagedTensor = map (staged_tensor p t) xs in
      let before = statements t in
      let older : All (IsStatement (suc t)) old = All-from_get_or (IsStatement (suc t)) old no_stage
      (λ i lt. let at = All-get_or (IsStatement t) old i no_stage lt before.0 in (at.0, omega (arith, at.1), at.2)) in
      let live : All Ordered xs = All-filter (is_live p (p.iterate - suc t)) Ordered (placing_order p) all_ordered in
      let newer : All (IsStatement (suc t)) new = All-map (IsStatement (suc t)) (staged_tensor p t) xs
      (All-from_get_or (λ x. IsStatement (suc t) (staged_tensor p t x)) xs 0
      (λ i lt. (omega arith, omega arith, All-get_or Ordered xs i 0 lt live))) in
      let turn : (j : ℕ) (d : StagedTensor) → j < length new → (get_or new j d).turn ≡ suc t =
      λ j d lt. ap (λ (s : StagedTensor). s.turn) (get_or-map (staged_tensor p t) xs j 0 d (omega (arith, length-map xs (staged_tensor p t), lt))) in (
        All-append (IsStatement (suc t)) old new older newer,
        pairs_both Differ old new before.1 (pairs_staged p t xs (AllPairs-filter (λ x y. x ≢ y) (is_live p (p.iterate - suc t)) (placing_order p) order_apart))
            (λ i j d il jl same tensor.
            let at = All-get_or (IsStatement t) old i d il before.0 in
            omega (arith, at.1, same, turn j d jl)),
      )

  inputs_kept : All (λ x. is_input p x ≡ true) (inputs_of p)
  inputs_kept = kept (is_input p) (listed (λ x. x) (length p.tensors))

  -- no two staged tensors are one
  stages_apart : AllPairs Differ (staged_tensors p)
  unfolding staged_tensors
  stages_apart =
      let ins : List ℕ = inputs_of p in
      let first : List StagedTensor = map (staged_tensor p 0) ins in
      let later : List StagedTensor = staged_statements p p.iterate in
      pairs_both Differ first later
      (pairs_staged p 0 ins (AllPairs-filter (λ x y. x ≢ y) (is_input p) (listed (λ x. x) (length p.tensors)) (numbers_apart (length p.tensors))))
      (statements p.iterate).1
      (λ i j d il jl turn tensor.
      let within : i < length ins = omega (arith, length-map ins (staged_tensor p 0), il) in
      let s : StagedTensor = get_or first i d in
      let is : s.tensor ≡ get_or ins i 0 = ap (λ (z : StagedTensor). z.tensor) (get_or-map (staged_tensor p 0) ins i 0 d within) in
      let input : is_input p s.tensor ≡ true = subst (λ x. is_input p x ≡ true) (sym is) (All-get_or (λ x. is_input p x ≡ true) ins i 0 within inputs_kept) in
      let at = All-get_or (IsStatement p.iterate) later j d jl (statements p.iterate).0 in
      let whole : List StagedTensor = first ++ later in
      let long : i < length whole = omega (arith, length-append first later, il) in
      let read : get_or whole i d ≡ s = get_or_append_left first later d i il in
      let there : s.tensor < length p.tensors = known i s (slice_get-get_or whole i d long ∙ ap Some read) in
      let none : is_among s.tensor (placing_order p) ≡ false = no_input s.tensor there ∙ ap not input in
      false≢true (sym none ∙ subst (λ x. is_among x (placing_order p) ≡ true) (sym tensor) at.2))

  -- so they have one number
  pub one_number : (v w : ℕ) (s t : StagedTensor) → slice_get (staged_tensors p) v ≡ Some s → slice_get (staged_tensors p) w ≡ Some t
      → s.turn ≡ t.turn → s.tensor ≡ t.tensor → v ≡ w
  one_number v w s t a b turn tensor =
      let ts : List StagedTensor = staged_tensors p in
      let vl = slice_get_within ts v s a in
      let wl = slice_get_within ts w t b in
      let vs : get_or ts v no_stage ≡ s = get_or_from_slice_get ts v s no_stage a in
      let wt : get_or ts w no_stage ≡ t = get_or_from_slice_get ts w t no_stage b in
      ⊎_elim
      (λ (lt : v < w).
      absurd (stages_apart v w no_stage lt wl (ap (λ (z : StagedTensor). z.turn) vs ∙ turn ∙ sym (ap (λ (z : StagedTensor). z.turn) wt))
      (ap (λ (z : StagedTensor). z.tensor) vs ∙ tensor ∙ sym (ap (λ (z : StagedTensor). z.tensor) wt))))
      (λ (le : w ≤ v).
      ⊎_elim
      (λ (lt : w < v).
      absurd (stages_apart w v no_stage lt vl (ap (λ (z : StagedTensor). z.turn) wt ∙ sym turn ∙ sym (ap (λ (z : StagedTensor). z.turn) vs))
      (ap (λ (z : StagedTensor). z.tensor) wt ∙ sym tensor ∙ sym (ap (λ (z : StagedTensor). z.tensor) vs))))
      (λ (ge : v ≤ w). omega (arith, le, ge))
      (cases_lt w v))
      (cases_lt v w)

  -- two outputs of one number are one
  pub one_output : (x y : ℕ) → (f : ℕ → Bool) → f x ≡ true → f y ≡ true → count_below f x ≡ count_below f y → x ≡ y
  one_output x y f a b same =
      ⊎_elim
      (λ (lt : x < y). absurd (counted_apart f x y lt a same))
      (λ (le : y ≤ x).
      ⊎_elim
      (λ (lt : y < x). absurd (counted_apart f y x lt b (sym same)))
      (λ (ge : x ≤ y). omega (arith, le, ge))
      (cases_lt y x))
      (cases_lt x y)
