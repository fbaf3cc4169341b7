-- The placing order: what stands in it is next where it stands, and nothing that can be placed is left out.
use Rattle.std.proofs.Common.{◌≡◌, ℕ, zero, suc, ◌+◌, ◌<◌, ◌≤◌, Bool, true, false, not, ◌&&◌, ◌||◌, ◌==◌, List, [], ◌∷◌, ◌++◌, length, map, Option, Some, None, slice_get, slice_index_or, refl, sym, ◌∙◌, ap, arith, ◌⊎◌, ⊎_elim, inl, inr, if◌then◌else◌, add-one, eq-eqb, length-append}
use Rattle.std.proofs.lemmas.Bool.{and_parts, cases_lt, eqb-true, false≢true, or_left, or_parts, or_right, true≢false}
use Rattle.std.proofs.lemmas.List.Folds.{list_any-append}
use Rattle.soda_ir.specs.Counts.{can_be_placed, count_below, formula_in, has_place, is_input, is_input_role, tensor_is}
use Rattle.soda_ir.specs.Formula.{Formula, by_formula, every}
use Rattle.soda_ir.specs.Program.{PlainProgram, PlainTensor}
use Rattle.soda_ir.specs.Valid.{IsSound}
use Rattle.soda_ir.proofs.CallerLemmas.{count_full, count_rises, past_last, ready_more}
use Rattle.time_stages.specs.Placing.{first_below, is_among, is_next, is_there, placed_in, placing_order}

-- the first number that passes
last_found : (b : Bool) (n x : ℕ) → (if b then Some n else None) ≡ Some x → (b ≡ true) × (n ≡ x)
last_found true n x e = (refl, cc)
last_found false n x e = absurd (cc)

last_missed : (b : Bool) (n : ℕ) → (if b then Some n else None) ≡ None → b ≡ false
last_missed true n e = absurd (cc)
last_missed false n e = refl

pub found_below : (test : ℕ → Bool) (n x : ℕ) → first_below test n ≡ Some x → (test x ≡ true) × (x < n)
found_below test zero x e = absurd (cc)
found_below test (suc n) x e =
    elim (first_below test n) as (λ (o : Option ℕ). first_below test n ≡ o → elim o [ None ↦ if test n then Some n else None | Some y ↦ Some y ] ≡ Some x → (test x ≡ true) × (x < suc n)) [
      | None ↦ λ h d. let r = last_found (test n) n x d in (sym (ap test r.1) ∙ r.0, omega arith)
      | Some y ↦ λ h d. let r = found_below test n x (h ∙ d) in (r.0, omega arith)
    ] refl e

missed_below : (test : ℕ → Bool) (n x : ℕ) → first_below test n ≡ None → x < n → test x ≡ false
missed_below test zero x e l = absurd (omega arith)
missed_below test (suc n) x e l =
    elim (first_below test n) as (λ (o : Option ℕ). first_below test n ≡ o → ◌≡◌ {A = Option ℕ} (elim o [ None ↦ if test n then Some n else None | Some y ↦ Some y ]) None → test x ≡ false) [
      | None ↦ λ h d. ⊎_elim (λ (m : x < n). missed_below test n x h m) (λ (m : n ≤ x). let i : x ≡ n = omega arith in ap test i ∙ last_missed (test n) n d) (cases_lt x n)
      | Some y ↦ λ h d. absurd (cc)
    ] refl e

-- none passes before x, and x does
pub first_found : (test : ℕ → Bool) (n x : ℕ) → first_below test x ≡ None → test x ≡ true → x < n → first_below test n ≡ Some x
first_found test zero x e t l = absurd (omega arith)
first_found test (suc n) x e t l =
    ⊎_elim (λ (m : x < n). ap (λ (o : Option ℕ). elim o [ None ↦ if test n then Some n else None | Some y ↦ Some y ]) (first_found test n x e t m)) (λ (m : n ≤ x). let i : x ≡ n = omega arith in ap (λ (o : Option ℕ). elim o [ None ↦ if test n then Some n else None | Some y ↦ Some y ]) (sym (ap (first_below test) i) ∙ e) ∙ ap (λ b. if b then Some n else None) (sym (ap test i) ∙ t) ∙ sym (ap Some i)) (cases_lt x n)

-- no number below n passes, nor n
pub none_found : (test : ℕ → Bool) (n : ℕ) → first_below test n ≡ None → test n ≡ false → first_below test (n + 1) ≡ None
none_found test n e t =
    ap (first_below test) (add-one n) ∙ ap (λ (o : Option ℕ). elim o [ None ↦ if test n then Some n else None | Some y ↦ Some y ]) e ∙ ap (λ b. if b then Some n else None) t

-- one step
pub placed_none : (p : PlainProgram) → placed_in p 0 ≡ []
unfolding placed_in
placed_none p = refl

placed_step : (p : PlainProgram) (k : ℕ) → placed_in p (suc k) ≡ elim (first_below (is_next p (placed_in p k)) (length p.tensors)) [ None ↦ placed_in p k | Some x ↦ placed_in p k ++ x ∷ [] ]
unfolding placed_in
placed_step p k = refl

placed_still : (p : PlainProgram) (k : ℕ) → first_below (is_next p (placed_in p k)) (length p.tensors) ≡ None → placed_in p (suc k) ≡ placed_in p k
placed_still p k e =
    placed_step p k ∙ ap (λ (o : Option ℕ). elim o [ None ↦ placed_in p k | Some x ↦ placed_in p k ++ x ∷ [] ]) e

pub placed_more : (p : PlainProgram) (k x : ℕ) → first_below (is_next p (placed_in p k)) (length p.tensors) ≡ Some x → placed_in p (suc k) ≡ placed_in p k ++ x ∷ []
placed_more p k x e =
    placed_step p k ∙ ap (λ (o : Option ℕ). elim o [ None ↦ placed_in p k | Some y ↦ placed_in p k ++ y ∷ [] ]) e

-- there are no more than steps
pub placed_length : (p : PlainProgram) (k : ℕ) → length (placed_in p k) ≤ k
placed_length p zero = omega (arith, ap length (placed_none p))
placed_length p (suc k) =
    elim (first_below (is_next p (placed_in p k)) (length p.tensors)) as (λ (o : Option ℕ). first_below (is_next p (placed_in p k)) (length p.tensors) ≡ o → length (placed_in p (suc k)) ≤ suc k) [
      | None ↦ λ h. omega (arith, ap length (placed_still p k h), placed_length p k)
      | Some x ↦ λ h. omega (arith, ap length (placed_more p k x h), length-append (placed_in p k) (x ∷ []), placed_length p k)
    ] refl

-- where nothing is next, nothing is later
pub placed_all : (p : PlainProgram) (k m : ℕ) → first_below (is_next p (placed_in p k)) (length p.tensors) ≡ None → k ≤ m → placed_in p m ≡ placed_in p k
placed_all p k zero e l =
    let i : 0 ≡ k = omega arith in
    ap (placed_in p) i
placed_all p k (suc m) e l =
    ⊎_elim (λ (b : m < k). let i : suc m ≡ k = omega arith in ap (placed_in p) i) (λ (b : k ≤ m). let same = placed_all p k m e b in placed_still p m (ap (λ xs. first_below (is_next p xs) (length p.tensors)) same ∙ e) ∙ same) (cases_lt m k)

-- a list with one more, where one stands in it
no_push : (before after : List ℕ) (x : ℕ) → [] ≡ before ++ x ∷ after → ⊥
no_push [] after x e = cc
no_push (b ∷ bs) after x e = cc

push_split : (xs : List ℕ) (y : ℕ) (before after : List ℕ) (x : ℕ) → xs ++ y ∷ [] ≡ before ++ x ∷ after → ((before ≡ xs) × (x ≡ y)) ⊎ ((rest : List ℕ) × (xs ≡ before ++ x ∷ rest))
push_split [] y [] after x e =
    let i : x ≡ y = cc in
    inl (refl, i)
push_split [] y (b ∷ bs) after x e =
    let rest : [] ≡ bs ++ x ∷ after = cc in
    absurd (no_push bs after x rest)
push_split (c ∷ cs) y [] after x e =
    let i : c ≡ x = cc in
    inr (cs, ap (λ z. z ∷ cs) i)
push_split (c ∷ cs) y (b ∷ bs) after x e =
    let i : c ≡ b = cc in
    let rest : cs ++ y ∷ [] ≡ bs ++ x ∷ after = cc in
    ⊎_elim (λ (h : (bs ≡ cs) × (x ≡ y)). inl (ap (λ z. z ∷ bs) (sym i) ∙ ap (λ zs. c ∷ zs) h.0, h.1)) (λ (h : (r : List ℕ) × (cs ≡ bs ++ x ∷ r)). inr (h.0, ap (λ z. z ∷ cs) i ∙ ap (λ zs. b ∷ zs) h.1)) (push_split cs y bs after x rest)

-- each that is placed was next where it stands
pub next_at : (p : PlainProgram) (k : ℕ) (before after : List ℕ) (x : ℕ) → placed_in p k ≡ before ++ x ∷ after → is_next p before x ≡ true
next_at p zero before after x e = absurd (no_push before after x (sym (placed_none p) ∙ e))
next_at p (suc k) before after x e =
    elim (first_below (is_next p (placed_in p k)) (length p.tensors)) as (λ (o : Option ℕ). first_below (is_next p (placed_in p k)) (length p.tensors) ≡ o → is_next p before x ≡ true) [
      | None ↦ λ h. next_at p k before after x (sym (placed_still p k h) ∙ e)
      | Some y ↦ λ h. ⊎_elim (λ (s : (before ≡ placed_in p k) × (x ≡ y)). ap (λ xs. is_next p xs x) s.0 ∙ ap (is_next p (placed_in p k)) s.1 ∙ (found_below (is_next p (placed_in p k)) (length p.tensors) y h).0) (λ (s : (rest : List ℕ) × (placed_in p k ≡ before ++ x ∷ rest)). next_at p k before s.0 x s.1) (push_split (placed_in p k) y before after x (sym (placed_more p k y h) ∙ e))
    ] refl

-- what is next is not there, and all that it reads is
and_turned : (a i r : Bool) → (not a && (not i && r)) ≡ (not (i || a) && r)
and_turned true true r = refl
and_turned true false r = refl
and_turned false true r = refl
and_turned false false r = refl

next_of : (a : Bool) (g : Formula → Bool) (o : Option PlainTensor) → (not a && elim o [ None ↦ false | Some t ↦ not (is_input_role t.role) && by_formula t.formula true g ]) ≡ (not (elim o [ None ↦ false | Some t ↦ is_input_role t.role ] || a) && elim o [ None ↦ false | Some t ↦ by_formula t.formula true g ])
next_of a g None = refl
next_of a g (Some t) = and_turned a (is_input_role t.role) (by_formula t.formula true g)

pub next_is : (p : PlainProgram) (placed : List ℕ) (x : ℕ) → is_next p placed x ≡ (not (is_there p placed x) && tensor_is (λ t. by_formula t.formula true (every (λ y o. is_there p placed y))) p x)
next_is p placed x =
    next_of (is_among x placed) (every (λ y o. is_there p placed y)) (slice_get p.tensors x)

not_there : (b : Bool) → not b ≡ true → b ≡ false
not_there true e = absurd (false≢true e)
not_there false e = refl

pub next_parts : (p : PlainProgram) (placed : List ℕ) (x : ℕ) → is_next p placed x ≡ true → (is_there p placed x ≡ false) × (tensor_is (λ t. by_formula t.formula true (every (λ y o. is_there p placed y))) p x ≡ true)
next_parts p placed x e =
    let both = and_parts (not (is_there p placed x)) (tensor_is (λ t. by_formula t.formula true (every (λ y o. is_there p placed y))) p x) (sym (next_is p placed x) ∙ e) in
    (not_there (is_there p placed x) both.0, both.1)

-- it is a tensor of the program
pub order_below : (p : PlainProgram) (k : ℕ) (before after : List ℕ) (x : ℕ) → placed_in p k ≡ before ++ x ∷ after → x < length p.tensors
order_below p k before after x e =
    ⊎_elim (λ (l : x < length p.tensors). l) (λ (l : length p.tensors ≤ x). absurd (false≢true (sym (past_last (λ t. by_formula t.formula true (every (λ y o. is_there p before y))) p x l) ∙ (next_parts p before x (next_at p k before after x e)).1))) (cases_lt x (length p.tensors))

-- where nothing is next, all that can be placed is there
there_from : (a r : Bool) → (not a && r) ≡ false → r ≡ true → a ≡ true
there_from true r e h = refl
there_from false r e h = absurd (false≢true (sym e ∙ h))

ready_there : (p : PlainProgram) (placed : List ℕ) → first_below (is_next p placed) (length p.tensors) ≡ None → (k x : ℕ) → has_place p k x ≡ true → is_there p placed x ≡ true
ready_there p placed none zero x e = absurd (false≢true e)
ready_there p placed none (suc k) x e =
    let ready : tensor_is (λ t. by_formula t.formula true (every (λ y o. is_there p placed y))) p x ≡ true = ready_more (has_place p k) (is_there p placed) (ready_there p placed none k) p x e in
    ⊎_elim (λ (l : x < length p.tensors). there_from (is_there p placed x) (tensor_is (λ t. by_formula t.formula true (every (λ y o. is_there p placed y))) p x) (sym (next_is p placed x) ∙ missed_below (is_next p placed) (length p.tensors) x none l) ready) (λ (l : length p.tensors ≤ x). absurd (false≢true (sym (past_last (λ t. by_formula t.formula true (every (λ y o. is_there p placed y))) p x l) ∙ ready))) (cases_lt x (length p.tensors))

-- what is there with one more
or_shifted : (i a b : Bool) → (i || (a || (b || false))) ≡ ((i || a) || b)
or_shifted true a b = refl
or_shifted false true b = refl
or_shifted false false true = refl
or_shifted false false false = refl

pub there_push : (p : PlainProgram) (placed : List ℕ) (y x : ℕ) → is_there p (placed ++ y ∷ []) x ≡ (is_there p placed x || (y == x))
there_push p placed y x =
    ap (λ b. is_input p x || b) (list_any-append (λ z. z == x) placed (y ∷ [])) ∙ or_shifted (is_input p x) (is_among x placed) (y == x)

-- after k steps k tensors are there, or all
filled : (p : PlainProgram) → ((x : ℕ) → x < length p.tensors → can_be_placed p x ≡ true) → (k : ℕ) → (k ≤ count_below (is_there p (placed_in p k)) (length p.tensors)) ⊎ ((x : ℕ) → x < length p.tensors → is_there p (placed_in p k) x ≡ true)
filled p h zero = inl (omega arith)
filled p h (suc k) =
    elim (first_below (is_next p (placed_in p k)) (length p.tensors)) as (λ (o : Option ℕ). first_below (is_next p (placed_in p k)) (length p.tensors) ≡ o → (suc k ≤ count_below (is_there p (placed_in p (suc k))) (length p.tensors)) ⊎ ((x : ℕ) → x < length p.tensors → is_there p (placed_in p (suc k)) x ≡ true)) [
      | None ↦ λ e. inr (λ x l. ap (λ xs. is_there p xs x) (placed_still p k e) ∙ ready_there p (placed_in p k) e (length p.tensors) x (h x l))
      | Some y ↦ λ e. let here = found_below (is_next p (placed_in p k)) (length p.tensors) y e in let more = placed_more p k y e in let kept : (x : ℕ) → is_there p (placed_in p k) x ≡ true → is_there p (placed_in p (suc k)) x ≡ true = λ x d. ap (λ xs. is_there p xs x) more ∙ there_push p (placed_in p k) y x ∙ or_left (is_there p (placed_in p k) x) (y == x) d in ⊎_elim (λ (l : k ≤ count_below (is_there p (placed_in p k)) (length p.tensors)). let rises = count_rises (is_there p (placed_in p k)) (is_there p (placed_in p (suc k))) (length p.tensors) y kept here.1 (next_parts p (placed_in p k) y here.0).0 (ap (λ xs. is_there p xs y) more ∙ there_push p (placed_in p k) y y ∙ or_right (is_there p (placed_in p k) y) (y == y) (eq-eqb y y refl)) in inl (omega (arith, rises))) (λ (c : (x : ℕ) → x < length p.tensors → is_there p (placed_in p k) x ≡ true). inr (λ x l. kept x (c x l))) (filled p h k)
    ] refl

-- all tensors of a sound program are there at last
pub all_there : (p : PlainProgram) → IsSound p → (x : ℕ) → x < length p.tensors → is_there p (placing_order p) x ≡ true
all_there p s x l =
    ⊎_elim (λ (full : length p.tensors ≤ count_below (is_there p (placing_order p)) (length p.tensors)). count_full (is_there p (placing_order p)) (length p.tensors) full x l) (λ (c : (y : ℕ) → y < length p.tensors → is_there p (placing_order p) y ≡ true). c x l) (filled p s.placed (length p.tensors))

-- where a number stands in a list
pub among_split : (xs : List ℕ) (x : ℕ) → is_among x xs ≡ true → (before : List ℕ) × (after : List ℕ) × (xs ≡ before ++ x ∷ after)
among_split [] x e = absurd (false≢true e)
among_split (y ∷ ys) x e =
    elim (y == x) as (λ (b : Bool). (y == x) ≡ b → (b || is_among x ys) ≡ true → (before : List ℕ) × (after : List ℕ) × (y ∷ ys ≡ before ++ x ∷ after)) [
      | true ↦ λ h d. ([], ys, ap (λ z. z ∷ ys) (eqb-true y x h))
      | false ↦ λ h d. let r = among_split ys x d in (y ∷ r.0, r.1, ap (λ zs. y ∷ zs) r.2)
    ] refl e

-- what is placed is no input
placed_no_input : (p : PlainProgram) (k x : ℕ) → is_among x (placed_in p k) ≡ true → is_input p x ≡ false
placed_no_input p k x e =
    let r = among_split (placed_in p k) x e in
    (or_parts (is_input p x) (is_among x r.0) (next_parts p r.0 x (next_at p k r.0 r.1 x r.2)).0).0

one_of : (i a : Bool) → (i || a) ≡ true → (a ≡ true → i ≡ false) → a ≡ not i
one_of true true e h = absurd (true≢false (h refl))
one_of true false e h = refl
one_of false true e h = refl
one_of false false e h = absurd (false≢true e)

-- the order has each local and output
pub order_all : (p : PlainProgram) (x : ℕ) → IsSound p → x < length p.tensors → is_among x (placing_order p) ≡ not (is_input p x)
order_all p x s l =
    one_of (is_input p x) (is_among x (placing_order p)) (all_there p s x l) (placed_no_input p (length p.tensors) x)

-- the formula of a tensor that passes a test
pub formula_passes : (g : Formula → Bool) (ts : List PlainTensor) (x : ℕ) (f : Formula) → elim (slice_get ts x) [ None ↦ false | Some t ↦ by_formula t.formula true g ] ≡ true → slice_index_or (map (λ t. t.formula) ts) x None ≡ Some f → g f ≡ true
formula_passes g [] x f e d = absurd (false≢true e)
formula_passes g (t ∷ ts) zero f e d = sym (ap (λ o. by_formula o true g) d) ∙ e
formula_passes g (t ∷ ts) (suc x) f e d = formula_passes g ts x f e d

-- each stands behind all that it reads but inputs
pub order_behind : (p : PlainProgram) (k : ℕ) (before after : List ℕ) (x : ℕ) (f : Formula) → placed_in p k ≡ before ++ x ∷ after → formula_in p x ≡ Some f → every (λ y o. is_there p before y) f ≡ true
order_behind p k before after x f e d =
    formula_passes (every (λ y o. is_there p before y)) p.tensors x f (next_parts p before x (next_at p k before after x e)).1 d

-- and once
pub order_once : (p : PlainProgram) (k : ℕ) (before after : List ℕ) (x : ℕ) → placed_in p k ≡ before ++ x ∷ after → is_among x before ≡ false
order_once p k before after x e =
    (or_parts (is_input p x) (is_among x before) (next_parts p before x (next_at p k before after x e)).0).1
