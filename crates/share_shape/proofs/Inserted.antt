-- A list with one element more: what stands at each number.
use Rattle.std.proofs.Common.{◌≡◌, ℕ, zero, suc, ◌+◌, ◌<◌, ◌≤◌, List, [], ◌∷◌, Option, Some, None, map, slice_index_or, length, refl, sym, ◌∙◌, ap, arith, ⊎_elim, ◌⊎◌, inl, inr, if◌then◌else◌}
use Rattle.std.specs.List.{insert}
use Rattle.std.proofs.lemmas.Bool.{cases_lt, le-ltb, lt-ltb}
use Rattle.std.proofs.lemmas.List.Edits.{get_or-insert_at, get_or-insert_below, get_or-insert_above}
use Rattle.soda_ir.specs.declared.program.Role.{Role}
use Rattle.soda_ir.specs.declared.program.Role.TheVariants.{Input, Local, Output}
use Rattle.soda_ir.specs.Formula.{Formula}
use Rattle.soda_ir.specs.Program.{PlainTensor, outputs_from}
use Rattle.soda_eval.specs.Runs.{borders_from}
use Rattle.share_shape.specs.Procedure.{further, replaced_in}

pub further_less : (k t : ℕ) → t < k → further k t ≡ t
further_less k t h = ap (λ b. if b then t else suc t) (lt-ltb t k h)

pub further_more : (k t : ℕ) → k ≤ t → further k t ≡ suc t
further_more k t h = ap (λ b. if b then t else suc t) (le-ltb t k h)

at_least : (k z : ℕ) → k ≤ z → (z ≡ k) ⊎ ((y : ℕ) × (z ≡ further k y) × (y ≤ z) × (z ≤ suc y))
at_least zero zero h = inl refl
at_least (suc k) zero h = absurd (omega arith)
at_least k (suc z) h =
    ⊎_elim (λ (l : z < k). inl (omega arith)) (λ (l : k ≤ z). inr (z, sym (further_more k z l), omega arith, omega arith)) (cases_lt z k)

-- a number is that of the new element, or of one that was there
pub other_or_new : (k z : ℕ) → (z ≡ k) ⊎ ((y : ℕ) × (z ≡ further k y) × (y ≤ z) × (z ≤ suc y))
other_or_new k z =
    ⊎_elim (λ (l : z < k). inr (z, sym (further_less k z l), omega arith, omega arith)) (λ (l : k ≤ z). at_least k z l) (cases_lt z k)

module _ {X : Type 0} (xs : List X) (k : ℕ) (x d : X) (h : k ≤ length xs) where
  pub get_new : slice_index_or (insert xs k x) k d ≡ x
  get_new = get_or-insert_at xs k x d h

  pub get_other : (y : ℕ) → slice_index_or (insert xs k x) (further k y) d ≡ slice_index_or xs y d
  get_other y =
      ⊎_elim (λ (l : y < k). ap (λ i. slice_index_or (insert xs k x) i d) (further_less k y l) ∙ get_or-insert_below xs k x d y l h)
      (λ (l : k ≤ y). let e : further k y ≡ y + 1 = further_more k y l ∙ omega arith in ap (λ i. slice_index_or (insert xs k x) i d) e ∙ get_or-insert_above xs k x d y l h) (cases_lt y k)

pub map_insert : {X Y : Type 0} → (f : X → Y) (xs : List X) (i : ℕ) (x : X) → map f (insert xs i x) ≡ insert (map f xs) i (f x)
map_insert f [] zero x = refl
map_insert f [] (suc i) x = refl
map_insert f (y ∷ ys) zero x = refl
map_insert f (y ∷ ys) (suc i) x = ap (λ zs. f y ∷ zs) (map_insert f ys i x)

pub map_map : {X Y Z : Type 0} → (f : Y → Z) (g : X → Y) (xs : List X) → map f (map g xs) ≡ map (λ x. f (g x)) xs
map_map f g [] = refl
map_map f g (x ∷ xs) = ap (λ zs. f (g x) ∷ zs) (map_map f g xs)

-- the inputs whose cells stand outside the regions
abbrev with_border : Role → ℕ → List PlainTensor → List (Option ℕ)
with_border r m ts =
    elim r [ Input ↦ None ∷ borders_from m ts | Local ↦ None ∷ borders_from m ts | Output ↦ Some m ∷ borders_from (suc m) ts ]

border_by : (r : Role) (m : ℕ) (ts us : List PlainTensor) → ((i : ℕ) → borders_from i ts ≡ borders_from i us) → with_border r m ts ≡ with_border r m us
border_by Input m ts us h = ap (λ xs. None ∷ xs) (h m)
border_by Local m ts us h = ap (λ xs. None ∷ xs) (h m)
border_by Output m ts us h = ap (λ xs. Some m ∷ xs) (h (suc m))

pub borders_replaced : (k : ℕ) (c : Formula) (m : ℕ) (ts : List PlainTensor) → borders_from m (map (replaced_in k c) ts) ≡ borders_from m ts
borders_replaced k c m [] = refl
borders_replaced k c m (t ∷ ts) =
    border_by t.role m (map (replaced_in k c) ts) ts (λ i. borders_replaced k c i ts)

borders_next : (r : Role) (m i : ℕ) (ts us : List PlainTensor) → ((j : ℕ) → borders_from j us ≡ insert (borders_from j ts) i None) → with_border r m us ≡ insert (with_border r m ts) (suc i) None
borders_next Input m i ts us h = ap (λ xs. None ∷ xs) (h m)
borders_next Local m i ts us h = ap (λ xs. None ∷ xs) (h m)
borders_next Output m i ts us h = ap (λ xs. Some m ∷ xs) (h (suc m))

pub borders_inserted : (l : PlainTensor) → l.role ≡ Local → (m : ℕ) (ts : List PlainTensor) (i : ℕ) → i ≤ length ts → borders_from m (insert ts i l) ≡ insert (borders_from m ts) i None
borders_inserted l e m [] zero h = ap (λ (r : Role). with_border r m []) e
borders_inserted l e m [] (suc i) h = absurd (omega arith)
borders_inserted l e m (t ∷ ts) zero h = ap (λ (r : Role). with_border r m (t ∷ ts)) e
borders_inserted l e m (t ∷ ts) (suc i) h =
    borders_next t.role m i ts (insert ts i l) (λ j. borders_inserted l e j ts i (omega arith))

length_by : (r : Role) (m : ℕ) (ts : List PlainTensor) → ((i : ℕ) → length (borders_from i ts) ≡ length ts) → length (with_border r m ts) ≡ suc (length ts)
length_by Input m ts h = omega (arith, h m)
length_by Local m ts h = omega (arith, h m)
length_by Output m ts h = omega (arith, h (suc m))

pub length-borders : (m : ℕ) (ts : List PlainTensor) → length (borders_from m ts) ≡ length ts
length-borders m [] = refl
length-borders m (t ∷ ts) = length_by t.role m ts (λ i. length-borders i ts)

-- the numbers of the outputs
abbrev with_number : Role → ℕ → List ℕ → List ℕ
with_number r k xs = elim r [ Input ↦ xs | Local ↦ xs | Output ↦ k ∷ xs ]

pub outputs_replaced : (k : ℕ) (c : Formula) (m : ℕ) (ts : List PlainTensor) → outputs_from m (map (replaced_in k c) ts) ≡ outputs_from m ts
outputs_replaced k c m [] = refl
outputs_replaced k c m (t ∷ ts) = ap (with_number t.role m) (outputs_replaced k c (suc m) ts)

up_by : (r : Role) (k m : ℕ) (xs : List ℕ) → k ≤ m → with_number r (suc m) (map (further k) xs) ≡ map (further k) (with_number r m xs)
up_by Input k m xs h = refl
up_by Local k m xs h = refl
up_by Output k m xs h = ap (λ n. n ∷ map (further k) xs) (sym (further_more k m h))

outputs_up : (k m : ℕ) (ts : List PlainTensor) → k ≤ m → outputs_from (suc m) ts ≡ map (further k) (outputs_from m ts)
outputs_up k m [] h = refl
outputs_up k m (t ∷ ts) h =
    ap (with_number t.role (suc m)) (outputs_up k (suc m) ts (omega arith)) ∙ up_by t.role k m (outputs_from (suc m) ts) h

stay_by : (r : Role) (k m : ℕ) (xs : List ℕ) → m < k → with_number r m (map (further k) xs) ≡ map (further k) (with_number r m xs)
stay_by Input k m xs h = refl
stay_by Local k m xs h = refl
stay_by Output k m xs h = ap (λ n. n ∷ map (further k) xs) (sym (further_less k m h))

pub outputs_inserted : (l : PlainTensor) → l.role ≡ Local → (k m : ℕ) (ts : List PlainTensor) (i : ℕ) → k ≡ m + i → i ≤ length ts → outputs_from m (insert ts i l) ≡ map (further k) (outputs_from m ts)
outputs_inserted l e k m ts zero f h =
    ap (λ (r : Role). with_number r m (outputs_from (suc m) ts)) e ∙ outputs_up k m ts (omega arith)
outputs_inserted l e k m [] (suc i) f h = absurd (omega arith)
outputs_inserted l e k m (t ∷ ts) (suc i) f h =
    ap (with_number t.role m) (outputs_inserted l e k (suc m) ts i (omega arith) (omega arith)) ∙ stay_by t.role k m (outputs_from (suc m) ts) (omega arith)
