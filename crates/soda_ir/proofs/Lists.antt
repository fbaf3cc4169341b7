-- Lists that a number makes, and tests and types over lists.
use Rattle.std.proofs.Common.{◌≡◌, ℕ, zero, suc, ◌+◌, ◌<◌, ◌≤◌, ◌-◌, Bool, true, false, not, ◌&&◌, List, [], ◌∷◌, ◌++◌, length, map, slice_index_or, get_or, take, drop, refl, sym, ◌∙◌, ap, arith, if◌then◌else◌, ⊎_elim, length-append}
use Rattle.std.specs.List.{list_all}
use Rattle.std.proofs.lemmas.Bool.{and_from, and_parts, cases_lt}
use Rattle.std.proofs.lemmas.Grind.{common_steps}
use Rattle.std.proofs.lemmas.List.{ext_get_or, get_or_append_left, get_or_past, get_or_push, map-append, take_more}
use Rattle.std.proofs.lemmas.List.Folds.{list_all-append, list_all-map}
use Rattle.soda_ir.specs.declared.program.Role.TheVariants.{Input, Local, Output}
use Rattle.soda_ir.specs.declared.program.Tensor.{Tensor}
use Rattle.soda_ir.specs.Counts.{is_input_role, is_output_role}
use Rattle.soda_ir.specs.Points.{listed}
use Rattle.soda_ir.specs.Program.{PlainTensor, input_types, plain_tensor}
use Rattle.soda_ir.specs.Valid.{has_inputs_first, output_types}

-- functions that agree everywhere are one
pub ext : {A B : Type 0} → (f g : A → B) → ((x : A) → f x ≡ g x) → f ≡ g
ext f g h = λ i x. h x i

-- a list by numbers begins with the first
pub listed-cons : {A : Type 0} → (f : ℕ → A) (n : ℕ) → listed f (suc n) ≡ f 0 ∷ listed (λ k. f (suc k)) n
listed-cons f zero = refl
listed-cons f (suc n) = ap (λ xs. xs ++ f (suc n) ∷ []) (listed-cons f n)

pub length-listed : {A : Type 0} → (f : ℕ → A) (n : ℕ) → length (listed f n) ≡ n
length-listed f zero = refl
length-listed f (suc n) = length-append (listed f n) (f n ∷ []) ∙ omega (arith, length-listed f n)

pub get-listed : {A : Type 0} → (f : ℕ → A) (n x : ℕ) (d : A) → x < n → slice_index_or (listed f n) x d ≡ f x
get-listed f zero x d h = absurd (omega arith)
get-listed f (suc n) x d h =
    ⊎_elim (λ (l : x < n). get_or_append_left (listed f n) (f n ∷ []) d x (rw length-listed l) ∙ get-listed f n x d l) (λ (l : n ≤ x). let e : n ≡ x = omega arith in get_or_push (listed f n) (f n) d x (length-listed f n ∙ e) ∙ ap f e) (cases_lt x n)

pub get-listed-past : {A : Type 0} → (f : ℕ → A) (n x : ℕ) (d : A) → n ≤ x → slice_index_or (listed f n) x d ≡ d
get-listed-past f n x d h = get_or_past (listed f n) x d (rw length-listed h)

-- a list that is known at each place
pub known_list : {A : Type 0} → (f : ℕ → A) (n : ℕ) (xs : List A) (d : A) → length xs ≡ n → ((x : ℕ) → x < n → slice_index_or xs x d ≡ f x) → xs ≡ listed f n
known_list f n xs d e h =
    ext_get_or d xs (listed f n) (e ∙ sym (length-listed f n)) (λ i l. let m : i < n = omega arith in h i m ∙ sym (get-listed f n i d m))

pub listed_same : {A : Type 0} → (f g : ℕ → A) (n : ℕ) → ((x : ℕ) → x < n → f x ≡ g x) → listed f n ≡ listed g n
listed_same f g zero h = refl
listed_same f g (suc n) h =
    ap (λ xs. xs ++ f n ∷ []) (listed_same f g n (λ x l. h x (omega arith))) ∙ ap (λ y. listed g n ++ y ∷ []) (h n (omega arith))

-- all marks are set exactly where each number passes
pub all_listed : (f : ℕ → Bool) (n : ℕ) → list_all (λ m. m) (listed f n) ≡ true → (x : ℕ) → x < n → f x ≡ true
all_listed f zero e x h = absurd (omega arith)
all_listed f (suc n) e x h =
    let parts = and_parts (list_all (λ m. m) (listed f n)) (f n && true) (sym (list_all-append (λ m. m) (listed f n) (f n ∷ [])) ∙ e) in
    let last = and_parts (f n) true parts.1 in
    ⊎_elim (λ (l : x < n). all_listed f n parts.0 x l) (λ (l : n ≤ x). let s : n ≡ x = omega arith in sym (ap f s) ∙ last.0) (cases_lt x n)

pub listed_all : (f : ℕ → Bool) (n : ℕ) → ((x : ℕ) → x < n → f x ≡ true) → list_all (λ m. m) (listed f n) ≡ true
listed_all f zero h = refl
listed_all f (suc n) h =
    let front : list_all (λ m. m) (listed f n) ≡ true = listed_all f n (λ x l. h x (omega arith)) in
    let last : f n ≡ true = h n (omega arith) in
    list_all-append (λ m. m) (listed f n) (f n ∷ []) ∙ and_from _ _ front (and_from _ _ last refl)

-- the types of one tensor more
pub input_types-push : (ts : List PlainTensor) (t : PlainTensor) → input_types (ts ++ t ∷ []) ≡ input_types ts ++ (if is_input_role t.role then t.ty ∷ [] else [])
input_types-push [] t = elim t.role as (λ r. elim r [ Input ↦ t.ty ∷ [] | Local ↦ [] | Output ↦ [] ] ≡ (if is_input_role r then t.ty ∷ [] else [])) [ Input ↦ refl | Local ↦ refl | Output ↦ refl ]
input_types-push (u ∷ us) t =
    elim u.role as (λ r. elim r [ Input ↦ u.ty ∷ input_types (us ++ t ∷ []) | Local ↦ input_types (us ++ t ∷ []) | Output ↦ input_types (us ++ t ∷ []) ] ≡ elim r [ Input ↦ u.ty ∷ input_types us | Local ↦ input_types us | Output ↦ input_types us ] ++ (if is_input_role t.role then t.ty ∷ [] else [])) [ Input ↦ ap (λ xs. u.ty ∷ xs) (input_types-push us t) | Local ↦ input_types-push us t | Output ↦ input_types-push us t ]

pub output_types-push : (ts : List PlainTensor) (t : PlainTensor) → output_types (ts ++ t ∷ []) ≡ output_types ts ++ (if is_output_role t.role then t.ty ∷ [] else [])
output_types-push [] t = elim t.role as (λ r. elim r [ Input ↦ [] | Local ↦ [] | Output ↦ t.ty ∷ [] ] ≡ (if is_output_role r then t.ty ∷ [] else [])) [ Input ↦ refl | Local ↦ refl | Output ↦ refl ]
output_types-push (u ∷ us) t =
    elim u.role as (λ r. elim r [ Input ↦ output_types (us ++ t ∷ []) | Local ↦ output_types (us ++ t ∷ []) | Output ↦ u.ty ∷ output_types (us ++ t ∷ []) ] ≡ elim r [ Input ↦ output_types us | Local ↦ output_types us | Output ↦ u.ty ∷ output_types us ] ++ (if is_output_role t.role then t.ty ∷ [] else [])) [ Input ↦ output_types-push us t | Local ↦ output_types-push us t | Output ↦ ap (λ xs. u.ty ∷ xs) (output_types-push us t) ]

-- the types of a front of the tensors, one longer
pub input_types_more : (ts : List Tensor) (i : ℕ) (t : Tensor) (b : Bool) → i < length ts → t ≡ get_or ts i t → b ≡ is_input_role t.role → input_types (map plain_tensor (take (i + 1) ts)) ≡ input_types (map plain_tensor (take i ts)) ++ (if b then t.ty ∷ [] else [])
input_types_more ts i t b h e k =
    ap (λ us. input_types (map plain_tensor us)) (take_more ts i t h)
    ∙ ap input_types (map-append plain_tensor (take i ts) (get_or ts i t ∷ []))
    ∙ input_types-push (map plain_tensor (take i ts)) (plain_tensor (get_or ts i t))
    ∙ ap (λ (u : Tensor). input_types (map plain_tensor (take i ts)) ++ (if is_input_role u.role then u.ty ∷ [] else [])) (sym e)
    ∙ ap (λ v. input_types (map plain_tensor (take i ts)) ++ (if v then t.ty ∷ [] else [])) (sym k)

pub output_types_more : (ts : List Tensor) (i : ℕ) (t : Tensor) (b : Bool) → i < length ts → t ≡ get_or ts i t → b ≡ is_output_role t.role → output_types (map plain_tensor (take (i + 1) ts)) ≡ output_types (map plain_tensor (take i ts)) ++ (if b then t.ty ∷ [] else [])
output_types_more ts i t b h e k =
    ap (λ us. output_types (map plain_tensor us)) (take_more ts i t h)
    ∙ ap output_types (map-append plain_tensor (take i ts) (get_or ts i t ∷ []))
    ∙ output_types-push (map plain_tensor (take i ts)) (plain_tensor (get_or ts i t))
    ∙ ap (λ (u : Tensor). output_types (map plain_tensor (take i ts)) ++ (if is_output_role u.role then u.ty ∷ [] else [])) (sym e)
    ∙ ap (λ v. output_types (map plain_tensor (take i ts)) ++ (if v then t.ty ∷ [] else [])) (sym k)

-- a list whose first tensor is no input
pub first_no_input : (ts : List Tensor) (t : Tensor) (r : Bool) → 0 < length ts → t ≡ get_or ts 0 t → is_input_role t.role ≡ false → r ≡ list_all (λ u. not (is_input_role u.role)) (take (length ts - 1) (drop 1 ts)) → r ≡ has_inputs_first (map plain_tensor ts)
first_no_input [] t r h e k q = absurd (omega arith)
first_no_input (u ∷ us) t r h e k q =
    let rest : take (length (u ∷ us) - 1) (drop 1 (u ∷ us)) ≡ us = grind (arith, common_steps) in
    let none : is_input_role u.role ≡ false = ap (λ (v : Tensor). is_input_role v.role) (sym e) ∙ k in
    q
    ∙ ap (λ (xs : List Tensor). list_all (λ v. not (is_input_role v.role)) xs) rest
    ∙ sym (list_all-map (λ (v : PlainTensor). not (is_input_role v.role)) plain_tensor us)
    ∙ ap (λ b. if b then has_inputs_first (map plain_tensor us) else list_all (λ v. not (is_input_role v.role)) (map plain_tensor us)) (sym none)
