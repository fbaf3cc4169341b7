-- The staged tensors of an iteration, as the marks of what is live and the margins of all tensors give them.
use Rattle.std.proofs.Common.{◌≡◌, ℕ, zero, suc, ◌+◌, ◌-◌, ◌<◌, Bool, true, false, List, [], ◌∷◌, ◌++◌, length, map, take, drop, get_or, slice_index_or, refl, sym, ◌∙◌, ap, subst, arith, cond, if◌then◌else◌, append_assoc}
use Rattle.std.specs.List.{All, filter}
use Rattle.std.proofs.lemmas.List.{drop_more, get_or_read, map-append, take-append-drop}
use Rattle.std.proofs.lemmas.List.Elements.{All-append, All-filter, All-head, All-map, All-nil, All-tail, filter_more}
use Rattle.soda_ir.specs.Counts.{is_input, is_live}
use Rattle.soda_ir.specs.Points.{listed}
use Rattle.soda_ir.specs.Program.{PlainProgram}
use Rattle.soda_ir.proofs.CallerLemmas.{get-listed, length-listed}
use Rattle.time_stages.specs.declared.margins.Margins.{Margins}
use Rattle.time_stages.specs.declared.staging.StagedTensor.{StagedTensor}
use Rattle.time_stages.specs.Margins.{AreMade, margins_of, no_margins}
use Rattle.time_stages.specs.Placing.{placing_order}
use Rattle.time_stages.specs.Staged.{inputs_of, live_statements, staged_statements, staged_tensor, staged_tensors}
use Rattle.time_stages.specs.pieces.Stages.{stage_at, with_margins}
use Rattle.time_stages.proofs.Order.{order_below}

pub map_same : {A B : Type 0} → (f g : A → B) (xs : List A) → All (λ x. f x ≡ g x) xs → map f xs ≡ map g xs
map_same f g [] h = refl
map_same f g (x ∷ xs) h =
    ap (λ y. y ∷ map f xs) (All-head (λ z. f z ≡ g z) x xs h) ∙ ap (λ ys. g x ∷ ys) (map_same f g xs (All-tail (λ z. f z ≡ g z) x xs h))

pub filter_same : {A : Type 0} → (f g : A → Bool) (xs : List A) → All (λ x. f x ≡ g x) xs → filter f xs ≡ filter g xs
filter_same f g [] h = refl
filter_same f g (x ∷ xs) h =
    ap (λ b. cond b (x ∷ filter f xs) (filter f xs)) (All-head (λ z. f z ≡ g z) x xs h)
    ∙ ap (λ ys. cond (g x) (x ∷ ys) ys) (filter_same f g xs (All-tail (λ z. f z ≡ g z) x xs h))

-- the number at a place of a list
pub split_any : (xs : List ℕ) (i d : ℕ) → i < length xs → xs ≡ take i xs ++ get_or xs i d ∷ drop (i + 1) xs
split_any xs i d l = sym (take-append-drop i xs) ∙ ap (λ zs. take i xs ++ zs) (drop_more xs i d l)

pub numbers_below : (n : ℕ) → All (λ x. x < n) (listed (λ (x : ℕ). x) n)
numbers_below n = λ k d l.
    let m : k < n = omega (arith, length-listed (λ (x : ℕ). x) n) in
    omega (arith, get-listed (λ (x : ℕ). x) n k d m)

pub order_within : (p : PlainProgram) → All (λ x. x < length p.tensors) (placing_order p)
order_within p = λ k d l.
    order_below p (length p.tensors) (take k (placing_order p)) (drop (k + 1) (placing_order p)) (get_or (placing_order p) k d) (split_any (placing_order p) k d l)

pub live_within : (p : PlainProgram) (later : ℕ) → All (λ x. x < length p.tensors) (live_statements p later)
live_within p later = All-filter (is_live p later) (λ x. x < length p.tensors) (placing_order p) (order_within p)

pub inputs_within : (p : PlainProgram) → All (λ x. x < length p.tensors) (inputs_of p)
inputs_within p =
    All-filter (is_input p) (λ x. x < length p.tensors) (listed (λ x. x) (length p.tensors)) (numbers_below (length p.tensors))

all_weaker : {A : Type 0} {P Q : A → Type 0} (xs : List A) → All P xs → ((x : A) → P x → Q x) → All Q xs
all_weaker xs h f = λ k d l. f (get_or xs k d) (h k d l)

-- one more that may be marked
part_by : (b : Bool) (f : ℕ → StagedTensor) (x : ℕ) → map f (cond b (x ∷ []) []) ≡ (if b then f x ∷ [] else [])
part_by true f x = refl
part_by false f x = refl

pub marked_more : (turn : ℕ) (margins : List Margins) (marks : List Bool) (numbers : List ℕ) (i x : ℕ) (b : Bool) (m : Margins) (start before after : List StagedTensor) → i < length numbers → x ≡ get_or numbers i 0
    → b ≡ slice_index_or marks x false → x < length margins → m ≡ slice_index_or margins x m
    → before ≡ start ++ map (stage_at turn margins) (filter (λ y. slice_index_or marks y false) (take i numbers)) → after ≡ before ++ (if b then with_margins turn x m ∷ [] else [])
    → after ≡ start ++ map (stage_at turn margins) (filter (λ y. slice_index_or marks y false) (take (i + 1) numbers))
marked_more turn margins marks numbers i x b m start before after l is bit there at e h =
    let f : ℕ → Bool = λ y. slice_index_or marks y false in
    let g = stage_at turn margins in
    let here : m ≡ slice_index_or margins x (no_margins 0) = get_or_read margins x m there at (no_margins 0) in
    let part : (if b then with_margins turn x m ∷ [] else []) ≡ map g (cond (f (get_or numbers i 0)) (get_or numbers i 0 ∷ []) []) = ap (λ k. if k then with_margins turn x m ∷ [] else []) bit
    ∙ ap (λ (n : Margins). if f x then with_margins turn x n ∷ [] else []) here
    ∙ sym (part_by (f x) g x)
    ∙ ap (λ y. map g (cond (f y) (y ∷ []) [])) is in
    h ∙ ap (λ xs. xs ++ (if b then with_margins turn x m ∷ [] else [])) e
    ∙ append_assoc start (map g (filter f (take i numbers))) (if b then with_margins turn x m ∷ [] else [])
    ∙ ap (λ xs. start ++ (map g (filter f (take i numbers)) ++ xs)) part
    ∙ ap (λ xs. start ++ xs) (sym (map-append g (filter f (take i numbers)) (cond (f (get_or numbers i 0)) (get_or numbers i 0 ∷ []) [])) ∙ sym (ap (map g) (filter_more f numbers i 0 l)))

-- the margins of an iteration
stages_same : (p : PlainProgram) (t turn : ℕ) (margins : List Margins) (xs : List ℕ) → turn ≡ suc t → AreMade p t margins → All (λ x. x < length p.tensors) xs → map (stage_at turn margins) xs ≡ map (staged_tensor p t) xs
stages_same p t turn margins xs e made within =
    ap (λ u. map (stage_at u margins) xs) e
    ∙ map_same (stage_at (suc t) margins) (staged_tensor p t) xs (all_weaker xs within (λ x l. ap (with_margins (suc t) x) (ap (λ ms. slice_index_or ms x (no_margins 0)) made.are ∙ get-listed (margins_of p t) (length p.tensors) x (no_margins 0) l)))

pub iteration_is : (p : PlainProgram) (t later turn : ℕ) (margins : List Margins) (marks : List Bool) (order : List ℕ) → turn ≡ suc t → AreMade p t margins → order ≡ placing_order p
    → marks ≡ listed (is_live p later) (length p.tensors)
    → map (stage_at turn margins) (filter (λ x. slice_index_or marks x false) order) ≡ map (staged_tensor p t) (live_statements p later)
iteration_is p t later turn margins marks order e made o m =
    ap (λ xs. map (stage_at turn margins) (filter (λ x. slice_index_or marks x false) xs)) o
    ∙ ap (map (stage_at turn margins)) (filter_same (λ x. slice_index_or marks x false) (is_live p later) (placing_order p) (all_weaker (placing_order p) (order_within p) (λ x l. ap (λ ms. slice_index_or ms x false) m ∙ get-listed (is_live p later) (length p.tensors) x false l)))
    ∙ stages_same p t turn margins (live_statements p later) e made (live_within p later)

pub inputs_are : (p : PlainProgram) (n : ℕ) (margins : List Margins) (marks : List Bool) (numbers : List ℕ) → n ≡ length p.tensors → AreMade p 0 margins → numbers ≡ listed (λ x. x) n → marks ≡ listed (is_input p) n
    → map (stage_at 1 margins) (filter (λ x. slice_index_or marks x false) numbers) ≡ map (staged_tensor p 0) (inputs_of p)
inputs_are p n margins marks numbers many made all m =
    ap (λ xs. map (stage_at 1 margins) (filter (λ x. slice_index_or marks x false) xs)) (all ∙ ap (listed (λ x. x)) many)
    ∙ ap (map (stage_at 1 margins)) (filter_same (λ x. slice_index_or marks x false) (is_input p) (listed (λ x. x) (length p.tensors)) (all_weaker (listed (λ x. x) (length p.tensors)) (numbers_below (length p.tensors)) (λ x l. ap (λ ms. slice_index_or ms x false) (m ∙ ap (listed (is_input p)) many) ∙ get-listed (is_input p) (length p.tensors) x false l)))
    ∙ stages_same p 0 1 margins (inputs_of p) refl made (inputs_within p)

-- one iteration after the other
pub statements_none : (p : PlainProgram) → staged_statements p 0 ≡ []
unfolding staged_statements
statements_none p = refl

pub statements_step : (p : PlainProgram) (t : ℕ) → staged_statements p (suc t) ≡ staged_statements p t ++ map (staged_tensor p t) (live_statements p (p.iterate - suc t))
unfolding staged_statements
statements_step p t = refl

pub tensors_are : (p : PlainProgram) → staged_tensors p ≡ map (staged_tensor p 0) (inputs_of p) ++ staged_statements p p.iterate
unfolding staged_tensors
tensors_are p = refl

-- one iteration more behind the inputs
pub first_iteration : (p q : PlainProgram) (start mid after : List StagedTensor) → q ≡ p → start ≡ [] → mid ≡ start ++ map (staged_tensor q 0) (inputs_of q) → after ≡ mid ++ map (staged_tensor p 0) (live_statements p (p.iterate - suc 0))
    → after ≡ map (staged_tensor p 0) (inputs_of p) ++ staged_statements p 1
first_iteration p q start mid after same none inputs e =
    let block = map (staged_tensor p 0) (live_statements p (p.iterate - suc 0)) in
    e ∙ ap (λ xs. xs ++ block) (inputs ∙ ap (λ xs. xs ++ map (staged_tensor q 0) (inputs_of q)) none ∙ ap (λ (r : PlainProgram). map (staged_tensor r 0) (inputs_of r)) same)
    ∙ ap (λ xs. map (staged_tensor p 0) (inputs_of p) ++ xs) (sym (statements_step p 0 ∙ ap (λ xs. xs ++ block) (statements_none p)))

pub next_iteration : (p : PlainProgram) (t u : ℕ) (before after : List StagedTensor) → u ≡ suc t → before ≡ map (staged_tensor p 0) (inputs_of p) ++ staged_statements p u → after ≡ before ++ map (staged_tensor p u) (live_statements p (p.iterate - suc u))
    → after ≡ map (staged_tensor p 0) (inputs_of p) ++ staged_statements p (suc u)
next_iteration p t u before after same e h =
    let block = map (staged_tensor p u) (live_statements p (p.iterate - suc u)) in
    h ∙ ap (λ xs. xs ++ block) e ∙ append_assoc (map (staged_tensor p 0) (inputs_of p)) (staged_statements p u) block
    ∙ ap (λ xs. map (staged_tensor p 0) (inputs_of p) ++ xs) (sym (statements_step p u))

-- each of these has margins
pub places_within : (p : PlainProgram) (t : ℕ) (numbers xs : List ℕ) (margins : List Margins) → AreMade p t margins → numbers ≡ xs → All (λ x. x < length p.tensors) xs → (j : ℕ) → j < length numbers → slice_index_or numbers j 0 < length margins
places_within p t numbers xs margins made e within j l =
    let w = subst (λ (ys : List ℕ). All (λ x. x < length p.tensors) ys) (sym e) within in
    omega (arith, w j 0 l, ap length made.are, length-listed (margins_of p t) (length p.tensors))

-- the marks of an iteration
pub marks_at : (p : PlainProgram) (live : List (List Bool)) (i later : ℕ) (m marks : List Bool) → live ≡ listed (λ k. listed (is_live p k) (length p.tensors)) p.iterate → i ≡ later → later < p.iterate → m ≡ get_or live i m → marks ≡ m
    → marks ≡ listed (is_live p later) (length p.tensors)
marks_at p live i later m marks e same l is lent =
    let F : ℕ → List Bool = λ k. listed (is_live p k) (length p.tensors) in
    lent ∙ is ∙ ap (λ (xs : List (List Bool)). get_or xs i m) e ∙ get-listed F p.iterate i m (omega arith) ∙ ap F same

-- each staged tensor is one of the program's
statements_within : (p : PlainProgram) (t : ℕ) → All (λ s. s.tensor < length p.tensors) (staged_statements p t)
statements_within p zero = subst (All (λ s. s.tensor < length p.tensors)) (sym (statements_none p)) (All-nil (λ s. s.tensor < length p.tensors))
statements_within p (suc t) =
    let P : StagedTensor → Type 0 = λ s. s.tensor < length p.tensors in
    let xs = live_statements p (p.iterate - suc t) in
    subst (All P) (sym (statements_step p t)) (All-append P (staged_statements p t) (map (staged_tensor p t) xs) (statements_within p t) (All-map P (staged_tensor p t) xs (live_within p (p.iterate - suc t))))

pub tensors_within : (p : PlainProgram) → All (λ s. s.tensor < length p.tensors) (staged_tensors p)
tensors_within p =
    let P : StagedTensor → Type 0 = λ s. s.tensor < length p.tensors in
    subst (All P) (sym (tensors_are p)) (All-append P (map (staged_tensor p 0) (inputs_of p)) (staged_statements p p.iterate) (All-map P (staged_tensor p 0) (inputs_of p) (inputs_within p)) (statements_within p p.iterate))
