-- Marks of what is there, and the step that they lead to.
use Rattle.std.proofs.Common.{◌≡◌, ℕ, ◌+◌, ◌<◌, ◌≤◌, Bool, true, false, not, ◌&&◌, ◌||◌, ◌==◌, List, [], ◌∷◌, ◌++◌, length, set, Some, slice_index_or, refl, sym, ◌∙◌, ap, arith, ⊎_elim, add-one, eq-eqb}
use Rattle.std.proofs.Math.Bool.{or-false}
use Rattle.std.proofs.lemmas.Bool.{cases_eq, cases_lt, eqb-true, false_from_ne_true, or_right}
use Rattle.std.proofs.lemmas.List.{get_or-set_other, get_or-set_same}
use Rattle.soda_ir.specs.Counts.{is_input, is_input_role, tensor_is}
use Rattle.soda_ir.specs.Formula.{by_formula, every}
use Rattle.soda_ir.specs.Points.{listed}
use Rattle.soda_ir.specs.Program.{PlainProgram}
use Rattle.soda_ir.proofs.CallerLemmas.{ext, get-listed, get-listed-past, past_last}
use Rattle.time_stages.specs.Placing.{first_below, is_next, is_there, placed_in}
use Rattle.time_stages.proofs.Order.{next_is, placed_more, there_push}

-- at first the inputs are marked
pub marks_first : (p : PlainProgram) (n : ℕ) (marks : List Bool) (placed : List ℕ) → n ≡ length p.tensors → marks ≡ listed (is_input p) n → placed ≡ [] → (x : ℕ) → slice_index_or marks x false ≡ is_there p placed x
marks_first p n marks placed m e h x =
    ap (λ ms. slice_index_or ms x false) e
    ∙ ⊎_elim (λ (l : x < n). get-listed (is_input p) n x false l) (λ (l : n ≤ x). get-listed-past (is_input p) n x false l ∙ sym (past_last (λ t. is_input_role t.role) p x (omega arith))) (cases_lt x n)
    ∙ sym (or-false (is_input p x))
    ∙ sym (ap (λ xs. is_there p xs x) h)

-- what is next by marks of what is there
pub marked_next : (p : PlainProgram) (placed : List ℕ) (marks : List Bool) (n : ℕ) → n ≡ length p.tensors → ((x : ℕ) → slice_index_or marks x false ≡ is_there p placed x) → first_below (λ x. not (slice_index_or marks x false) && tensor_is (λ t. by_formula t.formula true (every (λ y o. slice_index_or marks y false))) p x) n ≡ first_below (is_next p placed) (length p.tensors)
marked_next p placed marks n m h =
    ap (λ (f : ℕ → Bool). first_below (λ x. not (f x) && tensor_is (λ t. by_formula t.formula true (every (λ y o. f y))) p x) n) (ext (λ x. slice_index_or marks x false) (is_there p placed) h)
    ∙ ap (λ (f : ℕ → Bool). first_below f n) (ext _ (is_next p placed) (λ x. sym (next_is p placed x)))
    ∙ ap (first_below (is_next p placed)) m

pub step_order : (p : PlainProgram) (k t : ℕ) (placed : List ℕ) → placed ≡ placed_in p k → Some t ≡ first_below (is_next p placed) (length p.tensors) → placed ++ t ∷ [] ≡ placed_in p (k + 1)
step_order p k t placed e h =
    ap (λ xs. xs ++ t ∷ []) e ∙ sym (placed_more p k t (sym (ap (λ xs. first_below (is_next p xs) (length p.tensors)) e) ∙ sym h)) ∙ sym (ap (placed_in p) (add-one k))

pub step_marks : (p : PlainProgram) (t : ℕ) (placed : List ℕ) (marks : List Bool) → ((x : ℕ) → slice_index_or marks x false ≡ is_there p placed x) → t < length marks → (x : ℕ) → slice_index_or (set marks t true) x false ≡ is_there p (placed ++ t ∷ []) x
step_marks p t placed marks h l x =
    ⊎_elim (λ (i : x ≡ t). ap (λ z. slice_index_or (set marks t true) z false) i ∙ get_or-set_same marks t true false l ∙ sym (there_push p placed t x ∙ or_right (is_there p placed x) (t == x) (eq-eqb t x (sym i)))) (λ (i : x ≡ t → ⊥). get_or-set_other marks t x true false i ∙ h x ∙ sym (there_push p placed t x ∙ ap (λ b. is_there p placed x || b) (false_from_ne_true (t == x) (λ e. i (sym (eqb-true t x e)))) ∙ or-false (is_there p placed x))) (cases_eq x t)
