-- One round of placing, from marks of tensors that can be placed.
use Rattle.std.proofs.Common.{◌≡◌, ℕ, zero, suc, ◌+◌, ◌<◌, ◌≤◌, Bool, true, false, List, length, slice_index_or, set, sym, ◌∙◌, ap, arith, ⊎_elim, add-one}
use Rattle.std.proofs.lemmas.Bool.{cases_eq, cases_lt, false≢true}
use Rattle.std.proofs.lemmas.List.{get_or-set_other, length-map}
use Rattle.soda_ir.specs.declared.program.Parts.{Parts}
use Rattle.soda_ir.specs.Formula.{by_formula, every}
use Rattle.soda_ir.specs.Counts.{can_be_placed, has_place, tensor_is}
use Rattle.soda_ir.specs.Points.{listed}
use Rattle.soda_ir.specs.Program.{PlainProgram, plain, plain_tensor}
use Rattle.soda_ir.proofs.Lists.{get-listed, get-listed-past}
use Rattle.soda_ir.proofs.Settled.{past_last, ready_more, ready_placed}
use Rattle.soda_words.proofs.CallerLemmas.{same_tests}

-- marks where no round has placed anything are as good as any
pub none_placed : (p : PlainProgram) (x : ℕ) (b : Bool) → has_place p 0 x ≡ true → b ≡ true
none_placed p x b e = absurd (false≢true e)

-- the marks of one round more, each by itself
module _ (parts : Parts) (marks next : List Bool) (is : next ≡ listed (λ x. tensor_is (λ t. by_formula t.formula true (every (λ y o. slice_index_or marks y false))) (plain parts) x) (length parts.tensors)) where
  each : (x : ℕ) → slice_index_or next x false ≡ tensor_is (λ t. by_formula t.formula true (every (λ y o. slice_index_or marks y false))) (plain parts) x
  each x =
      let test : ℕ → Bool = λ y. tensor_is (λ t. by_formula t.formula true (every (λ z o. slice_index_or marks z false))) (plain parts) y in
      let long : length (plain parts).tensors ≡ length parts.tensors = length-map parts.tensors plain_tensor in
      ap (λ xs. slice_index_or xs x false) is
      ∙ ⊎_elim (λ (l : x < length parts.tensors). get-listed test (length parts.tensors) x false l) (λ (l : length parts.tensors ≤ x). get-listed-past test (length parts.tensors) x false l ∙ sym (past_last _ (plain parts) x (omega arith))) (cases_lt x (length parts.tensors))

  -- it marks only what can be placed
  pub round_placed : ((x : ℕ) → slice_index_or marks x false ≡ true → can_be_placed (plain parts) x ≡ true) → (x : ℕ) → slice_index_or next x false ≡ true → can_be_placed (plain parts) x ≡ true
  round_placed h x e =
      ready_placed (plain parts) (λ y. slice_index_or marks y false) h x (sym (each x) ∙ e)

  -- and all that one round more places
  pub round_whole : (k : ℕ) → ((x : ℕ) → has_place (plain parts) k x ≡ true → slice_index_or marks x false ≡ true) → (x : ℕ) → has_place (plain parts) (k + 1) x ≡ true → slice_index_or next x false ≡ true
  round_whole k h x e =
      each x
      ∙ ready_more (has_place (plain parts) k) (λ y. slice_index_or marks y false) h (plain parts) x (sym (ap (λ m. has_place (plain parts) m x) (add-one k)) ∙ e)

  -- where it changes nothing, all that any round places is marked
  closed : next ≡ marks → (k x : ℕ) → has_place (plain parts) k x ≡ true → slice_index_or marks x false ≡ true
  closed d zero x e = absurd (false≢true e)
  closed d (suc k) x e =
      sym (ap (λ xs. slice_index_or xs x false) d)
      ∙ each x
      ∙ ready_more (has_place (plain parts) k) (λ y. slice_index_or marks y false) (closed d k) (plain parts) x e

  pub last_round : ((x : ℕ) → slice_index_or marks x false ≡ true → can_be_placed (plain parts) x ≡ true) → next ≡ marks → (x : ℕ) → slice_index_or next x false ≡ can_be_placed (plain parts) x
  last_round h d x =
      ap (λ xs. slice_index_or xs x false) d
      ∙ same_tests (slice_index_or marks x false) (can_be_placed (plain parts) x) (h x) (closed d (length (plain parts).tensors) x)

-- after as many rounds as there are tensors
pub all_rounds : (parts : Parts) (k : ℕ) (marks : List Bool) → k ≡ length parts.tensors → ((x : ℕ) → slice_index_or marks x false ≡ true → can_be_placed (plain parts) x ≡ true) → ((x : ℕ) → has_place (plain parts) k x ≡ true → slice_index_or marks x false ≡ true) → (x : ℕ) → slice_index_or marks x false ≡ can_be_placed (plain parts) x
all_rounds parts k marks e h w x =
    let long : length (plain parts).tensors ≡ k = length-map parts.tensors plain_tensor ∙ sym e in
    same_tests (slice_index_or marks x false) (can_be_placed (plain parts) x) (h x) (λ d. w x (sym (ap (λ m. has_place (plain parts) m x) long) ∙ d))

-- a mark more, on a tensor whose reads are all marked
pub mark_placed : (p : PlainProgram) (marks : List Bool) (t : ℕ) → ((x : ℕ) → slice_index_or marks x false ≡ true → can_be_placed p x ≡ true) → tensor_is (λ u. by_formula u.formula true (every (λ y o. slice_index_or marks y false))) p t ≡ true → (x : ℕ) → slice_index_or (set marks t true) x false ≡ true → can_be_placed p x ≡ true
mark_placed p marks t h r x e =
    ⊎_elim (λ (i : x ≡ t). ap (can_be_placed p) i ∙ ready_placed p (λ y. slice_index_or marks y false) h t r) (λ (i : x ≡ t → ⊥). h x (sym (get_or-set_other marks t x true false i) ∙ e)) (cases_eq x t)
