-- What a step does to the names, and to the program.
use Rattle.std.proofs.Common.{◌≡◌, ℕ, zero, suc, ◌+◌, ◌<◌, ◌≤◌, Bool, true, false, ◌||◌, List, [], ◌∷◌, Some, None, option_map, map, length, refl, sym, ◌∙◌, ap, arith, ⊎_elim}
use Rattle.std.specs.List.{insert, list_any}
use Rattle.std.proofs.lemmas.Bool.{cases_lt, or_left, or_right}
use Rattle.std.proofs.lemmas.List.Folds.{list_any-append}
use Rattle.soda_words.specs.Names.{is_word}
use Rattle.soda_words.proofs.CallerLemmas.{is_word-itself}
use Rattle.soda_ir.specs.declared.program.Parts.{Parts}
use Rattle.soda_ir.specs.declared.program.Tensor.{Tensor}
use Rattle.soda_ir.specs.Formula.{Formula}
use Rattle.soda_ir.specs.Program.{PlainParam, PlainProgram, PlainTensor, plain_param, plain_tensor}
use Rattle.share_shape.specs.Compounds.{Site, sites}
use Rattle.share_shape.specs.Procedure.{first_shared, is_used, local_for, next_shared, replaced_in, share_name, share_number, shared_at}
use Rattle.share_shape.proofs.CallerLemmas.{below_used}
use Rattle.share_expr.specs.Working.{names_with, with_tensors}

swapped : (a b c : Bool) → (a || (b || c)) ≡ (b || (a || c))
swapped true true c = refl
swapped true false c = refl
swapped false b c = refl

abbrev named : List PlainTensor → List (List ℕ)
named ts = map (λ (t : PlainTensor). t.name) ts

-- the names of tensors with one more among them
any_kept : (test : List ℕ → Bool) (k : ℕ) (c : Formula) (ts : List PlainTensor) → list_any test (named (map (replaced_in k c) ts)) ≡ list_any test (named ts)
any_kept test k c [] = refl
any_kept test k c (t ∷ ts) = ap (λ b. test t.name || b) (any_kept test k c ts)

any_inserted : (test : List ℕ → Bool) (k : ℕ) (c : Formula) (ts : List PlainTensor) (i : ℕ) (l : PlainTensor)
    → list_any test (named (insert (map (replaced_in k c) ts) i l)) ≡ (test l.name || list_any test (named ts))
any_inserted test k c [] zero l = refl
any_inserted test k c [] (suc i) l = refl
any_inserted test k c (t ∷ ts) zero l = ap (λ b. test l.name || (test t.name || b)) (any_kept test k c ts)
any_inserted test k c (t ∷ ts) (suc i) l =
    ap (λ b. test t.name || b) (any_inserted test k c ts i l) ∙ swapped (test t.name) (test l.name) (list_any test (named ts))

new_tensors : (p : Parts) (ts us : List Tensor) (s : Site) → with_tensors p us ≡ shared_at (with_tensors p ts) s
    → map plain_tensor us ≡ insert (map (replaced_in s.tensor s.compound) (map plain_tensor ts)) s.tensor (local_for (with_tensors p ts) s)
unfolding shared_at
new_tensors p ts us s e = ap (λ (q : PlainProgram). q.tensors) e

module _ (p : Parts) (ts us : List Tensor) (s : Site) (made : with_tensors p us ≡ shared_at (with_tensors p ts) s) where
  abbrev q : PlainProgram
  q = with_tensors p ts

  abbrev of_params : List (List ℕ)
  of_params = map (λ (r : PlainParam). r.name) (map plain_param p.params)

  -- one name more is used
  used_now : (n : ℕ) → is_used (names_with p us) n ≡ (is_word (share_name n) (share_name (share_number q)) || is_used (names_with p ts) n)
  used_now n =
      let test : List ℕ → Bool = is_word (share_name n) in
      let new : Bool = test (share_name (share_number q)) in
      list_any-append test of_params (named (map plain_tensor us))
      ∙ ap (λ (vs : List PlainTensor). list_any test of_params || list_any test (named vs)) (new_tensors p ts us s made)
      ∙ ap (λ b. list_any test of_params || b) (any_inserted test s.tensor s.compound (map plain_tensor ts) s.tensor (local_for q s))
      ∙ swapped (list_any test of_params) new (list_any test (named (map plain_tensor ts)))
      ∙ ap (λ b. new || b) (sym (list_any-append test of_params (named (map plain_tensor ts))))

  -- all numbers up to that of the new local are used
  pub used_below : (number next : ℕ) → number ≡ share_number q → next ≤ number + 1 → (n : ℕ) → n < next → is_used (names_with p us) n ≡ true
  used_below number next e f n h =
      ⊎_elim (λ (a : n < number). used_now n ∙ or_right (is_word (share_name n) (share_name (share_number q))) (is_used (names_with p ts) n) (below_used (is_used (names_with p ts)) 0 (length (names_with p ts)) n (omega arith) (omega arith)))
      (λ (a : number ≤ n).
      let same : n ≡ share_number q = omega arith in
      used_now n ∙ or_left (is_word (share_name n) (share_name (share_number q))) (is_used (names_with p ts) n) (ap (λ m. is_word (share_name m) (share_name (share_number q))) same ∙ is_word-itself (share_name (share_number q)))) (cases_lt n number)

  -- the step is taken
  pub taken : first_shared (sites q) ≡ Some s → next_shared q ≡ Some (with_tensors p us)
  unfolding next_shared
  taken e = ap (option_map (shared_at q)) e ∙ ap Some (sym made)

-- no step is left
pub none_taken : (q : PlainProgram) → first_shared (sites q) ≡ None → next_shared q ≡ None
unfolding next_shared
none_taken q e = ap (option_map (shared_at q)) e
