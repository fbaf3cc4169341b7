-- The least number whose name is free.
use Rattle.std.proofs.Common.{◌≡◌, ℕ, ◌+◌, ◌^◌, ◌<◌, ◌≤◌, true, false, ◌||◌, List, [], ◌∷◌, map, length, refl, sym, ◌∙◌, ap, arith, length-append, ⊎_elim}
use Rattle.std.specs.List.{list_any}
use Rattle.std.proofs.lemmas.Bool.{cases_lt, false≢true}
use Rattle.std.proofs.lemmas.List.{length-map}
use Rattle.std.proofs.lemmas.List.Folds.{list_any-append}
use Rattle.soda_words.specs.Names.{is_word}
use Rattle.soda_ir.specs.declared.program.Param.{Param}
use Rattle.soda_ir.specs.declared.program.Parts.{Parts}
use Rattle.soda_ir.specs.declared.program.Tensor.{Tensor}
use Rattle.soda_ir.specs.Program.{PlainParam, PlainTensor, plain_param, plain_tensor}
use Rattle.soda_ir.specs.Valid.{names_of}
use Rattle.share_shape.specs.Procedure.{first_unused, is_used}
use Rattle.share_shape.proofs.CallerLemmas.{below_used, unused, unused_within}
use Rattle.share_expr.specs.Working.{names_with}

in_params : (w : List ℕ) (ps : List Param) → list_any (is_word w) (map (λ (q : PlainParam). q.name) (map plain_param ps)) ≡ list_any (λ (q : Param). is_word w q.name) ps
in_params w [] = refl
in_params w (p ∷ ps) = ap (λ b. is_word w p.name || b) (in_params w ps)

in_tensors : (w : List ℕ) (ts : List Tensor) → list_any (is_word w) (map (λ (t : PlainTensor). t.name) (map plain_tensor ts)) ≡ list_any (λ (t : Tensor). is_word w t.name) ts
in_tensors w [] = refl
in_tensors w (t ∷ ts) = ap (λ b. is_word w t.name || b) (in_tensors w ts)

-- a word is the name of a param or of a tensor
pub used_either : (w : List ℕ) (ps : List Param) (ts : List Tensor)
    → list_any (is_word w) (names_of (map plain_param ps) (map plain_tensor ts)) ≡ (list_any (λ (q : Param). is_word w q.name) ps || list_any (λ (t : Tensor). is_word w t.name) ts)
used_either w ps ts =
    list_any-append (is_word w) (map (λ (q : PlainParam). q.name) (map plain_param ps)) (map (λ (t : PlainTensor). t.name) (map plain_tensor ts))
    ∙ ap (λ b. b || list_any (is_word w) (map (λ (t : PlainTensor). t.name) (map plain_tensor ts))) (in_params w ps)
    ∙ ap (λ b. list_any (λ (q : Param). is_word w q.name) ps || b) (in_tensors w ts)

-- how many names there are
pub names_long : (p : Parts) (ts : List Tensor) → length (names_with p ts) ≡ length p.params + length ts
names_long p ts =
    length-append (map (λ (q : PlainParam). q.name) (map plain_param p.params)) (map (λ (t : PlainTensor). t.name) (map plain_tensor ts))
    ∙ omega (
      arith,
      length-map (map plain_param p.params) (λ (q : PlainParam). q.name),
      length-map p.params plain_param,
      length-map (map plain_tensor ts) (λ (t : PlainTensor). t.name),
      length-map ts plain_tensor,
    )

module _ (ws : List (List ℕ)) (few : length ws < 2 ^ 64) (n : ℕ) (below : (i : ℕ) → i < n → is_used ws i ≡ true) where
  abbrev least : ℕ
  least = first_unused (is_used ws) 0 (length ws)

  not_past : n ≤ least
  not_past =
      ⊎_elim (λ (a : least < n). absurd (false≢true (sym (unused ws few) ∙ below least a))) (λ (a : n ≤ least). a) (cases_lt least n)

  -- a number that is free, where all below are used, is the least
  pub first_is : is_used ws n ≡ false → n ≡ least
  first_is free =
      ⊎_elim (λ (a : n < least). absurd (false≢true (sym free ∙ below_used (is_used ws) 0 (length ws) n (omega arith) a)))
      (λ (a : least ≤ n). omega (arith, not_past)) (cases_lt n least)

  -- and so is the number of names, where all below are used
  pub last_is : length ws ≤ n → length ws ≡ least
  last_is h = omega (arith, not_past, unused_within (is_used ws) 0 (length ws))
