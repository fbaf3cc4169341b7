-- The names of an accepted program are those that its text declares.
use Rattle.std.proofs.Common.{◌≡◌, List, [], ◌∷◌, ◌++◌, map, refl, ap, ℕ}
use Rattle.std.specs.Prelude.{flat_map}
use Rattle.soda_checks.specs.Outline.{outline_in, outline_of}
use Rattle.soda_checks.specs.declared.outline.Outline.{Outline}
use Rattle.soda_parse.specs.Meaning.{input_of, param_of, tensors_in}
use Rattle.soda_formula.specs.Statements.{PlainStatement, kernel, burst_width, unroll_factor, iterate, border, cluster, param, input, local, output}
use Rattle.soda_formula.specs.declared.statement.InputLine.{InputLine}
use Rattle.soda_formula.specs.declared.statement.ParamLine.{ParamLine}

defined_texts : (o : Outline) (ss : List PlainStatement) → map (λ t. t.name) (flat_map (tensors_in o) ss) ≡ map (λ d. d.name.text) (outline_of ss).defined
unfolding outline_of outline_in
defined_texts o [] = refl
defined_texts o (kernel l w ∷ ss) = defined_texts o ss
defined_texts o (burst_width l n ∷ ss) = defined_texts o ss
defined_texts o (unroll_factor l n ∷ ss) = defined_texts o ss
defined_texts o (iterate l n ∷ ss) = defined_texts o ss
defined_texts o (border l p ∷ ss) = defined_texts o ss
defined_texts o (cluster l ∷ ss) = defined_texts o ss
defined_texts o (param p ∷ ss) = defined_texts o ss
defined_texts o (input i ∷ ss) = defined_texts o ss
defined_texts o (local f ∷ ss) = ap (λ (ws : List (List ℕ)). f.name.text ∷ ws) (defined_texts o ss)
defined_texts o (output f ∷ ss) = ap (λ (ws : List (List ℕ)). f.name.text ∷ ws) (defined_texts o ss)

-- the names of the tensors
pub tensor_texts : (o : Outline) (is : List InputLine) (ss : List PlainStatement) →
    map (λ t. t.name) (map input_of is ++ flat_map (tensors_in o) ss) ≡ map (λ i. i.name.text) is ++ map (λ d. d.name.text) (outline_of ss).defined
tensor_texts o [] ss = defined_texts o ss
tensor_texts o (i ∷ is) ss = ap (λ (ws : List (List ℕ)). i.name.text ∷ ws) (tensor_texts o is ss)

-- the names of the params
pub param_texts : (qs : List ParamLine) → map (λ q. q.name) (map param_of qs) ≡ map (λ w. w.text) (map (λ q. q.name) qs)
param_texts [] = refl
param_texts (q ∷ qs) = ap (λ (ws : List (List ℕ)). q.name.text ∷ ws) (param_texts qs)
