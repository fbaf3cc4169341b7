-- How many statements, tensors and params a text has at most.
use Rattle.std.proofs.Common.{◌≡◌, ℕ, zero, suc, ◌+◌, ◌≤◌, List, [], ◌∷◌, length, map, Some, None, Option, refl, ap, ◌∙◌, arith}
use Rattle.std.specs.Prelude.{flat_map}
use Rattle.std.proofs.lemmas.List.{length-append, length-map}
use Rattle.soda_checks.specs.Outline.{outline_in, outline_of}
use Rattle.soda_checks.specs.declared.outline.Outline.{Outline}
use Rattle.soda_parse.specs.Meaning.{input_of, program_by, tensors_in}
use Rattle.soda_syntax.specs.Grammar.{AreStatements, IsStatement, a_kernel, a_burst_width, an_unroll_factor, an_iterate, ignored_border, preserved_border, a_cluster, a_param, an_input, a_local, an_output, no_statement, statement_before}
use Rattle.soda_formula.specs.Statements.{PlainStatement, kernel, burst_width, unroll_factor, iterate, border, cluster, param, input, local, output}
use Rattle.soda_words.specs.Tokens.{front_of, line_behind, placed, tokens_behind, tokens_of}
use Rattle.soda_words.specs.declared.token.Placed.{Placed}
use Rattle.soda_words.specs.declared.token.Token.{Token}

one_at_most : (line : ℕ) (t : Option Token) → length (placed line t) ≤ 1
one_at_most line None = omega arith
one_at_most line (Some t) = omega arith

tokens_few : (k line : ℕ) (bs : List ℕ) → length (tokens_behind k line bs) ≤ length bs
unfolding tokens_behind
tokens_few k line [] = omega arith
tokens_few zero line (b ∷ bs) =
    omega (
      arith,
      length-append (placed line (front_of b bs).token) (tokens_behind (front_of b bs).more (line_behind line b) bs),
      one_at_most line (front_of b bs).token,
      tokens_few (front_of b bs).more (line_behind line b) bs,
    )
tokens_few (suc k) line (b ∷ bs) = omega (arith, tokens_few k (line_behind line b) bs)

some_token : (ts : List Placed) (s : PlainStatement) → IsStatement ts s → 1 ≤ length ts
some_token ts s (a_kernel l c a t) = omega arith
some_token ts s (a_burst_width l m c a w) = omega arith
some_token ts s (an_unroll_factor l m c a w) = omega arith
some_token ts s (an_iterate l c a t) = omega arith
some_token ts s (ignored_border l c a) = omega arith
some_token ts s (preserved_border l c a) = omega arith
some_token ts s (a_cluster l c a t) = omega arith
some_token ts s (a_param l c t d m x y) = omega arith
some_token ts s (an_input l c t d b m x) = omega arith
some_token ts s (a_local {ts = head} {us = us} t d h f) = simp length-append (omega (arith, ap length h.is))
some_token ts s (an_output {ts = head} {us = us} t d h f) = simp length-append (omega (arith, ap length h.is))

statements_few : (ts : List Placed) (ss : List PlainStatement) → AreStatements ts ss → length ss ≤ length ts
statements_few ts ss no_statement = omega arith
statements_few ts ss (statement_before {ts = front} {us = back} {s = s} {ss = rest} one more) =
    omega (arith, length-append front back, some_token front s one, statements_few back rest more)

parts_few : (ss : List PlainStatement) → length (outline_of ss).inputs + length (outline_of ss).defined + length (outline_of ss).params ≤ length ss
unfolding outline_of outline_in
parts_few [] = omega arith
parts_few (kernel l w ∷ ss) = omega (arith, parts_few ss)
parts_few (burst_width l n ∷ ss) = omega (arith, parts_few ss)
parts_few (unroll_factor l n ∷ ss) = omega (arith, parts_few ss)
parts_few (iterate l n ∷ ss) = omega (arith, parts_few ss)
parts_few (border l p ∷ ss) = omega (arith, parts_few ss)
parts_few (cluster l ∷ ss) = omega (arith, parts_few ss)
parts_few (param p ∷ ss) = omega (arith, parts_few ss)
parts_few (input i ∷ ss) = omega (arith, parts_few ss)
parts_few (local f ∷ ss) = omega (arith, parts_few ss)
parts_few (output f ∷ ss) = omega (arith, parts_few ss)

-- a tensor for each local or output
pub tensors_made : (o : Outline) (ss : List PlainStatement) → length (flat_map (tensors_in o) ss) ≡ length (outline_of ss).defined
unfolding outline_of outline_in
tensors_made o [] = refl
tensors_made o (kernel l w ∷ ss) = tensors_made o ss
tensors_made o (burst_width l n ∷ ss) = tensors_made o ss
tensors_made o (unroll_factor l n ∷ ss) = tensors_made o ss
tensors_made o (iterate l n ∷ ss) = tensors_made o ss
tensors_made o (border l p ∷ ss) = tensors_made o ss
tensors_made o (cluster l ∷ ss) = tensors_made o ss
tensors_made o (param p ∷ ss) = tensors_made o ss
tensors_made o (input i ∷ ss) = tensors_made o ss
tensors_made o (local f ∷ ss) = ap suc (tensors_made o ss)
tensors_made o (output f ∷ ss) = ap suc (tensors_made o ss)

-- as many tensors as inputs, locals and outputs
pub tensor_total : (ss : List PlainStatement) → length (program_by (outline_of ss) ss).tensors ≡ length (outline_of ss).inputs + length (outline_of ss).defined
tensor_total ss =
    length-append (map input_of (outline_of ss).inputs) (flat_map (tensors_in (outline_of ss)) ss) ∙
    (ap (λ (n : ℕ). n + length (flat_map (tensors_in (outline_of ss)) ss)) (length-map (outline_of ss).inputs input_of) ∙
    ap (λ (n : ℕ). length (outline_of ss).inputs + n) (tensors_made (outline_of ss) ss))

-- a text has no more inputs, locals, outputs and params than bytes
pub few_of_all : (bytes : List ℕ) (ss : List PlainStatement) → AreStatements (tokens_of bytes) ss →
    length (outline_of ss).inputs + length (outline_of ss).defined + length (outline_of ss).params ≤ length bytes
few_of_all bytes ss are =
    omega (arith, parts_few ss, statements_few (tokens_of bytes) ss are, tokens_few 0 1 bytes)
