-- The loop that puts an outline together.
use Rattle.std.proofs.Common.{◌≡◌, ℕ, ◌+◌, ◌<◌, ◌≤◌, List, ◌∷◌, map, length, drop, get_or, refl, sym, ap, ◌∙◌, append-nil, append_assoc}
use Rattle.std.proofs.Math.ListN.{drop_of_length-le}
use Rattle.std.proofs.lemmas.List.{drop_more}
use Rattle.soda_checks.specs.Outline.{empty, joined, outline_in, outline_of}
use Rattle.soda_checks.specs.declared.outline.Outline.{Outline}
use Rattle.soda_formula.specs.Statements.{plain_statement}
use Rattle.soda_formula.specs.declared.statement.Statement.{Statement}

abbrev outlined : List Statement → Outline
outlined statements = outline_of (map plain_statement statements)

-- the outline is the first one with the first so many statements behind it
pub record IsOutlined (first outline : Outline) (index : ℕ) (statements : List Statement) : Type 0 where
  pub value : joined outline (outlined (drop index statements)) ≡ joined first (outlined statements)

joined_assoc : (a b c : Outline) → joined (joined a b) c ≡ joined a (joined b c)
joined_assoc a b c = simp append_assoc

joined_empty : (a : Outline) → joined a empty ≡ a
joined_empty a = simp append-nil

-- no statement
pub started : (a : Outline) (statements : List Statement) → IsOutlined a a 0 statements
started a statements = record { value = refl }

-- one statement more
pub gone_on : (first a b : Outline) (i : ℕ) (s : Statement) (statements : List Statement)
    → IsOutlined first a i statements → i < length statements → s ≡ get_or statements i s
    → b ≡ joined a (outline_in (plain_statement s)) → IsOutlined first b (i + 1) statements
unfolding outline_of
gone_on first a b i s statements h lt e f =
    let rest : List Statement = drop (i + 1) statements in
    let one : Outline = outline_in (plain_statement s) in
    let split : drop i statements ≡ s ∷ rest = drop_more statements i s lt ∙ ap (λ t. t ∷ rest) (sym e) in
    let more : outlined (drop i statements) ≡ joined one (outlined rest) = ap outlined split in
    let whole : joined (joined a one) (outlined rest) ≡ joined first (outlined statements) =
    joined_assoc a one (outlined rest) ∙ (ap (joined a) (sym more) ∙ h.value) in
    record { value = ap (λ o. joined o (outlined rest)) f ∙ whole }

-- all statements
pub ended : (first a : Outline) (i : ℕ) (statements : List Statement) → IsOutlined first a i statements
    → length statements ≤ i → a ≡ joined first (outlined statements)
unfolding outline_of
ended first a i statements h le =
    let none : outlined (drop i statements) ≡ empty = ap outlined (drop_of_length-le statements le) in
    sym (joined_empty a) ∙ (ap (joined a) (sym none) ∙ h.value)
