-- Statements one behind another, none of whose formulas is too large.
use Rattle.std.proofs.Common.{◌≡◌, inl, inr, Bool, true, false, List, [], ◌∷◌, ◌++◌, length, drop, refl, sym, ◌∙◌, ap, subst, arith, append-nil, append_assoc}
use Rattle.std.proofs.lemmas.List.{drop_all}
use Rattle.soda_words.specs.declared.token.Placed.{Placed}
use Rattle.soda_formula.specs.Reading.{IsLarge}
use Rattle.soda_syntax.specs.declared.stage.Role.{Role}
use Rattle.soda_syntax.specs.declared.stage.Role.TheVariants.{Parameter, Source, Middle, Target}
use Rattle.soda_syntax.specs.Grammar.{IsStatement, AreStatements, no_statement, statement_before}
use Rattle.soda_syntax.specs.machine.Lines.{line_as}
use Rattle.soda_formula.specs.Statements.{PlainFormulaLine, PlainStatement, local, output}
use Rattle.soda_syntax.specs.SyntaxError.{IsHead, IsSyntax}
use Rattle.soda_syntax.proofs.Chain.{Reads, reads_none, reads_more}
use Rattle.soda_syntax.proofs.Complete.{complete}
use Rattle.soda_syntax.proofs.Fronts.{no_large}
use Rattle.soda_syntax.proofs.Running.{one_head}
use Rattle.soda_syntax.proofs.Standing.{BeginsStatement, finished_no_formula, name_ends}
use Rattle.soda_syntax.proofs.Texts.{IsLargeLine, head_steps, nothing_begins, tail_begins}
use Rattle.soda_syntax.proofs.Tops.{whole_syntax}

-- no front of these tokens is a left side and too much of a formula
abbrev pub IsSmallLine : List Placed → Type 0
IsSmallLine ts = (p y : List Placed) → ts ≡ p ++ y → IsLargeLine p → ⊥

-- no front of a formula is too large
abbrev pub IsSmallFormula : List Placed → Type 0
IsSmallFormula ts = (p y : List Placed) → ts ≡ p ++ y → IsLarge p → ⊥

-- a left side and a small formula
pub formula_small : (head part : List Placed) → IsHead head → IsSmallFormula part → IsSmallLine (head ++ part)
formula_small head part h small p y e large =
    let a = head_steps head h in
    let b = head_steps large.head large.left in
    let whole : head ++ part ≡ large.head ++ (large.part ++ y) = e ∙ (ap (λ x. x ++ y) large.is ∙ append_assoc large.head large.part y) in
    let o = one_head head large.head part (large.part ++ y) a.0 b.0 whole a.1 b.1 in
    small large.part y o.1 large.large

-- a local or an output
abbrev pub has_formula : PlainStatement → Bool
has_formula (local f) = true
has_formula (output f) = true
has_formula _ = false

formula_line : (r : Role) (f : PlainFormulaLine) → has_formula (line_as r f) ≡ true
formula_line Target f = refl
formula_line Parameter f = refl
formula_line Source f = refl
formula_line Middle f = refl

-- a statement without a formula
pub plain_small : {ts : List Placed} {s : PlainStatement} → IsStatement ts s → has_formula s ≡ false → IsSmallLine ts
plain_small {ts} {s} is none =
    elim (complete is) [
      | inl p ↦ no_large ts p.stage p.read (finished_no_formula p.stage p.end p.ended)
      | inr k ↦ (let has : true ≡ has_formula s = sym (formula_line k.left.role _) ∙ ap has_formula k.says in let never : true ≡ false = has ∙ none in cc)
    ]

-- statements one behind another, each of them small
pub data AreSmallStatements : List Placed → List PlainStatement → Type 0 where
  none_small : AreSmallStatements [] []
  small_before : {ts us : List Placed} {s : PlainStatement} {ss : List PlainStatement} → IsStatement ts s → IsSmallLine ts → AreSmallStatements us ss
      → AreSmallStatements (ts ++ us) (s ∷ ss)

all_statements : {ts : List Placed} {ss : List PlainStatement} → AreSmallStatements ts ss → AreStatements ts ss
all_statements none_small = no_statement
all_statements (small_before is small more) = statement_before is (all_statements more)

begins_next : {us : List Placed} {ss : List PlainStatement} (t : Placed) (r : List Placed) → AreSmallStatements us ss → us ≡ t ∷ r → BeginsStatement (t ∷ [])
begins_next {us} t r more e = tail_begins [] t r (all_statements more) nothing_begins (append-nil us ∙ e)

all_reads : {ts : List Placed} {ss : List PlainStatement} → AreSmallStatements ts ss → Reads ts ss []
all_reads none_small = reads_none []
all_reads (small_before is small more) =
    reads_more (record { whole = is; ended = λ t r e b. name_ends t is (begins_next t r more e) b; small = small }) (all_reads more)

-- they are of the grammar, with no formula too large
pub small_syntax : {ts : List Placed} {ss : List PlainStatement} → AreSmallStatements ts ss → IsSyntax ts ss
small_syntax {ts} {ss} a =
    let none : drop (length ts) ts ≡ [] = drop_all (length ts) ts (omega arith) in
    whole_syntax ts ss (length ts) (omega arith) (subst (Reads ts ss) (sym none) (all_reads a))
