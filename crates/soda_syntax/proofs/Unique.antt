-- Tokens are one statement at most.
use Rattle.std.proofs.Common.{◌≡◌, inl, inr, List, [], ◌∷◌, Some, sym, ◌∙◌, ap, subst}
use Rattle.soda_words.specs.declared.token.Placed.{Placed}
use Rattle.soda_formula.specs.Grammar.{IsFormula}
use Rattle.soda_syntax.specs.declared.stage.Stage.TheVariants.{Start, Formula}
use Rattle.soda_formula.specs.Statements.{PlainStatement, plain_statement}
use Rattle.soda_syntax.specs.Grammar.{IsStatement}
use Rattle.soda_syntax.specs.machine.Lines.{line_of}
use Rattle.soda_syntax.specs.machine.Steps.{steps, finish}
use Rattle.soda_formula.proofs.CallerLemmas.{formula_is_one, formula_is_some}
use Rattle.soda_syntax.proofs.Running.{steps-append, steps-formula, some_not_none, one_head}
use Rattle.soda_syntax.proofs.Complete.{IsPlain, IsLined, complete}

-- where a formula is, no other statement may end
not_both : {A : Type 0} {ts : List Placed} {s r : PlainStatement} → IsPlain ts s → IsLined ts r → A
not_both {A} {ts} p k = by k.part k.whole behind
  where
    behind : Some p.stage ≡ steps (Some (Formula k.left)) k.part
    behind = sym p.read ∙ (ap (steps (Some Start)) k.is ∙ (steps-append (Some Start) k.head k.part ∙ ap (λ o. steps o k.part) k.read))

    by : (part : List Placed) → IsFormula part k.formula → Some p.stage ≡ steps (Some (Formula k.left)) part → A
    by [] f e = absurd (formula_is_some k.formula f)
    by (t ∷ part) f e = absurd (some_not_none (e ∙ steps-formula k.left t part))

pub statement_is_one : {ts : List Placed} {s r : PlainStatement} → IsStatement ts s → IsStatement ts r → s ≡ r
statement_is_one {ts} {s} {r} a b =
    elim (complete a) [
      | inl p ↦
          elim (complete b) [
            | inl q ↦
                (let same : Some p.stage ≡ Some q.stage = sym p.read ∙ q.read in
                let stage : p.stage ≡ q.stage = cc in
                let ended : Some p.end ≡ Some q.end = sym p.ended ∙ (ap finish stage ∙ q.ended) in
                let end : p.end ≡ q.end = cc in
                sym p.is ∙ (ap plain_statement end ∙ q.is))
            | inr k ↦ not_both p k
          ]
      | inr k ↦
          elim (complete b) [
            | inl q ↦ not_both q k
            | inr m ↦
                (let o : (k.head ≡ m.head) × (k.part ≡ m.part) × (k.left ≡ m.left) = one_head k.head m.head k.part m.part k.left m.left
                (sym k.is ∙ m.is) k.read m.read in
                let f : k.formula ≡ m.formula = formula_is_one k.part k.formula m.formula k.whole (subst (λ x. IsFormula x m.formula) (sym o.1) m.whole) in
                let line : line_of k.left k.formula ≡ line_of m.left m.formula = ap (λ l. line_of l k.formula) o.2 ∙ ap (line_of m.left) f in
                sym k.says ∙ (line ∙ m.says))
          ]
    ]
