-- Laws of the grammar of statements.
use Rattle.std.proofs.Common.{◌≡◌, inl, inr, List, [], ◌∷◌, ◌++◌, refl, sym, ◌∙◌, subst, append-nil}
use Rattle.soda_words.specs.declared.token.Placed.{Placed}
use Rattle.soda_formula.specs.Statements.{PlainStatement}
use Rattle.soda_syntax.specs.Grammar.{IsStatement, AreStatements, no_statement, statement_before}
use Rattle.soda_syntax.proofs.Lists.{compare}
use Rattle.soda_syntax.proofs.Standing.{BeginsStatement, name_ends}
use Rattle.soda_syntax.proofs.Texts.{no_empty, one_more, tail_begins, nothing_begins, whole_begins}
use Rattle.soda_syntax.proofs.Unique.{statement_is_one}

-- what begins with a statement is not empty
no_front : {a : List Placed} {s : PlainStatement} (us : List Placed) → IsStatement a s → a ++ us ≡ [] → ⊥
no_front {a} {s} us st e = by a st e
  where
    by : (b : List Placed) → IsStatement b s → b ++ us ≡ [] → ⊥
    by [] p f = no_empty p
    by (x ∷ b) p f = cc

-- no statement ends within another and leaves whole statements
no_shorter : {a b us : List Placed} {s r : PlainStatement} {ss : List PlainStatement} (u : Placed) (z rest : List Placed) → IsStatement a s
    → IsStatement b r → AreStatements us ss → b ≡ a ++ u ∷ z → us ≡ (u ∷ z) ++ rest → ⊥
no_shorter {a} {us = us} u z rest sa sb more f g =
    name_ends u sa (tail_begins [] u (z ++ rest) more nothing_begins (append-nil us ∙ g)) (one_more a u z (subst BeginsStatement f (whole_begins sb)))

same_statements : {ts us : List Placed} {ss rs : List PlainStatement} → AreStatements ts ss → AreStatements us rs → ts ≡ us → ss ≡ rs
same_statements no_statement no_statement e = refl
same_statements no_statement (statement_before {us = us} st more) e = absurd (no_front us st (sym e))
same_statements (statement_before {us = us} st more) no_statement e = absurd (no_front us st e)
same_statements (statement_before {ts = a} {us = us} {s = s} {ss = ss} st more) (statement_before {ts = b} {us = vs} {s = r} {ss = rs} st' more') e =
    elim (compare a b us vs e) [
      | inl k ↦ beyond (λ g. same_statements more more' g) k.more k.front k.rest
      | inr k ↦ absurd (no_shorter k.first k.more us st' st more' k.front k.rest)
    ]
  where
    beyond : (us ≡ vs → ss ≡ rs) → (z : List Placed) → b ≡ a ++ z → us ≡ z ++ vs → s ∷ ss ≡ r ∷ rs
    beyond rest [] f g =
        let first : s ≡ r = statement_is_one st (subst (λ x. IsStatement x r) (f ∙ append-nil a) st') in
        let others : ss ≡ rs = rest g in
        cc
    beyond rest (u ∷ z) f g = absurd (no_shorter u z vs st st' more f g)

-- tokens are the statements of one list at most
pub statements_are_one : (ts : List Placed) (ss rs : List PlainStatement) → AreStatements ts ss → AreStatements ts rs → ss ≡ rs
statements_are_one ts ss rs a b = same_statements a b refl
