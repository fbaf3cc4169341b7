-- How tokens begin a statement: where the steps stand behind them, and which token they refuse.
use Rattle.std.proofs.Common.{◌≡◌, inl, inr, ℕ, List, [], ◌∷◌, ◌++◌, Option, Some, None, refl, sym, ◌∙◌, ap, subst, append-nil, append_assoc}
use Rattle.soda_words.specs.declared.token.Placed.{Placed}
use Rattle.soda_formula.specs.Terms.{literal}
use Rattle.soda_formula.specs.Grammar.{name_on, number_on, IsFormula, a_literal, tighter}
use Rattle.soda_formula.specs.Reading.{BeginsFormula}
use Rattle.soda_syntax.specs.declared.stage.LeftSide.{LeftSide}
use Rattle.soda_syntax.specs.declared.stage.Stage.{Stage}
use Rattle.soda_syntax.specs.declared.stage.Stage.TheVariants.{Start, Finished, Sizes, TileOrEnd, Formula}
use Rattle.soda_formula.specs.declared.statement.Statement.{Statement}
use Rattle.soda_formula.specs.Statements.{PlainStatement}
use Rattle.soda_syntax.specs.Grammar.{IsStatement, a_kernel, a_burst_width, an_unroll_factor, an_iterate, ignored_border, preserved_border, a_cluster, a_param, an_input, a_local, an_output}
use Rattle.soda_syntax.specs.machine.Pieces.{left_of}
use Rattle.soda_syntax.specs.machine.Steps.{step, steps, stage_of, finish}
use Rattle.soda_formula.proofs.CallerLemmas.{name_ends_formula}
use Rattle.soda_syntax.proofs.Lists.{compare}
use Rattle.soda_syntax.proofs.Running.{steps-append, steps-none, steps-formula, steps-front, some_not_none, one_head}
use Rattle.soda_syntax.proofs.Complete.{complete}
use Rattle.soda_syntax.proofs.Outcomes.{ends, outcome}

-- the tokens begin some statement
abbrev pub BeginsStatement : List Placed → Type 0
BeginsStatement ts = (rest : List Placed) × (s : PlainStatement) × IsStatement (ts ++ rest) s

pub formula_stage : (s : Stage) (l : LeftSide) → left_of s ≡ Some l → s ≡ Formula l
formula_stage (Formula m) l e = cc
formula_stage _ l e = absurd (some_not_none (sym e))

pub finished_outcome : (s : Stage) (x : Statement) → finish s ≡ Some x → outcome s ≡ Some (ends x)
finished_outcome (Finished y) x e = cc
finished_outcome (Sizes p) x e = cc
finished_outcome (TileOrEnd d) x e = cc
finished_outcome _ x e = absurd (some_not_none (sym e))

pub finished_no_formula : (s : Stage) (x : Statement) → finish s ≡ Some x → left_of s ≡ None
finished_no_formula (Formula l) x e = absurd (some_not_none (sym e))
finished_no_formula _ x e = refl

-- no statement that may end goes on with a name
whole_refuses : (s : Stage) (x : Statement) (line : ℕ) (w : List ℕ) → finish s ≡ Some x → stage_of (step s (name_on line w)) ≡ None
unfolding step
whole_refuses (Finished y) x line w e = refl
whole_refuses (Sizes p) x line w e = refl
whole_refuses (TileOrEnd d) x line w e = refl
whole_refuses _ x line w e = absurd (some_not_none (sym e))

-- tokens at which a formula may be: a number alone
pub number_term : (line n : ℕ) → IsFormula (number_on line n ∷ []) (literal n)
number_term line n = tighter (tighter (tighter (tighter (tighter (tighter (tighter (tighter (tighter (tighter (a_literal line n))))))))))

pub begins_formula : BeginsFormula []
begins_formula = (number_on 0 0 ∷ [], literal 0, number_term 0 0)

-- where the steps stand behind the first tokens of a statement
pub data Stands (ts : List Placed) : Type 0 where
  in_head : (s : Stage) → steps (Some Start) ts ≡ Some s → left_of s ≡ None → Stands ts
  in_formula : (head part : List Placed) (l : LeftSide) → ts ≡ head ++ part → steps (Some Start) head ≡ Some (Formula l) → BeginsFormula part → Stands ts

stands_at : (ts : List Placed) (s : Stage) → steps (Some Start) ts ≡ Some s → Stands ts
stands_at ts s e =
    let by : (o : Option LeftSide) → left_of s ≡ o → Stands ts = λ o. elim o as (λ x. left_of s ≡ x → Stands ts) [
      | None ↦ λ h. in_head s e h
      | Some l ↦ λ h. in_formula ts [] l (sym (append-nil ts)) (e ∙ ap (λ x. Some x) (formula_stage s l h)) begins_formula
    ] in by (left_of s) refl

pub begins_stands : (ts : List Placed) → BeginsStatement ts → Stands ts
begins_stands ts (rest, s, is) =
    elim (complete is) [
      | inl p ↦ (let f : (x : Stage) × (steps (Some Start) ts ≡ Some x) = steps-front ts rest (Some Start) p.stage p.read in stands_at ts f.0 f.1)
      | inr k ↦
          elim (compare ts k.head rest k.part k.is) [
            | inl b ↦
                (let f : (x : Stage) × (steps (Some Start) ts ≡ Some x) = steps-front ts b.more (Some Start) (Formula k.left)
                (ap (steps (Some Start)) (sym b.front) ∙ k.read) in stands_at ts f.0 f.1)
            | inr b ↦ in_formula k.head (b.first ∷ b.more) k.left b.front k.read (rest, k.formula, subst (λ x. IsFormula x k.formula) b.rest k.whole)
          ]
    ]

-- the steps behind these tokens refuse this one
pub data Refuses (ts : List Placed) (t : Placed) : Type 0 where
  head_refuses : (s : Stage) → steps (Some Start) ts ≡ Some s → left_of s ≡ None → stage_of (step s t) ≡ None → Refuses ts t
  formula_refuses : (head part : List Placed) (l : LeftSide) → ts ≡ head ++ part → steps (Some Start) head ≡ Some (Formula l)
      → (BeginsFormula (part ++ t ∷ []) → ⊥) → Refuses ts t

-- behind the equals sign no step goes on
no_steps : {A : Type 0} (l : LeftSide) (part : List Placed) (t : Placed) (s : Stage) → steps (Some (Formula l)) (part ++ t ∷ []) ≡ Some s → A
no_steps l [] t s e = absurd (some_not_none (sym e ∙ steps-formula l t []))
no_steps l (p ∷ part) t s e = absurd (some_not_none (sym e ∙ steps-formula l p (part ++ t ∷ [])))

head_stuck : (ts : List Placed) (t : Placed) (s : Stage) → steps (Some Start) ts ≡ Some s → left_of s ≡ None → stage_of (step s t) ≡ None
    → Stands (ts ++ t ∷ []) → ⊥
head_stuck ts t s e nf r (in_head x f g) =
    some_not_none (sym f ∙ (steps-append (Some Start) ts (t ∷ []) ∙ (ap (λ o. steps o (t ∷ [])) e ∙ r)))
head_stuck ts t s e nf r (in_formula head part l is f b) =
    elim (compare ts head (t ∷ []) part is) [
      | inl k ↦ beyond k.more k.front k.rest
      | inr k ↦ some_not_none (sym e ∙ (ap (steps (Some Start)) k.front
          ∙ (steps-append (Some Start) head (k.first ∷ k.more) ∙ (ap (λ o. steps o (k.first ∷ k.more)) f ∙ steps-formula l k.first k.more))))
    ]
  where
    beyond : (z : List Placed) → head ≡ ts ++ z → t ∷ [] ≡ z ++ part → ⊥
    beyond [] h k =
        let same : Some (Formula l) ≡ Some s = sym f ∙ (ap (steps (Some Start)) (h ∙ append-nil ts) ∙ e) in
        let stage : Formula l ≡ s = cc in
        some_not_none (ap left_of stage ∙ nf)
    beyond (u ∷ z) h k =
        let first : t ≡ u = cc in
        some_not_none (sym f ∙ (ap (steps (Some Start)) h ∙ (steps-append (Some Start) ts (u ∷ z)
        ∙ (ap (λ o. steps o (u ∷ z)) e ∙ (ap (λ x. steps (stage_of (step s x)) z) (sym first) ∙ (ap (λ o. steps o z) r ∙ steps-none z))))))

formula_stuck : (ts : List Placed) (t : Placed) (head part : List Placed) (l : LeftSide) → ts ≡ head ++ part
    → steps (Some Start) head ≡ Some (Formula l) → (BeginsFormula (part ++ t ∷ []) → ⊥) → Stands (ts ++ t ∷ []) → ⊥
formula_stuck ts t head part l is e nb (in_head x f g) =
    no_steps l part t x (sym (ap (λ o. steps o (part ++ t ∷ [])) e) ∙ (sym (steps-append (Some Start) head (part ++ t ∷ []))
    ∙ (ap (steps (Some Start)) (sym (append_assoc head part (t ∷ []))) ∙ (ap (λ y. steps (Some Start) (y ++ t ∷ [])) (sym is) ∙ f))))
formula_stuck ts t head part l is e nb (in_formula h p m js f b) =
    let both : head ++ (part ++ t ∷ []) ≡ h ++ p = sym (append_assoc head part (t ∷ [])) ∙ (ap (λ y. y ++ t ∷ []) (sym is) ∙ js) in
    let o : (head ≡ h) × (part ++ t ∷ [] ≡ p) × (l ≡ m) = one_head head h (part ++ t ∷ []) p l m both e f in
    nb (subst BeginsFormula (sym o.1) b)

-- no statement begins with the tokens and one that they refuse
pub stuck : (ts : List Placed) (t : Placed) → Refuses ts t → BeginsStatement (ts ++ t ∷ []) → ⊥
stuck ts t (head_refuses s e nf r) b = head_stuck ts t s e nf r (begins_stands (ts ++ t ∷ []) b)
stuck ts t (formula_refuses head part l is e nb) b = formula_stuck ts t head part l is e nb (begins_stands (ts ++ t ∷ []) b)

-- a statement begins with a name
pub first_name : {ts : List Placed} {s : PlainStatement} → IsStatement ts s → (line : ℕ) × (w : List ℕ) × (rest : List Placed) × (ts ≡ name_on line w ∷ rest)
first_name (a_kernel line colon at text) = (line, _, _, refl)
first_name (a_burst_width line second colon at width) = (line, _, _, refl)
first_name (an_unroll_factor line second colon at factor) = (line, _, _, refl)
first_name (an_iterate line colon at times) = (line, _, _, refl)
first_name (ignored_border line colon at) = (line, _, _, refl)
first_name (preserved_border line colon at) = (line, _, _, refl)
first_name (a_cluster line colon at text) = (line, _, _, refl)
first_name (a_param line colon ty name may are few) = (line, _, _, refl)
first_name (an_input line colon ty name banked may t) = (line, _, _, refl)
first_name (a_local {us = us} ty name h f) = (h.line, _, _, ap (λ x. x ++ us) h.is)
first_name (an_output {us = us} ty name h f) = (h.line, _, _, ap (λ x. x ++ us) h.is)

-- a statement does not go on with what begins another
pub name_ends : {ts : List Placed} {s : PlainStatement} (u : Placed) → IsStatement ts s → BeginsStatement (u ∷ []) → BeginsStatement (ts ++ u ∷ []) → ⊥
name_ends {ts} {s} u is (rest, r, b) more =
    let n : (line : ℕ) × (w : List ℕ) × (others : List Placed) × (u ∷ rest ≡ name_on line w ∷ others) = first_name b in
    let named : u ≡ name_on n.0 n.1 = cc (n.3) in
    elim (complete is) [
      | inl p ↦ stuck ts u (head_refuses p.stage p.read (finished_no_formula p.stage p.end p.ended)
          (subst (λ x. stage_of (step p.stage x) ≡ None) (sym named) (whole_refuses p.stage p.end n.0 n.1 p.ended))) more
      | inr k ↦ stuck ts u (formula_refuses k.head k.part k.left k.is k.read
          (subst (λ x. BeginsFormula (k.part ++ x ∷ []) → ⊥) (sym named) (name_ends_formula k.part k.formula n.0 n.1 k.whole))) more
    ]
