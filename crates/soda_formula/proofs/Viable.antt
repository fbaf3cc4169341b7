-- Where the machine may end it has a formula, and wherever it is some tokens lead it there.
use Rattle.std.proofs.Common.{◌≡◌, ℕ, nat_le, true, List, [], ◌∷◌, ◌++◌, Option, Some, None, ℤ, refl, sym, ◌∙◌, ap, subst, arith, pos, neg_ℤ}
use Rattle.std.proofs.lemmas.Bool.{le-leb}
use Rattle.soda_words.specs.declared.operators.UnOp.TheVariants.{Abs}
use Rattle.soda_words.specs.declared.symbol.Symbol.TheVariants.{OpenRound, CloseRound, CloseSquare, Comma}
use Rattle.soda_words.specs.declared.token.Placed.{Placed}
use Rattle.soda_formula.specs.Terms.{Term, literal, cell, value, unary, binary, choice, cast}
use Rattle.soda_formula.specs.Grammar.{symbol_on, number_on, IsTerm, IsFormula, a_value, no_index}
use Rattle.soda_formula.specs.Reading.{BeginsFormula}
use Rattle.soda_formula.specs.machine.Steps.{Frame, behind_prefix, behind_infix, in_group, in_cast, in_abs, in_first, in_second, in_test, in_then, in_else, Mode, wanted, called, whole, named, at_component, at_magnitude, behind_component, at_index, at_close, indexed, State, in_state, reduce, closing, parting, feed, feeds, then_feed, operand, start, ends, finished, left_alone}
use Rattle.soda_formula.proofs.Complete.{feeds-append, feeds-none, fits-up, close-step, part-step, formula-ends}
use Rattle.soda_formula.proofs.Sound.{Behind, Describes, Tells, reduced, fits-prefix}
use Rattle.soda_formula.proofs.Operands.{start-tells}

operand-tells : (m : Mode) (fs : List Frame) (ts : List Placed) (t : Term) → Describes m fs ts → operand m ≡ Some t → Behind fs ts (λ us. IsTerm 10 us t)
operand-tells (whole u) fs ts t (front, us, e, o, x) d =
    let same : u ≡ t = cc in let P : Term → Type 0 = λ v. IsTerm 10 us v in (front, us, e, o, subst P same x)
operand-tells (named w) fs ts t (front, us, e, o, (c, r)) d =
    let same : value w [] ≡ t = cc in
    let P : Term → Type 0 = λ v. IsTerm 10 us v in
    (front, us, e, o, subst P same (rw c (a_value w r no_index (omega arith))))
operand-tells (indexed w is) fs ts t (front, us, e, o, (vs, c, r, x, few)) d =
    let same : value w is ≡ t = cc in
    let P : Term → Type 0 = λ v. IsTerm 10 us v in
    (front, us, e, o, subst P same (rw c (a_value w r x few)))
operand-tells _ fs ts t h d = cc

alone : (fs : List Frame) (t a : Term) (ts : List Placed) → Behind fs ts (λ us. IsTerm 0 us t)
    → left_alone (record { frames = fs; term = t }) ≡ Some a → IsTerm 0 ts a
alone [] t a ts (front, us, e, o, x) d =
    let same : t ≡ a = cc in
    let P : Term → Type 0 = λ v. IsTerm 0 us v in
    rw (e, o) (subst P same x)
alone (f ∷ fs) t a ts h d = cc

finish-by : (o : Option Term) (m : Mode) (fs : List Frame) (a : Term) (ts : List Placed) → operand m ≡ o → Describes m fs ts → finished o fs ≡ Some a
    → IsTerm 0 ts a
finish-by None m fs a ts e h d = cc
finish-by (Some t) m fs a ts e h d =
    let b = operand-tells m fs ts t h e in
    let r = reduced 0 fs t 10 b.0 b.1 b.3 b.4 (fits-up 9 fs (fits-prefix fs b.0 b.3)) (omega arith) (omega arith) in
    let q = reduce 0 fs t in
    rw b.2 (alone q.frames q.term a (b.0 ++ b.1) r.0 d)

ends-by : (o : Option State) (ts : List Placed) (a : Term) → Tells o ts → ends o ≡ Some a → IsTerm 0 ts a
ends-by None ts a h d = cc
ends-by (Some s) ts a h d = finish-by (operand s.mode) s.mode s.frames a ts refl h d

-- where the machine may end with a formula, the tokens are that formula
pub ends-formula : (ts : List Placed) (a : Term) → ends (feeds start ts) ≡ Some a → IsFormula ts a
ends-formula ts a d = ends-by (feeds start ts) ts a (start-tells ts) d

-- some tokens lead every state with this operand, reduced, to an end
abbrev Leads : List Frame → Term → Type 0
Leads fs t =
    (rest : List Placed) × (a : Term) × ((m : Mode) (gs : List Frame) (u : Term) → operand m ≡ Some u → reduce 0 gs u ≡ reduce 0 fs t
    → ends (feeds (in_state m gs) rest) ≡ Some a)

-- behind `)`
closing-leads : (f : Frame) (fs : List Frame) (t u : Term) → reduce 0 (f ∷ fs) t ≡ record { frames = f ∷ fs; term = t }
    → closing (f ∷ fs) t ≡ in_state (whole u) fs → Leads fs u → Leads (f ∷ fs) t
closing-leads f fs t u e c (rest, a, k) = (
  symbol_on 1 CloseRound ∷ rest,
  a,
  λ m gs v d r. ap (λ x. ends (feeds x rest))
      (close-step m gs 1 v (record { frames = f ∷ fs; term = t }) d (r ∙ e) ∙ c) ∙ k (whole u) fs u refl refl,
)

-- behind `,` and a number
parting-leads : (f g : Frame) (fs : List Frame) (t : Term) → reduce 0 (f ∷ fs) t ≡ record { frames = f ∷ fs; term = t }
    → parting (f ∷ fs) t ≡ in_state wanted (g ∷ fs) → Leads (g ∷ fs) (literal 0) → Leads (f ∷ fs) t
parting-leads f g fs t e c (rest, a, k) = (
  symbol_on 1 Comma ∷ number_on 1 0 ∷ rest,
  a,
  λ m gs v d r. ap (λ x. ends (feeds (then_feed x (number_on 1 0)) rest))
      (part-step m gs 1 v (record { frames = f ∷ fs; term = t }) d (r ∙ e) ∙ c) ∙ k (whole (literal 0)) (g ∷ fs) (literal 0) refl refl,
)

leads : (fs : List Frame) (t : Term) → Leads fs t
leads [] t = ([], t, λ m gs u d r. ap (λ o. finished o gs) d ∙ ap left_alone r)
leads (behind_prefix op ∷ fs) t = leads fs (unary op t)
leads (behind_infix k op b ∷ fs) t =
    let (rest, a, h) = leads fs (binary op b t) in
    (rest, a, λ m gs u d r. h m gs u d (r ∙ (let e : nat_le 0 k ≡ true = le-leb 0 k (omega arith) in rw e)))
leads (in_group ∷ fs) t = closing-leads in_group fs t t refl refl (leads fs t)
leads (in_cast w ∷ fs) t = closing-leads (in_cast w) fs t (cast w t) refl refl (leads fs (cast w t))
leads (in_abs ∷ fs) t = closing-leads in_abs fs t (unary Abs t) refl refl (leads fs (unary Abs t))
leads (in_first op ∷ fs) t =
    parting-leads (in_first op) (in_second op t) fs t refl refl (closing-leads (in_second op t) fs (literal 0) (binary op t (literal 0)) refl refl
    (leads fs (binary op t (literal 0))))
leads (in_second op b ∷ fs) t = closing-leads (in_second op b) fs t (binary op b t) refl refl (leads fs (binary op b t))
leads (in_test ∷ fs) t =
    parting-leads in_test (in_then t) fs t refl refl (parting-leads (in_then t) (in_else t (literal 0)) fs (literal 0) refl refl
    (closing-leads (in_else t (literal 0)) fs (literal 0) (choice t (literal 0) (literal 0)) refl refl (leads fs (choice t (literal 0) (literal 0)))))
leads (in_then c ∷ fs) t =
    parting-leads (in_then c) (in_else c t) fs t refl refl (closing-leads (in_else c t) fs (literal 0) (choice c t (literal 0)) refl refl
    (leads fs (choice c t (literal 0))))
leads (in_else c b ∷ fs) t = closing-leads (in_else c b) fs t (choice c b t) refl refl (leads fs (choice c b t))

-- some tokens lead this state to an end
abbrev CanEnd : Mode → List Frame → Type 0
CanEnd m fs = (rest : List Placed) × (a : Term) × (ends (feeds (in_state m fs) rest) ≡ Some a)

led : (m : Mode) (fs : List Frame) (t : Term) → operand m ≡ Some t → CanEnd m fs
led m fs t d = let (rest, a, k) = leads fs t in (rest, a, k m fs t d refl)

-- one token more in front
before : (p : Placed) (m n : Mode) (fs gs : List Frame) → feed m fs p ≡ in_state n gs → CanEnd n gs → CanEnd m fs
before p m n fs gs e (rest, a, h) = (p ∷ rest, a, ap (λ x. ends (feeds x rest)) e ∙ h)

can_end : (m : Mode) (fs : List Frame) → CanEnd m fs
can_end wanted fs = before (number_on 1 0) wanted (whole (literal 0)) fs fs refl (led (whole (literal 0)) fs (literal 0) refl)
can_end (called f) fs =
    before (symbol_on 1 OpenRound) (called f) wanted fs (f ∷ fs) refl (before (number_on 1 0) wanted (whole (literal 0)) (f ∷ fs) (f ∷ fs) refl
    (led (whole (literal 0)) (f ∷ fs) (literal 0) refl))
can_end (whole t) fs = led (whole t) fs t refl
can_end (named w) fs = led (named w) fs (value w []) refl
can_end (at_component w zs) fs =
    before (number_on 1 0) (at_component w zs) (behind_component w (zs ++ pos 0 ∷ [])) fs fs refl
    (before (symbol_on 1 CloseRound) (behind_component w (zs ++ pos 0 ∷ [])) (whole (cell w (zs ++ pos 0 ∷ []))) fs fs refl
    (led (whole (cell w (zs ++ pos 0 ∷ []))) fs (cell w (zs ++ pos 0 ∷ [])) refl))
can_end (at_magnitude w zs) fs =
    let at : List ℤ = zs ++ neg_ℤ (pos 0) ∷ [] in
    before (number_on 1 0) (at_magnitude w zs) (behind_component w at) fs fs refl
    (before (symbol_on 1 CloseRound) (behind_component w at) (whole (cell w at)) fs fs refl (led (whole (cell w at)) fs (cell w at) refl))
can_end (behind_component w zs) fs =
    before (symbol_on 1 CloseRound) (behind_component w zs) (whole (cell w zs)) fs fs refl (led (whole (cell w zs)) fs (cell w zs) refl)
can_end (at_index w is) fs =
    let at : List ℕ = is ++ 0 ∷ [] in
    before (number_on 1 0) (at_index w is) (at_close w at) fs fs refl (before (symbol_on 1 CloseSquare) (at_close w at) (indexed w at) fs fs refl
    (led (indexed w at) fs (value w at) refl))
can_end (at_close w is) fs =
    before (symbol_on 1 CloseSquare) (at_close w is) (indexed w is) fs fs refl (led (indexed w is) fs (value w is) refl)
can_end (indexed w is) fs = led (indexed w is) fs (value w is) refl

-- tokens that the machine takes begin a formula
pub fed-begins : (ts : List Placed) (s : State) → feeds start ts ≡ Some s → BeginsFormula ts
fed-begins ts s e =
    let (rest, a, h) = can_end s.mode s.frames in
    (rest, a, ends-formula (ts ++ rest) a (ap ends (feeds-append start ts rest ∙ ap (λ x. feeds x rest) e) ∙ h))

refused-by : (o : Option State) (rest : List Placed) (a : Term) → o ≡ None → ends (feeds o rest) ≡ Some a → ⊥
refused-by o rest a e h =
    let d : None ≡ Some a = sym (ap (λ x. ends (feeds x rest)) e ∙ ap ends (feeds-none rest)) ∙ h in cc

-- tokens that the machine refuses begin none
pub refused-begins : (ts : List Placed) → feeds start ts ≡ None → BeginsFormula ts → ⊥
refused-begins ts e (rest, a, x) =
    refused-by (feeds start ts) rest a e (ap ends (sym (feeds-append start ts rest)) ∙ formula-ends (ts ++ rest) a x)
