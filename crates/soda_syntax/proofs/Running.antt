-- The steps of a statement, and that the tokens decide them.
use Rattle.std.proofs.Common.{◌≡◌, inl, inr, List, [], ◌∷◌, ◌++◌, Option, Some, None, refl, sym, ◌∙◌, ap, append-nil}
use Rattle.soda_words.specs.declared.token.Placed.{Placed}
use Rattle.soda_syntax.specs.declared.stage.LeftSide.{LeftSide}
use Rattle.soda_syntax.specs.declared.stage.Stage.{Stage}
use Rattle.soda_syntax.specs.declared.stage.Stage.TheVariants.{Start, Formula}
use Rattle.soda_syntax.specs.machine.Steps.{step, steps, then_step}
use Rattle.soda_syntax.proofs.Lists.{compare, Beyond}

pub steps-append : (o : Option Stage) (ts us : List Placed) → steps o (ts ++ us) ≡ steps (steps o ts) us
steps-append o [] us = refl
steps-append o (t ∷ ts) us = steps-append (then_step o t) ts us

pub steps-none : (ts : List Placed) → steps None ts ≡ None
steps-none [] = refl
steps-none (t ∷ ts) = steps-none ts

-- behind the equals sign no step goes on
pub steps-formula : (l : LeftSide) (t : Placed) (ts : List Placed) → steps (Some (Formula l)) (t ∷ ts) ≡ None
unfolding step
steps-formula l t ts = steps-none ts

pub some_not_none : {A : Type 0} {a : A} → Some a ≡ None → ⊥
some_not_none e = cc

-- steps that go on went on before
pub steps-front : (ts us : List Placed) (o : Option Stage) (last : Stage) → steps o (ts ++ us) ≡ Some last → (s : Stage) × (steps o ts ≡ Some s)
steps-front ts us o last e =
    let r : (x : Option Stage) → steps o ts ≡ x → (s : Stage) × (steps o ts ≡ Some s) = λ x ex.
    elim x as (λ v. steps o ts ≡ v → (s : Stage) × (steps o ts ≡ Some s)) [
      | None ↦ λ h. absurd (some_not_none (sym e ∙ (steps-append o ts us ∙ (ap (λ v. steps v us) h ∙ steps-none us))))
      | Some s ↦ λ h. (s, h)
    ] ex
    in r (steps o ts) refl

-- a list has one head that a formula follows
pub one_head : (h g x y : List Placed) (l m : LeftSide) → h ++ x ≡ g ++ y → steps (Some Start) h ≡ Some (Formula l)
    → steps (Some Start) g ≡ Some (Formula m) → (h ≡ g) × (x ≡ y) × (l ≡ m)
one_head h g x y l m e sh sg =
    elim (compare h g x y e) [
      | inl b ↦ beyond b
      | inr b ↦ absurd (some_not_none (sym sh ∙ (ap (steps (Some Start)) b.front
          ∙ (steps-append (Some Start) g (b.first ∷ b.more) ∙ (ap (λ o. steps o (b.first ∷ b.more)) sg ∙ steps-formula m b.first b.more)))))
    ]
  where
    same : (z : List Placed) → g ≡ h ++ z → x ≡ z ++ y → (h ≡ g) × (x ≡ y) × (l ≡ m)
    same [] f r =
        let k : g ≡ h = f ∙ append-nil h in
        let q : Some (Formula l) ≡ Some (Formula m) = sym sh ∙ (ap (steps (Some Start)) (sym k) ∙ sg) in
        (sym k, r, cc)
    same (u ∷ z) f r = absurd (some_not_none (sym sg ∙ (ap (steps (Some Start)) f
        ∙ (steps-append (Some Start) h (u ∷ z) ∙ (ap (λ o. steps o (u ∷ z)) sh ∙ steps-formula l u z)))))

    beyond : Beyond h g x y → (h ≡ g) × (x ≡ y) × (l ≡ m)
    beyond b = same b.more b.front b.rest
