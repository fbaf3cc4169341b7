-- Of a text one program at most is spoken of, it is refused for one cause at most, and never both.
use Rattle.std.proofs.Common.{◌≡◌, ℕ, Bool, true, false, List, Some, None, sym, ap, subst, ◌∙◌}
use Rattle.std.proofs.lemmas.Option.{same_Some}
use Rattle.soda_ir.specs.Program.{PlainProgram}
use Rattle.share_shape.specs.Limits.{Passed}
use Rattle.soda_parse.specs.Text.{Accepts, Refuses}
use Rattle.soda_parse.specs.declared.refusal.Refusal.{Refusal}
use Rattle.soda_parse.specs.declared.refusal.Refusal.TheVariants.{Limit}
use Rattle.job_program.specs.Spoken.{IsMadeOf, PassesFirst, RefusesProgram, SpeaksOf, of_sharing, of_text}

made_one : (share : Bool) (p q r : PlainProgram) → IsMadeOf share p q → IsMadeOf share p r → q ≡ r
made_one false p q r x y = x ∙ sym y
made_one true p q r x y = x.0 ∙ sym y.0

first_one : (p : PlainProgram) (r s : Refusal) → PassesFirst p r → PassesFirst p s → r ≡ s
first_one p r s x y =
    let same : x.0 ≡ y.0 = same_Some x.0 y.0 (sym x.1 ∙ y.1) in
    x.2 ∙ ap (λ (k : Passed). Limit k.kind k.number) same ∙ sym y.2

none_passed : (p q : PlainProgram) (r : Refusal) → IsMadeOf true p q → PassesFirst p r → ⊥
none_passed p q r made first =
    let e : None ≡ Some first.0 = sym made.1 ∙ first.1 in
    cc

module _ (program : (most : ℕ) (bytes : List ℕ) (p q : PlainProgram) → Accepts most bytes p → Accepts most bytes q → p ≡ q)
    (cause : (most : ℕ) (bytes : List ℕ) (r s : Refusal) → Refuses most bytes r → Refuses most bytes s → r ≡ s)
    (apart : (most : ℕ) (bytes : List ℕ) (p : PlainProgram) (r : Refusal) → Accepts most bytes p → Refuses most bytes r → ⊥)
    (most : ℕ) (share : Bool) (bytes : List ℕ) where
  pub one_program : (p q : PlainProgram) → SpeaksOf most share bytes p → SpeaksOf most share bytes q → p ≡ q
  one_program p q x y =
      let P : PlainProgram → Type 0 = λ o. IsMadeOf share o q in
      made_one share x.own p q x.made (subst P (program most bytes y.own x.own y.accepted x.accepted) y.made)

  first_there : (p q : PlainProgram) (r : Refusal) → Accepts most bytes p → Accepts most bytes q → PassesFirst p r → PassesFirst q r
  first_there p q r x y first = let P : PlainProgram → Type 0 = λ o. PassesFirst o r in subst P (program most bytes p q x y) first

  pub one_cause : (r s : Refusal) → RefusesProgram most share bytes r → RefusesProgram most share bytes s → r ≡ s
  one_cause r s (of_text x) (of_text y) = cause most bytes r s x y
  one_cause r s (of_text x) (of_sharing asked q y other) = absurd (apart most bytes q r y x)
  one_cause r s (of_sharing asked p x first) (of_text y) = absurd (apart most bytes p s x y)
  one_cause r s (of_sharing asked p x first) (of_sharing also q y other) = first_one p r s first (first_there q p s y x other)

  pub never_both : (p : PlainProgram) (r : Refusal) → SpeaksOf most share bytes p → RefusesProgram most share bytes r → ⊥
  never_both p r x (of_text y) = apart most bytes x.own r x.accepted y
  never_both p r x (of_sharing asked q y first) =
      let P : Bool → Type 0 = λ b. IsMadeOf b x.own p in
      none_passed x.own p r (subst P asked x.made) (first_there q x.own r y x.accepted first)
