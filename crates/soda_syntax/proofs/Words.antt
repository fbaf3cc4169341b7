-- A word is what it is tested to be.
use Rattle.std.proofs.Common.{◌≡◌, inl, inr, ℕ, true, false, List, [], ◌∷◌, length, Some, None, refl, sym, ◌∙◌, ap, ◌==◌, arith, if◌then◌else◌}
use Rattle.std.proofs.lemmas.Bool.{eqb-true}
use Rattle.std.proofs.lemmas.Bool.Decides.{eqb_tells}
use Rattle.soda_words.specs.Names.{is_word, behind}

empty_list : (bs : List ℕ) → (length bs == 0) ≡ true → bs ≡ []
empty_list [] e = refl
empty_list (b ∷ bs) e = absurd (omega (arith, eqb-true (length (b ∷ bs)) 0 e))

pub word_is : (word bs : List ℕ) → is_word word bs ≡ true → bs ≡ word
word_is [] bs e = empty_list bs e
word_is (p ∷ ps) [] e = cc
word_is (p ∷ ps) (b ∷ bs) e =
    elim (eqb_tells p b) [
      | inl t ↦
          (let rest : is_word ps bs ≡ true = sym (ap (λ x. elim (if x then behind ps bs else None) [ None ↦ false | Some r ↦ length r == 0 ]) t.0) ∙ e in
          let heads : p ≡ b = t.1 in
          let tails : bs ≡ ps = word_is ps bs rest in
          cc)
      | inr f ↦
          (let no : false ≡ true = sym (ap (λ x. elim (if x then behind ps bs else None) [ None ↦ false | Some r ↦ length r == 0 ]) f.0) ∙ e in cc)
    ]
