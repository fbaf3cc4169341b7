-- The definitions at small formulas.
use Rattle.std.proofs.Common.{◌≡◌, List, [], ◌∷◌, ◌++◌, codes, ℤ, pos, neg_ℤ, refl}
use Rattle.soda_words.specs.declared.operators.BinOp.TheVariants.{Add, Sub, Mul, Div}
use Rattle.soda_words.specs.declared.operators.UnOp.TheVariants.{Minus}
use Rattle.soda_words.specs.declared.symbol.Symbol.TheVariants.{PlusSign, MinusSign, Star, Slash, OpenRound, CloseRound, OpenSquare, CloseSquare}
use Rattle.soda_words.specs.declared.token.Placed.{Placed}
use Rattle.soda_words.specs.declared.token.Word.{Word}
use Rattle.soda_formula.specs.Terms.{Term, literal, cell, value, unary, binary}
use Rattle.soda_formula.specs.Grammar.{symbol_on, name_on, number_on, IsTerm, IsFormula, tighter, joined, a_literal, bracketed, a_cell, last_item, ahead, back}
use Rattle.soda_formula.specs.Reading.{BeginsFormula, open_brackets, counted_tokens}
use Rattle.soda_formula.proofs.Viable.{ends-formula, refused-begins}

abbrev the_tensor : Word
the_tensor = record { line = 1; text = codes "a" }

-- `-1`, `0` and `1` as offsets
abbrev before : List Placed
before = symbol_on 1 MinusSign ∷ number_on 1 1 ∷ []

abbrev cell_tokens : List Placed → List Placed
cell_tokens inside = name_on 1 (codes "a") ∷ symbol_on 1 OpenRound ∷ (inside ++ symbol_on 1 CloseRound ∷ [])

abbrev sum_tokens : List Placed
sum_tokens =
    (cell_tokens before ++ symbol_on 1 PlusSign ∷ cell_tokens (number_on 1 0 ∷ [])) ++ symbol_on 1 PlusSign ∷ cell_tokens (number_on 1 1 ∷ [])

-- `(a(-1) + a(0) + a(1)) / 3`
abbrev mean_tokens : List Placed
mean_tokens =
    (symbol_on 1 OpenRound ∷ (sum_tokens ++ symbol_on 1 CloseRound ∷ [])) ++ symbol_on 1 Slash ∷ number_on 1 3 ∷ []

abbrev at : ℤ → Term
at offset = cell the_tensor (offset ∷ [])

sum-is : IsTerm 7 sum_tokens (binary Add (binary Add (at (neg_ℤ (pos 1))) (at (pos 0))) (at (pos 1)))
sum-is =
    joined 1 PlusSign Add refl (joined 1 PlusSign Add refl (tighter (tighter
    (tighter (a_cell the_tensor refl (record { opened = 1; inside = before; closed = 1; is = refl; item = last_item (back 1 1 1) })))))
    (tighter (tighter (a_cell the_tensor refl (record {
      opened = 1;
      inside = number_on 1 0
          ∷ [];
      closed = 1;
      is = refl;
      item = last_item (ahead 1 0);
    })))))
    (tighter (tighter (a_cell the_tensor refl (record { opened = 1; inside = number_on 1 1 ∷ []; closed = 1; is = refl; item = last_item (ahead 1 1) }))))

-- a mean is a sum in brackets, and then a division
mean-is : IsFormula mean_tokens (binary Div (binary Add (binary Add (at (neg_ℤ (pos 1))) (at (pos 0))) (at (pos 1))) (literal 3))
mean-is =
    tighter (tighter (tighter (tighter (tighter (tighter (tighter (tighter
    (joined 1 Slash Div refl (tighter (tighter (bracketed 1 1 (tighter (tighter (tighter (tighter (tighter (tighter (tighter sum-is))))))))))
    (tighter (a_literal 1 3))))))))))

-- brackets that are open, and tokens that count, at each end of the formula's parts
sizes : (counted_tokens mean_tokens ≡ 18) × (open_brackets mean_tokens ≡ 0) × (open_brackets (symbol_on 1 OpenRound ∷ cell_tokens []) ≡ 1)
    × (counted_tokens (cell_tokens before) ≡ 4) × (open_brackets (name_on 1 (codes "p") ∷ symbol_on 1 OpenSquare ∷ []) ≡ 1)
sizes = (refl, refl, refl, refl, refl)

-- `1 - 2 - 3` groups to the left, `1 + 2 * 3` by its levels, and `- 1 * 2` has its sign on the 1
grouped : IsFormula (number_on 1 1 ∷ symbol_on 1 MinusSign ∷ number_on 1 2 ∷ symbol_on 1 MinusSign ∷ number_on 1 3 ∷ [])
    (binary Sub (binary Sub (literal 1) (literal 2)) (literal 3)) × IsFormula
    (number_on 1 1 ∷ symbol_on 1 PlusSign ∷ number_on 1 2 ∷ symbol_on 1 Star ∷ number_on 1 3 ∷ [])
    (binary Add (literal 1) (binary Mul (literal 2) (literal 3))) × IsFormula
    (symbol_on 1 MinusSign ∷ number_on 1 1 ∷ symbol_on 1 Star ∷ number_on 1 2 ∷ []) (binary Mul (unary Minus (literal 1)) (literal 2))
grouped = (ends-formula _ _ refl, ends-formula _ _ refl, ends-formula _ _ refl)

-- a param takes two indexes
indexed : IsFormula (name_on 1 (codes "p") ∷ symbol_on 1 OpenSquare ∷ number_on 1 7 ∷ symbol_on 1 CloseSquare ∷ symbol_on 1 OpenSquare ∷ number_on 1 0
    ∷ symbol_on 1 CloseSquare ∷ []) (value (record { line = 1; text = codes "p" }) (7 ∷ 0 ∷ []))
indexed = ends-formula _ _ refl

-- the fronts `min(1)`, `int8 +`, `a b` and `a(--`
abbrev one_of_two : List Placed
one_of_two = name_on 1 (codes "min") ∷ symbol_on 1 OpenRound ∷ number_on 1 1 ∷ symbol_on 1 CloseRound ∷ []

abbrev cast_alone : List Placed
cast_alone = name_on 1 (codes "int8") ∷ symbol_on 1 PlusSign ∷ []

abbrev two_names : List Placed
two_names = name_on 1 (codes "a") ∷ name_on 1 (codes "b") ∷ []

abbrev two_signs : List Placed
two_signs = name_on 1 (codes "a") ∷ symbol_on 1 OpenRound ∷ symbol_on 1 MinusSign ∷ symbol_on 1 MinusSign ∷ []

-- no formula begins with them
refused : (BeginsFormula one_of_two → ⊥) × (BeginsFormula cast_alone → ⊥) × (BeginsFormula two_names → ⊥) × (BeginsFormula two_signs → ⊥)
refused =
    (refused-begins one_of_two refl, refused-begins cast_alone refl, refused-begins two_names refl, refused-begins two_signs refl)
