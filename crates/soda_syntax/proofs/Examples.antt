-- The definitions at small texts.
use Rattle.std.proofs.Common.{ℕ, List, [], ◌∷◌, codes, Some, pos, neg_ℤ, refl, arith}
use Rattle.soda_words.specs.Tokens.{tokens_of, tokens_behind, front_of}
use Rattle.soda_words.specs.declared.symbol.Symbol.TheVariants.{OpenRound, CloseRound, OpenSquare, CloseSquare, MinusSign, Star, Comma, Colon, EqualSign, Dot}
use Rattle.soda_words.specs.declared.token.Word.{Word}
use Rattle.soda_formula.specs.Grammar.{symbol_on, name_on, number_on, last_item, item_before, back}
use Rattle.soda_formula.specs.declared.statement.Extent.TheVariants.{Fixed, Open}
use Rattle.soda_formula.specs.Statements.{kernel, iterate, param, input}
use Rattle.soda_syntax.specs.Grammar.{a_number, a_star, no_size, size_before, last_number, number_before, a_bank, a_tile, IsLocalHead, IsStatement, a_kernel, an_iterate, a_param, an_input, AreStatements, no_statement, statement_before}
use Rattle.soda_syntax.specs.machine.Steps.{step}
use Rattle.soda_syntax.proofs.Standing.{BeginsStatement, stuck, head_refuses}

abbrev word : List ℕ → Word
word text = record { line = 1; text = text }

-- `param int8: c[3]`
sized : IsStatement (name_on 1 (codes "param") ∷ name_on 1 (codes "int8") ∷ symbol_on 1 Colon ∷ name_on 1 (codes "c") ∷ symbol_on 1 OpenSquare
    ∷ number_on 1 3 ∷ symbol_on 1 CloseSquare ∷ []) (param (record {
      ty = word (codes "int8");
      name = word
          (codes "c");
      sizes = record { line = 1; value = 3 } ∷ [];
    }))
sized = a_param 1 1 (word (codes "int8")) (word (codes "c")) refl (size_before 1 1 3 1 no_size) (omega arith)

-- `input dram 0.1 int8: a(4, *)`
tiled : IsStatement (name_on 1 (codes "input") ∷ name_on 1 (codes "dram") ∷ number_on 1 0 ∷ symbol_on 1 Dot ∷ number_on 1 1 ∷ name_on 1 (codes "int8")
    ∷ symbol_on 1 Colon ∷ name_on 1 (codes "a") ∷ symbol_on 1 OpenRound ∷ number_on 1 4 ∷ symbol_on 1 Comma ∷ symbol_on 1 Star
    ∷ symbol_on 1 CloseRound ∷ []) (input (record { ty = word (codes "int8"); name = word (codes "a"); tile = Some (Fixed 4 ∷ Open ∷ []) }))
tiled =
    an_input 1 1 (word (codes "int8")) (word (codes "a")) (a_bank 1 (number_before 1 0 1 (last_number 1 1))) refl
    (a_tile (record {
      opened = 1;
      inside = number_on 1 4 ∷ symbol_on 1 Comma ∷ symbol_on 1 Star
          ∷ [];
      closed = 1;
      is = refl;
      item = item_before 1 (a_number 1 4) (last_item (a_star 1));
    }))

-- `local int8: l(-1) =`
headed : IsLocalHead (name_on 1 (codes "local") ∷ name_on 1 (codes "int8") ∷ symbol_on 1 Colon ∷ name_on 1 (codes "l") ∷ symbol_on 1 OpenRound
    ∷ symbol_on 1 MinusSign ∷ number_on 1 1 ∷ symbol_on 1 CloseRound ∷ symbol_on 1 EqualSign ∷ []) (word (codes "int8")) (word (codes "l")) (neg_ℤ (pos 1) ∷ [])
headed = record {
  line = 1;
  rest = name_on 1 (codes "int8") ∷ symbol_on 1 Colon ∷ name_on 1 (codes "l") ∷ symbol_on 1 OpenRound ∷ symbol_on 1 MinusSign ∷ number_on 1 1
      ∷ symbol_on 1 CloseRound ∷ symbol_on 1 EqualSign ∷ [];
  is = refl;
  side = record {
    colon = 1;
    equals = 1;
    offsets = symbol_on 1 OpenRound ∷ symbol_on 1 MinusSign ∷ number_on 1 1 ∷ symbol_on 1 CloseRound ∷ [];
    is = refl;
    typed = refl;
    at = record { opened = 1; inside = symbol_on 1 MinusSign ∷ number_on 1 1 ∷ []; closed = 1; is = refl; item = last_item (back 1 1 1) };
  };
}

-- two statements on one line
two : AreStatements (tokens_of (codes "kernel: a iterate: 2")) (kernel 1 (codes "a") ∷ iterate 1 2 ∷ [])
unfolding tokens_behind front_of
two = statement_before (a_kernel 1 1 1 (codes "a")) (statement_before (an_iterate 1 1 1 2) no_statement)

-- `param dram` begins no statement
no-dram : BeginsStatement (name_on 1 (codes "param") ∷ name_on 1 (codes "dram") ∷ []) → ⊥
unfolding step
no-dram = stuck (name_on 1 (codes "param") ∷ []) (name_on 1 (codes "dram")) (head_refuses _ refl refl refl)

-- nor does a third size
no-third : BeginsStatement (name_on 1 (codes "param") ∷ name_on 1 (codes "int8") ∷ symbol_on 1 Colon ∷ name_on 1 (codes "c") ∷ symbol_on 1 OpenSquare
    ∷ number_on 1 1 ∷ symbol_on 1 CloseSquare ∷ symbol_on 1 OpenSquare ∷ number_on 1 2 ∷ symbol_on 1 CloseSquare ∷ symbol_on 1 OpenSquare ∷ []) → ⊥
unfolding step
no-third =
    stuck (name_on 1 (codes "param") ∷ name_on 1 (codes "int8") ∷ symbol_on 1 Colon ∷ name_on 1 (codes "c") ∷ symbol_on 1 OpenSquare ∷ number_on 1 1
    ∷ symbol_on 1 CloseSquare ∷ symbol_on 1 OpenSquare ∷ number_on 1 2 ∷ symbol_on 1 CloseSquare ∷ []) (symbol_on 1 OpenSquare)
    (head_refuses _ refl refl refl)
