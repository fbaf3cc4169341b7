-- An operator's text is put together from what stands round its operands.
use Rattle.std.proofs.Common.{◌≡◌, ℕ, Bool, true, false, ◌==◌, List, [], ◌∷◌, ◌++◌, refl, codes, append-nil, append_assoc, if◌then◌else◌}
use Rattle.soda_words.specs.OperatorTable.{binary_row, unary_row}
use Rattle.soda_words.specs.declared.operators.UnOp.{UnOp}
use Rattle.soda_words.specs.declared.operators.BinOp.{BinOp}
use Rattle.soda_ir.proofs.CallerLemmas.{levels}
use Rattle.soda_print.specs.Canonical.{binary_text, binary_word, closing, is_call, listed, opening, unary_text, unary_word}
use Rattle.soda_print.specs.machine.Steps.{binary_begin, binary_end, binary_middle, unary_begin, unary_end}

one_piece : (call : Bool) (w o c a : List ℕ)
    → (if call then w ++ listed (a ∷ []) else w ++ (o ++ (a ++ c))) ≡ (w ++ (if call then codes "(" else o)) ++ (a ++ (if call then codes ")" else c))
one_piece true w o c a = simp (append-nil, append_assoc)
one_piece false w o c a = simp append_assoc

pub unary_pieces : (op : UnOp) (pairs : ℕ) (a : List ℕ) → unary_text op pairs a ≡ unary_begin op pairs ++ (a ++ unary_end op pairs)
unfolding unary_text unary_begin unary_end
unary_pieces op pairs a = one_piece (is_call (unary_row op)) (unary_word op) (opening pairs) (closing pairs) a

two_pieces : (call : Bool) (w o c p q a b : List ℕ)
    → (if call then w ++ listed (a ∷ b ∷ []) else (o ++ (a ++ c)) ++ (codes " " ++ (w ++ (codes " " ++ (p ++ (b ++ q)))))) ≡
    (if call then w ++ codes "(" else o) ++
    (a ++ ((if call then codes ", " else c ++ (codes " " ++ (w ++ (codes " " ++ p)))) ++ (b ++ (if call then codes ")" else q))))
two_pieces true w o c p q a b = simp (append-nil, append_assoc)
two_pieces false w o c p q a b = simp append_assoc

pub binary_pieces : (op : BinOp) (left right : ℕ) (a b : List ℕ)
    → binary_text op left right a b ≡ binary_begin op left ++ (a ++ (binary_middle op left right ++ (b ++ binary_end op right)))
unfolding binary_text binary_begin binary_middle binary_end
binary_pieces op left right a b =
    two_pieces (is_call (binary_row op)) (binary_word op) (opening left) (closing left) (opening right) (closing right) a b

pub ruleset written = (append-nil, append_assoc, unary_pieces, binary_pieces, levels)
