-- The tests for equal formulas, and what equal based formulas share.
use Rattle.std.proofs.Common.{◌≡◌, ℕ, true, ◌&&◌, ◌==◌, List, [], ◌∷◌, ℤ, slice_index_or, refl, sym, ◌∙◌, ap}
use Rattle.std.specs.Ordering.{int_eq}
use Rattle.std.proofs.lemmas.Bool.{and_from, and_parts, eq-eqb, eqb-true, false≢true}
use Rattle.std.proofs.lemmas.Bool.Decides.{Decides-int_eq}
use Rattle.soda_words.specs.IntType.{is_same_type}
use Rattle.soda_words.specs.declared.operators.BinOp.{BinOp}
use Rattle.soda_words.specs.declared.operators.BinOp.TheVariants.{LogOr, LogAnd, BitOr, BitXor, BitAnd, Eq, Ne, Lt, Le, Gt, Ge, Add, Sub, Mul, Div, Rem, Min, Max}
use Rattle.soda_words.specs.declared.operators.UnOp.{UnOp}
use Rattle.soda_words.specs.declared.operators.UnOp.TheVariants.{Plus, Minus, Flip, Not, Abs}
use Rattle.soda_words.proofs.CallerLemmas.{equal_types, type_itself}
use Rattle.soda_ir.specs.Formula.{Formula, number, read, param, unary, binary, choice, cast}
use Rattle.share_shape.specs.Shifts.{are_shift_equal, based, binary_number, is_same, is_same_offset, unary_number}

unary_at : ℕ → UnOp
unary_at n = slice_index_or (Plus ∷ Minus ∷ Flip ∷ Not ∷ Abs ∷ []) n Plus

unary_back : (op : UnOp) → unary_at (unary_number op) ≡ op
unfolding unary_at
unary_back Plus = refl
unary_back Minus = refl
unary_back Flip = refl
unary_back Not = refl
unary_back Abs = refl

binary_at : ℕ → BinOp
binary_at n = slice_index_or (LogOr ∷ LogAnd ∷ BitOr ∷ BitXor ∷ BitAnd ∷ Eq ∷ Ne ∷ Lt ∷ Le ∷ Gt ∷ Ge ∷ Add ∷ Sub ∷ Mul ∷ Div ∷ Rem ∷ Min ∷ Max ∷ []) n LogOr

binary_back : (op : BinOp) → binary_at (binary_number op) ≡ op
unfolding binary_at
binary_back LogOr = refl
binary_back LogAnd = refl
binary_back BitOr = refl
binary_back BitXor = refl
binary_back BitAnd = refl
binary_back Eq = refl
binary_back Ne = refl
binary_back Lt = refl
binary_back Le = refl
binary_back Gt = refl
binary_back Ge = refl
binary_back Add = refl
binary_back Sub = refl
binary_back Mul = refl
binary_back Div = refl
binary_back Rem = refl
binary_back Min = refl
binary_back Max = refl

unary_one : (a b : UnOp) → (unary_number a == unary_number b) ≡ true → a ≡ b
unary_one a b e = sym (unary_back a) ∙ ap unary_at (eqb-true _ _ e) ∙ unary_back b

binary_one : (a b : BinOp) → (binary_number a == binary_number b) ≡ true → a ≡ b
binary_one a b e = sym (binary_back a) ∙ ap binary_at (eqb-true _ _ e) ∙ binary_back b

offset_one : (o w : List ℤ) → is_same_offset o w ≡ true → o ≡ w
offset_one [] [] e = refl
offset_one [] (d ∷ ds) e = absurd (false≢true e)
offset_one (d ∷ ds) [] e = absurd (false≢true e)
offset_one (d ∷ ds) (c ∷ cs) e =
    let parts = and_parts (int_eq d c) (is_same_offset ds cs) e in
    let first : d ≡ c = (Decides-int_eq d c).0 parts.0 in
    let rest : ds ≡ cs = offset_one ds cs parts.1 in
    cc

offset_self : (o : List ℤ) → is_same_offset o o ≡ true
offset_self [] = refl
offset_self (d ∷ ds) = and_from _ _ ((Decides-int_eq d d).1 refl) (offset_self ds)

-- the test is passed by one formula alone
pub same_one : (f g : Formula) → is_same f g ≡ true → f ≡ g
same_one (number n) (number m) e = ap number (eqb-true n m e)
same_one (read t o) (read u w) e =
    let parts = and_parts (t == u) (is_same_offset o w) e in
    let p : t ≡ u = eqb-true t u parts.0 in
    let q : o ≡ w = offset_one o w parts.1 in
    cc
same_one (param p k) (param q l) e =
    let parts = and_parts (p == q) (k == l) e in
    let x : p ≡ q = eqb-true p q parts.0 in
    let y : k ≡ l = eqb-true k l parts.1 in
    cc
same_one (unary op a) (unary po b) e =
    let parts = and_parts (unary_number op == unary_number po) (is_same a b) e in
    let x : op ≡ po = unary_one op po parts.0 in
    let y : a ≡ b = same_one a b parts.1 in
    cc
same_one (binary op a b) (binary po c d) e =
    let parts = and_parts (binary_number op == binary_number po && is_same a c) (is_same b d) e in
    let front = and_parts (binary_number op == binary_number po) (is_same a c) parts.0 in
    let x : op ≡ po = binary_one op po front.0 in
    let y : a ≡ c = same_one a c front.1 in
    let z : b ≡ d = same_one b d parts.1 in
    cc
same_one (choice c a b) (choice d f g) e =
    let parts = and_parts (is_same c d && is_same a f) (is_same b g) e in
    let front = and_parts (is_same c d) (is_same a f) parts.0 in
    let x : c ≡ d = same_one c d front.0 in
    let y : a ≡ f = same_one a f front.1 in
    let z : b ≡ g = same_one b g parts.1 in
    cc
same_one (cast t a) (cast u b) e =
    let parts = and_parts (is_same_type t u) (is_same a b) e in
    let x : t ≡ u = equal_types t u parts.0 in
    let y : a ≡ b = same_one a b parts.1 in
    cc
same_one _ _ e = absurd (false≢true e)

pub same_self : (f : Formula) → is_same f f ≡ true
same_self (number n) = eq-eqb n n refl
same_self (read t o) = and_from _ _ (eq-eqb t t refl) (offset_self o)
same_self (param p k) = and_from _ _ (eq-eqb p p refl) (eq-eqb k k refl)
same_self (unary op a) = and_from _ _ (eq-eqb (unary_number op) (unary_number op) refl) (same_self a)
same_self (binary op a b) =
    and_from _ _ (and_from _ _ (eq-eqb (binary_number op) (binary_number op) refl) (same_self a)) (same_self b)
same_self (choice c a b) = and_from _ _ (and_from _ _ (same_self c) (same_self a)) (same_self b)
same_self (cast t a) = and_from _ _ (type_itself t) (same_self a)

-- shift-equal formulas are one, once based
pub one_base : (f g : Formula) → are_shift_equal f g ≡ true → based f ≡ based g
one_base f g e = same_one (based f) (based g) e

pub base_one : (f g : Formula) → based f ≡ based g → are_shift_equal f g ≡ true
base_one f g e = ap (λ h. is_same (based f) h) (sym e) ∙ same_self (based f)
