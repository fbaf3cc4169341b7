-- The value of one level of a tree, from the values of its parts.
use Rattle.std.proofs.Common.{◌≡◌, ℕ, List, ℤ, ◌<◌, length, sym, ◌∙◌, ap, subst}
use Rattle.arrayvec.specs.ArrayVec.{ArrayVec}
use Rattle.soda_words.specs.IntType.{IntType}
use Rattle.int_types.specs.Ranges.{wrapped}
use Rattle.soda_words.specs.declared.operators.UnOp.{UnOp}
use Rattle.soda_words.specs.declared.operators.BinOp.{BinOp}
use Rattle.int_types.specs.Operators.{unary_value, binary_value, select_value}
use Rattle.soda_ir.specs.declared.expr.Expr.{Expr, Cell, Par, Un, Bin, Select, Cast}
use Rattle.soda_eval.specs.Values.{Scope, Values, typed, valued, IsReadable}
use Rattle.soda_ir.specs.Formula.{Formula, read, param, unary, binary, choice, cast}
use Rattle.soda_ir.specs.Tree.{formula_of}
use Rattle.soda_ir.proofs.CallerLemmas.{formula_of-Cell, formula_of-Par, formula_of-Un, formula_of-Bin, formula_of-Select, formula_of-Cast}

-- what a formula reads is one of the tensors
pub read_known : (s : Scope) (cells : Values) (params : List ℤ) (e : Expr) (t : ℕ) (o : ArrayVec ℤ) → e ≡ Cell t o → IsReadable s cells params (formula_of e) → t < length s.tensors
read_known s cells params e t o h r =
    let P : Formula → Type 0 = λ f. IsReadable s cells params f in
    let q : IsReadable s cells params (read t o.items) = subst P (ap formula_of h ∙ formula_of-Cell t o) r in
    q.0

-- a param's value is one of those of the params
pub value_known : (s : Scope) (cells : Values) (params : List ℤ) (e : Expr) (q k : ℕ) → e ≡ Par q k → IsReadable s cells params (formula_of e) → IsReadable s cells params (param q k)
value_known s cells params e q k h r =
    let P : Formula → Type 0 = λ f. IsReadable s cells params f in
    subst P (ap formula_of h ∙ formula_of-Par q k) r

module _ (s : Scope) (cells : Values) (params : List ℤ) where
  pub un_step : (e a r : Expr) (op : UnOp) (t : IntType) (v x : ℤ) → e ≡ Un op a → r ≡ a → t ≡ typed s (formula_of r) → v ≡ valued s cells params (formula_of r) → x ≡ unary_value op t v → x ≡ valued s cells params (formula_of e)
  un_step e a r op t v x h k p q z =
      let f : formula_of e ≡ unary op (formula_of r) = ap formula_of h ∙ formula_of-Un op a ∙ ap (λ y. unary op (formula_of y)) (sym k) in
      z ∙ ap (λ y. unary_value op y v) p ∙ ap (λ y. unary_value op (typed s (formula_of r)) y) q ∙ sym (ap (λ y. valued s cells params y) f)

  pub bin_step : (e a b r q : Expr) (op : BinOp) (t u : IntType) (v w x : ℤ) → e ≡ Bin op a b → r ≡ a → q ≡ b → t ≡ typed s (formula_of r) → v ≡ valued s cells params (formula_of r) → u ≡ typed s (formula_of q) → w ≡ valued s cells params (formula_of q) → x ≡ binary_value op t v u w → x ≡ valued s cells params (formula_of e)
  bin_step e a b r q op t u v w x h k l p1 p2 p3 p4 z =
      let f : formula_of e ≡ binary op (formula_of r) (formula_of q) = ap formula_of h ∙ formula_of-Bin op a b ∙ ap (λ y. binary op (formula_of y) (formula_of b)) (sym k) ∙ ap (λ y. binary op (formula_of r) (formula_of y)) (sym l) in
      let g : binary_value op t v u w ≡ valued s cells params (binary op (formula_of r) (formula_of q)) = cc in
      z ∙ g ∙ sym (ap (λ y. valued s cells params y) f)

  pub select_step : (e c a b o r q : Expr) (t u : IntType) (d v w x : ℤ) → e ≡ Select c a b → o ≡ c → r ≡ a → q ≡ b → d ≡ valued s cells params (formula_of o) → t ≡ typed s (formula_of r) → v ≡ valued s cells params (formula_of r) → u ≡ typed s (formula_of q) → w ≡ valued s cells params (formula_of q) → x ≡ select_value d t v u w → x ≡ valued s cells params (formula_of e)
  select_step e c a b o r q t u d v w x h m k l p0 p1 p2 p3 p4 z =
      let f : formula_of e ≡ choice (formula_of o) (formula_of r) (formula_of q) = ap formula_of h ∙ formula_of-Select c a b ∙ ap (λ y. choice (formula_of y) (formula_of a) (formula_of b)) (sym m) ∙ ap (λ y. choice (formula_of o) (formula_of y) (formula_of b)) (sym k) ∙ ap (λ y. choice (formula_of o) (formula_of r) (formula_of y)) (sym l) in
      let g : select_value d t v u w ≡ valued s cells params (choice (formula_of o) (formula_of r) (formula_of q)) = cc in
      z ∙ g ∙ sym (ap (λ y. valued s cells params y) f)

  pub cast_step : (e a r : Expr) (t : IntType) (v x : ℤ) → e ≡ Cast t a → r ≡ a → v ≡ valued s cells params (formula_of r) → x ≡ wrapped t v → x ≡ valued s cells params (formula_of e)
  cast_step e a r t v x h k q z =
      let f : formula_of e ≡ cast t (formula_of r) = ap formula_of h ∙ formula_of-Cast t a ∙ ap (λ y. cast t (formula_of y)) (sym k) in
      z ∙ ap (λ y. wrapped t y) q ∙ sym (ap (λ y. valued s cells params y) f)
