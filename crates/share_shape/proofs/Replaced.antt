-- A relation between each formula and what stands for it once compounds are replaced.
use Rattle.std.proofs.Common.{◌≡◌, ℕ, Bool, true, false, List, ℤ, refl, subst, sym, if◌then◌else◌}
use Rattle.soda_words.specs.IntType.{IntType}
use Rattle.soda_words.specs.declared.operators.BinOp.{BinOp}
use Rattle.soda_words.specs.declared.operators.UnOp.{UnOp}
use Rattle.soda_ir.specs.Formula.{Formula, number, read, param, unary, binary, choice, cast}
use Rattle.share_shape.specs.Procedure.{cell_for, further, replaced}
use Rattle.share_shape.specs.Shifts.{are_shift_equal, first_offset}

-- an operator, a call or a cast
abbrev pub is_operation : Formula → Bool
is_operation (number n) = false
is_operation (read t o) = false
is_operation (param p k) = false
is_operation (unary op a) = true
is_operation (binary op a b) = true
is_operation (choice c a b) = true
is_operation (cast t a) = true

module _ (k : ℕ) (c : Formula) (P : Formula → Formula → Type 0) where
  -- what a relation has to keep, form by form
  pub record IsKept : Type 0 where
    pub on_number : (n : ℕ) → P (number n) (number n)
    pub on_read : (t : ℕ) (o : List ℤ) → P (read t o) (read (further k t) o)
    pub on_param : (p i : ℕ) → P (param p i) (param p i)
    pub on_hit : (f : Formula) → is_operation f ≡ true → are_shift_equal c f ≡ true → P f (read k (first_offset f))
    pub on_unary : (op : UnOp) (a x : Formula) → are_shift_equal c (unary op a) ≡ false → P a x → P (unary op a) (unary op x)
    pub on_binary : (op : BinOp) (a b x y : Formula) → are_shift_equal c (binary op a b) ≡ false → P a x → P b y → P (binary op a b) (binary op x y)
    pub on_choice : (d a b z x y : Formula) → are_shift_equal c (choice d a b) ≡ false → P d z → P a x → P b y → P (choice d a b) (choice z x y)
    pub on_cast : (t : IntType) (a x : Formula) → are_shift_equal c (cast t a) ≡ false → P a x → P (cast t a) (cast t x)

  by_test : (f g : Formula) (b : Bool) → are_shift_equal c f ≡ b → (are_shift_equal c f ≡ true → P f (read k (first_offset f))) → (are_shift_equal c f ≡ false → P f g) → P f (cell_for k c f g)
  by_test f g true e p q = let Q : Bool → Type 0 = λ b. P f (if b then read k (first_offset f) else g) in subst Q (sym e) (p e)
  by_test f g false e p q = let Q : Bool → Type 0 = λ b. P f (if b then read k (first_offset f) else g) in subst Q (sym e) (q e)

  pub kept : IsKept → (f : Formula) → P f (replaced k c f)
  kept r (number n) = r.on_number n
  kept r (read t o) = r.on_read t o
  kept r (param p i) = r.on_param p i
  kept r (unary op a) =
      by_test (unary op a) (unary op (replaced k c a)) (are_shift_equal c (unary op a)) refl (r.on_hit (unary op a) refl) (λ e. r.on_unary op a (replaced k c a) e (kept r a))
  kept r (binary op a b) =
      by_test (binary op a b) (binary op (replaced k c a) (replaced k c b)) (are_shift_equal c (binary op a b)) refl (r.on_hit (binary op a b) refl) (λ e. r.on_binary op a b (replaced k c a) (replaced k c b) e (kept r a) (kept r b))
  kept r (choice d a b) =
      by_test (choice d a b) (choice (replaced k c d) (replaced k c a) (replaced k c b)) (are_shift_equal c (choice d a b)) refl (r.on_hit (choice d a b) refl) (λ e. r.on_choice d a b (replaced k c d) (replaced k c a) (replaced k c b) e (kept r d) (kept r a) (kept r b))
  kept r (cast t a) =
      by_test (cast t a) (cast t (replaced k c a)) (are_shift_equal c (cast t a)) refl (r.on_hit (cast t a) refl) (λ e. r.on_cast t a (replaced k c a) e (kept r a))
