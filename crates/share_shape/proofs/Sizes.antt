-- Sharing makes no formula longer, and needs no more brackets.
use Rattle.std.proofs.Common.{◌≡◌, ℕ, suc, ◌+◌, ◌*◌, ◌≤◌, Bool, true, false, ◌&&◌, ◌==◌, List, ℤ, Some, None, slice_get, length, nat_lt, refl, sym, ◌∙◌, ap, arith, if◌then◌else◌}
use Rattle.std.proofs.lemmas.Bool.{and_parts, eqb-true, false≢true, ltb-false, ltb-true}
use Rattle.soda_words.specs.IntType.{IntType}
use Rattle.soda_words.specs.OperatorTable.{binary_row, prefix_level, unary_row}
use Rattle.soda_words.specs.declared.operators.BinOp.{BinOp}
use Rattle.soda_words.specs.declared.operators.BinOp.TheVariants.{LogOr, LogAnd, BitOr, BitXor, BitAnd, Eq, Ne, Lt, Le, Gt, Ge, Add, Sub, Mul, Div, Rem, Min, Max}
use Rattle.soda_words.specs.declared.operators.UnOp.{UnOp}
use Rattle.soda_words.specs.declared.operators.UnOp.TheVariants.{Plus, Minus, Flip, Not, Abs}
use Rattle.soda_ir.specs.Formula.{Formula, number, read, param, unary, binary, choice, cast, every}
use Rattle.soda_ir.specs.Program.{PlainParam, PlainProgram}
use Rattle.soda_ir.specs.Written.{index_count, left_pairs, level_of, least_bare, most_open, operand_pairs, pairs_round, right_pairs, token_count}
use Rattle.share_shape.specs.Procedure.{renumbered, replaced}
use Rattle.share_shape.specs.Shifts.{has_cell, shifted}
use Rattle.share_shape.proofs.Counting.{same_cell}
use Rattle.share_shape.proofs.Exact.{first_long, has_dims}
use Rattle.share_shape.proofs.Found.{IsClosed}
use Rattle.share_shape.proofs.Moves.{has_either, last_of, length-moved}
use Rattle.share_shape.proofs.Replaced.{IsKept, kept}

-- no level is above that of operands
unary_low : (op : UnOp) → (unary_row op).level ≤ 10
unary_low Plus = omega arith
unary_low Minus = omega arith
unary_low Flip = omega arith
unary_low Not = omega arith
unary_low Abs = omega arith

binary_low : (op : BinOp) → (binary_row op).level ≤ 10
binary_low LogOr = omega arith
binary_low LogAnd = omega arith
binary_low BitOr = omega arith
binary_low BitXor = omega arith
binary_low BitAnd = omega arith
binary_low Eq = omega arith
binary_low Ne = omega arith
binary_low Lt = omega arith
binary_low Le = omega arith
binary_low Gt = omega arith
binary_low Ge = omega arith
binary_low Add = omega arith
binary_low Sub = omega arith
binary_low Mul = omega arith
binary_low Div = omega arith
binary_low Rem = omega arith
binary_low Min = omega arith
binary_low Max = omega arith

level_low : (f : Formula) → level_of f ≤ 10
level_low (number n) = omega arith
level_low (read t o) = omega arith
level_low (param p k) = omega arith
level_low (unary op a) = unary_low op
level_low (binary op a b) = binary_low op
level_low (choice c a b) = omega arith
level_low (cast t a) = omega arith

pair_one : (y : Bool) → (if y then 1 else 0) ≤ 1
pair_one true = omega arith
pair_one false = omega arith

-- what binds tighter has no more brackets
pairs_by : (a b least : ℕ) (x y : Bool) → nat_lt a least ≡ x → nat_lt b least ≡ y → a ≤ b → (if y then 1 else 0) ≤ (if x then 1 else 0)
pairs_by a b least true y p q h = pair_one y
pairs_by a b least false true p q h = absurd (omega (arith, ltb-false a least p, ltb-true b least q))
pairs_by a b least false false p q h = omega arith

pairs_fall : (least : ℕ) (f h : Formula) → level_of f ≤ level_of h → pairs_round least h ≤ pairs_round least f
pairs_fall least f h l =
    pairs_by (level_of f) (level_of h) least (nat_lt (level_of f) least) (nat_lt (level_of h) least) refl refl l

module _ (p : PlainProgram) where
  -- how a formula and what stands for it are written
  pub record IsNoLonger (f h : Formula) : Type 0 where
    pub tokens : token_count p h ≤ token_count p f
    pub brackets : most_open p h ≤ most_open p f
    pub level : level_of f ≤ level_of h

  on_unary : (op : UnOp) (a x : Formula) → IsNoLonger a x → IsNoLonger (unary op a) (unary op x)
  on_unary op a x r =
      let q : operand_pairs op x ≤ operand_pairs op a = pairs_fall (least_bare (unary_row op).level prefix_level) a x r.level in
      record { tokens = omega (arith, q, r.tokens); brackets = omega (arith, q, r.brackets); level = omega arith }

  on_binary : (op : BinOp) (a b x y : Formula) → IsNoLonger a x → IsNoLonger b y → IsNoLonger (binary op a b) (binary op x y)
  on_binary op a b x y r s =
      let q : left_pairs op x ≤ left_pairs op a = pairs_fall (least_bare (binary_row op).level (binary_row op).level) a x r.level in
      let u : right_pairs op y ≤ right_pairs op b = pairs_fall (least_bare (binary_row op).level (suc (binary_row op).level)) b y s.level in
      record { tokens = omega (arith, q, u, r.tokens, s.tokens); brackets = omega (arith, q, u, r.brackets, s.brackets); level = omega arith }

  on_choice : (d a b z x y : Formula) → IsNoLonger d z → IsNoLonger a x → IsNoLonger b y → IsNoLonger (choice d a b) (choice z x y)
  on_choice d a b z x y q r s = record {
    tokens = omega (arith, q.tokens, r.tokens, s.tokens);
    brackets = omega (arith, q.brackets, r.brackets, s.brackets);
    level = omega arith;
  }

  on_cast : (t : IntType) (a x : Formula) → IsNoLonger a x → IsNoLonger (cast t a) (cast t x)
  on_cast t a x r = record { tokens = omega (arith, r.tokens); brackets = omega (arith, r.brackets); level = omega arith }

  abbrev Enough : ℕ → Formula → Type 0
  Enough d f = (2 + 2 * d ≤ token_count p f) × (1 ≤ most_open p f)

  binary_by : (d : ℕ) (op : BinOp) (a b : Formula) (x : Bool) → has_cell a ≡ x → (has_cell a ≡ true → Enough d a) → (has_cell a ≡ false → Enough d b) → Enough d (binary op a b)
  binary_by d op a b true e h k = let r = h e in (omega (arith, r.0), omega (arith, r.1))
  binary_by d op a b false e h k = let r = k e in (omega (arith, r.0), omega (arith, r.1))

  choice_by : (d : ℕ) (c a b : Formula) (x y : Bool) → has_cell c ≡ x → has_cell a ≡ y → (has_cell c ≡ true → Enough d c) → (has_cell a ≡ true → Enough d a) → (has_cell c ≡ false → has_cell a ≡ false → Enough d b) → Enough d (choice c a b)
  choice_by d c a b true y e f h k l = let r = h e in (omega (arith, r.0), omega (arith, r.1))
  choice_by d c a b false true e f h k l = let r = k f in (omega (arith, r.0), omega (arith, r.1))
  choice_by d c a b false false e f h k l = let r = l e f in (omega (arith, r.0), omega (arith, r.1))

  -- where a cell stands in a formula, it has the tokens of one
  long_enough : (d : ℕ) (f : Formula) → has_cell f ≡ true → has_dims d f ≡ true → (2 + 2 * d ≤ token_count p f) × (1 ≤ most_open p f)
  long_enough d (number n) h e = absurd (false≢true h)
  long_enough d (read t o) h e = let l : length o ≡ d = eqb-true _ _ e in (omega arith, omega arith)
  long_enough d (param q k) h e = absurd (false≢true h)
  long_enough d (unary op a) h e = let r = long_enough d a h e in (omega (arith, r.0), omega (arith, r.1))
  long_enough d (binary op a b) h e =
      let parts = and_parts (has_dims d a) (has_dims d b) e in
      binary_by d op a b (has_cell a) refl (λ c. long_enough d a c parts.0) (λ c. long_enough d b (has_either (every (λ t o. false) a) (every (λ t o. false) b) h c) parts.1)
  long_enough d (choice c a b) h e =
      let parts = and_parts (has_dims d c && has_dims d a) (has_dims d b) e in
      let front = and_parts (has_dims d c) (has_dims d a) parts.0 in
      choice_by d c a b (has_cell c) (has_cell a) refl refl (λ k. long_enough d c k front.0) (λ k. long_enough d a k front.1) (λ k l. long_enough d b (last_of (every (λ t o. false) c) (every (λ t o. false) a) (every (λ t o. false) b) h k l) parts.1)
  long_enough d (cast t a) h e = let r = long_enough d a h e in (omega (arith, r.0), omega (arith, r.1))

  same : (f : Formula) → IsNoLonger f f
  same f = record { tokens = omega arith; brackets = omega arith; level = omega arith }

  -- the formula of a local is written as the compound
  pub written_local : (d k : ℕ) (v : List ℤ) → length v ≡ d → (f : Formula) → has_dims d f ≡ true → IsNoLonger f (renumbered k (shifted v f))
  written_local d k v h (number n) e = same (number n)
  written_local d k v h (read t o) e =
      let l : length o ≡ length v = eqb-true _ _ e ∙ sym h in
      record { tokens = omega (arith, l, length-moved o v l); brackets = omega arith; level = omega arith }
  written_local d k v h (param q i) e = same (param q i)
  written_local d k v h (unary op a) e = on_unary op a (renumbered k (shifted v a)) (written_local d k v h a e)
  written_local d k v h (binary op a b) e =
      let parts = and_parts (has_dims d a) (has_dims d b) e in
      on_binary op a b (renumbered k (shifted v a)) (renumbered k (shifted v b)) (written_local d k v h a parts.0) (written_local d k v h b parts.1)
  written_local d k v h (choice c a b) e =
      let parts = and_parts (has_dims d c && has_dims d a) (has_dims d b) e in
      let front = and_parts (has_dims d c) (has_dims d a) parts.0 in
      on_choice c a b (renumbered k (shifted v c)) (renumbered k (shifted v a)) (renumbered k (shifted v b)) (written_local d k v h c front.0) (written_local d k v h a front.1) (written_local d k v h b parts.1)
  written_local d k v h (cast t a) e = on_cast t a (renumbered k (shifted v a)) (written_local d k v h a e)

  module _ (d k : ℕ) (c : Formula) (cell : has_cell c ≡ true) where
    abbrev Shorter : Formula → Formula → Type 0
    Shorter f h = has_dims d f ≡ true → IsNoLonger f h

    shorter : IsKept k c Shorter
    shorter = record {
      on_number = λ n e. same (number n);
      on_read = λ t o e. record { tokens = omega arith; brackets = omega arith; level = omega arith };
      on_param = λ q i e. same (param q i);
      on_hit = λ f o e dims.
          let has : has_cell f ≡ true = sym (same_cell c f e) ∙ cell in
          let r = long_enough d f has dims in
          record { tokens = omega (arith, first_long d f has dims, r.0); brackets = omega (arith, r.1); level = level_low f };
      on_unary = λ op a x e r dims. on_unary op a x (r dims);
      on_binary = λ op a b x y e r s dims.
          let parts = and_parts (has_dims d a) (has_dims d b) dims in
          on_binary op a b x y (r parts.0) (s parts.1);
      on_choice = λ q a b z x y e r s t dims.
          let parts = and_parts (has_dims d q && has_dims d a) (has_dims d b) dims in
          let front = and_parts (has_dims d q) (has_dims d a) parts.0 in
          on_choice q a b z x y (r front.0) (s front.1) (t parts.1);
      on_cast = λ t a x e r dims. on_cast t a x (r dims);
    }

    pub written_replaced : (f : Formula) → has_dims d f ≡ true → IsNoLonger f (replaced k c f)
    written_replaced f e = kept k c Shorter shorter f e

  -- a formula that is small enough
  pub record IsSmall (most_t most_o : ℕ) (f : Formula) : Type 0 where
    pub tokens : token_count p f ≤ most_t
    pub brackets : most_open p f ≤ most_o

  pub small_closed : (m o : ℕ) → IsClosed (IsSmall m o)
  small_closed m o = record {
    of_unary = λ op a r. record { tokens = omega (arith, r.tokens); brackets = omega (arith, r.brackets) };
    of_binary = λ op a b r. (record { tokens = omega (arith, r.tokens); brackets = omega (arith, r.brackets) }, record { tokens = omega (arith, r.tokens); brackets = omega (arith, r.brackets) });
    of_choice = λ c a b r. (record { tokens = omega (arith, r.tokens); brackets = omega (arith, r.brackets) }, record { tokens = omega (arith, r.tokens); brackets = omega (arith, r.brackets) }, record { tokens = omega (arith, r.tokens); brackets = omega (arith, r.brackets) });
    of_cast = λ t a r. record { tokens = omega (arith, r.tokens); brackets = omega (arith, r.brackets) };
  }

-- how a formula is written depends on the params alone
module _ (p q : PlainProgram) (e : q.params ≡ p.params) where
  same_index : (k : ℕ) → index_count q k ≡ index_count p k
  same_index k = ap (λ (ps : List PlainParam). elim (slice_get ps k) [ None ↦ 0 | Some r ↦ length r.sizes ]) e

  pub same_tokens : (f : Formula) → token_count q f ≡ token_count p f
  same_tokens (number n) = refl
  same_tokens (read t o) = refl
  same_tokens (param r k) = omega (arith, same_index r)
  same_tokens (unary op a) = omega (arith, same_tokens a)
  same_tokens (binary op a b) = omega (arith, same_tokens a, same_tokens b)
  same_tokens (choice c a b) = omega (arith, same_tokens c, same_tokens a, same_tokens b)
  same_tokens (cast t a) = omega (arith, same_tokens a)

  pub same_open : (f : Formula) → most_open q f ≡ most_open p f
  same_open (number n) = refl
  same_open (read t o) = refl
  same_open (param r k) = ap {B = ℕ} (λ n. if n == 0 then 0 else 1) (same_index r)
  same_open (unary op a) = omega (arith, same_open a)
  same_open (binary op a b) = omega (arith, same_open a, same_open b)
  same_open (choice c a b) = omega (arith, same_open c, same_open a, same_open b)
  same_open (cast t a) = omega (arith, same_open a)
