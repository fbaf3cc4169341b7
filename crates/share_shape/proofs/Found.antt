-- What holds of every compound of a program, and so of the one that is found.
use Rattle.std.proofs.Common.{◌≡◌, ℕ, suc, ◌+◌, Bool, true, false, ◌&&◌, List, [], ◌∷◌, ◌++◌, ℤ, Option, Some, None, map, slice_index_or, refl, subst, arith, if◌then◌else◌}
use Rattle.std.specs.List.{list_any}
use Rattle.std.proofs.lemmas.Bool.{and_parts}
use Rattle.soda_words.specs.IntType.{IntType}
use Rattle.soda_words.specs.declared.operators.BinOp.{BinOp}
use Rattle.soda_words.specs.declared.operators.UnOp.{UnOp}
use Rattle.soda_ir.specs.Formula.{Formula, number, read, param, unary, binary, choice, cast, by_formula, every}
use Rattle.soda_ir.specs.Program.{PlainTensor}
use Rattle.share_shape.specs.Compounds.{Site, compounds, compounds_of, site, sites_from}
use Rattle.share_shape.specs.Procedure.{first_shared}
use Rattle.share_shape.specs.Shifts.{are_shift_equal, has_cell}
use Rattle.share_shape.proofs.Replaced.{is_operation}

-- a fact of each element
abbrev pub Every : {X : Type 0} → (X → Type 0) → List X → Type 0
Every P [] = Unit {0}
Every P (x ∷ xs) = P x × Every P xs

every_append : {X : Type 0} → (P : X → Type 0) (xs ys : List X) → Every P xs → Every P ys → Every P (xs ++ ys)
every_append P [] ys h k = k
every_append P (x ∷ xs) ys h k = (h.0, every_append P xs ys h.1 k)

-- a property of formulas that their parts have too
pub record IsClosed (Q : Formula → Type 0) : Type 0 where
  pub of_unary : (op : UnOp) (a : Formula) → Q (unary op a) → Q a
  pub of_binary : (op : BinOp) (a b : Formula) → Q (binary op a b) → Q a × Q b
  pub of_choice : (c a b : Formula) → Q (choice c a b) → Q c × Q a × Q b
  pub of_cast : (t : IntType) (a : Formula) → Q (cast t a) → Q a

-- an operator, call or cast with a cell, and this property
pub record IsCompound (Q : Formula → Type 0) (f : Formula) : Type 0 where
  pub operation : is_operation f ≡ true
  pub cell : has_cell f ≡ true
  pub has : Q f

module _ (Q : Formula → Type 0) (closed : IsClosed Q) where
  itself : (f : Formula) (fs : List Formula) (b : Bool) → has_cell f ≡ b → is_operation f ≡ true → Q f → Every (IsCompound Q) fs → Every (IsCompound Q) (if b then f ∷ fs else fs)
  itself f fs true e o q h = (record { operation = o; cell = e; has = q }, h)
  itself f fs false e o q h = h

  pub compounds_have : (f : Formula) → Q f → Every (IsCompound Q) (compounds f)
  compounds_have (number n) q = tt
  compounds_have (read t o) q = tt
  compounds_have (param p k) q = tt
  compounds_have (unary op a) q =
      itself (unary op a) (compounds a) (has_cell a) refl refl q (compounds_have a (closed.of_unary op a q))
  compounds_have (binary op a b) q =
      let parts = closed.of_binary op a b q in
      itself (binary op a b) (compounds a ++ compounds b) (has_cell (binary op a b)) refl refl q (every_append (IsCompound Q) (compounds a) (compounds b) (compounds_have a parts.0) (compounds_have b parts.1))
  compounds_have (choice c a b) q =
      let parts = closed.of_choice c a b q in
      itself (choice c a b) (compounds c ++ (compounds a ++ compounds b)) (has_cell (choice c a b)) refl refl q (every_append (IsCompound Q) (compounds c) (compounds a ++ compounds b) (compounds_have c parts.0) (every_append (IsCompound Q) (compounds a) (compounds b) (compounds_have a parts.1) (compounds_have b parts.2)))
  compounds_have (cast t a) q =
      itself (cast t a) (compounds a) (has_cell a) refl refl q (compounds_have a (closed.of_cast t a q))

-- a test of each read
pub every_closed : (test : ℕ → List ℤ → Bool) → IsClosed (λ f. every test f ≡ true)
every_closed test = record {
  of_unary = λ op a e. e;
  of_binary = λ op a b e. and_parts (every test a) (every test b) e;
  of_choice = λ c a b e.
      let parts = and_parts (every test c && every test a) (every test b) e in
      let front = and_parts (every test c) (every test a) parts.0 in
      (front.0, front.1, parts.1);
  of_cast = λ t a e. e;
}

-- no property
pub none_closed : IsClosed (λ f. Unit {0})
none_closed = record {
  of_unary = λ op a e. tt;
  of_binary = λ op a b e. (tt, tt);
  of_choice = λ c a b e. (tt, tt, tt);
  of_cast = λ t a e. tt;
}

abbrev pub formula_on : List PlainTensor → ℕ → Option Formula
formula_on ts i = slice_index_or (map (λ t. t.formula) ts) i None

-- a compound of one of these tensors, the first of which has the number k
pub record IsSite (Q : Formula → Type 0) (k : ℕ) (ts : List PlainTensor) (s : Site) : Type 0 where
  pub place : ℕ
  pub is : s.tensor ≡ k + place
  pub whole : Formula
  pub formula : formula_on ts place ≡ Some whole
  pub compound : IsCompound Q s.compound

module _ (Q : Formula → Type 0) (closed : IsClosed Q) where
  placed : (k : ℕ) (t : PlainTensor) (ts : List PlainTensor) (f : Formula) → t.formula ≡ Some f → (fs : List Formula) → Every (IsCompound Q) fs → Every (IsSite Q k (t ∷ ts)) (map (site k) fs)
  placed k t ts f e [] h = tt
  placed k t ts f e (g ∷ gs) h =
      (record { place = 0; is = omega arith; whole = f; formula = e; compound = h.0 }, placed k t ts f e gs h.1)

  further_on : (k : ℕ) (t : PlainTensor) (ts : List PlainTensor) (ss : List Site) → Every (IsSite Q (suc k) ts) ss → Every (IsSite Q k (t ∷ ts)) ss
  further_on k t ts [] h = tt
  further_on k t ts (s ∷ ss) h =
      (record { place = suc h.0.place; is = omega (arith, h.0.is); whole = h.0.whole; formula = h.0.formula; compound = h.0.compound }, further_on k t ts ss h.1)

  first_of_tensors : (k : ℕ) (t : PlainTensor) (ts : List PlainTensor) (o : Option Formula) → t.formula ≡ o → ((f : Formula) → t.formula ≡ Some f → Q f) → Every (IsSite Q k (t ∷ ts)) (map (site k) (by_formula o [] compounds))
  first_of_tensors k t ts None e h = tt
  first_of_tensors k t ts (Some f) e h = placed k t ts f e (compounds f) (compounds_have Q closed f (h f e))

  pub sites_have : (k : ℕ) (ts : List PlainTensor) → ((i : ℕ) (f : Formula) → formula_on ts i ≡ Some f → Q f) → Every (IsSite Q k ts) (sites_from k ts)
  sites_have k [] h = tt
  sites_have k (t ∷ ts) h =
      every_append (IsSite Q k (t ∷ ts)) (map (site k) (compounds_of t)) (sites_from (suc k) ts) (first_of_tensors k t ts t.formula refl (λ f e. h 0 f e)) (further_on k t ts (sites_from (suc k) ts) (sites_have (suc k) ts (λ i f e. h (suc i) f e)))

pub some_site : {r s : Site} → Some r ≡ Some s → r ≡ s
some_site e = cc

found_by : (P : Site → Type 0) (s r : Site) (rs : List Site) (b : Bool) → P r → (first_shared rs ≡ Some s → P s) → (if b then Some r else first_shared rs) ≡ Some s → P s
found_by P s r rs true h rest e = subst P (some_site e) h
found_by P s r rs false h rest e = rest e

-- a fact of every compound holds of the one that is found
pub found : (P : Site → Type 0) (s : Site) (ss : List Site) → Every P ss → first_shared ss ≡ Some s → P s
found P s [] h e = cc
found P s (r ∷ rs) h e =
    found_by P s r rs (list_any (λ (q : Site). are_shift_equal r.compound q.compound) rs) h.0 (found P s rs h.1) e
