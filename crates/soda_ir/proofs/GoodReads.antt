-- Tests of the reads of a formula, and the good reads of a program's formulas.
use Rattle.std.proofs.Common.{◌≡◌, ℕ, zero, suc, ◌<◌, Bool, true, ◌&&◌, List, [], ◌∷◌, ℤ, length, refl, sym, ◌∙◌, ap, ◌==◌, nat_lt, map, Option, Some, None, slice_index_or}
use Rattle.std.specs.List.{list_all}
use Rattle.std.proofs.lemmas.Bool.{and_from, and_parts, eqb-true, ltb-true}
use Rattle.soda_ir.specs.Counts.{IsCountable, formula_in}
use Rattle.soda_ir.specs.Formula.{Formula, number, read, param, unary, binary, choice, cast, every}
use Rattle.soda_ir.specs.Program.{PlainProgram, PlainTensor}
use Rattle.soda_ir.specs.Uses.{formula_is, is_good_cell, is_near}

-- a test that holds of each read makes a weaker one hold
pub every_weaker : (a b : ℕ → List ℤ → Bool) → ((t : ℕ) (o : List ℤ) → a t o ≡ true → b t o ≡ true) → (f : Formula) → every a f ≡ true → every b f ≡ true
every_weaker a b h (number n) e = refl
every_weaker a b h (read t o) e = h t o e
every_weaker a b h (param p k) e = refl
every_weaker a b h (unary op x) e = every_weaker a b h x e
every_weaker a b h (binary op x y) e =
    let parts = and_parts (every a x) (every a y) e in
    and_from (every b x) (every b y) (every_weaker a b h x parts.0) (every_weaker a b h y parts.1)
every_weaker a b h (choice c x y) e =
    let parts = and_parts (every a c && every a x) (every a y) e in
    let front = and_parts (every a c) (every a x) parts.0 in
    and_from (every b c && every b x) (every b y) (and_from (every b c) (every b x) (every_weaker a b h c front.0) (every_weaker a b h x front.1)) (every_weaker a b h y parts.1)
every_weaker a b h (cast t x) e = every_weaker a b h x e

-- both conditions of each read
pub every_both : (a b : ℕ → List ℤ → Bool) (f : Formula) → every a f ≡ true → every b f ≡ true → every (λ t o. a t o && b t o) f ≡ true
every_both a b (number n) e h = refl
every_both a b (read t o) e h = and_from (a t o) (b t o) e h
every_both a b (param p k) e h = refl
every_both a b (unary op x) e h = every_both a b x e h
every_both a b (binary op x y) e h =
    let l = and_parts (every a x) (every a y) e in
    let r = and_parts (every b x) (every b y) h in
    and_from (every (λ t o. a t o && b t o) x) (every (λ t o. a t o && b t o) y) (every_both a b x l.0 r.0) (every_both a b y l.1 r.1)
every_both a b (choice c x y) e h =
    let l = and_parts (every a c && every a x) (every a y) e in
    let r = and_parts (every b c && every b x) (every b y) h in
    let m = and_parts (every a c) (every a x) l.0 in
    let n = and_parts (every b c) (every b x) r.0 in
    let both : Formula → Bool = λ f. every (λ t o. a t o && b t o) f in
    and_from (both c && both x) (both y) (and_from (both c) (both x) (every_both a b c m.0 n.0) (every_both a b x m.1 n.1)) (every_both a b y l.1 r.1)
every_both a b (cast t x) e h = every_both a b x e h

-- a good cell: its tensor is there, it has a component for each dimension, and is near
module _ (p : PlainProgram) (t : ℕ) (o : List ℤ) (e : is_good_cell p t o ≡ true) where
  abbrev is_long : Bool
  is_long = length o == suc (length p.extents)

  pub good_there : t < length p.tensors
  good_there =
      ltb-true t (length p.tensors) (and_parts (nat_lt t (length p.tensors)) is_long (and_parts (nat_lt t (length p.tensors) && is_long) (is_near o) e).0).0

  pub good_length : length o ≡ suc (length p.extents)
  good_length =
      eqb-true (length o) (suc (length p.extents)) (and_parts (nat_lt t (length p.tensors)) is_long (and_parts (nat_lt t (length p.tensors) && is_long) (is_near o) e).0).1

  pub good_near : is_near o ≡ true
  good_near = (and_parts (nat_lt t (length p.tensors) && is_long) (is_near o) e).1

none_some : {f : Formula} → None ≡ Some f → ⊥
none_some e = cc

-- a test that all formulas pass
pub formula_good : (test : Formula → Bool) (ts : List PlainTensor) (x : ℕ) (f : Formula) → list_all (formula_is test) ts ≡ true → slice_index_or (map (λ t. t.formula) ts) x None ≡ Some f → test f ≡ true
formula_good test [] x f h e = absurd (none_some e)
formula_good test (t ∷ ts) zero f h e =
    let here = (and_parts (formula_is test t) (list_all (formula_is test) ts) h).0 in
    ap (λ (o : Option Formula). elim o [ None ↦ true | Some g ↦ test g ]) (sym e) ∙ here
formula_good test (t ∷ ts) (suc x) f h e =
    formula_good test ts x f (and_parts (formula_is test t) (list_all (formula_is test) ts) h).1 e

-- the reads of a program's formula are good ones, and so near
pub reads_good : (p : PlainProgram) (x : ℕ) (f : Formula) → IsCountable p → formula_in p x ≡ Some f → every (is_good_cell p) f ≡ true
reads_good p x f v e = formula_good (every (is_good_cell p)) p.tensors x f v.cells e

pub near_at : (p : PlainProgram) (x : ℕ) (f : Formula) → IsCountable p → formula_in p x ≡ Some f → every (λ t o. is_near o) f ≡ true
near_at p x f v e = every_weaker (is_good_cell p) (λ t o. is_near o) (good_near p) f (reads_good p x f v e)
