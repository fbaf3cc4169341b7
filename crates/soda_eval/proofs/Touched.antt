-- What a formula reads decides its tests and its value.
use Rattle.std.proofs.Common.{◌≡◌, ℕ, Bool, true, ◌&&◌, List, ℤ, refl, ◌∙◌, ap}
use Rattle.std.proofs.lemmas.Bool.{and_parts}
use Rattle.int_types.specs.Ranges.{wrapped}
use Rattle.int_types.specs.Operators.{unary_value, binary_value, select_value}
use Rattle.soda_ir.specs.Formula.{Formula, number, read, param, unary, binary, choice, cast}
use Rattle.soda_eval.specs.Arrays.{Each}
use Rattle.soda_eval.specs.Values.{Scope, Values, typed, valued}
use Rattle.soda_ir.specs.Formula.{every}

module _ (test : ℕ → List ℤ → Bool) where
  pub every_same : (a b : ℕ → List ℤ → Bool) → ((t : ℕ) (o : List ℤ) → test t o ≡ true → a t o ≡ b t o) → (f : Formula) → every test f ≡ true → every a f ≡ every b f
  every_same a b h (number n) e = refl
  every_same a b h (read t o) e = h t o e
  every_same a b h (param p k) e = refl
  every_same a b h (unary op x) e = every_same a b h x e
  every_same a b h (binary op x y) e =
      let p : every a x ≡ every b x = every_same a b h x (and_parts (every test x) (every test y) e).0 in
      let q : every a y ≡ every b y = every_same a b h y (and_parts (every test x) (every test y) e).1 in
      cc
  every_same a b h (choice c x y) e =
      let l = (and_parts (every test c && every test x) (every test y) e).0 in
      let r : every a c ≡ every b c = every_same a b h c (and_parts (every test c) (every test x) l).0 in
      let p : every a x ≡ every b x = every_same a b h x (and_parts (every test c) (every test x) l).1 in
      let q : every a y ≡ every b y = every_same a b h y (and_parts (every test c && every test x) (every test y) e).1 in
      cc
  every_same a b h (cast t x) e = every_same a b h x e

  pub valued_same : (s : Scope) (params : List ℤ) (a b : Values) → ((t : ℕ) (o : List ℤ) → test t o ≡ true → a t o ≡ b t o) → (f : Formula) → every test f ≡ true → valued s a params f ≡ valued s b params f
  valued_same s params a b h (number n) e = refl
  valued_same s params a b h (read t o) e = h t o e
  valued_same s params a b h (param p k) e = refl
  valued_same s params a b h (unary op x) e = ap (λ v. unary_value op (typed s x) v) (valued_same s params a b h x e)
  valued_same s params a b h (binary op x y) e =
      let p : valued s a params x ≡ valued s b params x = valued_same s params a b h x (and_parts (every test x) (every test y) e).0 in
      let q : valued s a params y ≡ valued s b params y = valued_same s params a b h y (and_parts (every test x) (every test y) e).1 in
      ap (λ v. binary_value op (typed s x) v (typed s y) (valued s a params y)) p ∙ ap (λ v. binary_value op (typed s x) (valued s b params x) (typed s y) v) q
  valued_same s params a b h (choice c x y) e =
      let l = (and_parts (every test c && every test x) (every test y) e).0 in
      let r : valued s a params c ≡ valued s b params c = valued_same s params a b h c (and_parts (every test c) (every test x) l).0 in
      let p : valued s a params x ≡ valued s b params x = valued_same s params a b h x (and_parts (every test c) (every test x) l).1 in
      let q : valued s a params y ≡ valued s b params y = valued_same s params a b h y (and_parts (every test c && every test x) (every test y) e).1 in
      ap (λ v. select_value v (typed s x) (valued s a params x) (typed s y) (valued s a params y)) r
      ∙ ap (λ v. select_value (valued s b params c) (typed s x) v (typed s y) (valued s a params y)) p
      ∙ ap (λ v. select_value (valued s b params c) (typed s x) (valued s b params x) (typed s y) v) q
  valued_same s params a b h (cast t x) e = ap (λ v. wrapped t v) (valued_same s params a b h x e)

-- a fact of each read makes another
pub each_more : (A B : ℕ → List ℤ → Type 0) → ((t : ℕ) (o : List ℤ) → A t o → B t o) → (f : Formula) → Each A f → Each B f
each_more A B h (number n) e = tt
each_more A B h (read t o) e = h t o e
each_more A B h (param p k) e = tt
each_more A B h (unary op x) e = each_more A B h x e
each_more A B h (binary op x y) e = (each_more A B h x e.0, each_more A B h y e.1)
each_more A B h (choice c x y) e = (each_more A B h c e.0, each_more A B h x e.1, each_more A B h y e.2)
each_more A B h (cast t x) e = each_more A B h x e

-- a test that each read passes makes a fact of each
pub each_from : (test : ℕ → List ℤ → Bool) (A : ℕ → List ℤ → Type 0) → ((t : ℕ) (o : List ℤ) → test t o ≡ true → A t o) → (f : Formula) → every test f ≡ true → Each A f
each_from test A h (number n) e = tt
each_from test A h (read t o) e = h t o e
each_from test A h (param p k) e = tt
each_from test A h (unary op x) e = each_from test A h x e
each_from test A h (binary op x y) e =
    let l = and_parts (every test x) (every test y) e in (each_from test A h x l.0, each_from test A h y l.1)
each_from test A h (choice c x y) e =
    let l = and_parts (every test c && every test x) (every test y) e in
    let m = and_parts (every test c) (every test x) l.0 in
    (each_from test A h c m.0, each_from test A h x m.1, each_from test A h y l.1)
each_from test A h (cast t x) e = each_from test A h x e
