-- Reads by the taps that they belong to.
use Rattle.std.proofs.Common.{◌≡◌, ℕ, zero, suc, ◌+◌, ◌/◌, ◌<◌, cond, List, [], ◌∷◌, ◌++◌, length, get_or, replicate, set, slice_get, Some, None, refl, sym, ◌∙◌, ap, arith}
use Rattle.std.specs.List.{filter}
use Rattle.std.proofs.lemmas.Bool.{eq-eqb, ne_eqb}
use Rattle.std.proofs.lemmas.List.{append-nil}
use Rattle.std.proofs.lemmas.List.Elements.{filter-append}
use Rattle.reuse_chain.proofs.CallerLemmas.{Rises}
use Rattle.net_shape.specs.Plans.{Plan, age_of}
use Rattle.net_shape.specs.Queues.{read_at}
use Rattle.plan_net.specs.machine.Tables.{by_tap, is_at}

pub none_by_tap : (p : Plan) (lane : ℕ) (ts : List ℕ) → replicate (length ts) [] ≡ by_tap p lane ts []
none_by_tap p lane [] = refl
none_by_tap p lane (t ∷ ts) = ap (λ xs. [] ∷ xs) (none_by_tap p lane ts)

-- one read more
module _ (p : Plan) (lane n : ℕ) (ns : List ℕ) where
  abbrev own : ℕ
  own = (lane + age_of p (read_at p n)) / p.unroll

  kept : (t : ℕ) → own ≡ t → filter (is_at p lane t) (ns ++ n ∷ []) ≡ filter (is_at p lane t) ns ++ n ∷ []
  kept t e =
      filter-append (is_at p lane t) ns (n ∷ []) ∙ ap (λ b. filter (is_at p lane t) ns ++ cond b (n ∷ []) []) (eq-eqb own t e)

  left : (t : ℕ) → (own ≡ t → ⊥) → filter (is_at p lane t) (ns ++ n ∷ []) ≡ filter (is_at p lane t) ns
  left t h =
      filter-append (is_at p lane t) ns (n ∷ []) ∙ ap (λ b. filter (is_at p lane t) ns ++ cond b (n ∷ []) []) (ne_eqb own t h)
      ∙ append-nil (filter (is_at p lane t) ns)

  -- that belongs to none of these taps
  pub none_served : (ts : List ℕ) → ((k : ℕ) → k < length ts → get_or ts k 0 ≡ own → ⊥) → by_tap p lane ts ns ≡ by_tap p lane ts (ns ++ n ∷ [])
  none_served [] h = refl
  none_served (t ∷ ts) h =
      ap (λ xs. xs ∷ by_tap p lane ts ns) (sym (left t (λ e. h 0 (omega arith) (sym e))))
      ∙ ap (λ xs. filter (is_at p lane t) (ns ++ n ∷ []) ∷ xs) (none_served ts (λ k lt. h (suc k) (omega arith)))

  -- that belongs to the tap of a place
  pub one_served : (ts : List ℕ) (place : ℕ) → Rises ts → place < length ts → get_or ts place 0 ≡ own
      → set (by_tap p lane ts ns) place (get_or (by_tap p lane ts ns) place [] ++ n ∷ []) ≡ by_tap p lane ts (ns ++ n ∷ [])
  one_served [] place r lt e = absurd (omega arith)
  one_served (t ∷ ts) zero r lt e =
      ap (λ xs. xs ∷ by_tap p lane ts ns) (sym (kept t (sym e)))
      ∙ ap (λ xs. filter (is_at p lane t) (ns ++ n ∷ []) ∷ xs) (none_served ts (λ k l s. let up : t < get_or ts k 0 = r.0 k 0 l in omega arith))
  one_served (t ∷ ts) (suc i) r lt e =
      let up : t < get_or ts i 0 = r.0 i 0 (omega arith) in
      ap (λ xs. xs ∷ set (by_tap p lane ts ns) i (get_or (by_tap p lane ts ns) i [] ++ n ∷ [])) (sym (left t (λ s. omega arith)))
      ∙ ap (λ xs. filter (is_at p lane t) (ns ++ n ∷ []) ∷ xs) (one_served ts i r.1 (omega arith) e)

-- what stands at a place
pub got_is : {A : Type 0} (xs : List A) (i : ℕ) (x : A) → Some x ≡ slice_get xs i → x ≡ get_or xs i x
got_is [] i x e = absurd (cc)
got_is (y ∷ ys) zero x e = cc
got_is (y ∷ ys) (suc i) x e = got_is ys i x e

pub got_some : {A : Type 0} (xs : List A) (i : ℕ) → i < length xs → None ≡ slice_get xs i → ⊥
got_some [] i lt e = absurd (omega arith)
got_some (y ∷ ys) zero lt e = cc
got_some (y ∷ ys) (suc i) lt e = got_some ys i (omega arith) e
