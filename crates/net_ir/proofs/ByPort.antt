-- The lists of the queues at a module stand by port and in queue order.
use Rattle.std.proofs.Common.{◌≡◌, ◌≢◌, ◌<◌, ◌≤◌, ◌==◌, ◌↔◌, nat_lt, nat_eq, ℕ, zero, suc, true, cond, List, [], ◌∷◌, ◌++◌, length, get_or, Contains, AllPairs, refl, sym, ◌∙◌, subst, ⊎_elim, arith}
use Rattle.std.proofs.lemmas.Bool.{cases_Bool, eqb-true, eq-eqb, ltb-true, ltb-false, lt-ltb, or_cases, or_left, or_right, and_parts, and_from, false≢true}
use Rattle.std.proofs.lemmas.List.{get_or_default}
use Rattle.std.proofs.lemmas.List.Quantifiers.{all_pairs_push}
use Rattle.net_ir.specs.declared.network.Queue.{Queue}
use Rattle.net_ir.specs.Nets.{Net, queue_at, put_by_port, entrances_among, exits_among, entrances, exits, IsNetwork, StandByPort, StandInOrder}
use Rattle.net_ir.proofs.Distinct.{has, has-get_or, place_of}
use Rattle.net_ir.proofs.Ends.{has-put_by_port, has-entrances_among, has-exits_among, exits_known}

contains_iff : (n : ℕ) (ns : List ℕ) → (has n ns ≡ true) ↔ Contains ns n
contains_iff n ns = (
  (λ h. let p = place_of n ns h in (p.0, p.1, get_or_default ns p.0 n 0 p.1 ∙ p.2)),
  (λ c. subst (λ x. has x ns ≡ true) c.2 (has-get_or ns c.0 n c.1)),
)

-- each number has a smaller port than those after it
abbrev Rises : List Queue → List ℕ → Type 0
Rises queues [] = Unit {0}
Rises queues (x ∷ xs) =
    ((y : ℕ) → has y xs ≡ true → (queue_at queues x).port < (queue_at queues y).port) × Rises queues xs

Rises-put : (queues : List Queue) (n : ℕ) (xs : List ℕ) → Rises queues xs → ((y : ℕ) → has y xs ≡ true → (queue_at queues y).port ≢ (queue_at queues n).port)
    → Rises queues (put_by_port queues n xs)
Rises-put queues n [] r apart = (λ y h. absurd (false≢true h), tt)
Rises-put queues n (x ∷ xs) r apart =
    let later : (y : ℕ) → has y xs ≡ true → has y (x ∷ xs) ≡ true = λ y h. or_right (nat_eq y x) (has y xs) h in
    let first : has x (x ∷ xs) ≡ true = or_left (nat_eq x x) (has x xs) (eq-eqb x x refl) in
    ⊎_elim
    (λ e. subst (λ b. Rises queues (cond b (x ∷ put_by_port queues n xs) (n ∷ x ∷ xs))) (sym e) (
      (λ y h. ⊎_elim
          (λ s. subst (λ z. (queue_at queues x).port < (queue_at queues z).port) (sym (eqb-true y n s)) (ltb-true _ _ e))
          (λ s. r.0 y s)
          (or_cases (nat_eq y n) (has y xs) (sym (has-put_by_port queues y n xs) ∙ h))),
      Rises-put queues n xs r.1 (λ y h. apart y (later y h)),
    ))
    (λ e. let below : (queue_at queues n).port < (queue_at queues x).port = smaller _ _ (ltb-false _ _ e) (apart x first) in
    subst (λ b. Rises queues (cond b (x ∷ put_by_port queues n xs) (n ∷ x ∷ xs))) (sym e) (
      (λ y h. ⊎_elim
          (λ s. subst (λ z. (queue_at queues n).port < (queue_at queues z).port) (sym (eqb-true y x s)) below)
          (λ s. omega (arith, r.0 y s))
          (or_cases (nat_eq y x) (has y xs) h)),
      r,
    ))
    (cases_Bool (nat_lt (queue_at queues x).port (queue_at queues n).port))
  where
    smaller : (a b : ℕ) → a ≤ b → b ≢ a → a < b
    smaller a b le ne = omega arith

Rises-entrances_among : (queues : List Queue) (m k : ℕ) →
    ((i j : ℕ) → i < j → j < k → (queue_at queues i).to ≡ (queue_at queues j).to → (queue_at queues i).port ≢ (queue_at queues j).port)
    → Rises queues (entrances_among queues m k)
unfolding entrances_among
Rises-entrances_among queues m zero apart = tt
Rises-entrances_among queues m (suc k) apart =
    let old = Rises-entrances_among queues m k (λ i j h l. apart i j h (omega arith)) in
    ⊎_elim
    (λ e. subst (λ b. Rises queues (cond b (put_by_port queues k (entrances_among queues m k)) (entrances_among queues m k))) (sym e)
    (Rises-put queues k (entrances_among queues m k) old (λ y h.
    let p = and_parts _ _ (sym (has-entrances_among queues m k y) ∙ h) in
    apart y k (ltb-true _ _ p.0) (omega arith) (eqb-true _ m p.1 ∙ sym (eqb-true _ m e)))))
    (λ e. subst (λ b. Rises queues (cond b (put_by_port queues k (entrances_among queues m k)) (entrances_among queues m k))) (sym e) old)
    (cases_Bool ((queue_at queues k).to == m))

pairs_rise : (queues : List Queue) (xs : List ℕ) → Rises queues xs → AllPairs (λ x y. (queue_at queues x).port < (queue_at queues y).port) xs
pairs_rise queues [] r i j d h l = absurd (omega arith)
pairs_rise queues (x ∷ xs) r zero zero d h l = absurd (omega arith)
pairs_rise queues (x ∷ xs) r zero (suc j) d h l = r.0 (get_or xs j d) (has-get_or xs j d (omega arith))
pairs_rise queues (x ∷ xs) r (suc i) zero d h l = absurd (omega arith)
pairs_rise queues (x ∷ xs) r (suc i) (suc j) d h l = pairs_rise queues xs r.1 i j d (omega arith) (omega arith)

exits_rise : (queues : List Queue) (m k : ℕ) → AllPairs (λ x y. x < y) (exits_among queues m k)
unfolding exits_among
exits_rise queues m zero = λ i j d h l. absurd (omega arith)
exits_rise queues m (suc k) =
    ⊎_elim
    (λ e. subst (λ b. AllPairs (λ x y. x < y) (cond b (exits_among queues m k ++ k ∷ []) (exits_among queues m k))) (sym e)
    (all_pairs_push (λ x y. x < y) (exits_among queues m k) k (exits_rise queues m k) (exits_known queues m k)))
    (λ e. subst (λ b. AllPairs (λ x y. x < y) (cond b (exits_among queues m k ++ k ∷ []) (exits_among queues m k))) (sym e) (exits_rise queues m k))
    (cases_Bool ((queue_at queues k).from == m))

pub stand_by_port : (net : Net) (m : ℕ) → IsNetwork net → StandByPort net m
stand_by_port net m network = record {
  all = λ n. let iff = contains_iff n (entrances net m) in (
    (λ c. let p = and_parts _ _ (sym (has-entrances_among net.queues m (length net.queues) n) ∙ iff.1 c) in (ltb-true _ _ p.0, eqb-true _ _ p.1)),
    (λ h. iff.0 (has-entrances_among net.queues m (length net.queues) n ∙ and_from _ _ (lt-ltb _ _ h.0) (eq-eqb _ _ h.1))),
  );
  rising = pairs_rise net.queues (entrances net m) (Rises-entrances_among net.queues m (length net.queues) network.ports);
}

pub stand_in_order : (net : Net) (m : ℕ) → StandInOrder net m
stand_in_order net m = record {
  all = λ n. let iff = contains_iff n (exits net m) in (
    (λ c. let p = and_parts _ _ (sym (has-exits_among net.queues m (length net.queues) n) ∙ iff.1 c) in (ltb-true _ _ p.0, eqb-true _ _ p.1)),
    (λ h. iff.0 (has-exits_among net.queues m (length net.queues) n ∙ and_from _ _ (lt-ltb _ _ h.0) (eq-eqb _ _ h.1))),
  );
  rising = exits_rise net.queues m (length net.queues);
}
