-- The lists of the queues at a module.
use Rattle.std.proofs.Common.{◌≡◌, ◌≢◌, ◌<◌, ◌≤◌, ◌+◌, ◌==◌, nat_lt, ℕ, zero, suc, Bool, true, false, ◌&&◌, ◌||◌, cond, nat_eq, List, [], ◌∷◌, ◌++◌, length, get_or, All, length-append, refl, sym, ap, ◌∙◌, subst, ⊎_elim, arith}
use Rattle.std.proofs.lemmas.Bool.{cases_Bool, eqb-true, eqb-false, ne_eqb, ltb-true, lt-ltb, le-ltb, or_from, or_parts, and_parts, and_from}
use Rattle.std.proofs.lemmas.Bool.Decides.{nat_tests}
use Rattle.net_ir.specs.declared.network.Queue.{Queue}
use Rattle.net_ir.specs.Nets.{queue_at, put_by_port, entrances_among, exits_among}
use Rattle.net_ir.proofs.Distinct.{has, Distinct, has-append, has-get_or, Distinct-push}

pub has-put_by_port : (queues : List Queue) (n k : ℕ) (xs : List ℕ) → has n (put_by_port queues k xs) ≡ (nat_eq n k || has n xs)
has-put_by_port queues n k [] = refl
has-put_by_port queues n k (x ∷ xs) =
    ⊎_elim
    (λ e. ap (λ b. has n (cond b (x ∷ put_by_port queues k xs) (k ∷ x ∷ xs))) e ∙ ap (λ b. nat_eq n x || b) (has-put_by_port queues n k xs)
    ∙ swapped (nat_eq n x) (nat_eq n k) (has n xs))
    (λ e. ap (λ b. has n (cond b (x ∷ put_by_port queues k xs) (k ∷ x ∷ xs))) e)
    (cases_Bool (nat_lt (queue_at queues x).port (queue_at queues k).port))
  where
    swapped : (a b c : Bool) → (a || (b || c)) ≡ (b || (a || c))
    swapped true true c = refl
    swapped true false c = refl
    swapped false b c = refl

Distinct-put_by_port : (queues : List Queue) (k : ℕ) (xs : List ℕ) → Distinct xs → has k xs ≡ false → Distinct (put_by_port queues k xs)
Distinct-put_by_port queues k [] u h = (refl, tt)
Distinct-put_by_port queues k (x ∷ xs) u h =
    let p = or_parts (nat_eq k x) (has k xs) h in
    let apart : nat_eq x k ≡ false = ne_eqb x k (λ e. eqb-false k x p.0 (sym e)) in
    ⊎_elim
    (λ e. subst (λ b. Distinct (cond b (x ∷ put_by_port queues k xs) (k ∷ x ∷ xs))) (sym e)
    (has-put_by_port queues x k xs ∙ or_from (nat_eq x k) (has x xs) apart u.0, Distinct-put_by_port queues k xs u.1 p.1))
    (λ e. subst (λ b. Distinct (cond b (x ∷ put_by_port queues k xs) (k ∷ x ∷ xs))) (sym e) (h, u))
    (cases_Bool (nat_lt (queue_at queues x).port (queue_at queues k).port))

length-put_by_port : (queues : List Queue) (k : ℕ) (xs : List ℕ) → length (put_by_port queues k xs) ≡ suc (length xs)
length-put_by_port queues k [] = refl
length-put_by_port queues k (x ∷ xs) =
    ⊎_elim
    (λ e. ap (λ b. length (cond b (x ∷ put_by_port queues k xs) (k ∷ x ∷ xs))) e ∙ ap suc (length-put_by_port queues k xs))
    (λ e. ap (λ b. length (cond b (x ∷ put_by_port queues k xs) (k ∷ x ∷ xs))) e)
    (cases_Bool (nat_lt (queue_at queues x).port (queue_at queues k).port))

-- one queue more among those that a test picks
step : (n k : ℕ) (t : ℕ → Bool) (rest now : Bool) → rest ≡ (nat_lt n k && t n) → (t k ≡ true → now ≡ (nat_eq n k || rest)) → (t k ≡ false → now ≡ rest)
    → now ≡ (nat_lt n (suc k) && t n)
step n k t rest now old picked passed =
    ⊎_elim
    (λ e. let same : n ≡ k = eqb-true n k e in
    ⊎_elim
    (λ y. picked y ∙ ap (λ b. b || rest) e ∙ sym (and_from (nat_lt n (suc k)) (t n) (lt-ltb n (suc k) (omega arith)) (ap t same ∙ y)))
    (λ y. passed y ∙ old ∙ both_lack (nat_lt n k) (nat_lt n (suc k)) (t n) (ap t same ∙ y))
    (cases_Bool (t k)))
    (λ e. let lt : nat_lt n k ≡ nat_lt n (suc k) = below n k (eqb-false n k e) in
    ⊎_elim
    (λ y. picked y ∙ ap (λ b. b || rest) e ∙ old ∙ ap (λ b. b && t n) lt)
    (λ y. passed y ∙ old ∙ ap (λ b. b && t n) lt)
    (cases_Bool (t k)))
    (cases_Bool (nat_eq n k))
  where
    both_lack : (a b c : Bool) → c ≡ false → (a && c) ≡ (b && c)
    both_lack true true c e = refl
    both_lack true false c e = e
    both_lack false true c e = sym e
    both_lack false false c e = refl

    below : (a b : ℕ) → (a ≡ b → ⊥) → nat_lt a b ≡ nat_lt a (suc b)
    below a b ne = grind (arith, nat_tests)

none_below : (n : ℕ) (b : Bool) → false ≡ (nat_lt n zero && b)
none_below n b = sym (ap (λ c. c && b) (le-ltb n 0 (omega arith)))

pub has-entrances_among : (queues : List Queue) (m k n : ℕ) → has n (entrances_among queues m k) ≡ (nat_lt n k && (queue_at queues n).to == m)
unfolding entrances_among
has-entrances_among queues m zero n = none_below n ((queue_at queues n).to == m)
has-entrances_among queues m (suc k) n =
    step n k (λ q. (queue_at queues q).to == m) _ _ (has-entrances_among queues m k n)
    (λ e. ap (λ b. has n (cond b (put_by_port queues k (entrances_among queues m k)) (entrances_among queues m k))) e
    ∙ has-put_by_port queues n k (entrances_among queues m k))
    (λ e. ap (λ b. has n (cond b (put_by_port queues k (entrances_among queues m k)) (entrances_among queues m k))) e)

or_end : (a b : Bool) → (a || (b || false)) ≡ (b || a)
or_end true true = refl
or_end true false = refl
or_end false true = refl
or_end false false = refl

pub has-exits_among : (queues : List Queue) (m k n : ℕ) → has n (exits_among queues m k) ≡ (nat_lt n k && (queue_at queues n).from == m)
unfolding exits_among
has-exits_among queues m zero n = none_below n ((queue_at queues n).from == m)
has-exits_among queues m (suc k) n =
    step n k (λ q. (queue_at queues q).from == m) _ _ (has-exits_among queues m k n)
    (λ e. ap (λ b. has n (cond b (exits_among queues m k ++ k ∷ []) (exits_among queues m k))) e ∙ has-append n (exits_among queues m k) (k ∷ [])
    ∙ or_end (has n (exits_among queues m k)) (nat_eq n k))
    (λ e. ap (λ b. has n (cond b (exits_among queues m k ++ k ∷ []) (exits_among queues m k))) e)

not_itself : (k : ℕ) (b c : Bool) → c ≡ (nat_lt k k && b) → c ≡ false
not_itself k b c e = e ∙ ap (λ x. x && b) (le-ltb k k (omega arith))

pub Distinct-entrances_among : (queues : List Queue) (m k : ℕ) → Distinct (entrances_among queues m k)
unfolding entrances_among
Distinct-entrances_among queues m zero = tt
Distinct-entrances_among queues m (suc k) =
    ⊎_elim
    (λ e. subst (λ b. Distinct (cond b (put_by_port queues k (entrances_among queues m k)) (entrances_among queues m k))) (sym e)
    (Distinct-put_by_port queues k (entrances_among queues m k) (Distinct-entrances_among queues m k) (not_itself k _ _ (has-entrances_among queues m k k))))
    (λ e. subst (λ b. Distinct (cond b (put_by_port queues k (entrances_among queues m k)) (entrances_among queues m k))) (sym e)
    (Distinct-entrances_among queues m k))
    (cases_Bool ((queue_at queues k).to == m))

pub Distinct-exits_among : (queues : List Queue) (m k : ℕ) → Distinct (exits_among queues m k)
unfolding exits_among
Distinct-exits_among queues m zero = tt
Distinct-exits_among queues m (suc k) =
    ⊎_elim
    (λ e. subst (λ b. Distinct (cond b (exits_among queues m k ++ k ∷ []) (exits_among queues m k))) (sym e)
    (Distinct-push (exits_among queues m k) k (Distinct-exits_among queues m k) (not_itself k _ _ (has-exits_among queues m k k))))
    (λ e. subst (λ b. Distinct (cond b (exits_among queues m k ++ k ∷ []) (exits_among queues m k))) (sym e) (Distinct-exits_among queues m k))
    (cases_Bool ((queue_at queues k).from == m))

pub length-ends_among : (queues : List Queue) (m k : ℕ) → ((n : ℕ) → n < k → (queue_at queues n).from ≢ (queue_at queues n).to)
    → length (entrances_among queues m k) + length (exits_among queues m k) ≤ k
unfolding entrances_among exits_among
length-ends_among queues m zero apart = omega arith
length-ends_among queues m (suc k) apart =
    let ins : List ℕ = entrances_among queues m k in
    let outs : List ℕ = exits_among queues m k in
    let old : length ins + length outs ≤ k = length-ends_among queues m k (λ n h. apart n (omega arith)) in
    two_cases ((queue_at queues k).to == m) ((queue_at queues k).from == m) (λ a b. apart k (omega arith) (eqb-true _ m b ∙ sym (eqb-true _ m a))) k
    (length ins) (length outs) (length (put_by_port queues k ins)) (length (outs ++ k ∷ [])) old (length-put_by_port queues k ins) (length-append outs (k ∷ []))
    (λ b. length (cond b (put_by_port queues k ins) ins)) refl refl (λ b. length (cond b (outs ++ k ∷ []) outs)) refl refl
  where
    two_cases : (a b : Bool) → (a ≡ true → b ≡ true → ⊥) → (k i o i' o' : ℕ) → i + o ≤ k → i' ≡ suc i → o' ≡ o + 1 → (f : Bool → ℕ) → f true ≡ i' → f false ≡ i
        → (g : Bool → ℕ) → g true ≡ o' → g false ≡ o → f a + g b ≤ suc k
    two_cases true true x k i o i' o' h e1 e2 f f1 f2 g g1 g2 = absurd (x refl refl)
    two_cases true false x k i o i' o' h e1 e2 f f1 f2 g g1 g2 = omega arith
    two_cases false true x k i o i' o' h e1 e2 f f1 f2 g g1 g2 = omega arith
    two_cases false false x k i o i' o' h e1 e2 f f1 f2 g g1 g2 = omega arith

pub entrances_known : (queues : List Queue) (m k : ℕ) → All (λ n. n < k) (entrances_among queues m k)
entrances_known queues m k =
    λ i d h. ltb-true _ _ (and_parts _ _ (sym (has-entrances_among queues m k (get_or (entrances_among queues m k) i d))
    ∙ has-get_or (entrances_among queues m k) i d h)).0

pub exits_known : (queues : List Queue) (m k : ℕ) → All (λ n. n < k) (exits_among queues m k)
exits_known queues m k =
    λ i d h. ltb-true _ _ (and_parts _ _ (sym (has-exits_among queues m k (get_or (exits_among queues m k) i d)) ∙ has-get_or (exits_among queues m k) i d h)).0
