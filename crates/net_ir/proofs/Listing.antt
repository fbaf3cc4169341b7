-- How the lists of the queues at each module grow.
use Rattle.std.proofs.Common.{◌≡◌, ◌<◌, ◌≤◌, ◌+◌, ◌==◌, ℕ, Bool, true, false, cond, List, [], ◌∷◌, ◌++◌, length, take, drop, get_or, append_assoc, All, set, length-set, get_or-set_same, get_or-set_other, add-one, refl, sym, ap, ◌∙◌, subst, ⊎_elim, arith}
use Rattle.std.proofs.lemmas.List.{drop_more, take_more, drop_all, get_or_default}
use Rattle.std.specs.List.{insert}
use Rattle.std.proofs.lemmas.Bool.{lt-ltb, le-ltb, cases_eq, eq-eqb, ne_eqb}
use Rattle.net_ir.specs.declared.network.Queue.{Queue}
use Rattle.net_ir.specs.Nets.{queue_at, put_by_port, entrances_among, exits_among}
use Rattle.net_ir.specs.declared.network.Ends.{Ends}
use Rattle.net_ir.specs.machine.Table.{IsListed}

-- one number on, in the search for a place
pub put_further : (queues : List Queue) (n : ℕ) (xs : List ℕ) (i : ℕ) → i < length xs → (queue_at queues (get_or xs i 0)).port < (queue_at queues n).port
    → take i xs ++ put_by_port queues n (drop i xs) ≡ take (i + 1) xs ++ put_by_port queues n (drop (i + 1) xs)
put_further queues n xs i h less =
    let x : ℕ = get_or xs i 0 in
    let rest : List ℕ = drop (i + 1) xs in
    ap (λ ys. take i xs ++ put_by_port queues n ys) (drop_more xs i 0 h)
    ∙ ap (λ b. take i xs ++ cond b (x ∷ put_by_port queues n rest) (n ∷ x ∷ rest)) (lt-ltb _ _ less)
    ∙ sym (append_assoc (take i xs) (x ∷ []) (put_by_port queues n rest))
    ∙ ap (λ ys. ys ++ put_by_port queues n rest) (sym (take_more xs i 0 h))

-- the place is found
pub put_here : (queues : List Queue) (n : ℕ) (xs : List ℕ) (i : ℕ) → i < length xs → (queue_at queues n).port ≤ (queue_at queues (get_or xs i 0)).port
    → take i xs ++ put_by_port queues n (drop i xs) ≡ insert xs i n
put_here queues n xs i h more =
    let x : ℕ = get_or xs i 0 in
    let rest : List ℕ = drop (i + 1) xs in
    ap (λ ys. take i xs ++ put_by_port queues n ys) (drop_more xs i 0 h)
    ∙ ap (λ b. take i xs ++ cond b (x ∷ put_by_port queues n rest) (n ∷ x ∷ rest)) (le-ltb _ _ more)
    ∙ ap (λ ys. take i xs ++ n ∷ ys) (sym (drop_more xs i 0 h))

pub put_last : (queues : List Queue) (n : ℕ) (xs : List ℕ) (i : ℕ) → length xs ≤ i → take i xs ++ put_by_port queues n (drop i xs) ≡ insert xs i n
put_last queues n xs i h =
    ap (λ ys. take i xs ++ put_by_port queues n ys) (drop_all i xs h) ∙ ap (λ ys. take i xs ++ n ∷ ys) (sym (drop_all i xs h))

-- the entrances list one queue more than the exits
record IsHalfListed (queues : List Queue) (modules k : ℕ) (ends : List Ends) : Type 0 where
  whole : length ends ≡ modules
  entrances_at : (m : ℕ) (d : Ends) → m < modules → (get_or ends m d).entrances.items ≡ entrances_among queues m (k + 1)
  exits_at : (m : ℕ) (d : Ends) → m < modules → (get_or ends m d).exits.items ≡ exits_among queues m k

entrances_one : (queues : List Queue) (m k : ℕ) (b : Bool) → ((queue_at queues k).to == m) ≡ b
    → entrances_among queues m (k + 1) ≡ cond b (put_by_port queues k (entrances_among queues m k)) (entrances_among queues m k)
unfolding entrances_among
entrances_one queues m k b e = ap (entrances_among queues m) (add-one k)
    ∙ ap (λ c. cond c (put_by_port queues k (entrances_among queues m k)) (entrances_among queues m k)) e

exits_one : (queues : List Queue) (m k : ℕ) (b : Bool) → ((queue_at queues k).from == m) ≡ b
    → exits_among queues m (k + 1) ≡ cond b (exits_among queues m k ++ k ∷ []) (exits_among queues m k)
unfolding exits_among
exits_one queues m k b e = ap (exits_among queues m) (add-one k) ∙ ap (λ c. cond c (exits_among queues m k ++ k ∷ []) (exits_among queues m k)) e

half_listed : (queues : List Queue) (ends : List Ends) (k : ℕ) (new : Ends) → IsListed queues (length ends) k ends → (queue_at queues k).to < length ends
    → new.entrances.items ≡ put_by_port queues k (entrances_among queues (queue_at queues k).to k)
    → new.exits.items ≡ exits_among queues (queue_at queues k).to k → IsHalfListed queues (length ends) k (set ends (queue_at queues k).to new)
half_listed queues ends k new old h ins outs =
    let t : ℕ = (queue_at queues k).to in
    record {
      whole = length-set ends t new;
      entrances_at = λ m d j. ⊎_elim
          (λ e. subst (λ x. (get_or (set ends t new) x d).entrances.items ≡ entrances_among queues x (k + 1)) e
          (ap (λ (x : Ends). x.entrances.items) (get_or-set_same ends t new d h) ∙ ins ∙ sym (entrances_one queues t k true (eq-eqb t t refl))))
          (λ ne. ap (λ (x : Ends). x.entrances.items) (get_or-set_other ends t m new d (λ e. ne (sym e))) ∙ old.entrances_at m d j
          ∙ sym (entrances_one queues m k false (ne_eqb t m ne)))
          (cases_eq t m);
      exits_at = λ m d j. ⊎_elim
          (λ e. subst (λ x. (get_or (set ends t new) x d).exits.items ≡ exits_among queues x k) e
          (ap (λ (x : Ends). x.exits.items) (get_or-set_same ends t new d h) ∙ outs))
          (λ ne. ap (λ (x : Ends). x.exits.items) (get_or-set_other ends t m new d (λ e. ne (sym e))) ∙ old.exits_at m d j)
          (cases_eq t m);
    }

whole_listed : (queues : List Queue) (modules : ℕ) (ends : List Ends) (k : ℕ) (new : Ends) → IsHalfListed queues modules k ends
    → (queue_at queues k).from < modules → ((d : Ends) → new.entrances.items ≡ (get_or ends (queue_at queues k).from d).entrances.items)
    → ((d : Ends) → new.exits.items ≡ (get_or ends (queue_at queues k).from d).exits.items ++ k ∷ [])
    → IsListed queues modules (k + 1) (set ends (queue_at queues k).from new)
whole_listed queues modules ends k new old h ins outs =
    let f : ℕ = (queue_at queues k).from in
    let within : f < length ends = omega (arith, old.whole) in
    record {
      whole = length-set ends f new ∙ old.whole;
      entrances_at = λ m d j. ⊎_elim
          (λ e. subst (λ x. (get_or (set ends f new) x d).entrances.items ≡ entrances_among queues x (k + 1)) e
          (ap (λ (x : Ends). x.entrances.items) (get_or-set_same ends f new d within) ∙ ins d ∙ old.entrances_at f d h))
          (λ ne. ap (λ (x : Ends). x.entrances.items) (get_or-set_other ends f m new d (λ e. ne (sym e))) ∙ old.entrances_at m d j)
          (cases_eq f m);
      exits_at = λ m d j. ⊎_elim
          (λ e. subst (λ x. (get_or (set ends f new) x d).exits.items ≡ exits_among queues x (k + 1)) e
          (ap (λ (x : Ends). x.exits.items) (get_or-set_same ends f new d within) ∙ outs d ∙ ap (λ xs. xs ++ k ∷ []) (old.exits_at f d h)
          ∙ sym (exits_one queues f k true (eq-eqb f f refl))))
          (λ ne. ap (λ (x : Ends). x.exits.items) (get_or-set_other ends f m new d (λ e. ne (sym e))) ∙ old.exits_at m d j
          ∙ sym (exits_one queues m k false (ne_eqb f m ne)))
          (cases_eq f m);
    }

-- one queue more at its two ends: what was there, and what is there now
pub listed_further : (queues : List Queue) (ends : List Ends) (k : ℕ) (was now from into : Ends) → IsListed queues (length ends) k ends
    → (queue_at queues k).to < length ends → (queue_at queues k).from < length ends → was ≡ get_or ends (queue_at queues k).to was
    → now.entrances.items ≡ put_by_port queues k was.entrances.items → now.exits.items ≡ was.exits.items
    → from ≡ get_or (set ends (queue_at queues k).to now) (queue_at queues k).from from → into.entrances.items ≡ from.entrances.items
    → into.exits.items ≡ from.exits.items ++ k ∷ [] → IsListed queues (length ends) (k + 1)
    (set (set ends (queue_at queues k).to now) (queue_at queues k).from into)
listed_further queues ends k was now from into old to_in from_in was_is more same from_is kept added =
    let t : ℕ = (queue_at queues k).to in
    let f : ℕ = (queue_at queues k).from in
    let half = half_listed queues ends k now old to_in
    (more ∙ ap (λ (x : Ends). put_by_port queues k x.entrances.items) was_is ∙ ap (put_by_port queues k) (old.entrances_at t was to_in))
    (same ∙ ap (λ (x : Ends). x.exits.items) was_is ∙ old.exits_at t was to_in) in
    let there : f < length (set ends t now) = omega (arith, length-set ends t now) in
    whole_listed queues (length ends) (set ends t now) k into half from_in
    (λ d. kept ∙ ap (λ (x : Ends). x.entrances.items) (from_is ∙ get_or_default (set ends t now) f from d there))
    (λ d. added ∙ ap (λ (x : Ends). x.exits.items ++ k ∷ []) (from_is ∙ get_or_default (set ends t now) f from d there))

pub listed_none : (queues : List Queue) (modules : ℕ) (ends : List Ends) → length ends ≡ modules
    → All (λ e. (e.entrances.items ≡ []) × (e.exits.items ≡ [])) ends → IsListed queues modules 0 ends
unfolding entrances_among exits_among
listed_none queues modules ends whole none = record {
  whole = whole;
  entrances_at = λ m d h. (none m d (omega arith)).0;
  exits_at = λ m d h. (none m d (omega arith)).1;
}
