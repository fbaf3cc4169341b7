-- The steps of a firing's moves.
use Rattle.std.proofs.Common.{◌≡◌, ◌≢◌, ◌<◌, ◌+◌, ℕ, ℤ, pos, true, List, length, length-set, get_or, set, take, sym, ap, ◌∙◌, subst, ⊎_elim, arith, get_or-set_same, get_or-set_other, get_or-take, length-take-le}
use Rattle.std.proofs.lemmas.Bool.{cases_eq, both_ways}
use Rattle.net_ir.specs.Nets.{Net, entrances, exits}
use Rattle.net_ir.proofs.CallerLemmas.{Distinct, Distinct-entrances_among, Distinct-exits_among, has, has-get_or, lacks-before}
use Rattle.ring_region.specs.Fifos.{Fifo, emptied, fifo_at, with_item}
use Rattle.net_cycles.specs.machine.Moves.{entrance, exit, lead_at, after_take, port_value, TakenTo, SentTo}

-- two places of a list in which no number stands twice
places_apart : (xs : List ℕ) (i j : ℕ) → Distinct xs → i < j → j < length xs → get_or xs i 0 ≢ get_or xs j 0
places_apart xs i j d less h same =
    let first : get_or (take j xs) i 0 ≡ get_or xs i 0 = get_or-take j xs i 0 less in
    let there : has (get_or (take j xs) i 0) (take j xs) ≡ true =
    has-get_or (take j xs) i 0 (omega (arith, length-take-le j xs (omega arith))) in
    both_ways (has (get_or xs j 0) (take j xs)) (lacks-before xs j 0 d h) (subst (λ x. has x (take j xs) ≡ true) (first ∙ same) there)

entrances_apart : (net : Net) (m i j : ℕ) → i < j → j < length (entrances net m) → entrance net m i ≢ entrance net m j
entrances_apart net m i j = places_apart (entrances net m) i j (Distinct-entrances_among net.queues m (length net.queues))

exits_apart : (net : Net) (m i j : ℕ) → i < j → j < length (exits net m) → exit net m i ≢ exit net m j
exits_apart net m i j = places_apart (exits net m) i j (Distinct-exits_among net.queues m (length net.queues))

module _ (net : Net) (m j : ℕ) (old now : List Fifo) where
  -- the queue at the next entrance is as it was
  pub next_entrance : (values : List ℤ) (k : ℕ) → j < length (entrances net m) → TakenTo net old now values m k j
      → fifo_at now (entrance net m j) ≡ fifo_at old (entrance net m j)
  next_entrance values k h so_far = so_far.others (entrance net m j) (λ i less. entrances_apart net m i j less h)

  -- the queue at the next exit is as it was
  pub next_exit : (values : List ℤ) → j < length (exits net m) → SentTo net old now values m j
      → fifo_at now (exit net m j) ≡ fifo_at old (exit net m j)
  next_exit values h so_far = so_far.others (exit net m j) (λ i less. exits_apart net m i j less h)

  take_step : (new : List Fifo) (values : List ℤ) (value : ℤ) (k : ℕ) → j < length (entrances net m)
      → length values ≡ length (entrances net m) → entrance net m j < length now → TakenTo net old now values m k j
      → value ≡ port_value (lead_at net m j) k (fifo_at now (entrance net m j))
      → new ≡ set now (entrance net m j) (after_take (lead_at net m j) k (fifo_at now (entrance net m j)))
      → TakenTo net old new (set values j value) m k (j + 1)
  take_step new values value k h places known so_far found step =
      let x : ℕ = entrance net m j in
      let lead : ℕ = lead_at net m j in
      let same : fifo_at now x ≡ fifo_at old x = next_entrance values k h so_far in
      let other : (q : ℕ) → x ≢ q → fifo_at new q ≡ fifo_at now q =
      λ q ne. ap (λ fs. fifo_at fs q) step ∙ get_or-set_other now x q _ (emptied 0) (λ e. ne (sym e)) in
      record {
        count = ap length step ∙ length-set now x _ ∙ so_far.count;
        taken = λ i less. ⊎_elim
            (λ e. subst (λ y. fifo_at new (entrance net m y) ≡ after_take (lead_at net m y) k (fifo_at old (entrance net m y))) (sym e)
            (ap (λ fs. fifo_at fs x) step ∙ get_or-set_same now x _ (emptied 0) known ∙ ap (after_take lead k) same))
            (λ ne. other (entrance net m i) (λ e. entrances_apart net m i j (omega arith) h (sym e)) ∙ so_far.taken i (omega arith))
            (cases_eq i j);
        values = λ i less. ⊎_elim
            (λ e. subst (λ y. get_or (set values j value) y (pos 0) ≡ port_value (lead_at net m y) k (fifo_at old (entrance net m y))) (sym e)
            (get_or-set_same values j value (pos 0) (omega arith) ∙ found ∙ ap (port_value lead k) same))
            (λ ne. get_or-set_other values j i value (pos 0) ne ∙ so_far.values i (omega arith))
            (cases_eq i j);
        others = λ q none. other q (none j (omega arith)) ∙ so_far.others q (λ i less. none i (omega arith));
      }

  send_step : (new : List Fifo) (values : List ℤ) → j < length (exits net m) → exit net m j < length now
      → SentTo net old now values m j
      → new ≡ set now (exit net m j) (with_item (get_or values j (pos 0)) (fifo_at now (exit net m j)))
      → SentTo net old new values m (j + 1)
  send_step new values h known so_far step =
      let x : ℕ = exit net m j in
      let same : fifo_at now x ≡ fifo_at old x = next_exit values h so_far in
      let other : (q : ℕ) → x ≢ q → fifo_at new q ≡ fifo_at now q =
      λ q ne. ap (λ fs. fifo_at fs q) step ∙ get_or-set_other now x q _ (emptied 0) (λ e. ne (sym e)) in
      record {
        count = ap length step ∙ length-set now x _ ∙ so_far.count;
        sent = λ i less. ⊎_elim
            (λ e. subst (λ y. fifo_at new (exit net m y) ≡ with_item (get_or values y (pos 0)) (fifo_at old (exit net m y))) (sym e)
            (ap (λ fs. fifo_at fs x) step ∙ get_or-set_same now x _ (emptied 0) known ∙ ap (with_item (get_or values j (pos 0))) same))
            (λ ne. other (exit net m i) (λ e. exits_apart net m i j (omega arith) h (sym e)) ∙ so_far.sent i (omega arith))
            (cases_eq i j);
        others = λ q none. other q (none j (omega arith)) ∙ so_far.others q (λ i less. none i (omega arith));
      }

  -- a take at the next entrance, where the queue and its lead were read
  pub take_step_at : (new : List Fifo) (values : List ℤ) (value : ℤ) (k x lead : ℕ) → x ≡ entrance net m j
      → lead ≡ lead_at net m j → j < length (entrances net m) → length values ≡ length (entrances net m) → x < length now
      → TakenTo net old now values m k j → value ≡ port_value lead k (fifo_at now x)
      → new ≡ set now x (after_take lead k (fifo_at now x)) → TakenTo net old new (set values j value) m k (j + 1)
  take_step_at new values value k x lead is leads h places known so_far found step =
      take_step new values value k h places (subst (λ y. y < length now) is known) so_far
      (found ∙ ap (λ n. port_value n k (fifo_at now x)) leads ∙ ap (λ y. port_value (lead_at net m j) k (fifo_at now y)) is)
      (step ∙ ap (λ n. set now x (after_take n k (fifo_at now x))) leads
      ∙ ap (λ y. set now y (after_take (lead_at net m j) k (fifo_at now y))) is)

  -- a send at the next exit, where the queue was read
  pub send_step_at : (new : List Fifo) (values : List ℤ) (value : ℤ) (x : ℕ) → x ≡ exit net m j
      → value ≡ get_or values j (pos 0) → j < length (exits net m) → x < length now → SentTo net old now values m j
      → new ≡ set now x (with_item value (fifo_at now x)) → SentTo net old new values m (j + 1)
  send_step_at new values value x is which h known so_far step =
      send_step new values h (subst (λ y. y < length now) is known) so_far
      (step ∙ ap (λ v. set now x (with_item v (fifo_at now x))) which
      ∙ ap (λ y. set now y (with_item (get_or values j (pos 0)) (fifo_at now y))) is)
