-- What is left of a scan over the queues at a module.
use Rattle.std.proofs.Common.{◌≡◌, ◌<◌, ◌≤◌, ◌+◌, ◌-◌, nat_le, nat_eq, ℕ, zero, suc, Bool, true, false, ◌||◌, cond, List, [], ◌∷◌, length, take, drop, get_or, filter, refl, sym, ap, ◌∙◌, subst, arith}
use Rattle.std.specs.List.{list_any}
use Rattle.std.proofs.lemmas.List.{drop_more, drop_all}
use Rattle.std.proofs.lemmas.Bool.{le-leb, lt-leb, eq-eqb, ne_eqb, or_left}
use Rattle.net_ir.specs.declared.network.Queue.{Queue}
use Rattle.net_ir.specs.declared.events.Event.{Event}
use Rattle.net_ir.specs.declared.events.Event.TheVariants.{Take, Send, Close}
use Rattle.net_ir.specs.Nets.{Net, queue_at, entrances, exits}
use Rattle.net_ir.specs.declared.events.Turn.{Turn}
use Rattle.net_ir.specs.Firings.{takes, events}
use Rattle.net_ir.specs.States.{taken_now, sent_now, next_event, taken_by, sent_by}
use Rattle.net_ir.proofs.Effects.{event_list}

-- those of a list of queues with a lead of at most k
abbrev pub ready : List Queue → ℕ → List ℕ → List ℕ
ready queues k ns = filter (λ q. nat_le (queue_at queues q).lead k) ns

pub ready_in : (queues : List Queue) (k : ℕ) (ns : List ℕ) (i : ℕ) → i < length ns → (queue_at queues (get_or ns i 0)).lead ≤ k
    → ready queues k (drop i ns) ≡ get_or ns i 0 ∷ ready queues k (drop (i + 1) ns)
ready_in queues k ns i h le =
    ap (ready queues k) (drop_more ns i 0 h) ∙ ap (λ b. cond b (get_or ns i 0 ∷ ready queues k (drop (i + 1) ns)) (ready queues k (drop (i + 1) ns)))
    (le-leb _ _ le)

pub ready_out : (queues : List Queue) (k : ℕ) (ns : List ℕ) (i : ℕ) → i < length ns → k < (queue_at queues (get_or ns i 0)).lead
    → ready queues k (drop i ns) ≡ ready queues k (drop (i + 1) ns)
ready_out queues k ns i h lt =
    ap (ready queues k) (drop_more ns i 0 h) ∙ ap (λ b. cond b (get_or ns i 0 ∷ ready queues k (drop (i + 1) ns)) (ready queues k (drop (i + 1) ns)))
    (lt-leb _ _ lt)

pub ready_end : (queues : List Queue) (k : ℕ) (ns : List ℕ) (i : ℕ) → length ns ≤ i → ready queues k (drop i ns) ≡ []
ready_end queues k ns i h = ap (ready queues k) (drop_all i ns h)

-- the event at a place, one take further on
pub event_further : (x : ℕ) (ins outs : List ℕ) (left : ℕ) → 0 < left
    → get_or (event_list (x ∷ ins) outs) left Close ≡ get_or (event_list ins outs) (left - 1) Close
event_further x ins outs zero h = absurd (omega arith)
event_further x ins outs (suc n) h = let e : n ≡ suc n - 1 = omega arith in ap (λ i. get_or (event_list ins outs) i Close) e

pub event_none : (outs : List ℕ) (left : ℕ) → length outs ≤ left → get_or (event_list [] outs) left Close ≡ Close
event_none [] zero h = refl
event_none [] (suc n) h = refl
event_none (x ∷ outs) zero h = absurd (omega arith)
event_none (x ∷ outs) (suc n) h = event_none outs n (omega arith)

pub event_sent : (outs : List ℕ) (left : ℕ) → left < length outs → get_or (event_list [] outs) left Close ≡ Send (get_or outs left 0)
event_sent [] left h = absurd (omega arith)
event_sent (x ∷ outs) zero h = refl
event_sent (x ∷ outs) (suc n) h = event_sent outs n (omega arith)

-- whether a number is among the first of a list, one number further on
pub among_further : (n x : ℕ) (ns : List ℕ) (left : ℕ) → 0 < left
    → list_any (nat_eq n) (take left (x ∷ ns)) ≡ (nat_eq n x || list_any (nat_eq n) (take (left - 1) ns))
among_further n x ns zero h = absurd (omega arith)
among_further n x ns (suc k) h = let e : k ≡ suc k - 1 = omega arith in ap (λ i. nat_eq n x || list_any (nat_eq n) (take i ns)) e

nothing_taken : (n : ℕ) → take {A = ℕ} n [] ≡ []
nothing_taken zero = refl
nothing_taken (suc n) = refl

-- the next event, by what the scan shows
pub next_is : (net : Net) (m : ℕ) (turn : Turn) (ports sends : List ℕ) (e : Event) → ports ≡ entrances net m → sends ≡ exits net m
    → get_or (event_list (ready net.queues turn.fired ports) sends) turn.part Close ≡ e → e ≡ next_event net m turn
unfolding next_event events takes
next_is net m turn ports sends e p q h =
    sym h ∙ ap (λ xs. get_or (event_list (ready net.queues turn.fired xs) sends) turn.part Close) p
    ∙ ap (λ ys. get_or (event_list (ready net.queues turn.fired (entrances net m)) ys) turn.part Close) q

module _ (queues : List Queue) (k : ℕ) (ports sends : List ℕ) (i left : ℕ) where
  pub take_found : i < length ports → (queue_at queues (get_or ports i 0)).lead ≤ k → left ≡ 0
      → get_or (event_list (ready queues k (drop i ports)) sends) left Close ≡ Take (get_or ports i 0)
  take_found h le e =
      ap (λ xs. get_or (event_list xs sends) left Close) (ready_in queues k ports i h le)
      ∙ ap (λ j. get_or (event_list (get_or ports i 0 ∷ ready queues k (drop (i + 1) ports)) sends) j Close) e

  pub take_passed : i < length ports → (queue_at queues (get_or ports i 0)).lead ≤ k → (left ≡ 0 → ⊥)
      → get_or (event_list (ready queues k (drop i ports)) sends) left Close ≡ get_or (event_list (ready queues k (drop (i + 1) ports)) sends) (left - 1) Close
  take_passed h le ne =
      ap (λ xs. get_or (event_list xs sends) left Close) (ready_in queues k ports i h le)
      ∙ event_further (get_or ports i 0) (ready queues k (drop (i + 1) ports)) sends left (omega arith)

  pub port_passed : i < length ports → k < (queue_at queues (get_or ports i 0)).lead
      → get_or (event_list (ready queues k (drop i ports)) sends) left Close ≡ get_or (event_list (ready queues k (drop (i + 1) ports)) sends) left Close
  port_passed h lt = ap (λ xs. get_or (event_list xs sends) left Close) (ready_out queues k ports i h lt)

  pub send_found : length ports ≤ i → left < length sends → get_or (event_list (ready queues k (drop i ports)) sends) left Close ≡ Send (get_or sends left 0)
  send_found h lt = ap (λ xs. get_or (event_list xs sends) left Close) (ready_end queues k ports i h) ∙ event_sent sends left lt

  pub close_found : length ports ≤ i → length sends ≤ left → get_or (event_list (ready queues k (drop i ports)) sends) left Close ≡ Close
  close_found h le = ap (λ xs. get_or (event_list xs sends) left Close) (ready_end queues k ports i h) ∙ event_none sends left le

-- whether a firing has taken from a queue, by what the scan shows
pub taken_is : (net : Net) (m : ℕ) (turn : Turn) (n : ℕ) (ports : List ℕ) (b : Bool) → ports ≡ entrances net m
    → list_any (nat_eq n) (take turn.part (ready net.queues turn.fired ports)) ≡ b → b ≡ list_any (nat_eq n) (taken_now net m turn)
unfolding taken_now takes
taken_is net m turn n ports b p h = sym h ∙ ap (λ xs. list_any (nat_eq n) (take turn.part (ready net.queues turn.fired xs))) p

pub none_taken : (net : Net) (m : ℕ) (turn : Turn) (n : ℕ) → turn.part ≡ 0 → false ≡ list_any (nat_eq n) (taken_now net m turn)
unfolding taken_now takes
none_taken net m turn n e = ap (λ i. list_any (nat_eq n) (take i (ready net.queues turn.fired (entrances net m)))) (sym e)

pub sent_is : (net : Net) (m : ℕ) (turn : Turn) (n : ℕ) (sends : List ℕ) (left count : ℕ) (b : Bool) → sends ≡ exits net m
    → count ≡ length (takes net m turn.fired) → left ≡ turn.part - count → list_any (nat_eq n) (take left sends) ≡ b
    → b ≡ list_any (nat_eq n) (sent_now net m turn)
unfolding sent_now
sent_is net m turn n sends left count b p q r h =
    sym h ∙ ap (λ xs. list_any (nat_eq n) (take left xs)) p ∙ ap (λ j. list_any (nat_eq n) (take j (exits net m))) (r ∙ ap (λ x. turn.part - x) q)

pub none_sent : (net : Net) (m : ℕ) (turn : Turn) (n : ℕ) → turn.part ≡ 0 → false ≡ list_any (nat_eq n) (sent_now net m turn)
unfolding sent_now
none_sent net m turn n e =
    let none : 0 ≡ turn.part - length (takes net m turn.fired) = omega arith in
    ap (λ i. list_any (nat_eq n) (take i (exits net m))) none

module _ (n : ℕ) (ns : List ℕ) (i left : ℕ) where
  pub none_left : left ≡ 0 → list_any (nat_eq n) (take left (drop i ns)) ≡ false
  none_left e = ap (λ j. list_any (nat_eq n) (take j (drop i ns))) e

  pub found_here : i < length ns → (left ≡ 0 → ⊥) → get_or ns i 0 ≡ n → list_any (nat_eq n) (take left (drop i ns)) ≡ true
  found_here h ne e =
      ap (λ xs. list_any (nat_eq n) (take left xs)) (drop_more ns i 0 h) ∙ among_further n (get_or ns i 0) (drop (i + 1) ns) left (omega arith)
      ∙ or_left _ _ (eq-eqb n _ (sym e))

  pub passed_here : i < length ns → (left ≡ 0 → ⊥) → (get_or ns i 0 ≡ n → ⊥)
      → list_any (nat_eq n) (take left (drop i ns)) ≡ list_any (nat_eq n) (take (left - 1) (drop (i + 1) ns))
  passed_here h ne other =
      ap (λ xs. list_any (nat_eq n) (take left xs)) (drop_more ns i 0 h) ∙ among_further n (get_or ns i 0) (drop (i + 1) ns) left (omega arith)
      ∙ ap (λ b. b || list_any (nat_eq n) (take (left - 1) (drop (i + 1) ns))) (ne_eqb n _ (λ e. other (sym e)))

  pub none_further : length ns ≤ i → list_any (nat_eq n) (take left (drop i ns)) ≡ false
  none_further h = ap (λ xs. list_any (nat_eq n) (take left xs)) (drop_all i ns h) ∙ ap (list_any (nat_eq n)) (nothing_taken left)

module _ (queues : List Queue) (k n : ℕ) (ports : List ℕ) (i left : ℕ) where
  abbrev pub rest : ℕ → List ℕ
  rest j = ready queues k (drop j ports)

  pub ready_none_left : left ≡ 0 → list_any (nat_eq n) (take left (rest i)) ≡ false
  ready_none_left e = ap (λ j. list_any (nat_eq n) (take j (rest i))) e

  pub ready_found : i < length ports → (queue_at queues (get_or ports i 0)).lead ≤ k → (left ≡ 0 → ⊥) → get_or ports i 0 ≡ n
      → list_any (nat_eq n) (take left (rest i)) ≡ true
  ready_found h le ne e =
      ap (λ xs. list_any (nat_eq n) (take left xs)) (ready_in queues k ports i h le) ∙ among_further n (get_or ports i 0) (rest (i + 1)) left (omega arith)
      ∙ or_left _ _ (eq-eqb n _ (sym e))

  pub ready_passed : i < length ports → (queue_at queues (get_or ports i 0)).lead ≤ k → (left ≡ 0 → ⊥) → (get_or ports i 0 ≡ n → ⊥)
      → list_any (nat_eq n) (take left (rest i)) ≡ list_any (nat_eq n) (take (left - 1) (rest (i + 1)))
  ready_passed h le ne other =
      ap (λ xs. list_any (nat_eq n) (take left xs)) (ready_in queues k ports i h le) ∙ among_further n (get_or ports i 0) (rest (i + 1)) left (omega arith)
      ∙ ap (λ b. b || list_any (nat_eq n) (take (left - 1) (rest (i + 1)))) (ne_eqb n _ (λ e. other (sym e)))

  pub unready_passed : i < length ports → k < (queue_at queues (get_or ports i 0)).lead
      → list_any (nat_eq n) (take left (rest i)) ≡ list_any (nat_eq n) (take left (rest (i + 1)))
  unready_passed h lt = ap (λ xs. list_any (nat_eq n) (take left xs)) (ready_out queues k ports i h lt)

  pub ready_none_further : length ports ≤ i → list_any (nat_eq n) (take left (rest i)) ≡ false
  ready_none_further h = ap (λ xs. list_any (nat_eq n) (take left xs)) (ready_end queues k ports i h) ∙ ap (list_any (nat_eq n)) (nothing_taken left)

pub takes_is : (net : Net) (m k : ℕ) (ports : List ℕ) → ports ≡ entrances net m → length (ready net.queues k ports) ≡ length (takes net m k)
unfolding takes
takes_is net m k ports p = ap (λ xs. length (ready net.queues k xs)) p

pub taken_by_once : (net : Net) (n : ℕ) (turn : Turn) (b : Bool) → b ≡ list_any (nat_eq n) (taken_now net (queue_at net.queues n).to turn)
    → (turn.fired - (queue_at net.queues n).lead) + cond b 1 0 ≡ taken_by net n turn
unfolding taken_by
taken_by_once net n turn b e = ap (λ c. (turn.fired - (queue_at net.queues n).lead) + cond c 1 0) e

pub sent_by_once : (net : Net) (n : ℕ) (turn : Turn) (b : Bool) → b ≡ list_any (nat_eq n) (sent_now net (queue_at net.queues n).from turn)
    → turn.fired + cond b 1 0 ≡ sent_by net n turn
unfolding sent_by
sent_by_once net n turn b e = ap (λ c. turn.fired + cond c 1 0) e

pub taken_with : (net : Net) (n : ℕ) (turn : Turn) (q : Queue) (b : Bool) → q ≡ queue_at net.queues n → b ≡ list_any (nat_eq n) (taken_now net q.to turn)
    → (turn.fired - q.lead) + cond b 1 0 ≡ taken_by net n turn
taken_with net n turn q b e =
    subst (λ (z : Queue). b ≡ list_any (nat_eq n) (taken_now net z.to turn) → (turn.fired - z.lead) + cond b 1 0 ≡ taken_by net n turn) (sym e)
    (taken_by_once net n turn b)

pub sent_with : (net : Net) (n : ℕ) (turn : Turn) (q : Queue) (b : Bool) → q ≡ queue_at net.queues n → b ≡ list_any (nat_eq n) (sent_now net q.from turn)
    → turn.fired + cond b 1 0 ≡ sent_by net n turn
sent_with net n turn q b e =
    subst (λ (z : Queue). b ≡ list_any (nat_eq n) (sent_now net z.from turn) → turn.fired + cond b 1 0 ≡ sent_by net n turn) (sym e) (sent_by_once net n turn b)

pub ready_takes : (net : Net) (m k : ℕ) (ports : List ℕ) → ports ≡ entrances net m → ready net.queues k ports ≡ takes net m k
unfolding takes
ready_takes net m k ports p = ap (ready net.queues k) p
