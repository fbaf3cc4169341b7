-- What sending a unit along an arc changes.
use Rattle.std.proofs.Common.{◌≡◌, ◌≢◌, ℕ, zero, suc, ◌+◌, ◌*◌, ◌-◌, ◌/◌, ◌%◌, ◌<◌, ◌≤◌, Bool, true, false, cond, eqb, ltb, List, [], ◌∷◌, length, get_or, set, drop, length-set, get_or-set_other, refl, subst, sym, ◌∙◌, ap, arith, pos, ◌+ℤ◌, neg_ℤ}
use Rattle.std.proofs.lemmas.Int.{ints}
use Rattle.std.specs.List.{All}
use Rattle.std.proofs.lemmas.List.{drop_more, drop_all}
use Rattle.std.proofs.lemmas.Bool.Decides.{nat_tests}
use Rattle.delay_net.specs.Shape.{IsInOrder}
use Rattle.delay_net.specs.Certificate.{value_of}
use Rattle.delay_net.specs.declared.net.Read.{Read}
use Rattle.flow_solve.specs.declared.arc.Arc.{Arc}
use Rattle.flow_solve.specs.Walk.{arc_at, IsWalk, walk_length}
use Rattle.flow_solve.specs.machine.Residual.{residual, window_arc, storage_arc, window_back, storage_back, loop_at}
use Rattle.flow_solve.specs.machine.Conserve.{NoRepeat, CarriesUnit, comes_in, goes_out, node_potential, need_after, hold_after, Moves}
use Rattle.flow_solve.proofs.TraceLemmas.{arc_in_walk}
use Rattle.flow_solve.proofs.PlanLemmas.{residual_length}
use Rattle.flow_solve.proofs.ConserveLemmas.{weighed_raised, weighed_lowered, offsets_raised, offsets_lowered}

-- the four arcs of a read
abbrev pub arc_of : ℕ → Read → ℕ → ℕ → ℕ → Arc
arc_of n r h m zero = window_arc r
arc_of n r h m (suc zero) = storage_arc n r
arc_of n r h m (suc (suc zero)) = window_back r m
arc_of n r h m (suc (suc (suc j))) = storage_back n r h

pub residual_at : (n : ℕ) (reads : List Read) (hold need : List ℕ) (i j : ℕ) (d : Read) → i < length reads → length hold ≡ length reads
    → length need ≡ length reads → j < 4
    → arc_at (residual n reads hold need) (4 * i + j) ≡ arc_of n (get_or reads i d) (get_or hold i 0) (get_or need i 0) j
unfolding residual
residual_at n [] hold need i j d lt e f below = absurd (omega arith)
residual_at n (r ∷ reads) [] need i j d lt e f below = absurd (omega arith)
residual_at n (r ∷ reads) (h ∷ hold) [] i j d lt e f below = absurd (omega arith)
residual_at n (r ∷ reads) (h ∷ hold) (m ∷ need) zero zero d lt e f below = refl
residual_at n (r ∷ reads) (h ∷ hold) (m ∷ need) zero (suc zero) d lt e f below = refl
residual_at n (r ∷ reads) (h ∷ hold) (m ∷ need) zero (suc (suc zero)) d lt e f below = refl
residual_at n (r ∷ reads) (h ∷ hold) (m ∷ need) zero (suc (suc (suc zero))) d lt e f below = refl
residual_at n (r ∷ reads) (h ∷ hold) (m ∷ need) zero (suc (suc (suc (suc j)))) d lt e f below = absurd (omega arith)
residual_at n (r ∷ reads) (h ∷ hold) (m ∷ need) (suc i) j d lt e f below =
    let place : suc (suc (suc (suc (4 * i + j)))) ≡ 4 * suc i + j = omega arith in
    ap (arc_at (residual n (r ∷ reads) (h ∷ hold) (m ∷ need))) (sym place) ∙ residual_at n reads hold need i j d (omega arith) (omega arith) (omega arith) below

delay_node : (n : ℕ) (e s : ℕ → ℕ) (t : ℕ) → t < n → node_potential n e s t ≡ e t
delay_node n e s t lt =
    let below : ltb t n ≡ true = grind (arith, nat_tests) in ap (λ b. cond b (e t) (s (t - n))) below

storage_node : (n : ℕ) (e s : ℕ → ℕ) (t : ℕ) → node_potential n e s (n + t) ≡ s t
storage_node n e s t =
    let above : ltb (n + t) n ≡ false = grind (arith, nat_tests) in
    let place : (n + t) - n ≡ t = omega arith in
    ap (λ b. cond b (e (n + t)) (s ((n + t) - n))) above ∙ ap s place

raised_up : (xs : List ℕ) (i j : ℕ) → get_or (set xs i (get_or xs i 0 + 1)) j 0 ≤ get_or xs j 0 + 1
raised_up [] i j = omega arith
raised_up (x ∷ xs) zero zero = omega arith
raised_up (x ∷ xs) zero (suc j) = omega arith
raised_up (x ∷ xs) (suc i) zero = omega arith
raised_up (x ∷ xs) (suc i) (suc j) = raised_up xs i j

lowered_up : (xs : List ℕ) (i j : ℕ) → get_or (set xs i (get_or xs i 0 - 1)) j 0 ≤ get_or xs j 0 + 1
lowered_up [] i j = omega arith
lowered_up (x ∷ xs) zero zero = omega arith
lowered_up (x ∷ xs) zero (suc j) = omega arith
lowered_up (x ∷ xs) (suc i) zero = omega arith
lowered_up (x ∷ xs) (suc i) (suc j) = lowered_up xs i j

module_d : Read
module_d = record { reader = 0; of = 0; offset = pos 0 }

-- nothing goes along a loop
stays : (weights : List ℕ) (reads : List Read) (hold need : List ℕ) (v : ℕ) → Moves weights reads hold need hold need (loop_at v)
stays weights reads hold need v = record {
  hold_size = refl;
  need_size = refl;
  conserves = λ e s. omega arith;
  value = omega (arith, ints);
  hold_up = λ i. omega arith;
  need_up = λ i. omega arith;
}

raise_need : (weights : List ℕ) (reads : List Read) (hold need : List ℕ) (i : ℕ) (d : Read) → i < length reads → i < length need
    → IsInOrder weights (get_or reads i d)
    → Moves weights reads hold need hold (set need i (get_or need i 0 + 1)) (window_arc (get_or reads i d))
raise_need weights reads hold need i d lt lt' order = record {
  hold_size = refl;
  need_size = length-set need i _;
  conserves = λ e s. omega (
    arith,
    weighed_raised (λ r. e r.reader) reads need i d lt lt',
    weighed_raised (λ r. e r.of) reads need i d lt lt',
    delay_node (length weights) e s (get_or reads i d).of (omega (arith, order.0, order.1)),
    delay_node (length weights) e s (get_or reads i d).reader order.1,
  );
  value = omega (arith, ints, offsets_raised reads need i d lt lt');
  hold_up = λ j. omega arith;
  need_up = raised_up need i;
}

lower_need : (weights : List ℕ) (reads : List Read) (hold need : List ℕ) (i : ℕ) (d : Read) → i < length reads → i < length need → 0 < get_or need i 0
    → IsInOrder weights (get_or reads i d)
    → Moves weights reads hold need hold (set need i (get_or need i 0 - 1))
    (record { from = (get_or reads i d).reader; to = (get_or reads i d).of; length = neg_ℤ (get_or reads i d).offset })
lower_need weights reads hold need i d lt lt' some order = record {
  hold_size = refl;
  need_size = length-set need i _;
  conserves = λ e s. omega (
    arith,
    weighed_lowered (λ r. e r.reader) reads need i d lt lt' some,
    weighed_lowered (λ r. e r.of) reads need i d lt lt' some,
    delay_node (length weights) e s (get_or reads i d).of (omega (arith, order.0, order.1)),
    delay_node (length weights) e s (get_or reads i d).reader order.1,
  );
  value = omega (arith, ints, offsets_lowered reads need i d lt lt' some);
  hold_up = λ j. omega arith;
  need_up = lowered_up need i;
}

raise_hold : (weights : List ℕ) (reads : List Read) (hold need : List ℕ) (i : ℕ) (d : Read) → i < length reads → i < length hold
    → IsInOrder weights (get_or reads i d)
    → Moves weights reads hold need (set hold i (get_or hold i 0 + 1)) need (storage_arc (length weights) (get_or reads i d))
raise_hold weights reads hold need i d lt lt' order = record {
  hold_size = length-set hold i _;
  need_size = refl;
  conserves = λ e s. omega (
    arith,
    weighed_raised (λ r. e r.reader) reads hold i d lt lt',
    weighed_raised (λ r. s r.of) reads hold i d lt lt',
    storage_node (length weights) e s (get_or reads i d).of,
    delay_node (length weights) e s (get_or reads i d).reader order.1,
  );
  value = omega (arith, ints, offsets_raised reads hold i d lt lt');
  hold_up = raised_up hold i;
  need_up = λ j. omega arith;
}

lower_hold : (weights : List ℕ) (reads : List Read) (hold need : List ℕ) (i : ℕ) (d : Read) → i < length reads → i < length hold → 0 < get_or hold i 0
    → IsInOrder weights (get_or reads i d)
    → Moves weights reads hold need (set hold i (get_or hold i 0 - 1)) need
    (record { from = length weights + (get_or reads i d).of; to = (get_or reads i d).reader; length = (get_or reads i d).offset })
lower_hold weights reads hold need i d lt lt' some order = record {
  hold_size = length-set hold i _;
  need_size = refl;
  conserves = λ e s. omega (
    arith,
    weighed_lowered (λ r. e r.reader) reads hold i d lt lt' some,
    weighed_lowered (λ r. s r.of) reads hold i d lt lt' some,
    storage_node (length weights) e s (get_or reads i d).of,
    delay_node (length weights) e s (get_or reads i d).reader order.1,
  );
  value = omega (arith, ints, offsets_lowered reads hold i d lt lt' some);
  hold_up = lowered_up hold i;
  need_up = λ j. omega arith;
}

abbrev Sends : List ℕ → List Read → List ℕ → List ℕ → ℕ → ℕ → Arc → Bool → Type 0
Sends weights reads hold need j i arc looped = Moves weights reads hold need (hold_after looped j i hold) (need_after looped j i need) arc

-- what sending along an arc of a read does
send_kind : (weights : List ℕ) (reads : List Read) (hold need : List ℕ) (i j h m : ℕ) (d : Read) → i < length reads → i < length hold → i < length need → j < 4
    → IsInOrder weights (get_or reads i d)
    → ((arc_of (length weights) (get_or reads i d) h m j).from ≢ (arc_of (length weights) (get_or reads i d) h m j).to → j ≡ 2 → 0 < get_or need i 0)
    → ((arc_of (length weights) (get_or reads i d) h m j).from ≢ (arc_of (length weights) (get_or reads i d) h m j).to → j ≡ 3 → 0 < get_or hold i 0)
    → Sends weights reads hold need j i (arc_of (length weights) (get_or reads i d) h m j)
    (eqb (arc_of (length weights) (get_or reads i d) h m j).from (arc_of (length weights) (get_or reads i d) h m j).to)
send_kind weights reads hold need i zero h m d lt lh ln below order needed held =
    let r = get_or reads i d in
    let open_arc : eqb r.of r.reader ≡ false = grind (arith, nat_tests) in
    subst (Sends weights reads hold need 0 i (window_arc r)) (sym open_arc) (raise_need weights reads hold need i d lt ln order)
send_kind weights reads hold need i (suc zero) h m d lt lh ln below order needed held =
    let r = get_or reads i d in
    let open_arc : eqb r.reader (length weights + r.of) ≡ false = grind (arith, nat_tests) in
    subst (Sends weights reads hold need 1 i (storage_arc (length weights) r)) (sym open_arc) (raise_hold weights reads hold need i d lt lh order)
send_kind weights reads hold need i (suc (suc zero)) h zero d lt lh ln below order needed held =
    let r = get_or reads i d in
    let closed : eqb r.reader r.reader ≡ true = grind (arith, nat_tests) in
    subst (Sends weights reads hold need 2 i (loop_at r.reader)) (sym closed) (stays weights reads hold need r.reader)
send_kind weights reads hold need i (suc (suc zero)) h (suc m) d lt lh ln below order needed held =
    let r = get_or reads i d in
    let open_arc : eqb r.reader r.of ≡ false = grind (arith, nat_tests) in
    subst (Sends weights reads hold need 2 i (window_back r (suc m))) (sym open_arc)
    (lower_need weights reads hold need i d lt ln (needed (λ e. omega (arith, e, order.0)) refl) order)
send_kind weights reads hold need i (suc (suc (suc zero))) zero m d lt lh ln below order needed held =
    let r = get_or reads i d in
    let closed : eqb r.reader r.reader ≡ true = grind (arith, nat_tests) in
    subst (Sends weights reads hold need 3 i (loop_at r.reader)) (sym closed) (stays weights reads hold need r.reader)
send_kind weights reads hold need i (suc (suc (suc zero))) (suc h) m d lt lh ln below order needed held =
    let r = get_or reads i d in
    let open_arc : eqb (length weights + r.of) r.reader ≡ false = grind (arith, nat_tests) in
    subst (Sends weights reads hold need 3 i (storage_back (length weights) r (suc h))) (sym open_arc)
    (lower_hold weights reads hold need i d lt lh (held (λ e. omega (arith, e, order.1)) refl) order)
send_kind weights reads hold need i (suc (suc (suc (suc j)))) h m d lt lh ln below order needed held = absurd (omega arith)

-- what sending along an arc with a number does
pub send_is : (weights : List ℕ) (reads : List Read) (hold0 need0 hold need : List ℕ) (number : ℕ) (d : Read) → number / 4 < length reads
    → length hold0 ≡ length reads → length need0 ≡ length reads → length hold ≡ length reads → length need ≡ length reads
    → IsInOrder weights (get_or reads (number / 4) d)
    → ((arc_at (residual (length weights) reads hold0 need0) number).from ≢ (arc_at (residual (length weights) reads hold0 need0) number).to → number % 4 ≡ 2
    → 0 < get_or need (number / 4) 0)
    → ((arc_at (residual (length weights) reads hold0 need0) number).from ≢ (arc_at (residual (length weights) reads hold0 need0) number).to → number % 4 ≡ 3
    → 0 < get_or hold (number / 4) 0)
    → Sends weights reads hold need (number % 4) (number / 4) (arc_at (residual (length weights) reads hold0 need0) number)
    (eqb (arc_at (residual (length weights) reads hold0 need0) number).from (arc_at (residual (length weights) reads hold0 need0) number).to)
send_is weights reads hold0 need0 hold need number d lt e f e' f' order needed held =
    let i = number / 4 in
    let j = number % 4 in
    let below : j < 4 = omega arith in
    let place : 4 * i + j ≡ number = omega arith in
    let arc_is : arc_of (length weights) (get_or reads i d) (get_or hold0 i 0) (get_or need0 i 0) j
    ≡ arc_at (residual (length weights) reads hold0 need0) number =
    sym (residual_at (length weights) reads hold0 need0 i j d lt e f below) ∙ ap (arc_at (residual (length weights) reads hold0 need0)) place in
    subst (λ (a : Arc). Sends weights reads hold need j i a (eqb a.from a.to)) arc_is
    (send_kind weights reads hold need i j (get_or hold0 i 0) (get_or need0 i 0) d lt (omega arith) (omega arith) below order
    (λ open_arc kind. needed (λ same. open_arc (ap (λ (a : Arc). a.from) arc_is ∙ same ∙ sym (ap (λ (a : Arc). a.to) arc_is))) kind)
    (λ open_arc kind. held (λ same. open_arc (ap (λ (a : Arc). a.from) arc_is ∙ same ∙ sym (ap (λ (a : Arc). a.to) arc_is))) kind))

-- a needed window back had a need
pub back_needed : (n : ℕ) (reads : List Read) (hold need : List ℕ) (number : ℕ) (d : Read) → number / 4 < length reads → length hold ≡ length reads
    → length need ≡ length reads → number % 4 ≡ 2
    → (arc_at (residual n reads hold need) number).from ≢ (arc_at (residual n reads hold need) number).to → 0 < get_or need (number / 4) 0
back_needed n reads hold need number d lt e f kind open_arc =
    let i = number / 4 in
    let place : 4 * i + 2 ≡ number = omega arith in
    let arc_is = residual_at n reads hold need i 2 d lt e f (omega arith) in
    by_need (get_or need i 0) (subst (λ (a : Arc). a.from ≢ a.to) (sym (ap (arc_at (residual n reads hold need)) place) ∙ arc_is) open_arc)
  where
    by_need : (m : ℕ) → (window_back (get_or reads (number / 4) d) m).from ≢ (window_back (get_or reads (number / 4) d) m).to → 0 < m
    by_need zero h = absurd (h refl)
    by_need (suc m) h = omega arith

pub back_held : (n : ℕ) (reads : List Read) (hold need : List ℕ) (number : ℕ) (d : Read) → number / 4 < length reads → length hold ≡ length reads
    → length need ≡ length reads → number % 4 ≡ 3
    → (arc_at (residual n reads hold need) number).from ≢ (arc_at (residual n reads hold need) number).to → 0 < get_or hold (number / 4) 0
back_held n reads hold need number d lt e f kind open_arc =
    let i = number / 4 in
    let place : 4 * i + 3 ≡ number = omega arith in
    let arc_is = residual_at n reads hold need i 3 d lt e f (omega arith) in
    by_hold (get_or hold i 0) (subst (λ (a : Arc). a.from ≢ a.to) (sym (ap (arc_at (residual n reads hold need)) place) ∙ arc_is) open_arc)
  where
    by_hold : (h : ℕ) → (storage_back n (get_or reads (number / 4) d) h).from ≢ (storage_back n (get_or reads (number / 4) d) h).to → 0 < h
    by_hold zero h = absurd (h refl)
    by_hold (suc m) h = omega arith

raised_kept : (xs : List ℕ) (i k : ℕ) → get_or xs k 0 ≤ get_or (set xs i (get_or xs i 0 + 1)) k 0
raised_kept [] i k = omega arith
raised_kept (x ∷ xs) zero zero = omega arith
raised_kept (x ∷ xs) zero (suc k) = omega arith
raised_kept (x ∷ xs) (suc i) zero = omega arith
raised_kept (x ∷ xs) (suc i) (suc k) = raised_kept xs i k

kept : (looped up down : Bool) (xs : List ℕ) (i k : ℕ) → (down ≡ true → i ≢ k) → 0 < get_or xs k 0
    → 0 < get_or (cond looped xs (cond up (set xs i (get_or xs i 0 + 1)) (cond down (set xs i (get_or xs i 0 - 1)) xs))) k 0
kept true up down xs i k apart some = some
kept false true down xs i k apart some = omega (arith, raised_kept xs i k)
kept false false true xs i k apart some = omega (arith, get_or-set_other xs i k (get_or xs i 0 - 1) 0 (λ e. apart refl (sym e)))
kept false false false xs i k apart some = some

same_number : (number other j : ℕ) → eqb (number % 4) j ≡ true → other % 4 ≡ j → number / 4 ≡ other / 4 → number ≡ other
same_number number other j e f g =
    let kind : number % 4 ≡ j = grind (arith, nat_tests) in omega arith

-- a number that another arc doesn't lower stays
pub need_kept : (looped : Bool) (number other : ℕ) (need : List ℕ) → number ≢ other → other % 4 ≡ 2 → 0 < get_or need (other / 4) 0
    → 0 < get_or (need_after looped (number % 4) (number / 4) need) (other / 4) 0
need_kept looped number other need apart kind some =
    kept looped (eqb (number % 4) 0) (eqb (number % 4) 2) need (number / 4) (other / 4) (λ down same. apart (same_number number other 2 down kind same)) some

pub hold_kept : (looped : Bool) (number other : ℕ) (hold : List ℕ) → number ≢ other → other % 4 ≡ 3 → 0 < get_or hold (other / 4) 0
    → 0 < get_or (hold_after looped (number % 4) (number / 4) hold) (other / 4) 0
hold_kept looped number other hold apart kind some =
    kept looped (eqb (number % 4) 1) (eqb (number % 4) 3) hold (number / 4) (other / 4) (λ down same. apart (same_number number other 3 down kind same)) some

-- the certificate while units go along the first arcs of a walk
pub record Pushed (weights : List ℕ) (reads : List Read) (hold0 need0 : List ℕ) (walk : List ℕ) (start : ℕ) (n : ℕ) (hold need : List ℕ) : Type 0 where
  pub hold_size : length hold ≡ length reads
  pub need_size : length need ≡ length reads
  pub node : ℕ
  pub rest : IsWalk (residual (length weights) reads hold0 need0) node (drop n walk) start
  pub carries : CarriesUnit weights reads hold need start node
  pub value : value_of reads hold need +ℤ walk_length (residual (length weights) reads hold0 need0) (drop n walk)
      ≡ value_of reads hold0 need0 +ℤ walk_length (residual (length weights) reads hold0 need0) walk
  pub hold_up : (i : ℕ) → get_or hold i 0 ≤ get_or hold0 i 0 + n
  pub need_up : (i : ℕ) → get_or need i 0 ≤ get_or need0 i 0 + n
  pub needed : (q : ℕ) → n ≤ q → q < length walk → (arc_at (residual (length weights) reads hold0 need0) (get_or walk q 0)).from ≢
      (arc_at (residual (length weights) reads hold0 need0) (get_or walk q 0)).to
      → get_or walk q 0 % 4 ≡ 2 → 0 < get_or need (get_or walk q 0 / 4) 0
  pub held : (q : ℕ) → n ≤ q → q < length walk → (arc_at (residual (length weights) reads hold0 need0) (get_or walk q 0)).from ≢
      (arc_at (residual (length weights) reads hold0 need0) (get_or walk q 0)).to
      → get_or walk q 0 % 4 ≡ 3 → 0 < get_or hold (get_or walk q 0 / 4) 0

pub pushed_start : (weights : List ℕ) (reads : List Read) (hold need : List ℕ) (walk : List ℕ) (start : ℕ) → length hold ≡ length reads
    → length need ≡ length reads
    → IsWalk (residual (length weights) reads hold need) start walk start
    → ((e s : ℕ → ℕ) → comes_in weights reads hold need e s ≡ goes_out weights reads hold need e s)
    → ((q : ℕ) → q < length walk → get_or walk q 0 / 4 < length reads)
    → Pushed weights reads hold need walk start 0 hold need
pushed_start weights reads hold need walk start e f w keeps in_range = record {
  hold_size = e;
  need_size = f;
  node = start;
  rest = w;
  carries = λ p s. omega (arith, keeps p s);
  value = refl;
  hold_up = λ i. omega arith;
  need_up = λ i. omega arith;
  needed = λ q _ lt open_arc kind. back_needed (length weights) reads hold need (get_or walk q 0) module_d (in_range q lt) e f kind open_arc;
  held = λ q _ lt open_arc kind. back_held (length weights) reads hold need (get_or walk q 0) module_d (in_range q lt) e f kind open_arc;
}

pub pushed_more : (weights : List ℕ) (reads : List Read) (hold0 need0 : List ℕ) (walk : List ℕ) (start n : ℕ) (hold need : List ℕ)
    → All (IsInOrder weights) reads → length hold0 ≡ length reads → length need0 ≡ length reads
    → NoRepeat walk → n < length walk → get_or walk n 0 / 4 < length reads → Pushed weights reads hold0 need0 walk start n hold need
    → Pushed weights reads hold0 need0 walk start (n + 1)
    (hold_after (eqb (arc_at (residual (length weights) reads hold0 need0) (get_or walk n 0)).from
    (arc_at (residual (length weights) reads hold0 need0) (get_or walk n 0)).to) (get_or walk n 0 % 4) (get_or walk n 0 / 4) hold)
    (need_after (eqb (arc_at (residual (length weights) reads hold0 need0) (get_or walk n 0)).from
    (arc_at (residual (length weights) reads hold0 need0) (get_or walk n 0)).to) (get_or walk n 0 % 4) (get_or walk n 0 / 4) need)
pushed_more weights reads hold0 need0 walk start n hold need order e f once lt place p =
    let graph = residual (length weights) reads hold0 need0 in
    let number = get_or walk n 0 in
    let arc = arc_at graph number in
    let step : IsWalk graph p.node (number ∷ drop (n + 1) walk) start = subst (λ l. IsWalk graph p.node l start) (drop_more walk n 0 lt) p.rest in
    let moves = send_is weights reads hold0 need0 hold need number module_d place e f p.hold_size p.need_size (order (number / 4) module_d place)
    (p.needed n (omega arith) lt) (p.held n (omega arith) lt) in
    let length_is : walk_length graph (drop n walk) ≡ arc.length +ℤ walk_length graph (drop (n + 1) walk) = ap (walk_length graph) (drop_more walk n 0 lt) in
    record {
      hold_size = moves.hold_size ∙ p.hold_size;
      need_size = moves.need_size ∙ p.need_size;
      node = arc.to;
      rest = step.2;
      carries = λ a s.
          let from_is : node_potential (length weights) a s arc.from
          ≡ node_potential (length weights) a s p.node = ap (node_potential (length weights) a s) step.1 in
          omega (arith, p.carries a s, moves.conserves a s);
      value = omega (arith, ints, p.value, moves.value, length_is);
      hold_up = λ i. omega (arith, moves.hold_up i, p.hold_up i);
      need_up = λ i. omega (arith, moves.need_up i, p.need_up i);
      needed = λ q past below open_arc kind. need_kept (eqb arc.from arc.to) number (get_or walk q 0) need (once n q (omega arith) below) kind
          (p.needed q (omega arith) below open_arc kind);
      held = λ q past below open_arc kind. hold_kept (eqb arc.from arc.to) number (get_or walk q 0) hold (once n q (omega arith) below) kind
          (p.held q (omega arith) below open_arc kind);
    }

pub pushed_all : (weights : List ℕ) (reads : List Read) (hold0 need0 : List ℕ) (walk : List ℕ) (start n : ℕ) (hold need : List ℕ) → length walk ≤ n
    → Pushed weights reads hold0 need0 walk start n hold need
    → ((a s : ℕ → ℕ) → comes_in weights reads hold need a s ≡ goes_out weights reads hold need a s)
    × (value_of reads hold need ≡ value_of reads hold0 need0 +ℤ walk_length (residual (length weights) reads hold0 need0) walk)
pushed_all weights reads hold0 need0 walk start n hold need past p =
    let graph = residual (length weights) reads hold0 need0 in
    let none : drop n walk ≡ [] = drop_all n walk past in
    let closed : p.node ≡ start = subst (λ l. IsWalk graph p.node l start) none p.rest in
    let rest : walk_length graph (drop n walk) ≡ pos 0 = ap (walk_length graph) none in (
      λ a s. let back : node_potential (length weights) a s p.node ≡ node_potential (length weights) a s start = ap (node_potential (length weights) a s) closed
          in omega (arith, p.carries a s),
      omega (arith, ints, p.value, rest),
    )

pub walk_reads : (n : ℕ) (reads : List Read) (hold need : List ℕ) (start : ℕ) (walk : List ℕ) → IsWalk (residual n reads hold need) start walk start
    → (q : ℕ) → q < length walk → get_or walk q 0 / 4 < length reads
walk_reads n reads hold need start walk w = λ q lt.
    omega (arith, arc_in_walk (residual n reads hold need) start start q walk w lt, residual_length n reads hold need)
