-- Lists no two elements of which are related otherwise.
use Rattle.std.proofs.Common.{ℕ, zero, suc, ◌<◌, ◌≤◌, List, [], ◌∷◌, ◌++◌, length, get_or, arith}
use Rattle.std.specs.List.{All}
use Rattle.std.proofs.lemmas.Bool.{cond_both}
use Rattle.std.proofs.lemmas.List.Elements.{All-append, All-cons, All-head, All-nil, All-tail}
use Rattle.net_ir.specs.declared.network.Queue.{Queue}
use Rattle.net_shape.specs.Lists.{joined}
use Rattle.net_shape.specs.Queues.{by_receiver, goes_before, put_queue}
use Rattle.net_shape.proofs.Feeds.{all-by_receiver, all-joined}
use Rattle.net_shape.proofs.Placed.{Counted}

pub all-put_queue : (P : Queue → Type 0) (a : Queue) (bs : List Queue) → P a → All P bs → All P (put_queue a bs)
all-put_queue P a [] h k = All-cons P a [] h k
all-put_queue P a (b ∷ bs) h k =
    cond_both (goes_before a b) (a ∷ b ∷ bs) (b ∷ put_queue a bs) (All P) (λ _. All-cons P a (b ∷ bs) h k)
    (λ _. All-cons P b (put_queue a bs) (All-head P b bs k) (all-put_queue P a bs h (All-tail P b bs k)))

module _ {A : Type 0} (K : A → A → Type 0) where
  -- each element is so related to all later ones
  abbrev pub Apart : List A → Type 0
  Apart [] = Unit {0}
  Apart (x ∷ xs) = All (K x) xs × Apart xs

  pub apart-append : (xs ys : List A) → Apart xs → Apart ys → All (λ x. All (K x) ys) xs → Apart (xs ++ ys)
  apart-append [] ys h k c = k
  apart-append (x ∷ xs) ys h k c =
      (All-append (K x) xs ys h.0 (All-head (λ z. All (K z) ys) x xs c), apart-append xs ys h.1 k (All-tail (λ z. All (K z) ys) x xs c))

  pub apart-joined : (f : ℕ → List A) (n : ℕ) → ((i : ℕ) → i < n → Apart (f i)) → ((i j : ℕ) → i < j → j < n → All (λ x. All (K x) (f j)) (f i)) → Apart (joined f n)
  unfolding joined
  apart-joined f zero h c = tt
  apart-joined f (suc n) h c =
      apart-append (joined f n) (f n) (apart-joined f n (λ i lt. h i (omega arith)) (λ i j lt below. c i j lt (omega arith))) (h n (omega arith))
      (all-joined (λ x. All (K x) (f n)) f n (λ i lt. c i n lt (omega arith)))

  pub apart_at : (xs : List A) (i j : ℕ) (d : A) → Apart xs → i < j → j < length xs → K (get_or xs i d) (get_or xs j d)
  apart_at [] i j d h lt below = absurd (omega arith)
  apart_at (x ∷ xs) zero zero d h lt below = absurd (omega arith)
  apart_at (x ∷ xs) zero (suc j) d h lt below = h.0 j d (omega arith)
  apart_at (x ∷ xs) (suc i) zero d h lt below = absurd (omega arith)
  apart_at (x ∷ xs) (suc i) (suc j) d h lt below = apart_at xs i j d h.1 (omega arith) (omega arith)

module _ (K : Queue → Queue → Type 0) (back : (a b : Queue) → K a b → K b a) where
  apart-put : (a : Queue) (bs : List Queue) → All (K a) bs → Apart K bs → Apart K (put_queue a bs)
  apart-put a [] h k = (All-nil (K a), tt)
  apart-put a (b ∷ bs) h k =
      cond_both (goes_before a b) (a ∷ b ∷ bs) (b ∷ put_queue a bs) (Apart K) (λ _. (h, k))
      (λ _. (all-put_queue (K b) a bs (back a b (All-head (K a) b bs h)) k.0, apart-put a bs (All-tail (K a) b bs h) k.1))

  pub apart-by_receiver : (qs : List Queue) → Apart K qs → Apart K (by_receiver qs)
  apart-by_receiver [] h = tt
  apart-by_receiver (q ∷ qs) h = apart-put q (by_receiver qs) (all-by_receiver (K q) qs h.0) (apart-by_receiver qs h.1)

pub counted_later : {A : Type 0} (P : A → Type 0) (g : A → ℕ) (b : ℕ) (xs : List A) → Counted P g b xs → All (λ x. P x × (b ≤ g x)) xs
counted_later P g b [] h = All-nil (λ x. P x × (b ≤ g x))
counted_later P g b (x ∷ xs) h =
    All-cons (λ y. P y × (b ≤ g y)) x xs (h.0.0, omega (arith, h.0.1))
    (λ k d lt. let r = counted_later P g (suc b) xs h.1 k d lt in (r.0, omega (arith, r.1)))
