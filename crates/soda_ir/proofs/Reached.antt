-- What is reached in one round more, and in all.
use Rattle.std.proofs.Common.{◌≡◌, ℕ, zero, suc, ◌+◌, ◌<◌, Bool, true, false, not, ◌&&◌, ◌||◌, List, length, slice_index_or, refl, sym, ◌∙◌, ap, arith, add-one, [], if◌then◌else◌, take, drop, ◌++◌, ⊎_elim, ◌≤◌}
use Rattle.std.proofs.lemmas.Bool.{cases_lt, false≢true, or_right}
use Rattle.std.proofs.lemmas.Grind.{common_steps}
use Rattle.soda_ir.specs.Counts.{count_below, is_reached, some_below, sum_below}

pub reached_none : (r : ℕ → ℕ → Bool) (n : ℕ) (w : ℕ → Bool) (x : ℕ) → is_reached r n w 0 x ≡ w x
unfolding is_reached
reached_none r n w x = refl

pub reached_step : (r : ℕ → ℕ → Bool) (n : ℕ) (w : ℕ → Bool) (k x : ℕ) → is_reached r n w (suc k) x ≡ (is_reached r n w k x || some_below (λ y. is_reached r n w k y && r y x) n)
unfolding is_reached
reached_step r n w k x = refl

pub some_below_same : (f g : ℕ → Bool) (n : ℕ) → ((x : ℕ) → x < n → f x ≡ g x) → some_below f n ≡ some_below g n
some_below_same f g zero h = refl
some_below_same f g (suc n) h =
    ap (λ b. b || f n) (some_below_same f g n (λ x l. h x (omega arith))) ∙ ap (λ b. some_below g n || b) (h n (omega arith))

pub count_below_same : (f g : ℕ → Bool) (n : ℕ) → ((x : ℕ) → x < n → f x ≡ g x) → count_below f n ≡ count_below g n
count_below_same f g zero h = refl
count_below_same f g (suc n) h =
    ap (λ k. k + (if f n then 1 else 0)) (count_below_same f g n (λ x l. h x (omega arith))) ∙ ap (λ b. count_below g n + (if b then 1 else 0)) (h n (omega arith))

pub sum_below_same : (f g : ℕ → ℕ) (n : ℕ) → ((x : ℕ) → x < n → f x ≡ g x) → sum_below f n ≡ sum_below g n
sum_below_same f g zero h = refl
sum_below_same f g (suc n) h =
    ap (λ k. k + f n) (sum_below_same f g n (λ x l. h x (omega arith))) ∙ ap (λ k. sum_below g n + k) (h n (omega arith))

-- what is new adds as much as all of it, beside what was there
one_more : (f b r w : Bool) → ((b && r) || (f || ((w && not b) && r))) ≡ ((b && r) || (f || (w && r)))
one_more f true true w = refl
one_more f true false true = refl
one_more f true false false = refl
one_more f false r true = refl
one_more f false r false = refl

grown : (s f m b r w : Bool) → (s || f) ≡ (s || m) → ((s || (b && r)) || (f || ((w && not b) && r))) ≡ ((s || (b && r)) || (m || (w && r)))
grown true f m b r w e = refl
grown false f m b r w e = one_more f b r w ∙ ap (λ k. (b && r) || (k || (w && r))) e

pub new_is_enough : (b w r : ℕ → Bool) (n : ℕ) → (some_below (λ x. b x && r x) n || some_below (λ x. (w x && not (b x)) && r x) n) ≡ (some_below (λ x. b x && r x) n || some_below (λ x. w x && r x) n)
new_is_enough b w r zero = refl
new_is_enough b w r (suc n) =
    grown (some_below (λ x. b x && r x) n) (some_below (λ x. (w x && not (b x)) && r x) n) (some_below (λ x. w x && r x) n) (b n) (r n) (w n) (new_is_enough b w r n)

absorbed : (m s f g : Bool) → (s ≡ true → m ≡ true) → (s || f) ≡ (s || g) → (m || f) ≡ (m || g)
absorbed true s f g h e = refl
absorbed false true f g h e = absurd (false≢true (h refl))
absorbed false false f g h e = e

-- one round: the new marks are those that are reached by one read more, and what the old ones read is marked
pub round : (r : ℕ → ℕ → Bool) (n k : ℕ) (w : ℕ → Bool) (before marks next : List Bool) → ((y : ℕ) → y < n → slice_index_or marks y false ≡ is_reached r n w k y) → ((y : ℕ) → y < n → some_below (λ x. slice_index_or before x false && r x y) n ≡ true → slice_index_or marks y false ≡ true) → ((y : ℕ) → y < n → slice_index_or next y false ≡ (slice_index_or marks y false || some_below (λ x. (slice_index_or marks x false && not (slice_index_or before x false)) && r x y) n)) → (y : ℕ) → y < n → slice_index_or next y false ≡ is_reached r n w (k + 1) y
round r n k w before marks next here behind step y l =
    let m : ℕ → Bool = λ x. slice_index_or marks x false in
    let b : ℕ → Bool = λ x. slice_index_or before x false in
    step y l
    ∙ absorbed (m y) (some_below (λ x. b x && r x y) n) (some_below (λ x. (m x && not (b x)) && r x y) n) (some_below (λ x. m x && r x y) n) (behind y l) (new_is_enough b m (λ x. r x y) n)
    ∙ ap (λ c. m y || c) (some_below_same (λ x. m x && r x y) (λ x. is_reached r n w k x && r x y) n (λ x h. ap (λ c. c && r x y) (here x h)))
    ∙ ap (λ c. c || some_below (λ x. is_reached r n w k x && r x y) n) (here y l)
    ∙ sym (reached_step r n w k y)
    ∙ sym (ap (λ j. is_reached r n w j y) (add-one k))

pub round_behind : (r : ℕ → ℕ → Bool) (n : ℕ) (before marks next : List Bool) → ((y : ℕ) → y < n → some_below (λ x. slice_index_or before x false && r x y) n ≡ true → slice_index_or marks y false ≡ true) → ((y : ℕ) → y < n → slice_index_or next y false ≡ (slice_index_or marks y false || some_below (λ x. (slice_index_or marks x false && not (slice_index_or before x false)) && r x y) n)) → (y : ℕ) → y < n → some_below (λ x. slice_index_or marks x false && r x y) n ≡ true → slice_index_or next y false ≡ true
round_behind r n before marks next behind step y l e =
    let m : ℕ → Bool = λ x. slice_index_or marks x false in
    let b : ℕ → Bool = λ x. slice_index_or before x false in
    step y l
    ∙ absorbed (m y) (some_below (λ x. b x && r x y) n) (some_below (λ x. (m x && not (b x)) && r x y) n) (some_below (λ x. m x && r x y) n) (behind y l) (new_is_enough b m (λ x. r x y) n)
    ∙ or_right (m y) (some_below (λ x. m x && r x y) n) e

none_before : (r : ℕ → ℕ → Bool) (n m y : ℕ) → some_below (λ x. slice_index_or [] x false && r x y) m ≡ false
none_before r n zero y = refl
none_before r n (suc m) y = ap (λ b. b || false) (none_before r n m y)

-- where nothing was marked before
pub behind_none : (r : ℕ → ℕ → Bool) (n y : ℕ) (before : List Bool) (b : Bool) → before ≡ [] → some_below (λ x. slice_index_or before x false && r x y) n ≡ true → b ≡ true
behind_none r n y before b h e =
    absurd (false≢true (sym (none_before r n n y) ∙ sym (ap (λ (xs : List Bool). some_below (λ x. slice_index_or xs x false && r x y) n) h) ∙ e))

-- what is marked next, said of the marks that are lent
pub lent : (r : ℕ → ℕ → Bool) (n : ℕ) (before before' marks marks' next : List Bool) → before' ≡ before → marks' ≡ marks → length marks ≡ n → ((y : ℕ) → y < length marks' → slice_index_or next y false ≡ (slice_index_or marks' y false || some_below (λ x. (slice_index_or marks' x false && not (slice_index_or before' x false)) && r x y) n)) → (y : ℕ) → y < n → slice_index_or next y false ≡ (slice_index_or marks y false || some_below (λ x. (slice_index_or marks x false && not (slice_index_or before x false)) && r x y) n)
lent r n before before' marks marks' next e d m step y l =
    let long : length marks' ≡ length marks = ap length d in
    step y (omega arith)
    ∙ ap (λ (ms : List Bool). slice_index_or ms y false || some_below (λ x. (slice_index_or ms x false && not (slice_index_or before' x false)) && r x y) n) d
    ∙ ap (λ (bs : List Bool). slice_index_or marks y false || some_below (λ x. (slice_index_or marks x false && not (slice_index_or bs x false)) && r x y) n) e

-- a list that is written back in place of one as long
pub written_back : (m items : List Bool) (len : ℕ) → length m ≡ length items → len ≡ length items → take len (m ++ drop (length m) items) ≡ m
written_back m items len h k = grind (arith, common_steps)

-- after a round that reaches nothing more none does
reached_still : (r : ℕ → ℕ → Bool) (n : ℕ) (w : ℕ → Bool) (k : ℕ) → ((y : ℕ) → y < n → is_reached r n w (k + 1) y ≡ is_reached r n w k y) → (m : ℕ) → k ≤ m → (y : ℕ) → y < n → is_reached r n w m y ≡ is_reached r n w k y
reached_still r n w k h zero l y b =
    let e : 0 ≡ k = omega arith in
    ap (λ j. is_reached r n w j y) e
reached_still r n w k h (suc m) l y b =
    ⊎_elim (λ (i : m < k). let e : suc m ≡ k = omega arith in ap (λ j. is_reached r n w j y) e) (λ (i : k ≤ m). reached_step r n w m y
    ∙ ap (λ c. c || some_below (λ z. is_reached r n w m z && r z y) n) (reached_still r n w k h m i y b)
    ∙ ap (λ c. is_reached r n w k y || c) (some_below_same (λ z. is_reached r n w m z && r z y) (λ z. is_reached r n w k z && r z y) n (λ z d. ap (λ c. c && r z y) (reached_still r n w k h m i z d)))
    ∙ sym (reached_step r n w k y)
    ∙ sym (ap (λ j. is_reached r n w j y) (add-one k))
    ∙ h y b) (cases_lt m k)

-- a round that changes no mark is the last
pub last_reached : (r : ℕ → ℕ → Bool) (n k : ℕ) (w : ℕ → Bool) (marks next : List Bool) → k ≤ n → next ≡ marks → ((y : ℕ) → y < n → slice_index_or marks y false ≡ is_reached r n w k y) → ((y : ℕ) → y < n → slice_index_or next y false ≡ is_reached r n w (k + 1) y) → (y : ℕ) → y < n → slice_index_or next y false ≡ is_reached r n w n y
last_reached r n k w marks next l e was is y b =
    ap (λ xs. slice_index_or xs y false) e
    ∙ was y b
    ∙ sym (reached_still r n w k (λ z d. sym (is z d) ∙ ap (λ xs. slice_index_or xs z false) e ∙ was z d) n l y b)
