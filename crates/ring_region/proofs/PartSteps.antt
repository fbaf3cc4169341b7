-- What a put, a take and one part more do to the parts of a region and to the queues in them.
use Rattle.std.proofs.Common.{◌≡◌, ◌≢◌, ◌<◌, ◌≤◌, ◌+◌, ◌-◌, ◌%◌, ◌⊎◌, inl, inr, ℕ, zero, suc, ℤ, pos, List, [], ◌∷◌, ◌++◌, length, length-set, length-append, get_or, sum, take, set, map, refl, sym, ap, ap₂, ◌∙◌, subst, ⊎_elim, arith, get_or-set_same, get_or-set_other, drop}
use Rattle.std.proofs.lemmas.Bool.{cases_lt, cases_eq}
use Rattle.std.proofs.lemmas.List.{ext_get_or, get_or-map, length-map, get_or_append_left, get_or-append-add, take_more, map-append, take-append-le}
use Rattle.std.proofs.lemmas.Grind.{common_steps}
use Rattle.std.proofs.Math.Seq.{map-set_same, take-length}
use Rattle.ring_region.specs.declared.part.Part.{Part}
use Rattle.ring_region.specs.Fifos.{Fifo, emptied, fifo_at, begin_of, place_of, with_item, without_oldest}
use Rattle.ring_region.specs.machine.Parts.{next_place, place_on, part_at, items_from, size_of, fifo_of, IsPart, AreParts}
use Rattle.ring_region.proofs.Rounds.{next_inside, place_next, next_on, place_inside, place_apart, next_within, place_within, place_none, place_mod, next_mod, length-items, get_or-items, items_more, items_kept}

-- the part after a put whose next place is this, and after a take
abbrev pub put_to : Part → ℕ → Part
put_to part n = record { begin = part.begin; end = part.end; put = n; take = part.take; held = part.held + 1 }

abbrev pub taken_to : Part → ℕ → Part
taken_to part n = record { begin = part.begin; end = part.end; put = part.put; take = n; held = part.held - 1 }

abbrev pub after_put : Part → Part
after_put part = put_to part (next_place part.begin part.end part.put)

abbrev pub after_take : Part → Part
after_take part = taken_to part (next_place part.begin part.end part.take)

module _ (size : ℕ) (part : Part) (is : IsPart size part) where
  pub IsPart-put : part.held < part.end - part.begin → IsPart size (after_put part)
  IsPart-put room = record {
    above = is.above;
    below = is.below;
    inside = is.inside;
    few = omega arith;
    behind = ap (next_place part.begin part.end) is.behind
        ∙ next_on part.begin part.end part.take is.above is.below part.held room
        ∙ ap (place_on part.begin part.end part.take) (omega arith);
  }

  pub IsPart-take : 0 < part.held → IsPart size (after_take part)
  IsPart-take filled = record {
    above = (next_inside part.begin part.end part.take is.above is.below).0;
    below = (next_inside part.begin part.end part.take is.above is.below).1;
    inside = is.inside;
    few = omega (arith, is.few);
    behind = is.behind ∙ ap (place_on part.begin part.end part.take) (omega arith)
        ∙ sym (place_next part.begin part.end part.take is.above is.below (part.held - 1) (omega (arith, is.few)));
  }

  -- the place of the next put is within the part
  pub put_inside : part.held < part.end - part.begin → (part.begin ≤ part.put) × (part.put < part.end)
  put_inside room =
      subst (λ w. (part.begin ≤ w) × (w < part.end)) (sym is.behind)
      (place_inside part.begin part.end part.take is.above is.below part.held room)

  pub fifo_put : (region : List ℤ) (v : ℤ) → length region ≡ size → part.held < part.end - part.begin
      → fifo_of (set region part.put v) (after_put part) ≡ with_item v (fifo_of region part)
  fifo_put region v whole room =
      let within = put_inside room in
      let b : ℕ = part.begin in
      let e : ℕ = part.end in
      let old : List ℤ = items_from region b e part.take part.held in
      let now : List ℤ = set region part.put v in
      let end : ℕ = place_on b e part.take part.held in
      let one : part.held + 1 ≡ suc part.held = omega arith in
      let kept = items_kept b e region part.put v part.take part.held is.above is.below is.few
      (λ s h same. place_apart b e part.take is.above is.below s part.held h room (same ∙ is.behind)) in
      let last : get_or now end (pos 0) ≡ v =
      ap (λ w. get_or now w (pos 0)) (sym is.behind) ∙ get_or-set_same region part.put v (pos 0) (omega (arith, is.inside)) in
      ap (λ xs. record { capacity = e - b; first = part.take - b; items = xs })
      (ap (items_from now b e part.take) one
      ∙ items_more b e now part.take part.held is.above is.below room
      ∙ ap (λ xs. xs ++ get_or now end (pos 0) ∷ []) kept
      ∙ ap (λ x. old ++ x ∷ []) last)

  pub fifo_take : (region : List ℤ) → 0 < part.held → fifo_of region (after_take part) ≡ without_oldest (fifo_of region part)
  unfolding items_from
  fifo_take region filled =
      let one : suc (part.held - 1) ≡ part.held = omega arith in
      let b : ℕ = part.begin in
      let e : ℕ = part.end in
      let first : next_place b e part.take - b ≡ ((part.take - b) + 1) % (e - b) =
      next_within b e part.take is.above is.below ∙ next_mod (e - b) (part.take - b) (omega (arith, is.above, is.below)) in
      ap (λ n. record { capacity = e - b; first = next_place b e part.take - b; items = drop 1 (items_from region b e part.take n) }) one
      ∙ ap (λ n. record { capacity = e - b; first = n; items = drop 1 (items_from region b e part.take part.held) }) first

  pub fifo_first : (region : List ℤ) → 0 < part.held → get_or region part.take (pos 0) ≡ get_or (fifo_of region part).items 0 (pos 0)
  unfolding items_from
  fifo_first region filled =
      let one : suc (part.held - 1) ≡ part.held = omega arith in
      ap (λ n. get_or (items_from region part.begin part.end part.take n) 0 (pos 0)) one

  -- a write outside the part
  pub fifo_other : (region : List ℤ) (w : ℕ) (v : ℤ) → (w < part.begin) ⊎ (part.end ≤ w)
      → fifo_of (set region w v) part ≡ fifo_of region part
  fifo_other region w v out =
      ap (λ xs. record { capacity = size_of part; first = part.take - part.begin; items = xs })
      (items_kept part.begin part.end region w v part.take part.held is.above is.below is.few
      (λ s h same.
      let at = place_inside part.begin part.end part.take is.above is.below s (omega (arith, is.few)) in
      ⊎_elim (λ x. omega arith) (λ x. omega arith) out))

abbrev none : Part
none = record { begin = 0; end = 0; put = 0; take = 0; held = 0 }

pub fifo_at-map : (region : List ℤ) (parts : List Part) (q : ℕ) → q < length parts
    → fifo_at (map (fifo_of region) parts) q ≡ fifo_of region (part_at parts q)
fifo_at-map region parts q h = get_or-map (fifo_of region) parts q none (emptied 0) h

module _ (size : ℕ) (parts : List Part) (are : AreParts size parts) (q : ℕ) (known : q < length parts) (new : Part)
    (begins : new.begin ≡ (part_at parts q).begin) (ends : new.end ≡ (part_at parts q).end) where
  -- one part replaced by another of the same places
  pub AreParts-set : IsPart size new → AreParts size (set parts q new)
  AreParts-set is = record {
    each = λ i h. ⊎_elim
        (λ e. subst (λ x. IsPart size (part_at (set parts q new) x)) (sym e)
        (subst (IsPart size) (sym (get_or-set_same parts q new none known)) is))
        (λ ne. subst (IsPart size) (sym (get_or-set_other parts q i new none ne)) (are.each i (omega (arith, length-set parts q new))))
        (cases_eq i q);
    apart = λ i j less h. omega (arith, are.apart i j less (omega (arith, length-set parts q new)), begin_kept j, end_kept i);
    begins = λ i h. begin_kept i ∙ are.begins i (omega (arith, length-set parts q new)) ∙ ap (λ xs. sum (take i xs)) (sym sizes);
    fills = are.fills ∙ ap sum (sym sizes);
  }
    where
      sizes : map size_of (set parts q new) ≡ map size_of parts
      sizes = map-set_same size_of parts q new none (omega (arith, begins, ends))

      begin_kept : (i : ℕ) → (part_at (set parts q new) i).begin ≡ (part_at parts i).begin
      begin_kept i = ⊎_elim
          (λ e. subst (λ x. (part_at (set parts q new) x).begin ≡ (part_at parts x).begin) (sym e)
          (ap (λ (p : Part). p.begin) (get_or-set_same parts q new none known) ∙ begins))
          (λ ne. ap (λ (p : Part). p.begin) (get_or-set_other parts q i new none ne))
          (cases_eq i q)

      end_kept : (i : ℕ) → (part_at (set parts q new) i).end ≡ (part_at parts i).end
      end_kept i = ⊎_elim
          (λ e. subst (λ x. (part_at (set parts q new) x).end ≡ (part_at parts x).end) (sym e)
          (ap (λ (p : Part). p.end) (get_or-set_same parts q new none known) ∙ ends))
          (λ ne. ap (λ (p : Part). p.end) (get_or-set_other parts q i new none ne))
          (cases_eq i q)

-- the queues where one part is replaced, and the region changes in that part alone
pub fifos_set : (old region : List ℤ) (parts : List Part) (q : ℕ) (new : Part) (fifo : Fifo) → q < length parts
    → fifo_of region new ≡ fifo
    → ((i : ℕ) → i < length parts → i ≢ q → fifo_of region (part_at parts i) ≡ fifo_of old (part_at parts i))
    → map (fifo_of region) (set parts q new) ≡ set (map (fifo_of old) parts) q fifo
fifos_set old region parts q new fifo known here elsewhere =
    let left : List Fifo = map (fifo_of region) (set parts q new) in
    let right : List Fifo = set (map (fifo_of old) parts) q fifo in
    ext_get_or (emptied 0) left right
    (length-map (set parts q new) (fifo_of region) ∙ length-set parts q new ∙ sym (length-map parts (fifo_of old))
    ∙ sym (length-set (map (fifo_of old) parts) q fifo))
    (λ i h. let within : i < length parts = omega (arith, length-map (set parts q new) (fifo_of region), length-set parts q new) in
    fifo_at-map region (set parts q new) i (omega (arith, length-set parts q new))
    ∙ ⊎_elim
    (λ e. subst (λ x. fifo_of region (part_at (set parts q new) x) ≡ fifo_at (set (map (fifo_of old) parts) q fifo) x) (sym e)
    (ap (fifo_of region) (get_or-set_same parts q new none known) ∙ here
    ∙ sym (get_or-set_same (map (fifo_of old) parts) q fifo (emptied 0) (omega (arith, length-map parts (fifo_of old))))))
    (λ ne. ap (fifo_of region) (get_or-set_other parts q i new none ne) ∙ elsewhere i within ne ∙ sym (fifo_at-map old parts i within)
    ∙ sym (get_or-set_other (map (fifo_of old) parts) q i fifo (emptied 0) ne))
    (cases_eq i q))

-- what a part says of its queue
module _ (size : ℕ) (region : List ℤ) (parts : List Part) (fifos : List Fifo) (are : AreParts size parts)
    (view : map (fifo_of region) parts ≡ fifos) (q : ℕ) (h : q < length fifos) where
  pub known : q < length parts
  known = omega (arith, ap length view, length-map parts (fifo_of region))

  pub fifo_is : fifo_at fifos q ≡ fifo_of region (part_at parts q)
  fifo_is = ap (λ fs. fifo_at fs q) (sym view) ∙ fifo_at-map region parts q known

-- an element that is there, whatever stands for one that isn't
get_or-any : {A : Type 0} (xs : List A) (i : ℕ) (d e : A) → i < length xs → get_or xs i d ≡ get_or xs i e
get_or-any [] i d e h = absurd (omega arith)
get_or-any (x ∷ xs) zero d e h = refl
get_or-any (x ∷ xs) (suc i) d e h = get_or-any xs i d e (omega arith)

-- what a part that was read says of its queue, and what a put and a take do to all queues
module _ (region : List ℤ) (parts : List Part) (fifos : List Fifo) (are : AreParts (length region) parts)
    (view : map (fifo_of region) parts ≡ fifos) (q : ℕ) (h : q < length fifos) (p : Part) (read : p ≡ get_or parts q p) where
  there : q < length parts
  there = known (length region) region parts fifos are view q h

  here : part_at parts q ≡ p
  here = get_or-any parts q none p there ∙ sym read

  is_part : IsPart (length region) p
  is_part = subst (IsPart (length region)) here (are.each q there)

  queue_is : fifo_at fifos q ≡ fifo_of region p
  queue_is = fifo_is (length region) region parts fifos are view q h ∙ ap (fifo_of region) here

  pub part_holds : (length (fifo_at fifos q).items ≡ p.held) × ((fifo_at fifos q).capacity ≡ p.end - p.begin)
      × (p.held ≤ p.end - p.begin) × (p.take < p.end) × (p.end ≤ length region) × (p.begin ≤ p.take)
  part_holds = (
    ap (λ (f : Fifo). length f.items) queue_is ∙ length-items p.begin p.end region p.take p.held,
    ap (λ (f : Fifo). f.capacity) queue_is,
    is_part.few,
    is_part.below,
    is_part.inside,
    is_part.above,
  )

  pub place_of_put : p.held < p.end - p.begin → (p.begin ≤ p.put) × (p.put < p.end)
  place_of_put room = put_inside (length region) p is_part room

  pub put_parts : (v : ℤ) (n : ℕ) → n ≡ next_place p.begin p.end p.put → p.held < p.end - p.begin
      → AreParts (length (set region p.put v)) (set parts q (put_to p n))
  put_parts v n e room =
      let is = subst (λ x. IsPart (length region) (put_to p x)) (sym e) (IsPart-put (length region) p is_part room) in
      subst (λ k. AreParts k (set parts q (put_to p n))) (sym (length-set region p.put v))
      (AreParts-set (length region) parts are q there (put_to p n) (ap (λ (x : Part). x.begin) (sym here))
      (ap (λ (x : Part). x.end) (sym here)) is)

  pub put_fifos : (v w : ℤ) (n : ℕ) → w ≡ v → n ≡ next_place p.begin p.end p.put → p.held < p.end - p.begin
      → map (fifo_of (set region p.put w)) (set parts q (put_to p n)) ≡ set fifos q (with_item v (fifo_at fifos q))
  put_fifos v w n same e room =
      let within = place_of_put room in
      let new : Fifo = with_item w (fifo_of region p) in
      ap (λ x. map (fifo_of (set region p.put w)) (set parts q (put_to p x))) e
      ∙ fifos_set region (set region p.put w) parts q (after_put p) new there
      (fifo_put (length region) p is_part region w refl room)
      (λ i k ne. fifo_other (length region) (part_at parts i) (are.each i k) region p.put w (out i k ne within))
      ∙ ap (λ fs. set fs q new) view
      ∙ ap (λ (f : Fifo). set fifos q (with_item w f)) (sym queue_is)
      ∙ ap (λ x. set fifos q (with_item x (fifo_at fifos q))) same
    where
      out : (i : ℕ) → i < length parts → i ≢ q → (p.begin ≤ p.put) × (p.put < p.end)
          → (p.put < (part_at parts i).begin) ⊎ ((part_at parts i).end ≤ p.put)
      out i k ne within = ⊎_elim
          (λ less. inr (omega (arith, are.apart i q less there, within.0, ap (λ (x : Part). x.begin) here)))
          (λ more. inl (omega (arith, are.apart q i (omega arith) k, within.1, ap (λ (x : Part). x.end) here)))
          (cases_lt i q)

  pub take_parts : (n : ℕ) → n ≡ next_place p.begin p.end p.take → 0 < p.held
      → AreParts (length region) (set parts q (taken_to p n))
  take_parts n e filled =
      let is = subst (λ x. IsPart (length region) (taken_to p x)) (sym e) (IsPart-take (length region) p is_part filled) in
      AreParts-set (length region) parts are q there (taken_to p n) (ap (λ (x : Part). x.begin) (sym here))
      (ap (λ (x : Part). x.end) (sym here)) is

  pub take_fifos : (n : ℕ) → n ≡ next_place p.begin p.end p.take → 0 < p.held
      → map (fifo_of region) (set parts q (taken_to p n)) ≡ set fifos q (without_oldest (fifo_at fifos q))
  take_fifos n e filled =
      let new : Fifo = without_oldest (fifo_of region p) in
      ap (λ x. map (fifo_of region) (set parts q (taken_to p x))) e
      ∙ fifos_set region region parts q (after_take p) new there (fifo_take (length region) p is_part region filled) (λ i k ne. refl)
      ∙ ap (λ fs. set fs q new) view
      ∙ ap (λ (f : Fifo). set fifos q (without_oldest f)) (sym queue_is)

  pub take_first : (w : ℤ) → w ≡ get_or region p.take w → 0 < p.held → w ≡ get_or (fifo_at fifos q).items 0 (pos 0)
  take_first w e filled =
      e ∙ get_or-any region p.take w (pos 0) (omega (arith, is_part.below, is_part.inside))
      ∙ fifo_first (length region) p is_part region filled
      ∙ ap (λ (f : Fifo). get_or f.items 0 (pos 0)) (sym queue_is)

-- the sum with one number more
pub sum_one_more : (xs : List ℕ) (y : ℕ) → sum (xs ++ y ∷ []) ≡ sum xs + y
sum_one_more xs y = grind (arith, common_steps)

-- an empty part from a place on
abbrev pub blank : ℕ → ℕ → Part
blank total c = record { begin = total; end = total + c; put = total; take = total; held = 0 }

-- one empty part more, after the others
pub AreParts-more : (total c : ℕ) (parts : List Part) → AreParts total parts → 0 < c → AreParts (total + c) (parts ++ blank total c ∷ [])
AreParts-more total c parts are positive = record {
  each = λ i h. ⊎_elim
      (λ less. subst (IsPart (total + c)) (sym (at_front i less)) (let is = are.each i less in
      record { above = is.above; below = is.below; inside = omega (arith, is.inside); few = is.few; behind = is.behind }))
      (λ more. subst (IsPart (total + c)) (sym (at_end i h more)) (record {
        above = omega arith;
        below = omega arith;
        inside = omega arith;
        few = omega arith;
        behind = sym (place_none total (total + c) total (omega arith) (omega arith));
      }))
      (cases_lt i (length parts));
  apart = λ i j less h. ⊎_elim
      (λ before. subst (λ (p : Part). (part_at all i).end ≤ p.begin) (sym (at_front j before))
      (subst (λ (p : Part). p.end ≤ (part_at parts j).begin) (sym (at_front i (omega arith))) (are.apart i j less before)))
      (λ more. let first : i < length parts = omega (arith, length-append parts (blank total c ∷ [])) in
      subst (λ (p : Part). (part_at all i).end ≤ p.begin) (sym (at_end j h more))
      (subst (λ (p : Part). p.end ≤ total) (sym (at_front i first)) ((are.each i first).inside)))
      (cases_lt j (length parts));
  begins = λ i h. ⊎_elim
      (λ less. ap (λ (p : Part). p.begin) (at_front i less) ∙ are.begins i less
      ∙ sym (ap (λ xs. sum (take i xs)) sizes
      ∙ ap sum (take-append-le i (map size_of parts) (c ∷ []) (omega (arith, length-map parts size_of)))))
      (λ more. let at : i ≡ length (map size_of parts) = omega (arith, length-map parts size_of, length-append parts (blank total c ∷ [])) in
      ap (λ (p : Part). p.begin) (at_end i h more) ∙ are.fills
      ∙ sym (ap (λ xs. sum (take i xs)) sizes ∙ ap (λ n. sum (take n (map size_of parts ++ c ∷ []))) at
      ∙ ap sum (take-append-le (length (map size_of parts)) (map size_of parts) (c ∷ []) (omega arith) ∙ take-length (map size_of parts))))
      (cases_lt i (length parts));
  fills = ap (λ n. n + c) are.fills ∙ sym (ap sum sizes ∙ sum_one_more (map size_of parts) c);
}
  where
    all : List Part
    all = parts ++ blank total c ∷ []

    sizes : map size_of (parts ++ blank total c ∷ []) ≡ map size_of parts ++ c ∷ []
    sizes =
        let size : (total + c) - total ≡ c = omega arith in
        map-append size_of parts (blank total c ∷ []) ∙ ap (λ n. map size_of parts ++ n ∷ []) size

    at_front : (i : ℕ) → i < length parts → part_at (parts ++ blank total c ∷ []) i ≡ part_at parts i
    at_front i less = get_or_append_left parts (blank total c ∷ []) none i less

    at_end : (i : ℕ) → i < length (parts ++ blank total c ∷ []) → length parts ≤ i → part_at (parts ++ blank total c ∷ []) i ≡ blank total c
    at_end i h more =
        let e : i ≡ length parts + 0 = omega (arith, length-append parts (blank total c ∷ [])) in
        ap (λ k. part_at (parts ++ blank total c ∷ []) k) e ∙ get_or-append-add parts (blank total c ∷ []) 0 none

pub fifos_more : (region : List ℤ) (parts : List Part) (capacities : List ℕ) (i total c : ℕ) → i < length capacities
    → c ≡ get_or capacities i 0 → map (fifo_of region) parts ≡ map emptied (take i capacities)
    → map (fifo_of region) (parts ++ blank total c ∷ []) ≡ map emptied (take (i + 1) capacities)
unfolding items_from
fifos_more region parts capacities i total c h e same =
    let new : Part = blank total c in
    let size : (total + c) - total ≡ get_or capacities i 0 = omega (arith, e) in
    let first : total - total ≡ 0 = omega arith in
    map-append (fifo_of region) parts (new ∷ [])
    ∙ ap₂ ◌++◌ same (ap (λ k. record { capacity = (total + c) - total; first = k; items = [] } ∷ []) first
    ∙ ap (λ n. emptied n ∷ []) size)
    ∙ sym (map-append emptied (take i capacities) (get_or capacities i 0 ∷ []))
    ∙ ap (map emptied) (sym (take_more capacities i 0 h))

-- where the items of a queue lie
module _ (region : List ℤ) (parts : List Part) (fifos : List Fifo) (are : AreParts (length region) parts)
    (view : map (fifo_of region) parts ≡ fifos) where
  sizes_are : map (λ (f : Fifo). f.capacity) fifos ≡ map size_of parts
  sizes_are = ap (map (λ (f : Fifo). f.capacity)) (sym view) ∙ along parts
    where
      along : (ps : List Part) → map (λ (f : Fifo). f.capacity) (map (fifo_of region) ps) ≡ map size_of ps
      along [] = refl
      along (p ∷ ps) = ap (λ xs. size_of p ∷ xs) (along ps)

  pub region_filled : length region ≡ sum (map (λ (f : Fifo). f.capacity) fifos)
  region_filled = are.fills ∙ ap sum (sym sizes_are)

  pub items_lie : (q i : ℕ) → q < length fifos → i < length (fifo_at fifos q).items
      → get_or region (place_of fifos q i) (pos 0) ≡ get_or (fifo_at fifos q).items i (pos 0)
  items_lie q i h less =
      let there : q < length parts = known (length region) region parts fifos are view q h in
      let p : Part = part_at parts q in
      let is = are.each q there in
      let queue = fifo_is (length region) region parts fifos are view q h in
      let held : i < p.held = omega (arith, ap (λ (f : Fifo). length f.items) queue, length-items p.begin p.end region p.take p.held) in
      let begins : begin_of fifos q ≡ p.begin = ap (λ xs. sum (take q xs)) sizes_are ∙ sym (are.begins q there) in
      let place : ((p.take - p.begin) + i) % (p.end - p.begin) ≡ place_on 0 (p.end - p.begin) (p.take - p.begin) i =
      sym (place_mod (p.end - p.begin) (p.take - p.begin) i (omega (arith, is.above, is.below)) (omega (arith, is.few))) in
      ap (λ n. get_or region (n + ((fifo_at fifos q).first + i) % (fifo_at fifos q).capacity) (pos 0)) begins
      ∙ ap (λ (f : Fifo). get_or region (p.begin + (f.first + i) % f.capacity) (pos 0)) queue
      ∙ ap (λ n. get_or region (p.begin + n) (pos 0)) place
      ∙ ap (λ w. get_or region w (pos 0)) (sym (place_within p.begin p.end p.take is.above is.below i (omega (arith, is.few))))
      ∙ sym (get_or-items p.begin p.end region p.take p.held i is.above is.below is.few held)
      ∙ ap (λ (f : Fifo). get_or f.items i (pos 0)) (sym queue)

  pub first_inside : (q : ℕ) → q < length fifos → (fifo_at fifos q).first < (fifo_at fifos q).capacity
  first_inside q h =
      let is = are.each q (known (length region) region parts fifos are view q h) in
      subst (λ (f : Fifo). f.first < f.capacity) (sym (fifo_is (length region) region parts fifos are view q h))
      (omega (arith, is.above, is.below))

  pub items_few : (q : ℕ) → q < length fifos → length (fifo_at fifos q).items ≤ (fifo_at fifos q).capacity
  items_few q h =
      let p : Part = part_at parts q in
      let is = are.each q (known (length region) region parts fifos are view q h) in
      subst (λ (f : Fifo). length f.items ≤ f.capacity) (sym (fifo_is (length region) region parts fifos are view q h))
      (omega (arith, is.few, length-items p.begin p.end region p.take p.held))
