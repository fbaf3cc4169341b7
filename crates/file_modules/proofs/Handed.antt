-- What a firing of a sink writes.
use Rattle.std.proofs.Common.{◌≡◌, ℕ, ◌+◌, ◌-◌, ◌*◌, ◌≤◌, min, List, length, take, drop, map, ℤ, All, sym, ap, subst, ◌∙◌, arith}
use Rattle.std.proofs.lemmas.List.{drop_min}
use Rattle.std.proofs.lemmas.List.Elements.{All-map, All-same}
use Rattle.soda_words.specs.IntType.{IntType}
use Rattle.int_types.specs.Ranges.{InRange, wrapped}
use Rattle.int_types.proofs.CallerLemmas.{wrapped_in_range}
use Rattle.file_modules.specs.Firings.{cells_before, handed}
use Rattle.file_modules.proofs.Lanes.{part_size}

-- wrapped values are in range
wrapped_all : (t w : IntType) (xs ys : List ℤ) → t ≡ w → xs ≡ map (wrapped t) ys → All (λ v. InRange w v) xs
wrapped_all t w xs ys same is =
    let P : IntType → Type 0 = λ j. All (λ v. InRange j v) xs in
    subst P same (All-same (λ v. InRange t v) xs (map (wrapped t) ys) is (All-map (λ v. InRange t v) (wrapped t) ys (λ k d lt. wrapped_in_range t _)))

-- the front of a block that holds the values of the lanes whose cells are there, wrapped
module _ (t w : IntType) (u d n k a c : ℕ) (ports items block : List ℤ) (same : t ≡ w) (size : length ports ≡ u) (first : a ≡ min (d - u * k) u)
    (count : c ≡ cells_before u d n (k + 1) - cells_before u d n k) (fits : a + c ≤ u) (held : block ≡ items)
    (front : take (length (take (a + c - a) (drop a ports))) items ≡ map (wrapped t) (take (a + c - a) (drop a ports))) where
  abbrev part : List ℤ
  part = take (a + c - a) (drop a ports)

  front_is : take c block ≡ map (wrapped t) part
  front_is =
      ap (λ (xs : List ℤ). take c xs) held
      ∙ ap (λ (i : ℕ). take i items) (sym (part_size ports a c (omega arith))) ∙ front

  part_is : part ≡ handed u d n k ports
  part_is =
      let few : a + c - a ≡ cells_before u d n (k + 1) - cells_before u d n k = omega arith in
      let from : drop a ports ≡ drop (d - u * k) ports =
      ap (λ (i : ℕ). drop i ports) (first ∙ ap (λ (i : ℕ). min (d - u * k) i) (sym size)) ∙ drop_min (d - u * k) ports in
      ap (λ (i : ℕ). take i (drop a ports)) few ∙ ap (λ (xs : List ℤ). take (cells_before u d n (k + 1) - cells_before u d n k) xs) from

  -- they are what the firing hands on
  pub wrapped_handed : take c block ≡ map (wrapped w) (handed u d n k ports)
  wrapped_handed = front_is ∙ ap (λ (j : IntType). map (wrapped j) part) same ∙ ap (λ (xs : List ℤ). map (wrapped w) xs) part_is

  -- and in range
  pub in_range_handed : All (λ v. InRange w v) (take c block)
  in_range_handed = wrapped_all t w (take c block) part same front_is
