-- The margins of one iteration after those of the one before.
use Rattle.std.proofs.Common.{◌≡◌, ◌≢◌, ℕ, zero, suc, ◌+◌, ◌*◌, ◌^◌, ◌<◌, ◌≤◌, Bool, true, false, List, [], ◌∷◌, length, map, slice_index_or, refl, sym, ◌∙◌, ap, subst, arith, ⊎_elim, if◌then◌else◌}
use Rattle.std.proofs.lemmas.Bool.{cases_lt}
use Rattle.std.proofs.lemmas.List.{get_or_default, get_or-map, get_or_past, length-map}
use Rattle.soda_ir.specs.Counts.{is_input}
use Rattle.soda_ir.specs.Points.{listed}
use Rattle.soda_ir.specs.Program.{PlainProgram, outputs_of, preserves}
use Rattle.soda_ir.specs.Valid.{IsSound}
use Rattle.soda_ir.proofs.CallerLemmas.{get-listed, length-listed, listed_same}
use Rattle.time_stages.specs.declared.margins.Margins.{Margins}
use Rattle.time_stages.specs.Margins.{AreMade, AreMargins, dims_of, input_margins, margins_of, margins_over, no_margins}
use Rattle.time_stages.proofs.CallerLemmas.{most_margins, none_are_margins, over_inputs}
use Rattle.time_stages.proofs.OutputNumbers.{input_numbered, outputs_below}

module _ (p : PlainProgram) (sound : IsSound p) where
  first_inputs : (j : ℕ) → input_margins p 0 j ≡ no_margins (dims_of p)
  unfolding input_margins
  first_inputs j = refl

  next_inputs : (t j : ℕ) → input_margins p (suc t) j ≡ (if preserves p then no_margins (dims_of p) else margins_of p t (slice_index_or (outputs_of p) j 0))
  unfolding input_margins
  next_inputs t j = refl

  -- margins over what equals the margins of the inputs
  over_same : (t n : ℕ) (a : ℕ → Margins) (made : List Margins) → ((j : ℕ) → is_input p j ≡ true → a j ≡ input_margins p t j) → n ≡ length p.tensors → made ≡ listed (λ x. margins_over p a n x) n → made ≡ listed (margins_of p t) (length p.tensors)
  over_same t n a made h many e =
      e ∙ ap (λ m. listed (λ x. margins_over p a m x) m) many
      ∙ listed_same (λ x. margins_over p a (length p.tensors) x) (margins_of p t) (length p.tensors) (λ x l. over_inputs p a (input_margins p t) sound h (length p.tensors) x (sound.placed x l))

  none_past : (j most : ℕ) → AreMargins (dims_of p) most (slice_index_or [] j (no_margins (dims_of p)))
  none_past j most = subst (AreMargins (dims_of p) most) (sym (get_or_past [] j (no_margins (dims_of p)) (omega arith))) (none_are_margins (dims_of p) most)

  pub first_input_margins : (most j : ℕ) → AreMargins (dims_of p) most (slice_index_or [] j (no_margins (dims_of p)))
  first_input_margins most j = none_past j most

  pub first_made : (n : ℕ) (made : List Margins) → n ≡ length p.tensors → made ≡ listed (λ x. margins_over p (λ j. slice_index_or [] j (no_margins (dims_of p))) n x) n
      → ((x : ℕ) → AreMargins (dims_of p) (0 + 16777216) (slice_index_or made x (no_margins (dims_of p)))) → AreMade p 0 made
  first_made n made many e most = record {
    are = over_same 0 n (λ j. slice_index_or [] j (no_margins (dims_of p))) made (λ j i. get_or_past [] j (no_margins (dims_of p)) (omega arith) ∙ sym (first_inputs j)) many e;
    most = λ x. most_margins (dims_of p) (0 + 16777216) (1 * 2 ^ 24) (slice_index_or made x (no_margins (dims_of p))) (omega arith) (most x);
  }

  module _ (t : ℕ) (made : List Margins) (m : AreMade p t made) where
    abbrev pub handed : List Margins
    handed = if preserves p then [] else map (λ x. slice_index_or made x (no_margins 0)) (outputs_of p)

    pub made_many : length made ≡ length p.tensors
    made_many = ap length m.are ∙ length-listed (margins_of p t) (length p.tensors)

    handed_at : (j : ℕ) → j < length (outputs_of p) → slice_index_or (map (λ x. slice_index_or made x (no_margins 0)) (outputs_of p)) j (no_margins (dims_of p)) ≡ slice_index_or made (slice_index_or (outputs_of p) j 0) (no_margins (dims_of p))
    handed_at j l =
        get_or-map (λ x. slice_index_or made x (no_margins 0)) (outputs_of p) j 0 (no_margins (dims_of p)) l
        ∙ get_or_default made (slice_index_or (outputs_of p) j 0) (no_margins 0) (no_margins (dims_of p)) (omega (arith, outputs_below p j l, made_many))

    pub handed_from : (q : PlainProgram) (outputs : List ℕ) (inputs : List Margins) → inputs ≡ (if preserves q then [] else map (λ x. slice_index_or made x (no_margins 0)) outputs) → q ≡ p → outputs ≡ outputs_of p → inputs ≡ handed
    handed_from q outputs inputs e same numbers =
        e ∙ ap (λ (r : PlainProgram). if preserves r then [] else map (λ x. slice_index_or made x (no_margins 0)) outputs) same
        ∙ ap (λ ys. if preserves p then [] else map (λ x. slice_index_or made x (no_margins 0)) ys) numbers

    handed_by : (b : Bool) (j : ℕ) → AreMargins (dims_of p) (suc t * 2 ^ 24) (slice_index_or (if b then [] else map (λ x. slice_index_or made x (no_margins 0)) (outputs_of p)) j (no_margins (dims_of p)))
    handed_by true j = none_past j (suc t * 2 ^ 24)
    handed_by false j =
        ⊎_elim (λ (l : j < length (outputs_of p)). subst (AreMargins (dims_of p) (suc t * 2 ^ 24)) (sym (handed_at j l)) (m.most (slice_index_or (outputs_of p) j 0)))
        (λ (l : length (outputs_of p) ≤ j). subst (AreMargins (dims_of p) (suc t * 2 ^ 24)) (sym (get_or_past (map (λ x. slice_index_or made x (no_margins 0)) (outputs_of p)) j (no_margins (dims_of p)) (omega (arith, length-map (outputs_of p) (λ x. slice_index_or made x (no_margins 0)))))) (none_are_margins (dims_of p) (suc t * 2 ^ 24)))
        (cases_lt j (length (outputs_of p)))

    pub handed_margins : (inputs : List Margins) (j : ℕ) → inputs ≡ handed → AreMargins (dims_of p) (suc t * 2 ^ 24) (slice_index_or inputs j (no_margins (dims_of p)))
    handed_margins inputs j e =
        subst (λ (xs : List Margins). AreMargins (dims_of p) (suc t * 2 ^ 24) (slice_index_or xs j (no_margins (dims_of p)))) (sym e) (handed_by (preserves p) j)

    handed_is : (b : Bool) (j : ℕ) → j < length (outputs_of p) → slice_index_or (if b then [] else map (λ x. slice_index_or made x (no_margins 0)) (outputs_of p)) j (no_margins (dims_of p)) ≡ (if b then no_margins (dims_of p) else margins_of p t (slice_index_or (outputs_of p) j 0))
    handed_is true j l = get_or_past [] j (no_margins (dims_of p)) (omega arith)
    handed_is false j l =
        handed_at j l
        ∙ ap (λ xs. slice_index_or xs (slice_index_or (outputs_of p) j 0) (no_margins (dims_of p))) m.are
        ∙ get-listed (margins_of p t) (length p.tensors) (slice_index_or (outputs_of p) j 0) (no_margins (dims_of p)) (outputs_below p j l)

    pub next_made : (n : ℕ) (inputs next : List Margins) → p.iterate ≢ 1 → inputs ≡ handed → n ≡ length p.tensors → next ≡ listed (λ x. margins_over p (λ j. slice_index_or inputs j (no_margins (dims_of p))) n x) n
        → ((x : ℕ) → AreMargins (dims_of p) (suc t * 2 ^ 24 + 16777216) (slice_index_or next x (no_margins (dims_of p)))) → AreMade p (suc t) next
    next_made n inputs next iterated e many is most = record {
      are = over_same (suc t) n (λ j. slice_index_or inputs j (no_margins (dims_of p))) next (λ j i. ap (λ xs. slice_index_or xs j (no_margins (dims_of p))) e ∙ handed_is (preserves p) j (input_numbered p sound iterated j i) ∙ sym (next_inputs t j)) many is;
      most = λ x. most_margins (dims_of p) (suc t * 2 ^ 24 + 16777216) (suc (suc t) * 2 ^ 24) (slice_index_or next x (no_margins (dims_of p))) (omega arith) (most x);
    }
