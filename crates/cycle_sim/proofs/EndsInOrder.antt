-- The sources of a run stand in the order of their inputs, and each of its queues can hold something.
use Rattle.std.proofs.Common.{◌≡◌, ℕ, zero, suc, ◌+◌, ◌-◌, ◌<◌, ◌≤◌, List, ◌∷◌, ◌++◌, [], length, refl, sym, ap, subst, arith, ⊎_elim}
use Rattle.std.proofs.lemmas.Bool.{cases_lt}
use Rattle.delay_net.specs.Sums.{sum_below}
use Rattle.delay_net.proofs.CallerLemmas.{sum_below_more}
use Rattle.net_ir.specs.Nets.{FitsOrder, IsNetwork, Net, queue_at}
use Rattle.net_ir.specs.declared.network.Module.{Module}
use Rattle.net_ir.specs.declared.network.Module.TheVariants.{Compute, Source}
use Rattle.net_shape.specs.Lists.{joined}
use Rattle.net_shape.specs.Modules.{IsThere, block, near_forwards, number_of, producers, sinks}
use Rattle.net_shape.specs.Plans.{Plan, kind_at}
use Rattle.net_shape.specs.declared.kinds.Kind.{Kind}
use Rattle.net_shape.specs.declared.kinds.Kind.TheVariants.{Input, Inner, Output}
use Rattle.net_shape.specs.machine.Places.{block_begin, place_of}
use Rattle.net_shape.proofs.CallerLemmas.{number_is}

module _ (p : Plan) where
  -- an input has a source in its block
  has_source : (v : ℕ) → kind_at p v ≡ Input → 0 < length (block p v)
  unfolding block producers
  has_source v e =
      let P : Kind → Type 0 = λ k. (rest : List Module) → 0 < length ((elim k [
        | Input ↦ Source v ∷ []
        | Inner ↦ joined (λ lane. Compute v lane ∷ []) p.unroll
        | Output ↦ joined (λ lane. Compute v lane ∷ []) p.unroll
      ]) ++ rest) in
      let first : P Input = λ rest. omega arith in
      subst P (sym e) first (near_forwards p v ++ sinks p v)

  source_place : (v : ℕ) → place_of p (Source v) ≡ block_begin p v
  unfolding place_of
  source_place v = refl

  -- the block of a tensor ends before that of each later one begins
  begins_rise : (v k n : ℕ) → n ≡ v + 1 + k → block_begin p v + length (block p v) ≤ block_begin p n
  unfolding block_begin
  begins_rise v zero n e =
      let f : ℕ → ℕ = λ x. length (block p x) in
      let here : n ≡ v + 1 = omega (arith, e) in
      omega (arith, sum_below_more v f, ap (λ i. sum_below i f) here)
  begins_rise v (suc k) n e =
      let f : ℕ → ℕ = λ x. length (block p x) in
      let here : n ≡ v + 1 + k + 1 = omega (arith, e) in
      omega (arith, begins_rise v k (v + 1 + k) refl, sum_below_more (v + 1 + k) f, ap (λ i. sum_below i f) here)

  -- sources of later inputs have greater numbers
  pub sources_rise : 0 < p.unroll → (v w : ℕ) → IsThere p (Source v) → IsThere p (Source w) → v < w
      → number_of p (Source v) < number_of p (Source w)
  sources_rise lanes v w a b lt =
      let later : w ≡ v + 1 + (w - (v + 1)) = omega (arith, lt) in
      omega (
        arith,
        number_is p lanes (Source v) a,
        number_is p lanes (Source w) b,
        source_place v,
        source_place w,
        begins_rise v (w - (v + 1)) w later,
        has_source v a.1,
      )

-- a queue that fits the firing order can hold something
pub has_room : (net : Net) (queue : ℕ) → IsNetwork net → FitsOrder net (queue_at net.queues queue) → queue < length net.queues
    → 0 < (queue_at net.queues queue).capacity
has_room net queue network fits lt =
    let q = queue_at net.queues queue in
    ⊎_elim
    (λ (on : q.from < q.to). omega (arith, (fits.onward on).0, (fits.onward on).1))
    (λ (le : q.to ≤ q.from).
    ⊎_elim
    (λ (back : q.to < q.from). omega (arith, (fits.back back).0, (fits.back back).1))
    (λ (ge : q.from ≤ q.to). let same : q.from ≡ q.to = omega arith in absurd (network.ends queue lt same))
    (cases_lt q.to q.from))
    (cases_lt q.from q.to)
