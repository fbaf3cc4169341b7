-- Conservation: what a balanced certificate says to every potential.
use Rattle.std.specs.Prelude.{◌≡◌, ℕ, ◌+◌, ◌*◌, ◌-◌, ◌≤◌, ◌==◌, Bool, ◌+ℤ◌, List, length, slice_index, slice_set, if◌then◌else◌, nat_lt}
use Rattle.delay_net.specs.Sums.{sum_below}
use Rattle.delay_net.specs.Certificate.{width_if_read, value_of}
use Rattle.delay_net.specs.pieces.Weighed.{weighed}
use Rattle.delay_net.specs.declared.net.Read.{Read}
use Rattle.flow_solve.specs.declared.arc.Arc.{Arc}
pub use Rattle.flow_solve.specs.Walk.{NoRepeat}

-- over the tensors that are read, width times what f gives
abbrev pub supplied : List ℕ → List Read → (ℕ → ℕ) → ℕ
supplied weights reads f = sum_below (length weights) (λ t. f t * width_if_read weights reads t)

-- what comes in, where the potentials of a tensor's two nodes are e and s
abbrev pub comes_in : List ℕ → List Read → List ℕ → List ℕ → (ℕ → ℕ) → (ℕ → ℕ) → ℕ
comes_in weights reads hold need e s =
    weighed (λ r. e r.reader) reads need + weighed (λ r. s r.of) reads hold + supplied weights reads e

-- what goes out
abbrev pub goes_out : List ℕ → List Read → List ℕ → List ℕ → (ℕ → ℕ) → (ℕ → ℕ) → ℕ
goes_out weights reads hold need e s =
    weighed (λ r. e r.of) reads need + weighed (λ r. e r.reader) reads hold + supplied weights reads s

-- the potential of a node
abbrev pub node_potential : ℕ → (ℕ → ℕ) → (ℕ → ℕ) → ℕ → ℕ
node_potential n e s v = if nat_lt v n then e v else s (v - n)

-- a unit more has gone from one node to another
abbrev pub CarriesUnit : List ℕ → List Read → List ℕ → List ℕ → ℕ → ℕ → Type 0
CarriesUnit weights reads hold need from to =
    (e s : ℕ → ℕ) → comes_in weights reads hold need e s + node_potential (length weights) e s from
    ≡ goes_out weights reads hold need e s + node_potential (length weights) e s to

-- the holds and needs after a unit goes along an arc: of four arcs for each read, the first two raise
-- its need and its hold, and the others lower them; along a loop nothing goes
abbrev pub need_after : Bool → ℕ → ℕ → List ℕ → List ℕ
need_after looped kind read need =
    if looped then need else
    (if kind == 0 then slice_set need read (slice_index need read + 1) else
    (if kind == 2 then slice_set need read (slice_index need read - 1) else need))

abbrev pub hold_after : Bool → ℕ → ℕ → List ℕ → List ℕ
hold_after looped kind read hold =
    if looped then hold else
    (if kind == 1 then slice_set hold read (slice_index hold read + 1) else
    (if kind == 3 then slice_set hold read (slice_index hold read - 1) else hold))

-- a unit went along an arc
pub record Moves (weights : List ℕ) (reads : List Read) (hold need hold' need' : List ℕ) (arc : Arc) : Type 0 where
  pub hold_size : length hold' ≡ length hold
  pub need_size : length need' ≡ length need
  pub conserves : (e s : ℕ → ℕ) → comes_in weights reads hold' need' e s + goes_out weights reads hold need e s
      + node_potential (length weights) e s arc.from
      ≡ goes_out weights reads hold' need' e s + comes_in weights reads hold need e s
      + node_potential (length weights) e s arc.to
  pub value : value_of reads hold' need' ≡ value_of reads hold need +ℤ arc.length
  pub hold_up : (i : ℕ) → slice_index hold' i ≤ slice_index hold i + 1
  pub need_up : (i : ℕ) → slice_index need' i ≤ slice_index need i + 1
