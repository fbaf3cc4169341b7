use Rattle.std.proofs.Common.{ℕ, ◌/◌, ◌%◌, sym, ◌∙◌, ap}
use Rattle.std.proofs.Math.Nat.{div-eq_of_lt, div-zero, mod-eq_of_lt, mod-zero}
use Rattle.compute_modules.specs.declared.side.Side.{Side}
use Rattle.compute_modules.proofs.side.moved_side.Goals as goal

-- a dimension at a coordinate
abbrev with_at : Side → ℕ → Side
with_at s a = record { extent = s.extent; low = s.low; end = s.end; at = a }

pub returns-then-at-side : goal.returns-then-at-side
returns-then-at-side c =
    let s = c.args.side in
    let sum = c.saturating_add-at.ensures in
    record {
      side = ap (with_at s) (sym (mod-eq_of_lt c.if-at-side.true) ∙ ap (λ m. m % s.extent) sum);
      over = sym (ap (λ m. m / s.extent) (sym sum) ∙ div-eq_of_lt c.if-at-side.true);
    }

pub returns-then-side-eq0 : goal.returns-then-side-eq0
returns-then-side-eq0 c =
    let s = c.args.side in
    let none = c.if-side-eq0.true in
    let sum = c.saturating_add-at.ensures in
    record {
      side = ap (with_at s) (sym (mod-zero c.saturating_add-at.result) ∙ ap (λ m. c.saturating_add-at.result % m) (sym none) ∙ ap (λ m. m % s.extent) sum);
      over = sym (ap (λ m. m / s.extent) (sym sum) ∙ ap (λ m. c.saturating_add-at.result / m) none ∙ div-zero c.saturating_add-at.result);
    }

pub returns-else-side-eq0 : goal.returns-else-side-eq0
returns-else-side-eq0 c =
    let s = c.args.side in
    let sum = c.saturating_add-at.ensures in
    record { side = ap (λ m. with_at s (m % s.extent)) sum; over = ap (λ m. m / s.extent) sum }
