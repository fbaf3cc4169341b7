use Rattle.std.proofs.Common.{◌≡◌, ◌∙◌, ℕ, Decides, sym, ap, arith, false, length, slice_index_or}
use Rattle.std.proofs.lemmas.Slice.Eq.{slice_eq-Decides}
use Rattle.std.specs.Cmp.{booleans_Decides}
use Rattle.soda_ir.specs.Program.{plain}
use Rattle.soda_ir.proofs.Rounds.{all_rounds, last_round, none_placed, round_placed, round_whole}
use Rattle.soda_ir.proofs.placing.placed_tensors.Goals as goal

pub loop-round-init : goal.loop-round-init
loop-round-init c = record {
  placed = c.in_ok-placed.ensures;
  whole = λ x e. none_placed (plain c.args.parts.now) x _ e;
}

pub loop-round-preserved : goal.loop-round-preserved
loop-round-preserved c =
    let lent : (x : ℕ) → slice_index_or c.deref.result.now x false ≡ slice_index_or c.loop-round.placed.items x false = λ x. ap (λ xs. slice_index_or xs x false) c.deref.ensures.value in
    record {
      placed = round_placed c.args.parts.now c.deref.result.now c.in_ok-next.next.items c.in_ok-next.ensures (λ x e. c.loop-round.invariant.placed x (sym (lent x) ∙ e));
      whole = round_whole c.args.parts.now c.deref.result.now c.in_ok-next.next.items c.in_ok-next.ensures c.loop-round.round (λ x e. lent x ∙ c.loop-round.invariant.whole x e);
    }

pub returns-then-eq : goal.returns-then-eq
returns-then-eq c =
    let decides : Decides c.eq.result (c.as_slice.result.now ≡ c.as_slice-in-loop-round.result.now) = slice_eq-Decides booleans_Decides _ _ _ c.eq.ensures in
    let lent : (x : ℕ) → slice_index_or c.deref.result.now x false ≡ slice_index_or c.loop-round.placed.items x false = λ x. ap (λ xs. slice_index_or xs x false) c.deref.ensures.value in
    last_round c.args.parts.now c.deref.result.now c.in_ok-next.next.items c.in_ok-next.ensures (λ x e. c.loop-round.invariant.placed x (sym (lent x) ∙ e)) (sym c.as_slice.ensures.value ∙ decides.0 c.if-eq.true ∙ c.as_slice-in-loop-round.ensures.value ∙ sym c.deref.ensures.value)

pub returns : goal.returns
returns c =
    let e : c.loop-round.round ≡ length c.args.parts.now.tensors = omega arith in
    all_rounds c.args.parts.now c.loop-round.round c.loop-round.placed.items e c.loop-round.invariant.placed c.loop-round.invariant.whole
