use Rattle.std.proofs.Common.{List, ℕ, subst, sym, arith}
use Rattle.std.specs.List.{Contains}
use Rattle.std.proofs.lemmas.List.Filters.{dedup_is}
use Rattle.std.proofs.lemmas.List.Kept.{Contains-dedup_nat, Contains-from_dedup}
use Rattle.std.proofs.lemmas.List.Sorted.{Contains-permutation, IsPermutation-sym}
use Rattle.std.proofs.lemmas.Map.Keys.{IsStrictlyIncreasing-dedup}
use Rattle.reuse_chain.proofs.OfLane.{taps_one}
use Rattle.reuse_chain.proofs.lanes.taps.Goals as goal

pub returns-clause-relation : goal.returns-clause-relation
returns-clause-relation c =
    let is = dedup_is _ _ _ c.dedup.ensures.filtered in
    let moved = c.sort_unstable.ensures.permutation in
    record {
      rising = rw is (IsStrictlyIncreasing-dedup _ c.sort_unstable.ensures.sorted);
      each = λ tap. (
        λ h. subst (λ (xs : List ℕ). Contains xs tap) c.in_ok-taps.ensures
            (Contains-permutation _ _ tap (IsPermutation-sym _ _ moved) (Contains-from_dedup _ _ tap (rw is at h))),
        λ h. rw is (Contains-dedup_nat _ tap (Contains-permutation _ _ tap moved (subst (λ (xs : List ℕ). Contains xs tap) (sym c.in_ok-taps.ensures) h))),
      );
    }

pub returns-clause-value : goal.returns-clause-value
returns-clause-value c =
    taps_one _ _ _ _ (omega (arith, c.requires.lane)) (returns-clause-relation c)
