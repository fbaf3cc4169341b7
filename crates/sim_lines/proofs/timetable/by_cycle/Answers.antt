use Rattle.std.proofs.Common.{◌≡◌, ◌∙◌, ◌<◌, ap, length, subst, sym, ◌&&◌, ◌==◌, rules}
use Rattle.std.specs.List.{All}
use Rattle.std.proofs.lemmas.List.Sorted.{All-permutation, IsNonDecreasingBy-from_sort_by_key, list_any-IsPermutation}
use Rattle.sim_lines.specs.declared.stalled.StalledModule.{StalledModule}
use Rattle.sim_lines.specs.Timetable.{is_stalled_in}
use Rattle.sim_lines.specs.machine.Ends.{all_stalled, ends_before}
use Rattle.sim_lines.proofs.Ends.{all_known, numbers_before, stalled_modules}
use Rattle.sim_lines.proofs.timetable.by_cycle.Goals as goal

pub returns-clause-stalled : goal.returns-clause-stalled
returns-clause-stalled c = λ cycle m d h.
    let stalls = c.args.stalls.now in
    let ends = ends_before c.args.staged.now c.args.modules.now (length c.args.modules.now) in
    let is : c.in_ok-stalled.stalled.items ≡ all_stalled ends stalls = c.in_ok-stalled.ensures ∙ ap (λ es. all_stalled es stalls) (c.deref.ensures.value ∙ c.in_ok-ends.ensures) in
    sym (list_any-IsPermutation (λ (s : StalledModule). s.cycle == cycle && s.number == m) _ _ c.sort_unstable_by_key.ensures.permutation)
    ∙ (ap (λ ss. is_stalled_in ss cycle m) is
    ∙ stalled_modules c.args.staged.now c.args.modules.now stalls cycle m d h)

pub returns-clause-known : goal.returns-clause-known
returns-clause-known c =
    let stalls = c.args.stalls.now in
    let n = length c.args.modules.now in
    let ends = ends_before c.args.staged.now c.args.modules.now n in
    let is : c.in_ok-stalled.stalled.items ≡ all_stalled ends stalls = c.in_ok-stalled.ensures ∙ ap (λ es. all_stalled es stalls) (c.deref.ensures.value ∙ c.in_ok-ends.ensures) in
    let below : StalledModule → Type 0 = λ s. s.number < n in
    All-permutation below _ _ c.sort_unstable_by_key.ensures.permutation (subst (All below) (sym is) (all_known n ends stalls (numbers_before c.args.staged.now c.args.modules.now n)))

pub returns-clause-rising : goal.returns-clause-rising
returns-clause-rising c =
    IsNonDecreasingBy-from_sort_by_key (λ s. s.cycle) _ c.sort_unstable_by_key.ensures.sorted (λ a r q k. search rules)
