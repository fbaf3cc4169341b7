use Rattle.std.proofs.Common.{◌≡◌, ℕ, ◌+◌, ◌∙◌, [], ◌∷◌, ◌++◌, map, get_or, ap, sym, subst, refl, arith, rules}
use Rattle.std.proofs.lemmas.Grind.{common_steps}
use Rattle.ring_region.specs.declared.part.Part.{Part}
use Rattle.ring_region.specs.machine.Parts.{fifo_of, AreParts}
use Rattle.ring_region.proofs.PartSteps.{AreParts-more, fifos_more}
use Rattle.ring_region.proofs.rings.Rings.new.Goals as goal

pub loop-capacity-preserved : goal.loop-capacity-preserved
loop-capacity-preserved c =
    let l = c.loop-capacity in
    let i = l.capacity-index in
    let size = get_or c.args.capacities.now i 0 in
    let end_is : c.in-Some.end ≡ l.total + size = search rules in
    let part : ℕ → Part = λ e. record { begin = l.total; end = e; put = l.total; take = l.total; held = 0 } in
    let pushed = c.in_ok-push.ensures.items in
    record {
      total = grind (arith, common_steps, end_is, l.invariant.total);
      parts = subst (AreParts c.in-Some.end) (sym pushed)
          (subst (λ e. AreParts e (l.parts.items ++ part e ∷ [])) (sym end_is)
          (AreParts-more l.total size l.parts.items l.invariant.parts (c.requires.positive i 0 c.loop-capacity-test.true)));
      empty = λ region. ap (map (fifo_of region)) (pushed ∙ ap (λ e. l.parts.items ++ part e ∷ []) end_is)
          ∙ fifos_more region l.parts.items c.args.capacities.now i l.total size c.loop-capacity-test.true refl (l.invariant.empty region);
    }
