-- The layout of a program's plan.
use Rattle.std.proofs.Common.{◌≡◌, ℕ, ◌<◌, ◌≤◌, List, map, get_or, refl, sym, ◌∙◌, ap, subst, arith}
use Rattle.std.proofs.lemmas.List.Elements.{All-map}
use Rattle.delay_net.specs.Shape.{IsNet}
use Rattle.delay_net.specs.Windows.{age, at_least_0}
use Rattle.delay_net.specs.declared.net.Read.{Read}
use Rattle.net_shape.specs.Plans.{Plan}
use Rattle.net_shape.specs.declared.kinds.Kind.{Kind}
use Rattle.plan_net.specs.Layouts.{IsLayout}
use Rattle.reuse_chain.specs.Lanes.{greatest}
use Rattle.reuse_chain.specs.Limits.{age_end}
use Rattle.soda_ir.specs.Program.{PlainProgram}
use Rattle.soda_ir.specs.Valid.{IsSound}
use Rattle.time_stages.specs.Staged.{staged_reads, staged_tensors, staged_widths}
use Rattle.net_build.specs.Limits.{most_delay}
use Rattle.net_build.specs.Planned.{kind_of, plan_of}
use Rattle.net_build.proofs.Ages.{age_short}
use Rattle.net_build.proofs.Programs.{kinds_length, plan_is, widths_length}

module _ (p : PlainProgram) (delays : List ℕ) where
  pub layout_is : IsSound p → IsNet (staged_widths p) (staged_reads p) → greatest delays ≤ most_delay
      → IsLayout (plan_of p delays) (map (λ read. at_least_0 (age delays read)) (staged_reads p))
  layout_is sound net kept = record {
    plan = plan_is p sound delays net;
    few_lanes = sound.limits.few_lanes;
    few_tensors = let few = net.few_tensors in omega (arith, few, widths_length p, kinds_length p);
    few_reads = net.few_reads;
    ages = refl;
    short = All-map (λ n. n < age_end) (λ read. at_least_0 (age delays read)) (staged_reads p)
        (λ k d lt. omega (arith, age_short delays (get_or (staged_reads p) k d) most_delay kept (net.offsets k d lt)));
  }

  -- from its parts
  pub layout_from : (u : ℕ) (kinds : List Kind) (reads : List Read) (copied ages : List ℕ) → u ≡ p.unroll → kinds ≡ map (kind_of p) (staged_tensors p)
      → reads ≡ staged_reads p → copied ≡ delays → ages ≡ map (λ read. at_least_0 (age delays read)) (staged_reads p) → IsSound p
      → IsNet (staged_widths p) (staged_reads p) → greatest delays ≤ most_delay
      → IsLayout (record { unroll = u; kinds = kinds; reads = reads; delays = copied }) ages
  layout_from u kinds reads copied ages e f g h k sound net kept =
      let same : ◌≡◌ {A = Plan} (record { unroll = u; kinds = kinds; reads = reads; delays = copied }) (plan_of p delays)
      = ap (λ x. record { unroll = x; kinds = kinds; reads = reads; delays = copied }) e
      ∙ ap (λ x. record { unroll = p.unroll; kinds = x; reads = reads; delays = copied }) f
      ∙ ap (λ x. record { unroll = p.unroll; kinds = map (kind_of p) (staged_tensors p); reads = x; delays = copied }) g
      ∙ ap (λ x. record { unroll = p.unroll; kinds = map (kind_of p) (staged_tensors p); reads = staged_reads p; delays = x }) h in
      subst (λ (q : Plan). IsLayout q ages) (sym same) (subst (λ (xs : List ℕ). IsLayout (plan_of p delays) xs) (sym k) (layout_is sound net kept))
