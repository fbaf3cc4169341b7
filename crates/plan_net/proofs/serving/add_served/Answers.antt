use Rattle.std.proofs.Common.{◌++◌, [], ◌∷◌, ◌∙◌, ap, arith, get_or, refl, set, subst, sym}
use Rattle.std.specs.List.{Contains}
use Rattle.std.proofs.lemmas.List.{get_or_default}
use Rattle.std.proofs.lemmas.List.Elements.{Contains-get_or}
use Rattle.std.proofs.lemmas.Result.{on_ok_weaker}
use Rattle.reuse_chain.proofs.CallerLemmas.{rises}
use Rattle.plan_net.proofs.ByTap.{none_served, one_served}
use Rattle.plan_net.proofs.serving.add_served.Goals as goal

pub returns-in-Some : goal.returns-in-Some
returns-in-Some c = λ ns e.
    let p = c.args.layout.now in
    let ts = c.args.taps.now in
    let n = c.args.number in
    let held = c.args.served.now.items in
    let place = c.in-Some.place in
    on_ok_weaker c.push.result
    (λ h. ap (set held place) (h ∙ ap (λ xs. xs ++ n ∷ []) (c.index_mut.ensures.value ∙ get_or_default held place _ [] (omega (arith, c.in-Some.ensures.within, c.requires.each))))
    ∙ ap (λ ys. set ys place (get_or ys place [] ++ n ∷ [])) e
    ∙ one_served p c.args.lane n ns ts place (rises ts c.requires.rising) c.in-Some.ensures.within (c.in-Some.ensures.is ∙ c.tap_of.ensures)) c.push.ensures.ok

pub returns-in-None : goal.returns-in-None
returns-in-None c = λ ns e.
    let ts = c.args.taps.now in
    e ∙ none_served c.args.layout.now c.args.lane c.args.number ns ts
    (λ k lt s. c.in-None.ensures.none refl (subst (Contains ts) (s ∙ sym c.tap_of.ensures) (Contains-get_or ts k 0 lt)))
