use Rattle.std.proofs.Common.{List, get_or, pos, refl, slice_get, sym, ap, ◌∙◌}
use Rattle.std.proofs.lemmas.Option.{slice_get-get_or}
use Rattle.delay_net.specs.declared.net.Read.{Read}
use Rattle.design_reader.proofs.Telling.{read_more, read_stop}
use Rattle.design_reader.proofs.plans.reads_told.Goals as goal

abbrev none : Read
none = record { reader = 0; of = 0; offset = pos 0 }

pub returns-in_default-clause-refused : goal.returns-in_default-clause-refused
returns-in_default-clause-refused c =
    let i = c.loop-number.number in
    let rs = c.reads-read-items.result.now in
    let told = rw c.in_default.is at c.in_ok-told.ensures in
    read_stop c.args.net.now.reads c.args.delays.now c.args.text.now c.loop-number.hold.items c.loop-number.need.items c.loop-number.rest.now i c.args.before _
    (get_or rs i none) c.loop-number.invariant
    (ap (λ (xs : List Read). slice_get xs i) (sym c.reads-read-items.ensures.value) ∙ slice_get-get_or rs i none c.loop-number-test.true)
    told refl

pub loop-number-preserved : goal.loop-number-preserved
loop-number-preserved c =
    let i = c.loop-number.number in
    let rs = c.reads-read-items.result.now in
    let t = c.in-Some.told in
    let told = rw c.in-Some.is at c.in_ok-told.ensures in
    read_more c.args.net.now.reads c.args.delays.now c.args.text.now c.loop-number.hold.items c.loop-number.need.items c.loop-number.rest.now t.rest.now _ _ i
    t.hold t.need (get_or rs i none) c.loop-number.invariant
    (ap (λ (xs : List Read). slice_get xs i) (sym c.reads-read-items.ensures.value) ∙ slice_get-get_or rs i none c.loop-number-test.true)
    told.0 told.1 told.2 told.3 c.in_ok-add_to_each.ensures.firsts c.in_ok-add_to_each.ensures.seconds
