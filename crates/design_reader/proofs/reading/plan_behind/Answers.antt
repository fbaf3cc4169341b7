use Rattle.std.proofs.Common.{◌≡◌, ◌+◌, ◌++◌, ℕ, suc, List, sym, ap, subst, ◌∙◌, arith, length, MatchOption}
use Rattle.std.proofs.lemmas.Result.{err_from_is_err_and}
use Rattle.design_reader.specs.Refused.{IsRefusedBehind, lines_before}
use Rattle.design_reader.specs.Stops.{IsReadStop}
use Rattle.design_reader.specs.Told.{AreReadsTold, told_reads}
use Rattle.design_reader.specs.machine.Pieces.{IsPlanTold}
use Rattle.soda_print.specs.Canonical.{ended}
use Rattle.module_text.specs.Texts.{version_1}
use Rattle.soda_ir.specs.Program.{plain}
use Rattle.design_reader.proofs.Behind.{FollowsTotal, NoTotal, at_net_read, at_net_total, net_assigned, net_plan, net_reads, same_lists}
use Rattle.design_reader.proofs.Stopping.{refused_on}
use Rattle.design_reader.proofs.reading.plan_behind.Goals as goal

pub reads_told-requires-clause-assignment : goal.reads_told-requires-clause-assignment
reads_told-requires-clause-assignment c =
    let t = c.args.tensors in
    ap length c.deref.ensures.value
    ∙ net_assigned (plain c.args.parts.now) c.args.text.now t.delays.items t.storages.items t.rest.now c.args.net.now.weights c.requires.tensors c.requires.weights

pub returns-in_err-hold-clause-refused : goal.returns-in_err-hold-clause-refused
returns-in_err-hold-clause-refused c =
    let t = c.args.tensors in
    let v = plain c.args.parts.now in
    let p = err_from_is_err_and c.from_residual.result c.from_residual.ensures.1 in
    rw (p.1, p.2) (refused_on c.in_err-hold.field-0.0 (IsReadStop c.args.net.now.reads c.deref.result.now t.rest.now c.args.before)
    (IsRefusedBehind version_1 v c.args.text.now)
    (λ n s. at_net_read version_1 v c.args.text.now t.delays.items t.storages.items t.rest.now c.args.net.now.reads c.args.before n
    c.requires.tensors c.requires.reads c.requires.before
    (subst (λ (ds : List ℕ). IsReadStop c.args.net.now.reads ds t.rest.now c.args.before n) c.deref.ensures.value s))
    c.in_err-hold.ensures.refused)

pub total_told-requires-clause-assignment : goal.total_told-requires-clause-assignment
total_told-requires-clause-assignment c =
    let t = c.args.tensors in
    ap length c.deref-2.ensures.value
    ∙ net_assigned (plain c.args.parts.now) c.args.text.now t.delays.items t.storages.items t.rest.now c.args.net.now.weights c.requires.tensors c.requires.weights

pub total_told-requires-clause-as_many : goal.total_told-requires-clause-as_many
total_told-requires-clause-as_many c =
    let t = c.args.tensors in
    ap length c.deref-3.ensures.value ∙ c.requires.tensors.told.as_many
    ∙ net_assigned (plain c.args.parts.now) c.args.text.now t.delays.items t.storages.items t.rest.now c.args.net.now.weights c.requires.tensors c.requires.weights

pub returns-in-Some-clause-told : goal.returns-in-Some-clause-told
returns-in-Some-clause-told c =
    let t = c.args.tensors in
    let net = c.args.net.now in
    let p = plain c.args.parts.now in
    let ds = t.delays.items in
    let hold = c.in_ok-hold.field-0.hold.items in
    let need = c.in_ok-hold.field-0.need.items in
    let last = c.in_ok-hold.field-0.rest.now in
    let rest = c.in-Some.rest.now in
    let F : (ds ss hold need : List ℕ) → Type 0 = λ a b h n. FollowsTotal net.weights net.reads a b h n last rest in
    let told : AreReadsTold net.reads ds hold need = subst (λ (a : List ℕ). AreReadsTold net.reads a hold need) c.deref.ensures.value c.in_ok-hold.ensures.told in
    let is : t.rest.now ≡ ended (told_reads net.reads ds hold need) ++ last =
    c.in_ok-hold.ensures.text ∙ ap (λ (a : List ℕ). ended (told_reads net.reads a hold need) ++ last) c.deref.ensures.value in
    let all : length hold ≡ length net.reads = c.in_ok-hold.ensures.all in
    let known : F c.deref-2.result.now c.deref-3.result.now c.from_vec.result c.from_vec-2.result =
    subst (λ o. MatchOption o (NoTotal net.weights net.reads c.deref-2.result.now c.deref-3.result.now c.from_vec.result c.from_vec-2.result last)
    (λ r. FollowsTotal net.weights net.reads c.deref-2.result.now c.deref-3.result.now c.from_vec.result c.from_vec-2.result last r.now))
    c.in-Some.is c.in_ok-rest.ensures in
    let f : F ds t.storages.items hold need =
    same_lists F c.deref-2.result.now c.deref-3.result.now c.from_vec.result c.from_vec-2.result ds t.storages.items hold need
    c.deref-2.ensures.value c.deref-3.ensures.value c.from_vec.ensures c.from_vec-2.ensures known in
    let reads = net_reads p ds t.rest.now hold need last net.reads c.requires.reads told all is in
    let number : c.args.before + length c.reads.result.now + 1 ≡ suc (lines_before p + length ds + length hold) = omega (arith, ap length c.reads.ensures.value, all, c.requires.before) in
    let plan = net_plan p c.args.text.now ds t.storages.items hold need t.rest.now last rest net.weights net.reads (c.args.before + length c.reads.result.now + 1)
    c.requires.tensors reads c.requires.weights c.requires.reads f.0 f.1 f.2 number in
    subst (λ (n : List ℕ). IsPlanTold p c.args.text.now ds c.from_vec.result n rest (c.args.before + length c.reads.result.now + 1)) (sym c.from_vec-2.ensures)
    (subst (λ (n : List ℕ). IsPlanTold p c.args.text.now ds n need rest (c.args.before + length c.reads.result.now + 1)) (sym c.from_vec.ensures) plan)

pub returns-clause-refused : goal.returns-clause-refused
returns-clause-refused c =
    let t = c.args.tensors in
    let net = c.args.net.now in
    let p = plain c.args.parts.now in
    let ds = t.delays.items in
    let hold = c.in_ok-hold.field-0.hold.items in
    let need = c.in_ok-hold.field-0.need.items in
    let last = c.in_ok-hold.field-0.rest.now in
    let F : (ds ss hold need : List ℕ) → Type 0 = λ a b h n. NoTotal net.weights net.reads a b h n last in
    let told : AreReadsTold net.reads ds hold need = subst (λ (a : List ℕ). AreReadsTold net.reads a hold need) c.deref.ensures.value c.in_ok-hold.ensures.told in
    let is : t.rest.now ≡ ended (told_reads net.reads ds hold need) ++ last =
    c.in_ok-hold.ensures.text ∙ ap (λ (a : List ℕ). ended (told_reads net.reads a hold need) ++ last) c.deref.ensures.value in
    let all : length hold ≡ length net.reads = c.in_ok-hold.ensures.all in
    let known : F c.deref-2.result.now c.deref-3.result.now c.from_vec.result c.from_vec-2.result =
    subst (λ o. MatchOption o (NoTotal net.weights net.reads c.deref-2.result.now c.deref-3.result.now c.from_vec.result c.from_vec-2.result last)
    (λ r. FollowsTotal net.weights net.reads c.deref-2.result.now c.deref-3.result.now c.from_vec.result c.from_vec-2.result last r.now))
    c.in-None.is c.in_ok-rest.ensures in
    let f : F ds t.storages.items hold need =
    same_lists F c.deref-2.result.now c.deref-3.result.now c.from_vec.result c.from_vec-2.result ds t.storages.items hold need
    c.deref-2.ensures.value c.deref-3.ensures.value c.from_vec.ensures c.from_vec-2.ensures known in
    let reads = net_reads p ds t.rest.now hold need last net.reads c.requires.reads told all is in
    let number : c.args.before + length c.reads.result.now + 1 ≡ suc (lines_before p + length ds + length hold) = omega (arith, ap length c.reads.ensures.value, all, c.requires.before) in
    at_net_total version_1 p c.args.text.now ds t.storages.items hold need t.rest.now last net.weights net.reads (c.args.before + length c.reads.result.now + 1)
    c.requires.tensors reads c.requires.weights c.requires.reads f number
