use Rattle.std.proofs.Common.{◌≡◌, ◌+◌, ◌==◌, get_or, map, take, true, false, Vec, Global, ℤ, pos, sym, ◌∙◌, subst, arith, rules, FitsSigned, to_z, of_z}
use Rattle.std.specs.Int.{w128}
use Rattle.std.proofs.lemmas.Bool.Decides.{nat_tests}
use Rattle.std.proofs.lemmas.Int.{to_z-of_z}
use Rattle.std.proofs.lemmas.List.{get_or_default}
use Rattle.delay_net.specs.declared.net.Read.{Read}
use Rattle.soda_words.specs.IntType.{IntType}
use Rattle.int_types.specs.Ranges.{InRange}
use Rattle.int_types.proofs.CallerLemmas.{wrapped_in_range}
use Rattle.soda_ir.specs.Program.{plain}
use Rattle.soda_eval.specs.Runs.{HasValues}
use Rattle.staged_cells.specs.Cells.{reads_by, type_at}
use Rattle.stage_rows.proofs.Ports.{port_more, port_same}
use Rattle.stage_rows.proofs.tests.modules.make_ports.Goals.{then-read-number+in_ok-push, else-read-number}
use Rattle.stage_rows.proofs.tests.modules.make_ports.Goals as goal

pub loop-read-preserved : goal.loop-read-preserved
loop-read-preserved c =
    let d : Read = record { reader = 0; of = 0; offset = pos 0 } in
    let rs = c.as_slice-reads.result.now in
    let i = c.loop-read.read-index in
    let n = c.args.number in
    let r : Read = get_or rs i d in
    let f : Read → IntType = λ q. type_at (plain c.args.program.now) q.of in
    let is : r ≡ get_or rs i r = get_or_default rs i d r c.loop-read-test.true in
    elim c.if-read-number.branch [
      | then-read-number+in_ok-push w ↦
          let a : r.reader ≡ n = w.if-read-number.true in
          let mine : (r.reader == n) ≡ true = grind (arith, nat_tests, a) in
          let fits : FitsSigned w128 w.wrap-value.result = search rules in
          let v = to_z w128 (of_z w128 w.wrap-value.result) in
          let range : InRange (f r) v = subst (λ (t : IntType). InRange t v) w.type_at.ensures
          (subst (λ x. InRange w.type_at.result x) (sym (to_z-of_z w128 w.wrap-value.result fits ∙ w.wrap-value.ensures.value)) (wrapped_in_range w.type_at.result _)) in
          subst (λ (ps : Vec ℤ Global). HasValues (map f (reads_by (take (i + 1) rs) n)) ps.items) (sym w.ports-is)
          (port_more f rs i n r c.loop-read.ports.items w.push.new.self.items v c.loop-read-test.true is mine c.loop-read.invariant range w.in_ok-push.ensures.items)
      | else-read-number w ↦
          let a = w.if-read-number.false in
          let other : (r.reader == n) ≡ false = grind (arith, nat_tests, a) in
          subst (λ (ps : Vec ℤ Global). HasValues (map f (reads_by (take (i + 1) rs) n)) ps.items) (sym w.ports-is)
          (port_same f rs i n r c.loop-read.ports.items c.loop-read-test.true is other c.loop-read.invariant)
    ]
