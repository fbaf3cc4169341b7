use Rattle.std.proofs.Common.{ℕ, List, ◌+◌, ◌++◌, [], ◌∷◌, append_assoc, get_or, length, drop, pos, sym, ap, ◌∙◌, arith}
use Rattle.std.proofs.lemmas.List.{append-nil}
use Rattle.delay_net.specs.declared.net.Read.{Read}
use Rattle.flow_solve.specs.declared.arc.Arc.{Arc}
use Rattle.flow_solve.specs.machine.Residual.{residual, window_arc, storage_arc, window_back, storage_back}
use Rattle.flow_solve.proofs.StartLemmas.{residual_step, residual_none}
use Rattle.flow_solve.proofs.residual.residual.Goals as goal

pub loop-i-preserved : goal.loop-i-preserved
loop-i-preserved c =
    let reads = c.reads-reads.result.now in
    let hold = c.args.hold.now in
    let need = c.args.need.now in
    let n = length c.weights.result.now in
    let i = c.loop-i.i in
    let d : Read = record { reader = 0; of = 0; offset = pos 0 } in
    let size = ap length c.reads-reads.ensures.value in
    let step = residual_step n reads hold need i d c.loop-i-test.true (omega (arith, size, c.requires.holds, c.loop-i-test.true))
    (omega (arith, size, c.requires.needs, c.loop-i-test.true)) in
    let four : List Arc = window_arc (get_or reads i d) ∷ storage_arc n (get_or reads i d) ∷ window_back (get_or reads i d) (get_or need i 0)
    ∷ storage_back n (get_or reads i d) (get_or hold i 0) ∷ [] in
    let rest : List Arc = residual n (drop (i + 1) reads) (drop (i + 1) hold) (drop (i + 1) need) in
    ap (λ l. l ++ rest) c.in_ok-add_arcs.ensures ∙ append_assoc c.loop-i.arcs.items four rest ∙ ap (λ l. c.loop-i.arcs.items ++ l) (sym step)
    ∙ c.loop-i.invariant

pub returns : goal.returns
returns c =
    let reads = c.reads-reads.result.now in
    let n = length c.weights.result.now in
    let none = residual_none n reads c.args.hold.now c.args.need.now c.loop-i.i c.loop-i-test.false in
    sym (append-nil c.loop-i.arcs.items) ∙ ap (λ l. c.loop-i.arcs.items ++ l) (sym none) ∙ c.loop-i.invariant
    ∙ ap (λ (ws : List ℕ). residual (length ws) reads c.args.hold.now c.args.need.now) c.weights.ensures.value
    ∙ ap (λ (rs : List Read). residual (length c.args.net.now.weights) rs c.args.hold.now c.args.need.now) c.reads-reads.ensures.value
