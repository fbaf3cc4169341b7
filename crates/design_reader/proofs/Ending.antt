-- Behind the last line of a network.
use Rattle.std.proofs.Common.{◌≡◌, ◌≢◌, ℕ, suc, ◌+◌, List, [], ◌∷◌, ◌++◌, length, refl, ap, subst, codes, arith, length-append}
use Rattle.design_lines.specs.Lines.{module_line, network_lines, queue_line}
use Rattle.design_lines.specs.PlanLines.{numbered}
use Rattle.design_reader.specs.machine.Pieces.{IsEndStop, past}
use Rattle.design_reader.proofs.Telling.{count_numbered}
use Rattle.net_ir.specs.Nets.{Net}
use Rattle.net_ir.specs.declared.network.Module.{Module}
use Rattle.net_ir.specs.declared.network.Queue.{Queue}
use Rattle.soda_print.specs.Canonical.{ended}

-- a text that goes on behind the lines of a network
pub past_lines : (net : Net) (modules : List Module) (queues : List Queue) (text rest : List ℕ) (before : ℕ) → text ≡ ended (network_lines net) ++ rest
    → modules ≡ net.modules → queues ≡ net.queues → rest ≢ [] → IsEndStop (network_lines net) text before (before + (length modules + length queues + 1) + 1)
past_lines net modules queues text [] before is m q some = absurd (some refl)
past_lines net modules queues text (b ∷ rest) before is m q some =
    let a = count_numbered module_line 0 net.modules in
    let e = count_numbered queue_line 0 net.queues in
    let c = length-append (numbered module_line 0 net.modules) (numbered queue_line 0 net.queues ++ codes "end" ∷ []) in
    let d = length-append (numbered queue_line 0 net.queues) (codes "end" ∷ []) in
    let size : suc (before + length (network_lines net)) ≡ before + (length modules + length queues + 1) + 1 =
    omega (arith, a, e, c, d, ap length m, ap length q) in
    subst (IsEndStop (network_lines net) text before) size (past b rest is)
