use Rattle.std.proofs.Common.{rules}
use Rattle.delay_net.specs.Windows.{MeetsWindow}
use Rattle.design_lines.proofs.ReadLines.{read_case, read_none, read_yes}
use Rattle.design_lines.proofs.told.read_told.Goals as goal

pub returns-in-Some : goal.returns-in-Some
returns-in-Some c =
    let r = c.args.read in
    let ds = c.args.delays.now in
    let p = c.in-Some.pair in
    let met : MeetsWindow ds r = search rules in
    let told = rw c.in-Some.is at c.in_ok-pair.ensures in
    read_case c.args.number r ds c.args.text.now p.rest.now p.first p.second c.amounts_of.result met told.0 told.1
    (read_yes c.args.number r ds c.age_of-age.result c.args.text.now p.rest.now p.first p.second c.age_of-age.ensures told.2) c.amounts_of.ensures

pub returns-in-None : goal.returns-in-None
returns-in-None c =
    let told = rw c.in-None.is at c.in_ok-pair.ensures in
    read_none c.args.number c.args.read c.args.delays.now c.age_of-age.result c.args.text.now c.age_of-age.ensures told
