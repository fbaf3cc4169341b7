use Rattle.std.proofs.Common.{ap, Err}
use Rattle.module_text.specs.Designs.{plain_design}
use Rattle.module_text.specs.Texts.{lines_behind, version_1}
use Rattle.design_reader.specs.Refused.{IsRefusedBehind}
use Rattle.design_reader.specs.machine.Pieces.{IsEndStop}
use Rattle.soda_ir.specs.Program.{plain}
use Rattle.design_reader.proofs.Behind.{at_limit, none_or_some, plan_assigned, plan_meets, refused_more}
use Rattle.design_reader.proofs.Made.{at_made_end, made_design}
use Rattle.design_reader.proofs.reading.design_told.Goals as goal

pub design-requires-clause-assignment : goal.design-requires-clause-assignment
design-requires-clause-assignment c =
    let n = c.args.plan in
    plan_assigned (plain c.args.program) c.args.text.now n.delays.items n.flow.hold n.flow.need n.rest.now n.lines c.requires.plan

pub design-requires-clause-meets : goal.design-requires-clause-meets
design-requires-clause-meets c =
    let n = c.args.plan in
    plan_meets (plain c.args.program) c.args.text.now n.delays.items n.flow.hold n.flow.need n.rest.now n.lines c.requires.plan

pub returns-in-Ok-clause-text : goal.returns-in-Ok-clause-text
returns-in-Ok-clause-text c =
    let n = c.args.plan in
    made_design c.if_network.result c.in-Ok.design c.args.program c.args.text.now n.delays.items n.flow.hold n.flow.need n.rest.now n.lines
    c.requires.plan c.in-Ok.ensures.made c.in-Ok.ensures.is c.if_network.ensures.same c.if_network.ensures.text

pub returns-in-Ok-clause-refused : goal.returns-in-Ok-clause-refused
returns-in-Ok-clause-refused c =
    let n = c.args.plan in
    refused_more c.if_network.result (IsEndStop (lines_behind version_1 (plain_design c.in-Ok.design)) n.rest.now n.lines)
    (IsRefusedBehind version_1 (plain c.args.program) c.args.text.now)
    (λ line s. at_made_end c.in-Ok.design c.args.program c.args.text.now n.delays.items n.flow.hold n.flow.need n.rest.now n.lines line
    c.requires.plan c.in-Ok.ensures.made c.in-Ok.ensures.is s)
    c.if_network.ensures.refused

pub returns-in-Err-Limit-clause-refused : goal.returns-in-Err-Limit-clause-refused
returns-in-Err-Limit-clause-refused c =
    let n = c.args.plan in
    at_limit version_1 (plain c.args.program) c.args.text.now n.delays.items n.flow.hold n.flow.need n.rest.now n.lines c.requires.plan
    (none_or_some _ _ (c.in-Err-Limit.ensures.limit _ _ (ap (λ f. Err f) c.in-Err-Limit.field-0-is)))
