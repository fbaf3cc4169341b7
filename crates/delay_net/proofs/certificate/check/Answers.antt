use Rattle.std.proofs.Common.{rules}
use Rattle.delay_net.specs.Certificate.{Fits}
use Rattle.delay_net.proofs.CallerLemmas.{fitting_is_least}
use Rattle.delay_net.proofs.certificate.check.Goals as goal

pub returns-then-has_value-clause-least : goal.returns-then-has_value-clause-least
returns-then-has_value-clause-least c = λ yes.
    let net = c.args.net.now in
    let flow = c.args.flow.now in
    let fits : Fits net.weights net.reads c.args.delays.now flow.hold flow.need = search rules in
    fitting_is_least net.weights net.reads c.args.delays.now flow.hold flow.need c.has_value-has_value.ensures.net.order fits
