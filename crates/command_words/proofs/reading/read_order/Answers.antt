use Rattle.std.proofs.Common.{map, string_bytes}
use Rattle.std.proofs.lemmas.Result.{IfOk-weaker, err_from_is_err_and}
use Rattle.command_words.specs.Orders.{asked}
use Rattle.command_words.proofs.Forms.{order_of_form}
use Rattle.command_words.proofs.Ordered.{order_of-taken, order_of-untaken}
use Rattle.command_words.proofs.reading.read_order.Goals as goal

pub returns-in_err-matches-clause-usage : goal.returns-in_err-matches-clause-usage
returns-in_err-matches-clause-usage c =
    let p = err_from_is_err_and c.from_residual.result c.from_residual.ensures.1 in
    rw (p.1, p.2) (λ e. order_of-untaken (map string_bytes c.args.words.now) (c.in_err-matches.ensures.usage (cc e)))

pub returns-clause-found : goal.returns-clause-found
returns-clause-found c =
    let parsed = c.in_ok-matches.ensures in
    IfOk-weaker c.order_in-order.result _ _ (λ o h.
    order_of-taken (map string_bytes c.args.words.now) _ _ parsed.taken parsed.rows h) c.order_in-order.ensures.found

pub returns-clause-form : goal.returns-clause-form
returns-clause-form c =
    let words = map string_bytes c.args.words.now in
    let parsed = c.in_ok-matches.ensures in
    IfOk-weaker c.order_in-order.result _ _ (λ o h.
    order_of_form words (asked o) (order_of-taken words _ _ parsed.taken parsed.rows h)) c.order_in-order.ensures.found

pub returns-clause-usage : goal.returns-clause-usage
returns-clause-usage c = λ e.
    let parsed = c.in_ok-matches.ensures in
    order_of-taken (map string_bytes c.args.words.now) _ _ parsed.taken parsed.rows (c.order_in-order.ensures.usage e)
