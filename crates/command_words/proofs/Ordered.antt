-- The order of words, by whether the command takes them.
use Rattle.std.proofs.Common.{◌≡◌, ◌∙◌, List, None, Option, ap, false, if◌then◌else◌, sym, true}
use Rattle.clap.specs.Walk.{Row, Text}
use Rattle.command_words.specs.Command.{are_taken, found_in}
use Rattle.command_words.specs.Orders.{Asked, order_in, order_of}

-- of words that are taken it is the order of what was found in them
pub order_of-taken : (words : List Text) (rows : List Row) (o : Option Asked) → are_taken words ≡ true → rows ≡ found_in words
    → order_in rows ≡ o → order_of words ≡ o
unfolding order_of
order_of-taken words rows o is found order =
    ap (λ t. if t then order_in (found_in words) else None) is ∙ (ap order_in (sym found) ∙ order)

-- of others there is none
pub order_of-untaken : (words : List Text) → are_taken words ≡ false → order_of words ≡ None
unfolding order_of
order_of-untaken words is = ap (λ t. if t then order_in (found_in words) else None) is
