-- What was read of the words behind a mode, with what it refers to.
use Rattle.std.specs.Prelude.{map, option_map}
use Rattle.command_words.specs.Orders.{origin}
use Rattle.command_words.specs.Orders as orders
use Rattle.command_words.specs.declared.named.Named.{Named}

abbrev pub named_of : Named → orders.Named
named_of n = record {
  source = origin n.source;
  rows = n.rows;
  target = option_map (λ name. name.now) n.target;
  names = map (λ name. name.now) n.names.now;
}
