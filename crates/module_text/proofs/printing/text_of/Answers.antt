use Rattle.module_text.specs.Designs.{plain_design}
use Rattle.module_text.proofs.Printed.{whole}
use Rattle.module_text.proofs.printing.text_of.Goals as goal

pub returns-clause-text : goal.returns-clause-text
returns-clause-text c =
    whole (plain_design c.args.design.now) c.network.result.now c.add_to_total.new.text.items c.add_network.new.text.items
    c.in_ok-add_to_total.ensures.adds c.in_ok-add_network.ensures c.network.ensures
