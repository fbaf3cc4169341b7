use Rattle.std.proofs.Common.{◌∙◌, ◌++◌, ap, length}
use Rattle.net_shape.specs.Lists.{joined}
use Rattle.net_shape.specs.Modules.{block}
use Rattle.plan_net.proofs.Steps.{modules_whole}
use Rattle.plan_net.proofs.charts.arrange.Goals as goal

pub returns : goal.returns
returns c =
    let p = c.args.layout.now in
    record {
      modules = modules_whole p c.push_blocks.new.modules.items
          (c.in_ok-push_blocks.ensures.modules ∙ ap (λ ms. ms ++ joined (block p) (length p.kinds)) c.in_ok-push_all_far.ensures.modules);
      taps = c.in_ok-taps.ensures;
      served = c.in_ok-served.ensures;
      tops = c.in_ok-push_all_far.ensures.tops;
      begins = c.in_ok-push_blocks.ensures.begins;
      nears = c.in_ok-push_blocks.ensures.nears;
      ends = c.in_ok-push_blocks.ensures.ends;
    }
