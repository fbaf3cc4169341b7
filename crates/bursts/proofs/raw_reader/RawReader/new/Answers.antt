use Rattle.std.proofs.Common.{refl}
use Rattle.bursts.proofs.RawSteps.{raw_new}
use Rattle.bursts.proofs.raw_reader.RawReader.new.Goals as goal

pub returns-clause-at : goal.returns-clause-at
returns-clause-at c = λ bytes. raw_new _ bytes c.in_ok-feed.ensures.ended c.in_ok-feed.ensures.start c.in_ok-feed.ensures.filled refl
