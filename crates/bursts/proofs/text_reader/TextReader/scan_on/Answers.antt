use Rattle.std.proofs.Common.{◌≡◌, ◌≤◌, ◌-◌, List, ℕ, ℤ, length, false, refl, sym, subst, ap, ◌∙◌, arith}
use Rattle.array_bytes.specs.Machine.Scans.{Finds, IfNothing, IsScanOf}
use Rattle.bursts.specs.Machine.Feeds.{unread}
use Rattle.bursts.proofs.TextSteps.{scan_spent, scanned}
use Rattle.bursts.proofs.text_reader.TextReader.scan_on.Goals as goal

pub returns-clause-spent : goal.returns-clause-spent
returns-clause-spent c =
    let P : ℕ → Type 0 = λ k. IfNothing (c.scan-count.result.0 ≡ k) c.scan-count.result.1 in
    scan_spent c.args.self.now.feed.start c.args.self.now.feed.filled c.scan-count.result.0 c.args.self.now.scan.left c.scan-count.new.self.left c.skip.new.self.start c.skip.new.self.filled c.scan-count.result.1 c.requires c.skip.ensures.start c.skip.ensures.filled (subst P c.unread.ensures.count c.scan-count.ensures.all) c.scan-count.ensures.spent

pub returns-clause-at : goal.returns-clause-at
returns-clause-at c = λ bytes place cells a.
    let few : c.scan-count.result.0 ≤ length (unread c.args.self.now.feed) = omega (arith, c.scan-count.ensures.count, ap length c.unread.ensures.value) in
    scanned c.args.self.now _ c.scan-count.result.0 bytes place cells a c.requires few c.skip.ensures.start c.skip.ensures.filled c.skip.ensures.buffer c.skip.ensures.ended c.scan-count.result.1
    (λ before cs h. let P : List ℕ → Type 0 = λ xs. Finds c.scan-count.new.self before xs cs c.scan-count.result.0 c.scan-count.result.1 in subst P c.unread.ensures.value (c.scan-count.ensures.found before cs h))
