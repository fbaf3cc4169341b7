use Rattle.std.proofs.Common.{◌≡◌, ◌≤◌, ◌+◌, ◌-◌, ◌*◌, ℕ, vec_len, sym, subst}
use Rattle.bursts.proofs.RawSteps.{rest_room}
use Rattle.bursts.proofs.raw_reader.RawReader.rest.Goals as goal

pub returns-clause-room : goal.returns-clause-room
returns-clause-room c =
    let r = c.args.self.now in
    subst (λ (n : ℕ). r.feed.start + (n - r.number) * r.size ≤ vec_len r.feed.buffer) (sym c.min.ensures) (rest_room r.feed.start r.size r.word r.number r.first r.cells _ r.place r.begun r.within r.buffer)
