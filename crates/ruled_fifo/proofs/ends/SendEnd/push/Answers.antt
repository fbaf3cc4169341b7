use Rattle.ruled_fifo.proofs.Keeps.{sends, learns_sent}
use Rattle.ruled_fifo.proofs.ends.SendEnd.push.Goals as goal

pub push_as-requires-clause-rule : goal.push_as-requires-clause-rule
push_as-requires-clause-rule g c = (sends _ _ _ _ c.args.self.now.may_send, learns_sent _ _ c.args.self.now.may_send)
