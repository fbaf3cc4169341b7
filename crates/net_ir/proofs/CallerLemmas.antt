-- What crates above cite: lists that have nothing twice, the queues at a module, what events and visits do to the counts
-- of a state, and that the state of zeros is lawful.
pub use Rattle.net_ir.proofs.Distinct.{Distinct, all_from_has, has, has-get_or, lacks-before, passes_at, place_of}
pub use Rattle.net_ir.proofs.Ends.{Distinct-entrances_among, Distinct-exits_among, has-entrances_among, has-exits_among}
pub use Rattle.net_ir.proofs.Effects.{has-takes, send_is, take_is}
pub use Rattle.net_ir.proofs.Steps.{IsLawful-zeros, sent_between, taken_between}
pub use Rattle.net_ir.proofs.CycleSteps.{all_events, event_parts, fired_lawful, fired_one, held_one, met_one, visit_fired, visit_kept}
