use Rattle.event_queue.proofs.near.NearMoments.new.Goals as goal

pub invariant_of-result : goal.invariant_of-result
invariant_of-result c = record { there = tt; least = tt; none = c.new.ensures }
