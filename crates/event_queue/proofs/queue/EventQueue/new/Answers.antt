use Rattle.event_queue.proofs.Changes.{none_both}
use Rattle.event_queue.proofs.queue.EventQueue.new.Goals as goal

pub returns : goal.returns
returns c = λ t. none_both c.new.result c.new-2.result t (c.new.ensures t) (c.new-2.ensures t)
