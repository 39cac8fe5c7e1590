use Rattle.queue_trials.proofs.pop_all.Given as goal

abbrev pub decreases-loop-offer : goal.decreases-loop-offer
decreases-loop-offer g l = l.queue.len
