use Rattle.std.proofs.lemmas.List.Sorted.{IsPermutation-trans}
use Rattle.queue.proofs.heap.replace_first.Goals as goal

pub returns : goal.returns
returns g c = record {
  ordered = c.sift_up.ensures.ordered;
  shuffled = IsPermutation-trans _ _ _ (c.sift_down-hole.ensures.shuffled c.args.moving) c.sift_up.ensures.shuffled;
}
