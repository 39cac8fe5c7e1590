-- The counts of measuring are those of the cells to which there is a path. Assumes nothing.
use Rattle.std.proofs.Common.{ℕ, Bool, true, false, MatchBool, sym, subst}
use Rattle.board.specs.Sizes.{area}
use Rattle.lengths.specs.Kinds.{KindLaws}
use Rattle.gauges.specs.Meanings.{Lawful}
use Rattle.measuring.specs.Boards.{open_neighbours}
use Rattle.measuring.specs.Maps.{counts_of, reached_count, step_count}
use Rattle.measuring.specs.Paths.{Measuring}
use Rattle.measuring.specs.Rankings.{is_ranked, ranking}
use Rattle.measuring.proofs.Ranked.{ranked_count, ranked_sum, ranking_sound}
use Rattle.geodesics.specs.Fitting.{Fitting}
use Rattle.geodesics.specs.Least.{NoPath, Shortest, measured_record}
use Rattle.geodesics.proofs.Records.{measured_reached}
use Rattle.runs.specs.Said.Said.{measured as told}
use Rattle.runs.specs.Truths.{CountsAre}
use Rattle.runs.proofs.Ranks.{least}

module _ {L R : Type 0} (m : Measuring L R) (laws : KindLaws m.kind)
    (lawful : Lawful m.kind m.gauge) (fits : Fitting m.board) where
  some_shortest : (b : Bool) (j : ℕ) (a : L) → MatchBool b (Shortest m j a) (NoPath m j) →
      MatchBool b ((a : L) × Shortest m j a) (NoPath m j)
  some_shortest true j a h = (a, h)
  some_shortest false j a h = h

  pub counts_shown : CountsAre m (told (counts_of m))
  unfolding reached_count step_count
  counts_shown =
      let sound = ranking_sound m laws in
      record {
        reached = is_ranked (ranking m);
        right = λ j lt.
            subst (λ b. MatchBool b ((a : L) × Shortest m j a) (NoPath m j)) (measured_reached m j lt)
            (some_shortest (measured_record m j).reached j _ (least m laws lawful fits j lt));
        is = λ k. told (record {
          reached = sym (ranked_count sound) k;
          steps =
              ranked_sum (open_neighbours m.board) (ranking m) (area m.board.size)
              sound.within sound.apart k;
        });
      }
