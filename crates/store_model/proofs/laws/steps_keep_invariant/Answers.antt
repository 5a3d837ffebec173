use Rattle.store_model.proofs.Keeping.{Laws, within, kept_at_first, kept_after, kept_along, fits_along}
use Rattle.store_model.proofs.Limits.{fits_after}
use Rattle.store_model.proofs.laws.steps_keep_invariant.Goals as goal

laws : goal.After-kept_in_turn → Laws
laws c = record {
  trees = c.trees_stay.ensures.all;
  past = c.stay_legal.ensures;
  more = c.one_more.ensures;
  light = c.weight_alone_refuses.ensures;
  outcomes = record {
    at_commit = record {
      named = c.units_have_names.ensures.named;
      carried = c.commits_are_kept.ensures.carried;
      there = c.commits_are_kept.ensures.there;
    };
    has = c.commits_are_kept.ensures.has;
    in_turn = c.kept_in_turn.ensures;
  };
  holders = c.holders_are_exact.ensures.who;
}

pub returns-clause-begins : goal.returns-clause-begins
returns-clause-begins c = kept_at_first

pub returns-clause-step : goal.returns-clause-step
returns-clause-step c = kept_after (laws c)

pub returns-clause-run : goal.returns-clause-run
returns-clause-run c = kept_along (laws c)

pub returns-clause-room : goal.returns-clause-room
returns-clause-room c = fits_after (within (laws c))

pub returns-clause-room_run : goal.returns-clause-room_run
returns-clause-room_run c = fits_along (laws c)
