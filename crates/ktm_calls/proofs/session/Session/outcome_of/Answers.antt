use Rattle.std.proofs.Common.{refl}
use Rattle.published_trees.proofs.Prefixes.{prefix_self}
use Rattle.published_trees.proofs.Views.{begin_step}
use Rattle.ktm_calls.proofs.session.Session.outcome_of.Goals as goal

pub enter_as-requires : goal.enter_as-requires
enter_as-requires g c x views h at = (x.list, (h.0, h.1, begin_step x.list x.list views _ (prefix_self x.list) h.2), (h.0, h.1, h.2 _ _ at, refl))
