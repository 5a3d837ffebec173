use Rattle.published_trees.proofs.Views.{begin_new}
use Rattle.published_trees.proofs.publication.readers_of.Goals as goal

pub reader-requires : goal.reader-requires
reader-requires g c x views h = (h.0, h.1, begin_new x.list views h.2)
