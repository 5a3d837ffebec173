use Rattle.std.proofs.Common.{List, [], ◌∷◌, ◌∙◌, length, sym, ap, subst, arith, length-append}
use Rattle.hive_flush.specs.declared.image.HiveImage.{HiveImage}
use Rattle.recovery.specs.Created.{AreImagesOf}
use Rattle.recovery.proofs.Creations.{one_more_image}
use Rattle.recovery.proofs.creation.images_of.Goals as goal

pub loop-hive-preserved : goal.loop-hive-preserved
loop-hive-preserved c =
    let l = c.loop-hive in
    let i = l.invariant in
    record {
      many = ap (λ (hs : List HiveImage). length hs) c.push_reserved.ensures.items ∙ length-append l.images.items (c.in_ok-image.image ∷ []) ∙ omega (arith, i.many);
      room = omega (arith, i.room, c.push_reserved.ensures.capacity);
      images = subst (AreImagesOf c.args.id c.args.number c.args.trees.now) (sym c.push_reserved.ensures.items)
          (one_more_image c.args.id c.args.number c.args.trees.now l.images.items l.hive c.in_ok-image.image c.tree_at.result.now i.many i.images c.tree_at.ensures c.in_ok-image.ensures.image);
    }
