use Rattle.std.proofs.Common.{sym, subst}
use Rattle.commit_journal.specs.declared.store_layout.Layout.{Layout}
use Rattle.recovery.specs.Created.{AreImagesIn}
use Rattle.recovery.proofs.creation.images_in.Goals as goal

pub returns-in_ok-push-in-WithOutcomes-clause-images : goal.returns-in_ok-push-in-WithOutcomes-clause-images
returns-in_ok-push-in-WithOutcomes-clause-images c =
    subst (λ (l : Layout). AreImagesIn c.args.id l c.args.named.items c.push.new.self.items) (sym c.in-WithOutcomes.is)
    (c.in_ok-outcomes-in-WithOutcomes.outcomes, c.in_ok-push-in-WithOutcomes.ensures.items, c.in_ok-outcomes-in-WithOutcomes.ensures.image)
