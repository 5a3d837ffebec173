use Rattle.std.proofs.Common.{◌∙◌, ap, sym}
use Rattle.store_model.specs.Machine.{Machine}
use Rattle.store_model.specs.declared.bounds.StoreBounds.{StoreBounds}
use Rattle.store_model.specs.declared.event.Event.TheVariants as event
use Rattle.store_model.specs.declared.event.Reply.TheVariants as reply
use Rattle.ktm_calls.proofs.laws.folded_engines_are_shared_again.Goals as goal

pub returns : goal.returns
returns c = λ trees number hives folded_at old new of none f.
    let kept = c.folds_keep.ensures old new folded_at f in
    let bounds = c.openings_stay.ensures.bounds old new event.Fold (reply.Folded folded_at) f in (
      record {
        opened = ap (λ (m : Machine). m.opened) f.next;
        before = ap (λ (m : Machine). m.before) f.next ∙ sym f.told;
        hives = ap (λ (b : StoreBounds). b.hives) bounds.0 ∙ of.hives;
      },
      kept.7,
      kept.3 ∙ none,
    )
