use Rattle.std.proofs.Common.{sym, ap, subst, ◌∙◌, Ok}
use Rattle.reg_tree.specs.declared.op.Legality.{Legality}
use Rattle.hive_records.specs.Images.{BinsEncodeTree}
use Rattle.hive_flush.proofs.Editing.{within, legal_after, opened_after, refused_after, done_after}
use Rattle.hive_flush.proofs.change_replay.edit_on.Goals as goal

pub returns-in-Ok-Opened-clause-encodes : goal.returns-in-Ok-Opened-clause-encodes
returns-in-Ok-Opened-clause-encodes c = λ _.
    let tree = c.args.made.now.tree in
    subst (BinsEncodeTree c.args.image.now.bytes c.args.root 5) (sym (opened_after tree c.args.op.now c.args.moment (sym c.judge.ensures ∙ c.in-Ok-Opened.is ∙ ap (λ (l : Legality). Ok l) c.in-Ok-Opened.field-0-is))) (c.requires.encodes c.in-Done.is)

pub returns-in-Err-clause-encodes : goal.returns-in-Err-clause-encodes
returns-in-Err-clause-encodes c = λ _.
    let tree = c.args.made.now.tree in
    subst (BinsEncodeTree c.args.image.now.bytes c.args.root 5) (sym (refused_after tree c.args.op.now c.args.moment _ (sym c.judge.ensures ∙ c.in-Err.is))) (c.requires.encodes c.in-Done.is)

pub edit_in_place-requires : goal.edit_in_place-requires
edit_in_place-requires c =
    let tree = c.args.made.now.tree in
    record {
      stands = (
        tree,
        (c.requires.encodes c.in-Done.is, within tree c.weight.result c.root.ensures.encodable c.weight.ensures c.if-weight-gt-MOST_WEIGHT.false),
        sym c.judge.ensures ∙ c.in-Ok-Legal.is ∙ ap (λ (l : Legality). Ok l) c.in-Ok-Legal.field-0-is,
        c.of-presence.ensures,
      );
    }

pub returns-in-Ok-Legal-clause-encodes : goal.returns-in-Ok-Legal-clause-encodes
returns-in-Ok-Legal-clause-encodes c =
    let tree = c.args.made.now.tree in
    let legal = sym c.judge.ensures ∙ c.in-Ok-Legal.is ∙ ap (λ (l : Legality). Ok l) c.in-Ok-Legal.field-0-is in
    done_after c.edit_in_place.result c.edit_in_place.new.image.bytes c.args.root _ _ (legal_after tree c.args.op.now c.args.moment legal)
    (λ done. c.edit_in_place.ensures.done done tree (c.requires.encodes c.in-Done.is, within tree c.weight.result c.root.ensures.encodable c.weight.ensures c.if-weight-gt-MOST_WEIGHT.false))
