use Rattle.std.proofs.Common.{◌++◌, ◌∷◌, [], flat_map, get_or, refl, ◌∙◌, ap, sym, subst, arith, Ok}
use Rattle.std.proofs.lemmas.List.{take_all}
use Rattle.hive_records.specs.Readers.{each, done}
use Rattle.hive_records.specs.Lists.{leaf_at}
use Rattle.hive_records.specs.Follows.{Follows}
use Rattle.hive_records.proofs.Each.{each_starts}
use Rattle.hive_records.proofs.Follow.{follows_on, follows_out}
use Rattle.hive_load_parts.specs.CellReads.{marks_of}
use Rattle.hive_load_parts.proofs.Spread.{spreads_none, spreads_on}
use Rattle.hive_load_parts.proofs.Kit.{done_follows}
use Rattle.hive_load_parts.proofs.BigSteps.{flat_more}
use Rattle.hive_load_parts.proofs.Loops.{each_next, each_out}
use Rattle.hive_load_parts.proofs.lists.leaves.Goals as goal

pub loop-at-init : goal.loop-at-init
loop-at-init c = record { covers = refl; works = omega arith; spreads = spreads_none c.args.image.now.bytes c.args.seen.now; reads = λ cells shows. ([], c.new-subkey_list.ensures.items, each_starts leaf_at cells (marks_of c.args.seen.now)) }

pub returns-in-Err-clause-reads : goal.returns-in-Err-clause-reads
returns-in-Err-clause-reads c = λ cells shows.
    let inv = c.loop-at.invariant.reads cells shows in
    follows_out (each leaf_at c.args.lists.now) _ cells (marks_of c.args.seen.now) (marks_of c.leaf.new.seen) (marks_of c.leaf.new.seen) c.in-Err.refusal
    (each_out leaf_at c.args.lists.now c.loop-at.at-index 0 (get_or c.args.lists.now c.loop-at.at-index 0) cells (marks_of c.args.seen.now) (marks_of c.loop-at.seen) (marks_of c.leaf.new.seen) inv.0 c.in-Err.refusal c.loop-at-test.true refl inv.2 (c.in-Err.ensures.reads cells shows))

pub loop-at-preserved : goal.loop-at-preserved
loop-at-preserved c = record {
  covers = c.leaf.ensures.covers ∙ c.loop-at.invariant.covers;
  works = omega (arith, c.in-Ok.ensures.works, c.loop-at.invariant.works);
  spreads = spreads_on c.loop-at.invariant.spreads c.in-Ok.ensures.spreads;
  reads = λ cells shows.
      let inv = c.loop-at.invariant.reads cells shows in (
        inv.0 ++ c.in-Ok.more.items ∷ [],
        c.in_ok-extend_from_slice.ensures.items ∙ ap (λ z. c.loop-at.subkey_list.items ++ z) c.deref.ensures.value ∙ ap (λ z. z ++ c.in-Ok.more.items) inv.1 ∙ sym (flat_more inv.0 c.in-Ok.more.items),
        each_next leaf_at c.args.lists.now c.loop-at.at-index 0 (get_or c.args.lists.now c.loop-at.at-index 0) cells (marks_of c.args.seen.now) (marks_of c.loop-at.seen) (marks_of c.leaf.new.seen) inv.0 c.in-Ok.more.items c.loop-at-test.true refl inv.2 (c.in-Ok.ensures.reads cells shows),
      );
}

pub returns-clause-reads : goal.returns-clause-reads
returns-clause-reads c = λ cells shows.
    let inv = c.loop-at.invariant.reads cells shows in
    follows_on (each leaf_at c.args.lists.now) (λ found. done (flat_map (λ l. l) found)) cells (marks_of c.args.seen.now) (marks_of c.loop-at.seen) (marks_of c.loop-at.seen) inv.0 (Ok c.loop-at.subkey_list.items)
    (subst (λ ws. Follows (each leaf_at ws) cells (marks_of c.args.seen.now) (marks_of c.loop-at.seen) (Ok inv.0)) (take_all c.loop-at.at-index c.args.lists.now c.loop-at-test.false) inv.2)
    (done_follows (flat_map (λ l. l) inv.0) c.loop-at.subkey_list.items cells (marks_of c.loop-at.seen) (sym inv.1))
