use Rattle.std.proofs.Common.{◌-◌, ◌∙◌, arith}
use Rattle.commit_journal.proofs.Blocks.{block_moved, front_moved}
use Rattle.commit_journal.proofs.moves.move_to_front.Goals as goal

pub loop-moved-preserved : goal.loop-moved-preserved
loop-moved-preserved c =
    let l = c.loop-moved.invariant in
    record {
      within = omega (arith, c.min-count.ensures, c.loop-moved-test.true);
      long = c.move_block.ensures.len ∙ l.long;
      done = block_moved c.args.bytes.now c.loop-moved.bytes c.move_block.new.bytes c.args.start c.loop-moved.moved c.min-count.result l.done l.rest c.move_block.ensures.before c.move_block.ensures.moved;
      rest = λ i le. c.move_block.ensures.after i le ∙ l.rest i (omega (arith, le));
    }

pub returns-clause-moved : goal.returns-clause-moved
returns-clause-moved c =
    let l = c.loop-moved.invariant in
    front_moved c.args.bytes.now c.loop-moved.bytes c.args.start (c.args.end - c.args.start) (omega (arith, c.requires.order, c.requires.inside)) l.long
    (λ j less. l.done j (omega (arith, less, c.loop-moved-test.false)))
