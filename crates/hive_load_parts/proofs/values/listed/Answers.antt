use Rattle.std.proofs.Common.{◌≡◌, ◌<◌, ◌≤◌, ◌+◌, ◌*◌, [], ℕ, List, length, take, get_or, refl, ◌∙◌, ap, sym, subst, arith, Ok}
use Rattle.std.proofs.lemmas.List.{take_all}
use Rattle.reg_tree_parts.specs.declared.value.Value.{Value}
use Rattle.hive_cells.specs.Tiles.{u32_at}
use Rattle.hive_records.specs.Readers.{each}
use Rattle.hive_records.specs.Numbers.{words_from}
use Rattle.hive_records.specs.Values.{value_at}
use Rattle.hive_records.specs.Follows.{Follows}
use Rattle.hive_records.proofs.Each.{each_starts}
use Rattle.hive_load_parts.specs.CellReads.{marks_of}
use Rattle.hive_load_parts.proofs.Spread.{spreads_none, spreads_on}
use Rattle.hive_load_parts.proofs.Loops.{each_next, each_out, length_words, get_word}
use Rattle.hive_load_parts.proofs.values.listed.Goals as goal

front : (k : ℕ) → 0 + 4 * k ≡ 4 * k
front k = omega arith

here : (list : List ℕ) (n i at : ℕ) → i < n → at ≡ u32_at list (4 * i) → get_or (words_from list 0 4 n) i 0 ≡ at
here list n i at h e = get_word list 0 4 n i h ∙ ap (u32_at list) (front i) ∙ sym e

inside : (list : List ℕ) (n i : ℕ) → i < n → i < length (words_from list 0 4 n)
inside list n i h = subst (λ z. i < z) (sym (length_words list 0 4 n)) h

pub loop-index-init : goal.loop-index-init
loop-index-init c = record { covers = refl; works = omega arith; spreads = spreads_none c.args.image.now.bytes c.args.seen.now; reads = λ cells shows. subst (λ (vs : List Value). Follows (each (value_at c.args.split) []) cells (marks_of c.args.seen.now) (marks_of c.args.seen.now) (Ok vs)) (sym c.new-found.ensures.items) (each_starts (value_at c.args.split) cells (marks_of c.args.seen.now)) }

pub returns-in-Err-clause-reads : goal.returns-in-Err-clause-reads
returns-in-Err-clause-reads c = λ cells shows. each_out (value_at c.args.split) (words_from c.args.list.now 0 4 c.args.count) c.loop-index.index 0 c.u32_at-at.result cells (marks_of c.args.seen.now) (marks_of c.loop-index.seen) (marks_of c.value.new.seen) c.loop-index.found.items c.in-Err.refusal
    (inside c.args.list.now c.args.count c.loop-index.index c.loop-index-test.true) (here c.args.list.now c.args.count c.loop-index.index c.u32_at-at.result c.loop-index-test.true c.u32_at-at.ensures)
    (c.loop-index.invariant.reads cells shows) (c.in-Err.ensures.reads cells shows)

pub loop-index-preserved : goal.loop-index-preserved
loop-index-preserved c = record {
  covers = c.value.ensures.covers ∙ c.loop-index.invariant.covers;
  works = omega (arith, c.in-Ok.ensures.works, c.loop-index.invariant.works);
  spreads = spreads_on c.loop-index.invariant.spreads c.in-Ok.ensures.spreads;
  reads = λ cells shows. subst (λ (vs : List Value). Follows (each (value_at c.args.split) (take (c.loop-index.index + 1) (words_from c.args.list.now 0 4 c.args.count))) cells (marks_of c.args.seen.now) (marks_of c.value.new.seen) (Ok vs)) (sym c.in_ok-push.ensures.items)
      (each_next (value_at c.args.split) (words_from c.args.list.now 0 4 c.args.count) c.loop-index.index 0 c.u32_at-at.result cells (marks_of c.args.seen.now) (marks_of c.loop-index.seen) (marks_of c.value.new.seen) c.loop-index.found.items c.in-Ok.value
      (inside c.args.list.now c.args.count c.loop-index.index c.loop-index-test.true) (here c.args.list.now c.args.count c.loop-index.index c.u32_at-at.result c.loop-index-test.true c.u32_at-at.ensures)
      (c.loop-index.invariant.reads cells shows) (c.in-Ok.ensures.reads cells shows));
}

pub returns-clause-reads : goal.returns-clause-reads
returns-clause-reads c = λ cells shows. subst (λ (ws : List ℕ). Follows (each (value_at c.args.split) ws) cells (marks_of c.args.seen.now) (marks_of c.loop-index.seen) (Ok c.loop-index.found.items))
    (take_all c.loop-index.index (words_from c.args.list.now 0 4 c.args.count) (subst (λ z. z ≤ c.loop-index.index) (sym (length_words c.args.list.now 0 4 c.args.count)) c.loop-index-test.false)) (c.loop-index.invariant.reads cells shows)
