use Rattle.std.proofs.Common.{◌≡◌, ◌-◌, inl, inr, ℕ, List, suc, [], ◌∷◌, ◌++◌, get_or, take, drop, refl, ◌∙◌, sym, subst, arith}
use Rattle.std.proofs.lemmas.Bool.{cases_lt}
use Rattle.std.proofs.lemmas.List.{take_more, take_all}
use Rattle.hive_tree_model.specs.Lists.{IsIn, Once}
use Rattle.hive_load_parts.specs.CellReads.{marks_of}
use Rattle.hive_load_parts.proofs.Loops.{split_here}
use Rattle.key_walk.specs.KeyPaths.{names_on}
use Rattle.hive_walk.specs.declared.siblings.Sibling.{Sibling}
use Rattle.hive_walk.specs.Siblings.{sibling_names, LacksNames}
use Rattle.hive_walk.specs.Judgements.{KeyIsRead, KeysAreJudged, KeysAreRefused}
use Rattle.hive_walk.proofs.Judged.{unread_refused, deep_refused, below_refused, key_refused, key_judged, names_refused, none_judged, one_judged, one_refused}
use Rattle.hive_walk.proofs.judgement.+judging.Goals as goal

more : (levels : ℕ) → (levels ≡ 0 → ⊥) → suc (levels - 1) ≡ levels
more levels h = elim (cases_lt 0 levels) [ inl l ↦ omega (arith, l) | inr g ↦ absurd (h (omega (arith, g))) ]

pub judge_below-returns-then-levels-eq0-clause-answers : goal.judge_below-returns-then-levels-eq0-clause-answers
judge_below-returns-then-levels-eq0-clause-answers t c = λ cells shows old had name read.
    deep_refused c.args.split cells c.args.at old (marks_of c.args.seen.now) had c.args.known.now name c.args.offsets.now read c.args.levels (names_on c.args.path.now) c.refused_at.result c.if-levels-eq0.true (omega (arith, c.requires.depth, c.if-levels-eq0.true)) c.refused_at.ensures

pub judge_below-returns-in-Err-clause-answers : goal.judge_below-returns-in-Err-clause-answers
judge_below-returns-in-Err-clause-answers t c = λ cells shows old had name read.
    below_refused c.args.split cells c.args.at old (marks_of c.args.seen.now) had c.args.known.now name c.args.offsets.now read (c.args.levels - 1) c.args.levels (names_on c.args.path.now) c.in-Err.error (more c.args.levels c.if-levels-eq0.false) (c.in-Err.ensures.answers cells shows)

pub judge_below-returns-then-are_named-clause-answers : goal.judge_below-returns-then-are_named-clause-answers
judge_below-returns-then-are_named-clause-answers t c = λ cells shows old had name read.
    key_judged c.args.split cells c.args.at old (marks_of c.args.seen.now) had c.args.known.now name c.args.offsets.now read (marks_of c.judge_keys.new.seen) c.judge_keys.new.known (c.args.levels - 1) c.args.levels c.in-Ok.siblings.items (more c.args.levels c.if-levels-eq0.false) (c.in-Ok.ensures.answers cells shows)
    (subst (λ (s : List Sibling). Once (sibling_names s)) c.deref_mut.ensures.value (c.if-are_named.ensures.apart refl))
    (subst (λ (s : List Sibling). IsIn [] (sibling_names s) → ⊥) c.deref_mut.ensures.value (c.if-are_named.ensures.named refl))

pub judge_below-returns-clause-answers : goal.judge_below-returns-clause-answers
judge_below-returns-clause-answers t c = λ cells shows old had name read.
    names_refused c.args.split cells c.args.at old (marks_of c.args.seen.now) had c.args.known.now name c.args.offsets.now read (marks_of c.judge_keys.new.seen) c.judge_keys.new.known (c.args.levels - 1) c.args.levels c.in-Ok.siblings.items (more c.args.levels c.if-levels-eq0.false) (c.in-Ok.ensures.answers cells shows)
    (names_on c.args.path.now) c.from.result c.refused_at-else-are_named.result c.from.ensures
    (subst (λ (s : List Sibling). LacksNames (sibling_names s)) c.deref_mut.ensures.value (c.if-are_named.ensures.not refl)) c.refused_at-else-are_named.ensures

pub judge_key-returns-in-Err-clause-answers : goal.judge_key-returns-in-Err-clause-answers
judge_key-returns-in-Err-clause-answers t c = λ cells shows.
    unread_refused c.args.split cells c.args.at c.args.levels (marks_of c.args.seen.now) (names_on c.args.above.now) c.in-Err.error (c.in-Err.ensures.answers cells shows)

pub judge_key-returns-in-Err-judge_below-clause-answers : goal.judge_key-returns-in-Err-judge_below-clause-answers
judge_key-returns-in-Err-judge_below-clause-answers t c = λ cells shows.
    let read = c.in-Ok.ensures.answers cells shows in
    let lent = subst (λ (listed : List ℕ). KeyIsRead c.args.split cells (marks_of c.args.seen.now) (marks_of c.read_key.new.seen) c.args.known.now c.read_key.new.known c.args.at c.in-Ok.read.0 listed) (sym c.deref.ensures.value) read in
    key_refused c.args.split cells c.args.at (marks_of c.args.seen.now) (marks_of c.read_key.new.seen) c.args.known.now c.read_key.new.known c.in-Ok.read.0 c.in-Ok.read.1.items read c.args.levels (names_on c.args.above.now) c.in-Err-judge_below.error
    (c.in-Err-judge_below.ensures.answers cells shows (marks_of c.args.seen.now) c.args.known.now c.in-Ok.read.0 lent)

pub judge_key-returns-clause-answers : goal.judge_key-returns-clause-answers
judge_key-returns-clause-answers t c = λ cells shows.
    let read = c.in-Ok.ensures.answers cells shows in
    let lent = subst (λ (listed : List ℕ). KeyIsRead c.args.split cells (marks_of c.args.seen.now) (marks_of c.read_key.new.seen) c.args.known.now c.read_key.new.known c.args.at c.in-Ok.read.0 listed) (sym c.deref.ensures.value) read in
    c.in-Ok-judge_below.ensures.answers cells shows (marks_of c.args.seen.now) c.args.known.now c.in-Ok.read.0 lent

pub judge_keys-returns-in-Err-clause-answers : goal.judge_keys-returns-in-Err-clause-answers
judge_keys-returns-in-Err-clause-answers t c = λ cells shows.
    let at = get_or c.args.offsets.now c.loop-at.at-index 0 in
    let first = take c.loop-at.at-index c.args.offsets.now in
    let rest = drop (suc c.loop-at.at-index) c.args.offsets.now in
    subst (λ (listed : List ℕ). KeysAreRefused c.args.split cells (marks_of c.args.seen.now) c.args.levels listed (names_on c.args.above.now) c.in-Err.error) (sym (split_here c.args.offsets.now c.loop-at.at-index 0 c.loop-at-test.true))
    (one_refused c.args.split cells (marks_of c.args.seen.now) c.args.known.now c.args.levels (marks_of c.loop-at.seen) c.loop-at.known first rest c.loop-at.siblings.items at (names_on c.args.above.now) c.in-Err.error
    (c.loop-at.invariant.judged cells shows) (c.in-Err.ensures.answers cells shows))

pub judge_keys-loop-at-init : goal.judge_keys-loop-at-init
judge_keys-loop-at-init t c = record {
  covers = refl;
  known = c.requires.known;
  judged = λ cells shows. subst (λ (items : List Sibling). KeysAreJudged c.args.split cells (marks_of c.args.seen.now) (marks_of c.args.seen.now) c.args.known.now c.args.known.now c.args.levels [] items) (sym c.new-siblings.ensures.items)
      (none_judged c.args.split cells (marks_of c.args.seen.now) c.args.known.now c.args.levels);
}

pub judge_keys-loop-at-preserved : goal.judge_keys-loop-at-preserved
judge_keys-loop-at-preserved t c =
    let at = get_or c.args.offsets.now c.loop-at.at-index 0 in
    let first = take c.loop-at.at-index c.args.offsets.now in
    record {
      covers = c.in-Ok.ensures.covers ∙ c.loop-at.invariant.covers;
      known = c.in-Ok.ensures.known;
      judged = λ cells shows.
          subst (λ (listed : List ℕ). KeysAreJudged c.args.split cells (marks_of c.args.seen.now) (marks_of c.judge_key.new.seen) c.args.known.now c.judge_key.new.known c.args.levels listed c.push.new.self.items) (sym (take_more c.args.offsets.now c.loop-at.at-index 0 c.loop-at-test.true))
          (subst (λ (items : List Sibling). KeysAreJudged c.args.split cells (marks_of c.args.seen.now) (marks_of c.judge_key.new.seen) c.args.known.now c.judge_key.new.known c.args.levels (first ++ at ∷ []) items) (sym c.in_ok-push.ensures.items)
          (one_judged c.args.split cells (marks_of c.args.seen.now) c.args.known.now c.args.levels (marks_of c.loop-at.seen) (marks_of c.judge_key.new.seen) c.loop-at.known c.judge_key.new.known first c.loop-at.siblings.items at c.in-Ok.sibling
          (c.loop-at.invariant.judged cells shows) (c.in-Ok.ensures.answers cells shows)));
    }

pub judge_keys-returns-clause-answers : goal.judge_keys-returns-clause-answers
judge_keys-returns-clause-answers t c = λ cells shows. subst (λ (listed : List ℕ). KeysAreJudged c.args.split cells (marks_of c.args.seen.now) (marks_of c.loop-at.seen) c.args.known.now c.loop-at.known c.args.levels listed c.loop-at.siblings.items)
    (take_all c.loop-at.at-index c.args.offsets.now c.loop-at-test.false) (c.loop-at.invariant.judged cells shows)
