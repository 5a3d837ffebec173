use Rattle.std.proofs.Common.{◌≡◌, ◌-◌, inl, inr, ℕ, List, suc, [], ◌∷◌, ◌++◌, get_or, take, drop, refl, ◌∙◌, sym, subst, ap, arith}
use Rattle.std.proofs.lemmas.List.{take_more, take_all}
use Rattle.hive_load_parts.proofs.Loops.{split_here}
use Rattle.hive_load_parts.proofs.Spread.{spreads_none, spreads_on}
use Rattle.hive_load.proofs.Sorting.{Nodes, one_more, nodes_more}
use Rattle.refusals.specs.declared.refusal.Refusal.TheVariants.{TooLarge}
use Rattle.reg_tree_parts.specs.Nodes.{Entries, root_name, subkey_entries, AreNodes}
use Rattle.hive_load_parts.specs.CellReads.{marks_of}
use Rattle.hive_records.proofs.Keys.{keys_trail}
use Rattle.std.proofs.lemmas.Bool.{cases_lt}
use Rattle.hive_load.specs.Answers.{RefusesKey, LoadsKeys, RefusesKeys}
use Rattle.hive_load.proofs.Levels.{key_unread, key_too_deep, subkey_refused, node_answers, keys_begin, keys_on, keys_stop}
use Rattle.hive_load.proofs.keys.+levels.Goals as goal

pub load_key-returns-in-Err-clause-answers : goal.load_key-returns-in-Err-clause-answers
load_key-returns-in-Err-clause-answers t c = λ cells shows. key_unread c.args.split cells c.args.at (marks_of c.args.seen.now) (marks_of c.key.new.seen) c.args.levels c.in-Err.refusal (c.in-Err.ensures.reads cells shows)

pub load_key-returns-then-levels-eq0-clause-answers : goal.load_key-returns-then-levels-eq0-clause-answers
load_key-returns-then-levels-eq0-clause-answers t c = λ cells shows. subst (λ (n : ℕ). RefusesKey c.args.split cells (marks_of c.args.seen.now) n c.args.at TooLarge) (sym c.if-levels-eq0.true)
    (key_too_deep c.args.split cells c.args.at (marks_of c.args.seen.now) (marks_of c.key.new.seen) c.in-Ok.read.0 c.in-Ok.read.1.items (c.in-Ok.ensures.reads cells shows))

more : (levels : ℕ) → (levels ≡ 0 → ⊥) → suc (levels - 1) ≡ levels
more levels h = elim (cases_lt 0 levels) [ inl l ↦ omega (arith, l) | inr g ↦ absurd (h (omega (arith, g))) ]

pub load_key-returns-in-Err-load_keys-clause-answers : goal.load_key-returns-in-Err-load_keys-clause-answers
load_key-returns-in-Err-load_keys-clause-answers t c = λ cells shows.
    let below = subst (λ (listed : List ℕ). RefusesKeys c.args.split cells (marks_of c.key.new.seen) (c.args.levels - 1) listed c.in-Err-load_keys.refusal) c.deref.ensures.value (c.in-Err-load_keys.ensures.answers cells shows) in
    subst (λ (n : ℕ). RefusesKey c.args.split cells (marks_of c.args.seen.now) n c.args.at c.in-Err-load_keys.refusal) (more c.args.levels c.if-levels-eq0.false)
    (subkey_refused c.args.split cells c.args.at (marks_of c.args.seen.now) (marks_of c.key.new.seen) c.in-Ok.read.0 c.in-Ok.read.1.items (c.in-Ok.ensures.reads cells shows) (keys_trail c.args.split cells) (c.args.levels - 1) c.in-Err-load_keys.refusal below)

pub load_key-returns-clause-answers : goal.load_key-returns-clause-answers
load_key-returns-clause-answers t c = λ cells shows.
    let below = subst (λ (listed : List ℕ). LoadsKeys c.args.split cells (marks_of c.key.new.seen) (marks_of c.load_keys.new.seen) c.key.new.known c.load_keys.new.known (c.args.levels - 1) listed (subkey_entries c.in-Ok-load_keys.nodes.items)) c.deref.ensures.value (c.in-Ok-load_keys.ensures.answers cells shows) in
    node_answers c.args.split cells c.args.at (marks_of c.args.seen.now) (marks_of c.key.new.seen) (marks_of c.load_keys.new.seen) c.in-Ok.read.0 c.in-Ok.read.1.items (c.in-Ok.ensures.reads cells shows)
    c.args.known.now c.key.new.known c.load_keys.new.known (c.args.levels - 1) c.args.levels (subkey_entries c.in-Ok-load_keys.nodes.items) c.node_of.result (more c.args.levels c.if-levels-eq0.false)
    (c.in-Ok.ensures.keeps cells shows) below c.node_of.ensures.made

pub load_keys-returns-in-Err-clause-answers : goal.load_keys-returns-in-Err-clause-answers
load_keys-returns-in-Err-clause-answers t c = λ cells shows.
    let at = get_or c.args.offsets.now c.loop-at.at-index 0 in
    let first = take c.loop-at.at-index c.args.offsets.now in
    let rest = drop (suc c.loop-at.at-index) c.args.offsets.now in
    subst (λ (listed : List ℕ). RefusesKeys c.args.split cells (marks_of c.args.seen.now) c.args.levels listed c.in-Err.refusal) (sym (split_here c.args.offsets.now c.loop-at.at-index 0 c.loop-at-test.true))
    (keys_stop c.args.split cells (marks_of c.args.seen.now) c.args.known.now c.args.levels (marks_of c.loop-at.seen) c.loop-at.known first rest (subkey_entries c.loop-at.nodes.items) at c.in-Err.refusal
    (c.loop-at.invariant.loaded cells shows) (c.in-Err.ensures.answers cells shows))

pub load_keys-loop-at-init : goal.load_keys-loop-at-init
load_keys-loop-at-init t c = record {
  covers = refl;
  known = c.requires.known;
  spreads = spreads_none c.args.image.now.bytes c.args.seen.now;
  works = omega arith;
  nodes = subst (λ (items : Nodes). AreNodes (subkey_entries items)) (sym c.new-nodes.ensures.items) tt;
  loaded = λ cells shows. subst (λ (items : Nodes). LoadsKeys c.args.split cells (marks_of c.args.seen.now) (marks_of c.args.seen.now) c.args.known.now c.args.known.now c.args.levels [] (subkey_entries items)) (sym c.new-nodes.ensures.items)
      (keys_begin c.args.split cells (marks_of c.args.seen.now) c.args.known.now c.args.levels);
}

pub load_keys-loop-at-preserved : goal.load_keys-loop-at-preserved
load_keys-loop-at-preserved t c =
    let at = get_or c.args.offsets.now c.loop-at.at-index 0 in
    let first = take c.loop-at.at-index c.args.offsets.now in
    let items = ap subkey_entries c.in_ok-push.ensures.items ∙ one_more c.loop-at.nodes.items c.in_ok-new.field-0 c.in-Ok.node c.in_ok-new.ensures.ok in
    record {
      covers = c.in-Ok.ensures.covers ∙ c.loop-at.invariant.covers;
      known = c.in-Ok.ensures.known;
      spreads = spreads_on c.loop-at.invariant.spreads c.in-Ok.ensures.spreads;
      works = omega (arith, c.in-Ok.ensures.works, c.loop-at.invariant.works);
      nodes = subst AreNodes (sym items) (nodes_more (subkey_entries c.loop-at.nodes.items) (root_name c.in-Ok.node) c.in-Ok.node c.loop-at.invariant.nodes c.in-Ok.ensures.node);
      loaded = λ cells shows.
          subst (λ (listed : List ℕ). LoadsKeys c.args.split cells (marks_of c.args.seen.now) (marks_of c.load_key.new.seen) c.args.known.now c.load_key.new.known c.args.levels listed (subkey_entries c.push.new.self.items)) (sym (take_more c.args.offsets.now c.loop-at.at-index 0 c.loop-at-test.true))
          (subst (λ (entries : List (List ℕ × Entries)). LoadsKeys c.args.split cells (marks_of c.args.seen.now) (marks_of c.load_key.new.seen) c.args.known.now c.load_key.new.known c.args.levels (first ++ at ∷ []) entries) (sym items)
          (keys_on c.args.split cells (marks_of c.args.seen.now) c.args.known.now c.args.levels (marks_of c.loop-at.seen) (marks_of c.load_key.new.seen) c.loop-at.known c.load_key.new.known first (subkey_entries c.loop-at.nodes.items) at c.in-Ok.node
          (c.loop-at.invariant.loaded cells shows) (c.in-Ok.ensures.answers cells shows)));
    }

pub load_keys-returns-clause-answers : goal.load_keys-returns-clause-answers
load_keys-returns-clause-answers t c = λ cells shows. subst (λ (listed : List ℕ). LoadsKeys c.args.split cells (marks_of c.args.seen.now) (marks_of c.loop-at.seen) c.args.known.now c.loop-at.known c.args.levels listed (subkey_entries c.loop-at.nodes.items))
    (take_all c.loop-at.at-index c.args.offsets.now c.loop-at-test.false) (c.loop-at.invariant.loaded cells shows)
