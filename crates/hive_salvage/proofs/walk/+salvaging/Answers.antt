use Rattle.std.proofs.Common.{◌≡◌, ◌-◌, ◌++◌, ◌∷◌, [], ℕ, zero, suc, List, length, Bool, inl, inr, refl, sym, subst, ◌∙◌, arith}
use Rattle.std.proofs.lemmas.Bool.{cases_lt}
use Rattle.std.proofs.lemmas.Result.{on_ok_weaker}
use Rattle.std.specs.List.Sorted.{IsPermutation}
use Rattle.hive_cells.specs.Bins.{Cells}
use Rattle.hive_tree_model.specs.Loads.{CellMarks}
use Rattle.hive_records.specs.declared.key_node.KeyNode.{KeyNode}
use Rattle.hive_load_parts.specs.CellReads.{marks_of}
use Rattle.key_walk.specs.KeyPaths.{names_on}
use Rattle.hive_salvage.specs.declared.siblings.Sibling.{Sibling}
use Rattle.hive_salvage.specs.Events.{Event, Steps, Tells}
use Rattle.hive_salvage.specs.Salvage.{DeeperThan, InTurn, KeyIs, KeyWith}
use Rattle.hive_salvage.proofs.Turns.{got}
use Rattle.hive_salvage.proofs.Telling.{silent, told, both, so_too, steps_next}
use Rattle.hive_salvage.proofs.walk.+salvaging.Goals as goal

-- a key by what is said of its subkeys
key_by : (split : Bool) (cells : Cells) (levels : ℕ) (names : List (List ℕ)) (node : KeyNode) (old new : CellMarks) (events : List Event) → KeyWith (DeeperThan split cells levels) split cells names node old new events → KeyIs split cells levels names node old new events
key_by split cells zero names node old new events h = h
key_by split cells (suc levels) names node old new events h = h

-- what is said of a subkey that is gone through
deeper_by : (split : Bool) (cells : Cells) (levels less : ℕ) → levels ≡ suc less → (names : List (List ℕ)) (sibling : Sibling) (node : KeyNode) (old new : CellMarks) (events : List Event) → KeyIs split cells less (names ++ sibling.name ∷ []) node old new events → DeeperThan split cells levels names sibling node old new events
deeper_by split cells levels less e names sibling node old new events h = subst (λ (n : ℕ). DeeperThan split cells n names sibling node old new events) (sym e) h

too_deep : (split : Bool) (cells : Cells) (levels : ℕ) → levels ≡ 0 → (names : List (List ℕ)) (sibling : Sibling) (node : KeyNode) (marks : CellMarks) (events : List Event) → DeeperThan split cells 0 names sibling node marks marks events → DeeperThan split cells levels names sibling node marks marks events
too_deep split cells levels e names sibling node marks events h = subst (λ (n : ℕ). DeeperThan split cells n names sibling node marks marks events) (sym e) h

more : (levels : ℕ) → (levels ≡ 0 → ⊥) → levels ≡ suc (levels - 1)
more levels h = elim (cases_lt 0 levels) [ inl l ↦ omega (arith, l) | inr g ↦ absurd (h (omega (arith, g))) ]

pub salvage_key-returns-clause-kept : goal.salvage_key-returns-clause-kept
salvage_key-returns-clause-kept g t c = on_ok_weaker c.salvage_keys.result (λ rest. both _ g.met.S.SalvageSink.took_more _ _ _ _ _ _ _ c.in-Ok.ensures.kept rest (λ cells shows first last own below.
    key_by c.args.split cells c.args.levels (names_on c.args.path.now) c.args.node.now (marks_of c.args.seen.now) (marks_of c.salvage_keys.new.seen) (first ++ last)
    (marks_of c.take_key.new.seen, c.in-Ok.listed.items, c.deref.result.now, first, last, own, subst (λ (s : List Sibling). IsPermutation c.in-Ok.listed.items s) (sym c.deref.ensures.value) c.in_order-siblings.ensures.same, below, refl))) c.salvage_keys.ensures.kept

pub salvage_keys-loop-place-init : goal.salvage_keys-loop-place-init
salvage_keys-loop-place-init g t c = record {
  covers = refl;
  known = c.requires.known;
  steps = silent _ _ _ _ (g.met.S.SalvageSink.took_none _) (λ cells shows. (refl, refl));
}

pub salvage_keys-loop-place-preserved : goal.salvage_keys-loop-place-preserved
salvage_keys-loop-place-preserved g t c = record {
  covers = c.in-Ok.ensures.covers ∙ c.loop-place.invariant.covers;
  known = c.in-Ok.ensures.known;
  steps = both _ g.met.S.SalvageSink.took_more _ _ _ _ _ _ _ c.loop-place.invariant.steps c.in-Ok.ensures.kept (λ cells shows first last before here.
      steps_next (InTurn cells (DeeperThan c.args.split cells c.args.levels) (names_on c.args.above.now) c.args.siblings.now) c.loop-place.place _ _ _ first last before here);
}

pub salvage_keys-returns-clause-kept : goal.salvage_keys-returns-clause-kept
salvage_keys-returns-clause-kept g t c =
    let all : c.loop-place.place ≡ length c.args.siblings.now = omega (arith, c.loop-place-test.false, c.loop-place.auto.place-end) in
    subst (λ (n : ℕ). Tells g.S.SalvageSink.Took c.args.sink.now c.loop-place.sink c.args.image.now.bytes (λ cells told. Steps (InTurn cells (DeeperThan c.args.split cells c.args.levels) (names_on c.args.above.now) c.args.siblings.now) n (marks_of c.args.seen.now) (marks_of c.loop-place.seen) told)) all c.loop-place.invariant.steps

pub salvage_sibling-returns-then-is_repeated-clause-kept : goal.salvage_sibling-returns-then-is_repeated-clause-kept
salvage_sibling-returns-then-is_repeated-clause-kept g t c = on_ok_weaker c.tell.result (λ h. told _ _ _ _ _ _ h.0 (λ cells shows. (
  c.index-siblings-place.result,
  got c.args.siblings.now c.args.place c.index-siblings-place.result c.requires.place c.index-siblings-place.is,
  inl (sym c.is_repeated.ensures ∙ c.if-is_repeated.true, refl, grind arith),
))) c.tell.ensures

pub salvage_sibling-returns-in-Err-clause-kept : goal.salvage_sibling-returns-in-Err-clause-kept
salvage_sibling-returns-in-Err-clause-kept g t c = on_ok_weaker c.tell-in-Err.result (λ h. told _ _ _ _ _ _ h.0 (λ cells shows. (
  c.index-siblings-place.result,
  got c.args.siblings.now c.args.place c.index-siblings-place.result c.requires.place c.index-siblings-place.is,
  inr (inl (c.in-Err.why, c.in-Err.ensures cells shows, refl, grind arith)),
))) c.tell-in-Err.ensures

pub salvage_sibling-returns-then-levels-eq0-clause-kept : goal.salvage_sibling-returns-then-levels-eq0-clause-kept
salvage_sibling-returns-then-levels-eq0-clause-kept g t c = on_ok_weaker c.tell-then-levels-eq0.result (λ h. told _ _ _ _ _ _ h.0 (λ cells shows.
    let its = c.in-Ok.ensures cells shows in (
      c.index-siblings-place.result,
      got c.args.siblings.now c.args.place c.index-siblings-place.result c.requires.place c.index-siblings-place.is,
      inr (inr (
        its.0,
        c.in-Ok.node,
        sym c.is_repeated.ensures ∙ c.if-is_repeated.false,
        its.1,
        its.2,
        too_deep c.args.split cells c.args.levels c.if-levels-eq0.true (names_on c.args.above.now) c.index-siblings-place.result c.in-Ok.node (marks_of c.args.seen.now) _ (refl, grind arith),
      )),
    ))) c.tell-then-levels-eq0.ensures

pub salvage_sibling-returns-clause-kept : goal.salvage_sibling-returns-clause-kept
salvage_sibling-returns-clause-kept g t c = on_ok_weaker c.salvage_key.result (λ t. so_too _ _ _ _ _ _ t (λ cells shows events key.
    let its = c.in-Ok.ensures cells shows in (
      c.index-siblings-place.result,
      got c.args.siblings.now c.args.place c.index-siblings-place.result c.requires.place c.index-siblings-place.is,
      inr (inr (
        its.0,
        c.in-Ok.node,
        sym c.is_repeated.ensures ∙ c.if-is_repeated.false,
        its.1,
        its.2,
        deeper_by c.args.split cells c.args.levels (c.args.levels - 1) (more c.args.levels c.if-levels-eq0.false) (names_on c.args.above.now) c.index-siblings-place.result c.in-Ok.node (marks_of c.args.seen.now) (marks_of c.salvage_key.new.seen) events key,
      )),
    ))) c.salvage_key.ensures.kept
