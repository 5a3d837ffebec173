use Rattle.std.proofs.Common.{◌≡◌, ◌<◌, ◌-◌, Bool, length, take, inl, inr, ℕ, List, suc, [], ◌∷◌, ◌++◌, T, Some, get_or, ◌∙◌, sym, subst, ap, arith}
use Rattle.std.proofs.lemmas.Bool.{cases_lt}
use Rattle.std.proofs.lemmas.List.{take_all}
use Rattle.std.specs.List.{flat_map}
use Rattle.reg_tree_parts.specs.Rows.{Row}
use Rattle.reg_tree_parts.specs.Nodes.{Entries}
use Rattle.hive_cells.specs.Bins.{Cells}
use Rattle.hive_tree_model.specs.Loads.{CellMarks}
use Rattle.std.specs.List.Sorted.{IsPermutation}
use Rattle.std.proofs.lemmas.List.Sorted.{IsPermutation-map, IsPermutation-sym}
use Rattle.std.specs.FinMap.Entries.{is_sorted}
use Rattle.reg_names.specs.Names.{folded}
use Rattle.reg_tree_parts.specs.Orders.{name_order}
use Rattle.hive_tree_model.specs.Lists.{IsIn, Once}
use Rattle.hive_tree_model.specs.Keys.{Keys, own_cells}
use Rattle.hive_tree_model.proofs.Basics.{in_front, in_back, once_front, once_apart}
use Rattle.hive_load_parts.specs.CellReads.{marks_of}
use Rattle.hive_load.proofs.Shuffled.{in_shuffled, once_shuffled}
use Rattle.key_walk.specs.KeyPaths.{names_on}
use Rattle.key_walk.specs.KeyRows.{NamedRow, node_rows, subkey_rows}
use Rattle.key_walk.proofs.Rows.{next_rows, next_subkey}
use Rattle.hive_walk.specs.declared.siblings.Sibling.{Sibling}
use Rattle.hive_walk.specs.Siblings.{offsets_by_name, sibling_names, siblings_in}
use Rattle.hive_walk.specs.Walks.{KeysAreSound, AreUnmarked, MarksOnly, cells_named, entries_of_key, entries_named, nodes_of_siblings}
use Rattle.hive_walk.proofs.Judged.{entries_rows}
use Rattle.hive_walk.proofs.Walked.{subkeys_sound, whole_key, none_left, sibling_in, sibling_key, node_there, siblings_once, only_joined, still_unmarked, cells_of, cells_within, all_within, apart_before, got, many_nodes, on_match, memory_alone}
use Rattle.hive_walk.proofs.walk.+walking.Goals as goal

more : (levels : ℕ) → (levels ≡ 0 → ⊥) → levels ≡ suc (levels - 1)
more levels h = elim (cases_lt 0 levels) [ inl l ↦ omega (arith, l) | inr g ↦ absurd (h (omega (arith, g))) ]

-- the sibling at an index is one of the keys, and the cells of its key are unmarked when its turn comes
its_place : (split : Bool) (cells : Cells) (keys : Keys Row) (siblings : List Sibling) → IsPermutation (siblings_in keys) siblings → (i : ℕ) (s : Sibling) → s ≡ get_or siblings i s → i < length siblings → IsIn s (siblings_in keys)
its_place split cells keys siblings moved i s is lt = in_shuffled siblings (siblings_in keys) (IsPermutation-sym (siblings_in keys) siblings moved) s
    (subst (λ (x : Sibling). IsIn x siblings) (sym is) (sibling_in split cells siblings i s lt))

its_unmarked : (split : Bool) (cells : Cells) (levels : ℕ) (keys : Keys Row) → KeysAreSound split cells levels keys → (siblings : List Sibling) → IsPermutation (siblings_in keys) siblings → (i : ℕ) (s : Sibling) → s ≡ get_or siblings i s → i < length siblings → (old now : CellMarks) →
    MarksOnly old now (cells_of keys (take i siblings)) → AreUnmarked old (own_cells keys) → AreUnmarked now (cells_named keys (folded s.name))
its_unmarked split cells levels keys sound siblings moved i s is lt old now only unmarked =
    let once : Once (sibling_names siblings) = once_shuffled (sibling_names (siblings_in keys)) (sibling_names siblings) (IsPermutation-map (λ (x : Sibling). folded x.name) (siblings_in keys) siblings moved) (siblings_once split cells keys sound.fits sound.named) in
    still_unmarked old now (cells_of keys (take i siblings)) (cells_named keys (folded s.name)) only
    (λ cell h j. apart_before keys sound.once siblings once i s lt cell h (subst (λ (x : Sibling). IsIn cell (cells_named keys (folded x.name))) is j))
    (λ cell j. unmarked cell (cells_within keys (folded s.name) cell j))

pub walk_key-returns-in-Err-clause-answers : goal.walk_key-returns-in-Err-clause-answers
walk_key-returns-in-Err-clause-answers g t c = λ cells shows parts below sound unmarked.
    c.in-Err.ensures.answers cells shows parts sound.whole.read (once_front parts.own (own_cells below) sound.whole.once) (λ cell i. unmarked cell (in_front cell parts.own (own_cells below) i))

pub walk_key-returns-in-Err-siblings_at-clause-answers : goal.walk_key-returns-in-Err-siblings_at-clause-answers
walk_key-returns-in-Err-siblings_at-clause-answers g t c = λ cells shows parts below sound unmarked.
    let first = c.in-Ok.ensures.answers cells shows parts sound.whole.read (once_front parts.own (own_cells below) sound.whole.once) (λ cell i. unmarked cell (in_front cell parts.own (own_cells below) i)) in
    let subkeys = subkeys_sound c.args.split cells c.args.levels c.args.at parts below sound in
    memory_alone g.row.S-Error.Denot c.in-Err-siblings_at.error (c.in-Err-siblings_at.ensures cells shows c.args.split c.args.levels below subkeys (sound.whole.listed ∙ sym first.0 ∙ sym c.deref.ensures.value))

pub walk_key-returns-clause-answers : goal.walk_key-returns-clause-answers
walk_key-returns-clause-answers g t c = λ cells shows parts below sound unmarked.
    let first = c.in-Ok.ensures.answers cells shows parts sound.whole.read (once_front parts.own (own_cells below) sound.whole.once) (λ cell i. unmarked cell (in_front cell parts.own (own_cells below) i)) in
    let subkeys = subkeys_sound c.args.split cells c.args.levels c.args.at parts below sound in
    let ordered = c.in-Ok-siblings_at.ensures cells shows c.args.split c.args.levels below subkeys (sound.whole.listed ∙ sym first.0 ∙ sym c.deref.ensures.value) in
    let moved = subst (λ (s : List Sibling). IsPermutation (siblings_in below) s) (sym c.deref-2.ensures.value) ordered.0 in
    let rises = subst (λ (s : List Sibling). T (is_sorted name_order (offsets_by_name s))) (sym c.deref-2.ensures.value) ordered.1 in
    let others = still_unmarked (marks_of c.args.seen.now) (marks_of c.take_key.new.seen) parts.own (own_cells below) first.1 (λ cell i j. once_apart cell parts.own (own_cells below) sound.whole.once i j) (λ cell i. unmarked cell (in_back cell parts.own (own_cells below) i)) in
    on_match _ c.walk_keys.result (λ rest. (
      only_joined (marks_of c.args.seen.now) (marks_of c.take_key.new.seen) (marks_of c.walk_keys.new.seen) parts.own (own_cells below) first.1 rest.0,
      subst (λ (rows : List NamedRow). g.S.KeySink.Took c.args.sink.now c.walk_keys.new.sink rows)
          (whole_key c.args.split cells c.args.levels c.args.at parts below sound c.deref-2.result.now moved rises (names_on c.args.path.now))
          (g.met.S.KeySink.took_more _ _ _ _ _ first.2 rest.1),
    )) (c.walk_keys.ensures.answers cells shows below subkeys moved others)

pub walk_keys-returns-then-levels-eq0-clause-answers : goal.walk_keys-returns-then-levels-eq0-clause-answers
walk_keys-returns-then-levels-eq0-clause-answers g t c = λ cells shows keys sound moved unmarked. (
  λ cell m. inl m,
  subst (λ (s : List Sibling). g.S.KeySink.Took c.args.sink.now c.args.sink.now (flat_map (subkey_rows (names_on c.args.above.now)) (nodes_of_siblings keys s)))
      (sym (none_left c.args.split cells keys (subst (λ (n : ℕ). KeysAreSound c.args.split cells n keys) c.if-levels-eq0.true sound) c.args.siblings.now moved))
      (g.met.S.KeySink.took_none c.args.sink.now),
)

pub walk_keys-returns-in-Err-clause-answers : goal.walk_keys-returns-in-Err-clause-answers
walk_keys-returns-in-Err-clause-answers g t c = λ cells shows keys sound moved unmarked.
    let i = c.loop-sibling.sibling-index in
    let s : Sibling = c.sibling-item.result in
    let is : s ≡ get_or c.args.siblings.now i s = c.sibling-item.is in
    let its = sibling_key c.args.split cells (c.args.levels - 1) keys (subst (λ (n : ℕ). KeysAreSound c.args.split cells n keys) (more c.args.levels c.if-levels-eq0.false) sound) s (its_place c.args.split cells keys c.args.siblings.now moved i s is c.loop-sibling-test.true) in
    let own = its_unmarked c.args.split cells c.args.levels keys sound c.args.siblings.now moved i s is c.loop-sibling-test.true (marks_of c.args.seen.now) (marks_of c.loop-sibling.seen) (c.loop-sibling.invariant.took cells shows keys sound moved unmarked).0 unmarked in
    c.in-Err.ensures.answers cells shows its.0 its.1 its.2 (subst (λ (own : List ℕ). AreUnmarked (marks_of c.loop-sibling.seen) own) its.5 own)

pub walk_keys-loop-sibling-preserved : goal.walk_keys-loop-sibling-preserved
walk_keys-loop-sibling-preserved g t c = record {
  covers = c.in-Ok.ensures.covers ∙ c.loop-sibling.invariant.covers;
  known = c.in-Ok.ensures.known;
  took = λ cells shows keys sound moved unmarked.
      let names = names_on c.args.above.now in
      let i = c.loop-sibling.sibling-index in
      let s : Sibling = c.sibling-item.result in
      let is : s ≡ get_or c.args.siblings.now i s = c.sibling-item.is in
      let so_far = c.loop-sibling.invariant.took cells shows keys sound moved unmarked in
      let its = sibling_key c.args.split cells (c.args.levels - 1) keys (subst (λ (n : ℕ). KeysAreSound c.args.split cells n keys) (more c.args.levels c.if-levels-eq0.false) sound) s (its_place c.args.split cells keys c.args.siblings.now moved i s is c.loop-sibling-test.true) in
      let own = its_unmarked c.args.split cells c.args.levels keys sound c.args.siblings.now moved i s is c.loop-sibling-test.true (marks_of c.args.seen.now) (marks_of c.loop-sibling.seen) so_far.0 unmarked in
      let here = c.in-Ok.ensures.answers cells shows its.0 its.1 its.2 (subst (λ (own : List ℕ). AreUnmarked (marks_of c.loop-sibling.seen) own) its.5 own) in
      let there = ap (λ (x : Sibling). Some (entries_named keys (folded x.name))) is ∙ node_there c.args.split cells keys c.args.siblings.now i s c.loop-sibling-test.true in (
        subst (λ (cs : List ℕ). MarksOnly (marks_of c.args.seen.now) (marks_of c.walk_key.new.seen) cs)
            (next_rows (λ (x : Sibling). cells_named keys (folded x.name)) c.args.siblings.now i s (got c.args.siblings.now i s c.loop-sibling-test.true ∙ ap Some (sym is)))
            (only_joined (marks_of c.args.seen.now) (marks_of c.loop-sibling.seen) (marks_of c.walk_key.new.seen) (cells_of keys (take i c.args.siblings.now)) (cells_named keys (folded s.name)) so_far.0
            (subst (λ (cs : List ℕ). MarksOnly (marks_of c.loop-sibling.seen) (marks_of c.walk_key.new.seen) cs) (sym its.5) here.0)),
        subst (λ (rows : List NamedRow). g.S.KeySink.Took c.args.sink.now c.walk_key.new.sink rows)
            (next_subkey names (nodes_of_siblings keys c.args.siblings.now) i (entries_of_key its.0 its.1) its.0.row (ap Some (sym its.4) ∙ there) (entries_rows its.0 its.1 its.2.whole.named []))
            (g.met.S.KeySink.took_more _ _ _ _ _ so_far.1
            (subst (λ (n : List ℕ). g.S.KeySink.Took c.loop-sibling.sink c.walk_key.new.sink (node_rows (names ++ n ∷ []) (entries_of_key its.0 its.1))) (sym its.3) here.1)),
      );
}

pub walk_keys-returns-clause-answers : goal.walk_keys-returns-clause-answers
walk_keys-returns-clause-answers g t c = λ cells shows keys sound moved unmarked.
    let so_far = c.loop-sibling.invariant.took cells shows keys sound moved unmarked in
    let many = many_nodes keys c.args.siblings.now in (
      λ cell m. elim (so_far.0 cell m) [ inl k ↦ inl k | inr i ↦ inr (all_within keys (take c.loop-sibling.sibling-index c.args.siblings.now) cell i) ],
      subst (λ (nodes : List (List ℕ × Entries)). g.S.KeySink.Took c.args.sink.now c.loop-sibling.sink (flat_map (subkey_rows (names_on c.args.above.now)) nodes))
          (take_all c.loop-sibling.sibling-index (nodes_of_siblings keys c.args.siblings.now) (omega (arith, c.loop-sibling-test.false, many))) so_far.1,
    )
