-- Changes replayed on one tree, one after another.
use Rattle.std.proofs.Common.{◌≡◌, ◌≢◌, ◌||◌, ℕ, Bool, true, false, List, [], ◌∷◌, map, refl, sym, ap, ◌∙◌}
use Rattle.std.specs.Prelude.{◌==◌, filter, if◌then◌else◌}
use Rattle.std.specs.List.{list_any}
use Rattle.std.proofs.lemmas.Bool.{eq-eqb, ne_eqb}
use Rattle.crash_model.specs.Changes.{applied, on_hive, ops_on}
use Rattle.crash_model.proofs.Replays.{applied-append}
use Rattle.reg_tree.specs.Maps.{TreeMap}
use Rattle.reg_tree.specs.Operations.{hive_of}
use Rattle.reg_tree.specs.Judgement.{changed}
use Rattle.reg_tree.specs.declared.op.Op.{Op}
use Rattle.reg_tree.specs.declared.element.Element.{Element}
use Rattle.change_codec.specs.ModelChanges.{TimedOp, tree_rules, timed, timed_element, timed_elements}

-- an operation on the hive, and one on another
pub op_here : (hive moment : ℕ) (op : Op) (rest : List Op) (tree made : TreeMap) → hive_of op ≡ hive → made ≡ changed tree op moment
    → applied tree_rules (on_hive hive (map (timed moment) (op ∷ rest))) tree ≡ applied tree_rules (on_hive hive (map (timed moment) rest)) made
unfolding tree_rules
op_here hive moment op rest tree made here is =
    let behind = on_hive hive (map (timed moment) rest) in
    ap (λ (b : Bool). applied tree_rules (if b then (moment, op) ∷ behind else behind) tree) (eq-eqb (hive_of op) hive here) ∙ ap (applied tree_rules behind) (sym is)

pub op_elsewhere : (hive moment : ℕ) (op : Op) (rest : List Op) (tree : TreeMap) → hive_of op ≢ hive
    → applied tree_rules (on_hive hive (map (timed moment) (op ∷ rest))) tree ≡ applied tree_rules (on_hive hive (map (timed moment) rest)) tree
op_elsewhere hive moment op rest tree other =
    let behind = on_hive hive (map (timed moment) rest) in
    ap (λ (b : Bool). applied tree_rules (if b then (moment, op) ∷ behind else behind) tree) (ne_eqb (hive_of op) hive other)

-- a change
pub change_here : (hive : ℕ) (element : Element) (rest : List Element) (tree made : TreeMap) → made ≡ applied tree_rules (on_hive hive (timed_element element)) tree
    → applied tree_rules (ops_on hive (timed_elements (element ∷ rest))) tree ≡ applied tree_rules (ops_on hive (timed_elements rest)) made
change_here hive element rest tree made is =
    applied-append tree_rules (on_hive hive (timed_element element)) (ops_on hive (timed_elements rest)) tree ∙ ap (applied tree_rules (ops_on hive (timed_elements rest))) (sym is)

-- a list's operations on the hive are all that some operations have there
same_here : (hive moment : ℕ) (ops : List Op) → on_hive hive (map (timed moment) (filter (λ op. hive_of op == hive) ops)) ≡ on_hive hive (map (timed moment) ops)
same_here hive moment [] = refl
same_here hive moment (op ∷ ops) = by_test (hive_of op == hive) refl (same_here hive moment ops)
  where
    kept : List Op
    kept = filter (λ one. hive_of one == hive) ops

    behind : List Op → List TimedOp
    behind some = on_hive hive (map (timed moment) some)

    by_test : (b : Bool) → (hive_of op == hive) ≡ b → behind kept ≡ behind ops → behind (if b then op ∷ kept else kept) ≡ (if b then (moment, op) ∷ behind ops else behind ops)
    by_test true is rest = ap (λ (t : Bool). if t then (moment, op) ∷ behind kept else behind kept) is ∙ ap (λ (front : List TimedOp). (moment, op) ∷ front) rest
    by_test false is rest = rest

pub found_here : (hive at moment : ℕ) (found ops : List Op) → at ≡ moment → found ≡ filter (λ op. hive_of op == hive) ops → on_hive hive (map (timed at) found) ≡ on_hive hive (map (timed moment) ops)
found_here hive at moment found ops now is =
    ap (λ (m : ℕ). on_hive hive (map (timed m) found)) now ∙ ap (λ (some : List Op). on_hive hive (map (timed moment) some)) is ∙ same_here hive moment ops

-- a change that has no operation on the hive
pub none_here : (hive moment : ℕ) (ops : List Op) → list_any (λ one. one == hive) (map hive_of ops) ≡ false → on_hive hive (map (timed moment) ops) ≡ []
none_here hive moment [] none = refl
none_here hive moment (op ∷ ops) none = by_test (hive_of op == hive) (λ e. none_here hive moment ops e) none
  where
    behind : List TimedOp
    behind = on_hive hive (map (timed moment) ops)

    by_test : (b : Bool) → (list_any (λ one. one == hive) (map hive_of ops) ≡ false → behind ≡ []) → (b || list_any (λ one. one == hive) (map hive_of ops)) ≡ false → (if b then (moment, op) ∷ behind else behind) ≡ []
    by_test true rest e = absurd cc
    by_test false rest e = rest e
