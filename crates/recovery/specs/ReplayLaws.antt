-- Changes that are replayed in two parts.
use Rattle.std.proofs.Common.{◌≡◌, ◌∙◌, ℕ, ◌+◌, List, [], ◌∷◌, ◌++◌, length, drop, get_or, refl, sym, ap, subst, arith, append_assoc, length-append}
use Rattle.std.specs.List.{filter}
use Rattle.std.proofs.lemmas.List.{append-nil, map-append}
use Rattle.std.proofs.lemmas.List.Elements.{filter-append}
use Rattle.std.proofs.lemmas.Option.{slice_get_within, slice_get-get_or}
use Rattle.reg_tree.specs.Maps.{TreeMap}
use Rattle.reg_tree.specs.Fresh.{fresh_tree}
use Rattle.reg_tree.specs.declared.element.Element.{Element}
use Rattle.crash_model.specs.Changes as law
use Rattle.crash_model.specs.Changes.{ops_on, replay}
use Rattle.crash_model.proofs.Replays.{ops_on-append, replay_on}
use Rattle.change_codec.specs.ModelChanges.{TimedOp, tree_rules, timed_element, timed_elements}
use Rattle.commit_journal.specs.LastChangePerHive.{AreLastIn}
use Rattle.commit_journal.specs.Numbered.{NumberedChange, numbered, changes_in}
use Rattle.recovery.specs.Retained.{above_number, is_lacked, numbered_changes}
use Rattle.recovery.specs.Replays.{ops_lacked, TreesFollow, NamesFollow, Replays}
use Rattle.recovery.specs.declared.replay.Replay.{Replay}

-- the operations of two parts
pub lacked_append : (i k : ℕ) (front rest : List NumberedChange) → ops_lacked i k (front ++ rest) ≡ ops_lacked i k front ++ ops_lacked i k rest
lacked_append i k front rest =
    ap (λ (l : List NumberedChange). ops_on i (timed_elements (changes_in l))) (filter-append _ front rest)
    ∙ ap (λ (l : List Element). ops_on i (timed_elements l)) (map-append (λ (c : NumberedChange). c.1) (above_number k front) (above_number k rest))
    ∙ ap (ops_on i) (map-append timed_element (changes_in (above_number k front)) (changes_in (above_number k rest)))
    ∙ ops_on-append i (timed_elements (changes_in (above_number k front))) (timed_elements (changes_in (above_number k rest)))

pub trees_none : (numbers : List ℕ) (trees : List TreeMap) → TreesFollow numbers [] trees trees
trees_none numbers trees = record { many = refl; each = λ i was is a b. sym a ∙ b }

pub trees_more : (numbers : List ℕ) (front rest : List NumberedChange) (before between after : List TreeMap) → TreesFollow numbers front before between → TreesFollow numbers rest between after → TreesFollow numbers (front ++ rest) before after
trees_more numbers front rest before between after one two = record {
  many = two.many ∙ one.many;
  each = λ i was is a b.
      let k = get_or numbers i 0 in
      let mid = slice_get-get_or between i fresh_tree (omega (arith, slice_get_within before i was a, one.many)) in
      let first = one.each i was (get_or between i fresh_tree) a mid in
      ap (λ (ops : List TimedOp). replay tree_rules ops was) (lacked_append i k front rest)
      ∙ replay_on tree_rules (ops_lacked i k front) (ops_lacked i k rest) was (get_or between i fresh_tree) first
      ∙ two.each i (get_or between i fresh_tree) is mid b;
}

-- numbers in two parts
numbered_front : (base : ℕ) (front rest : List NumberedChange) (es : List Element) → front ++ rest ≡ numbered base es
    → (xs : List Element) × (ys : List Element) × (es ≡ xs ++ ys) × (front ≡ numbered base xs) × (rest ≡ numbered (base + length xs) ys)
numbered_front base [] rest es is = ([], es, refl, refl, is ∙ ap (λ n. numbered n es) (omega arith))
numbered_front base (c ∷ front) rest [] is = absurd (omega (arith, ap length is))
numbered_front base (c ∷ front) rest (e ∷ es) is =
    let r = numbered_front (base + 1) front rest es (ap (drop 1) is) in
    let head : c ≡ (base + 1, e) = ap (λ l. get_or l 0 c) is in (
      e ∷ r.0,
      r.1,
      ap (λ l. e ∷ l) r.2,
      ap (λ d. d ∷ front) head ∙ ap (λ l. (base + 1, e) ∷ l) r.3,
      r.4 ∙ ap (λ n. numbered n r.1) (omega arith),
    )

pub names_none : (last : List ℕ) → NamesFollow [] last last
names_none last = record {
  many = refl;
  each = λ base known es is was. subst (λ (l : List (law.Element TimedOp)). AreLastIn base l last) (sym (ap (λ (l : List Element). known ++ timed_elements l) (none (base + length known) es is) ∙ append-nil known)) was;
}
  where
    none : (base : ℕ) (es : List Element) → [] ≡ numbered base es → es ≡ []
    none base [] is = refl
    none base (e ∷ es) is = absurd (omega (arith, ap length is))

pub names_more : (front rest : List NumberedChange) (before between after : List ℕ) → NamesFollow front before between → NamesFollow rest between after → NamesFollow (front ++ rest) before after
names_more front rest before between after one two = record {
  many = two.many ∙ one.many;
  each = λ base known es is was.
      let r = numbered_front (base + length known) front rest es is in
      let xs = r.0 in
      let ys = r.1 in
      let first : AreLastIn base (known ++ timed_elements xs) between = one.each base known xs r.3 was in
      let next : rest ≡ numbered (base + length (known ++ timed_elements xs)) ys
      = r.4 ∙ ap (λ n. numbered n ys) (omega (arith, length-append known (timed_elements xs), length-timed xs)) in
      subst (λ (l : List (law.Element TimedOp)). AreLastIn base l after)
      (append_assoc known (timed_elements xs) (timed_elements ys) ∙ ap (λ (l : List (law.Element TimedOp)). known ++ l) (sym (map-append timed_element xs ys)) ∙ ap (λ (l : List Element). known ++ timed_elements l) (sym r.2))
      (two.each base (known ++ timed_elements xs) ys next first);
}
  where
    length-timed : (l : List Element) → length (timed_elements l) ≡ length l
    length-timed [] = refl
    length-timed (e ∷ l) = omega (arith, length-timed l)

pub replays_none : (replay : Replay) → Replays replay replay []
replays_none replay = record {
  numbers = refl;
  trees = trees_none replay.numbers.items replay.trees.items;
  are = λ trees. trees;
  retained = sym (append-nil (numbered_changes replay.retained));
  names = names_none replay.last_changes.last.items;
}

pub replays_more : (before between after : Replay) (front rest : List NumberedChange) → Replays before between front → Replays between after rest → Replays before after (front ++ rest)
replays_more before between after front rest one two =
    let same : between.numbers.items ≡ before.numbers.items = ap (λ v. v.items) one.numbers in
    record {
      numbers = two.numbers ∙ one.numbers;
      trees = trees_more before.numbers.items front rest before.trees.items between.trees.items after.trees.items one.trees (subst (λ (ns : List ℕ). TreesFollow ns rest between.trees.items after.trees.items) same two.trees);
      are = λ trees. two.are (one.are trees);
      retained = two.retained ∙ ap (λ (ns : List ℕ). numbered_changes between.retained ++ filter (is_lacked ns) rest) same
          ∙ ap (λ (l : List NumberedChange). l ++ filter (is_lacked before.numbers.items) rest) one.retained
          ∙ append_assoc (numbered_changes before.retained) (filter (is_lacked before.numbers.items) front) (filter (is_lacked before.numbers.items) rest)
          ∙ ap (λ (l : List NumberedChange). numbered_changes before.retained ++ l) (sym (filter-append (is_lacked before.numbers.items) front rest));
      names = names_more front rest before.last_changes.last.items between.last_changes.last.items after.last_changes.last.items one.names two.names;
    }
