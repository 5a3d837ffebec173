-- What an operation does to the row at a path, and what two do in either order, each at its own moment.
use Rattle.std.proofs.Common.{◌≡◌, ◌⊎◌, inl, inr, ℕ, ◌-◌, Bool, true, false, ◌&&◌, cond, List, length, [], take, Option, Some, None, IsSome, is_some, refl, sym, ◌∙◌, ap}
use Rattle.std.specs.Prelude.{nat_lt, slice_index_or, ⊤}
use Rattle.std.specs.Ordering.{eq_by_cmp}
use Rattle.std.specs.Option.{option_map}
use Rattle.reg_names.specs.Names.{folded_path}
use Rattle.reg_tree_parts.specs.Orders.{path_order}
use Rattle.reg_tree_parts.specs.Rows.{Row, ValueMap}
use Rattle.reg_tree_parts.specs.NewRows.{new_row}
use Rattle.reg_tree_parts.specs.ValueEdits.{values_with, values_without}
use Rattle.reg_tree_parts.specs.Nodes.{begins_path, one_below}
use Rattle.reg_tree.specs.Maps.{TreeMap, row}
use Rattle.reg_tree.specs.Operations.{touched, depth_there, descriptor_of, row_after, tree_after}
use Rattle.reg_tree.specs.declared.op.Op.{Op}
use Rattle.reg_tree.specs.declared.op.Op.TheVariants.{CreateKey, DeleteKey, SetValue, DeleteValue}
use Rattle.reg_tree.proofs.TreesAfter.{row-tree_after}
use Rattle.conflicts.proofs.Tests.{never}

-- a creation writes the last key that is there, or makes one of this name with this descriptor; a deletion of a key
-- removes that, or writes its parent; whatever changes values edits their key
pub data Deed : Type 0 where
  Makes : Bool → Bool → List ℕ → List ℕ → Deed
  Removes : Bool → Bool → Deed
  Edits : Bool → (ValueMap → ValueMap) → Deed

abbrev pub edited : (ValueMap → ValueMap) → Row → Row
edited edit key = record key { values = edit key.values }

-- done at a moment
abbrev pub done : ℕ → Deed → Option Row → Option Row
done m (Makes touched_path new name descriptor) o = cond touched_path (option_map (touched m) o) (cond new (Some (new_row name descriptor m)) o)
done m (Removes here parent) o = cond here None (cond parent (option_map (touched m) o) o)
done m (Edits here edit) o = cond here (option_map (λ key. touched m (edited edit key)) o) o

-- what an operation does to the row at a path, given how far the way to its key leads and the descriptor there
abbrev pub deed : Op → ℕ → List ℕ → List (List ℕ) → Deed
deed (CreateKey hive spelled) depth descriptor q =
    Makes (eq_by_cmp path_order q (take depth (folded_path spelled))) (begins_path q (folded_path spelled) && nat_lt depth (length q)) (slice_index_or spelled (length q - 1) []) descriptor
deed (DeleteKey hive spelled) depth descriptor q = Removes (eq_by_cmp path_order q (folded_path spelled)) (one_below q (folded_path spelled))
deed (SetValue hive spelled name kind bytes) depth descriptor q = Edits (eq_by_cmp path_order q (folded_path spelled)) (λ values. values_with values name kind bytes)
deed (DeleteValue hive spelled name) depth descriptor q = Edits (eq_by_cmp path_order q (folded_path spelled)) (λ values. values_without values name)

-- the way to an operation's key, and what a tree has on it
abbrev pub way : Op → List (List ℕ)
way (CreateKey hive spelled) = folded_path spelled
way (DeleteKey hive spelled) = folded_path spelled
way (SetValue hive spelled name kind bytes) = folded_path spelled
way (DeleteValue hive spelled name) = folded_path spelled

module _ (tree : TreeMap) (op : Op) where
  abbrev pub depth_of : ℕ
  depth_of = depth_there tree (way op)

  abbrev pub home_descriptor : List ℕ
  home_descriptor = descriptor_of (row tree (take depth_of (way op)))

  abbrev pub its : List (List ℕ) → Deed
  its q = deed op depth_of home_descriptor q

row_deed : (tree : TreeMap) (op : Op) (m : ℕ) (q : List (List ℕ)) → row_after tree op m q ≡ done m (its tree op q) (row tree q)
row_deed tree (CreateKey hive spelled) m q = refl
row_deed tree (DeleteKey hive spelled) m q = refl
row_deed tree (SetValue hive spelled name kind bytes) m q = refl
row_deed tree (DeleteValue hive spelled name) m q = refl

pub row_done : (tree : TreeMap) (op : Op) (m : ℕ) (q : List (List ℕ)) → row (tree_after tree op m) q ≡ done m (its tree op q) (row tree q)
row_done tree op m q = row-tree_after tree op m q ∙ row_deed tree op m q

-- it makes only what isn't there, and does all else to what is
abbrev pub FitsRow : Deed → Option Row → Type 0
FitsRow (Makes touched_path new name descriptor) o = (touched_path ≡ true → IsSome o) × (new ≡ true → o ≡ None)
FitsRow (Removes here parent) o = (here ≡ true → IsSome o) × (parent ≡ true → IsSome o)
FitsRow (Edits here edit) o = here ≡ true → IsSome o

-- two do not both make the row, nor both edit it
abbrev pub AreTwo : Deed → Deed → Type 0
AreTwo (Makes h i k s) (Makes h' i' k' s') = i ≡ true → i' ≡ true → ⊥
AreTwo (Makes h i k s) (Removes d u) = ⊤
AreTwo (Makes h i k s) (Edits e f) = ⊤
AreTwo (Removes d u) (Makes h i k s) = ⊤
AreTwo (Removes d u) (Removes d' u') = ⊤
AreTwo (Removes d u) (Edits e f) = ⊤
AreTwo (Edits e f) (Makes h i k s) = ⊤
AreTwo (Edits e f) (Removes d u) = ⊤
AreTwo (Edits e f) (Edits e' f') = e ≡ true → e' ≡ true → ⊥

-- whether it removes the row, and whether it makes it
abbrev pub removes : Deed → Bool
removes (Makes h i k s) = false
removes (Removes d u) = d
removes (Edits e f) = false

abbrev pub makes : Deed → Bool
makes (Makes h i k s) = i
makes (Removes d u) = false
makes (Edits e f) = false

-- a row that is there, or none
pub some_none : {A : Type 0} (key : Row) → Some key ≡ None → A
some_none key e = never (sym (ap is_some e))

some_or_none : {A : Type 0} (o : Option Row) → IsSome o → o ≡ None → A
some_or_none o some none = never (ap is_some (sym none) ∙ some)

-- a row that isn't removed keeps its descriptor
pub descriptor_stays : (m : ℕ) (x : Deed) (o : Option Row) → IsSome o → FitsRow x o → (removes x ≡ true → ⊥) → descriptor_of (done m x o) ≡ descriptor_of o
descriptor_stays m x None there f keeps = never there
descriptor_stays m (Makes true i k s) (Some key) there f keeps = refl
descriptor_stays m (Makes false true k s) (Some key) there f keeps = some_none key (f.1 refl)
descriptor_stays m (Makes false false k s) (Some key) there f keeps = refl
descriptor_stays m (Removes true u) (Some key) there f keeps = absurd (keeps refl)
descriptor_stays m (Removes false true) (Some key) there f keeps = refl
descriptor_stays m (Removes false false) (Some key) there f keeps = refl
descriptor_stays m (Edits true e) (Some key) there f keeps = refl
descriptor_stays m (Edits false e) (Some key) there f keeps = refl

-- it stays there
pub there_stays : (m : ℕ) (x : Deed) (o : Option Row) → IsSome o → FitsRow x o → (removes x ≡ true → ⊥) → IsSome (done m x o)
there_stays m x None there f keeps = never there
there_stays m (Makes true i k s) (Some key) there f keeps = refl
there_stays m (Makes false true k s) (Some key) there f keeps = some_none key (f.1 refl)
there_stays m (Makes false false k s) (Some key) there f keeps = refl
there_stays m (Removes true u) (Some key) there f keeps = absurd (keeps refl)
there_stays m (Removes false true) (Some key) there f keeps = refl
there_stays m (Removes false false) (Some key) there f keeps = refl
there_stays m (Edits true e) (Some key) there f keeps = refl
there_stays m (Edits false e) (Some key) there f keeps = refl

-- one that isn't made stays missing
pub gone_stays : (m : ℕ) (x : Deed) (o : Option Row) → o ≡ None → FitsRow x o → (makes x ≡ true → ⊥) → done m x o ≡ None
gone_stays m x (Some key) none f keeps = some_none key none
gone_stays m (Makes true i k s) None none f keeps = never (f.0 refl)
gone_stays m (Makes false true k s) None none f keeps = absurd (keeps refl)
gone_stays m (Makes false false k s) None none f keeps = refl
gone_stays m (Removes true u) None none f keeps = refl
gone_stays m (Removes false true) None none f keeps = refl
gone_stays m (Removes false false) None none f keeps = refl
gone_stays m (Edits true v) None none f keeps = refl
gone_stays m (Edits false v) None none f keeps = refl

-- Two deeds

-- What a row becomes in two orders, by what it was, and what it was after the operations of one. Both are the same if
-- these left it. Else it has their moment, unless what came between is the last to write it; and that doesn't make it.
abbrev pub Orders : ℕ → Bool → Option Row → Option Row → Option Row → Option Row → Type 0
Orders m new was seen left right =
    ((right ≡ left) × (seen ≡ was))
    ⊎ ((right ≡ option_map (touched m) left) × ((key : Option Row) × (seen ≡ option_map (touched m) key)) × (new ≡ false))

-- what is written in the end may have been written before
pub twice : (m : ℕ) (o : Option Row) → option_map (touched m) (option_map (touched m) o) ≡ option_map (touched m) o
twice m None = refl
twice m (Some key) = refl

written_before : (m n : ℕ) (y : Deed) (o : Option Row) → option_map (touched m) (done n y o) ≡ option_map (touched m) (done n y (option_map (touched m) o))
written_before m n (Makes true i k s) None = refl
written_before m n (Makes true i k s) (Some key) = refl
written_before m n (Makes false true k s) o = refl
written_before m n (Makes false false k s) o = sym (twice m o)
written_before m n (Removes true u) o = refl
written_before m n (Removes false true) None = refl
written_before m n (Removes false true) (Some key) = refl
written_before m n (Removes false false) o = sym (twice m o)
written_before m n (Edits true v) None = refl
written_before m n (Edits true v) (Some key) = refl
written_before m n (Edits false v) o = sym (twice m o)

-- what does something to a row that is there doesn't make it
makes_none : (y : Deed) (o : Option Row) → FitsRow y o → IsSome o → makes y ≡ false
makes_none (Makes h true k s) o g there = some_or_none o there (g.1 refl)
makes_none (Makes h false k s) o g there = refl
makes_none (Removes d u) o g there = refl
makes_none (Edits e f) o g there = refl

-- a row that another one made
made_then : (m n : ℕ) (y : Deed) (key : Row) → FitsRow y None → makes y ≡ false → done n y (Some key) ≡ Some key
made_then m n (Makes true i k s) key g none = never (g.0 refl)
made_then m n (Makes false true k s) key g none = never (sym none)
made_then m n (Makes false false k s) key g none = refl
made_then m n (Removes true u) key g none = never (g.0 refl)
made_then m n (Removes false true) key g none = never (g.1 refl)
made_then m n (Removes false false) key g none = refl
made_then m n (Edits true v) key g none = never (g refl)
made_then m n (Edits false v) key g none = refl

one_makes : (i : Bool) → (true ≡ true → i ≡ true → ⊥) → i ≡ false
one_makes true two = absurd (two refl refl)
one_makes false two = refl

not_made : (h : Bool) (name descriptor : List ℕ) (y : Deed) → AreTwo (Makes h true name descriptor) y → makes y ≡ false
not_made h name descriptor (Makes h' i k s) two = one_makes i two
not_made h name descriptor (Removes d u) two = refl
not_made h name descriptor (Edits e f) two = refl

-- a row that another one removed
removed_then : (m n : ℕ) (y : Deed) → makes y ≡ false → None ≡ option_map (touched m) (done n y None)
removed_then m n (Makes true i k s) none = refl
removed_then m n (Makes false true k s) none = never (sym none)
removed_then m n (Makes false false k s) none = refl
removed_then m n (Removes true u) none = refl
removed_then m n (Removes false true) none = refl
removed_then m n (Removes false false) none = refl
removed_then m n (Edits true v) none = refl
removed_then m n (Edits false v) none = refl

-- a row that another one edited
edited_then : (m n : ℕ) (v : ValueMap → ValueMap) (y : Deed) (key : Row) → FitsRow y (Some key) → AreTwo (Edits true v) y → done m (Edits true v) (done n y (Some key)) ≡ option_map (touched m) (done n y (done m (Edits true v) (Some key)))
edited_then m n v (Makes true i k s) key g two = refl
edited_then m n v (Makes false true k s) key g two = some_none key (g.1 refl)
edited_then m n v (Makes false false k s) key g two = refl
edited_then m n v (Removes true u) key g two = refl
edited_then m n v (Removes false true) key g two = refl
edited_then m n v (Removes false false) key g two = refl
edited_then m n v (Edits true w) key g two = absurd (two refl refl)
edited_then m n v (Edits false w) key g two = refl

pub either_done : (m n : ℕ) (x y : Deed) (o : Option Row) → FitsRow x o → FitsRow y o → AreTwo x y → Orders m (makes y) o (done m x o) (done n y (done m x o)) (done m x (done n y o))
either_done m n (Makes true i k s) y o f g two = inr (written_before m n y o, (o, refl), makes_none y o g (f.0 refl))
either_done m n (Makes false true k s) y (Some key) f g two = some_none key (f.1 refl)
either_done m n (Makes false true k s) y None f g two =
    let none = not_made false k s y two in
    inr (ap (option_map (touched m)) (sym (made_then m n y (new_row k s m) g none)), (Some (new_row k s m), refl), none)
either_done m n (Makes false false k s) y o f g two = inl (refl, refl)
either_done m n (Removes true u) y o f g two = let none = makes_none y o g (f.0 refl) in inr (removed_then m n y none, (None, refl), none)
either_done m n (Removes false true) y o f g two = inr (written_before m n y o, (o, refl), makes_none y o g (f.1 refl))
either_done m n (Removes false false) y o f g two = inl (refl, refl)
either_done m n (Edits true v) y None f g two = never (f refl)
either_done m n (Edits true v) y (Some key) f g two = inr (edited_then m n v y key g two, (Some (edited v key), refl), makes_none y (Some key) g refl)
either_done m n (Edits false v) y o f g two = inl (refl, refl)

-- whether it writes a row that is there
abbrev pub writes : Deed → Bool
writes (Makes h i k s) = h
writes (Removes d u) = u
writes (Edits e f) = e

pub there_written : (x : Deed) (o : Option Row) → FitsRow x o → writes x ≡ true → IsSome o
there_written (Makes h i k s) o f w = f.0 w
there_written (Removes d u) o f w = f.1 w
there_written (Edits e v) o f w = f w

-- a row that was written at a moment is so still, if a deed leaves it or removes it
written_still : (m : ℕ) (o key : Option Row) → o ≡ option_map (touched m) key → option_map (touched m) o ≡ o
written_still m o key e = ap (option_map (touched m)) e ∙ twice m key ∙ sym e

pub stays_written : (m n : ℕ) (y : Deed) (o key : Option Row) → o ≡ option_map (touched m) key → makes y ≡ false → writes y ≡ false → option_map (touched m) (done n y o) ≡ done n y o
stays_written m n (Makes true i k s) o key e none off = never (sym off)
stays_written m n (Makes false true k s) o key e none off = never (sym none)
stays_written m n (Makes false false k s) o key e none off = written_still m o key e
stays_written m n (Removes true u) o key e none off = refl
stays_written m n (Removes false true) o key e none off = never (sym off)
stays_written m n (Removes false false) o key e none off = written_still m o key e
stays_written m n (Edits true v) o key e none off = never (sym off)
stays_written m n (Edits false v) o key e none off = written_still m o key e

-- and if it writes it at this moment
edited_still : (m : ℕ) (v : ValueMap → ValueMap) (o : Option Row) → option_map (touched m) (option_map (λ key. touched m (edited v key)) o) ≡ option_map (λ key. touched m (edited v key)) o
edited_still m v None = refl
edited_still m v (Some key) = refl

pub done_at : (m : ℕ) (y : Deed) (o key : Option Row) → o ≡ option_map (touched m) key → makes y ≡ false → option_map (touched m) (done m y o) ≡ done m y o
done_at m (Makes true i k s) o key e none = twice m o
done_at m (Makes false true k s) o key e none = never (sym none)
done_at m (Makes false false k s) o key e none = written_still m o key e
done_at m (Removes true u) o key e none = refl
done_at m (Removes false true) o key e none = twice m o
done_at m (Removes false false) o key e none = written_still m o key e
done_at m (Edits true v) o key e none = edited_still m v o
done_at m (Edits false v) o key e none = written_still m o key e
