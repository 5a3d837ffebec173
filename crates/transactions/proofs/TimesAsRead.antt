-- Which time a key has after operations at a moment, by what it has after them at another: one that they write has the
-- moment, every other one what it had.
use Rattle.std.proofs.Common.{◌≡◌, ◌⊎◌, inl, inr, ℕ, List, length, Option, Some, None, refl, sym, ◌∙◌, ap, subst}
use Rattle.std.specs.Prelude.{slice_get}
use Rattle.std.specs.Option.{option_map, option_and_then}
use Rattle.std.specs.FinMap as finite
use Rattle.reg_tree_parts.specs.Rows.{Row}
use Rattle.reg_tree.specs.Maps.{TreeMap, row, subkeys}
use Rattle.reg_tree.specs.Operations.{touched}
use Rattle.reg_tree.specs.Judgement.{applied}
use Rattle.reg_tree.specs.Times.{untimed}
use Rattle.reg_tree.specs.Reads.{info_of}
use Rattle.reg_tree.specs.TreeLists.{info_in}
use Rattle.reg_tree.specs.declared.op.Op.{Op}
use Rattle.reg_tree.specs.declared.tree.Info.{Info}
use Rattle.reg_tree.proofs.Times.{subkeys_same}
use Rattle.conflicts.proofs.TimesAsRead.{at_path, IsTold, AreTold, told}

module _ (m n : ℕ) where
  -- What is read of a key

  abbrev info_at : Option TreeMap → List (List ℕ) → Option Info
  info_at o path = option_and_then (λ tree. info_of tree path) o

  abbrev info_by : ℕ → Row → Info
  info_by below key = record { subkeys = below; values = finite.len key.values; time = key.time }

  -- the key is not there; its time is the moment at each; or it is what it was
  abbrev pub Times : Option Info → Option Info → Option Info → Type 0
  Times was i j =
      ((i ≡ None) × (j ≡ None))
      ⊎ ((info : Info) × (i ≡ Some (record info { time = m })) × (j ≡ Some (record info { time = n })))
      ⊎ ((info : Info) × (i ≡ Some info) × (j ≡ Some info) × (option_map (λ (x : Info). x.time) was ≡ Some info.time))

  row_times : (was : Option TreeMap) (path : List (List ℕ)) (below : ℕ) (x y : Option Row) → IsTold m n (at_path was path) (at_path was path) x y → Times (info_at was path) (option_map (info_by below) x) (option_map (info_by below) y)
  row_times was path below x y h = elim h [
    | inl w ↦ written w.0 w.1 w.2
    | inr s ↦ left was s.0 s.1
  ]
    where
      written : (key : Option Row) → x ≡ option_map (touched m) key → y ≡ option_map (touched n) key → Times (info_at was path) (option_map (info_by below) x) (option_map (info_by below) y)
      written None e f = inl (ap (option_map (info_by below)) e, ap (option_map (info_by below)) f)
      written (Some key) e f = inr (inl (info_by below key, ap (option_map (info_by below)) e, ap (option_map (info_by below)) f))

      by_row : (tree : TreeMap) (o : Option Row) → row tree path ≡ o → x ≡ o → y ≡ o → Times (info_at (Some tree) path) (option_map (info_by below) x) (option_map (info_by below) y)
      by_row tree None t e f = inl (ap (option_map (info_by below)) e, ap (option_map (info_by below)) f)
      by_row tree (Some key) t e f = inr (inr (info_by below key, ap (option_map (info_by below)) e, ap (option_map (info_by below)) f, ap (λ (o : Option Row). option_map (λ (z : Info). z.time) (option_map (info_by (length (subkeys tree path))) o)) t))

      left : (was : Option TreeMap) → x ≡ at_path was path → y ≡ at_path was path → Times (info_at was path) (option_map (info_by below) x) (option_map (info_by below) y)
      left None e f = inl (ap (option_map (info_by below)) e, ap (option_map (info_by below)) f)
      left (Some tree) e f = by_row tree (row tree path) refl e f

  tree_times : (was o p : Option TreeMap) (path : List (List ℕ)) → AreTold m n was was o p → Times (info_at was path) (info_at o path) (info_at p path)
  tree_times was None None path h = inl (refl, refl)
  tree_times was None (Some b) path h = let e = h.0 in cc
  tree_times was (Some a) None path h = let e = h.0 in cc
  tree_times was (Some a) (Some b) path h =
      let e = h.0 in
      let same : untimed a ≡ untimed b = cc in
      subst (λ names. Times (info_at was path) (info_of a path) (option_map (info_by (length names)) (row b path))) (subkeys_same a b same path)
      (row_times was path (length (subkeys a path)) (row a path) (row b path) (h.1 path))

  pub times_told : (trees : List TreeMap) (ops : List Op) (hive : ℕ) (path : List (List ℕ)) → Times (info_in trees hive path) (info_in (applied trees ops m) hive path) (info_in (applied trees ops n) hive path)
  times_told trees ops hive path = tree_times (slice_get trees hive) (slice_get (applied trees ops m) hive) (slice_get (applied trees ops n) hive) path (told m n trees trees ops hive refl)

-- What is read of a key at one moment, by what is read at another
module _ (trees now : List TreeMap) (ops : List Op) (m n hive : ℕ) (path : List (List ℕ)) (made : trees ≡ applied now ops m) where
  abbrev before : Option Info
  before = info_in now hive path

  abbrev after : Option Info
  after = info_in (applied now ops n) hive path

  its_times : Times m n before (info_in trees hive path) after
  its_times = subst (λ ts. Times m n before (info_in ts hive path) after) (sym made) (times_told m n now ops hive path)

  -- a time that isn't the moment stays
  pub other_told : (info : Info) → info_in trees hive path ≡ Some info → (info.time ≡ m → ⊥) → after ≡ Some info
  other_told info e other = elim its_times [
    | inl w ↦ let f = w.0 in cc
    | inr (inl w) ↦ absurd (other (same_time info (record w.0 { time = m }) (sym e ∙ w.1)))
    | inr (inr w) ↦ w.2 ∙ sym w.1 ∙ e
  ]
    where
      same_time : (x y : Info) → Some x ≡ Some y → x.time ≡ y.time
      same_time x y same = let it : x ≡ y = cc in ap (λ (z : Info). z.time) it

  -- one that is becomes the other moment, if the key did not have it before
  pub moved_told : (info : Info) → info_in trees hive path ≡ Some info → info.time ≡ m → (option_map (λ (x : Info). x.time) before ≡ Some m → ⊥) → after ≡ Some (record info { time = n })
  moved_told info e here unlike = elim its_times [
    | inl w ↦ let f = w.0 in cc
    | inr (inl w) ↦ w.2 ∙ ap (option_map (λ (x : Info). record x { time = n })) (sym w.1 ∙ e)
    | inr (inr w) ↦ absurd (unlike (w.3 ∙ ap (option_map (λ (x : Info). x.time)) (sym w.1 ∙ e) ∙ ap Some here))
  ]

-- at the same moment all stays
pub same_told : (trees now : List TreeMap) (ops : List Op) (m n hive : ℕ) (path : List (List ℕ)) (info : Info) → trees ≡ applied now ops m → m ≡ n → info_in trees hive path ≡ Some info → info_in (applied now ops n) hive path ≡ Some info
same_told trees now ops m n hive path info made same e = ap (λ k. info_in (applied now ops k) hive path) (sym same) ∙ ap (λ ts. info_in ts hive path) (sym made) ∙ e
