-- Bins data encode a tree in one way at most. So a tree that they encode in some way is encoded in a known one.
use Rattle.std.proofs.Common.{◌≡◌, ℕ, List, [], ◌∷◌, ap, sym, subst, ◌∙◌, refl, Result}
use Rattle.std.proofs.Math.Logic.{∥∥₁_elim}
use Rattle.std.specs.Coded.{Coded, Coded-set, coded×, coded_ℕ, coded_list, code_by, le_prop}
use Rattle.std.specs.FinMap as finite
use mathlib.Core.HLevel.{×_prop, Π_prop, ⊥_prop, Unit-prop, is_prop→PathP}
use mathlib.Core.Sum.{⊎_set}
use Rattle.refusals.specs.declared.refusal.Refusal.{Refusal}
use Rattle.reg_tree_parts.specs.Rows.{Row, row_code}
use Rattle.reg_tree.specs.Maps.{TreeMap}
use Rattle.hive_cells.specs.Tiles.{Tiles}
use Rattle.hive_cells.specs.Bins.{Cells, Shows}
use Rattle.hive_tree_model.specs.Lists.{Once}
use Rattle.hive_tree_model.specs.Keys.{KeyParts, KeyReader, Keys, none, key}
use Rattle.hive_tree_model.specs.Trees.{tree_of}
use Rattle.hive_tree_model.specs.Encodings.{CellsMatchKeys, Named, Whole, LentApart, CellsEncodeTree}
use Rattle.hive_tree_model.proofs.Only.{one_parts, one_reading}
use Rattle.hive_records.specs.KeyNodes.{keys_in}
use Rattle.hive_records.specs.Images.{splits}
use Rattle.hive_records.proofs.Images.{same_cells}
use Rattle.hive_load.specs.Limits.{TreeIsInLimits, BinsEncodeTreeInLimits}

-- ---- sets

parts_code : Coded (KeyParts Row)
parts_code = code_by (List ℕ × (Row × (List ℕ × (List ℕ × List ℕ)))) (coded× (coded_list coded_ℕ) (coded× row_code (coded× (coded_list coded_ℕ) (coded× (coded_list coded_ℕ) (coded_list coded_ℕ)))))
    (λ p. (p.name, (p.row, (p.subkey_list, (p.own, p.lent))))) (λ q. record { name = q.0; row = q.1.0; subkey_list = q.1.1.0; own = q.1.1.1.0; lent = q.1.1.1.1 }) (λ _. refl)

refusal_set : IsSet Refusal
refusal_set = hlevel (⊎_set, Coded-set coded_ℕ)

result_set : IsSet (Result (KeyParts Row) Refusal)
result_set = hlevel (⊎_set, Coded-set parts_code, refusal_set)

offsets_set : IsSet (List ℕ)
offsets_set = Coded-set (coded_list coded_ℕ)

tree_set : IsSet TreeMap
tree_set = Coded-set (finite.code (coded_list (coded_list coded_ℕ)) row_code)

-- ---- each part

once_prop : (xs : List ℕ) → IsProp (Once xs)
once_prop [] = Unit-prop
once_prop (x ∷ xs) = ×_prop (Π_prop (λ _. ⊥_prop)) (once_prop xs)

named_prop : (keys : Keys Row) → IsProp (Named keys)
named_prop none = Unit-prop
named_prop (key at parts below after) = hlevel (named_prop below, named_prop after)

match_prop : (reads : KeyReader Row Refusal) (keys : Keys Row) → IsProp (CellsMatchKeys reads keys)
match_prop reads none = Unit-prop
match_prop reads (key at parts below after) = hlevel (result_set, offsets_set, match_prop reads below, match_prop reads after)

whole_prop : (reads : KeyReader Row Refusal) (at : ℕ) (parts : KeyParts Row) (below : Keys Row) → IsProp (Whole reads at parts below)
whole_prop reads at parts below = hlevel (result_set, offsets_set, match_prop reads below, named_prop below, once_prop)

apart_prop : (parts : KeyParts Row) (below : Keys Row) → IsProp (LentApart parts below)
apart_prop parts below = hlevel ⊥_prop

-- ---- the whole

encoding_prop : (reads : KeyReader Row Refusal) (root : ℕ) (tree : TreeMap) → IsProp (CellsEncodeTree reads root tree)
encoding_prop reads root tree a b =
    let parts : a.0 ≡ b.0 = one_parts reads root root a.0 b.0 refl a.2.read b.2.read in
    let below : a.1 ≡ b.1 = one_reading reads a.1 b.1 a.2.fits b.2.fits (a.2.listed ∙ ap (λ (z : KeyParts Row). z.subkey_list) parts ∙ sym b.2.listed) in
    λ i. (
      parts i,
      below i,
      is_prop→PathP (λ j. Whole reads root (parts j) (below j)) (λ j. whole_prop reads root (parts j) (below j)) a.2 b.2 i,
      is_prop→PathP (λ j. tree ≡ tree_of (parts j) (below j)) (λ j. tree_set tree (tree_of (parts j) (below j))) a.3 b.3 i,
      is_prop→PathP (λ j. LentApart (parts j) (below j)) (λ j. apart_prop (parts j) (below j)) a.4 b.4 i,
    )

limits_prop : (tree : TreeMap) → IsProp (TreeIsInLimits tree)
limits_prop tree = hlevel le_prop

pub known_encoding : (bytes : List ℕ) (root minor : ℕ) (tree : TreeMap) → Tiles bytes → (cells : Cells) → Shows bytes cells → ∥ BinsEncodeTreeInLimits bytes root minor tree ∥₁ → BinsEncodeTreeInLimits bytes root minor tree
known_encoding bytes root minor tree tiles cells shows some =
    let encodes = ∥∥₁_elim some (encoding_prop (keys_in (splits minor) cells) root tree) (λ s. subst (λ (z : Cells). CellsEncodeTree (keys_in (splits minor) z) root tree) (same_cells bytes s.0.1 cells s.0.2 shows) s.0.3) in
    ((tiles, cells, shows, encodes), ∥∥₁_elim some (limits_prop tree) (λ s. s.1))
