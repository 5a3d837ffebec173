-- A value whose cells have what is written reads back, however its data are written; and so do all of a key's.
use Rattle.std.proofs.Common.{◌≡◌, ◌<◌, inl, inr, ℕ, Bool, true, List, [], ◌∷◌, length, map, flat_map, refl, sym, subst, arith}
use Rattle.std.specs.List.{AllByRecursion}
use Rattle.reg_names.specs.Names.{folded}
use Rattle.reg_tree_parts.specs.declared.value.Value.{Value}
use Rattle.hive_cells.specs.Bins.{Cells}
use Rattle.hive_records.specs.Names.{all_apart}
use Rattle.hive_records.specs.Values.{value_at, map_of, values_at}
use Rattle.hive_records.specs.Lists.{subkeys_at}
use Rattle.hive_records.specs.Fields.{Gives, CellHolds}
use Rattle.hive_records.specs.ListEncodings.{offsets_bytes, AreOffsets}
use Rattle.hive_records.specs.KeyEncodings.{ValueCells}
use Rattle.hive_records.specs.Wholes.{IsWritten}
use Rattle.hive_records.proofs.StepsAgain.{gives_done, gives_yes}
use Rattle.hive_records.proofs.ValuesAgain.{small_again, large_again}
use Rattle.hive_records.proofs.ManyAgain.{values_back}
use Rattle.hive_records.proofs.BigAgain.{big_again}

pub written_again : (split : Bool) (cells : Cells) (v : ValueCells) → IsWritten split cells v → Gives (value_at split v.at) cells v.own [] v.value
written_again split cells v (fits, inl h) = subst (λ (o : List ℕ). Gives (value_at split v.at) cells o [] v.value) (sym h.own) (small_again split cells v.at v.value fits h.few h.encoding)
written_again split cells v (fits, inr (inl h)) = subst (λ (o : List ℕ). Gives (value_at split v.at) cells o [] v.value) (sym h.own) (large_again split cells v.at h.to v.value fits (let s = h.some in omega (arith, s)) h.few h.one h.near h.encoding h.its)
written_again split cells v (fits, inr (inr h)) = subst (λ (o : List ℕ). Gives (value_at split v.at) cells o [] v.value) (sym h.own) (subst (λ (b : Bool). Gives (value_at b v.at) cells (v.at ∷ h.to ∷ h.list ∷ map (λ s. s.at) h.segments) [] v.value) (sym h.splits)
    (big_again cells v.at h.to h.list v.value h.segments fits h.many h.few h.near h.near_list h.its h.full h.count h.are h.encoding h.leads h.listing h.held))

each_written : (split : Bool) (cells : Cells) (values : List ValueCells) → AllByRecursion (λ v. IsWritten split cells v) values → AllByRecursion (λ v. Gives (value_at split v.at) cells v.own [] v.value) values
each_written split cells [] h = tt
each_written split cells (v ∷ values) h = (written_again split cells v h.0, each_written split cells values h.1)

pub all_written : (split : Bool) (cells : Cells) (list : ℕ) (values : List ValueCells) → 0 < length values → AreOffsets (map (λ (v : ValueCells). v.at) values) → all_apart (map (λ (v : Value). folded v.name) (map (λ (v : ValueCells). v.value) values)) ≡ true →
    AllByRecursion (λ v. IsWritten split cells v) values → CellHolds cells list (offsets_bytes (map (λ (v : ValueCells). v.at) values)) →
    Gives (values_at split (length values) list) cells (list ∷ flat_map (λ v. v.own) values) [] (map_of (map (λ (v : ValueCells). v.value) values))
all_written split cells list values some are apart given h = values_back split cells list values some are apart (each_written split cells values given) h

pub no_values : (split : Bool) (cells : Cells) (list : ℕ) → Gives (values_at split 0 list) cells [] [] (map_of [])
no_values split cells list = gives_yes _ true refl (gives_done (map_of []) cells)

pub no_subkeys : (cells : Cells) (list : ℕ) → Gives (subkeys_at 0 list) cells [] [] []
no_subkeys cells list = gives_yes _ true refl (gives_done [] cells)
