-- The names of keys, one after another.
use Rattle.std.proofs.Common.{◌≡◌, ◌<◌, ◌+◌, ℕ, List, [], ◌∷◌, ◌++◌, length, take, get_or, ◌∙◌, ap, sym, Ok, Result, IsOk, is_ok}
use Rattle.std.proofs.lemmas.List.{take_more, map-append}
use Rattle.refusals.specs.declared.refusal.Refusal.{Refusal}
use Rattle.hive_cells.specs.Bins.{Cells}
use Rattle.hive_lookup.specs.declared.list_kind.ListKind.TheVariants.{Subkeys}
use Rattle.hive_lookup.specs.Records.{record_at, name_in_record}
use Rattle.hive_lookup.specs.Listings.{name_if_read, names_listed}

pub is_ok_if : (r : Result (List ℕ) Refusal) (bytes : List ℕ) → r ≡ Ok bytes → IsOk r
is_ok_if r bytes e = ap (λ (z : Result (List ℕ) Refusal). is_ok z) e

-- one name more
pub names_more : (cells : Cells) (listed : List ℕ) (i : ℕ) → i < length listed → (names : List (List ℕ)) → names ≡ names_listed cells (take i listed) → (name bytes : List ℕ) → record_at Subkeys cells (get_or listed i 0) ≡ Ok bytes → name ≡ name_in_record Subkeys bytes →
    names ++ name ∷ [] ≡ names_listed cells (take (i + 1) listed)
names_more cells listed i within names so_far name bytes read is =
    ap (λ (l : List (List ℕ)). l ++ name ∷ []) so_far
    ∙ ap (λ (n : List ℕ). names_listed cells (take i listed) ++ n ∷ []) (is ∙ ap name_if_read (sym read))
    ∙ sym (ap (λ (l : List ℕ). names_listed cells l) (take_more listed i 0 within) ∙ map-append (λ at. name_if_read (record_at Subkeys cells at)) (take i listed) (get_or listed i 0 ∷ []))
