-- What contracts see of an undo log, and how an image and its log lead back to a savepoint.
use Rattle.std.specs.Prelude.{◌≡◌, ℕ, ◌*◌, ◌/◌, ◌<◌, ◌≤◌, ◌↔◌, [], true, List, length, slice_index, refl}
use Rattle.std.specs.Coded.{Coded, code_by, coded×, coded_ℕ, coded_list}
use Rattle.refusals.specs.declared.limits.TheConstants.{MOST_BINS_BYTES}
use Rattle.dirty_vector.specs.Marks.{is_marked}
use Rattle.dirty_vector.specs.Pages.{is_bins_size}
use Rattle.hive_cells.specs.Restores.{HasPage, Restores}

-- the saved pages in the order in which they were saved, and their bytes, one page after another
pub record SavedPages : Type 0 where
  pub order : List ℕ
  pub bytes : List ℕ

abbrev pub saved_pages_code : Coded SavedPages
saved_pages_code = code_by (List ℕ × List ℕ) (coded× (coded_list coded_ℕ) (coded_list coded_ℕ)) (λ p. (p.order, p.bytes)) (λ p. record { order = p.0; bytes = p.1 }) (λ _. refl)

abbrev pub no_pages : SavedPages
no_pages = record { order = []; bytes = [] }

-- a log: there is a mark for each page of the largest data, a page is marked exactly if it is saved, and each saved page
-- has its bytes
pub record IsLog (marks order bytes : List ℕ) : Type 0 where
  pub len : length marks ≡ MOST_BINS_BYTES / 512 / 64
  pub marked : (page : ℕ) → (is_marked marks page ≡ true) ↔ HasPage order page
  pub within : (k : ℕ) → k < length order → slice_index order k < MOST_BINS_BYTES / 512
  pub sizes : length bytes ≡ 512 * length order

-- data get longer, and what they were stays. Sizes of bins data stay such
pub record Extends (old new : List ℕ) : Type 0 where
  pub longer : length old ≤ length new
  pub same : (i : ℕ) → i < length old → slice_index new i ≡ slice_index old i
  pub size : is_bins_size (length old) ≡ true → is_bins_size (length new) ≡ true

-- data and a log lead back to the data at the savepoint, which had a length
pub record LeadsBack (saved now : List ℕ) (log : SavedPages) (len : ℕ) : Type 0 where
  pub restores : Restores saved now log.order log.bytes len
  pub saved_size : is_bins_size (length saved) ≡ true
  pub size : is_bins_size (length now) ≡ true
