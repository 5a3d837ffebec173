-- A key that was found, after the count of a security cell was written.
use Rattle.std.proofs.Common.{◌≡◌, ◌≢◌, ℕ, List, [], length, arith}
use Rattle.reg_tree.specs.Maps.{TreeMap}
use Rattle.hive_cells.specs.Tiles.{Tiles, IsAllocatedCell, u32_at, cell_data}
use Rattle.hive_records.specs.Numbers.{nil_offset}
use Rattle.hive_records.specs.Images.{BinsEncodeTree}
use Rattle.hive_edit_laws.specs.Found.{KeyFound}
use Rattle.hive_edit_laws.specs.RecordEdits.{SecurityCountChanges}
use Rattle.hive_edit_laws.proofs.CellsShown.{shown_here}
use Rattle.hive_edit_laws.proofs.KeySearch.{root_found}
use Rattle.hive_edit_laws.proofs.SecurityCounts.{found_again}
use Rattle.hive_savepoint.specs.Puts.{Overlays, ChangesCell}

count_over : (old new text : List ℕ) → Overlays old new 12 text → length text ≡ 4 → SecurityCountChanges old new
count_over old new text o four = record {
  len = o.len;
  before = λ i h. o.before i (omega (arith, h));
  after = λ i h. o.after i (omega (arith, h, four));
}

pub still_found : (old new : List ℕ) (root : ℕ) (tree other : TreeMap) (path way : List (List ℕ)) (key to at : ℕ) (text : List ℕ) → ChangesCell old new at (λ its now. Overlays its now 12 text) → length text ≡ 4 → IsAllocatedCell old at → u32_at (cell_data old key) 44 ≡ at → at ≢ nil_offset
    → KeyFound old root 5 tree path key → KeyFound old root 5 other way to → KeyFound new root 5 other way to
still_found old new root tree other path way key to at text change four there is some f g =
    let s = change.cells g.cells g.shows in
    let d = s.3 (cell_data old at) (shown_here old g.cells g.shows at there) in
    found_again old new root 5 tree other path way key to at f g s.0 s.1 is some s.2 d.0 d.1 (count_over (cell_data old at) d.0 text d.2 four)

-- the same tree is encoded
pub still_encodes : (old new : List ℕ) (root : ℕ) (tree : TreeMap) → Tiles new → ((way : List (List ℕ)) (to : ℕ) → KeyFound old root 5 tree way to → KeyFound new root 5 tree way to) → BinsEncodeTree old root 5 tree → BinsEncodeTree new root 5 tree
still_encodes old new root tree tiles again h = let g = again [] root (root_found old root 5 tree h) in (tiles, g.cells, g.shows, (g.above, g.subkey_list, g.whole, g.is, g.apart))
