use Rattle.std.proofs.Common.{ℕ, List, sym}
use Rattle.reg_tree.specs.Maps.{TreeMap}
use Rattle.hive_savepoint.specs.Puts.{Overlays, ChangesCell}
use Rattle.hive_edit_laws.specs.Found.{KeyFound}
use Rattle.hive_edit.proofs.CellChanges.{on_ok}
use Rattle.hive_edit.proofs.KeyCounts.{still_found}
use Rattle.hive_edit.proofs.key_counts.count_key.Goals as goal

pub returns-clause-found : goal.returns-clause-found
returns-clause-found c =
    let old = c.args.image.now.bytes in
    let new = c.write.new.self.bytes in
    let at = c.in-Some.at in
    on_ok c.write.result (ChangesCell old new at (λ its now. Overlays its now 12 c.u32_bytes.result))
    ((root : ℕ) (tree other : TreeMap) (path way : List (List ℕ)) (to : ℕ) → KeyFound old root 5 tree path c.args.key → KeyFound old root 5 other way to → KeyFound new root 5 other way to)
    (λ h root tree other path way to f g. still_found old new root tree other path way c.args.key to at c.u32_bytes.result h c.u32_bytes.ensures.len c.in-Some-security_count.ensures.0 (sym c.in-Some.ensures) c.if-at.false f g) c.write.ensures.written
