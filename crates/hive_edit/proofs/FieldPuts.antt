-- The record of a value and its key's node, written one after the other.
use Rattle.std.proofs.Common.{ℕ, List, sym, ◌∙◌}
use Rattle.hive_edit_laws.specs.RecordEdits.{NodeTimeChanges}
use Rattle.hive_savepoint.specs.Puts.{ChangesCell}
use Rattle.hive_edit.specs.DataPlaces.{PutsFields, RecordIsPut}
use Rattle.hive_edit.specs.declared.value_data.NewData.{NewData}

pub fields_put : (old mid new_bytes : List ℕ) (key at : ℕ) (new : NewData) (kind moment : ℕ) → ChangesCell old mid at (RecordIsPut new kind) → ChangesCell mid new_bytes key (λ its now. NodeTimeChanges its now moment) → PutsFields old new_bytes key at new kind moment
fields_put old mid new_bytes key at new kind moment h g apart before shows =
    let s = h.cells before shows in
    let t = g.cells s.0 s.1 in (
      t.0,
      t.1,
      (λ cell no no_at. t.2 cell no ∙ s.2 cell no_at),
      (λ its here.
          let d = s.3 its here in (d.0, t.2 at (λ e. apart (sym e)) ∙ d.1, d.2)),
      (λ its here. t.3 its (s.2 key apart ∙ here)),
    )
