-- Data that tile are opened, unless memory is refused.
use Rattle.std.proofs.Common.{ℕ, zero, suc, ◌≤◌, List, length}
use Rattle.refusals.specs.declared.refusal.Refusal.{Refusal}
use Rattle.refusals.specs.declared.refusal.Refusal.TheVariants as refusal
use Rattle.refusals.specs.declared.refusal.Cause.TheVariants as cause
use Rattle.refusals.specs.declared.limits.TheConstants.{MOST_BINS_BYTES}
use Rattle.hive_cells.specs.Tiles.{Tiles, DataRefused}
use Rattle.hive_mending.specs.Mending.{whole_pages, MendRefused}

-- why data that tile are not opened
pub not_opened : (bytes pages : List ℕ) (why : Refusal) → length (whole_pages bytes) ≤ MOST_BINS_BYTES → Tiles pages → DataRefused pages why → MendRefused bytes why
not_opened bytes pages refusal.NoMemory most t h = most
not_opened bytes pages (refusal.HiveDamaged zero cause.Truncated) most t h = absurd (h t.pages)
not_opened bytes pages (refusal.HiveDamaged zero cause.BadBin) most t h = absurd (h.2 (t.bins h.0 h.1))
not_opened bytes pages (refusal.HiveDamaged zero cause.BadCell) most t h = absurd (h.3 (t.cells h.0 h.1 h.2))
not_opened bytes pages (refusal.HiveDamaged zero cause.BadBase) most t h = absurd h
not_opened bytes pages (refusal.HiveDamaged zero cause.BadOffset) most t h = absurd h
not_opened bytes pages (refusal.HiveDamaged zero cause.BadRecord) most t h = absurd h
not_opened bytes pages (refusal.HiveDamaged zero cause.BadList) most t h = absurd h
not_opened bytes pages (refusal.HiveDamaged zero cause.BadName) most t h = absurd h
not_opened bytes pages (refusal.HiveDamaged zero cause.Shared) most t h = absurd h
not_opened bytes pages (refusal.HiveDamaged zero cause.BadLog) most t h = absurd h
not_opened bytes pages (refusal.HiveDamaged zero cause.NotClean) most t h = absurd h
not_opened bytes pages (refusal.HiveDamaged zero cause.BadStore) most t h = absurd h
not_opened bytes pages (refusal.HiveDamaged zero cause.TooLarge) most t h = absurd h
not_opened bytes pages (refusal.HiveDamaged (suc n) c) most t h = absurd h
not_opened bytes pages refusal.NotFound most t h = absurd h
not_opened bytes pages refusal.HasSubkeys most t h = absurd h
not_opened bytes pages refusal.BadName most t h = absurd h
not_opened bytes pages refusal.TooDeep most t h = absurd h
not_opened bytes pages refusal.TooLarge most t h = absurd h
not_opened bytes pages refusal.Conflict most t h = absurd h
not_opened bytes pages refusal.NotActive most t h = absurd h
not_opened bytes pages refusal.NoSuchHandle most t h = absurd h
not_opened bytes pages refusal.NoSeat most t h = absurd h
not_opened bytes pages refusal.JournalFull most t h = absurd h
not_opened bytes pages refusal.HistoryFull most t h = absurd h
not_opened bytes pages refusal.DiskFault most t h = absurd h
not_opened bytes pages refusal.Faulted most t h = absurd h
not_opened bytes pages refusal.JournalDamaged most t h = absurd h
not_opened bytes pages refusal.Unsupported most t h = absurd h
not_opened bytes pages refusal.Fixed most t h = absurd h
