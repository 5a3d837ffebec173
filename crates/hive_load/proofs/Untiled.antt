-- Data that are refused don't tile.
use Rattle.std.proofs.Common.{◌≢◌, ℕ, zero, suc, List, refl}
use Rattle.refusals.specs.declared.refusal.Refusal.{Refusal}
use Rattle.refusals.specs.declared.refusal.Refusal.TheVariants as refusal
use Rattle.refusals.specs.declared.refusal.Cause.{Cause}
use Rattle.refusals.specs.declared.refusal.Cause.TheVariants as cause
use Rattle.hive_cells.specs.Tiles.{Tiles, Fault, DataRefused}

fault_untiled : (bytes : List ℕ) (c : Cause) → Fault bytes c → Tiles bytes → ⊥
fault_untiled bytes cause.Truncated h t = h t.pages
fault_untiled bytes cause.BadBin h t = h.2 (t.bins h.0 h.1)
fault_untiled bytes cause.BadCell h t = h.3 (t.cells h.0 h.1 h.2)
fault_untiled bytes cause.BadBase h t = h
fault_untiled bytes cause.BadOffset h t = h
fault_untiled bytes cause.BadRecord h t = h
fault_untiled bytes cause.BadList h t = h
fault_untiled bytes cause.BadName h t = h
fault_untiled bytes cause.Shared h t = h
fault_untiled bytes cause.BadLog h t = h
fault_untiled bytes cause.NotClean h t = h
fault_untiled bytes cause.BadStore h t = h
fault_untiled bytes cause.TooLarge h t = h

pub untiled : (bytes : List ℕ) (why : Refusal) → DataRefused bytes why → why ≢ refusal.NoMemory → Tiles bytes → ⊥
untiled bytes refusal.NoMemory h some t = some refl
untiled bytes (refusal.HiveDamaged zero c) h some t = fault_untiled bytes c h t
untiled bytes (refusal.HiveDamaged (suc n) c) h some t = h
untiled bytes refusal.NotFound h some t = h
untiled bytes refusal.HasSubkeys h some t = h
untiled bytes refusal.BadName h some t = h
untiled bytes refusal.TooDeep h some t = h
untiled bytes refusal.TooLarge h some t = h
untiled bytes refusal.Conflict h some t = h
untiled bytes refusal.NotActive h some t = h
untiled bytes refusal.NoSuchHandle h some t = h
untiled bytes refusal.NoSeat h some t = h
untiled bytes refusal.JournalFull h some t = h
untiled bytes refusal.HistoryFull h some t = h
untiled bytes refusal.DiskFault h some t = h
untiled bytes refusal.Faulted h some t = h
untiled bytes refusal.JournalDamaged h some t = h
untiled bytes refusal.Unsupported h some t = h
untiled bytes refusal.Fixed h some t = h
