-- What contracts see of an image with a savepoint.
use Rattle.std.specs.Prelude.{ℕ, List, refl}
use Rattle.std.specs.Coded.{Coded, code_by, coded×, coded_ℕ, coded_list}
use Rattle.refusals.specs.declared.refusal.Refusal.{Refusal}
use Rattle.refusals.specs.declared.refusal.Refusal.TheVariants as refusal
use Rattle.hive_cells.specs.Changes.{HasNoRoomFor}

-- hive bins data: the bytes now, and the bytes at the savepoint
pub record SavedBytes : Type 0 where
  pub bytes : List ℕ
  pub saved : List ℕ

abbrev pub saved_bytes_code : Coded SavedBytes
saved_bytes_code = code_by (List ℕ × List ℕ) (coded× (coded_list coded_ℕ) (coded_list coded_ℕ)) (λ b. (b.bytes, b.saved)) (λ p. record { bytes = p.0; saved = p.1 }) (λ _. refl)

-- why no cell of a size is allocated: for want of memory, or it has no room within the limit
abbrev pub AllocRefused : List ℕ → ℕ → Refusal → Type 0
AllocRefused bytes size refusal.NoMemory = Unit {0}
AllocRefused bytes size refusal.TooLarge = HasNoRoomFor bytes size
AllocRefused bytes size _ = ⊥
