-- The text of a number that a call of C gives.
use Rattle.std.specs.Prelude.{◌≡◌, ◌≢◌, ◌⊎◌, ℕ, ◌==◌, if◌then◌else◌, List, Err, codes}
use Rattle.refusals.specs.declared.refusal.Refusal.{Refusal}
use Rattle.refusals.specs.Refusals.{refusal_text}
use Rattle.hive_file_reader.specs.Readings.{of_hive}
use Rattle.regtx_c.specs.declared.codes.TheConstants.{OK, NO_MEMORY, NOT_OPEN, NO_ROOM}
use Rattle.regtx_c.specs.Codes.{refusal_code}
use Rattle.regtx_c.specs.Buffers.{IsCopied, Copies}

-- the text of a number that no refusal has
abbrev pub own_text : ℕ → List ℕ
own_text code =
    if code == OK then codes "ok"
    else if code == NOT_OPEN then codes "no hive is open"
    else if code == NO_ROOM then codes "the buffer is too small"
    else codes "no such code"

-- a text is the one of a number: the text that the program prints for the refusal that has the number, as one of hive 0
pub record IsTextOf (code : ℕ) (text : List ℕ) : Type 0 where
  pub refused : (why : Refusal) → refusal_code why ≡ code → text ≡ refusal_text (of_hive 0 why)
  pub other : ((why : Refusal) → refusal_code why ≢ code) → text ≡ own_text code

-- the text of a number is copied, or memory was not given
abbrev pub CopiesText : ℕ → List ℕ → List ℕ → ℕ → ℕ → ℕ → Type 0
CopiesText code before after len_before len told =
    ((text : List ℕ) × IsTextOf code text × IsCopied text before after len told) ⊎ Copies {X = ℕ} (Err NO_MEMORY) before after len_before len told
