-- What a sink that prints keys did.
use Rattle.std.proofs.Common.{◌≡◌, ℕ, List, [], ◌++◌, Option, refl, sym, subst, ◌∙◌}
use Rattle.std.specs.List.{flat_map}
use Rattle.std.specs.Io.KnownBytes.{Appends}
use Rattle.std.proofs.lemmas.List.Concat.{flat_map-append}
use Rattle.reply_lines.proofs.Written.{appends_both, appends_nothing}
use Rattle.key_walk.specs.KeyRows.{NamedRow}

-- known bytes grew by the texts of these keys, as keys of a hive; the writer is the same one, and so is the hive
abbrev pub Printed : {Hive Writer : Type 0} → (Hive → NamedRow → List ℕ) → Option (List ℕ) → Option (List ℕ) → Hive → Hive → Writer → Writer → List NamedRow → Type 0
Printed text before after hive kept writer same keys = Appends before after (flat_map (text hive) keys) × (kept ≡ hive) × (same ≡ writer)

pub printed_none : {Hive Writer : Type 0} (text : Hive → NamedRow → List ℕ) (contents : Option (List ℕ)) (hive : Hive) (writer : Writer) → Printed text contents contents hive hive writer writer []
printed_none text contents hive writer = (appends_nothing contents, refl, refl)

pub printed_more : {Hive Writer : Type 0} (text : Hive → NamedRow → List ℕ) (before between after : Option (List ℕ)) (hive kept last : Hive) (writer same end : Writer) (front rest : List NamedRow)
    → Printed text before between hive kept writer same front → Printed text between after kept last same end rest → Printed text before after hive last writer end (front ++ rest)
printed_more text before between after hive kept last writer same end front rest one two = (
  appends_both before between after _ _ _ one.0 (subst (λ h. Appends between after (flat_map (text h) rest)) one.1 two.0) (sym (flat_map-append (text hive) front rest)),
  two.1 ∙ one.1,
  two.2 ∙ one.2,
)

-- what holds of the value behind a reference that a sink still has, holds of it at the end of the loan
pub at_end : {Value Writer : Type 0} (P : Value → Type 0) {writer same : Writer} {last value : Value} → (writer ≡ same → last ≡ value) → same ≡ writer → P value → P last
at_end P end name p = subst P (sym (end (sym name))) p
