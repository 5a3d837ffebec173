-- What a sink that prints JSON did.
use Rattle.std.proofs.Common.{◌≡◌, ℕ, List, [], ◌∷◌, ◌++◌, Option, refl, sym, subst, ◌∙◌, ap, append_assoc}
use Rattle.std.specs.Io.KnownBytes.{Appends}
use Rattle.std.proofs.lemmas.List.{append-nil}
use Rattle.reg_export.specs.Moments.{IsUtcField}
use Rattle.reply_lines.proofs.Written.{appends_both, appends_nothing}
use Rattle.key_walk.specs.KeyRows.{NamedRow}
use Rattle.reg_export.specs.JsonTexts.{AreJsonLines, json_key_lines}

-- known bytes grew by lines of these keys; writer and hive stay
abbrev pub JsonPrinted : {Writer : Type 0} → Option (List ℕ) → Option (List ℕ) → ℕ → ℕ → Writer → Writer → List NamedRow → Type 0
JsonPrinted before after hive kept writer same keys =
    ((text : List ℕ) × AreJsonLines hive keys text × Appends before after text) × (kept ≡ hive) × (same ≡ writer)

pub json_printed_none : {Writer : Type 0} (contents : Option (List ℕ)) (hive : ℕ) (writer : Writer) → JsonPrinted contents contents hive hive writer writer []
json_printed_none contents hive writer = (([], refl, appends_nothing contents), refl, refl)

-- the lines of one key were written
pub json_lines_one : (before after : Option (List ℕ)) (hive : ℕ) (key : NamedRow) (utc : List ℕ) → IsUtcField (let row = key.1 in row.time) utc → Appends before after (json_key_lines hive utc key) → (text : List ℕ) × AreJsonLines hive (key ∷ []) text × Appends before after text
json_lines_one before after hive key utc field printed = (json_key_lines hive utc key, (utc, [], field, refl, sym (append-nil (json_key_lines hive utc key))), printed)

-- lines of keys, and then of others
lines_both : (hive : ℕ) (front rest : List NamedRow) (text more : List ℕ) → AreJsonLines hive front text → AreJsonLines hive rest more → AreJsonLines hive (front ++ rest) (text ++ more)
lines_both hive [] rest text more one two = subst (AreJsonLines hive rest) (sym (ap (λ t. t ++ more) one)) two
lines_both hive (key ∷ front) rest text more one two =
    (one.0, one.1 ++ more, one.2, lines_both hive front rest one.1 more one.3 two, ap (λ t. t ++ more) one.4 ∙ append_assoc (json_key_lines hive one.0 key) one.1 more)

pub json_printed_more : {Writer : Type 0} (before between after : Option (List ℕ)) (hive kept last : ℕ) (writer same end : Writer) (front rest : List NamedRow)
    → JsonPrinted before between hive kept writer same front → JsonPrinted between after kept last same end rest → JsonPrinted before after hive last writer end (front ++ rest)
json_printed_more before between after hive kept last writer same end front rest one two = (
  (one.0.0 ++ two.0.0, lines_both hive front rest one.0.0 two.0.0 one.0.1 (subst (λ h. AreJsonLines h rest two.0.0) one.1 two.0.1), appends_both before between after one.0.0 two.0.0 _ one.0.2 two.0.2 refl),
  two.1 ∙ one.1,
  two.2 ∙ one.2,
)
