-- The lines of hives, one after another.
use Rattle.std.proofs.Common.{◌≡◌, ℕ, ◌+◌, ◌≤◌, List, ◌∷◌, length, drop, Option, sym, subst}
use Rattle.std.specs.Io.KnownBytes.{Appends}
use Rattle.std.proofs.lemmas.List.{drop_all}
use Rattle.reply_lines.proofs.Written.{appends_more, appends_nothing}
use Rattle.commit_journal.specs.Numbered.{NumberedChange}
use Rattle.hive_flush.specs.declared.hive.HiveFile.{HiveFile}
use Rattle.store_check.specs.StoreTexts.{hive_line, hive_lines}

pub hives_more : (named : ℕ) (changes : List NumberedChange) (hives : List HiveFile) (i : ℕ) (file : HiveFile) (before mid after : Option (List ℕ)) → drop i hives ≡ file ∷ drop (i + 1) hives
    → Appends before mid (hive_line named i changes file) → Appends mid after (hive_lines named (i + 1) changes (drop (i + 1) hives)) → Appends before after (hive_lines named i changes (drop i hives))
hives_more named changes hives i file before mid after here now later =
    subst (λ files. Appends before after (hive_lines named i changes files)) (sym here) (appends_more before mid after (hive_line named i changes file) (hive_lines named (i + 1) changes (drop (i + 1) hives)) now later)

pub hives_none : (named : ℕ) (changes : List NumberedChange) (hives : List HiveFile) (i : ℕ) (known : Option (List ℕ)) → length hives ≤ i → Appends known known (hive_lines named i changes (drop i hives))
hives_none named changes hives i known past = subst (λ files. Appends known known (hive_lines named i changes files)) (sym (drop_all i hives past)) (appends_nothing known)
