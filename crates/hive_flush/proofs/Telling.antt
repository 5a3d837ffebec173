-- Why two files hold nothing, from what was found in them.
use Rattle.std.proofs.Common.{◌≡◌, ◌≢◌, ℕ, List, refl, sym, subst, ◌∙◌}
use Rattle.refusals.specs.declared.refusal.Refusal.{Refusal}
use Rattle.refusals.specs.declared.refusal.Refusal.TheVariants.{HiveDamaged, NoMemory}
use Rattle.refusals.specs.declared.refusal.Cause.TheVariants.{BadStore}
use Rattle.hive_files.specs.Contents.{FilesHaveHive, FilesContain}
use Rattle.hive_files.specs.declared.contents.HiveContents.{HiveContents}
use Rattle.hive_load.specs.Limits.{BinsRefused}
use Rattle.hive_flush.specs.Decoders.{FilesRefusedFor, as_hive_refusal, not_loaded, of_another}
use Rattle.hive_flush.proofs.Opened.{in_use}

-- what was found is in use
abbrev found_has : (primary log : List ℕ) (found : HiveContents) → FilesContain primary log found → FilesHaveHive primary log
found_has primary log found f =
    let u = in_use primary log found f in
    record { block = u.block; bins = found.bins.items; in_use = u.in_use; own = u.own; sector = u.sector }

pub another_told : (hive : ℕ) (store primary log : List ℕ) (found : HiveContents) → FilesContain primary log found → found.block.store ≢ store → FilesRefusedFor hive store primary log (HiveDamaged hive BadStore)
another_told hive store primary log found f other = of_another refl (found_has primary log found f) (λ same. other (sym (in_use primary log found f).store ∙ same))

pub loaded_told : (hive : ℕ) (store primary log : List ℕ) (found : HiveContents) (hive_refusal why : Refusal) → FilesContain primary log found → hive_refusal ≡ as_hive_refusal hive why → why ≢ NoMemory
    → BinsRefused found.bins.items found.block.root found.block.minor why → FilesRefusedFor hive store primary log hive_refusal
loaded_told hive store primary log found hive_refusal why f is some refused =
    let u = in_use primary log found f in
    not_loaded why is some (found_has primary log found f)
    (subst (λ (n : ℕ). BinsRefused found.bins.items u.block.root n why) (sym u.minor) (subst (λ (n : ℕ). BinsRefused found.bins.items n found.block.minor why) (sym u.root) refused))
