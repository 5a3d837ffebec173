use Rattle.std.proofs.Common.{◌≡◌, ℕ, refl}
use Rattle.refusals.specs.declared.refusal.Cause.{Cause}
use Rattle.refusals.specs.declared.refusal.Refusal.{Refusal}
use Rattle.refusals.specs.declared.refusal.Refusal.TheVariants as refusal
use Rattle.hive_flush.specs.Decoders.{RefusalNamesHive}
use Rattle.store_hive.proofs.recovered_tree.is_of_files.Goals as goal

of_none : (why : Refusal) → ((hive : ℕ) (cause : Cause) → why ≡ refusal.HiveDamaged hive cause → ⊥) → (why ≡ refusal.Unsupported → ⊥) → (i : ℕ) → RefusalNamesHive i why → ⊥
of_none (refusal.HiveDamaged hive cause) damaged unknown i of = damaged hive cause refl
of_none refusal.Unsupported damaged unknown i of = unknown refl
of_none _ damaged unknown i of = of

pub returns-in_default : goal.returns-in_default
returns-in_default c = λ no. of_none c.args.why c.in_default.not-HiveDamaged c.in_default.not-Unsupported
