-- What an operation claims, and which claims conflict.
use Rattle.std.specs.Prelude.{ℕ, Bool, true, false, ◌||◌, ◌&&◌, List}
use Rattle.reg_names.specs.Names.{folded_path}
use Rattle.reg_tree.specs.declared.op.Op.{Op}
use Rattle.reg_tree.specs.declared.op.Op.TheVariants.{CreateKey, DeleteKey, SetValue, DeleteValue}
use Rattle.conflicts.specs.Skeleton as law
use Rattle.conflicts.specs.Skeleton.{same_key, begins_key}
use Rattle.conflicts.specs.declared.claim.ClaimKind.{ClaimKind}
use Rattle.conflicts.specs.declared.claim.ClaimKind.TheVariants.{Shape, Hold}

-- the key of a path of a hive, by its folded names
abbrev pub key_at : ℕ → List (List ℕ) → law.Key
key_at hive spelled = record { hive = hive; path = folded_path spelled }

-- the kind of a claim
abbrev pub kind_of : ClaimKind → law.ClaimKind
kind_of Shape = law.Shape
kind_of Hold = law.Hold

-- a creation and a deletion of a key claim it by Shape, a change of a value by Hold
abbrev pub claim_of : Op → law.Claim
claim_of (CreateKey hive path) = record { kind = law.Shape; key = key_at hive path }
claim_of (DeleteKey hive path) = record { kind = law.Shape; key = key_at hive path }
claim_of (SetValue hive path name kind bytes) = record { kind = law.Hold; key = key_at hive path }
claim_of (DeleteValue hive path name) = record { kind = law.Hold; key = key_at hive path }

abbrev pub is_shape : law.ClaimKind → Bool
is_shape law.Shape = true
is_shape law.Hold = false

-- whether the other's key is its own, or is below it and it is a Shape
abbrev pub reaches : law.Claim → law.Claim → Bool
reaches c d = begins_key c.key d.key && (is_shape c.kind || begins_key d.key c.key)

-- whether two claims conflict
abbrev pub meets : law.Claim → law.Claim → Bool
meets c d = reaches c d || reaches d c

-- whether two claims are the same: of one kind, on one key
abbrev pub same_kind : law.ClaimKind → law.ClaimKind → Bool
same_kind law.Shape law.Shape = true
same_kind law.Shape law.Hold = false
same_kind law.Hold law.Shape = false
same_kind law.Hold law.Hold = true

abbrev pub same_claim : law.Claim → law.Claim → Bool
same_claim c d = same_kind c.kind d.kind && same_key c.key d.key
