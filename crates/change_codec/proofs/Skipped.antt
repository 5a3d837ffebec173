-- What is known of a change by the bytes after it.
use Rattle.std.proofs.Common.{◌≡◌, ℕ, ◌+◌, ◌≤◌, Bool, List, length, ap, ◌∙◌, Option, Some, None}
use Rattle.std.specs.Prelude.{if◌then◌else◌, ◌==◌, nat_le}
use Rattle.std.specs.Option.{option_and_then}
use Rattle.std.proofs.lemmas.Bool.{le-leb, eq-eqb, and_from}
use Rattle.reg_tree.specs.declared.op.Op.{Op}
use Rattle.change_codec.specs.Encoding.{fields_at, made, whole, element_at}

module _ (hives : ℕ) (bytes : List ℕ) where
  -- the fields are read, and the length is that of the bytes
  pub whole_read : (len moment : ℕ) (ops : List Op) (rest : List ℕ) → fields_at hives bytes ≡ Some ((len, (moment, ops)), rest) → 1 ≤ length ops → length bytes ≡ len + length rest
      → element_at hives bytes ≡ Some (made (len, (moment, ops)), rest)
  unfolding element_at
  whole_read len moment ops rest got some size =
      ap (λ (o : Option ((ℕ × (ℕ × List Op)) × List ℕ)). option_and_then (whole bytes) o) got
      ∙ ap (λ (b : Bool). if b then Some (made (len, (moment, ops)), rest) else None) (and_from (nat_le 1 (length ops)) (length bytes == (len + length rest)) (le-leb 1 (length ops) some) (eq-eqb (length bytes) (len + length rest) size))
