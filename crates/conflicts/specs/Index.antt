-- How an index lists a claim's number: under the encoding in its index key, and under that encoding's hash.
use Rattle.std.specs.Prelude.{◌≡◌, ℕ, ◌≢◌, Contains}
use Rattle.conflicts.specs.Skeleton.{Claim}
use Rattle.conflicts.specs.IndexKeys.{IndexKey, index_key_text, text_hash}
use Rattle.conflicts.specs.declared.index_keys.Index.{Index}

pub record IsListed (index : Index) (number : ℕ) (claim : Claim) : Type 0 where
  pub index_key : IndexKey
  pub listed : Contains index.index_keys.keys index_key
  pub text : index_key.0.items ≡ index_key_text claim
  pub numbered : index_key.1 ≡ number
  pub hashed : Contains index.hashes.keys (text_hash (index_key_text claim), number)

-- what is listed under other numbers still is
abbrev pub KeepsOthers : Index → Index → ℕ → Type 0
KeepsOthers old new number = (n : ℕ) (claim : Claim) → number ≢ n → IsListed old n claim → IsListed new n claim
