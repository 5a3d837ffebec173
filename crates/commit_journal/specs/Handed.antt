-- What a batch may be handed, and what it takes of that.
use Rattle.std.specs.Prelude.{◌≡◌, ◌⊎◌, ℕ, ◌+◌, ◌-◌, ◌<◌, ◌≤◌, List, length, take, sum_by}
use Rattle.std.specs.List.{AllByRecursion}
use Rattle.refusals.specs.declared.limits.TheConstants.{GREATEST_NUMBER, MOST_ELEMENT_BYTES, MOST_JOURNAL_BYTES}
use Rattle.reg_tree.specs.Operations.{hive_of}
use Rattle.reg_tree.specs.Encodings.{element_encoded_len}
use Rattle.reg_tree.specs.declared.element.Element.{Element}
use Rattle.crash_model.specs.Promises.{Content, MayFollow}
use Rattle.change_codec.specs.Encoding.{Fits}
use Rattle.change_codec.specs.ModelChanges.{TimedOp, timed_elements}
use Rattle.commit_journal.specs.declared.layout.TheConstants.{MOST_BODY_BYTES}

-- each operation is on one of the `hives` hives
abbrev pub OnHives : ℕ → Element → Type 0
OnHives hives e = AllByRecursion (λ op. hive_of op < hives) e.ops

-- the change has an encoding in the journal of each store whose hives it is on
pub record FitsIfThere (e : Element) : Type 0 where
  pub fits : (hives : ℕ) → OnHives hives e → Fits hives e

-- the change's encoding is not longer than an accepted change's may be
abbrev pub IsShort : Element → Type 0
IsShort e = element_encoded_len e ≤ MOST_ELEMENT_BYTES

-- Elements that a batch may be handed, the first of which has this number. The number is 1 or more. The elements
-- continue the durable content within the greatest number. Each is on hives of the store and is as short as an accepted
-- change. The journal has room for all of them.
pub record IsHanded (hives used first : ℕ) (handed : List Element) (now : Content TimedOp) : Type 0 where
  pub number : 1 ≤ first
  pub continue_at : MayFollow GREATEST_NUMBER (first - 1) (timed_elements handed) now
  pub there : AllByRecursion (OnHives hives) handed
  pub short : AllByRecursion IsShort handed
  pub room : 0 < length handed → used + sum_by (λ e. 17 + element_encoded_len e) handed ≤ MOST_JOURNAL_BYTES

-- how long the body of these elements is
abbrev pub body_len : List Element → ℕ
body_len es = 16 + sum_by element_encoded_len es

-- the first `count` elements are the longest prefix that fits a body
pub record IsLongestPrefix (count : ℕ) (handed : List Element) : Type 0 where
  pub there : count ≤ length handed
  pub fits : body_len (take count handed) ≤ MOST_BODY_BYTES
  pub longest : (count ≡ length handed) ⊎ (MOST_BODY_BYTES < body_len (take (count + 1) handed))
