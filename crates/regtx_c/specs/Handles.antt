-- What a handle of C has, and what a call comes to by it.
use Rattle.std.specs.Prelude.{ℕ, Option, Some, None, Result, Ok, Err, option_map}
use Rattle.refusals.specs.declared.refusal.Refusal.{Refusal}
use Rattle.reg_tree.specs.Maps.{TreeMap}
use Rattle.regtx_c.specs.declared.codes.TheConstants.{NOT_OPEN}
use Rattle.regtx_c.specs.declared.handle.Handle.{Handle}
use Rattle.regtx_c.specs.Codes.{refusal_code}
use Rattle.regtx_c.specs.Held.{first}

-- the tree of the hive that is open, if one is
abbrev pub tree_in : Handle → Option TreeMap
tree_in handle = option_map (λ block. block.tree) (first handle.held.blocks)

-- an answer in which a refusal is its number
abbrev pub coded : {X : Type 0} → Result X Refusal → Result X ℕ
coded (Ok found) = Ok found
coded (Err why) = Err (refusal_code why)

-- what a question to the tree of a handle comes to; without a tree the handle is not open
abbrev pub asked : {X : Type 0} → Option TreeMap → (TreeMap → Result X Refusal) → Result X ℕ
asked None ask = Err NOT_OPEN
asked (Some tree) ask = coded (ask tree)
