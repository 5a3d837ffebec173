-- An operation that is edited in an image, or that changes nothing.
use Rattle.std.proofs.Common.{◌≡◌, ◌≤◌, ℕ, List, sym, ap, subst, arith, Result, Ok, Err}
use Rattle.std.specs.Prelude.{IfOk, min}
use Rattle.refusals.specs.declared.refusal.Refusal.{Refusal}
use Rattle.reg_tree.specs.Maps.{TreeMap, weight}
use Rattle.reg_tree.specs.Encodable.{IsEncodable}
use Rattle.reg_tree.specs.Operations.{tree_after}
use Rattle.reg_tree.specs.Judgement.{changed, changed_if, judged}
use Rattle.reg_tree.specs.declared.op.Op.{Op}
use Rattle.reg_tree.specs.declared.op.Legality.{Legality}
use Rattle.reg_tree.specs.declared.op.Legality.TheVariants.{Legal, Opened}
use Rattle.hive_savepoint.specs.Savepoints.{SavedBytes}
use Rattle.hive_records.specs.Images.{BinsEncodeTree}
use Rattle.hive_load.specs.Limits.{TreeIsInLimits}
use Rattle.hive_edit.specs.declared.outcome.Edit.{Edit}
use Rattle.hive_edit.specs.declared.outcome.Edit.TheVariants as edit
use Rattle.hive_flush.specs.Replays.{EncodesIfDone}
use Rattle.hive_flush.specs.declared.change_replay.Replay.{Replay}

-- a tree whose weight was looked at is within the limits
pub within : (tree : TreeMap) (total : ℕ) → IsEncodable tree → total ≡ min (weight tree) 18446744073709551615 → total ≤ 16_777_216 → TreeIsInLimits tree
within tree total encodable is light = record { light = omega (arith, is, light); shallow = λ path key there. (encodable.rows path key there).shallow }

-- what an operation makes of a tree, by its judgement
pub legal_after : (tree : TreeMap) (op : Op) (moment : ℕ) → judged tree op ≡ Ok Legal → changed tree op moment ≡ tree_after tree op moment
legal_after tree op moment e = ap (λ (r : Result Legality Refusal). changed_if r (tree_after tree op moment) tree) e

pub opened_after : (tree : TreeMap) (op : Op) (moment : ℕ) → judged tree op ≡ Ok Opened → changed tree op moment ≡ tree
opened_after tree op moment e = ap (λ (r : Result Legality Refusal). changed_if r (tree_after tree op moment) tree) e

pub refused_after : (tree : TreeMap) (op : Op) (moment : ℕ) (why : Refusal) → judged tree op ≡ Err why → changed tree op moment ≡ tree
refused_after tree op moment why e = ap (λ (r : Result Legality Refusal). changed_if r (tree_after tree op moment) tree) e

-- an edit that is done leaves an image that encodes the tree after the operation
pub done_after : (result : Result Edit Refusal) (bytes : List ℕ) (root : ℕ) (tree after : TreeMap) → after ≡ tree → (result ≡ Ok edit.Done → BinsEncodeTree bytes root 5 tree) → IfOk result (λ how. how ≡ edit.Done → BinsEncodeTree bytes root 5 after)
done_after (Ok how) bytes root tree after same encodes = λ e. subst (BinsEncodeTree bytes root 5) (sym same) (encodes (ap (λ (h : Edit). Ok h) e))
done_after (Err why) bytes root tree after same encodes = tt

-- the same of what a loop carries on
pub encodes_same : (made next : Replay) (before image : SavedBytes) (root : ℕ) → next ≡ made → image ≡ before → EncodesIfDone made.edit before.bytes root made.tree → EncodesIfDone next.edit image.bytes root next.tree
encodes_same made next before image root is same encodes =
    subst (λ (m : Replay). EncodesIfDone m.edit image.bytes root m.tree) (sym is) (subst (λ (i : SavedBytes). EncodesIfDone made.edit i.bytes root made.tree) (sym same) encodes)
