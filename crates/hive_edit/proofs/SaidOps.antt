-- An operation is what its parts say.
use Rattle.std.proofs.Common.{◌≡◌, ℕ, List, sym, subst, ◌∙◌, Ok}
use Rattle.base_block.specs.declared.block.TheConstants.{MINOR_VERSION}
use Rattle.reg_tree.specs.Operations.{tree_after}
use Rattle.reg_tree.specs.declared.op.Op.{Op}
use Rattle.reg_tree.specs.declared.op.Op.TheVariants.{CreateKey, DeleteKey, SetValue, DeleteValue}
use Rattle.reg_tree.specs.Maps.{TreeMap}
use Rattle.reg_tree.specs.Judgement.{judged}
use Rattle.reg_tree.specs.declared.op.Legality.TheVariants.{Legal}
use Rattle.hive_records.specs.Images.{BinsEncodeTree}
use Rattle.hive_records.proofs.Images.{one_image}
use Rattle.hive_load.specs.Limits.{BinsEncodeTreeInLimits}
use Rattle.hive_edit.specs.Presences.{IsPresence}
use Rattle.hive_edit.specs.declared.presence.Presence.{Presence}

abbrev Encodes : List ℕ → ℕ → TreeMap → Type 0
Encodes bytes root tree = BinsEncodeTree bytes root MINOR_VERSION tree

module _ (bytes : List ℕ) (root : ℕ) (tree : TreeMap) (op : Op) (hive : ℕ) (path other_path : List (List ℕ)) (moment : ℕ) (p : other_path ≡ path) where
  pub said_set : (name other_name : List ℕ) (kind : ℕ) (text other_text : List ℕ) → op ≡ SetValue hive path name kind text → other_name ≡ name → other_text ≡ text → Encodes bytes root (tree_after tree (SetValue hive other_path other_name kind other_text) moment) → Encodes bytes root (tree_after tree op moment)
  said_set name other_name kind text other_text is n t h = subst (λ o. Encodes bytes root (tree_after tree o moment)) ((λ i. SetValue hive (p i) (n i) kind (t i)) ∙ sym is) h

  pub said_deleted : (name other_name : List ℕ) → op ≡ DeleteValue hive path name → other_name ≡ name → Encodes bytes root (tree_after tree (DeleteValue hive other_path other_name) moment) → Encodes bytes root (tree_after tree op moment)
  said_deleted name other_name is n h = subst (λ o. Encodes bytes root (tree_after tree o moment)) ((λ i. DeleteValue hive (p i) (n i)) ∙ sym is) h

  pub said_created : op ≡ CreateKey hive path → Encodes bytes root (tree_after tree (CreateKey hive other_path) moment) → Encodes bytes root (tree_after tree op moment)
  said_created is h = subst (λ o. Encodes bytes root (tree_after tree o moment)) ((λ i. CreateKey hive (p i)) ∙ sym is) h

  pub said_gone : op ≡ DeleteKey hive path → Encodes bytes root (tree_after tree (DeleteKey hive other_path) moment) → Encodes bytes root (tree_after tree op moment)
  said_gone is h = subst (λ o. Encodes bytes root (tree_after tree o moment)) ((λ i. DeleteKey hive (p i)) ∙ sym is) h

-- the tree that the image encodes is the one for which the operation is legal
module _ (bytes : List ℕ) (root : ℕ) (op other : Op) (presence : Presence) (stands : (tree : TreeMap) × BinsEncodeTreeInLimits bytes root MINOR_VERSION tree × (judged tree op ≡ Ok Legal) × IsPresence tree op presence) (tree : TreeMap) (encodes : Encodes bytes root tree) (said : op ≡ other) where
  pub same_tree : stands.0 ≡ tree
  same_tree = one_image bytes root MINOR_VERSION stands.0 tree (stands.1).0 encodes

  pub legal_said : judged tree other ≡ Ok Legal
  legal_said = subst (λ t. judged t other ≡ Ok Legal) same_tree (subst (λ o. judged stands.0 o ≡ Ok Legal) said stands.2)

  pub presence_said : IsPresence tree other presence
  presence_said = subst (λ t. IsPresence t other presence) same_tree (subst (λ o. IsPresence stands.0 o presence) said stands.3)
