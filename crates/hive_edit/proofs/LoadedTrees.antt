-- The tree of an image that encodes one is loaded, or there is no memory.
use Rattle.std.proofs.Common.{◌≡◌, inl, inr, ℕ, List, Result, Ok, Err, refl, sym, ap, subst, ◌∙◌}
use Rattle.base_block.specs.declared.block.TheConstants.{MINOR_VERSION}
use Rattle.refusals.specs.declared.refusal.Refusal.{Refusal}
use Rattle.refusals.specs.declared.refusal.Refusal.TheVariants.{NoMemory, TooLarge}
use Rattle.reg_tree.specs.Maps.{TreeMap, weight}
use Rattle.reg_tree.specs.Operations.{tree_after}
use Rattle.reg_tree.specs.Judgement.{changed, changed_if, judged, legal_after, legal_in}
use Rattle.reg_tree.specs.declared.op.Legality.{Legality}
use Rattle.reg_tree.specs.declared.op.Legality.TheVariants.{Legal, Opened}
use Rattle.reg_tree.specs.declared.op.Op.{Op}
use Rattle.hive_records.specs.Images.{BinsEncodeTree}
use Rattle.hive_records.proofs.Images.{image_fault, one_image}
use Rattle.hive_load.specs.Limits.{BinsEncodeTreeInLimits, LoadRefused}
use Rattle.hive_load.proofs.Ends.{excluded}

pub no_memory : (bytes : List ℕ) (root minor : ℕ) (why : Refusal) (tree : TreeMap) → BinsEncodeTreeInLimits bytes root minor tree → LoadRefused bytes root minor why → why ≡ NoMemory
no_memory bytes root minor why tree encodes (inl e) = e
no_memory bytes root minor why tree encodes (inr (inr fault)) = absurd (image_fault bytes root minor tree why fault encodes.0)
no_memory bytes root minor why tree encodes (inr (inl large)) = absurd (excluded bytes root minor why (inr (inl large)) (λ e. apart (sym large.0 ∙ e)) tree encodes.0 encodes.1)
  where
    apart : TooLarge ≡ NoMemory → ⊥
    apart e = cc

-- an operation that is legal may be carried out, and makes the tree after it
by_judgement : (op : Op) (j : Result Legality Refusal) (total : ℕ) → legal_after op j total ≡ Ok Legal → j ≡ Ok Legal
by_judgement op (Err refusal) total e = absurd cc
by_judgement op (Ok Opened) total e = absurd cc
by_judgement op (Ok Legal) total e = refl

pub judged_legal : (tree : TreeMap) (op : Op) → legal_in tree op ≡ Ok Legal → judged tree op ≡ Ok Legal
judged_legal tree op e = by_judgement op (judged tree op) (weight (changed tree op 0)) e

pub legal_change : (tree : TreeMap) (op : Op) (moment : ℕ) → legal_in tree op ≡ Ok Legal → changed tree op moment ≡ tree_after tree op moment
legal_change tree op moment e = ap (λ j. changed_if j (tree_after tree op moment) tree) (judged_legal tree op e)

-- the tree that was loaded is the one for which the operation is legal
module _ (bytes : List ℕ) (root : ℕ) (op : Op) (stands : (tree : TreeMap) × BinsEncodeTreeInLimits bytes root MINOR_VERSION tree × (legal_in tree op ≡ Ok Legal)) (tree : TreeMap) (encodes : BinsEncodeTree bytes root MINOR_VERSION tree) where
  pub legal_here : legal_in tree op ≡ Ok Legal
  legal_here = subst (λ t. legal_in t op ≡ Ok Legal) (one_image bytes root MINOR_VERSION stands.0 tree (stands.1).0 encodes) stands.2
