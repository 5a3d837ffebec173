-- A key that may be created isn't there.
use Rattle.std.proofs.Common.{◌≡◌, ℕ, List, Bool, true, false, if◌then◌else◌, is_some, Option, None, Some, Result, Ok, Err, refl, ap}
use Rattle.reg_tree_parts.specs.Rows.{Row}
use Rattle.reg_tree.specs.Maps.{TreeMap, row}
use Rattle.reg_tree.specs.Judgement.{judged_create}
use Rattle.reg_tree.specs.declared.op.Legality.{Legality}
use Rattle.reg_tree.specs.declared.op.Legality.TheVariants.{Legal, Opened}
use Rattle.refusals.specs.declared.refusal.Refusal.{Refusal}
use Rattle.hive_tree_model.proofs.Basics.{never}

is_legal : Result Legality Refusal → Bool
is_legal (Ok Legal) = true
is_legal (Ok Opened) = false
is_legal (Err why) = false

not_opened : ◌≡◌ {A = Result Legality Refusal} (Ok Opened) (Ok Legal) → ⊥
unfolding is_legal
not_opened e = never (ap is_legal e)

by_row : (key : Option Row) (rest : Result Legality Refusal) → (if is_some key then Ok Opened else rest) ≡ Ok Legal → key ≡ None
by_row None rest e = refl
by_row (Some key) rest e = absurd (not_opened e)

pub legal_absent : (tree : TreeMap) (path : List (List ℕ)) → judged_create tree path ≡ Ok Legal → row tree path ≡ None
legal_absent tree path e = by_row (row tree path) _ e
