-- The project's changes, as the crash model takes them.
use Rattle.std.specs.Prelude.{ℕ, List, map, Bool, true, false, Result, Ok, Err}
use Rattle.refusals.specs.declared.refusal.Refusal.{Refusal}
use Rattle.reg_tree.specs.Maps.{TreeMap}
use Rattle.reg_tree.specs.Judgement.{changed, legal_in}
use Rattle.reg_tree.specs.declared.op.Legality.{Legality}
use Rattle.reg_tree.specs.declared.op.Legality.TheVariants.{Legal, Opened}
use Rattle.reg_tree.specs.Operations.{hive_of}
use Rattle.reg_tree.specs.declared.op.Op.{Op}
use Rattle.reg_tree.specs.declared.element.Element.{Element}
use Rattle.crash_model.specs.Changes as law

-- an operation with the moment of its change
abbrev pub TimedOp : Type 0
TimedOp = ℕ × Op

-- an operation at its moment, beside its hive
abbrev pub timed : ℕ → Op → ℕ × TimedOp
timed moment op = (hive_of op, (moment, op))

-- a change as the model sees it: its operations, each at the change's moment and beside its hive
abbrev pub timed_element : Element → law.Element TimedOp
timed_element e = map (timed e.moment) e.ops

abbrev pub timed_elements : List Element → List (law.Element TimedOp)
timed_elements = map timed_element

-- whether an operation may be carried out and leaves its tree within the weight
abbrev pub is_legal : Result Legality Refusal → Bool
is_legal (Ok Legal) = true
is_legal (Ok Opened) = false
is_legal (Err refusal) = false

-- The project's trees and operations as the model takes them: what an operation makes of its hive's tree, and whether
-- it is legal there. More is not asked of a tree.
unfoldable pub tree_rules : law.Rules TreeMap TimedOp
tree_rules = record { apply = λ o t. changed t o.1 o.0; legal = λ o t. is_legal (legal_in t o.1); allows = λ i n t. true }
