-- The trees that are told before a change is accepted.
use Rattle.std.proofs.Common.{◌≡◌, ◌∙◌, refl, sym, List, [], ◌∷◌, ◌++◌, Option, Some, None}
use Rattle.std.specs.Prelude.{IfSome}
use Rattle.std.specs.Option.{option_map}
use Rattle.reg_tree.specs.Maps.{TreeMap}
use Rattle.reg_tree.specs.Judgement.{applied}
use Rattle.reg_tree.specs.Sequences.{after_elements}
use Rattle.reg_tree.specs.declared.element.Element.{Element}
use Rattle.store_model.specs.Machine.{Machine}
use Rattle.store_model.specs.declared.event.Event.{Event}
use Rattle.transactions.specs.Prepared.{Predicts, change_and_trees}
use Rattle.transactions.specs.declared.prepared.Next.{Next}

-- one more change is applied to the trees after those before it
after_one_more : (trees : List TreeMap) (elements : List Element) (element : Element) → after_elements trees (elements ++ element ∷ []) ≡ applied (after_elements trees elements) element.ops element.moment
after_one_more trees [] element = refl
after_one_more trees (x ∷ xs) element = after_one_more (applied trees x.ops x.moment) xs element

pub coming : (m : Machine) (e : Event) (next : Option Next) → Predicts m e (option_map change_and_trees next)
    → IfSome next (λ n. n.trees ≡ after_elements m.opened (m.accepted ++ n.change.value ∷ []))
coming m e None p = tt
coming m e (Some n) p = p.1 ∙ sym (after_one_more m.opened m.accepted n.change.value)
