use Rattle.std.proofs.Common.{◌∙◌, List, sym, ap, subst}
use Rattle.std.specs.List.{AllByRecursion}
use Rattle.crash_model.specs.Promises.{settled}
use Rattle.reg_tree.specs.declared.element.Element.{Element}
use Rattle.change_codec.specs.Encoding.{Fits}
use Rattle.change_codec.specs.ModelChanges.{timed_elements}
use Rattle.commit_journal.specs.ChangeListLaws.{list_is}
use Rattle.commit_journal.specs.Journals.{changes_of, choice_of, store_of}
use Rattle.commit_journal.specs.Store.{all_hives}
use Rattle.commit_journal.proofs.journal.Journal.open.Goals as goal

pub returns-in-Ok-clause-elements : goal.returns-in-Ok-clause-elements
returns-in-Ok-clause-elements g c = list_is c.new-list.result c.scan.new.sink (choice_of c.in-Ok.journal).now.below (changes_of c.in-Ok.journal) c.new-list.ensures c.in-Ok.ensures.took

pub returns-in-Ok-clause-choice : goal.returns-in-Ok-clause-choice
returns-in-Ok-clause-choice g c =
    let j = c.in-Ok.journal in
    let are = list_is c.new-list.result c.scan.new.sink (choice_of j).now.below (changes_of j) c.new-list.ensures c.in-Ok.ensures.took in
    c.in-Ok.ensures.choice ∙ ap (λ (l : List Element). settled (record { below = (choice_of j).now.below; elements = timed_elements l })) (sym are)

pub returns-in-Ok-clause-fit : goal.returns-in-Ok-clause-fit
returns-in-Ok-clause-fit g c =
    let j = c.in-Ok.journal in
    let are = list_is c.new-list.result c.scan.new.sink (choice_of j).now.below (changes_of j) c.new-list.ensures c.in-Ok.ensures.took in
    subst (λ (l : List Element). AllByRecursion (Fits (all_hives (store_of j))) l) (sym are) c.in-Ok.ensures.fit
