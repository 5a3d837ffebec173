-- Laws of lists of changes.
use Rattle.std.proofs.Common.{◌≡◌, ◌∙◌, ℕ, ◌+◌, List, [], ◌∷◌, ◌++◌, refl, sym, ap, append_assoc}
use Rattle.std.proofs.lemmas.List.{append-nil, map-append}
use Rattle.reg_tree.specs.declared.element.Element.{Element}
use Rattle.commit_journal.specs.Numbered.{NumberedChange, changes_in, numbered}
use Rattle.commit_journal.specs.ChangeLists.{Appends}
use Rattle.commit_journal.specs.declared.scan.ChangeList.{ChangeList}

pub appends_none : (list : ChangeList) → Appends list list []
appends_none list = sym (append-nil list.changes.items)

pub appends_more : (before between after : ChangeList) (front rest : List NumberedChange) → Appends before between front → Appends between after rest → Appends before after (front ++ rest)
appends_more before between after front rest one two =
    two ∙ ap (λ (l : List Element). l ++ changes_in rest) one ∙ append_assoc before.changes.items (changes_in front) (changes_in rest)
    ∙ ap (λ (l : List Element). before.changes.items ++ l) (sym (map-append (λ (c : NumberedChange). c.1) front rest))

pub changes_numbered : (base : ℕ) (es : List Element) → changes_in (numbered base es) ≡ es
changes_numbered base [] = refl
changes_numbered base (e ∷ es) = ap (λ (l : List Element). e ∷ l) (changes_numbered (base + 1) es)

pub list_is : (before after : ChangeList) (base : ℕ) (es : List Element) → before.changes.items ≡ [] → Appends before after (numbered base es) → after.changes.items ≡ es
list_is before after base es none is = is ∙ ap (λ (l : List Element). l ++ changes_in (numbered base es)) none ∙ changes_numbered base es
