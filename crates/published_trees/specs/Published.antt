-- What is published.
use Rattle.std.specs.Prelude.{◌≡◌, ◌++◌, ◌∷◌, [], List, refl}
use Rattle.std.specs.Coded.{Coded, code_by, coded×}
use Rattle.logbook.specs.Pages.{Book}
use Rattle.reg_tree.specs.Maps.{TreeMap}
use Rattle.reg_tree.specs.Sequences.{after_elements}
use Rattle.reg_tree.specs.declared.element.Element.{Element}
use Rattle.reg_tree.specs.contracts.trees.Trees as trees
use Rattle.published_trees.specs.Lists.{book_code, list_code}

-- a list of changes, of a book, and the trees after them
pub record Published : Type 0 where
  pub book : Book
  pub trees : List TreeMap
  pub list : List Element

abbrev pub published_code : Coded Published
published_code = code_by (Book × (List TreeMap × List Element)) (coded× book_code (coded× trees.the_row.coded list_code)) (λ p. (p.book, (p.trees, p.list))) (λ p. record { book = p.0; trees = p.1.0; list = p.1.1 }) (λ _. refl)

-- what is published after these changes of some trees
abbrev pub published_of : Book → List TreeMap → List Element → Published
published_of book trees list = record { book = book; trees = after_elements trees list; list = list }

-- the queue ends with this
abbrev pub EndsWith : List Published → Published → Type 0
EndsWith queue last = (rest : List Published) × (queue ≡ rest ++ last ∷ [])
