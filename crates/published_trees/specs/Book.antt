-- The rule of the book, and what its step tells.
use Rattle.std.specs.Prelude.{ℕ, ◌≡◌, ◌==◌, true, List, [], ◌∷◌, ◌++◌, length, MatchBool}
use Rattle.logbook.specs.Pages.{Cell, Step, View, Book, Named}
use Rattle.reg_tree.specs.declared.element.Element.{Element}

-- the first word is the length of the list. A book has two words, of which this one leaves the second at 0
abbrev pub IsCounted : List Cell → List Element → Type 0
IsCounted cells log = cells ≡ (length log, true) ∷ (0, true) ∷ []

-- the first word of a book
abbrev pub count_of : Book → Named
count_of book = record { tracked = true; key = 0; book = book }

-- the change was added after all that had been seen; or the list was longer, and was seen
abbrev pub Adds : Step Element → View Element ℕ → ℕ → View Element ℕ → Type 0
Adds step view found next = MatchBool (found == step.old) (next.0 ≡ view.0 ++ step.ask ∷ []) (length next.0 ≡ found)
