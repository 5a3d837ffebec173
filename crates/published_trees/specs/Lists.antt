-- Lists of changes that were seen.
use Rattle.std.specs.Prelude.{◌≡◌, ℕ, ◌<◌, List, length, refl}
use Rattle.std.specs.Coded.{Coded, code_by, coded×, coded_ℕ, coded_list}
use mathlib.Core.List.{IsPrefix}
use mathlib.Core.Option.{some}
use lib.ListN.{get_elem?}
use Rattle.logbook.specs.Pages.{Book}
use Rattle.reg_tree.specs.declared.element.Element.{Element}
use Rattle.reg_tree.specs.contracts.element.Element as element

-- a beginning of the list of a book
pub record SeenList : Type 0 where
  pub book : Book
  pub list : List Element

abbrev pub book_code : Coded Book
book_code = code_by (ℕ × (ℕ × ℕ)) (coded× coded_ℕ (coded× coded_ℕ coded_ℕ)) (λ b. (b.number, (b.log_name, b.cells_name))) (λ p. record { number = p.0; log_name = p.1.0; cells_name = p.1.1 }) (λ _. refl)

abbrev pub list_code : Coded (List Element)
list_code = coded_list element.the_row.coded

abbrev pub seen_code : Coded SeenList
seen_code = code_by (Book × List Element) (coded× book_code list_code) (λ s. (s.book, s.list)) (λ p. record { book = p.0; list = p.1 }) (λ _. refl)

-- the second list begins with the first, and goes on
abbrev pub IsLonger : List Element → List Element → Type 0
IsLonger xs ys = IsPrefix xs ys × (length xs < length ys)

-- the list begins with each of these
abbrev pub Begin : List Element → List (List Element) → Type 0
Begin list views = (seat : ℕ) (view : List Element) → get_elem? views seat ≡ some view → IsPrefix view list
