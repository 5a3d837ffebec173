-- A cell that is looked at twice, and the cell of a record.
use Rattle.std.proofs.Common.{◌≡◌, inl, inr, ℕ, List, false, refl, sym, subst, ap, ◌∙◌, Option, Some, None, Ok, Err}
use Rattle.refusals.specs.declared.refusal.Refusal.{Refusal}
use Rattle.refusals.specs.declared.refusal.Refusal.TheVariants.{NoMemory}
use Rattle.hive_cells.specs.Bins.{Cells}
use Rattle.hive_tree_model.specs.Loads.{CellMarks}
use Rattle.hive_tree_model.proofs.Basics.{clash}
use Rattle.hive_tree_model.specs.Lists.{Once}
use Rattle.hive_records.specs.Readers.{look, own_if}
use Rattle.hive_records.specs.Follows.{Follows}
use Rattle.hive_lookup.specs.declared.list_kind.ListKind.{ListKind}
use Rattle.hive_lookup.specs.Records.{record_at, data_if}

-- a look gives the cell's data
pub same_look : (at : ℕ) (cells : Cells) (b d : List ℕ) → cells at ≡ Some b → (look at cells).says ≡ Ok d → d ≡ b
unfolding look
same_look at cells b d e f = let says : (own_if at (cells at)).says ≡ Ok b = ap (λ (o : Option (List ℕ)). (own_if at o).says) e in let both : Ok d ≡ Ok b = sym f ∙ says in cc

-- a record that is read has a cell
some_if : (kind : ListKind) (o : Option (List ℕ)) (bytes : List ℕ) → data_if kind o ≡ Ok bytes → (d : List ℕ) × (o ≡ Some d)
some_if kind None bytes e = absurd (let no : ⊥ = cc in no)
some_if kind (Some d) bytes e = (d, refl)

pub record_cell : (kind : ListKind) (cells : Cells) (at : ℕ) (bytes : List ℕ) → record_at kind cells at ≡ Ok bytes → (d : List ℕ) × (cells at ≡ Some d)
record_cell kind cells at bytes e = some_if kind (cells at) bytes e

-- so nothing but want of memory keeps it from being taken first of all
pub first_look : (at : ℕ) (cells : Cells) (old new : CellMarks) (d : List ℕ) (why : Refusal) → cells at ≡ Some d → ((cell : ℕ) → old cell ≡ false) → Follows (look at) cells old new (Err why) → why ≡ NoMemory
unfolding look
first_look at cells old new d why e unset (inl m) = m
first_look at cells old new d why e unset (inr (inl f)) = absurd (let says : (own_if at (cells at)).says ≡ Ok d = ap (λ (o : Option (List ℕ)). (own_if at o).says) e in let both : Ok d ≡ Err why = sym says ∙ f in let no : ⊥ = cc in no)
first_look at cells old new d why e unset (inr (inr (h, inl met))) = clash (old met.0) met.2 (unset met.0)
first_look at cells old new d why e unset (inr (inr (h, inr twice))) = absurd (twice (subst (λ (o : Option (List ℕ)). Once (own_if at o).own) (sym e) (λ z. z, tt)))
