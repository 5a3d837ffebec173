use Rattle.std.proofs.Common.{◌≡◌, ◌/◌, List, ℕ, ap, sym, subst, ◌∙◌, rules}
use Rattle.hive_cells.specs.Bins.{Bins}
use Rattle.hive_cells.specs.Tiles.{BeginsCell}
use Rattle.hive_cells.specs.Starts.{is_start}
use Rattle.hive_cells.proofs.Lookups.{cell_of_bit, bit_of_cell}
use Rattle.hive_cells.proofs.CellChanges.{cell_within}
use Rattle.hive_cells.proofs.image.Image.is_cell.Goals as goal

pub returns-then-at-eq0-clause-found : goal.returns-then-at-eq0-clause-found
returns-then-at-eq0-clause-found c =
    let bit : c.begins_at.result ≡ is_start c.self.inside.starts.items (c.args.at / 8) = c.begins_at.ensures ∙ ap (λ (ws : List ℕ). is_start ws (c.args.at / 8)) c.deref.ensures.value in
    rw (← c.self.view_is) (
      λ is_true. cell_of_bit _ _ c.self.invariant.indexed.cells _ c.if-at-eq0.true (sym bit ∙ is_true),
      λ found. bit ∙ (bit_of_cell _ _ c.self.invariant.indexed.cells _ found).1,
    )

pub returns-then-at-eq0-clause-whole : goal.returns-then-at-eq0-clause-whole
returns-then-at-eq0-clause-whole c =
    let bit : c.begins_at.result ≡ is_start c.self.inside.starts.items (c.args.at / 8) = c.begins_at.ensures ∙ ap (λ (ws : List ℕ). is_start ws (c.args.at / 8)) c.deref.ensures.value in
    rw (← c.self.view_is) (λ is_true. cell_within _ _ _ c.self.invariant.indexed.cells (cell_of_bit _ _ c.self.invariant.indexed.cells _ c.if-at-eq0.true (sym bit ∙ is_true)))

pub returns-else-at-eq0-clause-found : goal.returns-else-at-eq0-clause-found
returns-else-at-eq0-clause-found c = (
  λ is_true. absurd (search rules),
  λ found. absurd (c.if-at-eq0.false ((bit_of_cell _ _ c.self.invariant.indexed.cells _ (subst (λ (b : Bins). BeginsCell b.bytes c.args.at) (sym c.self.view_is) found)).0)),
)
