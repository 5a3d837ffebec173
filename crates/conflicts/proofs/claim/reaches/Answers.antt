use Rattle.std.proofs.Common.{◌≡◌, ◌==◌, ◌||◌, ◌&&◌, length, sym, ◌∙◌, ap}
use Rattle.conflicts.specs.Skeleton.{begins_key}
use Rattle.conflicts.specs.Claims.{is_shape}
use Rattle.conflicts.proofs.Meets.{reaches_by_depth}
use Rattle.conflicts.proofs.claim.reaches.Goals.{then-is_shape, else-is_shape}
use Rattle.conflicts.proofs.claim.reaches.Goals as goal

pub returns-then-is_as_deep : goal.returns-then-is_as_deep
returns-then-is_as_deep c =
    let one = c.args.one.now in
    let other = c.args.other.now in
    let value : c.if-is_shape.value ≡ (is_shape one.kind || (length one.key.path == length other.key.path)) = elim c.if-is_shape.branch [
      | then-is_shape w ↦ w.value-is ∙ w.if-is_shape.true ∙ ap (λ s. s || (length one.key.path == length other.key.path)) (sym w.if-is_shape.true ∙ c.is_shape.ensures)
      | else-is_shape w ↦ w.value-is ∙ w.is_as_deep.ensures ∙ ap (λ s. s || (length one.key.path == length other.key.path)) (sym w.if-is_shape.false ∙ c.is_shape.ensures)
    ] in
    c.begins.ensures ∙ ap (λ v. v && begins_key one.key other.key) (sym c.if-is_as_deep.true ∙ value) ∙ reaches_by_depth one other

pub returns-else-is_as_deep : goal.returns-else-is_as_deep
returns-else-is_as_deep c =
    let one = c.args.one.now in
    let other = c.args.other.now in
    let value : c.if-is_shape.value ≡ (is_shape one.kind || (length one.key.path == length other.key.path)) = elim c.if-is_shape.branch [
      | then-is_shape w ↦ w.value-is ∙ w.if-is_shape.true ∙ ap (λ s. s || (length one.key.path == length other.key.path)) (sym w.if-is_shape.true ∙ c.is_shape.ensures)
      | else-is_shape w ↦ w.value-is ∙ w.is_as_deep.ensures ∙ ap (λ s. s || (length one.key.path == length other.key.path)) (sym w.if-is_shape.false ∙ c.is_shape.ensures)
    ] in
    c.if-is_as_deep.false ∙ ap (λ v. v && begins_key one.key other.key) (sym c.if-is_as_deep.false ∙ value) ∙ reaches_by_depth one other
