-- The cursor is at the root of the part that was found in the hive's tree.
use Rattle.std.proofs.Common.{◌≡◌, inl, Option, Some, option_map, sym, ap, ◌∙◌, subst}
use Rattle.reg_tree.specs.Maps.{TreeMap}
use Rattle.regtx_c.specs.Places.{TreePlace}
use Rattle.regtx_c.specs.Handles.{asked, tree_in}
use Rattle.regtx_c.specs.Cursors.{key_path, place_in, OpensAt}
use Rattle.regtx_c.proofs.CursorAnswers.{opens_at}
use Rattle.regtx_c.proofs.cursors.regtx_cursor_open.Goals as goal

pub returns-in-Ok-clause-opens : goal.returns-in-Ok-clause-opens
returns-in-Ok-clause-opens c =
    let new = c.in-Ok.block.value in
    let tree : tree_in c.args.hive.now ≡ Some c.tree.result.now = ap (option_map (λ (place : TreePlace). place.tree)) c.in-Some.ensures.some ∙ ap Some (ap (λ (place : TreePlace). place.tree) (sym c.deref.ensures) ∙ sym c.tree.ensures) in
    inl (subst (λ (o : Option TreeMap). OpensAt (asked o (key_path c.args.path.now)) (place_in c.args.cursor.now) (place_in c.put_cursor.new.cursor) 0) (sym tree)
    (opens_at (key_path c.args.path.now c.tree.result.now) new c.in-Ok.ensures.named c.in-Ok.ensures.found c.in-Ok.ensures.way (place_in c.args.cursor.now) (place_in c.put_cursor.new.cursor) c.put_cursor.ensures.some))
