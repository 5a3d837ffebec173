use Rattle.std.proofs.Common.{[], sym, ◌∙◌, ap, refl}
use Rattle.std.specs.Arc.{arc_value}
use Rattle.persistent_map.proofs.Names.{names_apart}
use Rattle.persistent_map.proofs.Entries.{put_before, put_behind, put_over}
use Rattle.persistent_map.proofs.Adds.{on_ok}
use Rattle.persistent_map.proofs.child.put.Goals as goal

pub replaced_by-requires : goal.replaced_by-requires
replaced_by-requires g c =
    sym (c.name.ensures ∙ ap g.E.MapEntry.key c.deref.ensures) ∙ names_apart _ _ (sym c.cmp.ensures ∙ c.in-Equal.is)
    ∙ c.name-2.ensures ∙ ap g.E.MapEntry.key (c.deref-2.ensures ∙ sym c.deref-in-Equal.ensures)

pub returns-in_ok-clone-in-Less : goal.returns-in_ok-clone-in-Less
returns-in_ok-clone-in-Less g c =
    on_ok c.add-in-Less.result (put_before g.E.MapEntry.key g.E.MapEntry.over g.E.MapEntry.entry_weight (arc_value c.args.new) (arc_value c.args.old.now) c.args.made.now.items c.add.new.made.items c.add-in-Less.new.made.items c.args.new c.in_ok-clone-in-Less.field-0 c.in_ok-add-in-Less.ensures
    (rw (← c.deref.ensures, ← c.deref-2.ensures, ← c.name.ensures, ← c.name-2.ensures) (sym c.cmp.ensures ∙ c.in-Less.is)) refl c.in_ok-clone-in-Less.ensures.cases) c.add-in-Less.ensures

pub returns-in_ok-add-in-Greater : goal.returns-in_ok-add-in-Greater
returns-in_ok-add-in-Greater g c =
    on_ok c.add-in-Greater-2.result (put_behind g.E.MapEntry.key g.E.MapEntry.over g.E.MapEntry.entry_weight (arc_value c.args.new) (arc_value c.args.old.now) c.args.made.now.items c.add-in-Greater.new.made.items c.add-in-Greater-2.new.made.items c.in_ok-clone-in-Greater.field-0 c.args.new c.in_ok-add-in-Greater.ensures
    (rw (← c.deref.ensures, ← c.deref-2.ensures, ← c.name.ensures, ← c.name-2.ensures) (sym c.cmp.ensures ∙ c.in-Greater.is)) c.in_ok-clone-in-Greater.ensures.cases refl) c.add-in-Greater-2.ensures

pub returns-in_ok-replaced_by-in-Equal : goal.returns-in_ok-replaced_by-in-Equal
returns-in_ok-replaced_by-in-Equal g c =
    on_ok c.add-in-Equal.result (λ pushed. put_over g.E.MapEntry.key g.E.MapEntry.over g.E.MapEntry.entry_weight (arc_value c.args.new) (arc_value c.args.old.now) c.args.made.now.items c.add-in-Equal.new.made.items [] c.in_ok-replaced_by-in-Equal.field-0 c.args.new pushed
    (rw (← c.deref.ensures, ← c.deref-2.ensures, ← c.name.ensures, ← c.name-2.ensures) (sym c.cmp.ensures ∙ c.in-Equal.is)) (rw (← c.deref-in-Equal.ensures) c.in_ok-replaced_by-in-Equal.ensures.over) (rw (← c.deref-in-Equal.ensures) c.in_ok-replaced_by-in-Equal.ensures.named)) c.add-in-Equal.ensures
