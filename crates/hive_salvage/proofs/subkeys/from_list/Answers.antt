use Rattle.std.proofs.Common.{List, inl, inr, refl, subst}
use Rattle.std.proofs.lemmas.Result.{IfOk-weaker}
use Rattle.hive_load_parts.specs.CellReads.{marks_of}
use Rattle.key_walk.specs.KeyPaths.{names_on}
use Rattle.hive_salvage.specs.declared.siblings.Sibling.{Sibling}
use Rattle.hive_salvage.specs.Salvage.{LeavesAre, ListNames}
use Rattle.hive_salvage.proofs.Telling.{so_too}
use Rattle.hive_salvage.proofs.subkeys.from_list.Goals as goal

pub returns-then-list-clause-kept : goal.returns-then-list-clause-kept
returns-then-list-clause-kept g c = IfOk-weaker c.from_leaves.result _ _ (λ listed t. so_too _ _ _ _ _ _ t (λ cells shows events its. inr (
  c.if-list.true,
  subst (λ (s : List Sibling). LeavesAre cells (names_on c.args.path.now) c.args.list.now c.args.list.now.count ((marks_of c.args.seen.now, s), 0) ((marks_of c.from_leaves.new.seen, c.from_leaves.new.siblings.items), listed) events) c.requires.none its,
))) c.from_leaves.ensures.kept

pub returns-in-Ok-clause-kept : goal.returns-in-Ok-clause-kept
returns-in-Ok-clause-kept g c = so_too _ _ _ _ _ _ c.in-Ok.ensures.kept (λ cells shows events its. inl (
  c.if-list.false,
  subst (λ (s : List Sibling). ListNames cells (names_on c.args.path.now) 0 c.args.list.now c.args.list.now.count (marks_of c.args.seen.now, s) (marks_of c.from_elements.new.seen, c.from_elements.new.siblings.items) events) c.requires.none its,
  refl,
))
