use Rattle.std.proofs.Common.{◌≡◌, ◌+◌, ℕ, [], ◌∷◌, inl, inr, refl, ap, arith}
use Rattle.refusals.specs.declared.refusal.Refusal.{Refusal}
use Rattle.key_walk.specs.KeyPaths.{names_on}
use Rattle.hive_salvage.specs.Events.{lost, loss_of}
use Rattle.hive_salvage.specs.declared.loss.Part.TheVariants as part
use Rattle.hive_salvage.proofs.Telling.{so_too, told}
use Rattle.hive_load_parts.specs.CellReads.{marks_of}
use Rattle.hive_salvage.proofs.subkeys.from_read_leaf.Goals as goal

nothing : (n : ℕ) → n + 0 ≡ n
nothing n = omega arith

pub returns-then-list-clause-kept : goal.returns-then-list-clause-kept
returns-then-list-clause-kept g c = told _ _ _ _ _ _ c.in_ok-tell.ensures.0 (λ cells shows listed. inr (
  c.if-list.true,
  ap (λ n. ((marks_of c.args.seen.now, c.args.siblings.now.items), n)) (nothing listed),
  ap (λ (why : Refusal). lost (names_on c.args.path.now) (loss_of (part.Leaf c.args.leaf) c.args.at why) ∷ []) c.from-why.ensures,
))

pub returns-in-Ok-clause-kept : goal.returns-in-Ok-clause-kept
returns-in-Ok-clause-kept g c = so_too _ _ _ _ _ _ c.in-Ok.ensures.kept (λ cells shows events its listed. inl (c.if-list.false, its, refl))
