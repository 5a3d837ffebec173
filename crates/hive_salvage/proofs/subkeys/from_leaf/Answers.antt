use Rattle.std.proofs.Common.{◌≡◌, ◌+◌, ℕ, inl, inr, refl, arith}
use Rattle.std.proofs.lemmas.Result.{IfOk-weaker}
use Rattle.hive_load_parts.specs.CellReads.{marks_of}
use Rattle.hive_salvage.proofs.Telling.{so_too, told, unless_memory}
use Rattle.hive_salvage.proofs.subkeys.from_leaf.Goals as goal

nothing : (n : ℕ) → n + 0 ≡ n
nothing n = omega arith

pub returns-in-Ok-clause-kept : goal.returns-in-Ok-clause-kept
returns-in-Ok-clause-kept g c = IfOk-weaker c.from_read_leaf.result _ _ (λ count t. so_too _ _ _ _ _ _ t (λ cells shows events its listed.
    inl (c.in-Ok.list, marks_of c.read_list.new.seen, c.in-Ok.ensures.read cells shows, its listed))) c.from_read_leaf.ensures.kept

pub returns-clause-kept : goal.returns-clause-kept
returns-clause-kept g c = told _ _ _ _ _ _ c.in_ok-tell.ensures.0 (λ cells shows listed.
    inr (c.in-Err.why, unless_memory c.in-Err.why c.in_ok-tell.ensures.1 (c.in-Err.ensures.read cells shows), refl, nothing listed, refl))
