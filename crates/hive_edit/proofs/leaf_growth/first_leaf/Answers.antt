use Rattle.std.proofs.Common.{List, ℕ, ◌++◌, ap, ◌∙◌, arith}
use Rattle.hive_records.specs.Fields.{u16_bytes}
use Rattle.hive_edit.proofs.LeafGrowths.{grown_first}
use Rattle.hive_edit.proofs.leaf_growth.first_leaf.Goals as goal

pub returns-clause-grown : goal.returns-clause-grown
returns-clause-grown c =
    grown_first c.args.image.now.bytes c.insert.new.self.bytes c.lengthen_leaf.new.image.bytes c.args.list c.in-Some.shape c.args.subkey c.in-Ok.leaf c.deref.result.now c.tiles.ensures.tiles c.requires.none
    (c.deref.ensures.value ∙ c.in_ok-put_hashed_head.ensures ∙ ap (λ (z : List ℕ). z ++ (u16_bytes 0x686c ++ u16_bytes 0)) c.new-text.ensures.items) c.in-Ok.ensures.added c.in-Some.ensures (let e = c.if-shape-ne0.false in search (arith, e)) (let l = c.if-shape.false in omega (arith, l)) c.in_ok-lengthen_leaf.ensures.put

pub returns-clause-sizes : goal.returns-clause-sizes
returns-clause-sizes c = λ cell len bare has. c.in_ok-lengthen_leaf.ensures.put.sizes cell len (c.in-Ok.ensures.added.sizes cell len has)

pub returns-in_default-clause-sizes : goal.returns-in_default-clause-sizes
returns-in_default-clause-sizes c = λ cell len bare has. c.in-Ok.ensures.added.sizes cell len has

pub returns-then-shape-ne0-clause-sizes : goal.returns-then-shape-ne0-clause-sizes
returns-then-shape-ne0-clause-sizes c = λ cell len bare has. c.in-Ok.ensures.added.sizes cell len has
