use Rattle.std.proofs.Common.{refl, subst, sym}
use Rattle.std.specs.Prelude.{Contains}
use Rattle.conflicts.specs.IndexKeys.{IndexKey}
use Rattle.conflicts.proofs.IndexKeyRanges.{forward, all_between}
use Rattle.conflicts.proofs.index_keys.gather.Goals as goal

pub numbers_between-requires : goal.numbers_between-requires
numbers_between-requires c =
    let from : IndexKey = (c.in_ok-with_unit.field-0, 0) in
    let to : IndexKey = (c.in_ok-with_unit-2.field-0, 18446744073709551615) in
    forward from to c.args.text.now c.args.past c.in_ok-with_unit.ensures c.in_ok-with_unit-2.ensures c.requires

pub returns : goal.returns
returns c =
    let from : IndexKey = (c.in_ok-with_unit.field-0, 0) in
    let to : IndexKey = (c.in_ok-with_unit-2.field-0, 18446744073709551615) in
    λ index_key has on. subst (λ xs. Contains xs index_key.1) (sym c.in_ok-found.ensures) (all_between from to c.args.text.now c.args.past c.in_ok-with_unit.ensures refl c.in_ok-with_unit-2.ensures c.args.index_keys.now.keys index_key has on)
