use Rattle.std.proofs.Common.{sym}
use Rattle.reg_prefixes.proofs.Meanings.{not_here, still_within}
use Rattle.reg_prefixes.proofs.word.parted.Goals as goal

pub loop-unit-preserved : goal.loop-unit-preserved
loop-unit-preserved c =
    let i = c.loop-unit.invariant in
    let rest = c.in-Some.ensures.cases in
    let more = not_here c.args.word.now c.loop-unit.rest.now c.loop-unit.at c.in-Some.unit.now c.in-Some.behind.now i.parted rest.0 i.rest (sym c.in_default-named_behind.ensures) in
    record { rest = more.1; within = still_within c.args.word.now c.loop-unit.rest.now c.in-Some.behind.now c.loop-unit.at i.rest rest.1; parted = more.0 }
