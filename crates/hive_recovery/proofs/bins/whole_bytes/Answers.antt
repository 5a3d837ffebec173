use Rattle.std.proofs.Common.{◌≡◌, ◌∙◌, ℕ, suc, Some, length, subst, sym, inl, arith}
use Rattle.hive_recovery.specs.Laid.{first_bytes}
use Rattle.hive_recovery.proofs.Firsts.{lacking_stays, lacking_one}
use Rattle.hive_recovery.proofs.bins.whole_bytes.Goals as goal

pub returns-in-None-clause-refused : goal.returns-in-None-clause-refused
returns-in-None-clause-refused c = λ image held.
    let here = lacking_one image c.cells.index c.cells.bytes.items (c.cells.invariant image held) (sym (held c.cells.index c.cells-test.true) ∙ c.in-None.is) in
    inl (c.from.ensures, lacking_stays image (suc c.cells.index) (length c.args.cells.now) (omega (arith, c.cells-test.true)) here)

pub returns-clause-ok : goal.returns-clause-ok
returns-clause-ok c = λ image held.
    let whole : c.cells.index ≡ length c.args.cells.now = omega (arith, c.cells-test.false, c.cells.auto.index-end) in
    let Upto : ℕ → Type 0 = λ n. first_bytes image n ≡ Some c.cells.bytes.items in
    subst Upto whole (c.cells.invariant image held)
