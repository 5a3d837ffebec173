use Rattle.std.proofs.Common.{sym, arith, inl, inr, ◌<◌, ◌≤◌, ◌⊎◌}
use Rattle.reg_export.proofs.Singles.{half_is_none, single_is_char}
use Rattle.reg_export.proofs.characters.is_single_char.Goals as goal

pub returns-then-unit-lt55296 : goal.returns-then-unit-lt55296
returns-then-unit-lt55296 c =
    let u = c.args.unit in
    let either : (u < 0xd800) ⊎ (0xe000 ≤ u) = elim c.then-unit-lt55296.either [ inl low ↦ inl low | inr high ↦ inr high.1 ] in
    sym (single_is_char u either)

pub returns : goal.returns
returns c = sym (half_is_none c.args.unit (omega arith) (omega arith))
