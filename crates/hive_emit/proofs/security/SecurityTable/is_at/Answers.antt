use Rattle.std.proofs.Common.{◌<◌, List, length, ap, subst, sym, ◌∙◌, arith}
use Rattle.std.proofs.lemmas.Option.{slice_get_within}
use Rattle.std.specs.Cmp.Lexicographic.{same_text}
use Rattle.std.proofs.lemmas.Slice.Eq.{bytes_eq-Decides}
use Rattle.hive_emit.specs.declared.security.SecurityEntry.{SecurityEntry}
use Rattle.hive_emit.specs.SecurityTables.{HasDescriptorAt}
use Rattle.hive_emit.proofs.SecurityTables.{has_at, at_has}
use Rattle.hive_emit.proofs.security.SecurityTable.is_at.Goals as goal

pub returns-then-place-len-clause-yes : goal.returns-then-place-len-clause-yes
returns-then-place-len-clause-yes c = λ yes.
    let inside : c.args.place < length c.self.inside.cells.items = omega (arith, c.if-place-len.true, c.len.ensures) in
    subst (λ (cells : List SecurityEntry). HasDescriptorAt cells c.args.place c.args.descriptor.now) c.self.view_is (has_at c.self.inside.cells.items c.args.place c.index.result.now c.bytes.result.now c.args.descriptor.now inside c.index.ensures c.bytes.ensures (same_text c.bytes.result.now c.args.descriptor.now (sym yes ∙ c.eq.ensures)))

pub returns-then-place-len-clause-no : goal.returns-then-place-len-clause-no
returns-then-place-len-clause-no c = λ has.
    let inside : c.args.place < length c.self.inside.cells.items = omega (arith, c.if-place-len.true, c.len.ensures) in
    c.eq.ensures ∙ (bytes_eq-Decides c.bytes.result.now c.args.descriptor.now).1 (c.bytes.ensures ∙ at_has c.self.inside.cells.items c.args.place c.index.result.now c.args.descriptor.now inside c.index.ensures (subst (λ (cells : List SecurityEntry). HasDescriptorAt cells c.args.place c.args.descriptor.now) (sym c.self.view_is) has))

pub returns-else-place-len-clause-no : goal.returns-else-place-len-clause-no
returns-else-place-len-clause-no c = λ has. absurd (omega (arith, c.if-place-len.false, c.len.ensures, ap length c.self.view_is, slice_get_within c.args.self.now c.args.place has.security has.is))
