use Rattle.std.proofs.Common.{◌≡◌, List, false, true, sym, ◌∙◌, subst}
use Rattle.hive_emit.specs.declared.security.SecurityEntry.{SecurityEntry}
use Rattle.hive_emit.specs.EmittedKeys.{Has}
use Rattle.hive_emit.specs.SecurityTables.{HasDescriptorAt}
use Rattle.hive_emit.proofs.Filing.{none_filed, filed_there}
use Rattle.hive_emit.proofs.security.SecurityTable.place.Goals as goal

pub returns-in_default-clause-none : goal.returns-in_default-clause-none
returns-in_default-clause-none c = λ has. none_filed c.self.inside.indexes.entries c.self.inside.cells.items c.args.descriptor.now c.self.invariant c.in_default.ensures.value (subst (λ (cells : List SecurityEntry). Has cells c.args.descriptor.now) (sym c.self.view_is) has)

pub returns-else-is_at-clause-none : goal.returns-else-is_at-clause-none
returns-else-is_at-clause-none c = λ has.
    let here : HasDescriptorAt c.self.inside.cells.items c.in-Some.place.now c.args.descriptor.now = filed_there c.self.inside.indexes.entries c.self.inside.cells.items c.in-Some.place.now c.args.descriptor.now c.self.invariant c.in-Some.ensures.value (subst (λ (cells : List SecurityEntry). Has cells c.args.descriptor.now) (sym c.self.view_is) has) in
    let told : false ≡ true = sym c.if-is_at.false ∙ c.is_at.ensures.no (subst (λ (cells : List SecurityEntry). HasDescriptorAt cells c.in-Some.place.now c.args.descriptor.now) c.self.view_is here) in
    let never : ⊥ = cc in
    never
