use Rattle.std.proofs.Common.{◌≡◌, ℕ, List, [], ◌∷◌, ◌++◌, length, refl, sym, ◌∙◌, subst, arith}
use Rattle.std.specs.Global.{Vec}
use Rattle.hive_emit.specs.declared.security.SecurityEntry.{SecurityEntry}
use Rattle.hive_emit.specs.EmittedKeys.{Has}
use Rattle.hive_emit.specs.SecurityTables.{AreFiled, tallies, one_with, Counts}
use Rattle.hive_emit.proofs.SecurityTables.{unput, has_push, keeps_push}
use Rattle.hive_emit.proofs.Filing.{filed_put, filed_push}
use Rattle.hive_emit.proofs.Counting.{counts_push}
use Rattle.hive_emit.proofs.security.SecurityTable.add.Goals as goal

pub invariant_of-self-in_err-clone : goal.invariant_of-self-in_err-clone
invariant_of-self-in_err-clone c = subst (λ (es : List (Vec ℕ × ℕ)). AreFiled es c.self.inside.cells.items) (sym c.in_ok-insert.ensures.entries)
    (filed_put c.self.inside.indexes.entries c.self.inside.cells.items c.in_ok-bytes.bytes c.len.result c.args.descriptor.now (c.in_ok-bytes.ensures.items ∙ c.bytes.ensures) (λ has. c.requires.new (subst (λ (cells : List SecurityEntry). Has cells c.args.descriptor.now) c.self.view_is has)) c.self.invariant)

pub invariant_of-self-in_err-push : goal.invariant_of-self-in_err-push
invariant_of-self-in_err-push c = subst (AreFiled c.insert.new.self.entries) (sym c.in_err-push.ensures.items)
    (subst (λ (es : List (Vec ℕ × ℕ)). AreFiled es c.self.inside.cells.items) (sym c.in_ok-insert.ensures.entries)
    (filed_put c.self.inside.indexes.entries c.self.inside.cells.items c.in_ok-bytes.bytes c.len.result c.args.descriptor.now (c.in_ok-bytes.ensures.items ∙ c.bytes.ensures) (λ has. c.requires.new (subst (λ (cells : List SecurityEntry). Has cells c.args.descriptor.now) c.self.view_is has)) c.self.invariant))

pub invariant_of-self-2 : goal.invariant_of-self-2
invariant_of-self-2 c = subst (AreFiled c.insert.new.self.entries) (sym c.in_ok-push.ensures.items)
    (subst (λ (es : List (Vec ℕ × ℕ)). AreFiled es (c.self.inside.cells.items ++ unput c.in_ok-clone.field-0 ∷ [])) (sym c.in_ok-insert.ensures.entries)
    (filed_push c.self.inside.indexes.entries c.self.inside.cells.items c.in_ok-bytes.bytes c.len.result (unput c.in_ok-clone.field-0) (c.in_ok-bytes.ensures.items ∙ c.bytes.ensures ∙ sym c.in_ok-clone.ensures) (let long : c.len.result ≡ length c.self.inside.cells.items = omega (arith, c.len.ensures) in long)
    (λ has. c.requires.new (subst (λ (d : List ℕ). Has c.args.self.now d) c.in_ok-clone.ensures (subst (λ (cells : List SecurityEntry). Has cells c.in_ok-clone.field-0) c.self.view_is has))) c.self.invariant))

pub returns-clause-counted : goal.returns-clause-counted
returns-clause-counted c = subst (λ (cells : List SecurityEntry). Has cells c.args.descriptor.now) (sym c.in_ok-push.ensures.items) (has_push c.self.inside.cells.items _ c.args.descriptor.now c.in_ok-clone.ensures)

pub returns-clause-keeps : goal.returns-clause-keeps
returns-clause-keeps c = λ d has. subst (λ (cells : List SecurityEntry). Has cells d) (sym c.in_ok-push.ensures.items) (keeps_push c.self.inside.cells.items _ d (subst (λ (cells : List SecurityEntry). Has cells d) (sym c.self.view_is) has))

pub returns-clause-counts : goal.returns-clause-counts
returns-clause-counts c = subst (λ (d : List ℕ). Counts (tallies c.args.self.now) (tallies c.push.new.self.items) 1 (λ e. one_with e d)) c.in_ok-clone.ensures
    (subst (λ (cells : List SecurityEntry). Counts (tallies c.args.self.now) (tallies cells) 1 (λ e. one_with e c.in_ok-clone.field-0)) (sym c.in_ok-push.ensures.items)
    (subst (λ (cells : List SecurityEntry). Counts (tallies cells) (tallies (c.self.inside.cells.items ++ unput c.in_ok-clone.field-0 ∷ [])) 1 (λ e. one_with e c.in_ok-clone.field-0)) c.self.view_is (counts_push c.self.inside.cells.items (unput c.in_ok-clone.field-0) refl)))
