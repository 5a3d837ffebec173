use Rattle.std.proofs.Common.{◌≡◌, ◌<◌, ℕ, List, length, subst, sym, refl, ap, arith}
use Rattle.std.specs.Prelude.{slice_set}
use Rattle.hive_emit.specs.declared.security.SecurityEntry.{SecurityEntry}
use Rattle.hive_emit.specs.EmittedKeys.{Has}
use Rattle.hive_emit.specs.SecurityTables.{HasDescriptorAt, tallies, one_with, Counts, AreSome}
use Rattle.hive_emit.proofs.SecurityTables.{recounted, set_keeps, same_read, at_has, there_is}
use Rattle.hive_emit.proofs.Counting.{counts_set, some_set}
use Rattle.hive_emit.proofs.security.SecurityTable.count_again.Goals as goal

pub returns-clause-keeps : goal.returns-clause-keeps
returns-clause-keeps c = λ d has. set_keeps c.self.inside.cells.items c.args.place c.index_mut.result.now _ (subst (λ (cells : List SecurityEntry). c.args.place < length cells) (sym c.self.view_is) c.requires) c.index_mut.ensures.value refl d (subst (λ (cells : List SecurityEntry). Has cells d) (sym c.self.view_is) has)

pub returns-clause-counts : goal.returns-clause-counts
returns-clause-counts c = λ d has.
    let items : List SecurityEntry = c.self.inside.cells.items in
    let inside : c.args.place < length items = subst (λ (cells : List SecurityEntry). c.args.place < length cells) (sym c.self.view_is) c.requires in
    let old : SecurityEntry = c.index_mut.result.now in
    let same : c.index.result.now ≡ old = same_read items c.args.place c.index.result.now old inside c.index.ensures c.index_mut.ensures.value in
    let is : old.descriptor ≡ d = at_has items c.args.place old d inside c.index_mut.ensures.value (subst (λ (cells : List SecurityEntry). HasDescriptorAt cells c.args.place d) (sym c.self.view_is) has) in
    subst (λ (e : List ℕ). Counts (tallies c.args.self.now) (tallies (slice_set items c.args.place (recounted old c.saturating_add.result))) 1 (λ x. one_with x e)) is
    (subst (λ (cells : List SecurityEntry). Counts (tallies cells) (tallies (slice_set items c.args.place (recounted old c.saturating_add.result))) 1 (λ x. one_with x old.descriptor)) c.self.view_is
    (counts_set items c.args.place old (recounted old c.saturating_add.result) (there_is items c.args.place old inside c.index_mut.ensures.value) refl (λ few. omega (arith, few, c.saturating_add.ensures, ap (λ (s : SecurityEntry). s.count) same))))

pub returns-clause-some : goal.returns-clause-some
returns-clause-some c = λ some.
    let items : List SecurityEntry = c.self.inside.cells.items in
    let inside : c.args.place < length items = subst (λ (cells : List SecurityEntry). c.args.place < length cells) (sym c.self.view_is) c.requires in
    let old : SecurityEntry = c.index_mut.result.now in
    some_set items c.args.place old (recounted old c.saturating_add.result) (there_is items c.args.place old inside c.index_mut.ensures.value) refl (omega (arith, c.saturating_add.ensures)) (subst (λ (cells : List SecurityEntry). AreSome (tallies cells)) (sym c.self.view_is) some)
