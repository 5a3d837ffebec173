use Rattle.std.proofs.Common.{◌≡◌, ℕ, Some, List, Option, map, ap, sym, subst, ◌∙◌, take_all}
use Rattle.std.specs.Option.{option_map}
use Rattle.store_model.specs.Invariant.{HivesAreNamable}
use Rattle.store_model.specs.Transactions.{Transaction, at}
use Rattle.transactions.specs.Entries.{AreRebased, with_other_tree}
use Rattle.transactions.specs.Tables.{Table}
use Rattle.transactions.specs.declared.view.View.{View}
use Rattle.transactions.proofs.OtherTrees.{views_other}
use Rattle.transactions.proofs.Slots.{named_at}
use Rattle.transactions.proofs.table.TxTable.views_with.Goals as goal

pub returns : goal.returns
returns c = λ now number is rebased.
    let hives = c.args.self.now.hives in
    let f = option_map (with_other_tree hives c.args.tree.now) in
    let all : c.loop-view.made.items ≡ map f c.args.views.items =
    c.loop-view.invariant ∙ ap (λ (l : List (Option View)). map f l) (take_all c.loop-view.view-index c.deref-view-items.result.now c.loop-view-test.false ∙ c.deref-view-items.ensures.value) in
    subst (AreRebased (lib.ListN.set now hives c.args.tree.now) number c.args.self.now.tx_slots) (sym all)
    (views_other hives c.args.tree.now now number c.args.self.now.tx_slots c.args.views.items is
    (subst (λ (t : Table). (slot : ℕ) (one : Transaction) → at t.tx_slots slot ≡ Some one → HivesAreNamable t.hives one.ops) c.self.view_is
    (named_at c.self.inside.trees c.self.inside.number c.self.inside.begun c.self.inside.hives c.self.inside.aside c.self.inside.tx_slots.slots c.self.invariant.entries)) rebased)
