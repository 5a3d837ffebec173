use Rattle.std.proofs.Common.{◌≡◌, ◌+◌, ◌<◌, ◌≤◌, ℕ, List, [], length, refl, sym, ◌∙◌, ap, subst, arith, nat_lt, if◌then◌else◌}
use Rattle.reg_tree.specs.Maps.{TreeMap}
use Rattle.reg_tree.specs.declared.element.Element.{Element}
use Rattle.store_model.specs.declared.room.TheConstants.{MOST_OUTCOME_BYTES}
use Rattle.store_model.specs.Machine.{Machine, outcome_tree}
use Rattle.store_model.proofs.TreeCounts.{all_long}
use Rattle.transactions.specs.CommitLogs.{commits_in}
use Rattle.transactions.specs.Stores.{OutcomesMatch, TableMatchesMachine, store_of}
use Rattle.transactions.proofs.Outcomes.{outcomes_same}
use Rattle.transactions.proofs.store.Store.fold.Goals as goal

-- the machine with its history folded
abbrev folded_store : (c : goal.Joined-self) → Machine
folded_store c = store_of c.self.inside.table.trees c.self.inside.table.number [] [] c.self.inside.sessions c.self.inside.table c.self.inside.durable c.self.inside.room c.self.inside.faulted c.self.inside.bounds

abbrev old_store : (c : goal.Joined-self) → Machine
old_store c = store_of c.self.inside.opened.value c.self.inside.before c.self.inside.history.changes (commits_in c.self.inside.commits) c.self.inside.sessions c.self.inside.table c.self.inside.durable c.self.inside.room c.self.inside.faulted c.self.inside.bounds

long : (c : goal.Joined-self) → length c.self.inside.table.trees ≡ length c.self.inside.opened.value
long c = ap (λ (ts : List TreeMap). length ts) c.self.invariant.0.trees ∙ all_long c.self.inside.opened.value c.self.inside.history.changes

is : (c : goal.Joined-self) → store_of c.of.result.value c.number-self-inside.result c.clear-recent.new.self.changes [] c.self.inside.sessions c.self.inside.table c.self.inside.durable c.self.inside.room c.self.inside.faulted c.self.inside.bounds ≡ folded_store c
is c =
    ap (λ ts. store_of ts c.number-self-inside.result c.clear-recent.new.self.changes [] c.self.inside.sessions c.self.inside.table c.self.inside.durable c.self.inside.room c.self.inside.faulted c.self.inside.bounds) (c.of.ensures ∙ c.trees.ensures)
    ∙ ap (λ n. store_of c.self.inside.table.trees n c.clear-recent.new.self.changes [] c.self.inside.sessions c.self.inside.table c.self.inside.durable c.self.inside.room c.self.inside.faulted c.self.inside.bounds) c.number-self-inside.ensures
    ∙ ap (λ es. store_of c.self.inside.table.trees c.self.inside.table.number es [] c.self.inside.sessions c.self.inside.table c.self.inside.durable c.self.inside.room c.self.inside.faulted c.self.inside.bounds) c.clear-recent.ensures.changes

pub invariant_of-self : goal.invariant_of-self
invariant_of-self c =
    let i = c.self.invariant.0 in
    let keeps = ap (nat_lt c.self.inside.bounds.hives) (long c) in
    subst (λ m. TableMatchesMachine c.self.inside.table m × OutcomesMatch c.self.inside.outcomes m) (sym (is c)) (
      record {
        trees = refl;
        number = omega arith;
        durable = omega (arith, i.durable, i.number);
        few = omega arith;
        hives = i.hives;
        aside = i.aside ∙ ap (λ b. if b then MOST_OUTCOME_BYTES else 0) (sym keeps);
      },
      outcomes_same c.self.inside.outcomes (old_store c) (folded_store c) keeps (ap (outcome_tree c.self.inside.bounds) i.trees) (omega (arith, i.number)) c.self.invariant.1,
    )
