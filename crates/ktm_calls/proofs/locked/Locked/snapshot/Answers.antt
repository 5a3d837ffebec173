use Rattle.std.proofs.Common.{◌≡◌, ◌∙◌, ◌+◌, ◌≤◌, ℕ, List, ap, length, rules, subst, sym}
use Rattle.refusals.specs.declared.limits.TheConstants.{GREATEST_NUMBER}
use Rattle.commit_journal.specs.Store.{Store}
use Rattle.reg_tree.specs.Maps.{TreeMap}
use Rattle.reg_tree.specs.Sequences.{after_elements}
use Rattle.store_model.specs.Machine.{Machine, last_number, trees_now}
use Rattle.ktm_calls.specs.Moments.{Sight}
use Rattle.ktm_calls.proofs.locked.Locked.snapshot.Goals as goal

pub returns-clause-snapshot : goal.returns-clause-snapshot
returns-clause-snapshot g c =
    let E = g.E.StoreEngine in
    let engine = c.args.self.now.engine in
    let machine : Machine = (E.state engine).machine in
    let list : machine.accepted ≡ c.inform.new.mine.list = sym (ap (λ (s : Sight). s.list) c.inform.ensures.whole) in
    let owner = c.inform.ensures.owner in
    let number : last_number machine ≡ g.O.Origin.number + length c.inform.new.mine.list = ap (λ (n : ℕ). n + length machine.accepted) owner.before ∙ ap (λ l. g.O.Origin.number + length l) list in
    let told : c.last_number.result ≡ last_number machine = search rules in
    let trees : c.in_ok-trees.trees ≡ trees_now machine = search rules in
    record {
      id_is = search rules;
      layout_is = search rules;
      hives_are = c.hives.ensures;
      number_is = told ∙ number;
      trees_are = trees ∙ ap (λ (t : List TreeMap). after_elements t machine.accepted) owner.opened ∙ ap (λ l. after_elements g.O.Origin.trees l) list;
      limit = search rules;
    }
