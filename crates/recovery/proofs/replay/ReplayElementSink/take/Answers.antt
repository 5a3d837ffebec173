use Rattle.std.proofs.Common.{◌≡◌, ◌∙◌, true, false, ◌∷◌, [], ◌++◌, List, refl, sym, ap}
use Rattle.std.proofs.lemmas.List.{append-nil}
use Rattle.commit_journal.specs.Numbered.{NumberedChange}
use Rattle.recovery.specs.ReplayLaws.{names_none, replays_none, trees_none}
use Rattle.recovery.specs.Retained.{is_lacked, numbered_changes}
use Rattle.recovery.proofs.ReplaySteps.{always_err, kept_held, kept_lacked, names_one, trees_held}
use Rattle.recovery.proofs.replay.ReplayElementSink.take.Goals as goal

pub returns-then-not-is_lacked-clause-taken : goal.returns-then-not-is_lacked-clause-taken
returns-then-not-is_lacked-clause-taken c =
    let s = c.args.self.now in
    let change : NumberedChange = (c.args.number, c.args.change) in
    let held : is_lacked s.numbers.items change ≡ false = sym c.is_lacked.ensures ∙ c.if-not-is_lacked.true in
    record {
      numbers = refl;
      trees = trees_held s.numbers.items change s.trees.items held;
      are = λ trees. trees;
      retained = kept_held s.numbers.items change (numbered_changes s.retained) held;
      names = names_one c.args.number c.args.change s.last_changes.last.items c.count_one.new.self.last.items c.count_one.ensures.many c.count_one.ensures.counts;
    }

pub returns-in_err-trees-clause-same : goal.returns-in_err-trees-clause-same
returns-in_err-trees-clause-same c = always_err c.from_residual.result _ (replays_none c.args.self.now)

pub returns-in_err-reserve-clause-same : goal.returns-in_err-reserve-clause-same
returns-in_err-reserve-clause-same c = always_err c.from_residual-in_err-reserve.result _ (let s = c.args.self.now in record {
  numbers = refl;
  trees = trees_none s.numbers.items s.trees.items;
  are = λ trees. trees;
  retained = c.reserve.ensures.same ∙ sym (append-nil (numbered_changes s.retained));
  names = names_none s.last_changes.last.items;
})

pub returns-clause-taken : goal.returns-clause-taken
returns-clause-taken c =
    let s = c.args.self.now in
    let change : NumberedChange = (c.args.number, c.args.change) in
    let lacked : is_lacked s.numbers.items change ≡ true = sym c.is_lacked.ensures ∙ c.if-not-is_lacked.false in
    record {
      numbers = refl;
      trees = c.in_ok-trees.ensures.follow;
      are = λ trees. c.in_ok-trees.ensures.trees;
      retained = c.push_reserved.ensures.changes ∙ ap (λ (l : List NumberedChange). l ++ change ∷ []) c.reserve.ensures.same ∙ kept_lacked s.numbers.items change (numbered_changes s.retained) lacked;
      names = names_one c.args.number c.args.change s.last_changes.last.items c.count_one-2.new.self.last.items c.count_one-2.ensures.many c.count_one-2.ensures.counts;
    }
