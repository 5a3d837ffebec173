use Rattle.std.proofs.Common.{rules, inl, inr, ◌≡◌, ◌++◌, ◌∷◌, [], List, length, arith, refl, sym, ◌∙◌, ap, subst, append_assoc}
use Rattle.std.specs.Vec.Iter.{into_iter_items, into_iter_len}
use Rattle.reg_tree.specs.declared.op.Op.{Op}
use Rattle.store_model.specs.Machine.{trees_now}
use Rattle.store_model.specs.Invariant.{AreLegalChanges}
use Rattle.store_driver.proofs.Later.{later_on}
use Rattle.store_change.specs.Commits.{FailsToCommit, InTransaction, StopsInTransaction}
use Rattle.std.proofs.lemmas.List.{append-nil}
use Rattle.store_change.proofs.NamedTrees.{named_legal}
use Rattle.store_change.proofs.Transacting.{keeps_on, legal_at, none_left}
use Rattle.store_change.proofs.Waiting.{accepts_on, wait_stops, waited_keeps, waited_durable}
use Rattle.store_change.proofs.whole.commit.Goals as goal

pub loop-op-init : goal.loop-op-init
loop-op-init g c =
    let long : into_iter_len c.into_iter-op-iterator.result ≡ length (into_iter_items c.into_iter-op-iterator.result) = search rules in
    (refl, c.in_ok-tx.ensures.begun c.args.moment, long, c.begin.ensures.later)

pub loop-op-preserved : goal.loop-op-preserved
loop-op-preserved g c =
    let D = g.D.Disk in
    let first = c.args.engine.now in
    let all : into_iter_items c.into_iter-op-iterator.result ≡ c.loop-op.yielded ++ c.in-Some.op ∷ into_iter_items c.next.new.self = c.loop-op.invariant.0 ∙ ap (λ xs. c.loop-op.yielded ++ xs) c.in-Some.ensures.steps.0 in
    let named = named_legal first.machine.bounds.hives (trees_now first.machine) c.args.ops.items c.args.moment c.requires.are_legal in
    let are_legal = subst (λ (ops : List Op). AreLegalChanges (trees_now first.machine) ops c.args.moment) (sym c.into_iter-op-iterator.ensures.into_iter_gives.0 ∙ all) named in (
      all ∙ sym (append_assoc c.loop-op.yielded (c.in-Some.op ∷ []) (into_iter_items c.next.new.self)),
      c.in_ok-add.ensures.added first.machine c.args.id c.loop-op.yielded c.loop-op.invariant.1 (legal_at (trees_now first.machine) c.args.moment c.loop-op.yielded c.in-Some.op (into_iter_items c.next.new.self) are_legal),
      omega (arith, c.loop-op.invariant.2, c.in-Some.ensures.steps.1, ap length c.in-Some.ensures.steps.0),
      later_on D.faithful D.failures first c.loop-op.engine c.add.new.engine c.loop-op.invariant.3 c.add.ensures.later,
    )

pub returns-in_err-add-clause-later : goal.returns-in_err-add-clause-later
returns-in_err-add-clause-later g c = later_on g.D.Disk.faithful g.D.Disk.failures c.args.engine.now c.loop-op.engine c.add.new.engine c.loop-op.invariant.3 c.add.ensures.later

pub returns-in_err-number-clause-later : goal.returns-in_err-number-clause-later
returns-in_err-number-clause-later g c = later_on g.D.Disk.faithful g.D.Disk.failures c.args.engine.now c.loop-op.engine c.accept.new.engine c.loop-op.invariant.3 c.accept.ensures.later

pub returns-in_err-wait-clause-later : goal.returns-in_err-wait-clause-later
returns-in_err-wait-clause-later g c = later_on g.D.Disk.faithful g.D.Disk.failures c.args.engine.now c.accept.new.engine c.wait.new.engine
    (later_on g.D.Disk.faithful g.D.Disk.failures c.args.engine.now c.loop-op.engine c.accept.new.engine c.loop-op.invariant.3 c.accept.ensures.later) c.wait.ensures.later

pub returns-clause-later : goal.returns-clause-later
returns-clause-later g c = later_on g.D.Disk.faithful g.D.Disk.failures c.args.engine.now c.accept.new.engine c.wait.new.engine
    (later_on g.D.Disk.faithful g.D.Disk.failures c.args.engine.now c.loop-op.engine c.accept.new.engine c.loop-op.invariant.3 c.accept.ensures.later) c.wait.ensures.later

pub returns-in_err-tx-clause-refused : goal.returns-in_err-tx-clause-refused
returns-in_err-tx-clause-refused g c =
    let fails : FailsToCommit c.args.engine.now.machine c.args.id c.args.moment c.args.ops.items _ c.begin.new.engine.machine = inl (c.in_err-tx.ensures.refused, inl c.in_err-tx.ensures.cause) in
    search rules

pub returns-in_err-add-clause-refused : goal.returns-in_err-add-clause-refused
returns-in_err-add-clause-refused g c =
    let first = c.args.engine.now.machine in
    let left = into_iter_items c.next.new.self in
    let all : into_iter_items c.into_iter-op-iterator.result ≡ c.loop-op.yielded ++ c.in-Some.op ∷ left = c.loop-op.invariant.0 ∙ ap (λ xs. c.loop-op.yielded ++ xs) c.in-Some.ensures.steps.0 in
    let stops : StopsInTransaction first c.args.id c.args.moment c.args.ops.items _ c.add.new.engine.machine =
    record {
      tx = c.in_ok-tx.tx;
      first = c.loop-op.yielded;
      left = c.in-Some.op ∷ left;
      whole = sym c.into_iter-op-iterator.ensures.into_iter_gives.0 ∙ all;
      mid = c.loop-op.engine.machine;
      has = c.loop-op.invariant.1;
      refuses = c.in_err-add.ensures.cause;
    } in
    let fails : FailsToCommit first c.args.id c.args.moment c.args.ops.items _ c.add.new.engine.machine = inl (keeps_on first c.loop-op.engine.machine c.add.new.engine.machine c.loop-op.invariant.1.keeps c.add.ensures.kept, inr stops) in
    search rules

pub returns-in_err-number-clause-refused : goal.returns-in_err-number-clause-refused
returns-in_err-number-clause-refused g c =
    let first = c.args.engine.now.machine in
    let whole : c.loop-op.yielded ≡ c.args.ops.items = sym (sym c.into_iter-op-iterator.ensures.into_iter_gives.0 ∙ c.loop-op.invariant.0 ∙ ap (λ xs. c.loop-op.yielded ++ xs) (none_left (into_iter_items c.loop-op.op-iterator) (sym c.loop-op.invariant.2 ∙ c.in-None.ensures.steps.0)) ∙ append-nil c.loop-op.yielded) in
    let stops : StopsInTransaction first c.args.id c.args.moment c.args.ops.items _ c.accept.new.engine.machine =
    record {
      tx = c.in_ok-tx.tx;
      first = c.loop-op.yielded;
      left = [];
      whole = sym (append-nil c.loop-op.yielded ∙ whole);
      mid = c.loop-op.engine.machine;
      has = c.loop-op.invariant.1;
      refuses = c.in_err-number.ensures.cause;
    } in
    let fails : FailsToCommit first c.args.id c.args.moment c.args.ops.items _ c.accept.new.engine.machine = inl (keeps_on first c.loop-op.engine.machine c.accept.new.engine.machine c.loop-op.invariant.1.keeps c.in_err-number.ensures.refused, inr stops) in
    search rules

pub returns-in_err-wait-clause-refused : goal.returns-in_err-wait-clause-refused
returns-in_err-wait-clause-refused g c =
    let whole : c.loop-op.yielded ≡ c.args.ops.items = sym (sym c.into_iter-op-iterator.ensures.into_iter_gives.0 ∙ c.loop-op.invariant.0 ∙ ap (λ xs. c.loop-op.yielded ++ xs) (none_left (into_iter_items c.loop-op.op-iterator) (sym c.loop-op.invariant.2 ∙ c.in-None.ensures.steps.0)) ∙ append-nil c.loop-op.yielded) in
    let first = c.args.engine.now.machine in
    let accepts = c.in_ok-number.ensures.accepted.1 first c.args.id c.args.ops.items (subst (λ (ops : List Op). InTransaction first c.args.id c.in_ok-tx.tx c.args.moment ops c.loop-op.engine.machine) whole c.loop-op.invariant.1) in
    let fails = wait_stops first c.accept.new.engine.machine c.wait.new.engine.machine c.args.id c.args.moment c.in_ok-number.number c.args.ops.items _ accepts.0 accepts.1 c.in_err-wait.ensures.waited in
    search rules

pub returns-clause-committed : goal.returns-clause-committed
returns-clause-committed g c =
    let whole : c.loop-op.yielded ≡ c.args.ops.items = sym (sym c.into_iter-op-iterator.ensures.into_iter_gives.0 ∙ c.loop-op.invariant.0 ∙ ap (λ xs. c.loop-op.yielded ++ xs) (none_left (into_iter_items c.loop-op.op-iterator) (sym c.loop-op.invariant.2 ∙ c.in-None.ensures.steps.0)) ∙ append-nil c.loop-op.yielded) in
    let accepts = c.in_ok-number.ensures.accepted.1 c.args.engine.now.machine c.args.id c.args.ops.items (subst (λ (ops : List Op). InTransaction c.args.engine.now.machine c.args.id c.in_ok-tx.tx c.args.moment ops c.loop-op.engine.machine) whole c.loop-op.invariant.1) in
    record {
      accepts = accepts_on c.args.engine.now.machine c.accept.new.engine.machine c.wait.new.engine.machine c.args.id c.args.moment c.args.ops.items accepts.0 (waited_keeps c.accept.new.engine.machine c.in_ok-number.number _ c.wait.new.engine.machine c.in_ok-wait.ensures.waited);
      numbered = accepts.1;
      durable = waited_durable c.accept.new.engine.machine c.in_ok-number.number c.wait.new.engine.machine c.in_ok-wait.ensures.waited;
    }
