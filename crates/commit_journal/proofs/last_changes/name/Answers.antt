use Rattle.std.proofs.Common.{◌∷◌, ℕ, sym, subst}
use Rattle.change_codec.specs.Changes.{hives_of}
use Rattle.commit_journal.proofs.Namings.{HasNamed, next_named, next_past, all_named}
use Rattle.commit_journal.proofs.last_changes.name.Goals as goal

pub loop-hive-preserved-then-place-last : goal.loop-hive-preserved-then-place-last
loop-hive-preserved-then-place-last c =
    let l = c.loop-hive in
    let was = c.args.last.now in
    let hives = hives_of c.args.change.now in
    let here = subst (HasNamed was c.args.number hives l.last) c.in-Some.ensures l.invariant in
    let there = subst (λ (h : ℕ). HasNamed was c.args.number hives l.last (h ∷ c.next.new.self)) (sym c.from-place.ensures) here in
    next_named was c.args.number hives l.last c.from-place.result c.next.new.self there c.if-place-last.true

pub loop-hive-preserved : goal.loop-hive-preserved
loop-hive-preserved c =
    let l = c.loop-hive in
    let was = c.args.last.now in
    let hives = hives_of c.args.change.now in
    let here = subst (HasNamed was c.args.number hives l.last) c.in-Some.ensures l.invariant in
    let there = subst (λ (h : ℕ). HasNamed was c.args.number hives l.last (h ∷ c.next.new.self)) (sym c.from-place.ensures) here in
    next_past was c.args.number hives l.last c.from-place.result c.next.new.self there c.if-place-last.false

pub returns-clause-named : goal.returns-clause-named
returns-clause-named c =
    let l = c.loop-hive in
    let change = c.args.change.now in
    all_named c.args.last.now c.args.number change.ops l.last (subst (HasNamed c.args.last.now c.args.number (hives_of change) l.last) c.in_default.ensures l.invariant)
