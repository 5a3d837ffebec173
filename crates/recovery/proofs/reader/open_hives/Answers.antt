use Rattle.std.proofs.Common.{◌<◌, ◌≤◌, ◌+◌, ◌∙◌, List, ◌∷◌, [], length, refl, sym, ap, subst, arith, length-append}
use Rattle.std.proofs.lemmas.Result.{err_from_is_err_and}
use Rattle.hive_flush.specs.declared.hive.HiveFile.{HiveFile}
use Rattle.recovery.specs.Reading.{AreOpened}
use Rattle.disk_model.proofs.Unwritten.{only_reads, reads_none, synced_still, syncs_on}
use Rattle.recovery.specs.Recovered.{seen_in}
use Rattle.recovery.specs.Repairs.{most_repairs, repairs_left}
use Rattle.recovery.proofs.Counting.{one_more_left}
use Rattle.disk_model.proofs.Unwritten.{seen_same}
use Rattle.recovery.proofs.Hives.{none_yet, one_more, refused}
use Rattle.recovery.proofs.reader.open_hives.Goals as goal

pub returns-in_err-hive-clause-fails : goal.returns-in_err-hive-clause-fails
returns-in_err-hive-clause-fails g c =
    let p = err_from_is_err_and c.from_residual-in_err-hive.result c.from_residual-in_err-hive.ensures.1 in
    let l = c.loop-place in
    let i = l.invariant in
    let D = g.D.Disk in
    rw (p.1, p.2) (refused (D.faithful l.disk) (D.faithful c.open.new.disk) c.open.ensures.faithful c.args.store (D.state_at c.args.disk.now (D.clock c.args.disk.now)) (D.state_at l.disk (D.clock l.disk)) (D.state_at c.open.new.disk (D.clock c.open.new.disk)) l.hives.items i.opened
    l.place i.many c.open.ensures.others (λ faithful. synced_still (c.open.ensures.synced faithful)) c.args.count c.in_err-hive.field-0.0 (D.failures l.disk < D.failures c.open.new.disk) (D.failures c.args.disk.now < D.failures c.open.new.disk)
    (λ rose. omega (arith, rose, i.failures)) (omega arith) c.in_err-hive.ensures.fails)

pub returns-in_err-hive-clause-synced : goal.returns-in_err-hive-clause-synced
returns-in_err-hive-clause-synced g c =
    λ faithful. syncs_on _ _ _ _ _ _ (c.loop-place.invariant.synced (c.open.ensures.faithful faithful)) (c.open.ensures.synced faithful)

pub push_reserved-requires : goal.push_reserved-requires
push_reserved-requires g c = let i = c.loop-place.invariant in omega (arith, i.many, i.room)

pub loop-place-init : goal.loop-place-init
loop-place-init g c =
    let D = g.D.Disk in
    record {
      many = ap (λ (l : List HiveFile). length l) c.in_ok-hives.ensures.items;
      room = omega (arith, c.in_ok-hives.ensures.capacity, c.from.ensures);
      opened = subst (AreOpened (D.faithful c.args.disk.now) c.args.store (D.state_at c.args.disk.now (D.clock c.args.disk.now)) (D.state_at c.args.disk.now (D.clock c.args.disk.now))) (sym c.in_ok-hives.ensures.items)
          (none_yet (D.faithful c.args.disk.now) c.args.store (D.state_at c.args.disk.now (D.clock c.args.disk.now)));
      synced = λ faithful. only_reads _ _ _ _ (reads_none (D.state_at c.args.disk.now) (D.clock c.args.disk.now));
      few = λ faithful. omega (arith, ap repairs_left c.in_ok-hives.ensures.items);
      time = record { later = omega arith; past = λ k f le. refl };
      failures = omega arith;
      faithful = λ f. f;
    }

pub loop-place-preserved : goal.loop-place-preserved
loop-place-preserved g c =
    let l = c.loop-place in
    let i = l.invariant in
    let o = c.open.ensures in
    let D = g.D.Disk in
    let then = D.state_at c.args.disk.now (D.clock c.args.disk.now) in
    let now = D.state_at c.open.new.disk (D.clock c.open.new.disk) in
    record {
      many = ap (λ (l : List HiveFile). length l) c.push_reserved.ensures.items ∙ length-append l.hives.items (c.in_ok-hive.hive ∷ []) ∙ omega (arith, i.many);
      room = omega (arith, i.room, c.push_reserved.ensures.capacity);
      opened = subst (AreOpened (D.faithful c.open.new.disk) c.args.store then now) (sym c.push_reserved.ensures.items)
          (one_more (D.faithful l.disk) (D.faithful c.open.new.disk) o.faithful c.args.store then (D.state_at l.disk (D.clock l.disk)) now l.hives.items i.opened l.place i.many o.others (λ faithful. synced_still (o.synced faithful))
          c.in_ok-hive.hive c.in_ok-hive.ensures.settled c.in_ok-hive.ensures.place c.in_ok-hive.ensures.store c.in_ok-hive.ensures.sound c.in_ok-hive.ensures.held c.in_ok-hive.ensures.on);
      synced = λ faithful. syncs_on _ _ _ _ _ _ (i.synced (o.faithful faithful)) (o.synced faithful);
      few = λ faithful. subst (λ (hs : List HiveFile). repairs_left hs ≤ most_repairs (seen_in then) (l.place + 1)) (sym c.push_reserved.ensures.items)
          (one_more_left then (D.state_at l.disk (D.clock l.disk)) l.hives.items l.place c.in_ok-hive.hive (λ f. seen_same (then f) (D.state_at l.disk (D.clock l.disk) f) (i.opened.files (o.faithful faithful) f)) (i.few (o.faithful faithful)) (c.in_ok-hive.ensures.repairs faithful));
      time = record {
        later = omega (arith, i.time.later, o.time.later);
        past = λ k f le. o.time.past k f (omega (arith, le, i.time.later)) ∙ i.time.past k f le;
      };
      failures = omega (arith, i.failures, o.failures);
      faithful = λ f. i.faithful (o.faithful f);
    }
