use Rattle.std.proofs.Common.{refl, subst, sym}
use Rattle.recovery.specs.Invariant.{AreWhole}
use Rattle.recovery.specs.Shown.{Shown}
use Rattle.engine_invariant.proofs.HiveLists.{at_slot}
use Rattle.recovery.proofs.Counting.{fewer_shown, some_left, as_journal_damage}
use Rattle.recovery.proofs.Crashes.{after_call, before_call, no_call}
use Rattle.recovery.proofs.opened.Opened.repair_step.Goals as goal

pub returns-then-self-clause-before : goal.returns-then-self-clause-before
returns-then-self-clause-before g c = no_call g.D.Disk.state_at g.D.Disk.clock g.D.Disk.faithful c.openings_begin.ensures c.crashes_leave_prefixes.ensures.safe _ c.args.self.now c.self.view_is c.self.invariant.kept c.self.invariant.on_disk

pub returns-then-self-clause-after : goal.returns-then-self-clause-after
returns-then-self-clause-after g c = no_call g.D.Disk.state_at g.D.Disk.clock g.D.Disk.faithful c.openings_begin.ensures c.crashes_leave_prefixes.ensures.safe _ c.args.self.now c.self.view_is c.self.invariant.kept c.self.invariant.on_disk

pub returns-in_default-clause-before : goal.returns-in_default-clause-before
returns-in_default-clause-before g c = no_call g.D.Disk.state_at g.D.Disk.clock g.D.Disk.faithful c.openings_begin.ensures c.crashes_leave_prefixes.ensures.safe _ c.args.self.now c.self.view_is c.self.invariant.kept c.self.invariant.on_disk

pub returns-in_default-clause-after : goal.returns-in_default-clause-after
returns-in_default-clause-after g c = no_call g.D.Disk.state_at g.D.Disk.clock g.D.Disk.faithful c.openings_begin.ensures c.crashes_leave_prefixes.ensures.safe _ c.args.self.now c.self.view_is c.self.invariant.kept c.self.invariant.on_disk

pub returns-in-Err-clause-before : goal.returns-in-Err-clause-before
returns-in-Err-clause-before g c = before_call g.D.Disk.state_at g.D.Disk.clock g.D.Disk.faithful c.openings_begin.ensures c.crashes_leave_prefixes.ensures.safe _ c.args.self.now c.self.view_is c.self.invariant.kept c.self.invariant.on_disk c.repair.new.disk c.repair.ensures.faithful c.repair.ensures.call.past

pub returns-in-Err-clause-after : goal.returns-in-Err-clause-after
returns-in-Err-clause-after g c = after_call g.D.Disk.state_at g.D.Disk.clock g.D.Disk.faithful c.openings_begin.ensures c.crashes_leave_prefixes.ensures.safe _ c.args.self.now c.self.view_is c.self.invariant.kept c.self.invariant.on_disk c.repair.new.disk c.repair.new.self c.repair.ensures.faithful c.repair.ensures.rest c.repair.ensures.kept c.repair.ensures.on_disk

pub returns-clause-before : goal.returns-clause-before
returns-clause-before g c = before_call g.D.Disk.state_at g.D.Disk.clock g.D.Disk.faithful c.openings_begin.ensures c.crashes_leave_prefixes.ensures.safe _ c.args.self.now c.self.view_is c.self.invariant.kept c.self.invariant.on_disk c.repair.new.disk c.repair.ensures.faithful c.repair.ensures.call.past

pub returns-clause-after : goal.returns-clause-after
returns-clause-after g c = after_call g.D.Disk.state_at g.D.Disk.clock g.D.Disk.faithful c.openings_begin.ensures c.crashes_leave_prefixes.ensures.safe _ c.args.self.now c.self.view_is c.self.invariant.kept c.self.invariant.on_disk c.repair.new.disk c.repair.new.self c.repair.ensures.faithful c.repair.ensures.rest c.repair.ensures.kept c.repair.ensures.on_disk

pub returns-clause-fewer : goal.returns-clause-fewer
returns-clause-fewer g c = λ not.
    let hives = c.self.inside.found.hives.items in
    let first = c.in-Some.ensures.some c.in-Some.place refl in
    let at = at_slot hives c.in-Some.place first.0 in
    fewer_shown _ c.args.self.now c.self.view_is _ (as_journal_damage c.repair.result c.in_default-repair.not-Err c.repair.ensures.fewer at.0 at.1 (first.1 at.0 at.1))

pub returns-in-Err-clause-at_rest : goal.returns-in-Err-clause-at_rest
returns-in-Err-clause-at_rest g c = λ whole.
    let first = c.in-Some.ensures.some c.in-Some.place refl in
    absurd (some_left c.self.inside.found.hives.items c.in-Some.place first.0 first.1 (subst (λ (s : Shown _). AreWhole s.found.hives.items) (sym c.self.view_is) whole.0))

pub returns-clause-at_rest : goal.returns-clause-at_rest
returns-clause-at_rest g c = λ whole.
    let first = c.in-Some.ensures.some c.in-Some.place refl in
    absurd (some_left c.self.inside.found.hives.items c.in-Some.place first.0 first.1 (subst (λ (s : Shown _). AreWhole s.found.hives.items) (sym c.self.view_is) whole.0))
