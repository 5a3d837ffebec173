use Rattle.commit_journal.specs.Numbered.{changes_in}
use Rattle.std.proofs.Common.{◌≡◌, ◌∙◌, ◌-◌, ◌++◌, max, sym, ap, arith, take}
use Rattle.std.proofs.lemmas.List.{length-set}
use Rattle.hive_flush.specs.HiveStates.{tree_after_changes, memory_of, hive_number}
use Rattle.engine_invariant.proofs.HiveLists.{get_other}
use Rattle.engine.specs.EarlierChanges.{changes_before}
use Rattle.recovery.specs.Retained.{above_number, numbered_changes}
use Rattle.engine.proofs.Advancing.{takes_at}
use Rattle.engine.proofs.Sound.{at_place, same_hive}
use Rattle.engine.proofs.RetainedChanges.{hand_takes, retained_ascend, taken_memory}
use Rattle.engine.proofs.OnDisk.{hive_moves}
use Rattle.engine.proofs.Taking.{up, lawful, taken, accepted_is, handed_ops}
use Rattle.engine.proofs.parts.Parts.absorb.Goals as goal

pub above-requires-clause-there : goal.above-requires-clause-there
above-requires-clause-there g c =
    let s = c.args.self.now in
    let is = at_place s.hives.items c.args.place c.index.result.now c.requires.there c.index.ensures in
    let le = up s.store s.base (changes_before s.earlier) s.journal s.hives.items c.requires.sound.holds c.requires.works c.args.place c.index.result.now is c.hive_steps_keep.ensures.lacks in
    let since = c.requires.sound.holds.kept.kept.within.opened in
    let hand = c.requires.sound.retained in
    omega (arith, le, since, hand.high, hand.accepted_are, c.durable-durable.ensures.durable, c.durable-durable.ensures.known, c.retained-retained.ensures, c.number-number.ensures, c.max-from.ensures)

pub overflow_sub-accepted : goal.overflow_sub-accepted
overflow_sub-accepted g c =
    let s = c.args.self.now in
    let is = at_place s.hives.items c.args.place c.index.result.now c.requires.there c.index.ensures in
    let le = up s.store s.base (changes_before s.earlier) s.journal s.hives.items c.requires.sound.holds c.requires.works c.args.place c.index.result.now is c.hive_steps_keep.ensures.lacks in
    let since = c.requires.sound.holds.kept.kept.within.opened in
    let hand = c.requires.sound.retained in
    omega (arith, le, since, hand.high, hand.accepted_are, c.durable-durable.ensures.durable, c.retained-retained.ensures, c.number-number.ensures, c.max-from.ensures)

pub absorb-requires-clause-whole : goal.absorb-requires-clause-whole
absorb-requires-clause-whole g c = c.requires.sound.holds.whole c.args.place c.index_mut.result.now (at_place c.args.self.now.hives.items c.args.place c.index_mut.result.now c.requires.there c.index_mut.ensures.value)

pub absorb-requires-clause-rest : goal.absorb-requires-clause-rest
absorb-requires-clause-rest g c = c.requires.rest c.index_mut.result.now (at_place c.args.self.now.hives.items c.args.place c.index_mut.result.now c.requires.there c.index_mut.ensures.value)

pub absorb-requires-clause-ahead : goal.absorb-requires-clause-ahead
absorb-requires-clause-ahead g c =
    let s = c.args.self.now in
    let is = at_place s.hives.items c.args.place c.index_mut.result.now c.requires.there c.index_mut.ensures.value in
    let le = up s.store s.base (changes_before s.earlier) s.journal s.hives.items c.requires.sound.holds c.requires.works c.args.place c.index_mut.result.now is c.hive_steps_keep.ensures.lacks in
    omega (arith, le, c.durable-durable.ensures.durable)

pub returns-clause-sound : goal.returns-clause-sound
returns-clause-sound g c =
    let s = c.args.self.now in
    let m = s.store.machine in
    let hand = c.requires.sound.retained in
    let kept = c.requires.sound.holds.kept in
    let old = c.index_mut.result.now in
    let is = at_place s.hives.items c.args.place old c.requires.there c.index_mut.ensures.value in
    let at = at_place s.hives.items c.args.place c.index.result.now c.requires.there c.index.ensures in
    let same = same_hive s.hives.items c.args.place c.index.result.now old at is in
    let le = up s.store s.base (changes_before s.earlier) s.journal s.hives.items c.requires.sound.holds c.requires.works c.args.place old is c.hive_steps_keep.ensures.lacks in
    let handed = c.above-opened.result.now in
    let rest = take (c.durable-durable.result - c.max-from.result) c.above.result.now in
    let es = handed ++ rest in
    let number : c.number-number.result ≡ (memory_of old).1 = c.number-number.ensures ∙ ap (λ h. (memory_of h).1) same in
    let opened : handed ≡ changes_in (above_number (memory_of old).1 (numbered_changes s.opened)) = c.above-opened.ensures (retained_ascend s.store s.base (changes_before s.earlier) (numbered_changes s.opened) s.hives.items hand) ∙ ap (λ n. changes_in (above_number n (numbered_changes s.opened))) number in
    let from : c.max-from.result ≡ max (max hand.gone (memory_of old).1) m.before = omega (arith, c.max-from.ensures, number, c.retained-retained.ensures, hand.accepted_are) in
    let accepted = ap (take (c.durable-durable.result - c.max-from.result)) c.above.ensures.changes ∙ accepted_is m (max hand.gone (memory_of old).1) c.max-from.result c.durable-durable.result from c.durable-durable.ensures.durable (omega (arith, le, hand.high)) kept.kept.within.opened in
    let ops = handed_ops s.store s.base (changes_before s.earlier) s.journal s.hives.items c.requires.sound.holds c.requires.works c.args.place old is c.hive_steps_keep.ensures.above (numbered_changes s.opened) hand le handed rest opened accepted in
    record {
      holds = taken s.store s.base (changes_before s.earlier) s.journal s.hives.items c.requires.sound.holds c.requires.works c.args.place old is c.hive_steps_keep.ensures.takes c.hive_steps_keep.ensures.step c.absorb.new.self es c.durable-durable.result c.absorb.result
          c.absorb.ensures.files (c.requires.rest old is) c.durable-durable.ensures.durable ops c.absorb.ensures.memory c.absorb.ensures.err c.absorb.ensures.place c.absorb.ensures.store c.absorb.ensures.whole c.absorb.ensures.sound;
      last_changes = c.requires.sound.last_changes;
      named = c.requires.sound.named ∙ sym (length-set s.hives.items c.args.place c.absorb.new.self);
      retained = hand_takes s.store s.base (changes_before s.earlier) (numbered_changes s.opened) s.hives.items c.args.place old c.absorb.new.self is (taken_memory c.absorb.result s.store.machine old c.absorb.new.self c.durable-durable.result (tree_after_changes (hive_number old) es (memory_of old).0) le c.durable-durable.ensures.durable c.absorb.ensures.memory c.absorb.ensures.err) hand;
    }

pub returns-clause-on_disk : goal.returns-clause-on_disk
returns-clause-on_disk g c =
    let s = c.args.self.now in
    let is = at_place s.hives.items c.args.place c.index_mut.result.now c.requires.there c.index_mut.ensures.value in
    λ state on. hive_moves s.journal s.hives.items c.args.place c.index_mut.result.now c.absorb.new.self state is on c.absorb.ensures.on

pub returns-clause-refused : goal.returns-clause-refused
returns-clause-refused g c =
    let s = c.args.self.now in
    let m = s.store.machine in
    let hand = c.requires.sound.retained in
    let kept = c.requires.sound.holds.kept in
    let old = c.index_mut.result.now in
    let is = at_place s.hives.items c.args.place old c.requires.there c.index_mut.ensures.value in
    let at = at_place s.hives.items c.args.place c.index.result.now c.requires.there c.index.ensures in
    let same = same_hive s.hives.items c.args.place c.index.result.now old at is in
    let le = up s.store s.base (changes_before s.earlier) s.journal s.hives.items c.requires.sound.holds c.requires.works c.args.place old is c.hive_steps_keep.ensures.lacks in
    let handed = c.above-opened.result.now in
    let rest = take (c.durable-durable.result - c.max-from.result) c.above.result.now in
    let es = handed ++ rest in
    let number : c.number-number.result ≡ (memory_of old).1 = c.number-number.ensures ∙ ap (λ h. (memory_of h).1) same in
    let opened : handed ≡ changes_in (above_number (memory_of old).1 (numbered_changes s.opened)) = c.above-opened.ensures (retained_ascend s.store s.base (changes_before s.earlier) (numbered_changes s.opened) s.hives.items hand) ∙ ap (λ n. changes_in (above_number n (numbered_changes s.opened))) number in
    let from : c.max-from.result ≡ max (max hand.gone (memory_of old).1) m.before = omega (arith, c.max-from.ensures, number, c.retained-retained.ensures, hand.accepted_are) in
    let accepted = ap (take (c.durable-durable.result - c.max-from.result)) c.above.ensures.changes ∙ accepted_is m (max hand.gone (memory_of old).1) c.max-from.result c.durable-durable.result from c.durable-durable.ensures.durable (omega (arith, le, hand.high)) kept.kept.within.opened in
    let ops = handed_ops s.store s.base (changes_before s.earlier) s.journal s.hives.items c.requires.sound.holds c.requires.works c.args.place old is c.hive_steps_keep.ensures.above (numbered_changes s.opened) hand le handed rest opened accepted in
    c.absorb.ensures.legal (lawful s.store s.base (changes_before s.earlier) s.journal s.hives.items c.requires.sound.holds c.requires.works c.args.place old is c.hive_steps_keep.ensures.lacks es ops)

pub returns-clause-others : goal.returns-clause-others
returns-clause-others g c = λ i no. get_other c.args.self.now.hives.items c.args.place i c.absorb.new.self no

pub returns-clause-taken : goal.returns-clause-taken
returns-clause-taken g c = λ was then at there.
    let s = c.args.self.now in
    let old = c.index_mut.result.now in
    let is = at_place s.hives.items c.args.place old c.requires.there c.index_mut.ensures.value in
    takes_at s.hives.items c.args.place old c.absorb.new.self was then is at there c.requires.there c.absorb.result c.durable-durable.result s.store.machine.durable _ c.absorb.ensures.files c.absorb.ensures.memory c.durable-durable.ensures.durable
