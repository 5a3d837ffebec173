use Rattle.std.proofs.Common.{map}
use Rattle.std.proofs.lemmas.Option.{IfSome_then}
use Rattle.engine_invariant.specs.Prefixes.{view_of}
use Rattle.engine.specs.EarlierChanges.{changes_before}
use Rattle.engine.proofs.Around.{as_many, found_behind, found_around, none_around, none_then}
use Rattle.engine.proofs.parts.Parts.hive_with_work.Goals as goal

pub returns-in-Some-clause-some : goal.returns-in-Some-clause-some
returns-in-Some-clause-some g c =
    let s = c.args.self.now in
    let place = c.place_behind-next.ensures in
    let many = as_many view_of s.hives.items c.all_hives-count.result _ c.all_hives-count.ensures c.requires.sound.holds.many in
    found_behind s.store.machine s.base (changes_before s.earlier) (map view_of s.hives.items) c.args.after c.place_behind-next.result c.all_hives-count.result many place.behind place.before place.from c.in-Some.hive c.in-Some.ensures.some

pub returns-in-None-clause-some : goal.returns-in-None-clause-some
returns-in-None-clause-some g c =
    let s = c.args.self.now in
    let place = c.place_behind-next.ensures in
    let found = c.first_with_work-in-None in
    let many = as_many view_of s.hives.items c.all_hives-count.result _ c.all_hives-count.ensures c.requires.sound.holds.many in
    IfSome_then found.result found.ensures.some (λ hive told.
    found_around s.store.machine s.base (changes_before s.earlier) (map view_of s.hives.items) c.args.after c.place_behind-next.result c.all_hives-count.result many place.behind place.before place.from place.within c.in-None.ensures.none hive (told.1, told.2, told.3))

pub returns-in-None-clause-none : goal.returns-in-None-clause-none
returns-in-None-clause-none g c =
    let s = c.args.self.now in
    let found = c.first_with_work-in-None in
    let many = as_many view_of s.hives.items c.all_hives-count.result _ c.all_hives-count.ensures c.requires.sound.holds.many in
    none_then found.result found.ensures.none (none_around s.store.machine s.base (changes_before s.earlier) (map view_of s.hives.items) c.args.after c.place_behind-next.result c.all_hives-count.result many c.in-None.ensures.none)
