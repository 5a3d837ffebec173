use Rattle.std.proofs.Common.{◌∙◌, ap, arith, refl, sym}
use Rattle.std.proofs.lemmas.Bool.{le-ltb, ltb-false, true≢false}
use Rattle.hive_flush.specs.HiveStates.{file_choice}
use Rattle.hive_flush.specs.declared.hive.HiveFile.{HiveFile}
use Rattle.engine.specs.EarlierChanges.{changes_before}
use Rattle.engine.proofs.Sound.{at_place, same_hive}
use Rattle.engine.proofs.Idling.{flush_goes_on, flush_idles, has_all, rests_on}
use Rattle.engine.proofs.parts.Parts.has_work.Goals as goal

pub returns-then-not-is_at_rest : goal.returns-then-not-is_at_rest
returns-then-not-is_at_rest g c =
    let s = c.args.self.now in
    let there = at_place s.hives.items c.args.place c.index.result.now c.requires.there c.index.ensures in
    flush_goes_on s.store.machine s.base (changes_before s.earlier) s.hives.items c.args.place c.index.result.now there
    (λ rests. true≢false (sym (c.is_at_rest.ensures.not_idle (c.requires.sound.holds.whole c.args.place c.index.result.now there) rests) ∙ c.if-not-is_at_rest.true)) true≢false

pub returns : goal.returns
returns g c =
    let s = c.args.self.now in
    let last_changes = c.requires.sound.last_changes in
    let there = at_place s.hives.items c.args.place c.index.result.now c.requires.there c.index.ensures in
    let last = at_place s.last_changes.last.items c.args.place c.index-3.result.now (omega (arith, c.requires.there, c.requires.sound.named)) c.index-3.ensures in
    flush_idles s.store.machine s.base (changes_before s.earlier) s.last_changes.last.items last_changes s.hives.items c.args.place c.index.result.now there (c.if-not-is_at_rest.ensures.rest refl) (
      λ e. rests_on s.store.machine s.base (changes_before s.earlier) s.last_changes.last.items last_changes s.hives.items c.args.place c.index-3.result.now c.applied.result c.index-2.result.now c.index.result.now (at_place s.hives.items c.args.place c.index-2.result.now c.requires.there c.index-2.ensures) there
          last c.applied.ensures (ltb-false c.applied.result c.index-3.result.now e),
      λ has.
          let le = (has_all s.store.machine s.base (changes_before s.earlier) s.last_changes.last.items last_changes c.args.place c.index-3.result.now c.index.result.now last).0 has in
          let same = same_hive s.hives.items c.args.place c.index-2.result.now c.index.result.now (at_place s.hives.items c.args.place c.index-2.result.now c.requires.there c.index-2.ensures) there in
          le-ltb c.applied.result c.index-3.result.now (omega (arith, le, c.applied.ensures, ap (λ (h : HiveFile). (file_choice h).now.1) same)),
    )
