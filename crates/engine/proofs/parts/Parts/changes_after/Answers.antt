use Rattle.std.proofs.Common.{◌∙◌}
use Rattle.engine.specs.EarlierChanges.{changes_before}
use Rattle.engine.proofs.Discarding.{retained_after}
use Rattle.engine.proofs.parts.Parts.changes_after.Goals as goal

pub returns-then-number-retained-clause-gone : goal.returns-then-number-retained-clause-gone
returns-then-number-retained-clause-gone g c =
    let parts = c.args.self.now in
    let own = c.requires.sound.retained in
    let within = c.requires.sound.holds.kept.kept.within in
    retained_after parts.store.machine parts.base (changes_before parts.earlier) parts.hives.items c.args.number c.retained-retained.result own.gone c.if-number-retained.true (c.retained-retained.ensures ∙ own.accepted_are)
    within.opened within.known own.high own.lacked
