use Rattle.std.proofs.Common.{◌≡◌, ◌⊎◌, subst, Bool, Ok}
use Rattle.refusals.specs.declared.refusal.Refusal.TheVariants.{NoMemory}
use Rattle.hive_records.specs.Values.{value_at}
use Rattle.hive_load_parts.specs.CellReads.{marks_of}
use Rattle.hive_lookup.specs.Lookups.{IsUnreadFor}
use Rattle.hive_lookup.proofs.Unread.{refused_unread}
use Rattle.hive_lookup.proofs.values.value_of.Goals as goal

pub returns-in-Ok : goal.returns-in-Ok
returns-in-Ok c = λ cells shows. subst (λ (s : Bool). (value_at s c.args.at cells).says ≡ Ok c.in-Ok.its) c.has_segments.ensures (c.in-Ok.ensures.reads cells shows).0

pub returns : goal.returns
returns c = λ cells shows. subst (λ (s : Bool). (c.in-Err.refusal ≡ NoMemory) ⊎ IsUnreadFor (value_at s c.args.at cells) c.in-Err.refusal) c.has_segments.ensures
    (refused_unread (value_at c.has_segments.result c.args.at) cells (marks_of c.in_ok-seen.seen) (marks_of c.value.new.seen) c.in-Err.refusal c.in_ok-seen.ensures.unset (c.in-Err.ensures.reads cells shows))
