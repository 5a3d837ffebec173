-- Parts of a run, and what is printed between them.
use Rattle.std.proofs.Common.{◌≡◌, ℕ, Bool, true, List, [], ◌∷◌, ◌++◌, Option, Some, None, Result, Ok, Err, refl, sym, subst, ◌∙◌}
use Rattle.std.proofs.lemmas.List.{append-nil}
use Rattle.std.specs.Io.KnownBytes.{Appends, Keeps}
use Rattle.refusals.specs.Refusals.{refusal_text}
use Rattle.refusals.specs.declared.refusal.Refusal.{Refusal}
use Rattle.reg_tree.specs.Maps.{TreeMap}
use Rattle.reply_lines.specs.declared.status.Status.{Status}
use Rattle.reply_lines.specs.declared.status.Status.TheVariants.{Refused}
use Rattle.script_loop.specs.Lines.{WereRead, lines_of}
use Rattle.engine_invariant.specs.Engines.{EngineView}
use Rattle.histories.specs.Points.{HistoryEntry}
use Rattle.registry_runner.specs.Plays.{IsPlayedOn}
use Rattle.registry_runner.specs.Parts.{Part, start_text}
use Rattle.registry_lines.specs.Scripts.{Script}
use Rattle.registry_runner.specs.declared.parts.PartKind.TheVariants.{Continued}

-- nothing is written
pub kept_by_nothing : (old new : Option (List ℕ)) → Appends old new [] → Keeps old new
kept_by_nothing None new a = tt
kept_by_nothing (Some xs) None a = absurd a
kept_by_nothing (Some xs) (Some ys) a = a ∙ append-nil xs

-- of a part that goes on unasked nothing is printed
pub continued_text : (next : Result Part Refusal) → start_text Continued next ≡ []
continued_text (Ok part) = refl
continued_text (Err why) = refl

-- a part of these trees and this number
abbrev pub part : List HistoryEntry → Bool → EngineView → List TreeMap → ℕ → ℕ → Script → Part
part past sole origin trees number hives script = record { past = past; sole = sole; start = origin; trees = trees; number = number; hives = hives; script = script }

nothing_read : (known : Option (List ℕ)) → WereRead known [] None
nothing_read None = tt
nothing_read (Some bytes) = (lines_of bytes, refl)

-- no part follows: the reason is the last line
pub stopped : (whole : List HistoryEntry) (limit : ℕ) (can_read : Bool) (why : Refusal) (number : ℕ) (known before after : Option (List ℕ)) (status : Status) → can_read ≡ true → Appends before after (refusal_text why ++ 10 ∷ []) → status ≡ Refused → IsPlayedOn whole limit can_read (Err why) number known before after status (Err why)
stopped whole limit can_read why number known before after status can written refused =
    subst (λ (b : Bool). IsPlayedOn whole limit b (Err why) number known before after status (Err why)) (sym can)
    ([], None, refusal_text why ++ 10 ∷ [], nothing_read known, (record { last = refl; stopped = refl; printed = refl; refused = refused }, refl), written)
