-- Lines of a kind.
use Rattle.std.proofs.Common.{◌≡◌, ◌⊎◌, ℕ, Bool, List, Some, inl, inr, refl, subst, sym}
use Rattle.refusals.specs.declared.refusal.Refusal.{Refusal}
use Rattle.reg_tree.specs.Maps.{TreeMap}
use Rattle.reply_lines.specs.declared.reply.ReplyLine.{ReplyLine}
use Rattle.reply_lines.specs.declared.reply.ReplyLine.TheVariants.{Refused}
use Rattle.script_runner.specs.Scripts.{later_line}
use Rattle.script_syntax.specs.declared.label.Label.{Label}
use Rattle.script_syntax.specs.declared.line.Line.{Line}
use Rattle.script_syntax.specs.declared.line.Line.TheVariants as line
use Rattle.engine_invariant.specs.Engines.{EngineView}
use Rattle.registry_lines.specs.Scripts.{Answers, Script}
use Rattle.store_server.specs.Served.{AnswersKind, AnswersServed, IsBeginRefusal, kind_of}
use Rattle.store_server.specs.declared.served_kind.ServedKind.TheVariants.{Begin, Kept}

kept_line : (asked : Line) (id : List ℕ) → kind_of asked ≡ Kept id → asked ≡ line.Kept id
kept_line (line.Hives n) id e = absurd (let no : ⊥ = cc in no)
kept_line (line.History n) id e = absurd (let no : ⊥ = cc in no)
kept_line (line.At n) id e = absurd (let no : ⊥ = cc in no)
kept_line (line.Session n) id e = absurd (let no : ⊥ = cc in no)
kept_line (line.End n) id e = absurd (let no : ⊥ = cc in no)
kept_line (line.Plain r) id e = absurd (let no : ⊥ = cc in no)
kept_line (line.Inside l r) id e = absurd (let no : ⊥ = cc in no)
kept_line (line.Begin l other) id e = absurd (let no : ⊥ = cc in no)
kept_line (line.Commit l) id e = absurd (let no : ⊥ = cc in no)
kept_line (line.Rollback l) id e = absurd (let no : ⊥ = cc in no)
kept_line (line.Close l) id e = absurd (let no : ⊥ = cc in no)
kept_line (line.Outcome l) id e = absurd (let no : ⊥ = cc in no)
kept_line (line.Kept other) id e = cc
kept_line line.Flush id e = absurd (let no : ⊥ = cc in no)
kept_line line.Fold id e = absurd (let no : ⊥ = cc in no)
kept_line (line.Served s) id e = absurd (let no : ⊥ = cc in no)
kept_line (line.Lab s) id e = absurd (let no : ⊥ = cc in no)

begin_line : (asked : Line) (label : Label) (id : List ℕ) → kind_of asked ≡ Begin label id → asked ≡ line.Begin label id
begin_line (line.Hives n) label id e = absurd (let no : ⊥ = cc in no)
begin_line (line.History n) label id e = absurd (let no : ⊥ = cc in no)
begin_line (line.At n) label id e = absurd (let no : ⊥ = cc in no)
begin_line (line.Session n) label id e = absurd (let no : ⊥ = cc in no)
begin_line (line.End n) label id e = absurd (let no : ⊥ = cc in no)
begin_line (line.Plain r) label id e = absurd (let no : ⊥ = cc in no)
begin_line (line.Inside l r) label id e = absurd (let no : ⊥ = cc in no)
begin_line (line.Begin l other) label id e = cc
begin_line (line.Commit l) label id e = absurd (let no : ⊥ = cc in no)
begin_line (line.Rollback l) label id e = absurd (let no : ⊥ = cc in no)
begin_line (line.Close l) label id e = absurd (let no : ⊥ = cc in no)
begin_line (line.Outcome l) label id e = absurd (let no : ⊥ = cc in no)
begin_line (line.Kept other) label id e = absurd (let no : ⊥ = cc in no)
begin_line line.Flush label id e = absurd (let no : ⊥ = cc in no)
begin_line line.Fold label id e = absurd (let no : ⊥ = cc in no)
begin_line (line.Served s) label id e = absurd (let no : ⊥ = cc in no)
begin_line (line.Lab s) label id e = absurd (let no : ⊥ = cc in no)

module _ (sole : Bool) (origin : EngineView) (trees : List TreeMap) (number hives : ℕ) where
  -- a line of these kinds is one of a script, and is answered as such
  pub kept_told : (old : Script) (asked : Line) (id : List ℕ) (reported : ReplyLine) (new : Script) → kind_of asked ≡ Kept id → AnswersKind (Kept id) sole origin trees number hives old asked reported new → (later_line (Some asked) ≡ Some asked) × AnswersServed sole origin trees number hives old asked reported new
  kept_told old asked id reported new e tells = subst (λ (l : Line). (later_line (Some l) ≡ Some l) × AnswersServed sole origin trees number hives old l reported new) (sym (kept_line asked id e)) (refl, tells)

  pub begin_told : (old : Script) (asked : Line) (label : Label) (id : List ℕ) (reported : ReplyLine) (new : Script) → kind_of asked ≡ Begin label id → Answers sole origin trees number hives old (line.Begin label id) reported new ⊎ ((why : Refusal) × IsBeginRefusal why × (reported ≡ Refused why) × (new ≡ old)) → (later_line (Some asked) ≡ Some asked) × AnswersServed sole origin trees number hives old asked reported new
  begin_told old asked label id reported new e tells = subst (λ (l : Line). (later_line (Some l) ≡ Some l) × AnswersServed sole origin trees number hives old l reported new) (sym (begin_line asked label id e)) (refl, elim tells [ inl a ↦ inl a | inr b ↦ inr (b.0, b.1, (b.2, b.3)) ])
