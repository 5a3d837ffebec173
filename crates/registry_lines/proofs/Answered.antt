-- The answer to a line, whichever line it is.
use Rattle.std.proofs.Common.{Bool, ◌≡◌, ℕ, List, Some, Result, Ok, Err, sym, ◌∙◌, subst}
use Rattle.std.specs.Prelude.{IfErr, IfOk}
use Rattle.refusals.specs.declared.refusal.Refusal.{Refusal}
use Rattle.reg_tree.specs.Maps.{TreeMap}
use Rattle.script_syntax.specs.declared.line.Line.{Line}
use Rattle.reply_lines.specs.declared.reply.ReplyLine.{ReplyLine}
use Rattle.reply_lines.specs.declared.reply.ReplyLine.TheVariants.{Refused}
use Rattle.script_runner.specs.Scripts.{later_line}
use Rattle.engine_invariant.specs.Engines.{EngineView}
use Rattle.registry_lines.specs.Scripts.{Script, Answers}

-- what was reported for one of a script's later lines is an answer to the line
pub carried : (sole : Bool) (origin : EngineView) (trees : List TreeMap) (number hives : ℕ) (old new then : Script) (line one : Line) (result reported : Result ReplyLine Refusal) (reply : ReplyLine) → line ≡ one → later_line (Some one) ≡ Some one → reported ≡ result → reported ≡ Ok reply → then ≡ new → IfOk result (λ t. Answers sole origin trees number hives old one t new)
    → (later_line (Some line) ≡ Some line) × Answers sole origin trees number hives old line reply then
carried sole origin trees number hives old new then line one result reported reply is later from ok same said =
    let here = subst (λ r. IfOk r (λ t. Answers sole origin trees number hives old one t new)) (sym from ∙ ok) said in
    subst (λ l. (later_line (Some l) ≡ Some l) × Answers sole origin trees number hives old l reply then) (sym is) (later, subst (λ s. Answers sole origin trees number hives old one reply s) (sym same) here)

-- and so is what it was refused with
pub carried_refusal : (sole : Bool) (origin : EngineView) (trees : List TreeMap) (number hives : ℕ) (old new then : Script) (line one : Line) (result reported : Result ReplyLine Refusal) (why : Refusal) → line ≡ one → later_line (Some one) ≡ Some one → reported ≡ result → reported ≡ Err why → then ≡ new → IfErr result (λ refusal. Answers sole origin trees number hives old one (Refused refusal) new)
    → (later_line (Some line) ≡ Some line) × Answers sole origin trees number hives old line (Refused why) then
carried_refusal sole origin trees number hives old new then line one result reported why is later from err same said =
    let here = subst (λ r. IfErr r (λ refusal. Answers sole origin trees number hives old one (Refused refusal) new)) (sym from ∙ err) said in
    subst (λ l. (later_line (Some l) ≡ Some l) × Answers sole origin trees number hives old l (Refused why) then) (sym is) (later, subst (λ s. Answers sole origin trees number hives old one (Refused why) s) (sym same) here)
