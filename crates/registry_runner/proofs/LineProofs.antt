-- The lines of a part, one after another.
use Rattle.std.proofs.Common.{◌≡◌, ◌∙◌, ℕ, ◌+◌, Bool, true, false, List, [], ◌∷◌, ◌++◌, Option, Some, None, Result, Ok, refl, sym, ap, subst, inl, inr, append_assoc}
use Rattle.std.specs.Prelude.{IfSome}
use Rattle.refusals.specs.declared.refusal.Refusal.{Refusal}
use Rattle.reg_tree.specs.Maps.{TreeMap}
use Rattle.reply_lines.proofs.Written.{appends_more}
use Rattle.reply_lines.specs.Replies.{reply_line}
use Rattle.reply_lines.specs.Statuses.{with_refusal}
use Rattle.script_syntax.specs.declared.line.Line.{Line}
use Rattle.reply_lines.specs.declared.reply.ReplyLine.{ReplyLine}
use Rattle.reply_lines.specs.declared.status.Status.{Status}
use Rattle.script_loop.specs.Runs.{EndsLoop, RunsOn, RunsToStop}
use Rattle.script_loop.specs.Turns.{IsLeft}
use Rattle.script_loop.specs.declared.end_of_script.EndOfScript.{EndOfScript}
use Rattle.script_loop.specs.declared.line_loop.LoopEnd.TheVariants.{Over, Stopped}
use Rattle.script_loop.proofs.Reading.{many_read}
use Rattle.script_loop.proofs.Running.{refusals_join}
use Rattle.script_runner.specs.Plays.{is_refusal}
use Rattle.script_runner.specs.Scripts.{line_asked}
use Rattle.engine_invariant.specs.Engines.{EngineView}
use Rattle.histories.specs.Points.{HistoryEntry}
use Rattle.registry_runner.specs.Parts.{Part, Folds, KeepsOrFolds, start_text}
use Rattle.registry_runner.specs.PartLines.{AnswersInPart, AnswersThen, Between, OverHistory, StopsInPart}
use Rattle.registry_runner.specs.Plays.{LinesCome, PlaysOn}
use Rattle.registry_lines.specs.Scripts.{Script, AnswersLine, number_told}
use Rattle.registry_runner.specs.declared.history_use.HistoryUse.{HistoryUse}
use Rattle.registry_runner.specs.declared.lines.BetweenLines.{BetweenLines}
use Rattle.registry_runner.specs.declared.lines.BetweenLines.TheVariants as between
use Rattle.registry_runner.specs.declared.lines.LinesEnd.TheVariants as come
use Rattle.registry_runner.specs.declared.parts.NextPart.{NextPart}
use Rattle.registry_runner.specs.declared.parts.PartKind.{PartKind}
use Rattle.registry_runner.specs.declared.parts.PartKind.TheVariants.{Opened, Folded, Continued}
use Rattle.registry_lines.specs.declared.script.LineAnswer.{LineAnswer}
use Rattle.registry_lines.specs.declared.script.LineAnswer.TheVariants.{Reply, ToFold}
use Rattle.registry_runner.proofs.Playing.{continued_text, part}

module _ (past : List HistoryEntry) (limit : ℕ) (sole : Bool) (origin : EngineView) (trees : List TreeMap) (first hives : ℕ) where
  -- a line was answered by a reply, and then that is done
  pub answered_then : (old mid new : Script) (line : List ℕ) (made : Option LineAnswer) (reported : ReplyLine) (refused : Bool) (told : ℕ) (came next : BetweenLines) → made ≡ Some (Reply reported)
      → IfSome made (λ it. (asked : Line) × (line_asked line ≡ Some asked) × AnswersLine sole origin trees first hives old asked it mid) → refused ≡ is_refusal reported → told ≡ number_told reported → came ≡ next → Between limit (part past sole origin trees first hives mid) told came new
      → AnswersThen limit (part past sole origin trees first hives old) line (reply_line reported) refused next new
  answered_then old mid new line made reported refused told came next is some said numbered comes between =
      let answered = subst (λ made. IfSome made (λ it. (asked : Line) × (line_asked line ≡ Some asked) × AnswersLine sole origin trees first hives old asked it mid)) is some in (
        answered.0,
        reported,
        mid,
        answered.1,
        answered.2,
        refl,
        said,
        subst (λ n. Between limit (part past sole origin trees first hives mid) n next new) numbered (subst (λ c. Between limit (part past sole origin trees first hives mid) told c new) comes between),
      )

  -- a line asks for a fold, for which all was flushed
  pub folds_line : (old new : Script) (line : List ℕ) (made : Option LineAnswer) → made ≡ Some ToFold → IfSome made (λ it. (asked : Line) × (line_asked line ≡ Some asked) × AnswersLine sole origin trees first hives old asked it new) → StopsInPart limit (part past sole origin trees first hives old) line [] false Folded new
  folds_line old new line made is some =
      let folds = subst (λ made. IfSome made (λ it. (asked : Line) × (line_asked line ≡ Some asked) × AnswersLine sole origin trees first hives old asked it new)) is some in (folds.1 ∙ ap Some folds.2.0, folds.2.1, refl, refl)

module _ (whole past : List HistoryEntry) (limit : ℕ) (sole : Bool) (origin : EngineView) (trees : List TreeMap) (first hives : ℕ) where
  same_part : (old new : Script) → new ≡ old → ◌≡◌ {A = Result Part Refusal} (Ok (part past sole origin trees first hives new)) (Ok (part past sole origin trees first hives old))
  same_part old new same = ap (λ s. Ok (part past sole origin trees first hives s)) same

  -- the script goes on in the same registry
  goes_on : (old new : Script) (reported : ReplyLine) → Between limit (part past sole origin trees first hives old) (number_told reported) (between.GoOn false) new → KeepsOrFolds whole limit (part past sole origin trees first hives old) reported (Ok (part past sole origin trees first hives new))
  goes_on old new reported (inl same) = inl (same_part old new same)
  goes_on old new reported (inr b) = inr (b.0, b.1, inl (b.2, new, b.3, refl))

  -- its history is folded unasked
  folds_on : (old new : Script) (reported : ReplyLine) (next : Result Part Refusal) → Between limit (part past sole origin trees first hives old) (number_told reported) between.ToFold new → Folds whole (part past sole origin trees first hives new) next → KeepsOrFolds whole limit (part past sole origin trees first hives old) reported next
  folds_on old new reported next b folds = inr (b.0, b.1, inr (new, b.2, folds))

  module _ {S : Type 0} (view : S → Script) (use_of : S → HistoryUse) where
    abbrev pub Answering : S → List ℕ → List ℕ → Bool → S → Type 0
    Answering old line text refused new = OverHistory first (use_of old) (use_of new) ((before : List HistoryEntry) → AnswersInPart (use_of old).limit (part before sole origin trees first hives (view old)) line text refused (view new))

    abbrev pub Stopping : S → List ℕ → List ℕ → Bool → PartKind → S → Type 0
    Stopping old line text refused why new = OverHistory first (use_of old) (use_of new) ((before : List HistoryEntry) → StopsInPart (use_of old).limit (part before sole origin trees first hives (view old)) line text refused why (view new))

    abbrev pub Unanswered : S → S → Type 0
    Unanswered old new = view new ≡ view old

    left_same : (last old : S) → IsLeft Unanswered last old → view last ≡ view old
    left_same last old (inl same) = ap view same
    left_same last old (inr same) = same

    -- a line was answered, and others follow
    one_more : (old new : S) (end : Result Part Refusal) (number : ℕ) (line : List ℕ) (lines : List (List ℕ)) (end_of_script : Option EndOfScript) (text reply rest : List ℕ) (refused : Bool) (later status : Status) → AnswersInPart limit (part past sole origin trees first hives (view old)) line reply refused (view new)
        → PlaysOn whole limit (Ok (part past sole origin trees first hives (view new))) (number + 1) lines end_of_script rest later end → text ≡ reply ++ rest → status ≡ with_refusal refused later → PlaysOn whole limit (Ok (part past sole origin trees first hives (view old))) number (line ∷ lines) end_of_script text status end
    one_more old new end number line lines end_of_script text reply rest refused later status told on printed said =
        inr (inl (
          told.0,
          told.1,
          told.2,
          Ok (part past sole origin trees first hives (view new)),
          rest,
          later,
          told.3,
          told.4,
          goes_on told.2 (view new) told.1 told.7,
          on,
          printed ∙ ap (λ t. t ++ rest) told.5,
          said ∙ ap (λ b. with_refusal b later) told.6,
        ))

    -- the lines up to the end of the run
    plays_to_end : (last old : S) (number : ℕ) (lines : List (List ℕ)) (end_of_script : Option EndOfScript) (text : List ℕ) (status : Status) → (use_of old).first ≡ first → (use_of old).limit ≡ limit → RunsOn Answering (λ line. line_asked line ≡ None) (IsLeft Unanswered last) old number lines end_of_script text status
        → PlaysOn whole limit (Ok (part past sole origin trees first hives (view old))) number lines end_of_script text status (Ok (part past sole origin trees first hives (view last)))
    plays_to_end last old number [] end_of_script text status begins limited runs = (runs.0, same_part (view old) (view last) (left_same last old runs.1))
    plays_to_end last old number (line ∷ lines) end_of_script text status begins limited (inl wrong) = inl (wrong.0, wrong.1, same_part (view old) (view last) (left_same last old wrong.2))
    plays_to_end last old number (line ∷ lines) end_of_script text status begins limited (inr on) =
        one_more old on.0 (Ok (part past sole origin trees first hives (view last))) number line lines end_of_script text on.1 on.3 on.2 on.4 status
        (subst (λ n. AnswersInPart n (part past sole origin trees first hives (view old)) line on.1 on.2 (view on.0)) limited (on.5.2 begins past))
        (plays_to_end last on.0 (number + 1) lines end_of_script on.3 on.4 (on.5.0 ∙ begins) (on.5.1 ∙ limited) on.6) on.7 on.8

    -- those up to a fold, and what follows it
    module _ (last : S) (follows end : Result Part Refusal) (more : List (List ℕ)) (end_of_script : Option EndOfScript) (rest : List ℕ) (status : Status) (folds : Folds whole (part past sole origin trees first hives (view last)) follows) where
      folds_at : (old : S) (number : ℕ) (line text : List ℕ) (refused : Bool) (why : PartKind) → StopsInPart limit (part past sole origin trees first hives (view old)) line text refused why (view last) → PlaysOn whole limit follows (number + 1) more end_of_script rest status end
          → PlaysOn whole limit (Ok (part past sole origin trees first hives (view old))) number (line ∷ more) end_of_script (text ++ (start_text why follows ++ rest)) (with_refusal refused status) end
      folds_at old number line text refused Opened stops on = absurd stops
      folds_at old number line text refused Folded stops on =
          subst (λ t. PlaysOn whole limit (Ok (part past sole origin trees first hives (view old))) number (line ∷ more) end_of_script (t ++ (start_text Folded follows ++ rest)) (with_refusal refused status) end) (sym stops.2)
          (subst (λ b. PlaysOn whole limit (Ok (part past sole origin trees first hives (view old))) number (line ∷ more) end_of_script (start_text Folded follows ++ rest) (with_refusal b status) end) (sym stops.3)
          (inr (inr (view last, follows, rest, stops.0, stops.1, folds, on, refl))))
      folds_at old number line text refused Continued stops on =
          inr (inl (
            stops.0,
            stops.1,
            stops.2,
            follows,
            rest,
            status,
            stops.3,
            stops.4,
            folds_on stops.2 (view last) stops.1 follows stops.7 folds,
            on,
            ap (λ t. text ++ (t ++ rest)) (continued_text follows) ∙ ap (λ t. t ++ rest) stops.5,
            ap (λ b. with_refusal b status) stops.6,
          ))

      plays_to_fold : (old : S) (number next : ℕ) (lines : List (List ℕ)) (text : List ℕ) (refused : Bool) (why : PartKind) → (use_of old).first ≡ first → (use_of old).limit ≡ limit → RunsToStop Answering Stopping old number lines text refused why next last → PlaysOn whole limit follows next more end_of_script rest status end
          → PlaysOn whole limit (Ok (part past sole origin trees first hives (view old))) number (lines ++ more) end_of_script (text ++ (start_text why follows ++ rest)) (with_refusal refused status) end
      plays_to_fold old number next [] text refused why begins limited runs on = absurd runs
      plays_to_fold old number next (line ∷ lines) text refused why begins limited (inl stops) on =
          subst (λ ls. PlaysOn whole limit (Ok (part past sole origin trees first hives (view old))) number (line ∷ (ls ++ more)) end_of_script (text ++ (start_text why follows ++ rest)) (with_refusal refused status) end) (sym stops.1)
          (folds_at old number line text refused why (subst (λ n. StopsInPart n (part past sole origin trees first hives (view old)) line text refused why (view last)) limited (stops.0.2 begins past)) (subst (λ n. PlaysOn whole limit follows n more end_of_script rest status end) stops.2 on))
      plays_to_fold old number next (line ∷ lines) text refused why begins limited (inr runs) on =
          let tail = start_text why follows ++ rest in
          one_more old runs.0 end number line (lines ++ more) end_of_script (text ++ tail) runs.1 (runs.3 ++ tail) runs.2 (with_refusal runs.4 status) (with_refusal refused status)
          (subst (λ n. AnswersInPart n (part past sole origin trees first hives (view old)) line runs.1 runs.2 (view runs.0)) limited (runs.5.2 begins past))
          (plays_to_fold runs.0 (number + 1) next lines runs.3 runs.4 why (runs.5.0 ∙ begins) (runs.5.1 ∙ limited) runs.6 on)
          (ap (λ t. t ++ tail) runs.7 ∙ append_assoc runs.1 runs.3 tail)
          (ap (λ b. with_refusal b status) runs.8 ∙ sym (refusals_join runs.2 runs.4 status))

    -- What came of a part's lines

    module _ (old last : S) (line : ℕ) (known was rest is : Option (List ℕ)) (begins : (use_of old).first ≡ first) (limited : (use_of old).limit ≡ limit) where
      pub ends_so : (status : Status) → EndsLoop Answering Stopping (λ line. line_asked line ≡ None) Unanswered old line known was (Over status) last rest is → LinesCome whole limit true (part past sole origin trees first hives (view old)) line known was (come.Ended status) (view last) rest is
      ends_so status run = (run.0, run.1, run.2, run.3, plays_to_end last old line run.0 run.1 run.2 status begins limited run.4, run.5)

      pub folds_so : (why : PartKind) (at : ℕ) (refused : Bool) (next : NextPart) → EndsLoop Answering Stopping (λ line. line_asked line ≡ None) Unanswered old line known was (Stopped why at refused) last rest is → next ≡ record { kind = why; line = at; moment = (view last).moment; has_refusal = refused }
          → LinesCome whole limit true (part past sole origin trees first hives (view old)) line known was (come.ToFold next) (view last) rest is
      folds_so why at refused next run said =
          subst (λ n. LinesCome whole limit true (part past sole origin trees first hives (view old)) line known was (come.ToFold n) (view last) rest is) (sym said) (
            refl,
            refl,
            λ follows told after status end folds printed on. (
              run.0 ++ on.0,
              on.1,
              run.1 ++ (start_text why follows ++ on.2),
              many_read known rest run.0 on.0 on.1 run.2 on.3,
              plays_to_fold last follows end on.0 on.1 on.2 status folds old line at run.0 run.1 refused why begins limited run.3 on.4,
              appends_more was is after run.1 (start_text why follows ++ on.2) run.4 (appends_more is told after (start_text why follows) on.2 printed on.5),
            ),
          )
