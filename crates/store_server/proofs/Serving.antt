-- Lines that are answered one after another.
use Rattle.std.proofs.Common.{◌≡◌, ℕ, Bool, List, [], ◌∷◌, ◌++◌, Option, refl, sym}
use Rattle.std.proofs.lemmas.List.{append-nil}
use Rattle.std.specs.Io.KnownBytes.{Appends}
use Rattle.reg_tree.specs.Maps.{TreeMap}
use Rattle.reply_lines.proofs.Written.{appends_nothing}
use Rattle.commit_journal.specs.Store.{Store}
use Rattle.engine_invariant.specs.Engines.{EngineView}
use Rattle.registry_lines.specs.Scripts.{Script}
use Rattle.served_replies.specs.ServedReplies.{served_texts}
use Rattle.served_replies.specs.declared.reply.ServedReply.{ServedReply}
use Rattle.store_server.specs.OwnLines.{AnswersTold}
use Rattle.store_server.specs.Visits.{ServesLines}
use Rattle.store_server.specs.declared.served_lines.LinesServed.{LinesServed}
use Rattle.store_server.specs.declared.served_lines.LinesServed.TheVariants.{Unwritten}
use Rattle.store_server.proofs.Texts.{append_texts}

module _ (saves : Store → ℕ → List TreeMap → Type 0) (store : Store) (sole : Bool) (origin : EngineView) (trees : List TreeMap) (number hives : ℕ) where
  -- no line was answered
  pub serves_nothing : (old new : Script) (was : Option (List ℕ)) (end : LinesServed) → new ≡ old → ServesLines saves store sole origin trees number hives old was end new was
  serves_nothing old new was end same = record { lines = []; replies = []; answered = (same, refl); wrote = λ _. appends_nothing was }

  -- a line was answered whose replies could not be written
  pub serves_unwritten : (old new : Script) (was is : Option (List ℕ)) (bytes : List ℕ) (replies : List ServedReply) → AnswersTold saves store sole origin trees number hives old bytes replies new → ServesLines saves store sole origin trees number hives old was Unwritten new is
  serves_unwritten old new was is bytes replies answers = record { lines = bytes ∷ []; replies = replies; answered = (new, replies, [], answers, (refl, refl), sym (append-nil replies)); wrote = λ all. absurd all }

  -- one line was answered, and then others
  pub serves_more : (old mid : Script) (was then : Option (List ℕ)) (bytes : List ℕ) (front : List ServedReply) → AnswersTold saves store sole origin trees number hives old bytes front mid → Appends was then (served_texts hives front) → (end : LinesServed) (new : Script) (is : Option (List ℕ))
      → ServesLines saves store sole origin trees number hives mid then end new is → ServesLines saves store sole origin trees number hives old was end new is
  serves_more old mid was then bytes front answers wrote end new is s = record {
    lines = bytes ∷ s.lines;
    replies = front ++ s.replies;
    answered = (mid, front, s.replies, answers, s.answered, refl);
    wrote = λ all. append_texts hives was then is front s.replies wrote (s.wrote all);
  }
