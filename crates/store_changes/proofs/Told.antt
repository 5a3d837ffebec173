-- What is told, one reply after another.
use Rattle.std.proofs.Common.{◌≡◌, inl, inr, ℕ, suc, ◌+◌, ◌-◌, ◌≤◌, ◌<◌, List, [], ◌∷◌, ◌++◌, get_or, length, take, drop, Option, Result, Ok, Err, IfOk, refl, sym, ◌∙◌, ap, subst, add-one, append_assoc, arith}
use Rattle.std.specs.Io.KnownBytes.{Appends}
use Rattle.std.proofs.lemmas.List.{append-nil, map-append, take_all}
use Rattle.refusals.specs.declared.refusal.Refusal.TheVariants.{NoMemory}
use Rattle.reg_tree.specs.declared.element.Element.{Element}
use Rattle.reply_lines.specs.declared.reply.ReplyLine.TheVariants.{Refused}
use Rattle.reply_lines.specs.declared.status.Status.{Status}
use Rattle.reply_lines.specs.declared.status.Status.TheVariants as status
use Rattle.reply_lines.proofs.Written.{appends_both}
use Rattle.commit_journal.specs.Numbered.{NumberedChange, numbered}
use Rattle.served_replies.specs.ServedReplies.{served_text, served_texts}
use Rattle.served_replies.specs.declared.reply.ServedReply.{ServedReply}
use Rattle.served_replies.specs.declared.reply.ServedReply.TheVariants.{Change, Followed, Line}
use Rattle.store_changes.specs.Followed.{TellsChanges, TellsFromWhere, changes_after, told_change, told_changes}
use Rattle.store_changes.specs.Reports.{PrintsChanges}
use Rattle.store_changes.proofs.Numbers.{after_is, length-numbered, take_numbered}

pub texts-append : (named : ℕ) (xs ys : List ServedReply) → served_texts named (xs ++ ys) ≡ served_texts named xs ++ served_texts named ys
texts-append named [] ys = refl
texts-append named (x ∷ xs) ys = ap (λ text. served_text named x ++ text) (texts-append named xs ys) ∙ sym (append_assoc (served_text named x) (served_texts named xs) (served_texts named ys))

-- one reply is told after others
pub append_one : (named : ℕ) (old mid new : Option (List ℕ)) (front : List ServedReply) (last : ServedReply) → Appends old mid (served_texts named front) → Appends mid new (served_text named last) → Appends old new (served_texts named (front ++ last ∷ []))
append_one named old mid new front last a b =
    appends_both old mid new (served_texts named front) (served_text named last) (served_texts named (front ++ last ∷ [])) a b
    (sym (texts-append named front (last ∷ []) ∙ ap (λ text. served_texts named front ++ text) (append-nil (served_text named last))))

-- one more change is told
pub append_change : (named after i : ℕ) (changes : List Element) (change : Element) (old mid new : Option (List ℕ)) → i < length changes → change ≡ get_or changes i change
    → Appends old mid (served_texts named (told_changes (take i (numbered after changes)))) → Appends mid new (served_text named (Change (after + i + 1) change)) → Appends old new (served_texts named (told_changes (take (i + 1) (numbered after changes))))
append_change named after i changes change old mid new lt is a b =
    subst (λ (replies : List ServedReply). Appends old new (served_texts named replies)) (sym (ap (λ n. told_changes (take n (numbered after changes))) (add-one i) ∙ ap told_changes (take_numbered after i changes change lt is) ∙ map-append told_change (take i (numbered after changes)) ((after + i + 1, change) ∷ [])))
    (append_one named old mid new (told_changes (take i (numbered after changes))) (Change (after + i + 1) change) a b)

-- what holds of an answer for another reason
pub if_ok : {T E : Type 0} {P Q : T → Type 0} (answer : Result T E) → ((x : T) → P x → Q x) → IfOk answer P → IfOk answer Q
if_ok (Ok x) f p = f x p
if_ok (Err e) f p = tt

-- a reply alone
last_alone : (named : ℕ) (old new : Option (List ℕ)) (last : ServedReply) → Appends old new (served_text named last) → Appends old new (served_texts named (last ∷ []))
last_alone named old new last a = subst (Appends old new) (sym (append-nil (served_text named last))) a

-- it is told from where on there are changes
pub prints_from_where : (named base after : ℕ) (changes : List Element) (reply : ServedReply) (old new : Option (List ℕ)) (its : Status) → TellsFromWhere base changes after (reply ∷ []) → Appends old new (served_text named reply) × (its ≡ status.Refused) → PrintsChanges named base changes after old new its
prints_from_where named base after changes reply old new its tells printed =
    (reply ∷ [], subst (λ s. TellsChanges base changes after (reply ∷ []) s) (sym printed.1) (inl tells), last_alone named old new reply printed.0)

-- All changes are told, or the first of them; `rest` are those that are to be told.
module _ (named base after count : ℕ) (changes rest : List Element) (old mid new : Option (List ℕ)) (its : Status) (above : base ≤ after) (are : rest ≡ drop (after - base) changes)
    (told : Appends old mid (served_texts named (told_changes (take count (numbered after rest))))) where
  same : numbered after rest ≡ changes_after after base changes
  same = ap (numbered after) are ∙ sym (after_is after base changes above)

  pub prints_all : after ≤ base + length changes → length rest ≤ count → Appends mid new (served_text named (Followed (base + length changes))) × (its ≡ status.Clean) → PrintsChanges named base changes after old new its
  prints_all within all printed =
      let whole : take count (numbered after rest) ≡ changes_after after base changes = take_all count (numbered after rest) (omega (arith, all, length-numbered after rest)) ∙ same in
      let replies = told_changes (changes_after after base changes) ++ Followed (base + length changes) ∷ [] in (
        replies,
        subst (λ s. TellsChanges base changes after replies s) (sym printed.1) (above, within, refl),
        append_one named old mid new (told_changes (changes_after after base changes)) (Followed (base + length changes))
            (subst (λ (l : List NumberedChange). Appends old mid (served_texts named (told_changes l))) whole told) printed.0,
      )

  pub prints_some : after + count < base + length changes → Appends mid new (served_text named (Line (Refused NoMemory))) × (its ≡ status.Refused) → PrintsChanges named base changes after old new its
  prints_some few printed =
      let front = told_changes (take count (changes_after after base changes)) in
      let replies = front ++ Line (Refused NoMemory) ∷ [] in (
        replies,
        subst (λ s. TellsChanges base changes after replies s) (sym printed.1) (inr (above, count, few, refl)),
        append_one named old mid new front (Line (Refused NoMemory)) (subst (λ (l : List NumberedChange). Appends old mid (served_texts named (told_changes (take count l)))) same told) printed.0,
      )
