-- The texts of replies that are written one after another.
use Rattle.std.proofs.Common.{◌≡◌, ◌∙◌, ℕ, List, [], ◌∷◌, ◌++◌, Option, Some, None, refl, ap, subst, sym, append_assoc}
use Rattle.std.proofs.lemmas.List.{append-nil}
use Rattle.std.specs.Io.KnownBytes.{Appends, Keeps}
use Rattle.reply_lines.proofs.Written.{appends_more}
use Rattle.served_replies.specs.ServedReplies.{served_text, served_texts}
use Rattle.served_replies.specs.declared.reply.ServedReply.{ServedReply}

pub texts_both : (hives : ℕ) (front rest : List ServedReply) → served_texts hives front ++ served_texts hives rest ≡ served_texts hives (front ++ rest)
texts_both hives [] rest = refl
texts_both hives (reply ∷ front) rest = append_assoc (served_text hives reply) (served_texts hives front) (served_texts hives rest) ∙ ap (λ text. served_text hives reply ++ text) (texts_both hives front rest)

-- some replies were written, and then others
pub append_texts : (hives : ℕ) (was mid is : Option (List ℕ)) (front rest : List ServedReply) → Appends was mid (served_texts hives front) → Appends mid is (served_texts hives rest) → Appends was is (served_texts hives (front ++ rest))
append_texts hives was mid is front rest a b = subst (Appends was is) (texts_both hives front rest) (appends_more was mid is (served_texts hives front) (served_texts hives rest) a b)

-- one reply was written
pub append_one : (hives : ℕ) (was is : Option (List ℕ)) (reply : ServedReply) → Appends was is (served_text hives reply) → Appends was is (served_texts hives (reply ∷ []))
append_one hives was is reply a = subst (Appends was is) (sym (append-nil (served_text hives reply))) a

-- what is kept was written before
pub kept_after : (was mid is : Option (List ℕ)) (text : List ℕ) → Appends was mid text → Keeps mid is → Appends was is text
kept_after None mid is text a k = tt
kept_after (Some xs) None is text a k = absurd a
kept_after (Some xs) (Some ys) None text a k = absurd k
kept_after (Some xs) (Some ys) (Some zs) text a k = k ∙ a

pub kept_before : (was mid is : Option (List ℕ)) (text : List ℕ) → Keeps was mid → Appends mid is text → Appends was is text
kept_before None mid is text k a = tt
kept_before (Some xs) None is text k a = absurd k
kept_before (Some xs) (Some ys) None text k a = absurd a
kept_before (Some xs) (Some ys) (Some zs) text k a = a ∙ ap (λ bytes. bytes ++ text) k

pub keeps_itself : (known : Option (List ℕ)) → Keeps known known
keeps_itself None = tt
keeps_itself (Some bytes) = refl
