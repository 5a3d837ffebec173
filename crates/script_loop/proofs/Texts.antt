-- What a writer contains after a write, if nothing else changes it.
use Rattle.std.proofs.Common.{ℕ, List, ◌++◌, Option, Some, None, Result, Ok, Err, refl, ◌∙◌, ap}
use Rattle.std.specs.Prelude.{IfOk}
use Rattle.std.specs.Io.KnownBytes.{Appends, Keeps}

-- a write, and nothing more
pub appends_kept : (old mid new : Option (List ℕ)) (text : List ℕ) → Appends old mid text → Keeps mid new → Appends old new text
appends_kept None mid new text a k = tt
appends_kept (Some xs) None new text a k = absurd a
appends_kept (Some xs) (Some ys) None text a k = absurd k
appends_kept (Some xs) (Some ys) (Some zs) text a k = k ∙ a

-- nothing at all
pub keeps_same : (known : Option (List ℕ)) → Keeps known known
keeps_same None = tt
keeps_same (Some xs) = refl

-- nothing more, and then a write
pub kept_appends : (old mid new : Option (List ℕ)) (text : List ℕ) → Keeps old mid → Appends mid new text → Appends old new text
kept_appends None mid new text k a = tt
kept_appends (Some xs) None new text k a = absurd k
kept_appends (Some xs) (Some ys) None text k a = absurd a
kept_appends (Some xs) (Some ys) (Some zs) text k a = a ∙ ap (λ ws. ws ++ text) k

-- what holds of an answer holds of another that follows from it
pub if_ok : {A E : Type 0} (P Q : A → Type 0) (r : Result A E) → ((a : A) → P a → Q a) → IfOk r P → IfOk r Q
if_ok P Q (Ok a) f p = f a p
if_ok P Q (Err e) f p = tt
