-- Calls one after another.
use Rattle.std.proofs.Common.{ℕ, ◌∙◌, inl, inr, ⊎_elim, arith, Result, Ok, Err, IfOk}
use Rattle.refusals.specs.declared.refusal.Refusal.{Refusal}
use Rattle.disk_model.specs.FileState.{FileState}
use Rattle.disk_model.specs.Call.{Extends}
use Rattle.hive_files.specs.Frames.{RefusalHasCause}

pub extends_on : (first mid last : ℕ → ℕ → FileState) (a b c : ℕ) → Extends first mid a b → Extends mid last b c → Extends first last a c
extends_on first mid last a b c x y = record {
  later = omega (arith, x.later, y.later);
  past = λ k f le. y.past k f (omega (arith, le, x.later)) ∙ x.past k f le;
}

pub fails_on : (F G : Type 0) (S R : Refusal → Type 0) (why : Refusal) → (F → G) → (S why → R why) → RefusalHasCause F S why → RefusalHasCause G R why
fails_on F G S R why f s by = ⊎_elim (λ none. inl none) (λ other. inr (⊎_elim (λ fault. inl (fault.0, f fault.1)) (λ stands. inr (s stands)) other)) by

pub ok_joined : {T E : Type 0} (r : Result T E) (P Q R : T → Type 0) → ((x : T) → P x → Q x → R x) → IfOk r P → IfOk r Q → IfOk r R
ok_joined (Ok x) P Q R f p q = f x p q
ok_joined (Err e) P Q R f p q = p

pub ok_of_three : {T E : Type 0} (r : Result T E) (P Q S R : T → Type 0) → ((x : T) → P x → Q x → S x → R x) → IfOk r P → IfOk r Q → IfOk r S → IfOk r R
ok_of_three (Ok x) P Q S R f p q s = f x p q s
ok_of_three (Err e) P Q S R f p q s = p
