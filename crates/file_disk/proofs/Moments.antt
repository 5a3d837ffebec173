-- What one call more makes of a record.
use Rattle.std.proofs.Common.{◌≡◌, ◌≢◌, inl, inr, ℕ, ◌<◌, ◌≤◌, List, ◌∷◌, length, Bool, true, false, refl, sym, ap, subst, ◌∙◌, arith}
use Rattle.std.specs.Prelude.{◌==◌, nat_le, if◌then◌else◌, OnErr, Result, Ok, Err}
use Rattle.std.proofs.lemmas.Bool.{eqb-false, ne_eqb, le-leb, leb-true, cases_Bool}
use Rattle.disk_model.specs.Call.{KeepsOthers, Passes, ReadGives}
use Rattle.disk_model.specs.FileState.{Cuts, FileState, MayCut, MayWrite, Syncs, Writes}
use Rattle.file_disk.specs.declared.record.Bytes.{Bytes}
use Rattle.file_disk.specs.declared.record.Call.{Call}
use Rattle.file_disk.specs.declared.record.Call.TheVariants as call
use Rattle.file_disk.specs.Records.{Allows, AreFaithful, Seen, after, bytes_in, changed, states}
use Rattle.std.specs.declared.snapshot.Snapshot.{Snapshot}

past_all : (n m : ℕ) → m < n → nat_le n m ≡ false
past_all n m lt = elim (cases_Bool (nat_le n m)) [ inl t ↦ absurd (omega (arith, lt, leb-true n m t)) | inr f ↦ f ]

module _ (seen : Seen) (old : List Call) (last : Call) where
  -- the files after it, and at each moment before
  pub state_now : (f : ℕ) → states seen (last ∷ old) (length (last ∷ old)) f ≡ after last (seen.torn (length old)) (states seen old (length old)) f
  unfolding states
  state_now f = ap (λ (b : Bool). if b then states seen old (length (last ∷ old)) f else after last (seen.torn (length old)) (states seen old (length old)) f) (past_all (length (last ∷ old)) (length old) (omega arith))

  state_then : (k f : ℕ) → k ≤ length old → states seen (last ∷ old) k f ≡ states seen old k f
  unfolding states
  state_then k f le = ap (λ (b : Bool). if b then states seen old k f else after last (seen.torn (length old)) (states seen old (length old)) f) (le-leb k (length old) le)

  pub faithful_parts : AreFaithful seen (last ∷ old) → AreFaithful seen old × Allows last (seen.torn (length old)) (states seen old (length old))
  unfolding AreFaithful
  faithful_parts f = f

pub passes : (seen : Seen) (old new : List Call) (last : Call) → new ≡ last ∷ old → Passes (states seen old) (states seen new) (length old) (length new)
passes seen old new last is = subst (λ (l : List Call). Passes (states seen old) (states seen l) (length old) (length l)) (sym is) (record { clock = omega arith; past = state_then seen old last })

pub back : (seen : Seen) (old new : List Call) (last : Call) → new ≡ last ∷ old → AreFaithful seen new → AreFaithful seen old
back seen old new last is f = (faithful_parts seen old last (subst (AreFaithful seen) is f)).0

pub allowed : (seen : Seen) (old new : List Call) (last : Call) → new ≡ last ∷ old → AreFaithful seen new → Allows last (seen.torn (length old)) (states seen old (length old))
allowed seen old new last is f = (faithful_parts seen old last (subst (AreFaithful seen) is f)).1

-- what a call makes of the files, if that is the same as some other state
behind : (seen : Seen) (old new : List Call) (last : Call) → new ≡ last ∷ old → (f : ℕ) (state : FileState) → after last (seen.torn (length old)) (states seen old (length old)) f ≡ state → states seen new (length new) f ≡ state
behind seen old new last is f state same = ap (λ (l : List Call). states seen l (length l) f) is ∙ state_now seen old last f ∙ same

eqb_self : (n : ℕ) → (n == n) ≡ true
eqb_self n = elim (cases_Bool (n == n)) [ inl t ↦ t | inr f ↦ absurd (eqb-false n n f refl) ]

same_file : (file : ℕ) (new : FileState) (state : ℕ → FileState) → changed file new state file ≡ new
same_file file new state = ap (λ (b : Bool). if b then new else state file) (eqb_self file)

other_file : (file f : ℕ) (new : FileState) (state : ℕ → FileState) → f ≢ file → changed file new state f ≡ state f
other_file file f new state not = ap (λ (b : Bool). if b then new else state f) (ne_eqb f file not)

-- a call that changes nothing
pub same_measured : (seen : Seen) (old new : List Call) (file told : ℕ) → new ≡ call.Measured file told ∷ old → (f : ℕ) → states seen new (length new) f ≡ states seen old (length old) f
same_measured seen old new file told is f = behind seen old new _ is f _ refl

pub same_read : (seen : Seen) (old new : List Call) (file offset : ℕ) (before later : Snapshot Bytes) (count : ℕ) → new ≡ call.Read file offset before later count ∷ old → (f : ℕ) → states seen new (length new) f ≡ states seen old (length old) f
same_read seen old new file offset before later count is f = behind seen old new _ is f _ refl

pub same_denied : (seen : Seen) (old new : List Call) → new ≡ call.Denied ∷ old → (f : ℕ) → states seen new (length new) f ≡ states seen old (length old) f
same_denied seen old new is f = behind seen old new _ is f _ refl

-- a write, a cut and a sync change their own file alone
pub others_written : (seen : Seen) (old new : List Call) (file offset : ℕ) (bytes : Snapshot Bytes) (failed : Bool) → new ≡ call.Written file offset bytes failed ∷ old → KeepsOthers file (states seen old (length old)) (states seen new (length new))
others_written seen old new file offset bytes failed is f not = behind seen old new _ is f _ (other_file file f _ (states seen old (length old)) not)

pub others_cut : (seen : Seen) (old new : List Call) (file length' : ℕ) (failed : Bool) → new ≡ call.Cut file length' failed ∷ old → KeepsOthers file (states seen old (length old)) (states seen new (length new))
others_cut seen old new file length' failed is f not = behind seen old new _ is f _ (other_file file f _ (states seen old (length old)) not)

pub others_synced : (seen : Seen) (old new : List Call) (file : ℕ) → new ≡ call.Synced file ∷ old → KeepsOthers file (states seen old (length old)) (states seen new (length new))
others_synced seen old new file is f not = behind seen old new _ is f _ (other_file file f _ (states seen old (length old)) not)

pub is_written : (seen : Seen) (old new : List Call) (file offset : ℕ) (bytes : Snapshot Bytes) (list : List ℕ) → bytes_in bytes.value ≡ list → new ≡ call.Written file offset bytes false ∷ old
    → Writes offset list (states seen old (length old) file) (states seen new (length new) file)
is_written seen old new file offset bytes list are is =
    subst (λ (l : List ℕ). Writes offset l (states seen old (length old) file) (states seen new (length new) file)) are (behind seen old new _ is file _ (same_file file _ (states seen old (length old))))

pub may_be_written : (seen : Seen) (old new : List Call) (file offset : ℕ) (bytes : Snapshot Bytes) (list : List ℕ) → bytes_in bytes.value ≡ list → new ≡ call.Written file offset bytes true ∷ old → AreFaithful seen new
    → MayWrite offset list (states seen old (length old) file) (states seen new (length new) file)
may_be_written seen old new file offset bytes list are is f =
    subst (λ (l : List ℕ). MayWrite offset l (states seen old (length old) file) (states seen new (length new) file)) are
    (inr (seen.torn (length old), allowed seen old new _ is f, behind seen old new _ is file _ (same_file file _ (states seen old (length old)))))

pub is_cut : (seen : Seen) (old new : List Call) (file length' : ℕ) → new ≡ call.Cut file length' false ∷ old → Cuts length' (states seen old (length old) file) (states seen new (length new) file)
is_cut seen old new file length' is = behind seen old new _ is file _ (same_file file _ (states seen old (length old)))

pub may_be_cut : (seen : Seen) (old new : List Call) (file length' : ℕ) → new ≡ call.Cut file length' true ∷ old → AreFaithful seen new → MayCut length' (states seen old (length old) file) (states seen new (length new) file)
may_be_cut seen old new file length' is f = inr (seen.torn (length old), allowed seen old new _ is f, behind seen old new _ is file _ (same_file file _ (states seen old (length old))))

pub is_synced : (seen : Seen) (old new : List Call) (file : ℕ) → new ≡ call.Synced file ∷ old → Syncs (states seen old (length old) file) (states seen new (length new) file)
is_synced seen old new file is = behind seen old new _ is file _ (same_file file _ (states seen old (length old)))

pub is_read : (seen : Seen) (old new : List Call) (file offset : ℕ) (before later : Snapshot Bytes) (count : ℕ) (was is : List ℕ) → bytes_in before.value ≡ was → bytes_in later.value ≡ is → new ≡ call.Read file offset before later count ∷ old → AreFaithful seen new
    → ReadGives offset (states seen old (length old) file).seen was is count
is_read seen old new file offset before later count was is first then' by f =
    subst (λ (l : List ℕ). ReadGives offset (states seen old (length old) file).seen l is count) first
    (subst (λ (l : List ℕ). ReadGives offset (states seen old (length old) file).seen (bytes_in before.value) l count) then' (allowed seen old new _ by f))

-- what holds whatever was reported holds if a refusal was
pub told_anyway : {T E P : Type 0} (result : Result T E) → P → OnErr result P
told_anyway (Ok x) p = tt
told_anyway (Err e) p = p
