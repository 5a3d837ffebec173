-- What a crash leaves of one file, from one step to the next.
use Rattle.std.proofs.Common.{◌≡◌, inl, inr, ⊎_elim, ℕ, ◌+◌, ◌-◌, ◌<◌, ◌≤◌, List, [], ◌∷◌, ◌++◌, length, get_or, take, drop, replicate, refl, sym, ◌∙◌, ap, subst, arith, length-take, length-drop, take-append-drop}
use Rattle.std.specs.Prelude.{Result, Ok, Err, OnOk, OnErr}
use Rattle.std.proofs.lemmas.List.{same_lists, get_or-take, get_or-drop, get_or_default, take_all, drop_all, append-nil}
use Rattle.disk_model.specs.FileState.{FileState, at_rest, Covers, Leaves, IsSound, resized, put, after_write, Writes, MayWrite, Syncs}
use Rattle.disk_model.proofs.Steps.{length-put, done_may_write}

-- a synced file is only its bytes
pub left_at_rest : (bytes c : List ℕ) → Leaves (at_rest bytes) c → c ≡ bytes
left_at_rest bytes c left =
    same_lists _ _ (omega (arith, left.no_shorter, left.no_longer))
    (λ k d h. get_or_default c k d 0 h ∙ left.kept k (omega (arith, left.no_longer)) (λ none. none) ∙ get_or_default bytes k 0 d (omega (arith, left.no_longer)))

-- whichever way a call is reported, it is done, in part or not at all
pub any_write : {T E F : Type 0} (result : Result T E) (offset : ℕ) (bytes : List ℕ) (old new : FileState)
    → F → OnOk result (F → Writes offset bytes old new) → OnErr result (F → MayWrite offset bytes old new) → MayWrite offset bytes old new
any_write (Ok x) offset bytes old new faithful done failed = done_may_write offset bytes old new (done faithful)
any_write (Err e) offset bytes old new faithful done failed = failed faithful

-- a crash after a write, done or not, leaves no more than one after a write that is done
pub left_of_write : (offset : ℕ) (bytes : List ℕ) (old new : FileState) (seen c : List ℕ) → MayWrite offset bytes old new → Leaves new c → Leaves (after_write old offset bytes seen) c
left_of_write offset bytes old new seen c (inl same) left =
    let before : Leaves old c = subst (λ (s : FileState). Leaves s c) same left in record {
      no_shorter = before.no_shorter;
      no_longer = omega (arith, before.no_longer);
      kept = λ p below free. before.kept p below (λ written. free (inr written));
    }
left_of_write offset bytes old new seen c (inr part) left =
    let after : Leaves (after_write old offset bytes part.0) c = subst (λ (s : FileState). Leaves s c) part.2 left in
    record { no_shorter = after.no_shorter; no_longer = after.no_longer; kept = after.kept }

-- a crash after a sync, done or not, leaves no more than one before it
pub left_of_sync : {T E F : Type 0} (result : Result T E) (old new : FileState)
    → IsSound old → F → OnOk result (F → Syncs old new) → OnErr result (F → new ≡ old) → (c : List ℕ) → Leaves new c → Leaves old c
left_of_sync (Ok x) old new sound faithful done failed c left =
    let is : c ≡ old.seen = left_at_rest old.seen c (subst (λ (s : FileState). Leaves s c) (done faithful) left) in
    subst (Leaves old) (sym is) sound.left
left_of_sync (Err e) old new sound faithful done failed c left = subst (λ (s : FileState). Leaves s c) (failed faithful) left

-- what a write puts in the middle, at the end or over all of a file
pub put_within : (file bytes : List ℕ) (offset : ℕ) → offset ≤ length file → put file offset bytes ≡ take offset file ++ bytes ++ drop (offset + length bytes) file
put_within file [] offset le =
    let none : offset + 0 ≡ offset = omega arith in
    sym (ap (λ (l : List ℕ). l ++ drop (offset + 0) file) (append-nil (take offset file)) ∙ ap (λ (n : ℕ). take offset file ++ drop n file) none ∙ take-append-drop offset file)
put_within file (byte ∷ bytes) offset le =
    let none : offset - length file ≡ 0 = omega arith in
    let front : resized file offset ≡ take offset file = ap (λ (n : ℕ). take offset file ++ replicate n 0) none ∙ append-nil (take offset file) in
    ap (λ (l : List ℕ). l ++ byte ∷ bytes ++ drop (offset + length (byte ∷ bytes)) file) front

pub put_end : (file bytes : List ℕ) (offset : ℕ) → offset ≡ length file → put file offset bytes ≡ file ++ bytes
put_end file bytes offset is =
    put_within file bytes offset (omega arith)
    ∙ ap (λ (l : List ℕ). take offset file ++ bytes ++ l) (drop_all (offset + length bytes) file (omega arith))
    ∙ append-nil (take offset file ++ bytes)
    ∙ ap (λ (l : List ℕ). l ++ bytes) (take_all offset file (omega arith))

pub length-put_within : (file bytes : List ℕ) (offset : ℕ) → offset + length bytes ≤ length file → length (put file offset bytes) ≡ length file
length-put_within file [] offset le = refl
length-put_within file (byte ∷ bytes) offset le = omega (arith, length-put file offset byte bytes)

-- after a write to a file that was at rest, a crash leaves what was before the range
module _ (file bytes seen c : List ℕ) (offset : ℕ) (left : Leaves (after_write (at_rest file) offset bytes seen) c) where
  pub byte_kept : (p : ℕ) → p < length file → (Covers (record { from = offset; bytes = bytes }) p → ⊥) → get_or c p 0 ≡ get_or file p 0
  byte_kept p below out = left.kept p below (⊎_elim out (λ none. none))

  pub front_kept : offset ≤ length file → take offset c ≡ take offset file
  front_kept le =
      same_lists _ _ (omega (arith, length-take offset c, length-take offset file, left.no_shorter))
      (λ k d h. let below : k < offset = omega (arith, length-take offset c) in
      get_or-take offset c k d below ∙ get_or_default c k d 0 (omega (arith, left.no_shorter)) ∙ byte_kept k (omega arith) (λ covers. omega (arith, covers.0))
      ∙ get_or_default file k 0 d (omega arith) ∙ sym (get_or-take offset file k d below))

  -- and what was after it, if the file didn't get longer
  pub same_length : offset + length bytes ≤ length file → length c ≡ length file
  same_length le = omega (arith, left.no_shorter, left.no_longer, length-put_within file bytes offset le)

  pub back_kept : offset + length bytes ≤ length file → drop (offset + length bytes) c ≡ drop (offset + length bytes) file
  back_kept le =
      let end = offset + length bytes in
      same_lists _ _ (omega (arith, length-drop end c, length-drop end file, same_length le))
      (λ k d h. let inside : end + k < length c = omega (arith, length-drop end c) in
      get_or-drop end c k d ∙ get_or_default c (end + k) d 0 inside ∙ byte_kept (end + k) (omega (arith, same_length le)) (λ covers. omega (arith, covers.1))
      ∙ get_or_default file (end + k) 0 d (omega (arith, same_length le)) ∙ sym (get_or-drop end file k d))
