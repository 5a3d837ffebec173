-- A write or a cut that is done is also one that failed and was done.
use Rattle.std.proofs.Common.{◌≡◌, inl, inr, ℕ, ◌+◌, ◌≤◌, max, List, [], ◌∷◌, ◌++◌, length, drop, refl, arith, length-append, length-drop}
use Rattle.std.specs.Prelude.{Result, Ok, Err, OnOk, OnErr}
use Rattle.disk_model.specs.FileState.{FileState, put, resized, PutsPart, Writes, MayWrite, Cuts, MayCut}
use Rattle.disk_model.proofs.Put.{length-resized}

pub length-put : (file : List ℕ) (offset byte : ℕ) (bytes : List ℕ) → length (put file offset (byte ∷ bytes)) ≡ max (length file) (offset + length (byte ∷ bytes))
length-put file offset byte bytes =
    let all = byte ∷ bytes in
    omega (arith, length-append (resized file offset ++ all) (drop (offset + length all) file), length-append (resized file offset) all, length-resized file offset, length-drop (offset + length all) file)

pub length-le-put : (file : List ℕ) (offset : ℕ) (bytes : List ℕ) → length file ≤ length (put file offset bytes)
length-le-put file offset [] = omega arith
length-le-put file offset (byte ∷ bytes) = omega (arith, length-put file offset byte bytes)

-- all of the range is a part of it
pub puts_all : (file : List ℕ) (offset : ℕ) (bytes : List ℕ) → PutsPart offset bytes file (put file offset bytes)
puts_all file offset bytes = record { no_shorter = length-le-put file offset bytes; no_longer = omega arith; elsewhere = λ p in_new out. refl }

pub done_may_write : (offset : ℕ) (bytes : List ℕ) (old new : FileState) → Writes offset bytes old new → MayWrite offset bytes old new
done_may_write offset bytes old new done = inr (put old.seen offset bytes, puts_all old.seen offset bytes, done)

pub done_may_cut : (len : ℕ) (old new : FileState) → Cuts len old new → MayCut len old new
done_may_cut len old new done = inr (resized old.seen len, inr refl, done)

-- whichever way a call is reported
pub told_may_write : {T E : Type 0} (result : Result T E) (offset : ℕ) (bytes : List ℕ) (old new : FileState)
    → OnOk result (Writes offset bytes old new) → OnErr result (new ≡ old) → MayWrite offset bytes old new
told_may_write (Ok x) offset bytes old new done failed = done_may_write offset bytes old new done
told_may_write (Err e) offset bytes old new done failed = inl failed

pub told_may_cut : {T E : Type 0} (result : Result T E) (len : ℕ) (old new : FileState) → OnOk result (Cuts len old new) → OnErr result (new ≡ old) → MayCut len old new
told_may_cut (Ok x) len old new done failed = done_may_cut len old new done
told_may_cut (Err e) len old new done failed = inl failed
