-- What a read gives of each file is one of the contents that a crash may leave.
use Rattle.std.specs.Prelude.{◌==◌, ℕ, nat_le, if◌then◌else◌, Bool, true, false, List, [], ◌∷◌, length, refl}
use Rattle.std.proofs.Common.{inr}
use Rattle.disk_model.specs.FileState.{FileState, IsSound}
use Rattle.disk_model.specs.MemSound.{sound-at_rest}
use Rattle.disk_model.proofs.Sound.{sound-after_write, sound-writes, sound-may_cut, sound-cuts}
use Rattle.file_disk.specs.declared.record.Call.{Call}
use Rattle.file_disk.specs.declared.record.Call.TheVariants as call
use Rattle.file_disk.specs.Records.{Allows, AreFaithful, Seen, after, bytes_in, changed, states}

sound_changed : (file : ℕ) (new : FileState) (state : ℕ → FileState) → IsSound new → ((f : ℕ) → IsSound (state f)) → (f : ℕ) → IsSound (changed file new state f)
sound_changed file new state here all f = by_place (f == file)
  where
    by_place : (same : Bool) → IsSound (if same then new else state f)
    by_place true = here
    by_place false = all f

sound_after : (last : Call) (torn : List ℕ) (state : ℕ → FileState) → Allows last torn state → ((f : ℕ) → IsSound (state f)) → (f : ℕ) → IsSound (after last torn state f)
sound_after (call.Measured file told) torn state allows all = all
sound_after (call.Read file offset before later count) torn state allows all = all
sound_after (call.Written file offset bytes true) torn state allows all = sound_changed file _ state (sound-after_write (state file) offset (bytes_in bytes.value) torn (all file) allows) all
sound_after (call.Written file offset bytes false) torn state allows all = sound_changed file _ state (sound-writes (state file) _ offset (bytes_in bytes.value) (all file) refl) all
sound_after (call.Cut file length true) torn state allows all = sound_changed file _ state (sound-may_cut (state file) _ length (all file) (inr (torn, allows, refl))) all
sound_after (call.Cut file length false) torn state allows all = sound_changed file _ state (sound-cuts (state file) _ length (all file) refl) all
sound_after (call.Synced file) torn state allows all = sound_changed file _ state (sound-at_rest (state file).seen) all
sound_after call.Denied torn state allows all = all

by_moment : (seen : Seen) (last : Call) (calls : List Call) (k f : ℕ) (past : Bool) → IsSound (states seen calls k f) → IsSound (after last (seen.torn (length calls)) (states seen calls (length calls)) f)
    → IsSound (if past then states seen calls k f else after last (seen.torn (length calls)) (states seen calls (length calls)) f)
by_moment seen last calls k f true was is = was
by_moment seen last calls k f false was is = is

pub sound_states : (seen : Seen) (calls : List Call) → AreFaithful seen calls → (k f : ℕ) → IsSound (states seen calls k f)
unfolding states AreFaithful
sound_states seen [] faithful k f = sound-at_rest (seen.first f)
sound_states seen (last ∷ calls) faithful k f =
    by_moment seen last calls k f (nat_le k (length calls)) (sound_states seen calls faithful.0 k f) (sound_after last (seen.torn (length calls)) (states seen calls (length calls)) faithful.1 (sound_states seen calls faithful.0 (length calls)) f)
