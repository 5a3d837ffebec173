-- Frames that were read, one after the other.
use Rattle.std.proofs.Common.{◌≡◌, ℕ, List, [], ◌∷◌, ◌++◌, Ok, Err, subst, true, false}
use Rattle.std.specs.Prelude.{Option, Result, OnOk}
use Rattle.std.specs.List.{AllByRecursion}
use Rattle.std.specs.Result.{is_err}
use Rattle.std.specs.Io.KnownBytes.{Consumes}
use Rattle.std.proofs.KnownBytes.{Consumes-trans}
use Rattle.std.proofs.lemmas.List.{flat_map_more}
use Rattle.client_frames.specs.Frames.{encode, encode_all}
use Rattle.client_frames.specs.declared.frame.Frame.{Frame}
use Rattle.client_desks.specs.Deliveries.{IsToPlaceBelow}

one_more : (count : ℕ) (frames : List Frame) (frame : Frame) → AllByRecursion (IsToPlaceBelow count) frames → IsToPlaceBelow count frame → AllByRecursion (IsToPlaceBelow count) (frames ++ frame ∷ [])
one_more count [] frame all is = (is, tt)
one_more count (x ∷ xs) frame all is = (all.0, one_more count xs frame all.1 is)

-- one more frame was read
pub read_more : (count : ℕ) (known mid after : Option (List ℕ)) (frame : Frame) → ((frames : List Frame) × AllByRecursion (IsToPlaceBelow count) frames × Consumes known mid (encode_all frames)) → IsToPlaceBelow count frame → Consumes mid after (encode frame) → (frames : List Frame) × AllByRecursion (IsToPlaceBelow count) frames × Consumes known after (encode_all frames)
read_more count known mid after frame (frames, all, read) is more = (
  frames ++ frame ∷ [],
  one_more count frames frame all is,
  subst (Consumes known after) (flat_map_more encode [] frames frame) (Consumes-trans known mid after (encode_all frames) (encode frame) read more),
)

pub if_no_error : {A E : Type 0} (result : Result A E) (P : Type 0) → OnOk result P → is_err result ≡ false → P
if_no_error (Ok x) P is e = is
if_no_error (Err why) P is e = let bad : true ≡ false = e in cc
