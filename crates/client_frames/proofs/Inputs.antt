-- What is known of an input after a part of it was read.
use Rattle.std.proofs.Common.{◌≡◌, ℕ, ◌+◌, ◌<◌, ◌≤◌, List, [], ◌∷◌, ◌++◌, length, Some, None, Ok, Err, sym, ◌∙◌, ap, subst, arith, inr}
use Rattle.std.specs.Prelude.{Option, ◌⊎◌, Result, IfSome, IfOk, IfErr, IsErr, MatchOption}
use Rattle.std.specs.Option.{ok_or}
use Rattle.std.specs.Io.KnownBytes.{Consumes, IsAtEnd}
use Rattle.std.proofs.KnownBytes.{Consumes-trans}
use Rattle.std.proofs.lemmas.List.{append-nil, append_assoc, length-append}
use Rattle.client_frames.specs.Frames.{IsFrame, head_of, payload, encode}
use Rattle.client_frames.specs.Heads.{IsFrameHead, IsPieceLength, IsNoHead, Lacks, head_text}
use Rattle.client_frames.specs.Readings.{HasReading, IsByChance, GiveNoFrame, IsRestRefused, IsPieceRefused}
use Rattle.client_frames.specs.declared.frame.Frame.{Frame}
use Rattle.client_frames.specs.declared.frame_error.FrameError.{FrameError}
use Rattle.client_frames.specs.declared.frame_error.FrameError.TheVariants.{Ended, Broken, NotFrame, NoMemory, Unreadable}
use Rattle.client_frames.specs.declared.head.Head.{Head}
use Rattle.client_frames.specs.declared.head.Head.TheVariants.{Data}
use Rattle.client_frames.specs.declared.place.TheConstants.{LAST_PLACE}
use Rattle.client_frames.specs.declared.head.TheConstants.{LONGEST_HEAD}
use Rattle.client_frames.proofs.Cuts.{cut_once, lacks_none, not_within, not_nil}
use Rattle.client_frames.proofs.HeadTexts.{frame_of, head_lacks, head_short}
use Rattle.client_frames.proofs.Apart.{one_reading}

-- an input of which nothing is left is what was read of it
is_all : (bytes : List ℕ) (mid : Option (List ℕ)) (front : List ℕ) → Consumes (Some bytes) mid front → IsAtEnd mid → bytes ≡ front
is_all bytes None front p q = absurd p
is_all bytes (Some rest) front p q = p ∙ ap (λ (l : List ℕ). front ++ l) q ∙ append-nil front

pub ended : (known mid : Option (List ℕ)) → Consumes known mid [] → IsAtEnd mid → IsAtEnd known
ended None mid p q = tt
ended (Some bytes) mid p q = is_all bytes mid [] p q

pub long_text : (known mid : Option (List ℕ)) (front : List ℕ) → Consumes known mid front → LONGEST_HEAD < length front → Lacks 10 front → IfSome known (λ bytes. GiveNoFrame bytes NotFrame)
long_text None mid front p long lacks = tt
long_text (Some bytes) None front p long lacks = absurd p
long_text (Some bytes) (Some rest) front p long lacks =
    let whole : length bytes ≡ length front + length rest = ap length p ∙ length-append front rest in
    ((λ e. omega (arith, long, whole, ap length e)), (λ w. omega (arith, long, whole, w.1)), λ f tail begin. not_within 10 (head_text (head_of f)) tail front rest lacks (sym begin.1 ∙ p) (omega (arith, long, head_short (head_of f) begin.0)))

-- a text that was read and is no head begins no frame
no_frame : (known after : Option (List ℕ)) (text : List ℕ) → Consumes known after (text ++ 10 ∷ []) → Lacks 10 text → IsNoHead text → IfSome known (λ bytes. GiveNoFrame bytes NotFrame)
no_frame None after text p l none = tt
no_frame (Some bytes) None text p l none = absurd p
no_frame (Some bytes) (Some rest) text p l none =
    let whole : bytes ≡ text ++ 10 ∷ rest = p ∙ append_assoc text (10 ∷ []) rest in (
      (λ e. not_nil text 10 rest (sym whole ∙ e)),
      (λ w. lacks_none 10 text rest (subst (Lacks 10) whole w.2)),
      λ f tail begin. let front = cut_once 10 text rest (head_text (head_of f)) tail l (head_lacks (head_of f) begin.0) (sym whole ∙ begin.1) in
          none (head_of f) begin.0 front.0,
    )

pub no_head : (known after : Option (List ℕ)) (r : Option Head) (text : List ℕ) → Consumes known after (text ++ 10 ∷ []) → Lacks 10 text → MatchOption r (IsNoHead text) (λ h. IsFrameHead h × (text ≡ head_text h)) → IfErr (ok_or r NotFrame) (λ why. IfSome known (λ bytes. GiveNoFrame bytes why))
no_head known after None text p l none = no_frame known after text p l none
no_head known after (Some h) text p l is = tt

-- why a frame of bytes isn't read after its head
piece_why : (place count : ℕ) (bytes : List ℕ) (why : FrameError) → place ≤ LAST_PLACE → IsPieceLength count → IsPieceRefused count bytes why → IsRestRefused (Data place count) bytes why
piece_why place count bytes Ended p c e = absurd e
piece_why place count bytes Broken p c e = let f = frame_of place count p c in (f.0, f.1, f.2, omega (arith, e, f.3))
piece_why place count bytes NotFrame p c e = absurd e
piece_why place count bytes NoMemory p c e = let f = frame_of place count p c in (f.0, f.1, f.2, omega (arith, c.0, f.3))
piece_why place count bytes Unreadable p c e = tt

piece_known : (known : Option (List ℕ)) (place count : ℕ) (why : FrameError) → place ≤ LAST_PLACE → IsPieceLength count → IfSome known (λ bytes. IsPieceRefused count bytes why) → IfSome known (λ bytes. IsRestRefused (Data place count) bytes why)
piece_known None place count why p c e = tt
piece_known (Some bytes) place count why p c e = piece_why place count bytes why p c e

pub piece_refused : (known : Option (List ℕ)) (h : Head) (place count : ℕ) (r : Result Frame FrameError) → h ≡ Data place count → IsFrameHead h → IfErr r (λ why. IfSome known (λ bytes. IsPieceRefused count bytes why)) → IfErr r (λ why. IfSome known (λ bytes. IsRestRefused h bytes why))
piece_refused known h place count (Ok f) same is e = tt
piece_refused known h place count (Err why) same is e =
    let ok = subst IsFrameHead same is in
    subst (λ (k : Head). IfSome known (λ bytes. IsRestRefused k bytes why)) (sym same) (piece_known known place count why ok.0 ok.1 e)

-- what isn't read after a head isn't read of the input
pub no_rest_of : (known mid : Option (List ℕ)) (h : Head) (why : FrameError) → Consumes known mid (head_text h ++ 10 ∷ []) → IfSome mid (λ bytes. IsRestRefused h bytes why) → IfSome known (λ bytes. GiveNoFrame bytes why)
no_rest_of None mid h why p e = tt
no_rest_of (Some bytes) None h why p e = absurd p
no_rest_of (Some bytes) (Some rest) h Ended p e = absurd e
no_rest_of (Some bytes) (Some rest) h Broken p (f, isf, same, short) = inr (f, rest, (isf, p ∙ append_assoc (head_text h) (10 ∷ []) rest ∙ ap (λ (k : Head). head_text k ++ 10 ∷ rest) (sym same)), short)
no_rest_of (Some bytes) (Some rest) h NotFrame p e = absurd e
no_rest_of (Some bytes) (Some rest) h NoMemory p (f, isf, same, some) = (f, rest, (isf, p ∙ append_assoc (head_text h) (10 ∷ []) rest ∙ ap (λ (k : Head). head_text k ++ 10 ∷ rest) (sym same)), some)
no_rest_of (Some bytes) (Some rest) h Unreadable p e = tt

-- a head and what follows it are a frame
pub joined : (known mid after : Option (List ℕ)) (h : Head) (f : Frame) → head_of f ≡ h → Consumes known mid (head_text h ++ 10 ∷ []) → Consumes mid after (payload f) → Consumes known after (encode f)
joined known mid after h f same p q =
    subst (Consumes known after) (append_assoc (head_text h) (10 ∷ []) (payload f) ∙ ap (λ (k : Head). head_text k ++ 10 ∷ payload f) (sym same)) (Consumes-trans known mid after (head_text h ++ 10 ∷ []) (payload f) p q)

reads_frame : (known after : Option (List ℕ)) (f : Frame) → IsFrame f → Consumes known after (encode f) → IfSome known (λ bytes. HasReading bytes (Ok f))
reads_frame None after f isf p = tt
reads_frame (Some bytes) None f isf p = absurd p
reads_frame (Some bytes) (Some rest) f isf p = (isf, rest, p)

-- what an input is read as, if its head was read
pub read_after : (known mid after : Option (List ℕ)) (h : Head) (r : Result Frame FrameError) → Consumes known mid (head_text h ++ 10 ∷ []) → IfOk r (λ f. IsFrame f × (head_of f ≡ h) × Consumes mid after (payload f)) → IfErr r (λ why. IfSome mid (λ bytes. IsRestRefused h bytes why)) → IfSome known (λ bytes. HasReading bytes r)
read_after known mid after h (Ok f) p is e = reads_frame known after f is.0 (joined known mid after h f is.1 p is.2)
read_after known mid after h (Err why) p is e = no_rest_of known mid h why p e

-- and if it wasn't
pub read_none : (known : Option (List ℕ)) (r : Result Frame FrameError) → IsErr r → IfErr r (λ why. IfSome known (λ bytes. GiveNoFrame bytes why)) → IfSome known (λ bytes. HasReading bytes r)
read_none known (Ok f) is e = cc
read_none known (Err why) is e = e

-- what an input is read as is what it may be read as
pub exactly : (known : Option (List ℕ)) (result : Result Frame FrameError) → IfSome known (λ bytes. HasReading bytes result) → (bytes : List ℕ) (wanted : Result Frame FrameError) → known ≡ Some bytes → HasReading bytes wanted → IsByChance result ⊎ (IsByChance wanted ⊎ (result ≡ wanted))
exactly known result is bytes wanted e may =
    one_reading bytes result wanted (subst (λ (k : Option (List ℕ)). IfSome k (λ bytes. HasReading bytes result)) e is) may
