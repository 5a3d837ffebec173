-- Frames are told apart by their encoding.
use Rattle.std.proofs.Common.{◌≡◌, ℕ, ◌≤◌, List, [], ◌∷◌, ◌++◌, length, get_or, take, drop, Ok, Err, refl, sym, ◌∙◌, ap, subst, arith, inl, inr}
use Rattle.std.specs.Prelude.{◌⊎◌, Result}
use Rattle.std.specs.Fmt.{decimal}
use Rattle.std.specs.List.{AllByRecursion}
use Rattle.std.proofs.lemmas.Fmt.{decimal_injective}
use Rattle.std.proofs.lemmas.List.{append_assoc, length-append, take_at, drop_at}
use Rattle.client_frames.specs.Frames.{IsFrame, head_of, payload, encode, encode_all}
use Rattle.client_frames.specs.Readings.{HasReading, IsByChance, GiveNoFrame, BeginWith}
use Rattle.client_frames.specs.declared.frame.Frame.{Frame}
use Rattle.client_frames.specs.declared.frame.Frame.TheVariants.{Ready, Open, Data, More, End, Gone}
use Rattle.client_frames.specs.declared.frame_error.FrameError.{FrameError}
use Rattle.client_frames.specs.declared.frame_error.FrameError.TheVariants.{Ended, Broken, NotFrame, NoMemory, Unreadable}
use Rattle.client_frames.specs.declared.place.TheConstants.{LAST_PLACE}
use Rattle.client_frames.proofs.Cuts.{cut_once, lacks_none, not_nil}
use Rattle.client_frames.proofs.Numbers.{lacks_decimal}
use Rattle.client_frames.proofs.HeadTexts.{data_text, head_lacks}
use Rattle.client_frames.specs.Heads.{IsPieceLength, Lacks, head_text}
use Rattle.client_frames.specs.declared.head.Head.TheVariants.{Data as DataHead}

abbrev head : Frame → List ℕ
head f = head_text (head_of f)

frame_lacks : (f : Frame) → IsFrame f → Lacks 10 (head f)
frame_lacks f is = head_lacks (head_of f) is

one_place : (p q : ℕ) → p ≤ LAST_PLACE → q ≤ LAST_PLACE → decimal p ≡ decimal q → p ≡ q
one_place p q a b e = decimal_injective p q (omega (arith, a)) (omega (arith, b)) e

-- the place and the count of a frame of bytes are in its head
one_data : (p q m n : ℕ) → p ≤ LAST_PLACE → q ≤ LAST_PLACE → IsPieceLength m → IsPieceLength n → head_text (DataHead p m) ≡ head_text (DataHead q n) → (p ≡ q) × (m ≡ n)
one_data p q m n a b c d e =
    let rest : decimal p ++ 32 ∷ decimal m ≡ decimal q ++ 32 ∷ decimal n = ap (drop 5) (sym (data_text p m) ∙ e ∙ data_text q n) in
    let cut = cut_once 32 (decimal p) (decimal m) (decimal q) (decimal n) (lacks_decimal 32 p (omega arith) (omega (arith, a))) (lacks_decimal 32 q (omega arith) (omega (arith, b))) rest in
    (one_place p q a b cut.0, decimal_injective m n (omega (arith, c.1)) (omega (arith, d.1)) cut.1)

-- a head says how many bytes follow it
pub same_count : (f g : Frame) → IsFrame f → IsFrame g → head f ≡ head g → length (payload f) ≡ length (payload g)
same_count Ready Ready isf isg e = refl
same_count (Open p) (Open q) isf isg e = refl
same_count (Data p xs) (Data q ys) isf isg e = (one_data p q (length xs) (length ys) isf.0 isg.0 isf.1 isg.1 e).1
same_count (More p) (More q) isf isg e = refl
same_count (End p) (End q) isf isg e = refl
same_count (Gone p) (Gone q) isf isg e = refl
same_count f g isf isg e = absurd (omega (arith, ap (λ (l : List ℕ). get_or l 0 0) e))

-- a frame is its head and the bytes that follow it
pub same_frame : (f g : Frame) → IsFrame f → IsFrame g → head f ≡ head g → payload f ≡ payload g → f ≡ g
same_frame Ready Ready isf isg e same = refl
same_frame (Open p) (Open q) isf isg e same = ap Open (one_place p q isf isg (ap (drop 5) e))
same_frame (Data p xs) (Data q ys) isf isg e same = let place : p ≡ q = (one_data p q (length xs) (length ys) isf.0 isg.0 isf.1 isg.1 e).0 in cc
same_frame (More p) (More q) isf isg e same = ap More (one_place p q isf isg (ap (drop 5) e))
same_frame (End p) (End q) isf isg e same = ap End (one_place p q isf isg (ap (drop 4) e))
same_frame (Gone p) (Gone q) isf isg e same = ap Gone (one_place p q isf isg (ap (drop 5) e))
same_frame f g isf isg e same = absurd (omega (arith, ap (λ (l : List ℕ). get_or l 0 0) e))

-- what follows the head of a frame that is encoded
pub encoded : (f : Frame) (rest : List ℕ) → encode f ++ rest ≡ head f ++ 10 ∷ (payload f ++ rest)
encoded f rest = append_assoc (head f) (10 ∷ payload f) rest

-- what begins with two heads begins with one
pub one_head : (f g : Frame) (rest tail : List ℕ) → IsFrame f → IsFrame g → head f ++ 10 ∷ rest ≡ head g ++ 10 ∷ tail → (head f ≡ head g) × (rest ≡ tail)
one_head f g rest tail isf isg e = cut_once 10 (head f) rest (head g) tail (frame_lacks f isf) (frame_lacks g isg) e

same_parts : (a b c d : List ℕ) → length a ≡ length b → a ++ c ≡ b ++ d → (a ≡ b) × (c ≡ d)
same_parts a b c d same e = (
  sym (take_at a c (length a) refl) ∙ ap (take (length a)) e ∙ take_at b d (length a) (sym same),
  sym (drop_at a c (length a) refl) ∙ ap (drop (length a)) e ∙ drop_at b d (length a) (sym same),
)

pub told_apart : (f g : Frame) (rest tail : List ℕ) → IsFrame f → IsFrame g → encode f ++ rest ≡ encode g ++ tail → (f ≡ g) × (rest ≡ tail)
told_apart f g rest tail isf isg e =
    let cut = one_head f g (payload f ++ rest) (payload g ++ tail) isf isg (sym (encoded f rest) ∙ e ∙ encoded g tail) in
    let parts = same_parts (payload f) (payload g) rest tail (same_count f g isf isg cut.0) cut.1 in
    (same_frame f g isf isg cut.0 parts.0, parts.1)

pub all_apart : (fs gs : List Frame) → AllByRecursion IsFrame fs → AllByRecursion IsFrame gs → encode_all fs ≡ encode_all gs → fs ≡ gs
all_apart [] [] isf isg e = refl
all_apart [] (g ∷ gs) isf isg e = absurd (not_nil (head g) 10 (payload g ++ encode_all gs) (sym (encoded g (encode_all gs)) ∙ sym e))
all_apart (f ∷ fs) [] isf isg e = absurd (not_nil (head f) 10 (payload f ++ encode_all fs) (sym (encoded f (encode_all fs)) ∙ e))
all_apart (f ∷ fs) (g ∷ gs) isf isg e =
    let parts = told_apart f g (encode_all fs) (encode_all gs) isf.0 isg.0 e in
    let first : f ≡ g = parts.0 in
    let rest : fs ≡ gs = all_apart fs gs isf.1 isg.1 parts.1 in
    cc

-- what begins with a frame is not refused but by chance
not_both : (bytes : List ℕ) (f : Frame) (why : FrameError) → HasReading bytes (Ok f) → GiveNoFrame bytes why → IsByChance (Err why)
not_both bytes f Ended is e = absurd (not_nil (head f) 10 (payload f ++ is.1) (sym (encoded f is.1) ∙ sym is.2 ∙ e))
not_both bytes f Broken is (inl within) = absurd (lacks_none 10 (head f) (payload f ++ is.1) (subst (Lacks 10) (is.2 ∙ encoded f is.1) within.2))
not_both bytes f Broken is (inr (g, part, begin, short)) =
    let cut = one_head f g (payload f ++ is.1) part is.0 begin.0 (sym (encoded f is.1) ∙ sym is.2 ∙ begin.1) in
    absurd (omega (arith, short, ap length cut.1, length-append (payload f) is.1, same_count f g is.0 begin.0 cut.0))
not_both bytes f NotFrame is none = absurd (none.2 f (payload f ++ is.1) (is.0, is.2 ∙ encoded f is.1))
not_both bytes f NoMemory is why = tt
not_both bytes f Unreadable is why = tt

some_bytes : (bytes : List ℕ) (f : Frame) (part : List ℕ) → BeginWith bytes f part → bytes ≡ [] → ⊥
some_bytes bytes f part begin e = not_nil (head f) 10 part (sym begin.1 ∙ e)

pub one_reading : (bytes : List ℕ) (one other : Result Frame FrameError) → HasReading bytes one → HasReading bytes other → IsByChance one ⊎ (IsByChance other ⊎ (one ≡ other))
one_reading bytes (Err NoMemory) other a b = inl tt
one_reading bytes (Err Unreadable) other a b = inl tt
one_reading bytes (Ok f) (Ok g) a b = inr (inr (ap Ok (told_apart f g a.1 b.1 a.0 b.0 (sym a.2 ∙ b.2)).0))
one_reading bytes (Ok f) (Err why) a b = inr (inl (not_both bytes f why a b))
one_reading bytes (Err why) (Ok g) a b = inl (not_both bytes g why b a)
one_reading bytes (Err why) (Err NoMemory) a b = inr (inl tt)
one_reading bytes (Err why) (Err Unreadable) a b = inr (inl tt)
one_reading bytes (Err Ended) (Err Ended) a b = inr (inr refl)
one_reading bytes (Err Ended) (Err Broken) a (inl within) = absurd (within.0 a)
one_reading bytes (Err Ended) (Err Broken) a (inr (g, part, begin, short)) = absurd (some_bytes bytes g part begin a)
one_reading bytes (Err Ended) (Err NotFrame) a b = absurd (b.0 a)
one_reading bytes (Err Broken) (Err Ended) (inl within) b = absurd (within.0 b)
one_reading bytes (Err Broken) (Err Ended) (inr (g, part, begin, short)) b = absurd (some_bytes bytes g part begin b)
one_reading bytes (Err Broken) (Err Broken) a b = inr (inr refl)
one_reading bytes (Err Broken) (Err NotFrame) (inl within) b = absurd (b.1 within)
one_reading bytes (Err Broken) (Err NotFrame) (inr (g, part, begin, short)) b = absurd (b.2 g part begin)
one_reading bytes (Err NotFrame) (Err Ended) a b = absurd (a.0 b)
one_reading bytes (Err NotFrame) (Err Broken) a (inl within) = absurd (a.1 within)
one_reading bytes (Err NotFrame) (Err Broken) a (inr (g, part, begin, short)) = absurd (a.2 g part begin)
one_reading bytes (Err NotFrame) (Err NotFrame) a b = inr (inr refl)
