-- Line feeds in bytes of which a front was searched.
use Rattle.std.proofs.Common.{◌≡◌, ℕ, ◌+◌, ◌-◌, ◌<◌, ◌≤◌, List, [], ◌∷◌, ◌++◌, length, take, drop, get_or, suc, sym, ◌∙◌, ap, subst, arith, append_assoc}
use Rattle.std.specs.List.{Contains}
use Rattle.std.proofs.lemmas.List.{take-append-drop, length-take, drop_at, drop-drop, take_rest, get_or_at, length-append, length_push}
use lib.Seq.{take-add}
use Prim.Native.Nat.{zero}
use Rattle.client_frames.specs.Heads.{Lacks}
use Rattle.client_desks.specs.Lines.{IsLineFeedAt, TakesFirstLine}
use Rattle.client_desks.specs.declared.line_buffer.NextLine.TheVariants.{Whole}
use Rattle.client_desks.specs.declared.line_buffer.TheConstants.{LINE_BYTES}

pub lacks_append : (a b : List ℕ) → Lacks 10 a → Lacks 10 b → Lacks 10 (a ++ b)
lacks_append [] b la lb = lb
lacks_append (y ∷ a) b la lb = (la.0, lacks_append a b la.1 lb)

-- none is in bytes if none is in the front nor after it
pub none_after : (skip : ℕ) (bytes : List ℕ) → Lacks 10 (take skip bytes) → Lacks 10 (drop skip bytes) → Lacks 10 bytes
none_after skip bytes front back =
    subst (Lacks 10) (take-append-drop skip bytes) (lacks_append (take skip bytes) (drop skip bytes) front back)

-- the first one after a front that has none is the first one
pub first_after : (skip at : ℕ) (bytes rest : List ℕ) → Lacks 10 (take skip bytes) → Lacks 10 (take at (drop skip bytes)) → drop skip bytes ≡ take at (drop skip bytes) ++ 10 ∷ rest → IsLineFeedAt bytes (skip + at)
first_after skip at bytes rest front back e =
    let joined : take (skip + at) bytes ≡ take skip bytes ++ take at (drop skip bytes) = take-add skip at bytes in (
      subst (Lacks 10) (sym joined) (lacks_append (take skip bytes) (take at (drop skip bytes)) front back),
      (
        rest,
        sym (take-append-drop skip bytes)
            ∙ ap (λ (l : List ℕ). take skip bytes ++ l) e
            ∙ sym (append_assoc (take skip bytes) (take at (drop skip bytes)) (10 ∷ rest))
            ∙ ap (λ (l : List ℕ). l ++ 10 ∷ rest) (sym joined),
      ),
    )

-- what is left of bytes after a front that was taken, and another that was searched
left_after : (start skip : ℕ) (items : List ℕ) → take (length items - (start + skip)) (drop (start + skip) items) ≡ drop skip (drop start items)
left_after start skip items = take_rest items (start + skip) ∙ sym (drop-drop skip start items)

pub none_left : (start skip : ℕ) (items : List ℕ) → Lacks 10 (take skip (drop start items)) → Lacks 10 (take (length items - (start + skip)) (drop (start + skip) items)) → Lacks 10 (drop start items)
none_left start skip items front back = none_after skip (drop start items) front (subst (Lacks 10) (left_after start skip items) back)

pub first_left : (start skip at : ℕ) (items : List ℕ) → Lacks 10 (take skip (drop start items)) → Lacks 10 (take at (take (length items - (start + skip)) (drop (start + skip) items))) → take (length items - (start + skip)) (drop (start + skip) items) ≡ take at (take (length items - (start + skip)) (drop (start + skip) items)) ++ 10 ∷ drop (at + 1) (take (length items - (start + skip)) (drop (start + skip) items)) → IsLineFeedAt (drop start items) (skip + at)
first_left start skip at items front back e =
    let left = left_after start skip items in
    first_after skip at (drop start items) (drop (at + 1) (drop skip (drop start items))) front
    (subst (λ (l : List ℕ). Lacks 10 (take at l)) left back)
    (subst (λ (l : List ℕ). l ≡ take at l ++ 10 ∷ drop (at + 1) l) left e)

-- what is before it has as many bytes as its place says
before_it : (at : ℕ) (bytes rest : List ℕ) → bytes ≡ take at bytes ++ 10 ∷ rest → length (take at bytes) ≡ at
before_it at bytes rest e = omega (arith, length-take at bytes, length-append (take at bytes) (10 ∷ rest), ap length e)

-- it is among the bytes
pub contains_first : (at : ℕ) (bytes : List ℕ) → IsLineFeedAt bytes at → Contains bytes 10
contains_first at bytes (lacks, (rest, e)) =
    let len : length (take at bytes) ≡ at = before_it at bytes rest e in (
      at,
      omega (arith, len, length-append (take at bytes) (10 ∷ rest), ap length e),
      subst (λ (l : List ℕ). get_or l at 10 ≡ 10) (sym e) (get_or_at (take at bytes) 10 rest 10 at len),
    )

-- bytes that lack it don't contain it
pub contains_none : (bytes : List ℕ) → Lacks 10 bytes → Contains bytes 10 → ⊥
contains_none [] l (k, h, e) = absurd (omega (arith, h))
contains_none (x ∷ xs) l (zero, h, e) = l.0 e
contains_none (x ∷ xs) l (suc k, h, e) =
    let less : k < length xs = omega (arith, h) in
    contains_none xs l.1 (k, less, e)

-- the bytes up to it are a line, and the others are left
pub takes_whole : (at : ℕ) (bytes line rest : List ℕ) → IsLineFeedAt bytes at → at ≤ LINE_BYTES → line ≡ take at bytes ++ 10 ∷ [] → rest ≡ drop (at + 1) bytes → TakesFirstLine Whole bytes line rest
takes_whole at bytes line rest (lacks, (tail, e)) short l r =
    let len : length (take at bytes) ≡ at = before_it at bytes tail e in
    let whole : bytes ≡ (take at bytes ++ 10 ∷ []) ++ tail = e ∙ sym (append_assoc (take at bytes) (10 ∷ []) tail) in
    let last : length (take at bytes ++ 10 ∷ []) ≡ at + 1 = omega (arith, length_push (take at bytes) 10, len) in
    let left : drop (at + 1) bytes ≡ tail = ap (drop (at + 1)) whole ∙ drop_at (take at bytes ++ 10 ∷ []) tail (at + 1) last in (
      (take at bytes, lacks, omega (arith, len, short), l),
      cc,
    )
