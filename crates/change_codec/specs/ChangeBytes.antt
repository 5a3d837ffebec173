-- The bytes of an encoded change, inline or on the heap.
use Rattle.std.specs.Prelude.{ℕ, ◌≤◌, List, take}
use Rattle.change_codec.specs.declared.encoded_change.Repr.{Repr}
use Rattle.change_codec.specs.declared.encoded_change.Repr.TheVariants.{Inline, Heap}
use Rattle.change_codec.specs.declared.encoded_change.TheConstants.{INLINE_CAPACITY}

-- of the inline bytes only the first ones are of the encoding
abbrev pub bytes_of : Repr → List ℕ
bytes_of (Inline len here) = take len here
bytes_of (Heap bytes) = bytes.items

-- this many fit inline
abbrev pub FitsInline : Repr → Type 0
FitsInline (Inline len here) = len ≤ INLINE_CAPACITY
FitsInline (Heap bytes) = Unit {0}
