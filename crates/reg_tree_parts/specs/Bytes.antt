-- The bytes of a list that does not change, inline or on the heap.
use Rattle.std.specs.Prelude.{ℕ, ◌≤◌, List, take}
use Rattle.std.specs.Arc.{arc_slice_items}
use Rattle.reg_tree_parts.specs.declared.data.Repr.{Repr}
use Rattle.reg_tree_parts.specs.declared.data.Repr.TheVariants.{Inline, Shared}
use Rattle.reg_tree_parts.specs.declared.data.TheConstants.{INLINE_CAPACITY}

-- of the inline bytes only the first ones are of the list
abbrev pub bytes_of : Repr → List ℕ
bytes_of (Inline len here) = take len here
bytes_of (Shared bytes) = arc_slice_items bytes

-- this many fit inline
abbrev pub FitsInline : Repr → Type 0
FitsInline (Inline len here) = len ≤ INLINE_CAPACITY
FitsInline (Shared bytes) = Unit {0}
