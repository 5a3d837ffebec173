-- What a handle owns: a block of the heap with a tree and a way in it, or nothing.
use Rattle.std.specs.Prelude.{Bool, true, false, List, [], ◌∷◌, Option, Some, None}
use base.Fml.{Fml, ftrue}
use denote.RawPtr.{Ptr}
use mir.Syntax.{Ty}
use Rattle.std.specs.contracts.impls.GlobalAllocator.TheImpl.{ghosts}
use Rattle.std.specs.Box.Ownership.{box_owns}
use Rattle.regtx_c.specs.contracts.block.Block.{the_row}

-- what a block contains, or none: the empty list is none, of any other list the first element counts
abbrev pub Maybe : Type 0
Maybe = List (the_row.Denot)

abbrev pub has_one : Maybe → Bool
has_one [] = false
has_one (block ∷ blocks) = true

-- it, if there is one
abbrev pub first : Maybe → Option (the_row.Denot)
first [] = None
first (block ∷ blocks) = Some block

-- the right to free a block of the heap, which no handle to the heap tells apart
abbrev pub freed : Ty → Ptr → Fml
freed = ghosts.dealloc_token (record { memory = record { seal = tt } })

-- the block at `p` that contains it, with the right to free it
abbrev pub held : Ptr → Maybe → Fml
held p [] = ftrue
held p (block ∷ blocks) = box_owns freed the_row p block
