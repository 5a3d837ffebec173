use Rattle.std.proofs.Common.{◌≡◌, ◌-◌, ℕ, List, [], ap, ◌∙◌, subst, arith}
use Rattle.hive_cells.specs.Bins.{Bins}
use Rattle.hive_cells.specs.Tiles.{DataRefused}
use Rattle.hive_cells.specs.Changes.{Allocates}
use Rattle.hive_emit.proofs.Rooms.{roomy_new, limit_new, not_opened, not_placed, not_freed}
use Rattle.hive_emit.proofs.emitter.room.Goals as goal

pub returns-in-Err-clause-memory : goal.returns-in-Err-clause-memory
returns-in-Err-clause-memory c = not_opened c.in-Err.unopened.refusal (subst (λ (bytes : List ℕ). DataRefused bytes c.in-Err.unopened.refusal) c.new.ensures.items c.in-Err.ensures.1)

pub returns-in-Err-alloc-clause-memory : goal.returns-in-Err-alloc-clause-memory
returns-in-Err-alloc-clause-memory c = not_placed c.in-Ok.image (c.max.result - 36) c.in-Err-alloc.why (ap (λ (b : Bins). b.bytes) c.in-Ok.ensures.0 ∙ c.new.ensures.items) (omega (arith, c.max.ensures, c.max-size.ensures, c.requires.needed, c.requires.size)) c.in-Err-alloc.ensures.allocated.1

pub returns-in-Ok-free-clause-roomy : goal.returns-in-Ok-free-clause-roomy
returns-in-Ok-free-clause-roomy c =
    let none : c.in-Ok.image.bytes ≡ [] = ap (λ (b : Bins). b.bytes) c.in-Ok.ensures.0 ∙ c.new.ensures.items in
    (roomy_new c.alloc.new.self.bytes c.free.new.self.bytes (c.max.result - 36) c.in-Ok-alloc.at c.in-Ok-free.field-0 c.args.needed
    (omega (arith, c.max.ensures, c.max-size.ensures)) (omega (arith, c.max.ensures, c.max-size.ensures, c.requires.needed, c.requires.size))
    (subst (λ (bytes : List ℕ). Allocates bytes c.alloc.new.self.bytes (c.max.result - 36) c.in-Ok-alloc.at) none c.in-Ok-alloc.ensures.allocated) c.in-Ok-free.ensures.freed).0

pub returns-in-Ok-free-clause-least : goal.returns-in-Ok-free-clause-least
returns-in-Ok-free-clause-least c =
    let none : c.in-Ok.image.bytes ≡ [] = ap (λ (b : Bins). b.bytes) c.in-Ok.ensures.0 ∙ c.new.ensures.items in
    let long = (roomy_new c.alloc.new.self.bytes c.free.new.self.bytes (c.max.result - 36) c.in-Ok-alloc.at c.in-Ok-free.field-0 c.args.needed
    (omega (arith, c.max.ensures, c.max-size.ensures)) (omega (arith, c.max.ensures, c.max-size.ensures, c.requires.needed, c.requires.size))
    (subst (λ (bytes : List ℕ). Allocates bytes c.alloc.new.self.bytes (c.max.result - 36) c.in-Ok-alloc.at) none c.in-Ok-alloc.ensures.allocated) c.in-Ok-free.ensures.freed).1 in
    omega (arith, long, c.max.ensures, c.max-size.ensures)

pub returns-in-Ok-free-clause-page : goal.returns-in-Ok-free-clause-page
returns-in-Ok-free-clause-page c =
    let none : c.in-Ok.image.bytes ≡ [] = ap (λ (b : Bins). b.bytes) c.in-Ok.ensures.0 ∙ c.new.ensures.items in
    let long = (roomy_new c.alloc.new.self.bytes c.free.new.self.bytes (c.max.result - 36) c.in-Ok-alloc.at c.in-Ok-free.field-0 c.args.needed
    (omega (arith, c.max.ensures, c.max-size.ensures)) (omega (arith, c.max.ensures, c.max-size.ensures, c.requires.needed, c.requires.size))
    (subst (λ (bytes : List ℕ). Allocates bytes c.alloc.new.self.bytes (c.max.result - 36) c.in-Ok-alloc.at) none c.in-Ok-alloc.ensures.allocated) c.in-Ok-free.ensures.freed).1 in
    omega (arith, long, c.max.ensures, c.max-size.ensures)

pub returns-in-Err-free-clause-memory : goal.returns-in-Err-free-clause-memory
returns-in-Err-free-clause-memory c =
    let none : c.in-Ok.image.bytes ≡ [] = ap (λ (b : Bins). b.bytes) c.in-Ok.ensures.0 ∙ c.new.ensures.items in
    let allocated = subst (λ (bytes : List ℕ). Allocates bytes c.alloc.new.self.bytes (c.max.result - 36) c.in-Ok-alloc.at) none c.in-Ok-alloc.ensures.allocated in
    not_freed c.alloc.new.self.bytes c.in-Ok-alloc.at c.in-Err-free.why (limit_new c.alloc.new.self.bytes (c.max.result - 36) c.in-Ok-alloc.at (omega (arith, c.max.ensures, c.max-size.ensures, c.requires.needed, c.requires.size)) allocated) allocated.begins c.in-Err-free.ensures.freed.1
