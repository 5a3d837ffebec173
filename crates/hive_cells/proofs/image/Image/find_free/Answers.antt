use Rattle.std.proofs.Common.{◌≡◌, ◌/◌, ℕ, List, length, refl, ap, subst, ◌∙◌, arith}
use Rattle.hive_cells.specs.Bins.{Bins}
use Rattle.hive_cells.specs.Starts.{HasStartBits, AreBounds, AllBelow}
use Rattle.hive_cells.proofs.Lookups.{none_free}
use Rattle.hive_cells.proofs.image.Image.find_free.Goals as goal

pub returns-clause-found : goal.returns-clause-found
returns-clause-found c =
    let now = c.args.self.now.bytes in
    let free = c.loop-page.self-inside.free in
    let seen : c.self.inside.bytes.items ≡ now = ap (λ (b : Bins). b.bytes) c.self.view_is in
    let items : c.loop-page.self-inside.bytes.items ≡ c.self.inside.bytes.items = rw c.loop-page.invariant.bytes refl in
    let upto : c.len-pages.result / 4096 ≡ length now / 4096 = omega (arith, c.len-pages.ensures, c.self.inside.bytes.ok.0, ap length seen) in
    none_free now c.self.inside.starts.items free c.args.size c.loop-page.from
    (subst (λ (x : List ℕ). HasStartBits x c.self.inside.starts.items) seen c.self.invariant.indexed.cells)
    (subst (λ (x : List ℕ). AreBounds x free) (items ∙ seen) c.loop-page.invariant.bounds)
    c.loop-page.invariant.below
    (subst (λ (n : ℕ). AllBelow free c.loop-page.from n c.args.size) upto c.in_default.ensures)
