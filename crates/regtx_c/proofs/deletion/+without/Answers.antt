-- The last name's key goes with all below it; on the way to it all else stays.
use Rattle.std.proofs.Common.{◌≡◌, ℕ, List, ◌∷◌, length, Some, sym, ap, ◌∙◌, arith}
use Rattle.std.specs.Ordering.{eq_by_cmp}
use Rattle.reg_names.specs.Names.{folded, folded_path}
use Rattle.reg_tree_parts.specs.Orders.{name_order}
use Rattle.reg_tree_parts.specs.Nodes.{row_at, root_name}
use Rattle.key_walk.proofs.Subtrees.{empty_path}
use Rattle.regtx_c.specs.Deletions.{row_without}
use Rattle.regtx_c.proofs.Deletions.{inner_rows, last_rows}
use Rattle.regtx_c.proofs.deletion.+without.Goals as goal

pub returns-in_default-clause-rows : goal.returns-in_default-clause-rows
returns-in_default-clause-rows t c =
    let n = folded c.args.name.now in
    let node = c.args.node.now in
    let left = c.in_ok-left in
    let empty = empty_path c.args.further.now c.in_default.ensures.cases in
    λ path. last_rows n c.args.moment node left.left c.key.result.now c.key.ensures.here (left.ensures.here ∙ ap Some c.in_ok-key.ensures) left.ensures.gone left.ensures.others path
    ∙ ap (λ (names : List (List ℕ)). row_without (n ∷ folded_path names) c.args.moment path (row_at node path)) (sym empty)

pub without-requires : goal.without-requires
without-requires t c =
    let further = c.in-Some.ensures.cases.0 in
    let n = folded c.args.name.now in (
      omega (arith, c.decreases, ap length further),
      λ none. c.requires.there (ap (λ (names : List (List ℕ)). row_at c.args.node.now (n ∷ folded_path names)) further ∙ c.in-Some-child.ensures.found (folded c.in-Some.next.now ∷ folded_path c.in-Some.rest.now) ∙ none),
    )

pub returns-clause-rows : goal.returns-clause-rows
returns-clause-rows t c =
    let n = folded c.args.name.now in
    let node = c.args.node.now in
    let made = c.in_ok-made in
    let below = c.in_ok-below in
    let named : root_name below.below ≡ n = below.ensures.root ∙ c.in-Some-child.ensures.named in
    λ path. inner_rows n (folded c.in-Some.next.now) (folded_path c.in-Some.rest.now) c.args.moment node made.made c.in-Some-child.child.now below.below
    (made.ensures.here ∙ ap Some c.in_ok-key-2.ensures ∙ sym c.key-2.ensures.here)
    (λ r. ap (λ (x : List ℕ). row_at made.made (x ∷ r)) (sym named) ∙ made.ensures.child r)
    (λ m r off. made.ensures.others m r (ap (λ (x : List ℕ). eq_by_cmp name_order m x) named ∙ off))
    c.in-Some-child.ensures.found below.ensures.rows path
    ∙ ap (λ (names : List (List ℕ)). row_without (n ∷ folded_path names) c.args.moment path (row_at node path)) (sym c.in-Some.ensures.cases.0)
