-- Cells say at most one thing: from the same offsets on, the same keys.
use Rattle.std.proofs.Common.{◌≡◌, ℕ, refl, ◌∙◌, ap, sym, Ok}
use Rattle.hive_tree_model.specs.Keys.{KeyParts, KeyReader, Keys, none, key, offsets}
use Rattle.hive_tree_model.specs.Trees.{TreeOf, tree_of}
use Rattle.hive_tree_model.specs.Encodings.{CellsMatchKeys, CellsEncodeTree}
use Rattle.hive_tree_model.proofs.Basics.{ok_same, same_head, same_tail, cons_nil}

module _ {R C : Type 0} (reads : KeyReader R C) where
  pub one_parts : (at to : ℕ) (p q : KeyParts R) → at ≡ to → reads at ≡ Ok p → reads to ≡ Ok q → p ≡ q
  one_parts at to p q e r s = ok_same p q (sym r ∙ ap reads e ∙ s)

  pub one_reading : (f g : Keys R) → CellsMatchKeys reads f → CellsMatchKeys reads g → offsets f ≡ offsets g → f ≡ g
  one_reading none none a b e = refl
  one_reading none (key at p below after) a b e = cons_nil at (offsets after) (sym e)
  one_reading (key at p below after) none a b e = cons_nil at (offsets after) e
  one_reading (key at p below after) (key to q under beside) a b e =
      let same_at : at ≡ to = same_head at to (offsets after) (offsets beside) e in
      let same_parts : p ≡ q = one_parts at to p q same_at a.0 b.0 in
      let same_below : below ≡ under = one_reading below under a.2 b.2 (a.1 ∙ ap (λ (z : KeyParts R). z.subkey_list) same_parts ∙ sym b.1) in
      let same_after : after ≡ beside = one_reading after beside a.3 b.3 (same_tail at to (offsets after) (offsets beside) e) in
      λ i. key (same_at i) (same_parts i) (same_below i) (same_after i)

  pub one_tree : (root : ℕ) (t u : TreeOf R) → CellsEncodeTree reads root t → CellsEncodeTree reads root u → t ≡ u
  one_tree root t u a b =
      let same_parts : a.0 ≡ b.0 = one_parts root root a.0 b.0 refl a.2.read b.2.read in
      let same_below : a.1 ≡ b.1 = one_reading a.1 b.1 a.2.fits b.2.fits (a.2.listed ∙ ap (λ (z : KeyParts R). z.subkey_list) same_parts ∙ sym b.2.listed) in
      let trees : tree_of a.0 a.1 ≡ tree_of b.0 b.1 = λ i. tree_of (same_parts i) (same_below i) in
      a.3 ∙ trees ∙ sym b.3
