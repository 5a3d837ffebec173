-- What writing makes, one thing after another.
use Rattle.std.proofs.Common.{◌≡◌, inl, inr, ℕ, ◌≤◌, List, [], ◌∷◌, ◌++◌, length, flat_map, refl, sym, ◌∙◌, ap, subst, arith, append-nil, Option, Some, None, IsSome, is_some}
use Rattle.std.specs.List.{AllByRecursion}
use Rattle.std.proofs.lemmas.Grind.{flat_map-append}
use Rattle.hive_cells.specs.Bins.{Cells}
use Rattle.hive_tree_model.specs.Lists.{IsIn}
use Rattle.hive_tree_model.specs.Cells.{Grows}
use Rattle.hive_tree_model.proofs.Basics.{in_either, once_joined}
use Rattle.hive_records.specs.Fields.{CellHolds}
use Rattle.hive_emit.specs.CellWrites.{Makes, Adds, Lists}

pub some_not : {A : Type 0} (o : Option (List ℕ)) → IsSome o → o ≡ None → A
some_not None h e = absurd (let no : ⊥ = cc in no)
some_not (Some its) h e = absurd (let no : ⊥ = cc in no)

pub grows_on : (a b c : Cells) → Grows a b → Grows b c → Grows a c
grows_on a b c g h cell there = h cell (ap is_some (g cell there) ∙ there) ∙ g cell there

pub grows_none : (a : Cells) → Grows a a
grows_none a cell there = refl

pub made_then : (a b c : List ℕ) (P Q R : Cells → Cells → Type 0) → Makes a b P → Makes b c Q → ((x y z : Cells) → Grows x y → Grows y z → P x y → Q y z → R x z) → Makes a c R
made_then a b c P Q R m n on = record {
  cells = λ before shows.
      let x = m.cells before shows in
      let y = n.cells x.0 x.1 in
      (y.0, y.1, grows_on before x.0 y.0 x.2 y.2, on before x.0 y.0 x.2 y.2 x.3 y.3);
  longer = let e : length a ≤ length b = m.longer in let f : length b ≤ length c = n.longer in omega arith;
}

pub made_as : (a b : List ℕ) (P R : Cells → Cells → Type 0) → Makes a b P → ((x y : Cells) → Grows x y → P x y → R x y) → Makes a b R
made_as a b P R m on = record {
  cells = λ before shows. let x = m.cells before shows in (x.0, x.1, x.2, on before x.0 x.2 x.3);
  longer = m.longer;
}

pub made_none : (a : List ℕ) (R : Cells → Cells → Type 0) → ((x : Cells) → R x x) → Makes a a R
made_none a R is = record { cells = λ before shows. (before, shows, grows_none before, is before); longer = omega arith }

-- what is there stays
pub holds_grown : (y z : Cells) (at : ℕ) (encoding : List ℕ) → Grows y z → CellHolds y at encoding → CellHolds z at encoding
holds_grown y z at encoding g h = (h.0, g at (ap is_some h.1) ∙ h.1)

pub there_grown : (y z : Cells) (own : List ℕ) → Grows y z → ((cell : ℕ) → IsIn cell own → IsSome (y cell)) → (cell : ℕ) → IsIn cell own → IsSome (z cell)
there_grown y z own g there cell i = ap is_some (g cell (there cell i)) ∙ there cell i

new_before : (x y : Cells) → Grows x y → (cell : ℕ) → y cell ≡ None → x cell ≡ None
new_before x y g cell none = go (x cell) refl
  where
    go : (o : Option (List ℕ)) → x cell ≡ o → x cell ≡ None
    go None e = e
    go (Some its) e = some_not (y cell) (ap is_some (g cell (ap is_some e) ∙ e)) none

pub adds_none : (x y : Cells) → Adds x y []
adds_none x y = record { once = tt; fresh = λ cell i. absurd i; there = λ cell i. absurd i }

pub adds_then : (x y z : Cells) (own more : List ℕ) → Grows x y → Grows y z → Adds x y own → Adds y z more → Adds x z (own ++ more)
adds_then x y z own more g h a b = record {
  once = once_joined own more a.once b.once (λ cell i j. some_not (y cell) (a.there cell i) (b.fresh cell j));
  fresh = λ cell i. elim (in_either cell own more i) [ inl j ↦ a.fresh cell j | inr j ↦ new_before x y g cell (b.fresh cell j) ];
  there = λ cell i. elim (in_either cell own more i) [ inl j ↦ there_grown y z own h a.there cell j | inr j ↦ b.there cell j ];
}

pub adds_ahead : (x y z : Cells) (own more : List ℕ) → Grows x y → Grows y z → Adds x y own → Adds y z more → Adds x z (more ++ own)
adds_ahead x y z own more g h a b = record {
  once = once_joined more own b.once a.once (λ cell j i. some_not (y cell) (a.there cell i) (b.fresh cell j));
  fresh = λ cell i. elim (in_either cell more own i) [ inl j ↦ new_before x y g cell (b.fresh cell j) | inr j ↦ a.fresh cell j ];
  there = λ cell i. elim (in_either cell more own i) [ inl j ↦ b.there cell j | inr j ↦ there_grown y z own h a.there cell j ];
}

-- a list of things, and one more
pub all_push : {A : Type 0} (P : A → Type 0) (xs : List A) (x : A) → AllByRecursion P xs → P x → AllByRecursion P (xs ++ x ∷ [])
all_push P [] x h p = (p, tt)
all_push P (y ∷ xs) x h p = (h.0, all_push P xs x h.1 p)

pub all_as : {A : Type 0} (P Q : A → Type 0) (xs : List A) → ((x : A) → P x → Q x) → AllByRecursion P xs → AllByRecursion Q xs
all_as P Q [] on h = tt
all_as P Q (x ∷ xs) on h = (on x h.0, all_as P Q xs on h.1)

pub flat_push : {A : Type 0} (own : A → List ℕ) (items : List A) (item : A) → flat_map own (items ++ item ∷ []) ≡ flat_map own items ++ own item
flat_push own items item = flat_map-append own items (item ∷ []) ∙ ap (λ xs. flat_map own items ++ xs) (append-nil (own item))

pub lists_none : {A : Type 0} (Is : Cells → A → Type 0) (own : A → List ℕ) (x : Cells) → Lists Is own [] x x
lists_none Is own x = record { all = tt; adds = adds_none x x }

pub lists_more : {A : Type 0} (Is : Cells → A → Type 0) (own : A → List ℕ) (items : List A) (item : A) (x y z : Cells) → ((a : A) → Is y a → Is z a) → Grows x y → Grows y z → Lists Is own items x y → Is z item → Adds y z (own item) → Lists Is own (items ++ item ∷ []) x z
lists_more Is own items item x y z stay g h l is a = record {
  all = all_push (Is z) items item (all_as (Is y) (Is z) items stay l.all) is;
  adds = subst (Adds x z) (sym (flat_push own items item)) (adds_then x y z (flat_map own items) (own item) g h l.adds a);
}
