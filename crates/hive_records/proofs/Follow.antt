-- Readers that follow one another.
use Rattle.std.proofs.Common.{◌≡◌, inl, inr, ℕ, List, ◌++◌, ◌∙◌, ap, sym, subst, Ok, Err, Result, None}
use Rattle.refusals.specs.declared.refusal.Refusal.{Refusal}
use Rattle.hive_tree_model.proofs.Basics.{in_front, in_back, once_front, once_back, once_apart}
use Rattle.hive_tree_model.specs.Loads.{CellMarks, Marked}
use Rattle.hive_tree_model.proofs.Loading.{marked_joined}
use Rattle.hive_records.specs.Readers.{Read, Reader, joined_if, ◌⟫◌}
use Rattle.hive_cells.specs.Bins.{Cells}
use Rattle.hive_records.specs.Follows.{Meets, Follows}

meets_later : (a b : CellMarks) (xs ys : List ℕ) → Marked a b xs → Meets b ys → Meets a (xs ++ ys)
meets_later a b xs ys m (inl h) = elim ((m.now h.0).0 h.2) [
  | inl e ↦ inl (h.0, in_back h.0 xs ys h.1, e)
  | inr i ↦ inr (λ o. once_apart h.0 xs ys o i h.1)
]
meets_later a b xs ys m (inr h) = inr (λ o. h (once_back xs ys o))

meets_front : (a : CellMarks) (xs ys : List ℕ) → Meets a xs → Meets a (xs ++ ys)
meets_front a xs ys (inl h) = inl (h.0, in_front h.0 xs ys h.1, h.2)
meets_front a xs ys (inr h) = inr (λ o. h (once_front xs ys o))

answer : {B : Type 0} → (a b c : CellMarks) (own lent : List ℕ) (q : Read B) → Marked a b own → (r : Result B Refusal) → Follows (λ cells. q) (λ at. None) b c r → Follows (λ cells. record { own = own ++ q.own; lent = lent ++ q.lent; says = q.says }) (λ at. None) a c r
answer a b c own lent q m (Ok y) h = (h.0, marked_joined a b c own q.own m h.1)
answer a b c own lent q m (Err e) (inl h) = inl h
answer a b c own lent q m (Err e) (inr (inl h)) = inr (inl h)
answer a b c own lent q m (Err e) (inr (inr h)) = inr (inr (h.0, meets_later a b own q.own m h.1))

-- whose answer it is doesn't matter, only what is read
pub with_read : {B : Type 0} → (m : Reader B) (cells : Cells) (q : Read B) → m cells ≡ q → (a c : CellMarks) (r : Result B Refusal) → Follows (λ z. q) (λ at. None) a c r → Follows m cells a c r
with_read {B} m cells q e a c (Ok y) h = subst (λ (z : Read B). (z.says ≡ Ok y) × Marked a c z.own) (sym e) h
with_read {B} m cells q e a c (Err f) (inl h) = inl h
with_read {B} m cells q e a c (Err f) (inr (inl h)) = inr (inl (ap (λ (z : Read B). z.says) e ∙ h))
with_read {B} m cells q e a c (Err f) (inr (inr h)) = inr (inr (h.0, subst (λ (z : Read B). Meets a z.own) (sym e) h.1))

pub as_read : {B : Type 0} → (m : Reader B) (cells : Cells) (a c : CellMarks) (r : Result B Refusal) → Follows m cells a c r → Follows (λ z. m cells) (λ at. None) a c r
as_read m cells a c (Ok y) h = h
as_read m cells a c (Err f) h = h

module _ {A B : Type 0} where
  -- what was read first, and then what follows it
  first_ok : (own lent : List ℕ) (s : Result A Refusal) (g : A → Read B) (x : A) → s ≡ Ok x → joined_if own lent s g ≡ record { own = own ++ (g x).own; lent = lent ++ (g x).lent; says = (g x).says }
  first_ok own lent s g x e = ap (λ r. joined_if own lent r g) e

  first_err : (own lent : List ℕ) (s : Result A Refusal) (g : A → Read B) (r : Refusal) → s ≡ Err r → (joined_if own lent s g).says ≡ Err r
  first_err own lent s g r e = ap (λ (z : Result A Refusal). (joined_if own lent z g).says) e

  first_meets : (a : CellMarks) (own lent : List ℕ) (s : Result A Refusal) (g : A → Read B) → Meets a own → Meets a (joined_if own lent s g).own
  first_meets a own lent (Ok x) g h = meets_front a own (g x).own h
  first_meets a own lent (Err r) g h = h

  pub follows_on : (m : Reader A) (f : A → Reader B) (cells : Cells) (a b c : CellMarks) (x : A) (r : Result B Refusal) → Follows m cells a b (Ok x) → Follows (f x) cells b c r → Follows (m ⟫ f) cells a c r
  unfolding ◌⟫◌
  follows_on m f cells a b c x r h g = with_read (m ⟫ f) cells _ (first_ok (m cells).own (m cells).lent (m cells).says (λ y. f y cells) x h.0) a c r
      (answer a b c (m cells).own (m cells).lent (f x cells) h.1 r (as_read (f x) cells b c r g))

  pub follows_out : (m : Reader A) (f : A → Reader B) (cells : Cells) (a b c : CellMarks) (e : Refusal) → Follows m cells a b (Err e) → Follows (m ⟫ f) cells a c (Err e)
  unfolding ◌⟫◌
  follows_out m f cells a b c e (inl h) = inl h
  follows_out m f cells a b c e (inr (inl h)) = inr (inl (first_err (m cells).own (m cells).lent (m cells).says (λ y. f y cells) e h))
  follows_out m f cells a b c e (inr (inr h)) = inr (inr (h.0, first_meets a (m cells).own (m cells).lent (m cells).says (λ y. f y cells) h.1))
