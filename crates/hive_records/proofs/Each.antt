-- Readers joined in another order, and loops.
use Rattle.std.proofs.Common.{◌≡◌, ℕ, List, [], ◌∷◌, ◌++◌, refl, ◌∙◌, ap, sym, subst, Ok, Err, Result, append_assoc, append-nil}
use Rattle.refusals.specs.declared.refusal.Refusal.{Refusal}
use Rattle.hive_tree_model.specs.Loads.{CellMarks}
use Rattle.hive_tree_model.proofs.Loading.{none_marked}
use Rattle.hive_records.specs.Readers.{Read, Reader, done, joined_if, each, ◌⟫◌}
use Rattle.hive_cells.specs.Bins.{Cells}
use Rattle.hive_records.specs.Follows.{Follows}
use Rattle.hive_records.proofs.Follow.{follows_on, follows_out}

inner_assoc : {B D : Type 0} → (own lent more also : List ℕ) (s : Result B Refusal) (g : B → Read D) →
    joined_if (own ++ more) (lent ++ also) s g ≡ record { own = own ++ (joined_if more also s g).own; lent = lent ++ (joined_if more also s g).lent; says = (joined_if more also s g).says }
inner_assoc own lent more also (Ok y) g = λ i. record { own = append_assoc own more (g y).own i; lent = append_assoc lent also (g y).lent i; says = (g y).says }
inner_assoc own lent more also (Err r) g = refl

module _ {A B D : Type 0} where
  outer_assoc : (own lent : List ℕ) (s : Result A Refusal) (f : A → Read B) (g : B → Read D) →
      joined_if (joined_if own lent s f).own (joined_if own lent s f).lent (joined_if own lent s f).says g ≡ joined_if own lent s (λ x. joined_if (f x).own (f x).lent (f x).says g)
  outer_assoc own lent (Ok x) f g = inner_assoc own lent (f x).own (f x).lent (f x).says g
  outer_assoc own lent (Err r) f g = refl

  pub assoc : (m : Reader A) (f : A → Reader B) (g : B → Reader D) → ((m ⟫ f) ⟫ g) ≡ (m ⟫ λ x. f x ⟫ g)
  unfolding ◌⟫◌
  assoc m f g = λ i cells. outer_assoc (m cells).own (m cells).lent (m cells).says (λ x. f x cells) (λ y. g y cells) i

then_done : {A : Type 0} (own lent : List ℕ) (s : Result A Refusal) → joined_if own lent s (λ x. record { own = []; lent = []; says = Ok x }) ≡ record { own = own; lent = lent; says = s }
then_done own lent (Ok x) = λ i. record { own = append-nil own i; lent = append-nil lent i; says = Ok x }
then_done own lent (Err r) = refl

pub bind_done : {A : Type 0} (m : Reader A) → (m ⟫ λ x. done x) ≡ m
unfolding ◌⟫◌ done
bind_done m = λ i cells. then_done (m cells).own (m cells).lent (m cells).says i

pub done_bind : {A B : Type 0} (x : A) (f : A → Reader B) → (done x ⟫ f) ≡ f x
unfolding ◌⟫◌ done
done_bind x f = refl

module _ {A B : Type 0} (f : A → Reader B) where
  -- a list in two parts
  pub each_parts : (xs ys : List A) → each f (xs ++ ys) ≡ (each f xs ⟫ λ us. each f ys ⟫ λ vs. done (us ++ vs))
  unfolding each
  each_parts [] ys = sym (done_bind [] (λ (us : List B). each f ys ⟫ λ vs. done (us ++ vs)) ∙ bind_done (each f ys))
  each_parts (x ∷ xs) ys =
      ap (λ (m : Reader (List B)). f x ⟫ λ y. m ⟫ λ ws. done (y ∷ ws)) (each_parts xs ys)
      ∙ (λ i. f x ⟫ λ y. inner y i)
      ∙ sym (assoc (f x) (λ y. each f xs ⟫ λ us. done (y ∷ us)) (λ us. each f ys ⟫ λ vs. done (us ++ vs)))
    where
      left : (y : B) → ((each f xs ⟫ λ us. each f ys ⟫ λ vs. done (us ++ vs)) ⟫ λ ws. done (y ∷ ws)) ≡ (each f xs ⟫ λ us. each f ys ⟫ λ vs. done (y ∷ (us ++ vs)))
      left y = assoc (each f xs) (λ us. each f ys ⟫ λ vs. done (us ++ vs)) (λ ws. done (y ∷ ws))
          ∙ (λ i. each f xs ⟫ λ us. (assoc (each f ys) (λ vs. done (us ++ vs)) (λ ws. done (y ∷ ws)) ∙ (λ j. each f ys ⟫ λ vs. done_bind (us ++ vs) (λ (ws : List B). done (y ∷ ws)) j)) i)

      right : (y : B) → ((each f xs ⟫ λ us. done (y ∷ us)) ⟫ λ us. each f ys ⟫ λ vs. done (us ++ vs)) ≡ (each f xs ⟫ λ us. each f ys ⟫ λ vs. done (y ∷ (us ++ vs)))
      right y = assoc (each f xs) (λ us. done (y ∷ us)) (λ us. each f ys ⟫ λ vs. done (us ++ vs))
          ∙ (λ i. each f xs ⟫ λ us. done_bind (y ∷ us) (λ (ws : List B). each f ys ⟫ λ vs. done (ws ++ vs)) i)

      inner : (y : B) → ((each f xs ⟫ λ us. each f ys ⟫ λ vs. done (us ++ vs)) ⟫ λ ws. done (y ∷ ws)) ≡ ((each f xs ⟫ λ us. done (y ∷ us)) ⟫ λ us. each f ys ⟫ λ vs. done (us ++ vs))
      inner y = left y ∙ sym (right y)

  pub each_one : (x : A) → each f (x ∷ []) ≡ (f x ⟫ λ y. done (y ∷ []))
  unfolding each
  each_one x = λ i. f x ⟫ λ y. done_bind [] (λ (ys : List B). done (y ∷ ys)) i

  moved : (m n : Reader (List B)) → m ≡ n → (cells : Cells) (a c : CellMarks) (r : Result (List B) Refusal) → Follows n cells a c r → Follows m cells a c r
  moved m n e cells a c r h = subst (λ (z : Reader (List B)). Follows z cells a c r) (sym e) h

  done_so : {X : Type 0} (x : X) (cells : Cells) (m : CellMarks) → Follows (done x) cells m m (Ok x)
  unfolding done
  done_so x cells m = (refl, none_marked m)

  pub each_starts : (cells : Cells) (m : CellMarks) → Follows (each f []) cells m m (Ok [])
  unfolding each
  each_starts cells m = done_so [] cells m

  one_follows : (x : A) (cells : Cells) (b c : CellMarks) (y : B) → Follows (f x) cells b c (Ok y) → Follows (each f (x ∷ [])) cells b c (Ok (y ∷ []))
  one_follows x cells b c y h = moved (each f (x ∷ [])) (f x ⟫ λ y. done (y ∷ [])) (each_one x) cells b c (Ok (y ∷ [])) (follows_on (f x) (λ y. done (y ∷ [])) cells b c c y (Ok (y ∷ [])) h (done_so (y ∷ []) cells c))

  pub each_goes_on : (first : List A) (x : A) (cells : Cells) (a b c : CellMarks) (ys : List B) (y : B) → Follows (each f first) cells a b (Ok ys) → Follows (f x) cells b c (Ok y) → Follows (each f (first ++ x ∷ [])) cells a c (Ok (ys ++ y ∷ []))
  each_goes_on first x cells a b c ys y h g = moved (each f (first ++ x ∷ [])) (each f first ⟫ λ us. each f (x ∷ []) ⟫ λ vs. done (us ++ vs)) (each_parts first (x ∷ [])) cells a c (Ok (ys ++ y ∷ []))
      (follows_on (each f first) (λ us. each f (x ∷ []) ⟫ λ vs. done (us ++ vs)) cells a b c ys (Ok (ys ++ y ∷ [])) h
      (follows_on (each f (x ∷ [])) (λ vs. done (ys ++ vs)) cells b c c (y ∷ []) (Ok (ys ++ y ∷ [])) (one_follows x cells b c y g) (done_so (ys ++ y ∷ []) cells c)))

  stops : (x : A) (rest : List A) (cells : Cells) (b c : CellMarks) (e : Refusal) → Follows (f x) cells b c (Err e) → Follows (each f (x ∷ rest)) cells b c (Err e)
  unfolding each
  stops x rest cells b c e g = follows_out (f x) (λ y. each f rest ⟫ λ ys. done (y ∷ ys)) cells b c c e g

  pub each_stops : (first : List A) (x : A) (rest : List A) (cells : Cells) (a b c : CellMarks) (ys : List B) (e : Refusal) → Follows (each f first) cells a b (Ok ys) → Follows (f x) cells b c (Err e) → Follows (each f (first ++ x ∷ rest)) cells a c (Err e)
  each_stops first x rest cells a b c ys e h g = moved (each f (first ++ x ∷ rest)) (each f first ⟫ λ us. each f (x ∷ rest) ⟫ λ vs. done (us ++ vs)) (each_parts first (x ∷ rest)) cells a c (Err e)
      (follows_on (each f first) (λ us. each f (x ∷ rest) ⟫ λ vs. done (us ++ vs)) cells a b c ys (Err e) h
      (follows_out (each f (x ∷ rest)) (λ vs. done (ys ++ vs)) cells b c c e (stops x rest cells b c e g)))
