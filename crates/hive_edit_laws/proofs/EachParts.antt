-- A list that is read in two parts.
use Rattle.std.proofs.Common.{◌≡◌, ℕ, List, [], ◌∷◌, ◌++◌, ◌∙◌, ap, sym, subst, append-nil}
use Rattle.hive_cells.specs.Bins.{Cells}
use Rattle.hive_records.specs.Readers.{Reader, done, each, ◌⟫◌}
use Rattle.hive_records.specs.Fields.{Gives}
use Rattle.hive_records.proofs.Each.{each_parts}
use Rattle.hive_records.proofs.StepsAgain.{gives_on, gives_last, gives_done}
use Rattle.hive_edit_laws.proofs.ReaderSteps.{BindStep, split_of, done_of}

module _ {A B : Type 0} (f : A → Reader B) (cells : Cells) where
  pub record Halves (xs ys : List A) (own lent : List ℕ) (zs : List B) : Type 0 where
    pub us : List B
    pub ws : List B
    pub own_u : List ℕ
    pub own_w : List ℕ
    pub lent_u : List ℕ
    pub lent_w : List ℕ
    pub first : Gives (each f xs) cells own_u lent_u us
    pub second : Gives (each f ys) cells own_w lent_w ws
    pub are : zs ≡ us ++ ws
    pub own_is : own ≡ own_u ++ own_w
    pub lent_is : lent ≡ lent_u ++ lent_w

  pub halves : (xs ys : List A) (own lent : List ℕ) (zs : List B) → Gives (each f (xs ++ ys)) cells own lent zs → Halves xs ys own lent zs
  halves xs ys own lent zs h =
      let s : BindStep (each f xs) (λ us. each f ys ⟫ λ vs. done (us ++ vs)) cells own lent zs = split_of (each f xs) (λ us. each f ys ⟫ λ vs. done (us ++ vs)) cells own lent zs (subst (λ (m : Reader (List B)). Gives m cells own lent zs) (each_parts f xs ys) h) in
      let t : BindStep (each f ys) (λ vs. done (s.x ++ vs)) cells s.own_next s.lent_next zs = split_of (each f ys) (λ vs. done (s.x ++ vs)) cells s.own_next s.lent_next zs s.next in
      let d = done_of (s.x ++ t.x) cells t.own_next t.lent_next zs t.next in
      record {
        us = s.x;
        ws = t.x;
        own_u = s.own_first;
        own_w = t.own_first;
        lent_u = s.lent_first;
        lent_w = t.lent_first;
        first = s.first;
        second = t.first;
        are = sym d.2;
        own_is = s.own_is ∙ ap (λ (z : List ℕ). s.own_first ++ z) (t.own_is ∙ ap (λ (z : List ℕ). t.own_first ++ z) d.0 ∙ append-nil t.own_first);
        lent_is = s.lent_is ∙ ap (λ (z : List ℕ). s.lent_first ++ z) (t.lent_is ∙ ap (λ (z : List ℕ). t.lent_first ++ z) d.1 ∙ append-nil t.lent_first);
      }

  pub of_halves : (xs ys : List A) (own more lent also : List ℕ) (us ws : List B) → Gives (each f xs) cells own lent us → Gives (each f ys) cells more also ws → Gives (each f (xs ++ ys)) cells (own ++ more) (lent ++ also) (us ++ ws)
  of_halves xs ys own more lent also us ws h g = subst (λ (m : Reader (List B)). Gives m cells (own ++ more) (lent ++ also) (us ++ ws)) (sym (each_parts f xs ys)) (gives_on _ h (gives_last (λ vs. us ++ vs) g))

  pub of_one : (x : A) (ys : List A) (own more lent also : List ℕ) (y : B) (zs : List B) → Gives (f x) cells own lent y → Gives (each f ys) cells more also zs → Gives (each f (x ∷ ys)) cells (own ++ more) (lent ++ also) (y ∷ zs)
  unfolding each
  of_one x ys own more lent also y zs h g = gives_on _ h (gives_last (λ vs. y ∷ vs) g)

  pub of_none : Gives (each f []) cells [] [] []
  unfolding each
  of_none = gives_done [] cells

  pub none_are : (own lent : List ℕ) (zs : List B) → Gives (each f []) cells own lent zs → (own ≡ []) × (lent ≡ []) × ([] ≡ zs)
  unfolding each
  none_are own lent zs h = done_of [] cells own lent zs h
