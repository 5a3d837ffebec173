-- Readers that give something, one after the other.
use Rattle.std.proofs.Common.{◌≡◌, ℕ, Bool, true, false, ◌&&◌, List, [], ◌∷◌, ◌++◌, refl, ◌∙◌, ap, sym, Ok, Some, append-nil}
use Rattle.refusals.specs.declared.refusal.Refusal.{Refusal}
use Rattle.refusals.specs.declared.refusal.Cause.{Cause}
use Rattle.hive_tree_model.proofs.Basics.{never}
use Rattle.hive_records.specs.Readers.{Read, Reader, done, joined_if, own_if, lent_if, look, look_lent, choice, rule, barred, ◌⟫◌}
use Rattle.hive_cells.specs.Bins.{Cells}
use Rattle.hive_records.specs.Fields.{Gives}

module _ {A B : Type 0} where
  pub gives_on : {m : Reader A} (f : A → Reader B) {cells : Cells} {own lent more also : List ℕ} {x : A} {y : B} → Gives m cells own lent x → Gives (f x) cells more also y → Gives (m ⟫ f) cells (own ++ more) (lent ++ also) y
  unfolding ◌⟫◌
  gives_on {m} f {cells} {own} {lent} h g = record { reads = ap (λ (r : Read A). joined_if r.own r.lent r.says (λ z. f z cells)) h.reads ∙ ap (λ (r : Read B). record { own = own ++ r.own; lent = lent ++ r.lent; says = r.says }) g.reads }

  pub gives_last : {m : Reader A} {cells : Cells} {own lent : List ℕ} {x : A} (f : A → B) → Gives m cells own lent x → Gives (m ⟫ λ z. done (f z)) cells own lent (f x)
  unfolding ◌⟫◌ done
  gives_last {m} {cells} {own} {lent} {x} f h = record { reads = ap (λ (r : Read A). joined_if r.own r.lent r.says (λ z. record { own = []; lent = []; says = Ok (f z) })) h.reads ∙ (λ i. record { own = append-nil own i; lent = append-nil lent i; says = Ok (f x) }) }

module _ {A : Type 0} where
  pub gives_done : (x : A) (cells : Cells) → Gives (done x) cells [] [] x
  unfolding done
  gives_done x cells = record { reads = refl }

  pub gives_same : {m : Reader A} {cells : Cells} {own lent : List ℕ} {x y : A} → x ≡ y → Gives m cells own lent x → Gives m cells own lent y
  gives_same {m} {cells} {own} {lent} e h = record { reads = h.reads ∙ (λ i. record { own = own; lent = lent; says = Ok (e i) }) }

  pub gives_yes : {m : Reader A} (n : Reader A) {cells : Cells} {own lent : List ℕ} {x : A} (b : Bool) → b ≡ true → Gives m cells own lent x → Gives (choice b m n) cells own lent x
  unfolding choice
  gives_yes n true e h = h
  gives_yes n false e h = never e

  pub gives_no : (m : Reader A) {n : Reader A} {cells : Cells} {own lent : List ℕ} {x : A} (b : Bool) → b ≡ false → Gives n cells own lent x → Gives (choice b m n) cells own lent x
  unfolding choice
  gives_no m true e h = never (sym e)
  gives_no m false e h = h

pub gives_rule : (b : Bool) (c : Cause) (cells : Cells) → b ≡ true → Gives (rule b c) cells [] [] tt
unfolding rule choice done
gives_rule true c cells e = record { reads = refl }
gives_rule false c cells e = never e

pub gives_allowed : (b : Bool) (r : Refusal) (cells : Cells) → b ≡ false → Gives (barred b r) cells [] [] tt
unfolding barred choice done
gives_allowed true r cells e = never (sym e)
gives_allowed false r cells e = record { reads = refl }

pub gives_look : (at : ℕ) (cells : Cells) (bytes : List ℕ) → cells at ≡ Some bytes → Gives (look at) cells (at ∷ []) [] bytes
unfolding look
gives_look at cells bytes e = record { reads = ap (own_if at) e }

pub gives_lent : (at : ℕ) (cells : Cells) (bytes : List ℕ) → cells at ≡ Some bytes → Gives (look_lent at) cells [] (at ∷ []) bytes
unfolding look_lent
gives_lent at cells bytes e = record { reads = ap (lent_if at) e }

pub both : (a b : Bool) → a ≡ true → b ≡ true → (a && b) ≡ true
both true b e f = f
both false b e f = never e

pub second_not : (a b : Bool) → b ≡ false → (a && b) ≡ false
second_not true b f = f
second_not false b f = refl
