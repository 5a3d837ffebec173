-- The time of the last change on a hive, among some changes.
use Rattle.std.proofs.Common.{◌≡◌, ℕ, Bool, true, false, List, [], ◌∷◌, ◌++◌, length, refl, ap, ◌∙◌, arith}
use Rattle.std.specs.Prelude.{if◌then◌else◌}
use Rattle.reg_tree.specs.declared.element.Element.{Element}
use Rattle.hive_flush.specs.Times.{names_hive, time_after}

-- some changes, and then others
pub time_on : (hive : ℕ) (first later : List Element) (before : ℕ) → time_after hive (first ++ later) before ≡ time_after hive later (time_after hive first before)
time_on hive [] later before = refl
time_on hive (change ∷ first) later before = time_on hive first later (if names_hive hive change then change.moment else before)

module _ (hive : ℕ) (changes rest : List Element) (change : Element) (before : ℕ) (last : changes ≡ rest ++ (change ∷ [])) where
  parted : time_after hive changes before ≡ (if names_hive hive change then change.moment else time_after hive rest before)
  parted = ap (λ (l : List Element). time_after hive l before) last ∙ time_on hive rest (change ∷ []) before

  pub last_here : names_hive hive change ≡ true → time_after hive changes before ≡ change.moment
  last_here is = parted ∙ ap (λ (b : Bool). if b then change.moment else time_after hive rest before) is

  pub last_elsewhere : names_hive hive change ≡ false → time_after hive changes before ≡ time_after hive rest before
  last_elsewhere is = parted ∙ ap (λ (b : Bool). if b then change.moment else time_after hive rest before) is

pub none_left : (hive : ℕ) (changes : List Element) (before : ℕ) → length changes ≡ 0 → time_after hive changes before ≡ before
none_left hive [] before none = refl
none_left hive (change ∷ changes) before none = absurd (omega (arith, none))
