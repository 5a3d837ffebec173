-- Security cells, classes and key nodes that are written read back.
use Rattle.std.proofs.Common.{◌≡◌, ◌<◌, ◌+◌, ◌-◌, ◌/◌, ◌%◌, ◌^◌, ℕ, Bool, true, false, if◌then◌else◌, List, [], ◌∷◌, ◌++◌, length, take, refl, sym, arith, eqb, leb, eq-eqb, ne_eqb, le-leb, Some, length-append}
use Rattle.hive_cells.specs.Tiles.{u32_at}
use Rattle.hive_tree_model.proofs.Basics.{clash}
use Rattle.hive_cells.specs.Bins.{Cells}
use Rattle.hive_records.specs.Numbers.{u16_at, begins_with, nil_offset}
use Rattle.hive_records.specs.Names.{has_flag}
use Rattle.hive_records.specs.KeyNodes.{descriptor_at, class_at, flags_of}
use Rattle.hive_records.specs.Fields.{Gives, CellHolds}
use Rattle.hive_records.specs.KeyEncodings.{security_bytes}
use Rattle.hive_records.proofs.StepsAgain.{both, gives_on, gives_done, gives_same, gives_rule, gives_yes, gives_no, gives_lent}
use Rattle.hive_records.proofs.NumbersAgain.{word_back, cut}
use Rattle.hive_records.proofs.ValuesAgain.{piece_back}

-- security cells
module _ (next previous count : ℕ) (descriptor rest : List ℕ) where
  abbrev cell : List ℕ
  cell = security_bytes next previous count descriptor ++ rest

  size_back : length descriptor < 2 ^ 32 → u32_at cell 16 ≡ length descriptor
  unfolding u32_at
  size_back h = word_back (length descriptor) [] h

  secured : begins_with cell 0x6b73 20 ≡ true
  unfolding u16_at
  secured = both (leb 20 (length cell)) true (le-leb 20 (length cell) (omega arith)) refl

  pub security_given : (cells : Cells) (at : ℕ) → at < nil_offset → length descriptor < 2 ^ 32 → cells at ≡ Some cell → Gives (descriptor_at at) cells [] (at ∷ []) descriptor
  security_given cells at before h here =
      gives_no _ (eqb at nil_offset) (ne_eqb at nil_offset (λ e. omega (arith, before, e)))
      (gives_on _ (gives_lent at cells cell here)
      (gives_on _ (gives_rule (begins_with cell 0x6b73 20) _ cells secured)
      (gives_on _ (gives_rule (leb (20 + u32_at cell 16) (length cell)) _ cells (le-leb (20 + u32_at cell 16) (length cell) (let e = size_back h in let l = length-append descriptor rest in omega (arith, e, l))))
      (gives_same (cut descriptor rest 20 (u32_at cell 16) (size_back h)) (gives_done (take (20 + u32_at cell 16 - 20) (descriptor ++ rest)) cells)))))

pub security_again : (cells : Cells) (at next previous count : ℕ) (descriptor : List ℕ) → at < nil_offset → length descriptor < 2 ^ 32 → CellHolds cells at (security_bytes next previous count descriptor) → Gives (descriptor_at at) cells [] (at ∷ []) descriptor
security_again cells at next previous count descriptor before h g = security_given next previous count descriptor g.0 cells at before h g.1

pub no_security : (cells : Cells) → Gives (descriptor_at nil_offset) cells [] [] []
no_security cells = gives_yes _ (eqb nil_offset nil_offset) refl (gives_done [] cells)

pub class_again : (cells : Cells) (at : ℕ) (class : List ℕ) → 0 < length class → CellHolds cells at class → Gives (class_at (length class) at) cells (at ∷ []) [] class
class_again cells at class some h = gives_no _ (eqb (length class) 0) (ne_eqb (length class) 0 (λ e. omega (arith, some, e))) (piece_back cells at class h)

pub no_class : (cells : Cells) (at : ℕ) → Gives (class_at 0 at) cells [] [] []
no_class cells at = gives_yes _ true refl (gives_done [] cells)

-- flags
unset : (w f : ℕ) → has_flag w f ≡ false → f / w % 2 ≡ 1 → ⊥
unset w f e h = clash (eqb (f / w % 2) 1) (eq-eqb (f / w % 2) 1 h) e

pub spelling_back : (f : ℕ) (b : Bool) → has_flag 0x20 f ≡ false → has_flag 0x20 (f + (if b then 0x20 else 0)) ≡ b
spelling_back f true e = eq-eqb ((f + 0x20) / 0x20 % 2) 1 (let n = unset 0x20 f e in omega (arith, n))
spelling_back f false e = ne_eqb ((f + 0) / 0x20 % 2) 1 (λ h. let n = unset 0x20 f e in omega (arith, n, h))

pub not_barred : (f : ℕ) (b : Bool) → has_flag 0x20 f ≡ false → has_flag 0x40 f ≡ false → has_flag 0x40 (f + (if b then 0x20 else 0)) ≡ false
not_barred f true e g = ne_eqb ((f + 0x20) / 0x40 % 2) 1 (λ h. let n = unset 0x20 f e in let m = unset 0x40 f g in omega (arith, n, m, h))
not_barred f false e g = ne_eqb ((f + 0) / 0x40 % 2) 1 (λ h. let m = unset 0x40 f g in omega (arith, m, h))

pub flags_small : (f : ℕ) (b : Bool) → f < 2 ^ 16 → has_flag 0x20 f ≡ false → f + (if b then 0x20 else 0) < 2 ^ 16
flags_small f true h e = let n = unset 0x20 f e in omega (arith, n, h)
flags_small f false h e = omega (arith, h)

less : (f : ℕ) (b t : Bool) → t ≡ b → (if t then (f + (if b then 0x20 else 0)) - 0x20 else f + (if b then 0x20 else 0)) ≡ f
less f true true e = omega arith
less f false false e = omega arith
less f true false e = clash false (e) refl
less f false true e = clash false (sym e) refl

pub flags_back : (f : ℕ) (b : Bool) → has_flag 0x20 f ≡ false → flags_of (f + (if b then 0x20 else 0)) ≡ f
flags_back f b e = less f b (has_flag 0x20 (f + (if b then 0x20 else 0))) (spelling_back f b e)
