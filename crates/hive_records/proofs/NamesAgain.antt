-- Names that are written read back.
use Rattle.std.proofs.Common.{◌≡◌, ◌*◌, ◌%◌, ℕ, Bool, true, false, List, [], ◌∷◌, length, refl, arith, eqb, eq-eqb}
use Rattle.hive_cells.specs.Bins.{Cells}
use Rattle.hive_records.specs.Numbers.{u16_at}
use Rattle.hive_records.specs.Names.{pairs, name_in}
use Rattle.hive_records.specs.Fields.{Gives}
use Rattle.hive_records.specs.NameEncodings.{wide, spelled, AreUnits}
use Rattle.hive_records.proofs.StepsAgain.{gives_on, gives_done, gives_same, gives_rule, gives_yes, gives_no}
use Rattle.hive_records.proofs.NumbersAgain.{half_back}

wide_length : (name : List ℕ) → length (wide name) ≡ 2 * length name
wide_length [] = refl
wide_length (u ∷ name) = let e = wide_length name in omega (arith, e)

wide_back : (name : List ℕ) → AreUnits name → pairs (wide name) ≡ name
unfolding u16_at
wide_back [] h = refl
wide_back (u ∷ name) h = λ i. half_back u [] h.0 i ∷ wide_back name h.1 i

even : (name : List ℕ) → eqb (length (wide name) % 2) 0 ≡ true
even name = eq-eqb (length (wide name) % 2) 0 (let e = wide_length name in omega (arith, e))

pub name_back : (latin : Bool) (cells : Cells) (name : List ℕ) → AreUnits name → Gives (name_in latin (spelled latin name)) cells [] [] name
name_back true cells name h = gives_yes _ true refl (gives_done name cells)
name_back false cells name h = gives_no _ false refl (gives_on _ (gives_rule (eqb (length (wide name) % 2) 0) _ cells (even name)) (gives_same (wide_back name h) (gives_done (pairs (wide name)) cells)))
