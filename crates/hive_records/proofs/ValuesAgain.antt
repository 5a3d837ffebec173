-- Values that are written read back.
use Rattle.std.proofs.Common.{◌≡◌, ◌<◌, ◌≤◌, ◌+◌, ◌-◌, ◌^◌, ℕ, suc, Bool, true, false, if◌then◌else◌, List, [], ◌∷◌, ◌++◌, length, take, drop, refl, ◌∙◌, ap, sym, subst, arith, eqb, ltb, leb, ne_eqb, le-leb, le-ltb, Some, take_at, length-append}
use Rattle.std.proofs.lemmas.Bool.{lt-leb}
use Rattle.reg_tree_parts.specs.declared.value.Value.{Value}
use Rattle.hive_cells.specs.Tiles.{u32_at}
use Rattle.hive_cells.specs.Bins.{Cells}
use Rattle.hive_records.specs.Numbers.{u16_at, begins_with}
use Rattle.hive_records.specs.Names.{has_flag, name_in}
use Rattle.hive_records.specs.Values.{cell_prefix, data_of, value_at}
use Rattle.hive_records.specs.Fields.{Gives, CellHolds}
use Rattle.hive_records.specs.NameEncodings.{is_latin, spelled, name_bytes, latin_flag, AreUnits}
use Rattle.hive_records.specs.ValueEncodings.{value_record, small_value, large_value, ValueIsEncodable}
use Rattle.hive_records.proofs.StepsAgain.{both, gives_on, gives_last, gives_done, gives_same, gives_rule, gives_yes, gives_no, gives_look}
use Rattle.hive_records.proofs.NumbersAgain.{half_back, word_back, cut}
use Rattle.hive_records.proofs.NamesAgain.{name_back}

-- a name after its flag and its length
pub name_given : (cells : Cells) (name : List ℕ) (latin : Bool) (encoding : List ℕ) → AreUnits name → latin ≡ is_latin name → encoding ≡ name_bytes name → Gives (name_in latin encoding) cells [] [] name
name_given cells name latin encoding h e f = subst (λ (t : List ℕ). Gives (name_in latin t) cells [] [] name) (sym f) (subst (λ (b : Bool). Gives (name_in b (spelled (is_latin name) name)) cells [] [] name) (sym e) (name_back (is_latin name) cells name h))

flag_one : (b : Bool) → has_flag 1 (if b then 1 else 0) ≡ b
flag_one true = refl
flag_one false = refl

flag_small : (b : Bool) → (if b then 1 else 0) < 2 ^ 16
flag_small true = omega arith
flag_small false = omega arith

module _ (value : Value) (size f g h k : ℕ) (rest : List ℕ) where
  abbrev pub written : List ℕ
  written = value_record value size (f ∷ g ∷ h ∷ k ∷ []) ++ rest

  abbrev tail : List ℕ
  tail = name_bytes value.name ++ rest

  begins : begins_with written 0x6b76 20 ≡ true
  unfolding u16_at
  begins = both (leb 20 (length written)) true (le-leb 20 (length written) (omega arith)) refl

  name_size : ValueIsEncodable value → u16_at written 2 ≡ length (name_bytes value.name)
  unfolding u16_at
  name_size fits = half_back (length (name_bytes value.name)) [] fits.name

  size_back : size < 2 ^ 32 → u32_at written 4 ≡ size
  unfolding u32_at
  size_back fits = word_back size [] fits

  kind_back : ValueIsEncodable value → u32_at written 12 ≡ value.kind
  unfolding u32_at
  kind_back fits = word_back value.kind [] fits.kind

  flag_back : u16_at written 16 ≡ latin_flag 1 value.name
  unfolding u16_at
  flag_back = half_back (latin_flag 1 value.name) [] (flag_small (is_latin value.name))

  long_enough : ValueIsEncodable value → leb (20 + u16_at written 2) (length written) ≡ true
  long_enough fits = le-leb (20 + u16_at written 2) (length written) (let e = name_size fits in let l = length-append (name_bytes value.name) rest in omega (arith, e, l))

  pub value_reads : (split : Bool) (cells : Cells) (at : ℕ) (own its : List ℕ) → ValueIsEncodable value → size < 2 ^ 32 → cells at ≡ Some written → Gives (data_of split size written) cells own [] its →
      Gives (value_at split at) cells (at ∷ own) [] (record { name = value.name; kind = value.kind; «data» = its })
  value_reads split cells at own its fits small here given =
      gives_on _ (gives_look at cells written here)
      (gives_on _ (gives_rule (begins_with written 0x6b76 20) _ cells begins)
      (gives_on _ (gives_rule (leb (20 + u16_at written 2) (length written)) _ cells (long_enough fits))
      (gives_on _ (name_given cells value.name (has_flag 1 (u16_at written 16)) (take (20 + u16_at written 2 - 20) tail) fits.units (ap (has_flag 1) flag_back ∙ flag_one (is_latin value.name)) (cut (name_bytes value.name) rest 20 (u16_at written 2) (name_size fits)))
      (gives_same (λ i. record { name = value.name; kind = kind_back fits i; «data» = its })
      (gives_last (λ (its : List ℕ). record { name = value.name; kind = u32_at written 12; «data» = its }) (subst (λ (n : ℕ). Gives (data_of split n written) cells own [] its) (sym (size_back small)) given))))))

in_record : (split : Bool) (cells : Cells) (its bytes more : List ℕ) → length its ≤ 4 → drop 8 bytes ≡ its ++ more → Gives (data_of split (2 ^ 31 + length its) bytes) cells [] [] its
in_record split cells its bytes more h e =
    gives_yes _ (leb (2 ^ 31) (2 ^ 31 + length its)) (le-leb (2 ^ 31) (2 ^ 31 + length its) (omega arith))
    (gives_on _ (gives_rule (leb (2 ^ 31 + length its - 2 ^ 31) 4) _ cells (le-leb (2 ^ 31 + length its - 2 ^ 31) 4 (omega (arith, h))))
    (gives_same (ap (take (8 + (2 ^ 31 + length its - 2 ^ 31) - 8)) e ∙ cut its more 8 (2 ^ 31 + length its - 2 ^ 31) (omega arith)) (gives_done (take (8 + (2 ^ 31 + length its - 2 ^ 31) - 8) (drop 8 bytes)) cells)))

module _ (split : Bool) (cells : Cells) (at : ℕ) (value : Value) (fits : ValueIsEncodable value) where
  small_by : (f g h k : ℕ) (rest more : List ℕ) → length value.«data» ≤ 4 → drop 8 (written value (2 ^ 31 + length value.«data») f g h k rest) ≡ value.«data» ++ more →
      cells at ≡ Some (written value (2 ^ 31 + length value.«data») f g h k rest) → Gives (value_at split at) cells (at ∷ []) [] value
  small_by f g h k rest more few e here = value_reads value (2 ^ 31 + length value.«data») f g h k rest split cells at [] value.«data» fits (omega (arith, few)) here
      (in_record split cells value.«data» (written value (2 ^ 31 + length value.«data») f g h k rest) more few e)

too_many : {A : Type 0} (n : ℕ) → suc (suc (suc (suc (suc n)))) ≤ 4 → A
too_many n h = absurd (omega (arith, h))

small_of : (split : Bool) (cells : Cells) (at : ℕ) (name : List ℕ) (kind : ℕ) (its : List ℕ) → ValueIsEncodable (record { name = name; kind = kind; «data» = its }) → length its ≤ 4 → CellHolds cells at (small_value (record { name = name; kind = kind; «data» = its })) →
    Gives (value_at split at) cells (at ∷ []) [] (record { name = name; kind = kind; «data» = its })
small_of split cells at name kind [] fits few h = small_by split cells at _ fits 0 0 0 0 h.0 _ few refl h.1
small_of split cells at name kind (a ∷ []) fits few h = small_by split cells at _ fits a 0 0 0 h.0 _ few refl h.1
small_of split cells at name kind (a ∷ b ∷ []) fits few h = small_by split cells at _ fits a b 0 0 h.0 _ few refl h.1
small_of split cells at name kind (a ∷ b ∷ c ∷ []) fits few h = small_by split cells at _ fits a b c 0 h.0 _ few refl h.1
small_of split cells at name kind (a ∷ b ∷ c ∷ d ∷ []) fits few h = small_by split cells at _ fits a b c d h.0 _ few refl h.1
small_of split cells at name kind (a ∷ b ∷ c ∷ d ∷ e ∷ more) fits few h = too_many (length more) few

pub small_again : (split : Bool) (cells : Cells) (at : ℕ) (value : Value) → ValueIsEncodable value → length value.«data» ≤ 4 → CellHolds cells at (small_value value) → Gives (value_at split at) cells (at ∷ []) [] value
small_again split cells at value fits few h = small_of split cells at value.name value.kind value.«data» fits few h

-- data in a cell
pub piece_back : (cells : Cells) (at : ℕ) (encoding : List ℕ) → CellHolds cells at encoding → Gives (cell_prefix (length encoding) at) cells (at ∷ []) [] encoding
piece_back cells at encoding h =
    gives_on _ (gives_look at cells (encoding ++ h.0) h.1)
    (gives_on _ (gives_rule (leb (length encoding) (length (encoding ++ h.0))) _ cells (le-leb (length encoding) (length (encoding ++ h.0)) (let l = length-append encoding h.0 in omega (arith, l))))
    (gives_same (take_at encoding h.0 (length encoding) refl) (gives_done (take (length encoding) (encoding ++ h.0)) cells)))

large_data : (split : Bool) (cells : Cells) (its bytes : List ℕ) (own : List ℕ) → 0 < length its → length its < 2 ^ 31 → (split ≡ true → length its ≤ 16_344) → Gives (cell_prefix (length its) (u32_at bytes 8)) cells own [] its →
    Gives (data_of split (length its) bytes) cells own [] its
large_data true cells its bytes own some few one given =
    gives_no _ (leb (2 ^ 31) (length its)) (lt-leb (2 ^ 31) (length its) few)
    (gives_no _ (eqb (length its) 0) (ne_eqb (length its) 0 (λ e. omega (arith, some, e)))
    (gives_yes _ true refl (gives_no _ (ltb 16_344 (length its)) (le-ltb 16_344 (length its) (one refl)) given)))
large_data false cells its bytes own some few one given =
    gives_no _ (leb (2 ^ 31) (length its)) (lt-leb (2 ^ 31) (length its) few)
    (gives_no _ (eqb (length its) 0) (ne_eqb (length its) 0 (λ e. omega (arith, some, e)))
    (gives_no _ false refl given))

pub large_again : (split : Bool) (cells : Cells) (at to : ℕ) (value : Value) → ValueIsEncodable value → 0 < length value.«data» → length value.«data» < 2 ^ 31 → (split ≡ true → length value.«data» ≤ 16_344) → to < 2 ^ 32 →
    CellHolds cells at (large_value value to) → CellHolds cells to value.«data» → Gives (value_at split at) cells (at ∷ to ∷ []) [] value
unfolding u32_at
large_again split cells at to value fits some few one near h g =
    value_reads value (length value.«data») _ _ _ _ h.0 split cells at (to ∷ []) value.«data» fits (omega (arith, few)) h.1
    (large_data split cells value.«data» (large_value value to ++ h.0) (to ∷ []) some few one (subst (λ (n : ℕ). Gives (cell_prefix (length value.«data») n) cells (to ∷ []) [] value.«data») (sym (word_back to [] near)) (piece_back cells to value.«data» g)))
