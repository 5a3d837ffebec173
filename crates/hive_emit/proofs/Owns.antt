-- A key's own cells, one after another.
use Rattle.std.proofs.Common.{◌≡◌, inl, inr, ℕ, ◌*◌, ◌<◌, Bool, true, false, cond, List, [], ◌∷◌, ◌++◌, length, refl, sym, ◌∙◌, ap, subst, arith, Some}
use Rattle.std.specs.FinMap as finite
use Rattle.hive_cells.specs.Bins.{Cells}
use Rattle.hive_tree_model.specs.Lists.{IsIn}
use Rattle.hive_tree_model.specs.Cells.{Grows}
use Rattle.hive_tree_model.proofs.Basics.{some_same}
use Rattle.reg_tree_parts.specs.Rows.{Row}
use Rattle.reg_tree_parts.specs.Nodes.{Entries, row_at, IsNode}
use Rattle.hive_records.specs.Readers.{Reader}
use Rattle.hive_records.specs.Numbers.{nil_offset}
use Rattle.hive_records.specs.Fields.{Gives}
use Rattle.hive_records.specs.KeyNodes.{class_at}
use Rattle.hive_records.specs.Values.{values_at}
use Rattle.hive_records.specs.Lists.{subkeys_at}
use Rattle.hive_records.specs.ListEncodings.{AreOffsets, cell_offsets}
use Rattle.hive_records.specs.NameEncodings.{is_latin, name_bytes, spelled}
use Rattle.hive_records.proofs.Local.{Local}
use Rattle.hive_records.proofs.Keys.{local_values, local_class}
use Rattle.hive_records.proofs.KeysAgain.{class_again, no_class}
use Rattle.hive_emit.specs.CellWrites.{Makes, Adds, Puts}
use Rattle.hive_emit.specs.Values.{ValuesAt}
use Rattle.hive_emit.specs.KeyLists.{placed, IsListed, SubkeysAt}
use Rattle.hive_emit.proofs.Makings.{made_then, made_as, made_none, adds_none, adds_then}
use Rattle.hive_emit.proofs.Leaves.{subkeys_read, placed_places, placed_long}
use Rattle.hive_emit.proofs.Stays.{values_stay}
use Rattle.hive_emit.specs.EmittedKeys.{CanPutKey, CanPutKeys, ClassAt, OwnAt, any_past_ascii}
use Rattle.hive_emit.proofs.Formed.{class_stays, plain_placed}

-- what is read of cells that stay is read of them still
pub gives_stays : {A : Type 0} (m : Reader A) (old new : Cells) (own lent : List ℕ) (x : A) → Local m → Gives m old own lent x → ((cell : ℕ) → IsIn cell own → new cell ≡ old cell) → ((cell : ℕ) → IsIn cell lent → new cell ≡ old cell) → Gives m new own lent x
gives_stays m old new own lent x local g stay kept = record {
  reads = local.stays old new x (ap (λ r. r.says) g.reads) (λ cell i. stay cell (subst (λ xs. IsIn cell xs) (ap (λ r. r.own) g.reads) i)) (λ cell i. kept cell (subst (λ xs. IsIn cell xs) (ap (λ r. r.lent) g.reads) i)) ∙ g.reads;
}

pub gives_grown : {A : Type 0} (m : Reader A) (x y z : Cells) (own : List ℕ) (a : A) → Local m → Grows y z → Adds x y own → Gives m y own [] a → Gives m z own [] a
gives_grown m x y z own a local g adds gives = gives_stays m y z own [] a local gives (λ cell i. g cell (adds.there cell i)) (λ cell i. absurd i)

-- a class
pub nothing : (xs : List ℕ) → length xs ≡ 0 → xs ≡ []
nothing [] e = refl
nothing (x ∷ xs) e = absurd (omega (arith, e))

pub class_none : (a : List ℕ) (class : List ℕ) → length class ≡ 0 → Makes a a (ClassAt nil_offset class)
class_none a class none = subst (λ (cs : List ℕ). Makes a a (ClassAt nil_offset cs)) (sym (nothing class none)) (made_none a (ClassAt nil_offset []) (λ x. record { own = []; near = omega arith; adds = adds_none x x; is = inl (refl, refl, refl); gives = no_class x nil_offset }))

pub class_put : (a b : List ℕ) (at : ℕ) (class : List ℕ) → 0 < length class → Makes a b (Puts at class) → Makes a b (ClassAt at class)
class_put a b at class some m = made_as a b (Puts at class) (ClassAt at class) m (λ x y g p. record { own = at ∷ []; near = let near : at < nil_offset = p.near in omega arith; adds = p.adds; is = inr (some, p.holds, refl); gives = class_again y at class some p.holds })

-- values, and the list of subkeys after them
record Both (class values subkey_list : ℕ) (row : Row) (offsets : List ℕ) (subkeys : List (List ℕ × Entries)) (plain : Bool) (x z : Cells) : Type 0 where
  y : Cells
  first : Grows x y
  second : Grows y z
  its_values : ValuesAt values row.values x y
  its_subkeys : SubkeysAt subkey_list plain (placed offsets subkeys) y z

pub own_made : (a b c d : List ℕ) (class values subkey_list : ℕ) (row : Row) (offsets : List ℕ) (subkeys : List (List ℕ × Entries)) (plain : Bool) → AreOffsets offsets → length offsets ≡ length subkeys → plain ≡ any_past_ascii subkeys → Makes a b (ClassAt class row.class) → Makes b c (ValuesAt values row.values) → Makes c d (SubkeysAt subkey_list plain (placed offsets subkeys)) → Makes a d (OwnAt class values subkey_list row offsets subkeys)
own_made a b c d class values subkey_list row offsets subkeys plain near all past m n o =
    let same : cell_offsets (placed offsets subkeys) ≡ offsets = placed_places offsets subkeys (omega (arith, all)) in
    let long : length (placed offsets subkeys) ≡ length offsets = placed_long offsets subkeys (omega (arith, all)) in
    made_then a b d (ClassAt class row.class) (Both class values subkey_list row offsets subkeys plain) (OwnAt class values subkey_list row offsets subkeys) m
    (made_then b c d (ValuesAt values row.values) (SubkeysAt subkey_list plain (placed offsets subkeys)) (Both class values subkey_list row offsets subkeys plain) n o (λ x y z g h v k. record { y = y; first = g; second = h; its_values = v; its_subkeys = k }))
    (λ x y z g h k b. record {
      class_own = k.own;
      values_own = b.its_values.own;
      subkeys_own = b.its_subkeys.own;
      class_near = k.near;
      values_near = b.its_values.near;
      subkeys_near = b.its_subkeys.near;
      adds = adds_then x y z k.own (b.its_values.own ++ b.its_subkeys.own) g h k.adds (adds_then y b.y z b.its_values.own b.its_subkeys.own b.first b.second b.its_values.adds b.its_subkeys.adds);
      class_is = class_stays class row.class k.own y z (λ cell i. h cell (k.adds.there cell i)) k.is;
      values_is = values_stay values row.values b.its_values.own b.y z (λ cell i. b.second cell (b.its_values.adds.there cell i)) b.its_values.is;
      subkeys_is = subst (λ (p : Bool). IsListed subkey_list p (placed offsets subkeys) b.its_subkeys.own z) (past ∙ plain_placed offsets subkeys all) b.its_subkeys.is;
      class_gives = gives_grown (class_at (length row.class) class) x y z k.own row.class (local_class (length row.class) class) h k.adds k.gives;
      values_gives = gives_grown (values_at true (finite.len row.values) values) y b.y z b.its_values.own row.values (local_values true (finite.len row.values) values) b.second b.its_values.adds b.its_values.gives;
      subkeys_gives = subst (λ (n : ℕ). Gives (subkeys_at n subkey_list) z b.its_subkeys.own [] offsets) long (subst (λ (os : List ℕ). Gives (subkeys_at (length (placed offsets subkeys)) subkey_list) z b.its_subkeys.own [] os) same
          (subkeys_read z subkey_list plain (placed offsets subkeys) b.its_subkeys.own (subst AreOffsets (sym same) near) b.its_subkeys.is));
    })

-- a key's own row
pub row_same : (entries : Entries) (a b : Row) → row_at entries [] ≡ Some a → row_at entries [] ≡ Some b → a ≡ b
row_same entries a b e f = some_same a b (sym e ∙ f)

pub own_can : (entries : Entries) (row : Row) → IsNode entries → row_at entries [] ≡ Some row → CanPutKeys entries → CanPutKey [] row
own_can entries row node e can =
    let whole : CanPutKeys (([], node.row) ∷ node.others) = subst CanPutKeys node.whole can in
    subst (λ (r : Row). CanPutKey [] r) (some_same node.row row (sym (ap (λ es. row_at es []) node.whole) ∙ e)) whole.0

-- how long a record is
wide_long : (name : List ℕ) → length (spelled false name) ≡ 2 * length name
wide_long [] = refl
wide_long (u ∷ name) = omega (arith, wide_long name)

pub record_long : (name : List ℕ) (b : Bool) → b ≡ is_latin name → length (name_bytes name) ≡ cond b (length name) (2 * length name)
record_long name b e = subst (λ (z : Bool). length (name_bytes name) ≡ cond z (length name) (2 * length name)) (sym e) (by (is_latin name))
  where
    by : (z : Bool) → length (spelled z name) ≡ cond z (length name) (2 * length name)
    by true = refl
    by false = wide_long name
