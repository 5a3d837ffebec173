-- The encoding of one operation.
use Rattle.std.proofs.Common.{◌≡◌, ℕ, ◌^◌, ◌<◌, ◌≤◌, Bool, true, false, List, [], ◌∷◌, ◌++◌, length, refl, sym, ap, subst, arith, Option, Some}
use Rattle.std.specs.Prelude.{if◌then◌else◌, ◌==◌, ◌&&◌, nat_le, nat_lt}
use Rattle.std.specs.Option.{option_and_then}
use Rattle.std.specs.List.{AllByRecursion, list_all, flat_map}
use Rattle.std.proofs.lemmas.Bool.{leb-true, lt-ltb, ltb-true, eqb-true, and_parts, and_from}
use Rattle.std.proofs.lemmas.Option.{same_Some, none-some, option_and_then_some}
use Rattle.byteorder.specs.Endian.{little_bytes}
use Rattle.reg_names.specs.Names.{is_path, is_key_name, is_key_unit, is_value_name, is_name_unit}
use Rattle.reg_tree.specs.declared.op.Op.{Op}
use Rattle.reg_tree.specs.declared.op.Op.TheVariants.{CreateKey, DeleteKey, SetValue, DeleteValue}
use Rattle.reg_tree.specs.Operations.{hive_of, spelled_path}
use Rattle.change_codec.specs.Readers.{Reader, give, refuse, then_by, both, checked, repeat, number_at, string_at, IsEncoding}
use Rattle.change_codec.specs.Encoding.{string, kind_of, head_of, path_bytes, head_bytes, tail_bytes, op_bytes, TailFits, OpFits, key_name_at, name_count_at, path_at, value_name_at, head_at, set_value, by_kind, op_at}
use Rattle.change_codec.proofs.Numbers.{number}
use Rattle.change_codec.proofs.Combined.{weaken, then_law, both_law, checked_law, repeat_law, string_law}

key_name_law : IsEncoding key_name_at (string 1) (λ name. is_key_name name ≡ true)
key_name_law = weaken (checked_law is_key_name (string_at 1) (string 1) _ (string_law 1)) (λ name f. f.1) (λ name f.
    let a = and_parts (nat_le 1 (length name) && nat_le (length name) 255) (list_all is_key_unit name) f in
    let b = and_parts (nat_le 1 (length name)) (nat_le (length name) 255) a.0 in
    (omega (arith, leb-true (length name) 255 b.1), f))

all_names : (path : List (List ℕ)) → AllByRecursion (λ name. is_key_name name ≡ true) path → list_all is_key_name path ≡ true
all_names [] h = refl
all_names (name ∷ path) h = and_from (is_key_name name) (list_all is_key_name path) h.0 (all_names path h.1)

each_name : (path : List (List ℕ)) → list_all is_key_name path ≡ true → AllByRecursion (λ name. is_key_name name ≡ true) path
each_name [] e = tt
each_name (name ∷ path) e = let a = and_parts (is_key_name name) (list_all is_key_name path) e in (a.0, each_name path a.1)

path_law : IsEncoding path_at path_bytes (λ path. is_path path ≡ true)
path_law = weaken
    (then_law name_count_at (λ n. repeat n key_name_at) (little_bytes 2) (flat_map (string 1)) (λ n. (n < 256 ^ 2) × (nat_le n 512 ≡ true)) (AllByRecursion (λ name. is_key_name name ≡ true)) (λ path. length path)
    (checked_law (λ n. nat_le n 512) (number_at 2) (little_bytes 2) (λ n. n < 256 ^ 2) (number 2)) (repeat_law key_name_at (string 1) (λ name. is_key_name name ≡ true) key_name_law))
    (λ path f. and_from (nat_le (length path) 512) (list_all is_key_name path) f.0.1 (all_names path f.1))
    (λ path f.
    let a = and_parts (nat_le (length path) 512) (list_all is_key_name path) f in
    ((omega (arith, leb-true (length path) 512 a.0), a.0), each_name path a.1))

value_name_law : IsEncoding value_name_at (string 2) (λ name. is_value_name name ≡ true)
value_name_law = weaken (checked_law is_value_name (string_at 2) (string 2) _ (string_law 2)) (λ name f. f.1) (λ name f.
    let a = and_parts (nat_le (length name) 16383) (list_all is_name_unit name) f in
    (omega (arith, leb-true (length name) 16383 a.0), f))

module _ (hives : ℕ) (most : hives ≤ 256) where
  abbrev HeadFits : ℕ × (ℕ × List (List ℕ)) → Type 0
  HeadFits head = (head.0 < 256 ^ 1) × ((head.1.0 < hives) × (is_path head.1.1 ≡ true))

  hive_law : IsEncoding (checked (λ hive. nat_lt hive hives) (number_at 1)) (little_bytes 1) (λ hive. hive < hives)
  hive_law = weaken (checked_law (λ hive. nat_lt hive hives) (number_at 1) (little_bytes 1) _ (number 1)) (λ hive f. ltb-true hive hives f.1) (λ hive f. (omega (arith, f, most), lt-ltb hive hives f))

  head_law : IsEncoding (head_at hives) head_bytes HeadFits
  head_law = both_law (number_at 1) (both (checked (λ hive. nat_lt hive hives) (number_at 1)) path_at) (little_bytes 1) (λ x. little_bytes 1 x.0 ++ path_bytes x.1) (λ k. k < 256 ^ 1) (λ x. (x.0 < hives) × (is_path x.1 ≡ true)) (number 1)
      (both_law (checked (λ hive. nat_lt hive hives) (number_at 1)) path_at (little_bytes 1) path_bytes (λ hive. hive < hives) (λ path. is_path path ≡ true) hive_law path_law)

abbrev SetFields : Reader (List ℕ × (ℕ × List ℕ))
SetFields = both value_name_at (both (number_at 4) (string_at 4))

set_law : IsEncoding SetFields (λ x. string 2 x.0 ++ (little_bytes 4 x.1.0 ++ string 4 x.1.1)) (λ x. (is_value_name x.0 ≡ true) × ((x.1.0 < 256 ^ 4) × (length x.1.1 < 256 ^ 4)))
set_law = both_law value_name_at (both (number_at 4) (string_at 4)) (string 2) (λ x. little_bytes 4 x.0 ++ string 4 x.1) (λ name. is_value_name name ≡ true) (λ x. (x.0 < 256 ^ 4) × (length x.1 < 256 ^ 4)) value_name_law
    (both_law (number_at 4) (string_at 4) (little_bytes 4) (string 4) (λ n. n < 256 ^ 4) (λ s. length s < 256 ^ 4) (number 4) (string_law 4))

choose : {B P : Type 0} (b : Bool) (r s : Reader B) (bytes : List ℕ) (y : B × List ℕ) → (if b then r else s) bytes ≡ Some y → (b ≡ true → r bytes ≡ Some y → P) → (s bytes ≡ Some y → P) → P
choose true r s bytes y e f g = f refl e
choose false r s bytes y e f g = g e

tail_again : (op : Op) (rest : List ℕ) → TailFits op → by_kind (kind_of op) (hive_of op) (spelled_path op) (tail_bytes op ++ rest) ≡ Some (op, rest)
tail_again (CreateKey hive path) rest fits = refl
tail_again (DeleteKey hive path) rest fits = refl
tail_again (SetValue hive path name kind bytes) rest fits = ap (λ (o : Option ((List ℕ × (ℕ × List ℕ)) × List ℕ)). option_and_then (λ got. give (set_value hive path got.0) got.1) o) (set_law.again (name, (kind, bytes)) rest fits)
tail_again (DeleteValue hive path name) rest fits = ap (λ (o : Option (List ℕ × List ℕ)). option_and_then (λ got. give (DeleteValue hive path got.0) got.1) o) (value_name_law.again name rest fits)

module _ (k h : ℕ) (p : List (List ℕ)) where
  abbrev Head : Type 0
  Head = ℕ × (ℕ × List (List ℕ))

  abbrev Back : List ℕ → Op × List ℕ → Type 0
  Back bytes got = (bytes ≡ tail_bytes got.0 ++ got.1) × ((head_of got.0 ≡ (k, (h, p))) × TailFits got.0)

  head_is : (n : ℕ) → (k == n) ≡ true → ◌≡◌ {A = Head} (n, (h, p)) (k, (h, p))
  head_is n e = ap (λ (x : ℕ). (x, (h, p))) (sym (eqb-true k n e))

  tail_back : (bytes : List ℕ) (got : Op × List ℕ) → by_kind k h p bytes ≡ Some got → Back bytes got
  tail_back bytes got e =
      choose (k == 1) (give (CreateKey h p)) _ bytes got e (λ is one. subst (Back bytes) (same_Some (CreateKey h p, bytes) got one) (refl, (head_is 1 is, tt))) (λ e2.
      choose (k == 2) (give (DeleteKey h p)) _ bytes got e2 (λ is one. subst (Back bytes) (same_Some (DeleteKey h p, bytes) got one) (refl, (head_is 2 is, tt))) (λ e3.
      choose (k == 3) (then_by SetFields (λ x. give (set_value h p x))) _ bytes got e3 (λ is one.
      option_and_then_some (λ x. give (set_value h p x.0) x.1) (SetFields bytes) got one (λ x first second.
      let b = set_law.back bytes x.0 x.1 first in
      subst (Back bytes) (same_Some (set_value h p x.0, x.1) got second) (b.0, (head_is 3 is, b.1)))) (λ e4.
      choose (k == 4) (then_by value_name_at (λ name. give (DeleteValue h p name))) refuse bytes got e4 (λ is one.
      option_and_then_some (λ x. give (DeleteValue h p x.0) x.1) (value_name_at bytes) got one (λ x first second.
      let b = value_name_law.back bytes x.0 x.1 first in
      subst (Back bytes) (same_Some (DeleteValue h p x.0, x.1) got second) (b.0, (head_is 4 is, b.1)))) (λ e5. absurd (none-some got e5)))))

  pub kind_law : IsEncoding (by_kind k h p) tail_bytes (λ op. (head_of op ≡ (k, (h, p))) × TailFits op)
  kind_law = record {
    again = λ op rest fits. subst (λ (head : Head). by_kind head.0 head.1.0 head.1.1 (tail_bytes op ++ rest) ≡ Some (op, rest)) fits.0 (tail_again op rest fits.1);
    back = λ bytes op rest e. tail_back bytes (op, rest) e;
  }

kind_small : (op : Op) → kind_of op < 256 ^ 1
kind_small (CreateKey hive path) = omega arith
kind_small (DeleteKey hive path) = omega arith
kind_small (SetValue hive path name kind bytes) = omega arith
kind_small (DeleteValue hive path name) = omega arith

pub op_law : (hives : ℕ) → hives ≤ 256 → IsEncoding (op_at hives) op_bytes (OpFits hives)
op_law hives most = weaken (then_law (head_at hives) (λ head. by_kind head.0 head.1.0 head.1.1) head_bytes tail_bytes (HeadFits hives most) TailFits head_of (head_law hives most) (λ head. kind_law head.0 head.1.0 head.1.1))
    (λ op f. record { hive = f.0.1.0; path = f.0.1.1; tail = f.1 }) (λ op f. ((kind_small op, (f.hive, f.path)), f.tail))
