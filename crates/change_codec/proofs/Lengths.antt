-- How long the encodings are.
use Rattle.std.proofs.Common.{◌≡◌, ℕ, ◌+◌, ◌≤◌, List, [], ◌∷◌, ◌++◌, length, refl, sym, ap, ◌∙◌, arith, length-append}
use Rattle.std.specs.List.{flat_map, sum_by}
use Rattle.std.proofs.lemmas.List.Concat.{length-flat_map}
use Rattle.std.proofs.lemmas.List.Sums.{sum_by-cons}
use Rattle.byteorder.specs.Endian.{little_bytes}
use Rattle.byteorder.specs.Numbers.{length-bytes_low_first}
use Rattle.reg_tree.specs.declared.op.Op.{Op}
use Rattle.reg_tree.specs.declared.op.Op.TheVariants.{CreateKey, DeleteKey, SetValue, DeleteValue}
use Rattle.reg_tree.specs.declared.element.Element.{Element}
use Rattle.reg_tree.specs.Operations.{hive_of, spelled_path}
use Rattle.reg_tree.specs.Encodings.{path_encoded_len, op_encoded_len, ops_encoded_len, element_encoded_len}
use Rattle.change_codec.specs.Encoding.{string, counted, kind_of, head_of, path_bytes, head_bytes, tail_bytes, op_bytes, element_bytes}

sum_same : {X : Type 0} (f g : X → ℕ) → ((x : X) → f x ≡ g x) → (xs : List X) → sum_by f xs ≡ sum_by g xs
sum_same f g same [] = refl
sum_same f g same (x ∷ xs) = sum_by-cons f x xs ∙ ap (λ (n : ℕ). n + sum_by f xs) (same x) ∙ ap (λ (n : ℕ). g x + n) (sum_same f g same xs) ∙ sym (sum_by-cons g x xs)

of_number : (w n : ℕ) → length (little_bytes w n) ≡ w
of_number w n = length-bytes_low_first 0 w n

of_string : (w : ℕ) (s : List ℕ) → length (string w s) ≡ w + length s
of_string w s = omega (arith, length-append (little_bytes w (length s)) s, of_number w (length s))

of_counted : {A : Type 0} (w : ℕ) (t : A → List ℕ) (size : A → ℕ) (same : (a : A) → length (t a) ≡ size a) (xs : List A) → length (counted w t xs) ≡ w + sum_by size xs
of_counted w t size same xs =
    let all : length (flat_map t xs) ≡ sum_by size xs = length-flat_map t xs ∙ sum_same (λ x. length (t x)) size same xs in
    omega (arith, length-append (little_bytes w (length xs)) (flat_map t xs), of_number w (length xs), all)

of_path : (path : List (List ℕ)) → length (path_bytes path) ≡ path_encoded_len path
of_path path = of_counted 2 (string 1) (λ name. 1 + length name) (of_string 1) path

of_head : (k h : ℕ) (path : List (List ℕ)) → length (head_bytes (k, (h, path))) ≡ 2 + path_encoded_len path
of_head k h path = omega (arith, length-append (little_bytes 1 k) (little_bytes 1 h ++ path_bytes path), length-append (little_bytes 1 h) (path_bytes path), of_number 1 k, of_number 1 h, of_path path)

tail_len : Op → ℕ
tail_len op = length (tail_bytes op)

of_op : (op : Op) → length (op_bytes op) ≡ 2 + path_encoded_len (spelled_path op) + length (tail_bytes op)
of_op op = omega (arith, length-append (head_bytes (head_of op)) (tail_bytes op), of_head (kind_of op) (hive_of op) (spelled_path op))

pub op_length : (op : Op) → length (op_bytes op) ≡ op_encoded_len op
op_length (CreateKey hive path) = omega (arith, of_op (CreateKey hive path))
op_length (DeleteKey hive path) = omega (arith, of_op (DeleteKey hive path))
op_length (SetValue hive path name kind bytes) = omega (arith, of_op (SetValue hive path name kind bytes), length-append (string 2 name) (little_bytes 4 kind ++ string 4 bytes), length-append (little_bytes 4 kind) (string 4 bytes), of_string 2 name, of_number 4 kind, of_string 4 bytes)
op_length (DeleteValue hive path name) = omega (arith, of_op (DeleteValue hive path name), of_string 2 name)

-- whatever number is in the field of the length
pub fields_length : (n moment : ℕ) (ops : List Op) → length (little_bytes 4 n ++ (little_bytes 8 moment ++ counted 4 op_bytes ops)) ≡ 16 + ops_encoded_len ops
fields_length n moment ops =
    omega (arith, length-append (little_bytes 4 n) (little_bytes 8 moment ++ counted 4 op_bytes ops), length-append (little_bytes 8 moment) (counted 4 op_bytes ops), of_number 4 n, of_number 8 moment, of_counted 4 op_bytes op_encoded_len op_length ops)

pub element_length : (e : Element) → length (element_bytes e) ≡ element_encoded_len e
element_length e = fields_length (element_encoded_len e) e.moment e.ops

-- each operation has a byte or more
some_bytes : (op : Op) → 1 ≤ op_encoded_len op
some_bytes op = omega (arith, op_length op, of_op op)

pub as_many : (ops : List Op) → length ops ≤ ops_encoded_len ops
as_many [] = omega arith
as_many (op ∷ ops) = omega (arith, some_bytes op, as_many ops, sum_by-cons op_encoded_len op ops)

-- operations in two parts
pub ops_in_two : (ops more : List Op) → ops_encoded_len (ops ++ more) ≡ ops_encoded_len ops + ops_encoded_len more
ops_in_two [] more = omega arith
ops_in_two (op ∷ ops) more = omega (arith, ops_in_two ops more, sum_by-cons op_encoded_len op ops, sum_by-cons op_encoded_len op (ops ++ more))
