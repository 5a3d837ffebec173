-- A body's bytes are that body's, whatever follows.
use Rattle.std.proofs.Common.{◌≡◌, ℕ, suc, ◌+◌, ◌<◌, ◌≤◌, ◌^◌, List, [], ◌∷◌, ◌++◌, length, drop, map, refl, sym, ◌∙◌, ap, arith, append_assoc, length-append, Some, Option}
use Rattle.std.specs.Prelude.{option_map}
use Rattle.std.specs.Option.{option_and_then}
use Rattle.std.specs.List.{flat_map}
use Rattle.std.proofs.lemmas.List.{drop_at, append-nil}
use Rattle.byteorder.specs.Endian.{little_bytes, little_number}
use Rattle.byteorder.specs.Numbers.{little_number-reads_back, length-bytes_low_first}
use Rattle.crash_model.specs.Changes.{Element}
use Rattle.commit_journal.specs.declared.layout.TheConstants.{MOST_BODY_BYTES}
use Rattle.commit_journal.specs.Encoding.{Encodings, read_elements, whole_body, body_of, IsBody, body_bytes}
use Rattle.commit_journal.proofs.Opening.{body_read}

module _ {X Op : Type 0} (t : Encodings Op) (encoding : X → List ℕ) (seen : X → Element Op) (reads : (x : X) (rest : List ℕ) → t.read (encoding x ++ rest) ≡ Some (seen x, rest)) where
  read_all : (xs : List X) (rest : List ℕ) → read_elements t.read (length xs) (flat_map encoding xs ++ rest) ≡ Some (map seen xs, rest)
  read_all [] rest = refl
  read_all (x ∷ xs) rest =
      ap (λ (l : List ℕ). read_elements t.read (suc (length xs)) l) (append_assoc (encoding x) (flat_map encoding xs) rest)
      ∙ ap (λ (o : Option (Element Op × List ℕ)). option_and_then (λ one. option_map (λ more. (one.0 ∷ more.0, more.1)) (read_elements t.read (length xs) one.1)) o) (reads x (flat_map encoding xs ++ rest))
      ∙ ap (λ (o : Option (List (Element Op) × List ℕ)). option_map (λ more. (seen x ∷ more.0, more.1)) o) (read_all xs rest)

  module _ (first : ℕ) (xs : List X) (fits : first < 256 ^ 8) (count : length xs < 256 ^ 4) (size : 16 + length (flat_map encoding xs) < 256 ^ 4) where
    abbrev a : List ℕ
    a = little_bytes 4 (16 + length (flat_map encoding xs))

    abbrev b : List ℕ
    b = little_bytes 8 first

    abbrev c : List ℕ
    c = little_bytes 4 (length xs)

    pub is_body : 16 + length (flat_map encoding xs) ≤ MOST_BODY_BYTES → IsBody t (body_bytes first (length xs) (flat_map encoding xs)) (record { first = first; elements = map seen xs })
    is_body most =
        let d = flat_map encoding xs in
        let bytes = body_bytes first (length xs) d in
        let p : bytes ≡ a ++ (b ++ (c ++ d)) = append_assoc (a ++ b) c d ∙ append_assoc a b (c ++ d) in
        let q : bytes ≡ (a ++ b) ++ (c ++ d) = append_assoc (a ++ b) c d in
        let la : length a ≡ 4 = length-bytes_low_first 0 4 (16 + length d) in
        let lb : length b ≡ 8 = length-bytes_low_first 0 8 first in
        let lc : length c ≡ 4 = length-bytes_low_first 0 4 (length xs) in
        let lab : length (a ++ b) ≡ 12 = omega (arith, la, lb, length-append a b) in
        let labc : length (a ++ b ++ c) ≡ 16 = omega (arith, lab, lc, length-append (a ++ b) c) in
        let all : length bytes ≡ 16 + length d = omega (arith, labc, length-append (a ++ b ++ c) d) in
        let n0 : little_number 4 bytes ≡ length bytes = ap (little_number 4) p ∙ little_number-reads_back 4 (16 + length d) (b ++ (c ++ d)) size ∙ sym all in
        let n1 : little_number 8 (drop 4 bytes) ≡ first
        = ap (λ (l : List ℕ). little_number 8 (drop 4 l)) p ∙ ap (little_number 8) (drop_at a (b ++ (c ++ d)) 4 la) ∙ little_number-reads_back 8 first (c ++ d) fits in
        let n2 : little_number 4 (drop 12 bytes) ≡ length xs
        = ap (λ (l : List ℕ). little_number 4 (drop 12 l)) q ∙ ap (little_number 4) (drop_at (a ++ b) (c ++ d) 12 lab) ∙ little_number-reads_back 4 (length xs) d count in
        let n3 : drop 16 bytes ≡ d ++ [] = drop_at (a ++ b ++ c) d 16 labc ∙ sym (append-nil d) in
        let got : read_elements t.read (little_number 4 (drop 12 bytes)) (drop 16 bytes) ≡ Some (map seen xs, [])
        = ap (λ (n : ℕ). read_elements t.read n (drop 16 bytes)) n2 ∙ ap (λ (l : List ℕ). read_elements t.read (length xs) l) n3 ∙ read_all xs [] in
        let made : body_of t bytes ≡ Some (record { first = first; elements = map seen xs })
        = ap (λ (o : Option (List (Element Op) × List ℕ)). option_and_then (whole_body (little_number 8 (drop 4 bytes))) o) got ∙ ap (λ (n : ℕ). Some (record { first = n; elements = map seen xs })) n1 in
        body_read t bytes (record { first = first; elements = map seen xs }) n0 (omega (arith, all)) (omega (arith, all, most)) made
