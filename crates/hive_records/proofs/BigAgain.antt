-- Big data that are written read back.
use Rattle.std.proofs.Common.{◌≡◌, ◌<◌, ◌-◌, ◌*◌, ◌^◌, ℕ, true, List, [], ◌∷◌, ◌++◌, length, map, flat_map, refl, ◌∙◌, ap, sym, subst, arith, eqb, ltb, leb, eq-eqb, ne_eqb, le-leb, lt-ltb, Some, length-append}
use Rattle.std.proofs.lemmas.Bool.{lt-leb}
use Rattle.std.specs.List.{AllByRecursion}
use Rattle.reg_tree_parts.specs.declared.value.Value.{Value}
use Rattle.hive_cells.specs.Tiles.{u32_at}
use Rattle.hive_records.specs.Readers.{Reader, look, each}
use Rattle.hive_cells.specs.Bins.{Cells}
use Rattle.hive_records.specs.Numbers.{u16_at, words_from, begins_with}
use Rattle.hive_records.specs.Values.{cell_prefix, segments_of, segment_sizes, big_data, data_of, value_at}
use Rattle.hive_records.specs.Fields.{Gives, CellHolds}
use Rattle.hive_records.specs.ListEncodings.{offsets_bytes, AreOffsets}
use Rattle.hive_records.specs.ValueEncodings.{large_value, ValueIsEncodable}
use Rattle.hive_records.specs.BigDataEncodings.{Segment, big_data_bytes, segment_offsets, joined_segments, AreFull}
use Rattle.hive_records.proofs.StepsAgain.{both, gives_on, gives_last, gives_rule, gives_yes, gives_no, gives_look}
use Rattle.hive_records.proofs.NumbersAgain.{half_back, word_back}
use Rattle.hive_records.proofs.WordsAgain.{offsets_back, offsets_length}
use Rattle.hive_records.proofs.ValuesAgain.{piece_back, value_reads}
use Rattle.hive_records.proofs.ManyAgain.{map_length, each_given}

abbrev pieces : List Segment → List (ℕ × ℕ)
pieces segments = map (λ (s : Segment). (length s.encoding, s.at)) segments

sizes_back : (segments : List Segment) → AreFull segments → segment_sizes (length (joined_segments segments)) (segment_offsets segments) ≡ pieces segments
sizes_back [] h = absurd h
sizes_back (s ∷ []) h = ap (λ (n : ℕ). (n, s.at) ∷ []) (let l = length-append s.encoding [] in omega (arith, l))
sizes_back (s ∷ t ∷ rest) h =
    ap (λ (n : ℕ). (n, s.at) ∷ segment_sizes (length (joined_segments (s ∷ t ∷ rest)) - 16_344) (segment_offsets (t ∷ rest))) (sym h.0)
    ∙ ap (λ (n : ℕ). (length s.encoding, s.at) ∷ segment_sizes n (segment_offsets (t ∷ rest))) (let l = length-append s.encoding (joined_segments (t ∷ rest)) in let e = h.0 in omega (arith, l, e))
    ∙ ap (λ (z : List (ℕ × ℕ)). (length s.encoding, s.at) ∷ z) (sizes_back (t ∷ rest) h.1)

count_back : (segments : List Segment) → AreFull segments → segments_of (length (joined_segments segments)) ≡ length segments
count_back [] h = absurd h
count_back (s ∷ []) h = let l = length-append s.encoding [] in let a = h.0 in let b = h.1 in omega (arith, l, a, b)
count_back (s ∷ t ∷ rest) h = let l = length-append s.encoding (joined_segments (t ∷ rest)) in let e = h.0 in let r = count_back (t ∷ rest) h.1 in omega (arith, l, e, r)

all_pieces : (cells : Cells) (segments : List Segment) → AllByRecursion (λ (s : Segment). CellHolds cells s.at s.encoding) segments → AllByRecursion (λ (s : Segment). Gives (cell_prefix (length s.encoding) s.at) cells (s.at ∷ []) [] s.encoding) segments
all_pieces cells [] h = tt
all_pieces cells (s ∷ segments) h = (piece_back cells s.at s.encoding h.0, all_pieces cells segments h.1)

one_each : (segments : List Segment) → flat_map (λ (s : Segment). s.at ∷ []) segments ≡ segment_offsets segments
one_each [] = refl
one_each (s ∷ segments) = ap (λ (z : List ℕ). s.at ∷ z) (one_each segments)

joined : (segments : List Segment) → flat_map (λ (p : List ℕ). p) (map (λ (s : Segment). s.encoding) segments) ≡ joined_segments segments
joined [] = refl
joined (s ∷ segments) = ap (λ (z : List ℕ). s.encoding ++ z) (joined segments)

abbrev one_piece : ℕ × ℕ → Reader (List ℕ)
one_piece s = cell_prefix s.0 s.1

module _ (cells : Cells) (to list : ℕ) (segments : List Segment) (more rest : List ℕ) (full : AreFull segments) (few : length segments < 2 ^ 16) (near : list < 2 ^ 32) (are : AreOffsets (segment_offsets segments)) where
  abbrev bytes : List ℕ
  bytes = big_data_bytes segments list ++ more

  abbrev listing : List ℕ
  listing = offsets_bytes (segment_offsets segments) ++ rest

  abbrev size : ℕ
  size = length (joined_segments segments)

  begins : begins_with bytes 0x6264 8 ≡ true
  unfolding u16_at
  begins = both (leb 8 (length bytes)) true (le-leb 8 (length bytes) (omega arith)) refl

  count : u16_at bytes 2 ≡ segments_of size
  unfolding u16_at
  count = half_back (length segments) [] few ∙ sym (count_back segments full)

  list_back : u32_at bytes 4 ≡ list
  unfolding u32_at
  list_back = word_back list more near

  enough : leb (4 * segments_of size) (length listing) ≡ true
  enough = subst (λ (n : ℕ). leb (4 * n) (length listing) ≡ true) (sym (count_back segments full))
      (le-leb (4 * length segments) (length listing) (let l = length-append (offsets_bytes (segment_offsets segments)) rest in let n = offsets_length (segment_offsets segments) in let m = map_length (λ (s : Segment). s.at) segments in omega (arith, l, n, m)))

  words : words_from listing 0 4 (segments_of size) ≡ segment_offsets segments
  words = ap (words_from listing 0 4) (count_back segments full ∙ sym (map_length (λ (s : Segment). s.at) segments)) ∙ offsets_back (segment_offsets segments) rest are

  each_piece : AllByRecursion (λ (s : Segment). CellHolds cells s.at s.encoding) segments → Gives (each one_piece (segment_sizes size (words_from listing 0 4 (segments_of size)))) cells (segment_offsets segments) [] (map (λ (s : Segment). s.encoding) segments)
  each_piece held =
      subst (λ (ps : List (ℕ × ℕ)). Gives (each one_piece ps) cells (segment_offsets segments) [] (map (λ (s : Segment). s.encoding) segments)) (sym (ap (segment_sizes size) words ∙ sizes_back segments full))
      (subst (λ (o : List ℕ). Gives (each one_piece (pieces segments)) cells o [] (map (λ (s : Segment). s.encoding) segments)) (one_each segments)
      (each_given one_piece (λ (s : Segment). (length s.encoding, s.at)) (λ (s : Segment). s.at ∷ []) (λ (s : Segment). s.encoding) cells segments (all_pieces cells segments held)))

  pub big_given : cells to ≡ Some bytes → cells list ≡ Some listing → AllByRecursion (λ (s : Segment). CellHolds cells s.at s.encoding) segments → Gives (big_data size to) cells (to ∷ list ∷ segment_offsets segments) [] (joined_segments segments)
  big_given here there held =
      subst (λ (z : List ℕ). Gives (big_data size to) cells (to ∷ list ∷ segment_offsets segments) [] z) (joined segments)
      (gives_on _ (gives_look to cells bytes here)
      (gives_on _ (gives_rule (begins_with bytes 0x6264 8) _ cells begins)
      (gives_on _ (gives_rule (eqb (u16_at bytes 2) (segments_of size)) _ cells (eq-eqb (u16_at bytes 2) (segments_of size) count))
      (gives_on _ (gives_look_so (u32_at bytes 4) list_back)
      (gives_on _ (gives_rule (leb (4 * segments_of size) (length listing)) _ cells enough)
      (gives_last (λ ps. flat_map (λ (p : List ℕ). p) ps) (each_piece held)))))))
    where
      gives_look_so : (n : ℕ) → n ≡ list → Gives (look n) cells (list ∷ []) [] listing
      gives_look_so n e = subst (λ (m : ℕ). Gives (look m) cells (list ∷ []) [] listing) (sym e) (gives_look list cells listing there)

big_in : (cells : Cells) (its bytes own : List ℕ) → 16_344 < length its → length its < 2 ^ 31 → Gives (big_data (length its) (u32_at bytes 8)) cells own [] its → Gives (data_of true (length its) bytes) cells own [] its
big_in cells its bytes own big few given =
    gives_no _ (leb (2 ^ 31) (length its)) (lt-leb (2 ^ 31) (length its) few)
    (gives_no _ (eqb (length its) 0) (ne_eqb (length its) 0 (λ e. omega (arith, big, e)))
    (gives_yes _ true refl (gives_yes _ (ltb 16_344 (length its)) (lt-ltb 16_344 (length its) big) given)))

pub big_again : (cells : Cells) (at to list : ℕ) (value : Value) (segments : List Segment) → ValueIsEncodable value → 16_344 < length value.«data» → length value.«data» < 2 ^ 31 → to < 2 ^ 32 → list < 2 ^ 32 →
    value.«data» ≡ joined_segments segments → AreFull segments → length segments < 2 ^ 16 → AreOffsets (segment_offsets segments) →
    CellHolds cells at (large_value value to) → CellHolds cells to (big_data_bytes segments list) → CellHolds cells list (offsets_bytes (segment_offsets segments)) → AllByRecursion (λ (s : Segment). CellHolds cells s.at s.encoding) segments →
    Gives (value_at true at) cells (at ∷ to ∷ list ∷ segment_offsets segments) [] value
unfolding u32_at
big_again cells at to list value segments fits big small near near_list e full few are h g l held =
    value_reads value (length value.«data») _ _ _ _ h.0 true cells at (to ∷ list ∷ segment_offsets segments) value.«data» fits (omega (arith, small)) h.1
    (big_in cells value.«data» (large_value value to ++ h.0) (to ∷ list ∷ segment_offsets segments) big small
    (subst (λ (n : ℕ). Gives (big_data (length value.«data») n) cells (to ∷ list ∷ segment_offsets segments) [] value.«data») (sym (word_back to [] near))
    (subst (λ (d : List ℕ). Gives (big_data (length d) to) cells (to ∷ list ∷ segment_offsets segments) [] d) (sym e) (big_given cells to list segments g.0 l.0 full few near_list are g.1 l.1 held))))
