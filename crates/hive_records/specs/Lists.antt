-- Lists of subkeys (regf format: li, lf, lh, ri).
use Rattle.std.specs.Prelude.{ℕ, ◌+◌, ◌*◌, ◌==◌, nat_le, Bool, ◌||◌, List, [], length, flat_map}
use Rattle.refusals.specs.declared.refusal.Cause.TheVariants as cause
use Rattle.hive_records.specs.Readers.{Reader, done, rule, choice, look, each, ◌⟫◌}
use Rattle.hive_records.specs.Numbers.{u16_at, words_from, begins_with}

-- a list of offsets: li has an offset an element; lf and lh have four bytes more, which are not read
abbrev pub is_plain : List ℕ → Bool
is_plain bytes = begins_with bytes 0x696c 4

abbrev pub is_hinted : List ℕ → Bool
is_hinted bytes = begins_with bytes 0x666c 4 || begins_with bytes 0x686c 4

abbrev pub is_indirect : List ℕ → Bool
is_indirect bytes = begins_with bytes 0x6972 4

-- the offsets in a list's data
abbrev pub offsets_in : ℕ → List ℕ → Reader (List ℕ)
offsets_in stride bytes = rule (nat_le (4 + stride * u16_at bytes 2) (length bytes)) cause.BadList ⟫ λ _. done (words_from bytes 4 stride (u16_at bytes 2))

abbrev pub leaf_in : List ℕ → Reader (List ℕ)
leaf_in bytes = choice (is_plain bytes) (offsets_in 4 bytes) (rule (is_hinted bytes) cause.BadList ⟫ λ _. offsets_in 8 bytes)

abbrev pub leaf_at : ℕ → Reader (List ℕ)
leaf_at at = look at ⟫ leaf_in

-- a list, or a list of lists that are no lists of lists themselves
abbrev pub list_in : List ℕ → Reader (List ℕ)
list_in bytes = choice (is_indirect bytes)
    (offsets_in 4 bytes ⟫ λ leaves. each leaf_at leaves ⟫ λ lists. done (flat_map (λ l. l) lists))
    (leaf_in bytes)

-- the subkeys of a key that says how many they are and where their list is
abbrev pub subkeys_at : ℕ → ℕ → Reader (List ℕ)
subkeys_at count list =
    choice (count == 0) (done [])
    (look list ⟫ λ bytes.
    list_in bytes ⟫ λ subkey_list.
    rule (length subkey_list == count) cause.BadList ⟫ λ _.
    done subkey_list)
