-- Where security cells are, found by their descriptors.
use Rattle.std.proofs.Common.{◌≡◌, inl, inr, ℕ, zero, suc, ◌+◌, ◌<◌, ◌^◌, List, [], ◌∷◌, ◌++◌, length, map, take, slice_get, get_or, refl, sym, ◌∙◌, ap, subst, arith, Some}
use Rattle.std.specs.Prelude.{slice_set}
use Rattle.std.specs.List.{AllByRecursion}
use Rattle.std.proofs.lemmas.Bool.{cases_eq}
use Rattle.std.proofs.lemmas.Option.{slice_get_read}
use Rattle.hive_tree_model.proofs.Basics.{some_same}
use Rattle.hive_emit.specs.declared.security.SecurityEntry.{SecurityEntry}
use Rattle.reg_tree_parts.specs.Rows.{Row}
use Rattle.reg_tree_parts.specs.Nodes.{Entries, below, all_below, row_at, root_name, subkeys_of, HasSubkeys}
use Rattle.hive_records.specs.Numbers.{nil_offset}
use Rattle.hive_records.specs.Fields.{CellHolds}
use Rattle.hive_records.specs.KeyEncodings.{security_bytes}
use Rattle.hive_emit.specs.CellWrites.{Makes, Puts}
use Rattle.hive_emit.proofs.Makings.{made_then, made_none, all_push}
use Rattle.hive_emit.proofs.ValueMaps.{take_next, all_at}
use Rattle.hive_emit.proofs.KeyProofs.{all_parts, found_subkey, held_grown}
use Rattle.hive_emit.specs.EmittedKeys.{Has, IsCounted, AreCounted, SecurityIsWritten, KeepsSecurityCells}
use Rattle.hive_emit.specs.SecurityTables.{HasDescriptorAt}

-- one that is written anew with the same descriptor
pub set_here : (cells : List SecurityEntry) (place : ℕ) (new : SecurityEntry) → place < length cells → slice_get (slice_set cells place new) place ≡ Some new
set_here [] place new h = absurd (omega (arith, h))
set_here (c ∷ cells) zero new h = refl
set_here (c ∷ cells) (suc place) new h = set_here cells place new (omega (arith, h))

pub set_there : (cells : List SecurityEntry) (place i : ℕ) (new : SecurityEntry) → (i ≡ place → ⊥) → slice_get (slice_set cells place new) i ≡ slice_get cells i
set_there [] place i new h = refl
set_there (c ∷ cells) zero zero new h = absurd (h refl)
set_there (c ∷ cells) zero (suc i) new h = refl
set_there (c ∷ cells) (suc place) zero new h = refl
set_there (c ∷ cells) (suc place) (suc i) new h = set_there cells place i new (λ e. h (ap suc e))

pub set_keeps : (cells : List SecurityEntry) (place : ℕ) (old new : SecurityEntry) → place < length cells → old ≡ get_or cells place old → new.descriptor ≡ old.descriptor → (d : List ℕ) → Has cells d → Has (slice_set cells place new) d
set_keeps cells place old new inside old_is same d has =
    let first : slice_get cells place ≡ Some old = slice_get_read cells (length cells) place old refl inside old_is in
    elim (cases_eq has.place place) [
      | inl here ↦
          let it : has.security ≡ old = some_same has.security old (sym has.is ∙ ap (slice_get cells) here ∙ first) in
          record { place = place; security = new; is = set_here cells place new inside; same = same ∙ ap (λ (s : SecurityEntry). s.descriptor) (sym it) ∙ has.same }
      | inr apart ↦ record { place = has.place; security = has.security; is = set_there cells place has.place new apart ∙ has.is; same = has.same }
    ]

pub has_at : (cells : List SecurityEntry) (place : ℕ) (a : SecurityEntry) (bytes d : List ℕ) → place < length cells → a ≡ get_or cells place a → bytes ≡ a.descriptor → bytes ≡ d → HasDescriptorAt cells place d
has_at cells place a bytes d inside a_is bytes_are e = record { security = a; is = slice_get_read cells (length cells) place a refl inside a_is; same = sym bytes_are ∙ e }

pub at_has : (cells : List SecurityEntry) (place : ℕ) (a : SecurityEntry) (d : List ℕ) → place < length cells → a ≡ get_or cells place a → HasDescriptorAt cells place d → a.descriptor ≡ d
at_has cells place a d inside a_is has = ap (λ (s : SecurityEntry). s.descriptor) (some_same a has.security (sym (slice_get_read cells (length cells) place a refl inside a_is) ∙ has.is)) ∙ has.same

-- counted keys stay so
pub counted_kept : (old new : List SecurityEntry) (es : Entries) → ((d : List ℕ) → Has old d → Has new d) → AreCounted old es → AreCounted new es
counted_kept old new [] keeps h = tt
counted_kept old new (e ∷ es) keeps h = (elim h.0 [ inl empty ↦ inl empty | inr has ↦ inr (keeps (let row = e.1 in row.descriptor) has) ], counted_kept old new es keeps h.1)

pub row_kept : (old new : List SecurityEntry) (row : Row) → ((d : List ℕ) → Has old d → Has new d) → IsCounted old row → IsCounted new row
row_kept old new row keeps (inl empty) = inl empty
row_kept old new row keeps (inr has) = inr (keeps row.descriptor has)

counted_below : (securities : List SecurityEntry) (n : List ℕ) (es : Entries) → AreCounted securities es → AreCounted securities (below n es)
counted_below securities n [] h = tt
counted_below securities n (e ∷ es) h = (h.0, counted_below securities n es h.1)

counted_both : (securities : List SecurityEntry) (es fs : Entries) → AreCounted securities es → AreCounted securities fs → AreCounted securities (es ++ fs)
counted_both securities [] fs h g = g
counted_both securities (e ∷ es) fs h g = (h.0, counted_both securities es fs h.1 g)

pub counted_push : (securities : List SecurityEntry) (ks : List (List ℕ × Entries)) (k : List ℕ × Entries) → AreCounted securities (all_below ks) → AreCounted securities k.1 → AreCounted securities (all_below (ks ++ k ∷ []))
counted_push securities [] k h g = counted_both securities (below k.0 k.1) [] (counted_below securities k.0 k.1 g) tt
counted_push securities (j ∷ ks) k h g = let parts = all_parts (λ (e : List (List ℕ) × Row). IsCounted securities e.1) (below j.0 j.1) (all_below ks) h in counted_both securities (below j.0 j.1) (all_below (ks ++ k ∷ [])) parts.0 (counted_push securities ks k parts.1 g)

pub counted_next : (securities : List SecurityEntry) (ks : List (List ℕ × Entries)) (i : ℕ) (es : Entries) → AllByRecursion (λ (k : List ℕ × Entries). root_name k.1 ≡ k.0) ks → Some es ≡ slice_get (map (λ k. k.1) ks) i → AreCounted securities (all_below (take i ks)) → AreCounted securities es → AreCounted securities (all_below (take (i + 1) ks))
counted_next securities ks i es named e h g =
    let k = found_subkey ks i es named e in
    subst (λ (subkey_list : List (List ℕ × Entries)). AreCounted securities (all_below subkey_list)) (sym (take_next ks i (k.0, es) k.1)) (counted_push securities (take i ks) (k.0, es) h g)

pub counted_whole : (securities : List SecurityEntry) (entries : Entries) (row : Row) → HasSubkeys entries (subkeys_of entries) → row_at entries [] ≡ Some row → IsCounted securities row → AreCounted securities (all_below (subkeys_of entries)) → AreCounted securities entries
counted_whole securities entries row has here own subkey_list = subst (AreCounted securities) (sym (has.whole row here)) (own, subkey_list)

-- kept cells, one more
pub take_set : (cells : List SecurityEntry) (i : ℕ) (new : SecurityEntry) → i < length cells → take (suc i) (slice_set cells i new) ≡ take i cells ++ new ∷ []
take_set [] i new h = absurd (omega (arith, h))
take_set (c ∷ cells) zero new h = refl
take_set (c ∷ cells) (suc i) new h = ap (λ xs. c ∷ xs) (take_set cells i new (omega (arith, h)))

pub none_held : (bytes : List ℕ) (securities : List SecurityEntry) → Makes bytes bytes (KeepsSecurityCells (take 0 securities))
none_held bytes securities = made_none bytes (KeepsSecurityCells (take 0 securities)) (λ x. tt)

pub one_held : (a b c : List ℕ) (securities : List SecurityEntry) (i next previous count at : ℕ) (new : SecurityEntry) → i < length securities → new.at ≡ at → new.next ≡ next → new.previous ≡ previous → new.count ≡ count → length new.descriptor < 2 ^ 32 → Makes a b (KeepsSecurityCells (take i securities)) → Makes b c (Puts at (security_bytes next previous count new.descriptor)) → Makes a c (KeepsSecurityCells (take (i + 1) (slice_set securities i new)))
one_held a b c securities i next previous count at new inside at_is next_is previous_is count_is few m n =
    subst (λ (s : List SecurityEntry). Makes a c (KeepsSecurityCells s)) (sym (ap (λ n. take n (slice_set securities i new)) (let e : i + 1 ≡ suc i = omega arith in e) ∙ take_set securities i new inside))
    (made_then a b c (KeepsSecurityCells (take i securities)) (Puts at (security_bytes next previous count new.descriptor)) (KeepsSecurityCells (take i securities ++ new ∷ [])) m n
    (λ x y z g h held p. all_push (SecurityIsWritten z) (take i securities) new (held_grown (take i securities) y z h held) (record {
      near = subst (λ n. n < nil_offset) (sym at_is) p.near;
      few = few;
      encoding = subst (λ n. CellHolds z n (security_bytes new.next new.previous new.count new.descriptor)) (sym at_is)
          (subst (λ (t : List ℕ). CellHolds z at t) (ap (λ (n : ℕ). security_bytes n previous count new.descriptor) (sym next_is) ∙ ap (λ (n : ℕ). security_bytes new.next n count new.descriptor) (sym previous_is) ∙ ap (λ (n : ℕ). security_bytes new.next new.previous n new.descriptor) (sym count_is)) p.holds);
    })))

pub same_read : (cells : List SecurityEntry) (place : ℕ) (a b : SecurityEntry) → place < length cells → a ≡ get_or cells place a → b ≡ get_or cells place b → a ≡ b
same_read cells place a b inside a_is b_is = some_same a b (sym (slice_get_read cells (length cells) place a refl inside a_is) ∙ slice_get_read cells (length cells) place b refl inside b_is)

pub short_at : (cells : List SecurityEntry) (place : ℕ) (a : SecurityEntry) → AllByRecursion (λ (s : SecurityEntry). length s.descriptor < 2 ^ 32) cells → place < length cells → a ≡ get_or cells place a → length a.descriptor < 2 ^ 32
short_at cells place a short inside a_is = all_at (λ (s : SecurityEntry). length s.descriptor < 2 ^ 32) cells place a short (slice_get_read cells (length cells) place a refl inside a_is)

pub short_set : (cells : List SecurityEntry) (place : ℕ) (new : SecurityEntry) → AllByRecursion (λ (s : SecurityEntry). length s.descriptor < 2 ^ 32) cells → length new.descriptor < 2 ^ 32 → AllByRecursion (λ (s : SecurityEntry). length s.descriptor < 2 ^ 32) (slice_set cells place new)
short_set [] place new short few = tt
short_set (c ∷ cells) zero new short few = (few, short.1)
short_set (c ∷ cells) (suc place) new short few = (short.0, short_set cells place new short.1 few)

pub long_set : (cells : List SecurityEntry) (place : ℕ) (new : SecurityEntry) → length (slice_set cells place new) ≡ length cells
long_set [] place new = refl
long_set (c ∷ cells) zero new = refl
long_set (c ∷ cells) (suc place) new = ap suc (long_set cells place new)

-- one more cell
got_last : (cells : List SecurityEntry) (new : SecurityEntry) → slice_get (cells ++ new ∷ []) (length cells) ≡ Some new
got_last [] new = refl
got_last (c ∷ cells) new = got_last cells new

got_before : (cells : List SecurityEntry) (new : SecurityEntry) (i : ℕ) (s : SecurityEntry) → slice_get cells i ≡ Some s → slice_get (cells ++ new ∷ []) i ≡ Some s
got_before [] new i s e = absurd (let no : ⊥ = cc in no)
got_before (c ∷ cells) new zero s e = e
got_before (c ∷ cells) new (suc i) s e = got_before cells new i s e

-- a cell with its links, one with another count, and one before it is put
abbrev pub linked : SecurityEntry → ℕ → ℕ → ℕ → SecurityEntry
linked s at next previous = record { descriptor = s.descriptor; count = s.count; at = at; next = next; previous = previous }

abbrev pub recounted : SecurityEntry → ℕ → SecurityEntry
recounted s count = record { descriptor = s.descriptor; count = count; at = s.at; next = s.next; previous = s.previous }

abbrev pub unput : List ℕ → SecurityEntry
unput descriptor = record { descriptor = descriptor; count = 1; at = 0xffff_ffff; next = 0xffff_ffff; previous = 0xffff_ffff }

pub there_is : (cells : List SecurityEntry) (place : ℕ) (old : SecurityEntry) → place < length cells → old ≡ get_or cells place old → slice_get cells place ≡ Some old
there_is cells place old inside is = slice_get_read cells (length cells) place old refl inside is

pub has_push : (cells : List SecurityEntry) (new : SecurityEntry) (d : List ℕ) → new.descriptor ≡ d → Has (cells ++ new ∷ []) d
has_push cells new d same = record { place = length cells; security = new; is = got_last cells new; same = same }

pub keeps_push : (cells : List SecurityEntry) (new : SecurityEntry) (d : List ℕ) → Has cells d → Has (cells ++ new ∷ []) d
keeps_push cells new d has = record { place = has.place; security = has.security; is = got_before cells new has.place has.security has.is; same = has.same }
