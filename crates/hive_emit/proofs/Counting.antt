-- Counts of keys by their descriptors.
use Rattle.std.proofs.Common.{◌≡◌, ℕ, zero, suc, ◌+◌, ◌<◌, ◌≤◌, ◌^◌, Bool, true, false, cond, List, [], ◌∷◌, ◌++◌, length, map, take, sum_by, slice_get, get_or, inl, inr, refl, sym, ◌∙◌, ap, subst, arith, Some, length-append}
use Rattle.std.specs.Prelude.{slice_set}
use Rattle.std.specs.List.{AllByRecursion}
use Rattle.std.specs.Str.{bytes_eq}
use Rattle.std.proofs.lemmas.Slice.Eq.{bytes_eq-Decides}
use Rattle.std.proofs.lemmas.List.Sums.{sum_by-cons}
use Rattle.reg_tree_parts.specs.Rows.{Row}
use Rattle.reg_tree_parts.specs.Nodes.{Entries, below, all_below, entries_of, row_at, root_name, subkeys_of, HasSubkeys}
use Rattle.hive_tree_model.specs.Lists.{IsIn}
use Rattle.hive_emit.proofs.Sums.{sum_next}
use Rattle.hive_emit.specs.declared.security.SecurityEntry.{SecurityEntry}
use Rattle.hive_emit.specs.Forms.{SecurityCell, has_descriptor, keys_with}
use Rattle.hive_emit.specs.SecurityTables.{Tallies, tallies, tally, one_with, AreApart, AreWithin, AreSome, Counts}
use Rattle.hive_emit.proofs.KeyProofs.{found_subkey}
use Rattle.hive_emit.proofs.KeySums.{node_sum}

-- ---- one count more

abbrev counted : List ℕ → List ℕ × ℕ → ℕ
counted d t = cond (bytes_eq d t.0) t.1 0

raised : (b : Bool) (m n : ℕ) → n ≡ m + 1 → cond b n 0 ≡ cond b m 0 + cond b 1 0
raised true m n e = e
raised false m n e = refl

tally_set : (cells : List SecurityEntry) (place : ℕ) (old new : SecurityEntry) (d : List ℕ) → slice_get cells place ≡ Some old → new.descriptor ≡ old.descriptor → new.count ≡ old.count + 1 → tally d (tallies (slice_set cells place new)) ≡ tally d (tallies cells) + one_with d old.descriptor
tally_set [] place old new d e same more = absurd (let no : ⊥ = cc in no)
tally_set (c ∷ cells) zero old new d e same more =
    let here : c ≡ old = cc in
    let first : counted d (new.descriptor, new.count) ≡ counted d (old.descriptor, old.count) + one_with d old.descriptor = ap (λ (x : List ℕ). cond (bytes_eq d x) new.count 0) same ∙ raised (bytes_eq d old.descriptor) old.count new.count more in
    subst (λ (x : SecurityEntry). tally d (tallies (new ∷ cells)) ≡ tally d (tallies (x ∷ cells)) + one_with d old.descriptor) (sym here)
    (omega (arith, sum_by-cons (counted d) (new.descriptor, new.count) (tallies cells), sum_by-cons (counted d) (old.descriptor, old.count) (tallies cells), first))
tally_set (c ∷ cells) (suc place) old new d e same more =
    omega (arith, sum_by-cons (counted d) (c.descriptor, c.count) (tallies (slice_set cells place new)), sum_by-cons (counted d) (c.descriptor, c.count) (tallies cells), tally_set cells place old new d e same more)

within_more : (most : ℕ) (ts : Tallies) → AreWithin most ts → AreWithin (most + 1) ts
within_more most [] h = tt
within_more most (t ∷ ts) h = (let few = h.0 in omega (arith, few), within_more most ts h.1)

within_at : (most : ℕ) (cells : List SecurityEntry) (place : ℕ) (old : SecurityEntry) → slice_get cells place ≡ Some old → AreWithin most (tallies cells) → old.count ≤ most
within_at most [] place old e h = absurd (let no : ⊥ = cc in no)
within_at most (c ∷ cells) zero old e h = let here : c ≡ old = cc in subst (λ (x : SecurityEntry). x.count ≤ most) here h.0
within_at most (c ∷ cells) (suc place) old e h = within_at most cells place old e h.1

within_set : (most : ℕ) (cells : List SecurityEntry) (place : ℕ) (new : SecurityEntry) → new.count ≤ most + 1 → AreWithin most (tallies cells) → AreWithin (most + 1) (tallies (slice_set cells place new))
within_set most [] place new few h = tt
within_set most (c ∷ cells) zero new few h = (few, within_more most (tallies cells) h.1)
within_set most (c ∷ cells) (suc place) new few h = (let first = h.0 in omega (arith, first), within_set most cells place new few h.1)

pub counts_set : (cells : List SecurityEntry) (place : ℕ) (old new : SecurityEntry) → slice_get cells place ≡ Some old → new.descriptor ≡ old.descriptor → (old.count + 1 < 2 ^ 32 → new.count ≡ old.count + 1) → Counts (tallies cells) (tallies (slice_set cells place new)) 1 (λ d. one_with d old.descriptor)
counts_set cells place old new e same more most within fits =
    let few : old.count ≤ most = within_at most cells place old e within in
    let is : new.count ≡ old.count + 1 = more (omega (arith, few, fits)) in
    (within_set most cells place new (omega (arith, is, few)) within, λ d some. tally_set cells place old new d e same is)

tally_push : (cells : List SecurityEntry) (new : SecurityEntry) (d : List ℕ) → new.count ≡ 1 → tally d (tallies (cells ++ new ∷ [])) ≡ tally d (tallies cells) + one_with d new.descriptor
tally_push [] new d one = omega (arith, sum_by-cons (counted d) (new.descriptor, new.count) [], ap (λ (n : ℕ). cond (bytes_eq d new.descriptor) n 0) one)
tally_push (c ∷ cells) new d one =
    omega (arith, sum_by-cons (counted d) (c.descriptor, c.count) (tallies (cells ++ new ∷ [])), sum_by-cons (counted d) (c.descriptor, c.count) (tallies cells), tally_push cells new d one)

within_push : (most : ℕ) (cells : List SecurityEntry) (new : SecurityEntry) → new.count ≡ 1 → AreWithin most (tallies cells) → AreWithin (most + 1) (tallies (cells ++ new ∷ []))
within_push most [] new one h = (omega (arith, one), tt)
within_push most (c ∷ cells) new one h = (let first = h.0 in omega (arith, first), within_push most cells new one h.1)

pub counts_push : (cells : List SecurityEntry) (new : SecurityEntry) → new.count ≡ 1 → Counts (tallies cells) (tallies (cells ++ new ∷ [])) 1 (λ d. one_with d new.descriptor)
counts_push cells new one most within fits = (within_push most cells new one within, λ d some. tally_push cells new d one)

pub some_set : (cells : List SecurityEntry) (place : ℕ) (old new : SecurityEntry) → slice_get cells place ≡ Some old → new.descriptor ≡ old.descriptor → 0 < new.count → AreSome (tallies cells) → AreSome (tallies (slice_set cells place new))
some_set [] place old new e same some h = tt
some_set (c ∷ cells) zero old new e same some h = let here : c ≡ old = cc in ((subst (λ (x : List ℕ). 0 < length x) (ap (λ (x : SecurityEntry). x.descriptor) here ∙ sym same) h.0.0, some), h.1)
some_set (c ∷ cells) (suc place) old new e same some h = (h.0, some_set cells place old new e same some h.1)

pub some_push : (cells : List SecurityEntry) (new : SecurityEntry) → new.count ≡ 1 → 0 < length new.descriptor → AreSome (tallies cells) → AreSome (tallies (cells ++ new ∷ []))
some_push [] new one long h = ((long, omega (arith, one)), tt)
some_push (c ∷ cells) new one long h = (h.0, some_push cells new one long h.1)

-- descriptors and counts that stay
pub tallies_set : (cells : List SecurityEntry) (place : ℕ) (old new : SecurityEntry) → place < length cells → old ≡ get_or cells place old → new.descriptor ≡ old.descriptor → new.count ≡ old.count → tallies (slice_set cells place new) ≡ tallies cells
tallies_set [] place old new inside is same count = refl
tallies_set (c ∷ cells) zero old new inside is same count =
    let here : (new.descriptor, new.count) ≡ (c.descriptor, c.count) = (λ i. ((same ∙ ap (λ (s : SecurityEntry). s.descriptor) is) i, (count ∙ ap (λ (s : SecurityEntry). s.count) is) i)) in
    ap (λ (t : List ℕ × ℕ). t ∷ tallies cells) here
tallies_set (c ∷ cells) (suc place) old new inside is same count = ap (λ (ts : Tallies). (c.descriptor, c.count) ∷ ts) (tallies_set cells place old new (omega (arith, inside)) is same count)

-- ---- several keys

pub counts_none : (ts : Tallies) (row : Row) → row.descriptor ≡ [] → Counts ts ts 1 (λ d. has_descriptor d row)
counts_none ts row none most within fits = (within_more most ts within, λ d some. omega (arith, ap (one_with d) none, never d some))
  where
    never : (d : List ℕ) → 0 < length d → one_with d [] ≡ 0
    never [] some = absurd (omega (arith, some))
    never (b ∷ d) some = refl

pub counts_then : (a b c : Tallies) (n m : ℕ) (f g : List ℕ → ℕ) → Counts a b n f → Counts b c m g → Counts a c (n + m) (λ d. f d + g d)
counts_then a b c n m f g h k most within fits =
    let x = h most within (omega (arith, fits)) in
    let y = k (most + n) x.0 (omega (arith, fits)) in
    (subst (λ (z : ℕ). AreWithin z c) (let e : most + n + m ≡ most + (n + m) = omega arith in e) y.0, λ d some. omega (arith, x.1 d some, y.1 d some))

pub counts_as : (a b : Tallies) (n m : ℕ) (f g : List ℕ → ℕ) → n ≡ m → ((d : List ℕ) → f d ≡ g d) → Counts a b n f → Counts a b m g
counts_as a b n m f g e same h most within fits = let x = h most within (omega (arith, e, fits)) in (subst (λ (z : ℕ). AreWithin (most + z) b) e x.0, λ d some. omega (arith, x.1 d some, same d))

-- the sum over subkeys, one more
pub subkey_next : (f : Entries → ℕ) (ks : List (List ℕ × Entries)) (i : ℕ) (es : Entries) → AllByRecursion (λ (k : List ℕ × Entries). root_name k.1 ≡ k.0) ks → Some es ≡ slice_get (map (λ k. k.1) ks) i → sum_by (λ k. f k.1) (take (i + 1) ks) ≡ sum_by (λ k. f k.1) (take i ks) + f es
subkey_next f ks i es named e = let k = found_subkey ks i es named e in sum_next (λ (k : List ℕ × Entries). f k.1) ks i (k.0, es) k.1

below_long : (n : List ℕ) (es : Entries) → length (below n es) ≡ length es
below_long n [] = refl
below_long n (e ∷ es) = ap suc (below_long n es)

all_below_long : (ks : List (List ℕ × Entries)) → length (all_below ks) ≡ sum_by (λ k. length k.1) ks
all_below_long [] = refl
all_below_long (k ∷ ks) = omega (arith, length-append (below k.0 k.1) (all_below ks), below_long k.0 k.1, all_below_long ks, sum_by-cons (λ (k : List ℕ × Entries). length k.1) k ks)

pub node_long : (entries : Entries) (row : Row) → HasSubkeys entries (subkeys_of entries) → row_at entries [] ≡ Some row → length entries ≡ 1 + sum_by (λ k. length k.1) (subkeys_of entries)
node_long entries row has here = let whole : length entries ≡ length (entries_of row (subkeys_of entries)) = ap length (has.whole row here) in omega (arith, whole, all_below_long (subkeys_of entries))

pub node_with : (d : List ℕ) (entries : Entries) (row : Row) → HasSubkeys entries (subkeys_of entries) → row_at entries [] ≡ Some row → has_descriptor d row + sum_by (λ k. keys_with d k.1) (subkeys_of entries) ≡ keys_with d entries
node_with d entries row has here = sym (node_sum (has_descriptor d) entries row has here)

-- ---- each cell counts just the keys with its descriptor

bytes_apart : (d e : List ℕ) → (d ≡ e → ⊥) → bytes_eq d e ≡ false
bytes_apart d e apart = by (bytes_eq d e) refl
  where
    by : (b : Bool) → bytes_eq d e ≡ b → bytes_eq d e ≡ false
    by true f = absurd (apart ((bytes_eq-Decides d e).0 f))
    by false f = f

tally_none : (d : List ℕ) (ts : Tallies) → (IsIn d (map (λ (t : List ℕ × ℕ). t.0) ts) → ⊥) → tally d ts ≡ 0
tally_none d [] out = refl
tally_none d (t ∷ ts) out = omega (arith, sum_by-cons (counted d) t ts, ap (λ (b : Bool). cond b t.1 0) (bytes_apart d t.0 (λ e. out (inl e))), tally_none d ts (λ i. out (inr i)))

tally_past : (t : List ℕ × ℕ) (ts us : Tallies) → (IsIn t.0 (map (λ (u : List ℕ × ℕ). u.0) us) → ⊥) → AllByRecursion (λ (u : List ℕ × ℕ). u.1 ≡ tally u.0 ts) us → AllByRecursion (λ (u : List ℕ × ℕ). u.1 ≡ tally u.0 (t ∷ ts)) us
tally_past t ts [] out h = tt
tally_past t ts (u ∷ us) out h =
    let past : cond (bytes_eq u.0 t.0) t.1 0 ≡ 0 = ap (λ (b : Bool). cond b t.1 0) (bytes_apart u.0 t.0 (λ e. out (inl (sym e)))) in
    (omega (arith, sum_by-cons (counted u.0) t ts, past, h.0), tally_past t ts us (λ i. out (inr i)) h.1)

tally_is : (ts : Tallies) → AreApart ts → AllByRecursion (λ (u : List ℕ × ℕ). u.1 ≡ tally u.0 ts) ts
tally_is [] apart = tt
tally_is (t ∷ ts) apart =
    let here : cond (bytes_eq t.0 t.0) t.1 0 ≡ t.1 = ap (λ (b : Bool). cond b t.1 0) ((bytes_eq-Decides t.0 t.0).1 refl) in
    (omega (arith, sum_by-cons (counted t.0) t ts, here, tally_none t.0 ts apart.0), tally_past t ts ts apart.0 (tally_is ts apart.1))

-- a cell as the image has it
abbrev pub cell_of : SecurityEntry → SecurityCell
cell_of s = record { at = s.at; next = s.next; previous = s.previous; count = s.count; descriptor = s.descriptor }

abbrev pub cells_of : List SecurityEntry → List SecurityCell
cells_of securities = map cell_of securities

each_counts : (ts : Tallies) (entries : Entries) (us : List SecurityEntry) → ((d : List ℕ) → 0 < length d → tally d ts ≡ keys_with d entries) → AreSome (tallies us) → AllByRecursion (λ (u : List ℕ × ℕ). u.1 ≡ tally u.0 ts) (tallies us) → AllByRecursion (λ (s : SecurityCell). (0 < s.count) × (s.count ≡ keys_with s.descriptor entries)) (cells_of us)
each_counts ts entries [] all some is = tt
each_counts ts entries (u ∷ us) all some is = ((some.0.1, is.0 ∙ all u.descriptor some.0.0), each_counts ts entries us all some.1 is.1)

pub cells_count : (securities : List SecurityEntry) (entries : Entries) → length entries < 2 ^ 24 → Counts [] (tallies securities) (length entries) (λ d. keys_with d entries) → AreSome (tallies securities) → AreApart (tallies securities) → AllByRecursion (λ (s : SecurityCell). (0 < s.count) × (s.count ≡ keys_with s.descriptor entries)) (cells_of securities)
cells_count securities entries few counts some apart = each_counts (tallies securities) entries securities (λ d long. let all = (counts 0 tt (omega (arith, few))).1 d long in omega (arith, all)) some (tally_is (tallies securities) apart)
