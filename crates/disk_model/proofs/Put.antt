-- What `resized` and `put` leave, byte by byte.
use Rattle.std.proofs.Common.{⊎_elim, ◌≡◌, ℕ, ◌+◌, ◌-◌, ◌<◌, ◌≤◌, max, List, [], ◌∷◌, ◌++◌, length, get_or, take, drop, replicate, refl, sym, ◌∙◌, ap, arith, length-append, length-take, length-drop}
use Rattle.std.proofs.lemmas.List.{places, same_lists, length-replicate, get_or-drop, get_or_append_left, get_or-append_right}
use Rattle.std.proofs.lemmas.Bool.{cases_lt}
use Rattle.disk_model.specs.FileState.{resized, put, Covers}

pub length-resized : (file : List ℕ) (n : ℕ) → length (resized file n) ≡ n
length-resized file n = omega (arith, length-append (take n file) (replicate (n - length file) 0), length-take n file, length-replicate {A = ℕ} (n - length file) 0)

pub get_or-resized : (file : List ℕ) (n p d : ℕ) → p < n → p < length file → get_or (resized file n) p d ≡ get_or file p d
get_or-resized file n p d in_n in_file = grind (arith, places)

pub put_some : (file bytes : List ℕ) (offset : ℕ) → 0 < length bytes → put file offset bytes ≡ resized file offset ++ bytes ++ drop (offset + length bytes) file
put_some file [] offset some = absurd (omega arith)
put_some file (byte ∷ bytes) offset some = refl

take-resized : (file : List ℕ) (n m : ℕ) → m ≤ n → take m (resized file n) ≡ resized file m
take-resized file n m le = same_lists _ _ (omega (arith, length-take m (resized file n), length-resized file n, length-resized file m)) (λ k d h. grind (arith, places))

-- past an offset nothing is changed by zeros up to it
drop-resized : (file : List ℕ) (n : ℕ) → drop n (resized file (max (length file) n)) ≡ drop n file
drop-resized file n =
    let m = max (length file) n in
    same_lists _ _ (omega (arith, length-drop n (resized file m), length-drop n file, length-resized file m))
    (λ k d h. let le : n + k < length file = omega (arith, length-drop n (resized file m), length-resized file m) in
    get_or-drop n (resized file m) k d ∙ get_or-resized file m (n + k) d (omega arith) le ∙ sym (get_or-drop n file k d))

-- the bytes pasted over a file that is long enough for them
pub paste_over : (file bytes : List ℕ) (offset : ℕ) → 0 < length bytes
    → let long = resized file (max (length file) (offset + length bytes)) in take offset long ++ bytes ++ drop (offset + length bytes) long ≡ put file offset bytes
paste_over file bytes offset some =
    ap (λ (l : List ℕ). l ++ bytes ++ drop (offset + length bytes) (resized file (max (length file) (offset + length bytes)))) (take-resized file _ offset (omega arith))
    ∙ ap (λ (l : List ℕ). resized file offset ++ bytes ++ l) (drop-resized file (offset + length bytes))
    ∙ sym (put_some file bytes offset some)

-- a byte outside the range stays
pub get_or-put_outside : (file : List ℕ) (offset : ℕ) (bytes : List ℕ) (p : ℕ) → p < length file → (Covers (record { from = offset; bytes = bytes }) p → ⊥)
    → get_or (put file offset bytes) p 0 ≡ get_or file p 0
get_or-put_outside file offset [] p in_file out = refl
get_or-put_outside file offset (byte ∷ bytes) p in_file out = ⊎_elim before (λ from. behind from (⊎_elim (λ lt. absurd (out (from, lt))) (λ le. le) (cases_lt p (offset + length (byte ∷ bytes))))) (cases_lt p offset)
  where
    before : p < offset → get_or (put file offset (byte ∷ bytes)) p 0 ≡ get_or file p 0
    before lt =
        let front : length (resized file offset) ≡ offset = length-resized file offset in
        let long : length (resized file offset ++ byte ∷ bytes) ≡ offset + length (byte ∷ bytes) = omega (arith, length-append (resized file offset) (byte ∷ bytes)) in
        get_or_append_left (resized file offset ++ byte ∷ bytes) (drop (offset + length (byte ∷ bytes)) file) 0 p (omega arith)
        ∙ get_or_append_left (resized file offset) (byte ∷ bytes) 0 p (omega arith)
        ∙ get_or-resized file offset p 0 lt in_file

    behind : offset ≤ p → offset + length (byte ∷ bytes) ≤ p → get_or (put file offset (byte ∷ bytes)) p 0 ≡ get_or file p 0
    behind from past =
        let end = offset + length (byte ∷ bytes) in
        let long : length (resized file offset ++ byte ∷ bytes) ≡ end = omega (arith, length-append (resized file offset) (byte ∷ bytes), length-resized file offset) in
        let back : end + (p - end) ≡ p = omega arith in
        get_or-append_right (resized file offset ++ byte ∷ bytes) (drop end file) end p 0 long past
        ∙ get_or-drop end file (p - end) 0
        ∙ ap (λ (i : ℕ). get_or file i 0) back

-- a byte in the range is the one put there
pub get_or-put_inside : (file : List ℕ) (offset : ℕ) (bytes : List ℕ) (p : ℕ) → offset ≤ p → p < offset + length bytes → get_or (put file offset bytes) p 0 ≡ get_or bytes (p - offset) 0
get_or-put_inside file offset [] p from below = absurd (omega arith)
get_or-put_inside file offset (byte ∷ bytes) p from below =
    let all = byte ∷ bytes in
    let front : length (resized file offset) ≡ offset = length-resized file offset in
    let long : length (resized file offset ++ byte ∷ bytes) ≡ offset + length (byte ∷ bytes) = omega (arith, length-append (resized file offset) (byte ∷ bytes)) in
    get_or_append_left (resized file offset ++ byte ∷ bytes) (drop (offset + length (byte ∷ bytes)) file) 0 p (omega arith)
    ∙ get_or-append_right (resized file offset) (byte ∷ bytes) offset p 0 front from
