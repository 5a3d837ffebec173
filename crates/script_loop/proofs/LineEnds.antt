-- The first line of the bytes that are left.
use Rattle.std.proofs.Common.{◌≡◌, ◌≢◌, ℕ, suc, ◌-◌, ◌<◌, ◌==◌, ◌&&◌, if◌then◌else◌, Bool, true, false, cond, List, [], ◌∷◌, length, take, Option, Some, None, refl, sym, ◌∙◌, ap, arith}
use Rattle.std.specs.Prelude.{nat_lt, slice_index, IfSome}
use Rattle.std.specs.Io.BufRead.{take_through, drop_through, strip_last, DropsThrough}
use Rattle.std.proofs.lemmas.Bool.Decides.{nat_tests}
use Rattle.script_loop.specs.Lines.{TakesLine, lines_of, with_byte}

cond_cons : (test : Bool) (b : ℕ) (u v : List ℕ) → cond test (b ∷ u) (b ∷ v) ≡ b ∷ cond test u v
cond_cons true b u v = refl
cond_cons false b u v = refl

strip_at : (b : ℕ) (t : List ℕ) (n m : ℕ) (p q : Bool) → m ≡ suc n → p ≡ q → (if p && (slice_index (b ∷ t) m == 10) then take m (b ∷ t) else b ∷ t) ≡ b ∷ (if q && (slice_index t n == 10) then take n t else t)
strip_at b t n m p q e f = rw e (rw f (cond_cons (q && (slice_index t n == 10)) b (take n t) t))

-- a byte in front of a text that isn't empty
strip_cons : (b : ℕ) (t : List ℕ) → 0 < length t → strip_last 10 (b ∷ t) ≡ b ∷ strip_last 10 t
strip_cons b [] h = absurd (omega (arith, h))
strip_cons b (x ∷ xs) h =
    let more : nat_lt 0 (length (b ∷ x ∷ xs)) ≡ true = grind (arith, nat_tests) in
    let some : nat_lt 0 (length (x ∷ xs)) ≡ true = grind (arith, nat_tests) in
    strip_at b (x ∷ xs) (length (x ∷ xs) - 1) (length (b ∷ x ∷ xs) - 1) (nat_lt 0 (length (b ∷ x ∷ xs))) (nat_lt 0 (length (x ∷ xs))) (omega arith) (more ∙ sym some)

some_taken : (test : Bool) (c : ℕ) (cs : List ℕ) → 0 < length (if test then c ∷ [] else c ∷ cs)
some_taken true c cs = omega arith
some_taken false c cs = omega arith

cut : (test : Bool) (b : ℕ) (bs : List ℕ) → (b == 10) ≡ test → (0 < length (take_through 10 bs) → lines_of bs ≡ strip_last 10 (take_through 10 bs) ∷ lines_of (drop_through 10 bs)) → (if test then [] ∷ lines_of bs else with_byte b (lines_of bs)) ≡ strip_last 10 (if test then b ∷ [] else b ∷ take_through 10 bs) ∷ lines_of (if test then bs else drop_through 10 bs)
cut true b bs e rest = rw e refl
cut false b [] e rest = rw e refl
cut false b (c ∷ cs) e rest =
    let some = some_taken (c == 10) c (take_through 10 cs) in
    ap (with_byte b) (rest some) ∙ ap (λ line. line ∷ lines_of (drop_through 10 (c ∷ cs))) (sym (strip_cons b (take_through 10 (c ∷ cs)) some))

-- the first line, and those of what follows it
first_cut : (bytes : List ℕ) → 0 < length (take_through 10 bytes) → lines_of bytes ≡ strip_last 10 (take_through 10 bytes) ∷ lines_of (drop_through 10 bytes)
first_cut [] some = absurd (omega (arith, some))
first_cut (b ∷ bs) some = cut (b == 10) b bs refl (first_cut bs)

-- what reading up to the end of a line took is the first line
pub takes_line : (known rest : Option (List ℕ)) (items line : List ℕ) (n : ℕ) → IfSome known (λ bytes. items ≡ take_through 10 bytes) → DropsThrough known rest 10 → length items ≡ n → n ≢ 0 → line ≡ strip_last 10 items → TakesLine known rest line
takes_line None rest items line n taken dropped long some stripped = tt
takes_line (Some bytes) rest items line n taken dropped long some stripped =
    let more : 0 < length (take_through 10 bytes) = omega (arith, some, sym long ∙ ap length taken) in
    (drop_through 10 bytes, dropped, first_cut bytes more ∙ ap (λ first. first ∷ lines_of (drop_through 10 bytes)) (sym (stripped ∙ ap (strip_last 10) taken)))
