-- Pages in which two images are alike.
use Rattle.std.proofs.Common.{◌≡◌, ℕ, ◌+◌, ◌*◌, ◌/◌, ◌%◌, ◌<◌, Bool, true, false, List, take, drop, get_or, sym, ap, ◌∙◌, arith}
use Rattle.std.proofs.lemmas.List.{get_or-take, get_or-drop}

-- a byte of a page that is alike
pub alike_in_page : (old new : List ℕ) (page i : ℕ) → i / 512 ≡ page → take 512 (drop (512 * page) new) ≡ take 512 (drop (512 * page) old) → get_or new i 0 ≡ get_or old i 0
alike_in_page old new page i here same =
    let k = i % 512 in
    let below : k < 512 = omega arith in
    let place : i ≡ 512 * page + k = omega (arith, here) in
    let of : (l : List ℕ) → get_or (take 512 (drop (512 * page) l)) k 0 ≡ get_or l i 0 =
    λ l. get_or-take 512 (drop (512 * page) l) k 0 below ∙ get_or-drop (512 * page) l k 0 ∙ ap (λ (n : ℕ). get_or l n 0) (sym place) in
    sym (of new) ∙ ap (λ (l : List ℕ). get_or l k 0) same ∙ of old

pub true_false : (b : Bool) → b ≡ true → b ≡ false → ⊥
true_false b t f = absurd cc
