-- Texts that are gathered in blocks.
use Rattle.std.proofs.Common.{◌≡◌, ◌∙◌, ℕ, List, ◌++◌, ap, sym, append_assoc}

-- a part of what was gathered is written, and more is gathered: the whole text stays
pub gathered : (done text kept more rest all left : List ℕ) → text ++ kept ≡ all → more ++ rest ≡ left → (done ++ text) ++ ((kept ++ more) ++ rest) ≡ done ++ (all ++ left)
gathered done text kept more rest all left was is =
    append_assoc done text ((kept ++ more) ++ rest)
    ∙ ap (λ (t : List ℕ). done ++ t)
    (ap (λ (t : List ℕ). text ++ t) (append_assoc kept more rest) ∙ sym (append_assoc text kept (more ++ rest)) ∙ ap (λ (t : List ℕ). t ++ (more ++ rest)) was ∙ ap (λ (t : List ℕ). all ++ t) is)
