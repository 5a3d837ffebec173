-- A line that is handed out in parts.
use Rattle.std.proofs.Common.{◌≡◌, ℕ, ◌+◌, ◌<◌, ◌≤◌, List, ◌++◌, length, take, drop, get_or, sym, ◌∙◌, ap, subst, arith}
use Rattle.std.proofs.lemmas.List.{take-append-drop, length-take-le, length-drop, get_or-drop, drop-drop, take_at}
use Rattle.client_desks.specs.Lines.{IsLineRest}

-- what is left of a line after a part of it
pub rest_after : (n : ℕ) (rest : List ℕ) → IsLineRest rest → IsLineRest (drop n rest)
rest_after n rest is k h =
    let at : get_or (drop n rest) k 0 ≡ get_or rest (n + k) 0 = get_or-drop n rest k 0 in
    let within : n + k < length rest = omega (arith, h, length-drop n rest) in
    let here = is (n + k) within in (
      (λ e. omega (arith, here.0 (sym at ∙ e), length-drop n rest, within)),
      λ e. at ∙ here.1 (omega (arith, e, length-drop n rest, within)),
    )

pub rest_later : (from n : ℕ) (bytes : List ℕ) → IsLineRest (drop from bytes) → IsLineRest (drop (from + n) bytes)
rest_later from n bytes is = subst IsLineRest (drop-drop n from bytes) (rest_after n (drop from bytes) is)

-- what was handed out, and what is left
pub handed_out : (from n : ℕ) (bytes part others : List ℕ) → part ≡ take n (drop from bytes) → n ≤ length (drop from bytes) → drop from bytes ≡ take n (part ++ others) ++ drop (from + n) bytes
handed_out from n bytes part others e h =
    let len : length part ≡ n = ap length e ∙ length-take-le n (drop from bytes) h in
    sym (take-append-drop n (drop from bytes))
    ∙ ap (λ (l : List ℕ). l ++ drop n (drop from bytes)) (sym (take_at part others n len ∙ e))
    ∙ ap (λ (l : List ℕ). take n (part ++ others) ++ l) (drop-drop n from bytes)
