-- Entries in the order of their numbers.
use Rattle.std.proofs.Common.{◌≡◌, ◌<◌, ℕ, suc, ◌+◌, ◌-◌, List, [], ◌∷◌, ◌++◌, length, take, get_or, refl, sym, ◌∙◌, ap, arith, append_assoc}
use Rattle.std.proofs.lemmas.List.{take_more}
use Rattle.base_block.specs.Numbers.{number_after}
use Rattle.hive_log_entries.specs.Entries.{number_of}
use Rattle.hive_recovery.specs.Sequences.{number_behind, first_with, in_sequence}

behind_last : (other : ℕ) (entries : List (List ℕ)) (last : List ℕ) → number_behind other (entries ++ last ∷ []) ≡ number_after (number_of last).0
behind_last other [] last = refl
behind_last other (entry ∷ rest) last = behind_last (number_after (number_of entry).0) rest last

-- behind one entry more stands the number after it
pub behind_more : (other : ℕ) (entries : List (List ℕ)) (index : ℕ) (entry : List ℕ) → index < length entries → number_behind other (take (index + 1) entries) ≡ number_after (number_of (get_or entries index entry)).0
behind_more other entries index entry less = ap (number_behind other) (take_more entries index entry less) ∙ behind_last other (take index entries) (get_or entries index entry)

-- one round more
pub one_round : (start made more total : List (List ℕ)) (logs : List (List (List ℕ))) (count round number next then : ℕ) → made ≡ start ++ more → more ≡ first_with number next logs → then ≡ number_behind next more → round < count → start ++ in_sequence (count - round) number next logs ≡ total → made ++ in_sequence (count - (round + 1)) number then logs ≡ total
one_round start made more total logs count round number next then is_made is_more is_then less before =
    let left : count - round ≡ suc (count - (round + 1)) = omega (arith, less) in
    ap (λ begun. begun ++ in_sequence (count - (round + 1)) number then logs) (is_made ∙ ap (λ found. start ++ found) is_more)
    ∙ ap (λ behind. (start ++ first_with number next logs) ++ in_sequence (count - (round + 1)) number behind logs) (is_then ∙ ap (number_behind next) is_more)
    ∙ append_assoc start (first_with number next logs) (in_sequence (count - (round + 1)) number (number_behind next (first_with number next logs)) logs)
    ∙ ap (λ rounds. start ++ in_sequence rounds number next logs) (sym left)
    ∙ before

behind_both : (next : ℕ) (entries more : List (List ℕ)) → number_behind next (entries ++ more) ≡ number_behind (number_behind next entries) more
behind_both next [] more = refl
behind_both next (entry ∷ rest) more = behind_both (number_after (number_of entry).0) rest more

-- after one round the rounds that are left lead to the same number
pub next_round : (count round number next then total : ℕ) (logs : List (List (List ℕ))) → then ≡ number_behind next (first_with number next logs) → round < count → number_behind next (in_sequence (count - round) number next logs) ≡ total →
    number_behind then (in_sequence (count - (round + 1)) number then logs) ≡ total
next_round count round number next then total logs is less before =
    let left : count - round ≡ suc (count - (round + 1)) = omega (arith, less) in
    let more = first_with number next logs in
    let rest = in_sequence (count - (round + 1)) number (number_behind next more) logs in
    ap (λ behind. number_behind behind (in_sequence (count - (round + 1)) number behind logs)) is
    ∙ sym (behind_both next more rest)
    ∙ ap (λ rounds. number_behind next (in_sequence rounds number next logs)) (sym left)
    ∙ before
