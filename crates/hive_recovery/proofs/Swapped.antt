-- Logs that change places.
use Rattle.std.proofs.Common.{◌≡◌, ℕ, zero, suc, Bool, true, false, if◌then◌else◌, List, [], ◌∷◌, ◌++◌, length, map, refl, ◌∙◌, ap}
use Rattle.std.proofs.lemmas.Bool.{true≢false}
use Rattle.hive_recovery.specs.Plans.{unclean_plan, replayed}
use Rattle.hive_recovery.specs.Sequences.{begins, left_from, first_with, in_sequence, number_behind}
use Rattle.hive_recovery.specs.Limits.{usable, BeginApart}
use Rattle.hive_recovery.specs.declared.limits.Reach.{Reach}
use Rattle.hive_recovery.specs.declared.log.Log.{Log}

picked : {X : Type 0} (one other : Bool) (x y z : X) → (one ≡ true → other ≡ false) → (if one then x else (if other then y else z)) ≡ (if other then y else (if one then x else z))
picked true true x y z apart = absurd (true≢false (apart refl))
picked true false x y z apart = refl
picked false true x y z apart = refl
picked false false x y z apart = refl

same_first : (reach : Reach) (next : ℕ) (front back : List Log) (one other : Log) → BeginApart reach one other →
    first_with reach.from.0 next (map (usable reach.to) (front ++ one ∷ other ∷ back)) ≡ first_with reach.from.0 next (map (usable reach.to) (front ++ other ∷ one ∷ back))
same_first reach next [] back one other apart =
    picked (begins next (left_from reach.from.0 (usable reach.to one))) (begins next (left_from reach.from.0 (usable reach.to other))) (left_from reach.from.0 (usable reach.to one)) (left_from reach.from.0 (usable reach.to other)) (first_with reach.from.0 next (map (usable reach.to) back)) (apart next)
same_first reach next (log ∷ rest) back one other apart =
    ap (λ found. if begins next (left_from reach.from.0 (usable reach.to log)) then left_from reach.from.0 (usable reach.to log) else found) (same_first reach next rest back one other apart)

same_sequence : (n : ℕ) (reach : Reach) (next : ℕ) (front back : List Log) (one other : Log) → BeginApart reach one other →
    in_sequence n reach.from.0 next (map (usable reach.to) (front ++ one ∷ other ∷ back)) ≡ in_sequence n reach.from.0 next (map (usable reach.to) (front ++ other ∷ one ∷ back))
same_sequence zero reach next front back one other apart = refl
same_sequence (suc n) reach next front back one other apart =
    let logs = map (usable reach.to) (front ++ one ∷ other ∷ back) in
    let turned = map (usable reach.to) (front ++ other ∷ one ∷ back) in
    let more = same_first reach next front back one other apart in
    ap (λ found. found ++ in_sequence n reach.from.0 (number_behind next found) logs) more
    ∙ ap (λ rest. first_with reach.from.0 next turned ++ rest) (same_sequence n reach (number_behind next (first_with reach.from.0 next turned)) front back one other apart)

same_count : (front back : List Log) (one other : Log) → length (front ++ one ∷ other ∷ back) ≡ length (front ++ other ∷ one ∷ back)
same_count [] back one other = refl
same_count (log ∷ rest) back one other = ap suc (same_count rest back one other)

pub same_plan : (sector : List ℕ) (reach : Reach) (front back : List Log) (one other : Log) → BeginApart reach one other →
    unclean_plan sector reach (front ++ one ∷ other ∷ back) ≡ unclean_plan sector reach (front ++ other ∷ one ∷ back)
unfolding unclean_plan
same_plan sector reach front back one other apart =
    ap (λ n. replayed sector (in_sequence n reach.from.0 reach.from.0 (map (usable reach.to) (front ++ one ∷ other ∷ back)))) (same_count front back one other)
    ∙ ap (replayed sector) (same_sequence (length (front ++ other ∷ one ∷ back)) reach reach.from.0 front back one other apart)
