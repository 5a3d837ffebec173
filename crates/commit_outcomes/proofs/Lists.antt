-- Commits in memory, by the names of their units.
use Rattle.std.proofs.Common.{◌≡◌, ℕ, zero, suc, ◌-◌, ◌<◌, ◌≤◌, ◌==◌, Bool, true, false, List, [], ◌∷◌, map, length, Some, None, option_map, if◌then◌else◌, slice_get, refl, sym, ◌∙◌, ap, subst, arith}
use Rattle.std.proofs.lemmas.List.{length-map}
use Rattle.std.proofs.lemmas.Bool.{eqb-true}
use Rattle.byteorder.specs.Endian.{little_number}
use Rattle.commit_outcomes.specs.Commits.{Commit, AreUpTo, AreKept}
use Rattle.commit_outcomes.specs.CommitLists.{named_commit, named_commits, last_number, number_of_data}
use Rattle.commit_outcomes.specs.declared.kept_commit.KeptCommit.{KeptCommit}
use Rattle.commit_outcomes.proofs.Written.{Rise, rise_first, rise_none}

pub none_kept : AreKept []
none_kept = record { rise = rise_none; above = tt; units = tt; apart = refl; few = omega arith }

pub get_map : {X Y : Type 0} (f : X → Y) (xs : List X) (i : ℕ) → slice_get (map f xs) i ≡ option_map f (slice_get xs i)
get_map f [] i = refl
get_map f (x ∷ xs) zero = refl
get_map f (x ∷ xs) (suc i) = get_map f xs i

-- The last of commits

last_is : (commits : List Commit) (d : Commit) → slice_get commits (length commits - 1) ≡ Some d → last_number commits ≡ d.0
last_is [] d e = absurd (let never : ⊥ = cc in never)
last_is (c ∷ []) d e = let same : c ≡ d = one c d e in ap (λ (x : Commit). x.0) same
  where
    one : (c d : Commit) → Some c ≡ Some d → c ≡ d
    one c d e = cc
last_is (c ∷ x ∷ commits) d e =
    let next : suc (suc (length commits)) - 1 ≡ suc (length (x ∷ commits) - 1) = omega arith in
    last_is (x ∷ commits) d (sym (ap (slice_get (c ∷ x ∷ commits)) next) ∙ e)

up_to_last : (commits : List Commit) (d : Commit) → Rise commits → slice_get commits (length commits - 1) ≡ Some d → AreUpTo d.0 commits
up_to_last [] d rise e = tt
up_to_last (c ∷ []) d rise e = let same : c ≡ d = one c d e in (subst (λ (x : Commit). c.0 ≤ x.0) same (omega arith), tt)
  where
    one : (c d : Commit) → Some c ≡ Some d → c ≡ d
    one c d e = cc
up_to_last (c ∷ x ∷ commits) d rise e =
    let next : suc (suc (length commits)) - 1 ≡ suc (length (x ∷ commits) - 1) = omega arith in
    let parts = rise_first c (x ∷ commits) rise in
    let rest = up_to_last (x ∷ commits) d parts.1 (sym (ap (slice_get (c ∷ x ∷ commits)) next) ∙ e) in
    let first : c.0 < x.0 = parts.0.0 in
    let more : x.0 ≤ d.0 = rest.0 in
    (omega (arith, first, more), rest)

named_last : (commits : List KeptCommit) (d : KeptCommit) → slice_get commits (length commits - 1) ≡ Some d → slice_get (named_commits commits) (length (named_commits commits) - 1) ≡ Some (named_commit d)
named_last commits d e = ap (λ n. slice_get (named_commits commits) (n - 1)) (length-map commits named_commit) ∙ get_map named_commit commits (length commits - 1) ∙ ap (option_map named_commit) e

pub last_number_is : (commits : List KeptCommit) (d : KeptCommit) → slice_get commits (length commits - 1) ≡ Some d → last_number (named_commits commits) ≡ d.number
last_number_is commits d e = last_is (named_commits commits) (named_commit d) (named_last commits d e)

pub up_to_last_number : (commits : List KeptCommit) (d : KeptCommit) → Rise (named_commits commits) → slice_get commits (length commits - 1) ≡ Some d → AreUpTo d.number (named_commits commits)
up_to_last_number commits d rise e = up_to_last (named_commits commits) (named_commit d) rise (named_last commits d e)

-- The number in data

pub data_number : (bytes : List ℕ) (number : ℕ) → Some number ≡ number_of_data bytes → (length bytes ≡ 8) × (number ≡ little_number 8 bytes)
data_number bytes number is = by_case (length bytes == 8) refl is
  where
    by_case : (b : Bool) → (length bytes == 8) ≡ b → Some number ≡ (if b then Some (little_number 8 bytes) else None) → (length bytes ≡ 8) × (number ≡ little_number 8 bytes)
    by_case true e same = let one : number ≡ little_number 8 bytes = cc in (eqb-true (length bytes) 8 e, one)
    by_case false e same = absurd (let never : ⊥ = cc in never)
