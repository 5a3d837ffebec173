-- How "whatever a crash since then might have left has P" goes on over a call.
use Rattle.std.proofs.Common.{◌≡◌, ℕ, ◌<◌, ◌≤◌, ⊎_elim, List, refl, ◌∙◌, subst, arith}
use Rattle.std.proofs.lemmas.Bool.{cases_lt}
use Rattle.disk_model.specs.FileState.{FileState, IsSound}
use Rattle.disk_model.specs.Call.{Passes, Extends}
use Rattle.disk_model.specs.Crash.{AlwaysLeaves, LeavesHonest, ShowsHonest}

-- two moments at which each file has the same state
same_state : (a b : ℕ → FileState) → ((f : ℕ) → a f ≡ b f) → a ≡ b
same_state a b each = λ i f. each f i

module _ (left : (ℕ → FileState) → (ℕ → List ℕ) → Type 0) where
  -- from now on
  pub begins : (states : ℕ → ℕ → FileState) (clock : ℕ) (P : (ℕ → List ℕ) → Type 0) → ((files : ℕ → List ℕ) → left (states clock) files → P files)
      → AlwaysLeaves left states clock clock P
  begins states clock P here files (k, from, upto, was) =
      let now : k ≡ clock = omega arith in here files (subst (λ (n : ℕ). left (states n) files) now was)

  -- one call more, after which a crash leaves what has P
  pub goes_on : (old new : ℕ → ℕ → FileState) (before now since : ℕ) (P : (ℕ → List ℕ) → Type 0) → AlwaysLeaves left old before since P → Passes old new before now
      → ((files : ℕ → List ℕ) → left (new now) files → P files) → AlwaysLeaves left new now since P
  goes_on old new before now since P so_far time here files (k, from, upto, was) = ⊎_elim earlier at_end (cases_lt k now)
    where
      earlier : k < now → P files
      earlier lt =
          let le : k ≤ before = omega (arith, time.clock) in
          so_far files (k, from, le, subst (λ (s : ℕ → FileState). left s files) (same_state (new k) (old k) (λ f. time.past k f le)) was)

      at_end : now ≤ k → P files
      at_end le = let is : k ≡ now = omega arith in here files (subst (λ (n : ℕ). left (new n) files) is was)

-- no call, and some calls after others
pub extends_none : (states : ℕ → ℕ → FileState) (clock : ℕ) → Extends states states clock clock
extends_none states clock = record { later = omega arith; past = λ k f le. refl }

pub extends_over : (old mid new : ℕ → ℕ → FileState) (start before now : ℕ) → Extends old mid start before → Extends mid new before now → Extends old new start now
extends_over old mid new start before now first second = record {
  later = omega (arith, first.later, second.later);
  past = λ k f le. second.past k f (omega (arith, first.later)) ∙ first.past k f le;
}

-- what a read gives is left by some crash
pub shown_left : (has_sector : ℕ → Type 0) (state : ℕ → FileState) → ((f : ℕ) → IsSound (state f)) → ShowsHonest has_sector state → LeavesHonest has_sector state (λ f. (state f).seen)
shown_left has_sector state sound honest = (λ f. (sound f).left, honest)
