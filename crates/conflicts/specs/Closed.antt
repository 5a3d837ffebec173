-- What every skeleton of trees keeps.
use Rattle.std.specs.Prelude.{◌≡◌, ℕ, List, true}
use Rattle.conflicts.specs.Skeleton.{Key, Begins, Skeleton}

-- with a key each beginning of its path is there, and only keys that are there are protected or have values
pub record Closed (s : Skeleton) : Type 0 where
  pub above : (k l : Key) → Begins k l → s.there l ≡ true → s.there k ≡ true
  pub protected : (k : Key) → s.protected k ≡ true → s.there k ≡ true
  pub value : (k : Key) (w : List ℕ) → s.value k w ≡ true → s.there k ≡ true
