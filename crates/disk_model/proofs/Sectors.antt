-- Honest first sectors of files at rest.
use Rattle.std.proofs.Common.{inl, ℕ, List, take, ap}
use Rattle.disk_model.specs.FileState.{Leaves, at_rest}
use Rattle.disk_model.specs.Sector.{IsHonest}
use Rattle.disk_model.proofs.Leaves.{left_at_rest}

pub honest_at_rest : (bytes c : List ℕ) → Leaves (at_rest bytes) c → IsHonest (at_rest bytes) c
honest_at_rest bytes c left = inl (ap (λ (l : List ℕ). take 512 l) (left_at_rest bytes c left))
