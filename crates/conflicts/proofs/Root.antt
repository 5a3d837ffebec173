-- No legal operation removes a root.
use Rattle.std.proofs.Common.{◌≡◌, ℕ, List, [], ◌∷◌, sym, true}
use Rattle.conflicts.specs.Skeleton.{root_key, Op, CreateKey, DeleteKey, SetValue, DeleteValue, Skeleton, makes, removes, apply, applied}
use Rattle.conflicts.specs.Legal.{Legal, LegalInOrder}
use Rattle.conflicts.proofs.Tests.{key_is, stays}

kept : (o : Op) (s : Skeleton) (hive : ℕ) → Legal s o → removes o (root_key hive) ≡ true → ⊥
kept (CreateKey k) s hive l r = cc
kept (DeleteKey k) s hive l r = l.0 (sym (key_is (root_key hive) k r).1)
kept (SetValue k v) s hive l r = cc
kept (DeleteValue k v) s hive l r = cc

pub root_stays_one : (s : Skeleton) (o : Op) (hive : ℕ) → Legal s o → s.there (root_key hive) ≡ true → (apply o s).there (root_key hive) ≡ true
root_stays_one s o hive l t = stays (s.there (root_key hive)) (makes o (root_key hive)) (removes o (root_key hive)) t (kept o s hive l)

pub root_stays_all : (s : Skeleton) (os : List Op) (hive : ℕ) → LegalInOrder os s → s.there (root_key hive) ≡ true → (applied os s).there (root_key hive) ≡ true
root_stays_all s [] hive l t = t
root_stays_all s (o ∷ os) hive l t = root_stays_all (apply o s) os hive l.1 (root_stays_one s o hive l.0 t)
