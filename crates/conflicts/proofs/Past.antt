-- One operation after another, and after a list.
use Rattle.std.proofs.Common.{◌≡◌, inl, ℕ, List, [], ◌∷◌, refl, ◌∙◌, ap, sym, subst, Bool, true, false}
use Rattle.std.specs.List.{AllByRecursion}
use mathlib.Core.Path.{fun_ext}
use Rattle.conflicts.specs.Skeleton.{Key, Same, Begins, same_name, same_key, Shape, Op, CreateKey, DeleteKey, SetValue, DeleteValue, claim, Skeleton, makes, removes, makes_value, removes_value, apply, applied}
use Rattle.conflicts.specs.Legal.{Near, Legal, LegalInOrder, DontConflict, NoneConflict}
use Rattle.conflicts.proofs.Tests.{never, both, key_is, key_begins, same_begins, begins_begins, same_refl, begins_refl, proper_begins, shape_conflict, conflict_sym, stays, stays_away, either_order}

made_begins : (o : Op) (x : Key) → makes o x ≡ true → ((claim o).kind ≡ Shape) × Begins x (claim o).key
made_begins (CreateKey k) x h = (refl, key_begins x k h)
made_begins (DeleteKey k) x h = never h
made_begins (SetValue k v) x h = never h
made_begins (DeleteValue k v) x h = never h

removed_is : (o : Op) (x : Key) → removes o x ≡ true → ((claim o).kind ≡ Shape) × Same x (claim o).key
removed_is (CreateKey k) x h = never h
removed_is (DeleteKey k) x h = (refl, key_is x k h)
removed_is (SetValue k v) x h = never h
removed_is (DeleteValue k v) x h = never h

made_value_is : (o : Op) (x : Key) (w : List ℕ) → makes_value o x w ≡ true → Same x (claim o).key
made_value_is (CreateKey k) x w h = never h
made_value_is (DeleteKey k) x w h = never h
made_value_is (SetValue k v) x w h = key_is x k (both (same_key x k) (same_name w v) h).0
made_value_is (DeleteValue k v) x w h = never h

removed_value_is : (o : Op) (x : Key) (w : List ℕ) → removes_value o x w ≡ true → Same x (claim o).key
removed_value_is (CreateKey k) x w h = never h
removed_value_is (DeleteKey k) x w h = key_is x k h
removed_value_is (SetValue k v) x w h = never h
removed_value_is (DeleteValue k v) x w h = key_is x k (both (same_key x k) (same_name w v) h).0

-- the four facts: what one operation changes touches no key that the other asks about
no_removed : (a b : Op) (x : Key) → DontConflict a b → Begins x (claim b).key → removes a x ≡ true → ⊥
no_removed a b x apart h r = let t : ((claim a).kind ≡ Shape) × Same x (claim a).key = removed_is a x r in
    apart (shape_conflict (claim a) (claim b) t.0 (same_begins x (claim a).key (claim b).key t.1 h))

no_made : (a b : Op) (x : Key) → DontConflict a b → (claim b).kind ≡ Shape → Begins (claim b).key x → makes a x ≡ true → ⊥
no_made a b x apart s h m = let t : ((claim a).kind ≡ Shape) × Begins x (claim a).key = made_begins a x m in
    apart (conflict_sym (claim b) (claim a) (shape_conflict (claim b) (claim a) s (begins_begins (claim b).key x (claim a).key h t.1)))

other_key : (a b : Op) (x : Key) → DontConflict a b → Same x (claim a).key → Same x (claim b).key → ⊥
other_key a b x apart s t = apart (inl (sym s.0 ∙ t.0, sym s.1 ∙ t.1))

pub apart_sym : (a b : Op) → DontConflict a b → DontConflict b a
apart_sym a b apart c = apart (conflict_sym (claim b) (claim a) c)

not_both : (a b : Op) (x : Key) → DontConflict a b → makes a x ≡ true → removes b x ≡ true → ⊥
not_both a b x apart m r = no_removed b a x (apart_sym a b apart) (made_begins a x m).1 r

-- legal before, legal after
pub past_one : (a b : Op) (s : Skeleton) → DontConflict a b → Legal s b → Legal (apply a s) b
past_one a (CreateKey k) s apart l = (
  stays_away (s.there k) (makes a k) (removes a k) l.0 (no_made a (CreateKey k) k apart refl (begins_refl k)),
  near l.1,
)
  where
    near : Near s k → Near (apply a s) k
    near n = let q : Key = record { hive = k.hive; path = n.0 } in
        (n.0, n.1, n.2, n.3, stays (s.there q) (makes a q) (removes a q) n.4 (no_removed a (CreateKey k) q apart (refl, (n.1, n.2))))
past_one a (DeleteKey k) s apart l = (
  l.0,
  stays (s.there k) (makes a k) (removes a k) l.1 (no_removed a (DeleteKey k) k apart (begins_refl k)),
  stays_away (s.protected k) false (removes a k) l.2 (λ e. never e),
  λ y b. stays_away (s.there y) (makes a y) (removes a y) (l.3 y b) (no_made a (DeleteKey k) y apart refl (proper_begins k y b)),
)
past_one a (SetValue k v) s apart l = stays (s.there k) (makes a k) (removes a k) l (no_removed a (SetValue k v) k apart (begins_refl k))
past_one a (DeleteValue k v) s apart l = (
  stays (s.there k) (makes a k) (removes a k) l.0 (no_removed a (DeleteValue k v) k apart (begins_refl k)),
  stays (s.value k v) (makes_value a k v) (removes_value a k v) l.1 (λ r. other_key a (DeleteValue k v) k apart (removed_value_is a k v r) (same_refl k)),
)

pub orders : (a b : Op) (s : Skeleton) → DontConflict a b → apply a (apply b s) ≡ apply b (apply a s)
orders a b s apart =
    ap (λ (f : Key → Bool). record { there = f; protected = (apply a (apply b s)).protected; value = (apply a (apply b s)).value })
    (fun_ext (λ x. either_order (s.there x) (makes a x) (removes a x) (makes b x) (removes b x) (not_both a b x apart) (not_both b a x (apart_sym a b apart))))
    ∙ ap (λ (f : Key → Bool). record { there = (apply b (apply a s)).there; protected = f; value = (apply a (apply b s)).value })
    (fun_ext (λ x. either_order (s.protected x) false (removes a x) false (removes b x) (λ e f. never e) (λ e f. never e)))
    ∙ ap (λ (f : Key → List ℕ → Bool). record { there = (apply b (apply a s)).there; protected = (apply b (apply a s)).protected; value = f })
    (fun_ext (λ x. fun_ext (λ w. either_order (s.value x w) (makes_value a x w) (removes_value a x w) (makes_value b x w) (removes_value b x w)
    (λ m r. other_key a b x apart (made_value_is a x w m) (removed_value_is b x w r))
    (λ m r. other_key a b x apart (removed_value_is a x w r) (made_value_is b x w m)))))

-- a list stays legal after one operation
pub past_ops : (a : Op) (os : List Op) (s : Skeleton) → AllByRecursion (λ o. DontConflict a o) os → LegalInOrder os s → LegalInOrder os (apply a s)
past_ops a [] s apart l = tt
past_ops a (o ∷ os) s apart l = (past_one a o s apart.0 l.0, subst (λ t. LegalInOrder os t) (orders a o s apart.0) (past_ops a os (apply o s) apart.1 l.1))

pub past_all : (es os : List Op) (s : Skeleton) → NoneConflict es os → LegalInOrder os s → LegalInOrder os (applied es s)
past_all [] os s apart l = l
past_all (e ∷ es) os s apart l = past_all es os (apply e s) apart.1 (past_ops e os s apart.0 l)
