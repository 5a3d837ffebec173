-- What each step keeps.
use Rattle.std.proofs.Common.{◌≡◌, ◌⊎◌, inl, inr, ℕ, List, [], ◌∷◌, ◌++◌, refl, ◌∙◌, ap, sym, subst}
use Rattle.std.proofs.lemmas.Bool.{cases_eq}
use Rattle.std.specs.List.{AllByRecursion}
use Rattle.conflicts.specs.Skeleton.{Op, Skeleton, apply, applied}
use Rattle.conflicts.specs.Legal.{Legal, LegalInOrder, NoneConflict}
use Rattle.conflicts.specs.ClaimState.{ClaimState, ClaimsAreSound, NoneMeets, Write, TxWrite, Commit, Drops, ClaimStep, Writes, TxWrites, Commits, Drop, Runs}
use Rattle.conflicts.proofs.Past.{apart_sym, past_ops, past_all}

all_nil : (xs : List Op) → NoneConflict xs []
all_nil [] = tt
all_nil (x ∷ xs) = (tt, all_nil xs)

-- xs apart from one more
all_cons : (y : Op) (ys xs : List Op) → NoneMeets y xs → NoneConflict xs ys → NoneConflict xs (y ∷ ys)
all_cons y ys [] n a = tt
all_cons y ys (x ∷ xs) n a = ((apart_sym y x n.0, a.0), all_cons y ys xs n.1 a.1)

all_sym : (xs ys : List Op) → NoneConflict xs ys → NoneConflict ys xs
all_sym [] ys a = all_nil ys
all_sym (x ∷ xs) ys a = all_cons x xs ys a.0 (all_sym xs ys a.1)

-- one more at the end
snoc_left : (xs ys : List Op) (o : Op) → NoneConflict xs ys → NoneMeets o ys → NoneConflict (xs ++ o ∷ []) ys
snoc_left [] ys o a n = (n, tt)
snoc_left (x ∷ xs) ys o a n = (a.0, snoc_left xs ys o a.1 n)

legal_snoc : (os : List Op) (o : Op) (s : Skeleton) → LegalInOrder os s → Legal (applied os s) o → LegalInOrder (os ++ o ∷ []) s
legal_snoc [] o s l h = (h, tt)
legal_snoc (p ∷ os) o s l h = (l.0, legal_snoc os o (apply p s) l.1 h)

-- lists that stay or become empty
two : (a b c d : List Op) → (c ≡ a) ⊎ (c ≡ []) → (d ≡ b) ⊎ (d ≡ []) → NoneConflict a b → NoneConflict c d
two a b c d (inl e) (inl f) h = subst (λ u. NoneConflict u d) (sym e) (subst (λ u. NoneConflict a u) (sym f) h)
two a b c d (inr e) f h = subst (λ u. NoneConflict u d) (sym e) tt
two a b c d (inl e) (inr f) h = subst (λ u. NoneConflict c u) (sym f) (all_nil c)

-- a transaction's operations on other trees
on : (os ps : List Op) (s t : Skeleton) → os ≡ ps → s ≡ t → LegalInOrder ps t → LegalInOrder os s
on os ps s t e f l = subst (λ u. LegalInOrder u s) (sym e) (subst (λ u. LegalInOrder ps u) (sym f) l)

weaken : {A B C : Type 0} → (A × B) ⊎ C → B ⊎ C
weaken (inl p) = inl p.1
weaken (inr c) = inr c

writes : (o : Op) (old new : ClaimState) → ClaimsAreSound old → Write o old new → ClaimsAreSound new
writes o old new k w = record { legal = λ i. at i (w.held i); apart = λ i j ne. two (old.held i) (old.held j) (new.held i) (new.held j) (weaken (w.held i)) (weaken (w.held j)) (k.apart i j ne) }
  where
    at : (i : ℕ) → (NoneMeets o (old.held i) × (new.held i ≡ old.held i)) ⊎ (new.held i ≡ []) → LegalInOrder (new.held i) new.now
    at i (inl p) = on (new.held i) (old.held i) new.now (apply o old.now) p.1 w.now (past_ops o (old.held i) old.now p.0 (k.legal i))
    at i (inr e) = on (new.held i) [] new.now new.now e refl tt

drops : (old new : ClaimState) → ClaimsAreSound old → Drops old new → ClaimsAreSound new
drops old new k d = record { legal = λ i. at i (d.held i); apart = λ i j ne. two (old.held i) (old.held j) (new.held i) (new.held j) (d.held i) (d.held j) (k.apart i j ne) }
  where
    at : (i : ℕ) → (new.held i ≡ old.held i) ⊎ (new.held i ≡ []) → LegalInOrder (new.held i) new.now
    at i (inl e) = on (new.held i) (old.held i) new.now old.now e d.now (k.legal i)
    at i (inr e) = on (new.held i) [] new.now new.now e refl tt

commits : (i : ℕ) (old new : ClaimState) → ClaimsAreSound old → Commit i old new → ClaimsAreSound new
commits i old new k c = record { legal = λ j. at j (cases_eq j i); apart = λ j l ne. two (old.held j) (old.held l) (new.held j) (new.held l) (which j (cases_eq j i)) (which l (cases_eq l i)) (k.apart j l ne) }
  where
    which : (j : ℕ) → (j ≡ i) ⊎ (j ≡ i → ⊥) → (new.held j ≡ old.held j) ⊎ (new.held j ≡ [])
    which j (inl e) = inr (ap new.held e ∙ c.own)
    which j (inr ne) = inl (c.others j ne)

    at : (j : ℕ) → (j ≡ i) ⊎ (j ≡ i → ⊥) → LegalInOrder (new.held j) new.now
    at j (inl e) = on (new.held j) [] new.now new.now (ap new.held e ∙ c.own) refl tt
    at j (inr ne) = on (new.held j) (old.held j) new.now (applied (old.held i) old.now) (c.others j ne) c.now (past_all (old.held i) (old.held j) old.now (k.apart i j (λ e. ne (sym e))) (k.legal j))

tx_writes : (i : ℕ) (o : Op) (old new : ClaimState) → ClaimsAreSound old → TxWrite i o old new → ClaimsAreSound new
tx_writes i o old new k w = record { legal = λ j. at j (cases_eq j i); apart = λ j l ne. pair j l ne (cases_eq j i) (cases_eq l i) }
  where
    at : (j : ℕ) → (j ≡ i) ⊎ (j ≡ i → ⊥) → LegalInOrder (new.held j) new.now
    at j (inl e) = on (new.held j) (old.held i ++ o ∷ []) new.now old.now (ap new.held e ∙ w.own) w.now (legal_snoc (old.held i) o old.now (k.legal i) w.legal)
    at j (inr ne) = on (new.held j) (old.held j) new.now old.now (w.others j ne) w.now (k.legal j)

    own_first : (l : ℕ) → (l ≡ i → ⊥) → NoneConflict (new.held i) (new.held l)
    own_first l ne = subst (λ u. NoneConflict u (new.held l)) (sym w.own) (subst (λ u. NoneConflict (old.held i ++ o ∷ []) u) (sym (w.others l ne))
        (snoc_left (old.held i) (old.held l) o (k.apart i l (λ e. ne (sym e))) (w.apart l ne)))

    pair : (j l : ℕ) → (j ≡ l → ⊥) → (j ≡ i) ⊎ (j ≡ i → ⊥) → (l ≡ i) ⊎ (l ≡ i → ⊥) → NoneConflict (new.held j) (new.held l)
    pair j l ne (inl e) (inl f) = absurd (ne (e ∙ sym f))
    pair j l ne (inl e) (inr f) = subst (λ u. NoneConflict (new.held u) (new.held l)) (sym e) (own_first l f)
    pair j l ne (inr e) (inl f) = subst (λ u. NoneConflict (new.held j) (new.held u)) (sym f) (all_sym (new.held i) (new.held j) (own_first j e))
    pair j l ne (inr e) (inr f) = two (old.held j) (old.held l) (new.held j) (new.held l) (inl (w.others j e)) (inl (w.others l f)) (k.apart j l ne)

pub keeps : (old new : ClaimState) → ClaimsAreSound old → ClaimStep old new → ClaimsAreSound new
keeps old new k (Writes o w) = writes o old new k w
keeps old new k (TxWrites i o w) = tx_writes i o old new k w
keeps old new k (Commits i c) = commits i old new k c
keeps old new k (Drop d) = drops old new k d

pub always : (m : ClaimState) (ns : List ClaimState) → ClaimsAreSound m → Runs m ns → AllByRecursion ClaimsAreSound ns
always m [] k r = tt
always m (n ∷ ns) k r = let next : ClaimsAreSound n = keeps m n k r.0 in (next, always n ns next r.1)

pub begins : (s : Skeleton) → ClaimsAreSound (record { now = s; held = λ i. [] })
begins s = record { legal = λ i. tt; apart = λ i j ne. tt }
