-- From what a crash may leave of each file to the files together.
use Rattle.std.proofs.Common.{◌≡◌, ◌⊎◌, inl, inr, ℕ, zero, suc, ◌+◌, ◌*◌, ◌<◌, ◌≤◌, List, [], ◌∷◌, ◌∙◌, ap, sym, subst, arith, Some}
use Rattle.std.proofs.lemmas.Option.{same_Some}
use Rattle.crash_model.specs.Changes.{Rules, Element, ops_on, replay}
use Rattle.crash_model.specs.Promises.{Content, Leaves, JournalOn, HiveOn}
use Rattle.crash_model.specs.Recovery.{above, IsLastNumber, Recovers}
use Rattle.crash_model.specs.Invariant.{State, InvariantHolds}
use Rattle.crash_model.specs.Files.{IsLastNumberOf, FilesRecover, FilesPrefix}
use Rattle.crash_model.proofs.KeepSteps.{safe}

up : {a b : ℕ} → (a < b) ⊎ (b ≤ a) → (suc a < suc b) ⊎ (suc b ≤ suc a)
up (inl h) = inl (omega (arith, h))
up (inr h) = inr (omega (arith, h))

lt_or_ge : (a b : ℕ) → (a < b) ⊎ (b ≤ a)
lt_or_ge a zero = inr (omega arith)
lt_or_ge zero (suc b) = inl (omega arith)
lt_or_ge (suc a) (suc b) = up (lt_or_ge a b)

module _ {T Op : Type 0} (r : Rules T Op) (decodes : List ℕ → Content Op → Type 0) (holds : List ℕ → List ℕ → T × ℕ → Type 0) (most hives : ℕ) where
  last_of : (files : ℕ → List ℕ) (held : ℕ → T × ℕ) → ((i : ℕ) → i < hives → holds (files (1 + 2 * i)) (files (2 + 2 * i)) (held i))
      → (below : ℕ) (es : List (Element Op)) (n : ℕ)
      → IsLastNumber hives (λ i. (held i).1) below es n
      → IsLastNumberOf (λ i k. (t : T) × holds (files (1 + 2 * i)) (files (2 + 2 * i)) (t, k)) hives below es n
  last_of files held all below [] n h = (h.0, h.1, ((held h.0).0, subst (λ k. holds (files (1 + 2 * h.0)) (files (2 + 2 * h.0)) ((held h.0).0, k)) h.2 (all h.0 h.1)))
  last_of files held all below (e ∷ es) n h = h

  -- files that decode to some content and to these trees and numbers recover what is recovered from
  -- them
  pub files_recover : (files : ℕ → List ℕ) (journal : Content Op) (held : ℕ → T × ℕ) (n : ℕ) (trees : ℕ → T) → decodes (files 0) journal
      → ((i : ℕ) → i < hives → holds (files (1 + 2 * i)) (files (2 + 2 * i)) (held i)) → Recovers r most hives journal held n trees → FilesRecover r decodes holds most hives files n trees
  files_recover files journal held n trees told all p = record {
    journal = journal;
    decoded = told;
    last = last_of files held all journal.below journal.elements n p.last;
    limit = p.limit;
    each = λ i lt. record { held = held i; holds_it = all i lt; not_above = p.not_above i lt; replayed = p.tree i lt; allowed = p.allowed i lt };
  }

  -- files that decode to what may be left recover one number
  pub files_prefix : (s : State T Op) → InvariantHolds r most hives s → (journal_leaves : List ℕ → Type 0) → JournalOn decodes s.journal journal_leaves
      → (primary log : ℕ → List ℕ → Type 0) → ((i : ℕ) → i < hives → HiveOn holds (s.files i) (primary i) (log i))
      → (files : ℕ → List ℕ) → journal_leaves (files 0) → ((i : ℕ) → i < hives → primary i (files (1 + 2 * i)) × log i (files (2 + 2 * i)))
      → FilesPrefix r decodes holds most hives s files
  files_prefix s kept journal_leaves on primary log each files first rest =
      let j = on (files 0) first in
      let p = safe r most hives s kept j.0 j.1 held left in
      (p.0, p.1, p.2, files_recover files j.0 held p.0 _ j.2 held_by p.3)
    where
      found : (i : ℕ) → i < hives → (x : T × ℕ) × Leaves (s.files i) x × holds (files (1 + 2 * i)) (files (2 + 2 * i)) x
      found i lt = let b = rest i lt in each i lt (files (1 + 2 * i)) (files (2 + 2 * i)) b.0 b.1

      held_at : (i : ℕ) → (z : (i < hives) ⊎ (hives ≤ i))
          → (x : T × ℕ) × (i < hives → Leaves (s.files i) x × holds (files (1 + 2 * i)) (files (2 + 2 * i)) x)
      held_at i (inl lt) = let f = found i lt in (f.0, λ _. (f.1, f.2))
      held_at i (inr ge) = ((s.life.trees i, 0), λ lt. absurd (omega (arith, lt, ge)))

      held : ℕ → T × ℕ
      held i = (held_at i (lt_or_ge i hives)).0

      left : (i : ℕ) → i < hives → Leaves (s.files i) (held i)
      left i lt = ((held_at i (lt_or_ge i hives)).1 lt).0

      held_by : (i : ℕ) → i < hives → holds (files (1 + 2 * i)) (files (2 + 2 * i)) (held i)
      held_by i lt = ((held_at i (lt_or_ge i hives)).1 lt).1

  module _ (one_decoded : (c : List ℕ) (s t : Content Op) → decodes c s → decodes c t → s ≡ t) (one_held : (p l : List ℕ) (x y : T × ℕ) → holds p l x → holds p l y → x ≡ y) where
    not_more : (files : ℕ → List ℕ) (n m : ℕ) (us : ℕ → T) (b : FilesRecover r decodes holds most hives files m us) → (i : ℕ) → i < hives → (t : T)
        → holds (files (1 + 2 * i)) (files (2 + 2 * i)) (t, n) → n ≤ m
    not_more files n m us b i lt t h = let e = b.each i lt in omega (arith, e.not_above, ap (λ (x : T × ℕ). x.1) (one_held (files (1 + 2 * i)) (files (2 + 2 * i)) (t, n) e.held h e.holds_it))

    same_number : (below : ℕ) (es : List (Element Op)) (n m : ℕ) (has : (i k : ℕ) → Type 0) → IsLastNumberOf has hives below es n
        → IsLastNumberOf has hives below es m
        → ((i : ℕ) → i < hives → has i n → n ≤ m) → ((i : ℕ) → i < hives → has i m → m ≤ n) → n ≡ m
    same_number below [] n m has a b p q = omega (arith, p a.0 a.1 a.2, q b.0 b.1 b.2)
    same_number below (e ∷ es) n m has a b p q = a ∙ sym b

    -- at most one number and trees are recovered
    pub files_once : (files : ℕ → List ℕ) (n m : ℕ) (ts us : ℕ → T) → FilesRecover r decodes holds most hives files n ts
        → FilesRecover r decodes holds most hives files m us
        → (n ≡ m) × ((i : ℕ) → i < hives → ts i ≡ us i)
    files_once files n m ts us a b =
        let same = one_decoded (files 0) b.journal a.journal b.decoded a.decoded in (
          same_number a.journal.below a.journal.elements n m (λ i k. (t : T) × holds (files (1 + 2 * i)) (files (2 + 2 * i)) (t, k)) a.last
              (subst (λ (j : Content Op). IsLastNumberOf (λ i k. (t : T) × holds (files (1 + 2 * i)) (files (2 + 2 * i)) (t, k)) hives j.below j.elements m) same b.last)
              (λ i lt h. not_more files n m us b i lt h.0 h.1) (λ i lt h. not_more files m n ts a i lt h.0 h.1),
          λ i lt. let x = a.each i lt in let y = b.each i lt in
              let e = one_held (files (1 + 2 * i)) (files (2 + 2 * i)) y.held x.held y.holds_it x.holds_it in
              same_Some (ts i) (us i) (sym x.replayed ∙ subst (λ (j : Content Op). replay r (ops_on i (above x.held.1 j)) x.held.0 ≡ Some (us i)) same (subst (λ (h : T × ℕ). replay r (ops_on i (above h.1 b.journal)) h.0 ≡ Some (us i)) e y.replayed)),
        )
