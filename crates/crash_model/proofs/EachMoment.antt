-- From the promises at each boundary to the files of each moment.
use Rattle.std.proofs.Common.{◌≡◌, inl, inr, ℕ, ◌+◌, ◌*◌, ◌≤◌, List, [], ◌∷◌, sym, subst, arith}
use Rattle.std.specs.List.{AllByRecursion}
use Rattle.std.proofs.lemmas.Bool.{cases_eq}
use Rattle.crash_model.specs.Changes.{Rules}
use Rattle.crash_model.specs.Promises.{Content}
use Rattle.crash_model.specs.Files.{FilesPrefix}
use Rattle.crash_model.specs.Moments.{Boundary, InOrder, Trace, end_of, AtSome, LeftAt}
use Rattle.crash_model.proofs.OfFiles.{files_prefix}

-- each moment of a trace is that of a boundary
moment_of : {T Op : Type 0} (P : Boundary T Op → Type 0) (b : Boundary T Op) (bs : List (Boundary T Op)) → Trace b bs → AllByRecursion P (b ∷ bs)
    → (k : ℕ) → b.clock ≤ k → k ≤ end_of b bs
    → AtSome (λ c. (c.clock ≡ k) × P c) (b ∷ bs)
moment_of P b [] trace all k low high = inl (omega (arith, low, high), all.0)
moment_of P b (c ∷ cs) trace all k low high = elim (cases_eq b.clock k) as (λ z. AtSome (λ c. (c.clock ≡ k) × P c) (b ∷ c ∷ cs)) [
  | inl e ↦ inl (e, all.0)
  | inr ne ↦ inr (moment_of P c cs trace.1 all.1 k (omega (arith, low, ne, trace.0)) high)
]

module _ {T Op : Type 0} (r : Rules T Op) (decodes : List ℕ → Content Op → Type 0) (holds : List ℕ → List ℕ → T × ℕ → Type 0) (most hives : ℕ) (may_leave : ℕ → ℕ → List ℕ → Type 0)
    (files : ℕ → List ℕ) (k : ℕ) (left : LeftAt may_leave k files) where
  -- at a boundary of that moment the files are a prefix
  boundary_prefix : (c : Boundary T Op) → InOrder r decodes holds most hives may_leave c → c.clock ≡ k
      → FilesPrefix r decodes holds most hives c.state files
  boundary_prefix c order same =
      files_prefix r decodes holds most hives c.state order.kept (may_leave c.clock 0) order.journal
      (λ i. may_leave c.clock (1 + 2 * i)) (λ i. may_leave c.clock (2 + 2 * i)) order.files files (now 0) (λ i lt. (now (1 + 2 * i), now (2 + 2 * i)))
    where
      now : (f : ℕ) → may_leave c.clock f (files f)
      now f = subst (λ m. may_leave m f (files f)) (sym same) (left f)

  at_some : (bs : List (Boundary T Op)) → AtSome (λ c. (c.clock ≡ k) × InOrder r decodes holds most hives may_leave c) bs
      → AtSome (λ c. (c.clock ≡ k) × FilesPrefix r decodes holds most hives c.state files) bs
  at_some [] x = elim x [ ]
  at_some (c ∷ cs) (inl p) = inl (p.0, boundary_prefix c p.1 p.0)
  at_some (c ∷ cs) (inr p) = inr (at_some cs p)

  pub some_prefix : (b : Boundary T Op) (bs : List (Boundary T Op)) → Trace b bs
      → AllByRecursion (InOrder r decodes holds most hives may_leave) (b ∷ bs) → b.clock ≤ k → k ≤ end_of b bs
      → AtSome (λ c. (c.clock ≡ k) × FilesPrefix r decodes holds most hives c.state files) (b ∷ bs)
  some_prefix b bs trace all low high = at_some (b ∷ bs) (moment_of (InOrder r decodes holds most hives may_leave) b bs trace all k low high)

  pub every_prefix : (bs : List (Boundary T Op)) → AllByRecursion (InOrder r decodes holds most hives may_leave) bs
      → AllByRecursion (λ c. c.clock ≡ k → FilesPrefix r decodes holds most hives c.state files) bs
  every_prefix [] all = tt
  every_prefix (c ∷ cs) all = (λ same. boundary_prefix c all.0 same, every_prefix cs all.1)
