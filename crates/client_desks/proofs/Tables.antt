-- Tables of units in which each unit has one place.
use Rattle.std.proofs.Common.{◌≡◌, ℕ, ◌+◌, ◌<◌, suc, List, [], ◌∷◌, ◌++◌, length, take, drop, get_or, sym, ◌∙◌, ap, subst, arith, inl, inr, true, false}
use Rattle.std.specs.Prelude.{Bool, cond}
use Rattle.std.specs.List.{Contains, filter}
use Rattle.std.proofs.lemmas.Bool.{cases_eq}
use Rattle.std.proofs.lemmas.List.{take-append-drop, drop_more}
use Rattle.std.proofs.lemmas.List.Elements.{Contains-append_left, Contains-append_right, Contains-append_cases}
use Prim.Native.Nat.{zero}
use Rattle.client_desks.specs.Units.{HaveOnePlace, IsElsewhere, LosesOnce}
use Rattle.client_desks.specs.declared.unit_table.ActiveUnit.{ActiveUnit}

-- each entry of a table that has no others is of one place
pub fewer : (more less : List ActiveUnit) → HaveOnePlace more → ((e : ActiveUnit) → Contains less e → Contains more e) → HaveOnePlace less
fewer more less is kept = record { one = λ e other h k same. is.one e other (kept e h) (kept other k) same }

contains_one : (e only : ActiveUnit) → Contains (only ∷ []) e → e ≡ only
contains_one e only (zero, h, same) = sym same
contains_one e only (suc k, h, same) = absurd (omega (arith, h))

-- an entry of a unit that isn't elsewhere
added_one : (active : List ActiveUnit) (new : ActiveUnit) → ¬ (IsElsewhere active new.place new.unit) → (e : ActiveUnit) → Contains active e → e.unit ≡ new.unit → e.place ≡ new.place
added_one active new none e (k, h, at) same =
    elim (cases_eq e.place new.place) [ inl equal ↦ equal | inr other ↦ absurd (none (k, e, h, at, (same, other))) ]

pub added : (active : List ActiveUnit) (new : ActiveUnit) → HaveOnePlace active → ¬ (IsElsewhere active new.place new.unit) → HaveOnePlace (active ++ new ∷ [])
added active new is none = record {
  one = λ e other h k same.
      elim (Contains-append_cases active (new ∷ []) e h) [
        | inl old ↦ elim (Contains-append_cases active (new ∷ []) other k) [
          | inl old2 ↦ is.one e other old old2 same
          | inr new2 ↦ let is2 = contains_one other new new2 in added_one active new none e old (same ∙ ap (λ (x : ActiveUnit). x.unit) is2) ∙ sym (ap (λ (x : ActiveUnit). x.place) is2)
        ]
        | inr new1 ↦ let is1 = contains_one e new new1 in elim (Contains-append_cases active (new ∷ []) other k) [
          | inl old2 ↦ ap (λ (x : ActiveUnit). x.place) is1 ∙ sym (added_one active new none other old2 (sym same ∙ ap (λ (x : ActiveUnit). x.unit) is1))
          | inr new2 ↦ ap (λ (x : ActiveUnit). x.place) (is1 ∙ sym (contains_one other new new2))
        ]
      ];
}

-- what is left without one entry
pub without : (at : ℕ) (active : List ActiveUnit) (e : ActiveUnit) → Contains (take at active ++ drop (at + 1) active) e → Contains active e
without at active e h =
    elim (Contains-append_cases (take at active) (drop (at + 1) active) e h) [
      | inl l ↦ subst (λ (xs : List ActiveUnit). Contains xs e) (take-append-drop at active) (Contains-append_left (take at active) (drop at active) e l)
      | inr r ↦ subst (λ (xs : List ActiveUnit). Contains xs e) (take-append-drop (at + 1) active) (Contains-append_right (take (at + 1) active) (drop (at + 1) active) e r)
    ]

pub loses : (at : ℕ) (active new : List ActiveUnit) (e : ActiveUnit) → at < length active → get_or active at e ≡ e → new ≡ take at active ++ drop (at + 1) active → LosesOnce e active new
loses at active new e h is left =
    inl (
      take at active,
      drop (at + 1) active,
      sym (take-append-drop at active) ∙ ap (λ (xs : List ActiveUnit). take at active ++ xs) (drop_more active at e h ∙ ap (λ (x : ActiveUnit). x ∷ drop (at + 1) active) is),
      left,
    )

filtered_step : (b : Bool) (x : ActiveUnit) (xs ys : List ActiveUnit) (e : ActiveUnit) → (Contains ys e → Contains xs e) → Contains (cond b (x ∷ ys) ys) e → Contains (x ∷ xs) e
filtered_step true x xs ys e later h =
    elim (Contains-append_cases (x ∷ []) ys e h) [ inl l ↦ Contains-append_left (x ∷ []) xs e l | inr r ↦ Contains-append_right (x ∷ []) xs e (later r) ]
filtered_step false x xs ys e later h = Contains-append_right (x ∷ []) xs e (later h)

-- what passes a test
pub filtered : (test : ActiveUnit → Bool) (active : List ActiveUnit) (e : ActiveUnit) → Contains (filter test active) e → Contains active e
filtered test [] e h = h
filtered test (x ∷ xs) e h = filtered_step (test x) x xs (filter test xs) e (filtered test xs e) h
