-- The same for all hives at once: a list of trees, and elements whose operations go to the trees that they
-- name.
use Rattle.std.specs.Prelude.{ℕ, zero, suc, List, [], ◌∷◌, Some, None, Option, Bool, false, if◌then◌else◌, slice_get}
use Rattle.crash_model.specs.Changes.{Rules, Element}

-- The list with its i-th tree changed, if it has one.
abbrev pub changed_at : {T : Type 0} → (T → T) → List T → ℕ → List T
changed_at f [] i = []
changed_at f (t ∷ ts) zero = f t ∷ ts
changed_at f (t ∷ ts) (suc i) = t ∷ changed_at f ts i

-- An element's operations in order, each on the tree of its hive.
abbrev pub after_element : {T Op : Type 0} → Rules T Op → Element Op → List T → List T
after_element rules [] ts = ts
after_element rules (p ∷ ps) ts = after_element rules ps (changed_at (rules.apply p.1) ts p.0)

-- Elements in order.
abbrev pub after_elements : {T Op : Type 0} → Rules T Op → List (Element Op) → List T → List T
after_elements rules [] ts = ts
after_elements rules (e ∷ es) ts = after_elements rules es (after_element rules e ts)

-- An operation is legal if its hive is there, and it is legal on that hive's tree.
abbrev pub legal_there : {T Op : Type 0} → Rules T Op → Op → Option T → Bool
legal_there rules o None = false
legal_there rules o (Some t) = rules.legal o t

-- An element's operations in order, or nothing if one is not legal when its turn comes.
abbrev pub run_element : {T Op : Type 0} → Rules T Op → Element Op → List T → Option (List T)
run_element rules [] ts = Some ts
run_element rules (p ∷ ps) ts =
    if legal_there rules p.1 (slice_get ts p.0)
    then run_element rules ps (changed_at (rules.apply p.1) ts p.0)
    else None
