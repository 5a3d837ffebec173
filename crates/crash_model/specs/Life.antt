-- One life: what was opened, and what was accepted since.
use Rattle.std.specs.Prelude.{◌≡◌, ◌⊎◌, ℕ, ◌+◌, ◌-◌, ◌<◌, ◌≤◌, List, [], ◌∷◌, ◌++◌, length, take, drop}
use Rattle.crash_model.specs.Changes.{Rules, Element, on_hive, ops_on, applied}
use Rattle.crash_model.specs.Promises.{Content, floor}

-- A life has the trees that were opened, the number before the first element that the journal decoded to then, those
-- elements, and the elements accepted since; they are numbered from `base` + 1 on.
pub record Life (T Op : Type 0) : Type 0 where
  pub trees : ℕ → T
  pub base : ℕ
  pub opened : List (Element Op)
  pub accepted : List (Element Op)

-- The number at which the store was opened.
abbrev pub opened_number : {T Op : Type 0} → Life T Op → ℕ
opened_number life = life.base + length life.opened

-- The number of the last accepted change.
abbrev pub last_number : {T Op : Type 0} → Life T Op → ℕ
last_number life = opened_number life + length life.accepted

-- The elements that this life knows: those decoded at its opening, and those accepted since.
abbrev pub known_elements : {T Op : Type 0} → Life T Op → List (Element Op)
known_elements life = life.opened ++ life.accepted

-- The known elements that are numbered above lo, up to hi.
abbrev pub elements_in : {T Op : Type 0} → Life T Op → ℕ → ℕ → List (Element Op)
elements_in life lo hi = drop (lo - life.base) (take (hi - life.base) (known_elements life))

-- Their operations on hive i.
abbrev pub ops_in : {T Op : Type 0} → Life T Op → ℕ → ℕ → ℕ → List Op
ops_in life i lo hi = ops_on i (elements_in life lo hi)

-- m is the number of the last known element up to hi that names hive i, or 0 if none does.
pub record IsLastNaming {T Op : Type 0} (life : Life T Op) (i hi m : ℕ) : Type 0 where
  pub none_after : ops_in life i m hi ≡ []
  pub names : (m ≡ 0) ⊎ ((1 ≤ m) × ¬ (ops_in life i (m - 1) hi ≡ []))

-- The tree of hive i after the change numbered n, from the opened number on.
abbrev pub tree_at : {T Op : Type 0} → Rules T Op → Life T Op → ℕ → ℕ → T
tree_at rules life n i = applied rules (ops_on i (take (n - opened_number life) life.accepted)) (life.trees i)

-- The element has an operation on a hive of the store.
abbrev pub NamesHive : {Op : Type 0} → ℕ → Element Op → Type 0
NamesHive {Op = Op} hives e = (i : ℕ) × (i < hives) × (o : Op) × (os : List Op) × (on_hive i e ≡ o ∷ os)

-- The life with one more accepted element.
abbrev pub with_accepted : {T Op : Type 0} → Life T Op → Element Op → Life T Op
with_accepted life e = record {
  trees = life.trees;
  base = life.base;
  opened = life.opened;
  accepted = life.accepted ++ e ∷ [];
}

-- The life that begins with these recovered trees at n, if the journal decodes to s.
abbrev pub opened_life : {T Op : Type 0} → ℕ → (ℕ → T) → Content Op → Life T Op
opened_life n trees s = record { trees = trees; base = floor n s; opened = s.elements; accepted = [] }

-- The life as if it had been opened at its last number: what was accepted is counted among the opened
-- elements.
abbrev pub folded_life : {T Op : Type 0} → Rules T Op → Life T Op → Life T Op
folded_life rules life = record {
  trees = tree_at rules life (last_number life);
  base = life.base;
  opened = known_elements life;
  accepted = [];
}
