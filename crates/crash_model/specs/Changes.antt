-- Accepted changes, and what replaying them makes of one hive's tree. What a tree and an operation are is
-- left open.
use Rattle.std.specs.Prelude.{◌≡◌, ℕ, List, [], ◌∷◌, ◌++◌, Bool, eqb, if◌then◌else◌, Option, Some, None}

-- What the law takes from outside: what an operation (with the moment of its change) makes of a tree, on which trees it
-- is legal, and which trees a hive may have: `allows i n t` says that hive i may have the tree t after the change
-- numbered n. That is required in addition to what replaying requires; if nothing more is required, it is always true.
pub record Rules (T Op : Type 0) : Type 0 where
  pub apply : Op → T → T
  pub legal : Op → T → Bool
  pub allows : ℕ → ℕ → T → Bool

-- An element is one accepted change: its operations in order, each beside the number of its hive.
abbrev pub Element : Type 0 → Type 0
Element Op = List (ℕ × Op)

-- An element's operations on hive i are those beside the number i, in order.
abbrev pub on_hive : {Op : Type 0} → ℕ → Element Op → List Op
on_hive i [] = []
on_hive i (p ∷ ps) = if eqb p.0 i then p.1 ∷ on_hive i ps else on_hive i ps

-- The operations on hive i of a list of elements are those of its elements, one element after another.
abbrev pub ops_on : {Op : Type 0} → ℕ → List (Element Op) → List Op
ops_on i [] = []
ops_on i (e ∷ es) = on_hive i e ++ ops_on i es

-- Replaying operations on a tree gives the tree that they lead to, if each is legal in its turn, and else nothing.
abbrev pub replay : {T Op : Type 0} → Rules T Op → List Op → T → Option T
replay r [] t = Some t
replay r (o ∷ os) t = if r.legal o t then replay r os (r.apply o t) else None

-- The tree that operations lead to, be they legal or not.
abbrev pub applied : {T Op : Type 0} → Rules T Op → List Op → T → T
applied r [] t = t
applied r (o ∷ os) t = applied r os (r.apply o t)

-- The operations are legal on the tree, each in its turn.
abbrev pub AreLegal : {T Op : Type 0} → Rules T Op → List Op → T → Type 0
AreLegal r os t = replay r os t ≡ Some (applied r os t)
