-- What a closure captures may cross threads: references to what several may see at once.
use mathlib.Core.List.{[], ◌∷◌}
use base.Fml.{Lft}
use mir.Syntax.{Lifetime}
use denote.Param.Send.{IsSend, IsSync, sendable}
use denote.RattleType.{RattleType}
use denote.Ref.{ShrRef}
use denote.Struct.Tuple.{Tuple}

module _ (ℓ : Lifetime) (A B C : RattleType) (a b c : Lft) where
  pub three_send : IsSync A → IsSync B → IsSync C → IsSend (Tuple (ShrRef ℓ a A ∷ ShrRef ℓ b B ∷ ShrRef ℓ c C ∷ []))
  three_send x y z = search (x, y, z, sendable) depth 40
