-- What captures references to what several threads may see at once may cross threads, and be seen by several.
use mathlib.Core.List.{[], ◌∷◌}
use base.Fml.{Lft}
use mir.Syntax.{Lifetime, w64}
use denote.Param.Send.{IsSend, IsSync, recorded_sync, sendable, shr_sync, struct_sync}
use denote.RattleType.{RattleType}
use denote.Plain.{UInt}
use denote.Ref.{ShrRef}
use denote.Struct.Declared.{Declared, shape}
use denote.Struct.Struct.{Struct}
use denote.Struct.Tuple.{Tuple, tuple_type}

module _ (ℓ : Lifetime) (A B C : RattleType) (a b c : Lft) where
  pub three_sync : IsSync A → IsSync B → IsSync C → IsSync (Tuple (ShrRef ℓ a A ∷ ShrRef ℓ b B ∷ ShrRef ℓ c C ∷ []))
  three_sync x y z =
      let T : Declared = tuple_type (ShrRef ℓ a A ∷ ShrRef ℓ b B ∷ ShrRef ℓ c C ∷ []) in
      recorded_sync (Struct (shape T)) T.D T.to T.to_one (struct_sync (shape T) (
        shr_sync ℓ a A x,
        (shr_sync ℓ b B y, (shr_sync ℓ c C z, tt)),
      ))

  pub three_and_number_send : IsSync A → IsSync B → IsSync C → IsSend (Tuple (ShrRef ℓ a A ∷ ShrRef ℓ b B ∷ ShrRef ℓ c C ∷ UInt w64 ∷ []))
  three_and_number_send x y z = search (x, y, z, sendable) depth 40
