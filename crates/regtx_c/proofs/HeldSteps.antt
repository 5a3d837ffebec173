-- The machine value of a `Held`, and the steps that open one and make one. Assumes `Logic`.
use Rattle.std.proofs.Common.{◌≡◌, Some, List, [], ◌∷◌, ◌++◌, refl, subst}
use mathlib.Core.Bool.{true, false≢true}
use seplogic.Ra.Ura.{Ura}
use mir.Val.{Val, vstruct, vcons, vnil, of_list}
use types.Logic.{Logic}
use types.Kit.{Item, Goal, Seq, Step, step, ‵, ◌$◌, drop, fsplit, fjoin, fpick, fpack, feq_i, feq_l}
use denote.RattleType.{Valss}
use denote.Builtin.{RawPtr}
use denote.RawPtr.{Ptr, ptr_val}
use denote.Steps.{nothing}
use denote.Struct.Struct.{within}
use denote.Struct.Owning.{shape}
use Rattle.std.specs.Box.Ownership.{box_owns}
use Rattle.regtx_c.specs.Held.{Maybe, has_one, first, freed, held}
use Rattle.regtx_c.specs.contracts.handle.Held as H
use Rattle.regtx_c.specs.contracts.block.Block as V

abbrev pub alone : Ptr → Val
alone p = vstruct (vcons (ptr_val p) vnil)

module _ {M : Type 1} {𝓤 : Ura M} {𝓛 : Logic 𝓤} {K : Type 0} {Γ : List (Item 𝓤)} {G : Goal 𝓤 𝓛.H} where
  pub held_out : K → (d : (H.the_row).Denot) (vs : List Val)
      → (vs ≡ alone d.at ∷ [] → Seq K 𝓛 (‵ (held d.at d.blocks) ∷ Γ) G)
      → Seq K 𝓛 (‵ ((H.the_row).own_val d vs) ∷ Γ) G
  held_out t d vs k =
      fsplit t $ fpick t (λ vss. fsplit t $ feq_l t (λ ev. fsplit t $ feq_l t (λ ep. drop t $
      k (subst (λ (ps : List Val). vs ≡ vstruct (of_list (ps ++ [])) ∷ []) ep ev))))

  pub held_in : K → (p : Ptr) (xs : Maybe)
      → Step K 𝓛 (‵ ((H.the_row).own_val (record { at = p; blocks = xs }) (alone p ∷ [])) ∷ Γ) G (‵ (held p xs) ∷ Γ) G
  held_in t p xs = step (λ s.
      nothing t $ feq_i t (List Val) (ptr_val p ∷ []) (ptr_val p ∷ []) refl $ fjoin t $ feq_i t (List Val) (alone p ∷ []) (alone p ∷ []) refl $ fjoin t $
      fpack t (Valss (RawPtr ∷ [])) (within (shape H.the_type) (p, tt) (alone p ∷ [])) (ptr_val p ∷ [], tt) $ fjoin t $ s)

  -- where there is one, the block
  pub held_full : K → (p : Ptr) (xs : Maybe) → has_one xs ≡ true
      → ((x : (V.the_row).Denot) → first xs ≡ Some x → Seq K 𝓛 (‵ (box_owns freed V.the_row p x) ∷ Γ) G)
      → Seq K 𝓛 (‵ (held p xs) ∷ Γ) G
  held_full t p [] e k = absurd (false≢true e)
  held_full t p (x ∷ xs) e k = k x refl
