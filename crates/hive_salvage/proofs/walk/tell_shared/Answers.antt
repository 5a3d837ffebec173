use Rattle.std.proofs.Common.{◌≡◌, ◌∷◌, [], ℕ, List, inl, inr, refl, ap, subst, sym, Option, Some, None, IsSome, IsOk}
use Rattle.std.proofs.lemmas.Result.{on_ok_weaker}
use Rattle.refusals.specs.declared.refusal.Refusal.{Refusal}
use Rattle.hive_cells.specs.Bins.{Cells, Shows}
use Rattle.hive_records.specs.KeyNodes.{descriptor_at}
use Rattle.hive_load_parts.specs.Descriptors.{AreDescriptors, descriptor_in}
use Rattle.hive_salvage.specs.Events.{lost, loss_of}
use Rattle.hive_salvage.specs.declared.loss.Part.TheVariants as part
use Rattle.hive_salvage.proofs.Telling.{silent, told}
use Rattle.hive_salvage.proofs.walk.tell_shared.Goals as goal

-- the security cell of a descriptor that is kept was read
read_if : (bytes : List ℕ) (kept : List (ℕ × List ℕ)) (at : ℕ) → AreDescriptors bytes kept → (o : Option (List ℕ)) → descriptor_in kept at ≡ o → IsSome o → (cells : Cells) → Shows bytes cells → IsOk (descriptor_at at cells).says
read_if bytes kept at are None e h cells shows = absurd (let no : ⊥ = cc in no)
read_if bytes kept at are (Some d) e h cells shows = subst IsOk (sym (ap (λ r. r.says) (are at d e cells shows))) refl

pub returns-then-are_apart : goal.returns-then-are_apart
returns-then-are_apart g c = silent _ _ _ _ (g.met.S.SalvageSink.took_none _) (λ cells shows. inl refl)

pub returns : goal.returns
returns g c = on_ok_weaker c.tell.result (λ h. told _ _ _ _ _ _ h.0 (λ cells shows.
    let met = c.are_apart.ensures.met c.if-are_apart.false in
    inr (
      met.0,
      met.2,
      read_if c.args.image.now.bytes c.args.known.now met.0 c.requires.known (descriptor_in c.args.known.now met.0) refl met.1 cells shows,
      ap (λ (why : Refusal). lost [] (loss_of part.Security c.args.root why) ∷ []) c.from-why.ensures,
    ))) c.tell.ensures
