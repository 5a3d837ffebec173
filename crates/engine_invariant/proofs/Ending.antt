-- What a step has done that ended what was under way to the journal.
use Rattle.std.proofs.Common.{◌≡◌, ◌⊎◌, inl, inr, ℕ, ◌+◌, ◌-◌, ◌<◌, ◌≤◌, List, [], ◌∷◌, ◌++◌, length, take, refl, ◌∙◌, ap, arith, Some}
use Rattle.std.proofs.lemmas.List.{length-map, length-take, length-append}
use Rattle.reg_tree.specs.declared.element.Element.{Element}
use Rattle.crash_model.specs.Changes as law
use Rattle.crash_model.specs.Promises.{Choice, Content, nothing, settled, floor, floor_of, top, Ends}
use Rattle.store_model.specs.Machine.{Machine, pending}
use Rattle.store_model.specs.Steps.{EndsTrim}
use Rattle.disk_model.specs.declared.progress.Progress.TheVariants as progress
use Rattle.change_codec.specs.ModelChanges.{TimedOp, timed_element, timed_elements}
use Rattle.commit_journal.specs.Store.{room_of}
use Rattle.engine_invariant.specs.States.{HiveView, IsBatch, IsConsistent}
use Rattle.engine_invariant.specs.Answers.{freed}
use Rattle.engine_invariant.specs.Progress.{IsTrimming}
use Rattle.engine_invariant.proofs.Room.{rooms_are}

-- the machine with another durable number and other room
abbrev pub moved_to : Machine → ℕ → ℕ → Machine
moved_to m d r = record m { durable = d; room = r }

floor_on : (durable below : ℕ) (xs es : List (law.Element TimedOp)) → floor_of durable (floor_of durable below xs) (xs ++ es) ≡ floor_of durable below xs
floor_on durable below [] [] = refl
floor_on durable below [] (e ∷ es) = refl
floor_on durable below (x ∷ xs) es = refl

module _ (m : Machine) (base : ℕ) (opened : List Element) (old new : Choice (Content TimedOp)) (hives : List HiveView) (i : IsConsistent m base opened old hives) where
  -- a batch of n changes makes them durable
  longer_top : (n : ℕ) → n ≤ length (timed_elements (pending m)) → top m.durable (record { below = floor m.durable old.now; elements = old.now.elements ++ take n (timed_elements (pending m)) }) ≡ m.durable + n
  longer_top n le =
      let ends = i.law.ends in
      let low = floor_on m.durable old.now.below old.now.elements (take n (timed_elements (pending m))) in
      omega (arith, ends, low, le, length-append old.now.elements (take n (timed_elements (pending m))), length-take n (timed_elements (pending m)))

  pub batch_top : (x : Content TimedOp) → new ≡ settled x → (count : ℕ) → count ≤ length (pending m) → x ≡ record { below = floor m.durable old.now; elements = old.now.elements ++ take count (timed_elements (pending m)) } → top m.durable new.now ≡ m.durable + count
  batch_top x is count few e = ap (λ (c : Choice (Content TimedOp)). top m.durable c.now) is ∙ ap (top m.durable) e ∙ longer_top count (omega (arith, few, length-map (pending m) timed_element))

  pub batch_settles : (IsTrimming old → ⊥) → Ends old new → m.durable < top m.durable new.now
  batch_settles batch (x, was, is) = by_next (i.onward x was)
    where
      by_next : (x ≡ nothing) ⊎ IsBatch m old.now x → m.durable < top m.durable new.now
      by_next (inl e) = absurd (batch (was ∙ ap Some e))
      by_next (inr (count, some, few, e)) = omega (arith, some, batch_top x is count few e)

  -- a trim leaves the room of what isn't durable
  pub trim_ends : (x : Content TimedOp) → new ≡ settled x → x ≡ nothing → EndsTrim m progress.Done (moved_to m (top m.durable new.now) (m.room - freed old new))
  trim_ends x is e =
      let now : new.now ≡ nothing = ap (λ (c : Choice (Content TimedOp)). c.now) is ∙ e in
      let same : top m.durable new.now ≡ m.durable = ap (top m.durable) now ∙ (let f : m.durable + 0 ≡ m.durable = omega arith in f) in
      let empty : room_of new.now.elements ≡ 0 = ap (λ (s : Content TimedOp). room_of s.elements) now in
      record { done = refl; durable = same; room = omega (arith, i.room, empty, rooms_are (pending m)) }
