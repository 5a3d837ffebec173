-- Each step of the protocol, each opening, and so each list of them keeps the invariant.
use Rattle.std.proofs.Common.{◌≡◌, inl, inr, ℕ, ◌+◌, ◌-◌, ◌<◌, ◌≤◌, List, [], ◌∷◌, ◌++◌, length, take, refl, ◌∙◌, ap, sym, subst, arith, Some, IsTrue}
use Rattle.std.proofs.lemmas.List.{length-drop, drop-take}
use Rattle.std.proofs.lemmas.Option.{same_Some}
use Rattle.std.specs.List.{AllByRecursion}
use Rattle.crash_model.specs.Changes.{Rules, Element}
use Rattle.crash_model.specs.Promises.{Content, nothing, Choice, Leaves, floor_of, floor, top, settled}
use Rattle.crash_model.specs.Recovery.{Recovers}
use Rattle.crash_model.specs.Life.{Life, opened_number, last_number, known_elements, elements_in, tree_at, NamesHive, with_accepted, opened_life, folded_life}
use Rattle.crash_model.specs.Invariant.{IsPrefix, HiveFits, EngineFits, State, InvariantHolds, IsSafe, opened_state}
use Rattle.crash_model.specs.Steps.{pending_elements, OthersStay, AllStay, Accepts, Batches, EndsJournalWrite, Trims, Flushes, HiveFlushEnds, Folds, Step}
use Rattle.crash_model.specs.Lives.{Reopens, LifeContinues}
use Rattle.crash_model.proofs.Lists.{all_take, all_drop}
use Rattle.crash_model.proofs.OnePrefix.{part_accepted, one_prefix, only_one}
use Rattle.crash_model.proofs.KeepFiles.{only_leaves, ends_nil, keep_files, keep_batch, keep_durable, keep_trim, keep_trimmed, flushed_fits}
use Rattle.crash_model.proofs.KeepLife.{keep_fold, keep_accept, begin}

-- what is pending is the known part past the durable number
pending_part : {T Op : Type 0} (s : State T Op) (m : ℕ) → opened_number s.life ≤ s.durable
    → take m (pending_elements s) ≡ elements_in s.life s.durable (s.durable + m)
pending_part s m a = sym (part_accepted s.life s.durable (s.durable + m) a (omega arith)
    ∙ (let p : (s.durable + m) - opened_number s.life ≡ (s.durable - opened_number s.life) + m = omega (arith, a) in rw p (drop-take (s.durable - opened_number s.life) m s.life.accepted)))

module _ {T Op : Type 0} (r : Rules T Op) (most hives : ℕ) where
  -- the same hives, stated one by one
  same_files : (life : Life T Op) (durable : ℕ) (journal : Choice (Content Op)) (old new : ℕ → Choice (T × ℕ))
      → EngineFits r most hives life durable journal old → AllStay hives old new → EngineFits r most hives life durable journal new
  same_files life durable journal old new engine same = keep_files r most hives life durable journal old engine new
      (λ i lt. omega (arith, ap (λ (c : Choice (T × ℕ)). c.now.1) (same i lt)))
      (λ i lt x left. engine.hive_fits i lt x (subst (λ c. Leaves c x) (same i lt) left))
      (λ i lt x left. subst (λ (c : Choice (T × ℕ)). c.now.1 ≤ x.1) (sym (same i lt)) (engine.rises i lt x (subst (λ c. Leaves c x) (same i lt) left)))

  pub moved : (old : State T Op) (new : State T Op) (life : Life T Op) (durable : ℕ) (journal : Choice (Content Op)) → new.life ≡ life
      → new.durable ≡ durable → new.journal ≡ journal → AllStay hives old.files new.files
      → EngineFits r most hives life durable journal old.files → InvariantHolds r most hives new
  moved old new life durable journal a b c same engine =
      subst (λ l. EngineFits r most hives l new.durable new.journal new.files) (sym a)
      (subst (λ d. EngineFits r most hives life d new.journal new.files) (sym b)
      (subst (λ j. EngineFits r most hives life durable j new.files) (sym c) (same_files life durable journal old.files new.files engine same)))

  pub step_accept : (old new : State T Op) → InvariantHolds r most hives old → Accepts r most hives old new → InvariantHolds r most hives new
  step_accept old new engine step = moved old new (with_accepted old.life step.element) old.durable old.journal step.life step.durable step.journal step.files
      (keep_accept r most hives old.life old.durable old.journal old.files engine step.element step.room step.names step.legal step.allowed)

  pub step_batch : (old new : State T Op) → InvariantHolds r most hives old → Batches hives old new → InvariantHolds r most hives new
  step_batch old new engine step = let b = step.journal in
      moved old new old.life old.durable new.journal step.life step.durable refl step.files
      (subst (λ j. EngineFits r most hives old.life old.durable j old.files) (sym (b.4 ∙ same b.0)) (keep_batch r most hives old.life old.durable old.journal old.files engine b.0 b.1 (omega (arith, b.2, engine.fits.from_opened, engine.fits.to_last, length-drop (old.durable - opened_number old.life) old.life.accepted))))
    where
      same : (m : ℕ) → ◌≡◌ {A = Choice (Content Op)} (record { now = old.journal.now; next = Some (record { below = floor ((old.durable + 1) - 1) old.journal.now; elements = old.journal.now.elements ++ take m (pending_elements old) }) })
          (record { now = old.journal.now; next = Some (record { below = floor old.durable old.journal.now; elements = old.journal.now.elements ++ elements_in old.life old.durable (old.durable + m) }) })
      same m = let p : (old.durable + 1) - 1 ≡ old.durable = omega arith in rw p rw (pending_part old m engine.fits.from_opened) refl

  pub step_trim : (old new : State T Op) → InvariantHolds r most hives old → Trims hives old new → InvariantHolds r most hives new
  step_trim old new engine step = let b = step.journal in
      moved old new old.life old.durable new.journal step.life step.durable refl step.files
      (subst (λ j. EngineFits r most hives old.life old.durable j old.files) (sym b.1) (keep_trim r most hives old.life old.durable old.journal old.files engine step.decodes.0 step.decodes.1 step.decodes.2 step.may))

  settle : (life : Life T Op) (durable : ℕ) (journal : Choice (Content Op)) (files : ℕ → Choice (T × ℕ))
      → EngineFits r most hives life durable journal files → (below : ℕ) (es : List (Element Op))
      → journal.next ≡ Some (record { below = below; elements = es })
      → EngineFits r most hives life (floor_of durable below es + length es) (settled (record { below = below; elements = es })) files
  settle life durable journal files engine below [] is = subst (λ d. EngineFits r most hives life d (settled (record { below = below; elements = [] })) files) (sym (ends_nil {Op = Op} durable below [] refl)) (keep_trimmed r most hives life durable journal files engine (record { below = below; elements = [] }) is refl)
  settle life durable journal files engine below (e ∷ es) is = keep_durable r most hives life durable journal files engine (record { below = below; elements = e ∷ es }) e es is refl

  pub step_settle : (old new : State T Op) → InvariantHolds r most hives old → EndsJournalWrite hives old new → InvariantHolds r most hives new
  step_settle old new engine step = let b = step.journal in
      moved old new old.life (top old.durable b.0) (settled b.0) step.life (step.durable ∙ ap (λ (c : Choice (Content Op)). top old.durable c.now) b.2) b.2 step.files
      (settle old.life old.durable old.journal old.files engine b.0.below b.0.elements b.1)

  pub one_file : (life : Life T Op) (durable : ℕ) (journal : Choice (Content Op)) (old new : ℕ → Choice (T × ℕ))
      → EngineFits r most hives life durable journal old → (i : ℕ) → OthersStay hives i old new
      → (i < hives → (old i).now.1 ≤ (new i).now.1)
      → (i < hives → (x : T × ℕ) → Leaves (new i) x → HiveFits r life durable i x × ((new i).now.1 ≤ x.1))
      → EngineFits r most hives life durable journal new
  one_file life durable journal old new engine i others higher each = keep_files r most hives life durable journal old engine new
      (λ j lt. elim (others j lt) as (λ z. (old j).now.1 ≤ (new j).now.1) [ inl p ↦ subst (λ k. (old k).now.1 ≤ (new k).now.1) (sym p) (higher (subst (λ k. k < hives) p lt)) | inr p ↦ omega (arith, ap (λ (c : Choice (T × ℕ)). c.now.1) p) ])
      (λ j lt x left. (both j lt x left).0)
      (λ j lt x left. (both j lt x left).1)
    where
      both : (j : ℕ) → j < hives → (x : T × ℕ) → Leaves (new j) x → HiveFits r life durable j x × ((new j).now.1 ≤ x.1)
      both j lt x left = elim (others j lt) as (λ z. HiveFits r life durable j x × ((new j).now.1 ≤ x.1)) [
        | inl p ↦ subst (λ k. HiveFits r life durable k x × ((new k).now.1 ≤ x.1)) (sym p) (each (subst (λ k. k < hives) p lt) x (subst (λ k. Leaves (new k) x) p left))
        | inr p ↦ (engine.hive_fits j lt x (subst (λ c. Leaves c x) p left), subst (λ (c : Choice (T × ℕ)). c.now.1 ≤ x.1) (sym p) (engine.rises j lt x (subst (λ c. Leaves c x) p left)))
      ]

  step_flush : (old new : State T Op) → InvariantHolds r most hives old → Flushes r hives old new → InvariantHolds r most hives new
  step_flush old new engine step =
      subst (λ l. EngineFits r most hives l new.durable new.journal new.files) (sym step.life)
      (subst (λ d. EngineFits r most hives old.life d new.journal new.files) (sym step.durable)
      (subst (λ j. EngineFits r most hives old.life old.durable j new.files) (sym step.journal)
      (one_file old.life old.durable old.journal old.files new.files engine step.hive step.files
      (λ lt. omega (arith, ap (λ (c : Choice (T × ℕ)). c.now.1) step.file.3))
      (λ lt x left. subst (λ (c : Choice (T × ℕ)). HiveFits r old.life old.durable step.hive x × (c.now.1 ≤ x.1)) (sym step.file.3) (of_hive lt x (subst (λ c. Leaves c x) step.file.3 left))))))
    where
      begun : Choice (T × ℕ)
      begun = record { now = (old.files step.hive).now; next = Some (step.file.0, old.durable) }

      of_hive : step.hive < hives → (x : T × ℕ) → Leaves (record { now = (old.files step.hive).now; next = Some (step.file.0, old.durable) }) x
          → HiveFits r old.life old.durable step.hive x × ((old.files step.hive).now.1 ≤ x.1)
      of_hive lt x (inl p) = subst (λ y. HiveFits r old.life old.durable step.hive y × ((old.files step.hive).now.1 ≤ y.1)) (sym p) (engine.hive_fits step.hive lt (old.files step.hive).now (inl refl), omega arith)
      of_hive lt x (inr p) = subst (λ y. HiveFits r old.life old.durable step.hive y × ((old.files step.hive).now.1 ≤ y.1)) (same_Some _ _ p)
          (flushed_fits r most hives old.life old.durable old.journal old.files engine step.hive lt step.file.0 step.file.2, (engine.hive_fits step.hive lt (old.files step.hive).now (inl refl)).not_above)

  step_flushed : (old new : State T Op) → InvariantHolds r most hives old → HiveFlushEnds hives old new → InvariantHolds r most hives new
  step_flushed old new engine step =
      subst (λ l. EngineFits r most hives l new.durable new.journal new.files) (sym step.life)
      (subst (λ d. EngineFits r most hives old.life d new.journal new.files) (sym step.durable)
      (subst (λ j. EngineFits r most hives old.life old.durable j new.files) (sym step.journal)
      (one_file old.life old.durable old.journal old.files new.files engine step.hive step.files
      (λ lt. subst (λ (c : Choice (T × ℕ)). (old.files step.hive).now.1 ≤ c.now.1) (sym step.file.2) (engine.rises step.hive lt step.file.0 (inr step.file.1)))
      (λ lt x left. let e = only_leaves step.file.0 x (subst (λ c. Leaves c x) step.file.2 left) in (
        subst (HiveFits r old.life old.durable step.hive) (sym e) (engine.hive_fits step.hive lt step.file.0 (inr step.file.1)),
        omega (arith, ap (λ (c : Choice (T × ℕ)). c.now.1) step.file.2, ap (λ (y : T × ℕ). y.1) e),
      )))))

  step_fold : (old new : State T Op) → InvariantHolds r most hives old → Folds r hives old new → InvariantHolds r most hives new
  step_fold old new engine step = moved old new (folded_life r old.life) old.durable old.journal step.life step.durable step.journal step.files
      (keep_fold r most hives old.life old.durable old.journal old.files engine step.all_durable)

  -- each event keeps it
  pub step_keeps : (old new : State T Op) → InvariantHolds r most hives old → Step r most hives old new → InvariantHolds r most hives new
  step_keeps old new engine (inl step) = step_accept old new engine step
  step_keeps old new engine (inr (inl step)) = step_batch old new engine step
  step_keeps old new engine (inr (inr (inl step))) = step_settle old new engine step
  step_keeps old new engine (inr (inr (inr (inl step)))) = step_trim old new engine step
  step_keeps old new engine (inr (inr (inr (inr (inl step))))) = step_flush old new engine step
  step_keeps old new engine (inr (inr (inr (inr (inr (inl step)))))) = step_flushed old new engine step
  step_keeps old new engine (inr (inr (inr (inr (inr (inr step)))))) = step_fold old new engine step

  pub safe : (s : State T Op) → InvariantHolds r most hives s → IsSafe r most hives s
  safe s engine = one_prefix r most hives s.life s.durable s.journal s.files engine

  named_left : (s : State T Op) → InvariantHolds r most hives s → (j : Content Op) → Leaves s.journal j → AllByRecursion (NamesHive hives) j.elements
  named_left s engine j left = subst (AllByRecursion (NamesHive hives)) (sym (engine.journal_fits j left).piece)
      (all_drop (NamesHive hives) (floor s.durable j - s.life.base) (take (top s.durable j - s.life.base) (known_elements s.life)) (all_take (NamesHive hives) (top s.durable j - s.life.base) (known_elements s.life) engine.fits.named))

  pub reopens_keeps : (old new : State T Op) → InvariantHolds r most hives old → Reopens r most hives old new → InvariantHolds r most hives new
  reopens_keeps old new engine step = moved (record { life = new.life; durable = new.durable; journal = new.journal; files = λ i. settled (step.held i) }) new (opened_life step.n step.trees step.decoded) step.n (settled step.decoded) step.life step.durable step.journal step.files
      (begin r most hives step.decoded step.held step.n step.trees step.found (named_left old engine step.decoded step.left))

  pub reopens_goes : (old new : State T Op) → InvariantHolds r most hives old → Reopens r most hives old new → LifeContinues r hives old new
  reopens_goes old new engine step = goes (safe old engine step.decoded step.left step.held step.each)
    where
      goes : IsPrefix r most hives old.life old.durable step.decoded step.held → LifeContinues r hives old new
      goes p = let same = only_one r most hives step.decoded step.held step.n p.0 step.trees (tree_at r old.life p.0) step.found p.3 in record {
        no_loss = omega (arith, p.1, same.0, step.durable);
        no_more = omega (arith, p.2, same.0, step.durable);
        trees = λ i lt. ap (λ (l : Life T Op). l.trees i) step.life ∙ same.1 i lt ∙ ap (λ n. tree_at r old.life n i) (sym (step.durable ∙ same.0));
      }

  -- if all is durable, an opening finds all
  pub reopens_quiet : (old new : State T Op) → InvariantHolds r most hives old → old.durable ≡ last_number old.life → Reopens r most hives old new
      → (new.durable ≡ old.durable) × ((i : ℕ) → i < hives → new.life.trees i ≡ tree_at r old.life (last_number old.life) i)
  reopens_quiet old new engine all step = let g = reopens_goes old new engine step in
      (omega (arith, g.no_loss, g.no_more, all), λ i lt. g.trees i lt ∙ ap (λ n. tree_at r old.life n i) (omega (arith, g.no_loss, g.no_more, all)))

  pub begun : (decoded : Content Op) (held : ℕ → T × ℕ) (n : ℕ) (trees : ℕ → T) → Recovers r most hives decoded held n trees
      → AllByRecursion (NamesHive hives) decoded.elements → InvariantHolds r most hives (opened_state n trees decoded held)
  begun decoded held n trees found named = begin r most hives decoded held n trees found named

  -- a created store
  pub fresh : 0 < hives → (trees : ℕ → T) → ((i : ℕ) → i < hives → IsTrue (r.allows i 0 (trees i)))
      → InvariantHolds r most hives (opened_state 0 trees nothing (λ i. (trees i, 0)))
  fresh some trees all_allowed = begun nothing (λ i. (trees i, 0)) 0 trees (record {
    last = (0, some, refl);
    limit = omega arith;
    not_above = λ i lt. omega arith;
    tree = λ i lt. refl;
    allowed = all_allowed;
  }) tt
