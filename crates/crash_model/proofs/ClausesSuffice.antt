-- The calls of the journal and of a hive's files, as steps of the protocol.
use Rattle.std.proofs.Common.{◌≡◌, ◌-◌, ◌⊎◌, inl, inr, ℕ, ◌<◌, ◌≤◌, List, [], refl, ◌↔◌, ◌∙◌, ap, sym, subst, arith, length-drop, Some}
use Rattle.std.proofs.lemmas.Option.{same_Some}
use Rattle.crash_model.specs.Changes.{Rules, AreLegal, ops_on, replay}
use Rattle.crash_model.specs.Promises.{Choice, Leaves, MayFollow, BeginsTrim, Answer, Answer.Idle, Answer.More, Answer.Done, Answer.NoMemory, Answer.DiskFault, Answer.Faulted, BeginsWrite, HiveSays}
use Rattle.crash_model.specs.Recovery.{above}
use Rattle.crash_model.specs.Life.{Life, IsLastNaming, opened_number, ops_in, tree_at}
use Rattle.crash_model.specs.Invariant.{HiveFits, EngineFits, State, InvariantHolds}
use Rattle.crash_model.specs.Steps.{pending_elements, AllStay, MayTrim}
use Rattle.crash_model.specs.Calls.{JournalStep, TrimStep, FlusherStep, MemoryFits}
use Rattle.crash_model.proofs.OnePrefix.{ops_split, ops_above}
use Rattle.crash_model.proofs.Replays.{replay_on, replay_front}
use Rattle.crash_model.proofs.Lists.{le_or_le}
use Rattle.std.proofs.lemmas.Bool.{cases_eq}
use Rattle.crash_model.proofs.KeepFiles.{covered_higher, only_leaves}
use Rattle.crash_model.proofs.KeepSteps.{moved, one_file, step_batch, step_settle, step_trim}

pub last_naming : {T Op : Type 0} (life : Life T Op) (i hi m : ℕ) → IsLastNaming life i hi m → (k : ℕ) → (ops_in life i k hi ≡ []) ↔ (m ≤ k)
last_naming {Op = Op} life i hi m is k = (λ none. reached none is.names, λ le. covered_higher life i m k hi le is.none_after)
  where
    reached : ops_in life i k hi ≡ [] → (m ≡ 0) ⊎ ((1 ≤ m) × ¬ (ops_in life i (m - 1) hi ≡ [])) → m ≤ k
    reached none (inl zero) = omega (arith, zero)
    reached none (inr some) = elim (le_or_le m k) as (λ z. m ≤ k) [
      | inl le ↦ le
      | inr ge ↦ elim (cases_eq m k) as (λ z. m ≤ k) [
        | inl same ↦ omega (arith, same)
        | inr other ↦ absurd (some.1 (covered_higher life i k (m - 1) hi (omega (arith, ge, other)) none))
      ]
    ]

module _ {T Op : Type 0} (r : Rules T Op) (most hives : ℕ) where
  -- what is to be absorbed is legal on what is in memory
  pub may_absorb : (s : State T Op) (i : ℕ) (memory : T × ℕ) (upto : ℕ) → MemoryFits r s i memory → memory.1 ≤ upto → upto ≤ s.durable → AreLegal r (ops_in s.life i memory.1 upto) memory.0
  may_absorb s i memory upto fits low high = replay_front r (ops_in s.life i memory.1 upto) (ops_in s.life i upto s.durable) memory.0 (tree_at r s.life s.durable i)
      (ap (λ (os : List Op). replay r os memory.0) (sym (ops_split s.life i memory.1 upto s.durable low high)) ∙ fits.fits.tree)

  -- absorbing up to any number not above the durable one
  pub absorbed : (s : State T Op) (i : ℕ) (memory : T × ℕ) (upto : ℕ) (t : T) → MemoryFits r s i memory → memory.1 ≤ upto → upto ≤ s.durable
      → replay r (ops_in s.life i memory.1 upto) memory.0 ≡ Some t → MemoryFits r s i (t, upto)
  absorbed s i memory upto t fits low high h = record {
    fits = record {
      not_above = high;
      tree = sym (replay_on r (ops_in s.life i memory.1 upto) (ops_in s.life i upto s.durable) memory.0 t h)
          ∙ ap (λ (os : List Op). replay r os memory.0) (sym (ops_split s.life i memory.1 upto s.durable low high)) ∙ fits.fits.tree;
    };
    higher = omega (arith, fits.higher, low);
  }

  -- what the journal decodes to above a hive's number is what the hive lacks of the durable
  -- elements
  lacks : (s : State T Op) → InvariantHolds r most hives s → (i : ℕ) → i < hives
      → ops_on i (above (s.files i).now.1 s.journal.now) ≡ ops_in s.life i (s.files i).now.1 s.durable
  lacks s kept i lt =
      ops_above s.life s.durable i (s.files i).now.1 (s.files i).now.1 s.journal.now.below s.journal.now.elements (kept.journal_fits s.journal.now (inl refl)) (kept.covered s.journal.now (inl refl) i lt) (omega arith)
      (kept.hive_fits i lt (s.files i).now (inl refl)).not_above
      ∙ ap (ops_in s.life i (s.files i).now.1) kept.ends

  pub trim_test : (s : State T Op) → InvariantHolds r most hives s
      → MayTrim hives s ↔ ((i : ℕ) → i < hives → ops_in s.life i (s.files i).now.1 s.durable ≡ [])
  trim_test s kept = (λ may i lt. sym (lacks s kept i lt) ∙ may i lt, λ held i lt. lacks s kept i lt ∙ held i lt)

  -- what is pending may be handed to the journal
  pub may_follow : (s : State T Op) → InvariantHolds r most hives s → MayFollow most s.durable (pending_elements s) s.journal.now
  may_follow s kept = record {
    ends = kept.ends;
    room = omega (arith, length-drop (s.durable - opened_number s.life) s.life.accepted, kept.fits.from_opened, kept.fits.to_last, kept.fits.limit);
  }

  same_state : (old new : State T Op) → InvariantHolds r most hives old → new.life ≡ old.life → new.durable ≡ old.durable → new.journal ≡ old.journal
      → AllStay hives old.files new.files → InvariantHolds r most hives new
  same_state old new kept a b c d = moved r most hives old new old.life old.durable old.journal a b c d kept

  pub journal_step : (answer : Answer) (old new : State T Op) → InvariantHolds r most hives old → JournalStep hives answer old new → InvariantHolds r most hives new
  journal_step Idle old new kept step = same_state old new kept step.life step.durable step.journal.2 step.files
  journal_step NoMemory old new kept step = same_state old new kept step.life step.durable step.journal.1 step.files
  journal_step Faulted old new kept step = same_state old new kept step.life step.durable step.journal step.files
  journal_step Done old new kept step = step_settle r most hives old new kept (record { life = step.life; journal = step.journal; durable = step.durable; files = step.files })
  journal_step More old new kept step = elim (step.journal) as (λ z. InvariantHolds r most hives new) [
    | inl b ↦ step_batch r most hives old new kept (record { life = step.life; durable = step.durable; journal = b; files = step.files })
    | inr b ↦ same_state old new kept step.life step.durable b.1 step.files
  ]
  journal_step DiskFault old new kept step = elim (step.journal) as (λ z. InvariantHolds r most hives new) [
    | inl b ↦ step_batch r most hives old new kept (record { life = step.life; durable = step.durable; journal = b; files = step.files })
    | inr b ↦ same_state old new kept step.life step.durable b step.files
  ]

  begun_trim : (answer : Answer) (old new : State T Op) → InvariantHolds r most hives old → TrimStep hives answer old new → new.durable ≡ old.durable
      → BeginsTrim old.journal new.journal → InvariantHolds r most hives new
  begun_trim answer old new kept step same b = let may = step.may b.0 in
      step_trim r most hives old new kept (record { decodes = may.0; may = may.1; life = step.life; durable = same; journal = b; files = step.files })

  pub trim_step : (answer : Answer) (old new : State T Op) → InvariantHolds r most hives old → TrimStep hives answer old new → InvariantHolds r most hives new
  trim_step Idle old new kept step = absurd step.journal
  trim_step NoMemory old new kept step = absurd step.journal
  trim_step Faulted old new kept step = same_state old new kept step.life step.durable step.journal step.files
  trim_step Done old new kept step = step_settle r most hives old new kept (record { life = step.life; journal = step.journal; durable = step.durable; files = step.files })
  trim_step More old new kept step = begun_trim More old new kept step step.durable step.journal
  trim_step DiskFault old new kept step = elim (step.journal) as (λ z. InvariantHolds r most hives new) [
    | inl b ↦ begun_trim DiskFault old new kept step step.durable b
    | inr b ↦ same_state old new kept step.life step.durable b step.files
  ]

  -- what a FlusherStep may make of its hive
  hive_moves : (answer : Answer) (hive : ℕ) (memory : T × ℕ) (old new : State T Op) → InvariantHolds r most hives old
      → FlusherStep r hives answer hive memory old new → hive < hives
      → ((old.files hive).now.1 ≤ (new.files hive).now.1) × ((x : T × ℕ) → Leaves (new.files hive) x → HiveFits r old.life old.durable hive x × ((new.files hive).now.1 ≤ x.1))
  hive_moves answer hive memory old new kept step lt = by_answer answer step.file
    where
      stay : new.files hive ≡ old.files hive
          → ((old.files hive).now.1 ≤ (new.files hive).now.1) × ((x : T × ℕ) → Leaves (new.files hive) x → HiveFits r old.life old.durable hive x × ((new.files hive).now.1 ≤ x.1))
      stay p = (omega (arith, ap (λ (c : Choice (T × ℕ)). c.now.1) p), λ x left. (kept.hive_fits hive lt x (subst (λ c. Leaves c x) p left), subst (λ (c : Choice (T × ℕ)). c.now.1 ≤ x.1) (sym p) (kept.rises hive lt x (subst (λ c. Leaves c x) p left))))

      of_begun : (x : T × ℕ) → Leaves (record { now = (old.files hive).now; next = Some memory }) x
          → HiveFits r old.life old.durable hive x × ((old.files hive).now.1 ≤ x.1)
      of_begun x (inl p) = subst (λ y. HiveFits r old.life old.durable hive y × ((old.files hive).now.1 ≤ y.1)) (sym p) (kept.hive_fits hive lt (old.files hive).now (inl refl), omega arith)
      of_begun x (inr p) = subst (λ y. HiveFits r old.life old.durable hive y × ((old.files hive).now.1 ≤ y.1)) (same_Some _ _ p) ((step.fits lt).fits, (step.fits lt).higher)

      begins : BeginsWrite memory (old.files hive) (new.files hive)
          → ((old.files hive).now.1 ≤ (new.files hive).now.1) × ((x : T × ℕ) → Leaves (new.files hive) x → HiveFits r old.life old.durable hive x × ((new.files hive).now.1 ≤ x.1))
      begins b = (omega (arith, ap (λ (c : Choice (T × ℕ)). c.now.1) b.1), λ x left. subst (λ (c : Choice (T × ℕ)). HiveFits r old.life old.durable hive x × (c.now.1 ≤ x.1)) (sym b.1) (of_begun x (subst (λ c. Leaves c x) b.1 left)))

      by_answer : (a : Answer) → HiveSays memory a (old.files hive) (new.files hive)
          → ((old.files hive).now.1 ≤ (new.files hive).now.1) × ((x : T × ℕ) → Leaves (new.files hive) x → HiveFits r old.life old.durable hive x × ((new.files hive).now.1 ≤ x.1))
      by_answer Idle b = absurd b
      by_answer NoMemory b = stay b.1
      by_answer More (inl b) = begins b
      by_answer More (inr b) = stay b.1
      by_answer DiskFault (inl b) = begins b
      by_answer DiskFault (inr b) = stay b
      by_answer Faulted b = stay b
      by_answer Done b = (
        subst (λ (c : Choice (T × ℕ)). (old.files hive).now.1 ≤ c.now.1) (sym b.2) (kept.rises hive lt b.0 (inr b.1)),
        λ x left. let e = only_leaves b.0 x (subst (λ c. Leaves c x) b.2 left) in
            (subst (HiveFits r old.life old.durable hive) (sym e) (kept.hive_fits hive lt b.0 (inr b.1)), omega (arith, ap (λ (c : Choice (T × ℕ)). c.now.1) b.2, ap (λ (y : T × ℕ). y.1) e)),
      )

  pub flusher_step : (answer : Answer) (hive : ℕ) (memory : T × ℕ) (old new : State T Op) → InvariantHolds r most hives old
      → FlusherStep r hives answer hive memory old new → InvariantHolds r most hives new
  flusher_step answer hive memory old new kept step =
      subst (λ l. EngineFits r most hives l new.durable new.journal new.files) (sym step.life)
      (subst (λ d. EngineFits r most hives old.life d new.journal new.files) (sym step.durable)
      (subst (λ j. EngineFits r most hives old.life old.durable j new.files) (sym step.journal)
      (one_file r most hives old.life old.durable old.journal old.files new.files kept hive step.others
      (λ lt. (hive_moves answer hive memory old new kept step lt).0)
      (λ lt. (hive_moves answer hive memory old new kept step lt).1))))
