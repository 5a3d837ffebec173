-- What a crash leaves in each phase, and how each device call leads from one phase to the next.
use Rattle.std.proofs.Common.{◌≡◌, ◌≢◌, inl, inr, ⊎_elim, ℕ, ◌+◌, List, [], ◌∷◌, ◌++◌, length, get_or, drop, refl, sym, ◌∙◌, ap, subst, arith, append_assoc, Some}
use Rattle.std.proofs.lemmas.Option.{same_Some}
use Rattle.std.proofs.lemmas.Bool.{cases_eq}
use Rattle.crash_model.specs.Promises.{Choice, Content, nothing, floor, top, settled, under_way, JournalOn}
use Rattle.crash_model.specs.Promises as law
use Rattle.crash_model.specs.Files.{DecodesBy}
use Rattle.disk_model.specs.FileState.{FileState, at_rest, after_write, put, Leaves, Writes, MayWrite, Syncs}
use Rattle.disk_model.proofs.Leaves.{left_at_rest, left_of_write}
use Rattle.commit_journal.specs.Encoding.{Encodings, Body, PrefixEncodes, decoded}
use Rattle.commit_journal.specs.OnDisk.{JournalView, IsAtRest, Batch, staged, IsBodyWritten, IsBodySynced, IsGateWritten, IsTrimWritten, IsBroken, in_phase, is_on, MayBegin, with_elements, begun, trimmed, with_phase, ended}
use Rattle.commit_journal.specs.OnDisk.{Phase, Phase.AtRest, Phase.BodyWritten, Phase.BodySynced, Phase.GateWritten, Phase.TrimWritten, Phase.Broken}
use Rattle.commit_journal.proofs.Reading.{extent_decodes}
use Rattle.commit_journal.proofs.Numbers.{prefix_push, empty_prefix}
use Rattle.commit_journal.proofs.Bytes.{put_behind, put_gate, left_behind, left_gate}

module _ {Op : Type 0} (t : Encodings Op) where
  abbrev On : Choice (Content Op) → FileState → Type 0
  On choice state = JournalOn (DecodesBy (decoded t)) choice (Leaves state)

  moved : (c bytes : List ℕ) (s : Content Op) → c ≡ bytes → decoded t bytes ≡ Some s → decoded t c ≡ Some s
  moved c bytes s is decodes = ap (decoded t) is ∙ decodes

  -- a file at rest that decodes to the durable content
  rest_on : (choice : Choice (Content Op)) (bytes : List ℕ) (state : FileState) → state ≡ at_rest bytes → decoded t bytes ≡ Some choice.now → On choice state
  rest_on choice bytes state is decodes c left =
      (choice.now, inl refl, moved c bytes choice.now (left_at_rest bytes c (subst (λ (s : FileState). Leaves s c) is left)) decodes)

  -- a write after the gate
  behind_on : (choice : Choice (Content Op)) (gate : ℕ) (prefix tail bytes seen : List ℕ) (closed : ℕ) → PrefixEncodes t choice.now gate prefix → closed ≢ 0xc3
      → On choice (after_write (at_rest (prefix ++ closed ∷ tail)) (gate + 1) bytes seen)
  behind_on choice gate prefix tail bytes seen closed on_device shut c left =
      (choice.now, inl refl, moved c _ choice.now (left_behind prefix tail closed gate on_device.size bytes seen c left) (extent_decodes t choice.now gate prefix (drop (gate + 1) c) closed on_device shut))

  -- a write at a gate: what is decoded with it open, and with it closed
  gate_on : (choice : Choice (Content Op)) (n : ℕ) (prefix tail seen : List ℕ) (before byte : ℕ) → n ≡ length prefix
      → ((s : Content Op) × law.Leaves choice s × (decoded t (prefix ++ 0xc3 ∷ tail) ≡ Some s))
      → ((gate : ℕ) → gate ≢ 0xc3 → (s : Content Op) × law.Leaves choice s × (decoded t (prefix ++ gate ∷ tail) ≡ Some s))
      → On choice (after_write (at_rest (prefix ++ before ∷ tail)) n (byte ∷ []) seen)
  gate_on choice n prefix tail seen before byte size when_open when_closed c left =
      let gate = get_or c n 0 in
      let is : c ≡ prefix ++ gate ∷ tail = left_gate prefix tail before n size byte seen c left in
      ⊎_elim
      (λ opened. (when_open.0, when_open.1, moved c (prefix ++ 0xc3 ∷ tail) when_open.0 (is ∙ ap (λ (g : ℕ). prefix ++ g ∷ tail) opened) when_open.2))
      (λ shut. let r = when_closed gate shut in (r.0, r.1, moved c (prefix ++ gate ∷ tail) r.0 is r.2))
      (cases_eq gate 0xc3)

  -- opening the gate of a batch that is synced
  open_on : (choice : Choice (Content Op)) (gate ahead : ℕ) (b : Batch t choice gate ahead) (tail seen : List ℕ) → On choice (after_write (at_rest (staged b.prefix b.closed b.chunk tail)) gate (0xc3 ∷ []) seen)
  open_on choice gate ahead b tail seen =
      gate_on choice gate b.prefix (b.chunk ++ 0 ∷ tail) seen b.closed 0xc3 b.on_device.size
      (b.then, inr b.next, ap (decoded t) (sym (append_assoc b.prefix (0xc3 ∷ b.chunk) (0 ∷ tail))) ∙ extent_decodes t b.then ahead (b.prefix ++ 0xc3 ∷ b.chunk) tail 0 b.will (λ e. omega (arith, e)))
      (λ g shut. (choice.now, inl refl, extent_decodes t choice.now gate b.prefix (b.chunk ++ 0 ∷ tail) g b.on_device shut))

  -- closing the first gate
  close_on : (choice : Choice (Content Op)) (rest seen : List ℕ) → length t.header ≡ 64 → choice.next ≡ Some nothing → decoded t (t.header ++ 0xc3 ∷ rest) ≡ Some choice.now
      → On choice (after_write (at_rest (t.header ++ 0xc3 ∷ rest)) 64 (0 ∷ []) seen)
  close_on choice rest seen head next decodes =
      gate_on choice 64 t.header rest seen 0xc3 0 (sym head) (choice.now, inl refl, decodes)
      (λ g shut. (nothing, inr next, extent_decodes t nothing 64 t.header rest g (empty_prefix t head) shut))

  at_state : (choice : Choice (Content Op)) (a b : FileState) → a ≡ b → On choice b → On choice a
  at_state choice a b is on = subst (On choice) (sym is) on

  -- The law: in each phase, whatever a crash leaves decodes to the durable content or to what is under way.
  on_leaves_in : (phase : Phase) (choice : Choice (Content Op)) (gate ahead : ℕ) (state : FileState) → in_phase phase t choice gate ahead state → On choice state
  on_leaves_in AtRest choice gate ahead state on = rest_on choice (on.prefix ++ on.closed ∷ on.tail) state on.is (extent_decodes t choice.now gate on.prefix on.tail on.closed on.on_device on.shut)
  on_leaves_in BodyWritten choice gate ahead state on = at_state choice state _ on.is (behind_on choice gate on.batch.prefix on.tail _ _ on.batch.closed on.batch.on_device on.batch.shut)
  on_leaves_in BodySynced choice gate ahead state on = rest_on choice (staged on.batch.prefix on.batch.closed on.batch.chunk on.tail) state on.is
      (extent_decodes t choice.now gate on.batch.prefix (on.batch.chunk ++ 0 ∷ on.tail) on.batch.closed on.batch.on_device on.batch.shut)
  on_leaves_in GateWritten choice gate ahead state on = at_state choice state _ on.is (open_on choice gate ahead on.batch on.tail _)
  on_leaves_in TrimWritten choice gate ahead state on = at_state choice state _ on.is (close_on choice on.rest _ on.head on.next on.decodes)
  on_leaves_in Broken choice gate ahead state on = on.on

  pub on_leaves : (v : JournalView Op) (state : FileState) → is_on t v state → On v.choice state
  unfolding is_on
  on_leaves v state on = on_leaves_in v.phase v.choice v.gate v.ahead state on

  -- a write, done or not, that in any case leaves what the choice leaves
  broken_by : (choice : Choice (Content Op)) (gate ahead : ℕ) (then : Content Op) (offset : ℕ) (bytes : List ℕ) (old new : FileState) → choice.next ≡ Some then
      → On choice (after_write old offset bytes []) → MayWrite offset bytes old new → IsBroken t choice gate ahead new
  broken_by choice gate ahead then offset bytes old new next on may = record { then = then; next = next; on = λ c left. on c (left_of_write offset bytes old new [] c may left) }

  -- a write that is done, from a state and to bytes that are known
  wrote : (offset : ℕ) (bytes file seen : List ℕ) (old new : FileState) → old ≡ at_rest file → put file offset bytes ≡ seen → Writes offset bytes old new → new ≡ after_write (at_rest file) offset bytes seen
  wrote offset bytes file seen old new is puts done =
      done ∙ ap (λ (s : FileState). after_write s offset bytes (put s.seen offset bytes)) is ∙ ap (λ (l : List ℕ). after_write (at_rest file) offset bytes l) puts

  may_at : (offset : ℕ) (bytes file : List ℕ) (old new : FileState) → old ≡ at_rest file → MayWrite offset bytes old new → MayWrite offset bytes (at_rest file) new
  may_at offset bytes file old new is may = subst (λ (s : FileState). MayWrite offset bytes s new) is may

  -- a sync of what was written
  synced : (file bytes : List ℕ) (offset : ℕ) (seen : List ℕ) (old new : FileState) → old ≡ after_write (at_rest file) offset bytes seen → Syncs old new → new ≡ at_rest seen
  synced file bytes offset seen old new is syncs = syncs ∙ ap (λ (s : FileState). at_rest s.seen) is

  -- after any call that failed and changed no file
  broken_same : (choice : Choice (Content Op)) (gate ahead : ℕ) (then : Content Op) (old new : FileState) → choice.next ≡ Some then → On choice old → new ≡ old → IsBroken t choice gate ahead new
  broken_same choice gate ahead then old new next on same = record { then = then; next = next; on = at_state choice new old same on }

  -- a batch begins: the body and the next gate are written after the gate that isn't open
  module _ (v : JournalView Op) (durable : ℕ) (chunk : List ℕ) (b : Body Op) (old new : FileState) (quiet : IsAtRest t v.choice v.gate v.ahead old) (may : MayBegin t v.choice.now durable chunk b) where
    abbrev w : JournalView Op
    w = begun v durable chunk b

    abbrev the_batch : Batch t w.choice w.gate w.ahead
    the_batch = record {
      prefix = quiet.prefix;
      closed = quiet.closed;
      chunk = chunk;
      then = with_elements v.choice.now durable b.elements;
      next = refl;
      on_device = quiet.on_device;
      shut = quiet.shut;
      will = prefix_push t v.choice.now v.gate durable quiet.prefix chunk b quiet.on_device may.body may.ends may.first may.some may.room;
    }

    pub body_written : Writes (v.gate + 1) (chunk ++ 0 ∷ []) old new → is_on t w new
    unfolding is_on
    body_written done = record {
      batch = the_batch;
      tail = quiet.tail;
      is = wrote (v.gate + 1) (chunk ++ 0 ∷ []) (quiet.prefix ++ quiet.closed ∷ quiet.tail) _ old new quiet.is (put_behind quiet.prefix quiet.tail quiet.closed v.gate quiet.on_device.size chunk) done;
    }

    pub body_failed : MayWrite (v.gate + 1) (chunk ++ 0 ∷ []) old new → is_on t (with_phase Broken w) new
    unfolding is_on
    body_failed failed = broken_by w.choice w.gate w.ahead (with_elements v.choice.now durable b.elements) (v.gate + 1) (chunk ++ 0 ∷ []) (at_rest (quiet.prefix ++ quiet.closed ∷ quiet.tail)) new refl
        (behind_on w.choice w.gate quiet.prefix quiet.tail (chunk ++ 0 ∷ []) [] quiet.closed quiet.on_device quiet.shut) (may_at _ _ _ old new quiet.is failed)

  module _ (v : JournalView Op) (old new : FileState) where
    -- the body is synced
    pub body_synced : IsBodyWritten t v.choice v.gate v.ahead old → Syncs old new → is_on t (with_phase BodySynced v) new
    unfolding is_on
    body_synced on syncs = record { batch = on.batch; tail = drop (length on.batch.chunk + 1) on.tail; is = synced _ _ _ _ old new on.is syncs }

    -- the gate is opened
    pub gate_written : IsBodySynced t v.choice v.gate v.ahead old → Writes v.gate (0xc3 ∷ []) old new → is_on t (with_phase GateWritten v) new
    unfolding is_on
    gate_written on done = record {
      batch = on.batch;
      tail = on.tail;
      is = wrote v.gate (0xc3 ∷ []) (staged on.batch.prefix on.batch.closed on.batch.chunk on.tail) _ old new on.is (put_gate on.batch.prefix (on.batch.chunk ++ 0 ∷ on.tail) on.batch.closed v.gate on.batch.on_device.size 0xc3) done;
    }

    pub gate_failed : IsBodySynced t v.choice v.gate v.ahead old → MayWrite v.gate (0xc3 ∷ []) old new → is_on t (with_phase Broken v) new
    unfolding is_on
    gate_failed on failed = broken_by v.choice v.gate v.ahead on.batch.then v.gate (0xc3 ∷ []) (at_rest (staged on.batch.prefix on.batch.closed on.batch.chunk on.tail)) new on.batch.next
        (open_on v.choice v.gate v.ahead on.batch on.tail []) (may_at _ _ _ old new on.is failed)

    -- and synced: the batch is durable
    pub gate_synced : (then : Content Op) → v.choice.next ≡ Some then → IsGateWritten t v.choice v.gate v.ahead old → Syncs old new → is_on t (ended then v) new
    unfolding is_on
    gate_synced then next on syncs =
        let same : on.batch.then ≡ then = same_Some on.batch.then then (sym on.batch.next ∙ next) in
        record {
          prefix = on.batch.prefix ++ 0xc3 ∷ on.batch.chunk;
          closed = 0;
          tail = on.tail;
          none = refl;
          on_device = subst (λ (s : Content Op). PrefixEncodes t s v.ahead (on.batch.prefix ++ 0xc3 ∷ on.batch.chunk)) same on.batch.will;
          shut = λ e. omega (arith, e);
          is = synced _ _ _ _ old new on.is syncs ∙ ap at_rest (sym (append_assoc on.batch.prefix (0xc3 ∷ on.batch.chunk) (0 ∷ on.tail)));
        }

    -- a sync that failed, in any phase in which something is under way
    pub sync_failed : (then : Content Op) → v.choice.next ≡ Some then → is_on t v old → new ≡ old → is_on t (with_phase Broken v) new
    unfolding is_on
    sync_failed then next on same = broken_same v.choice v.gate v.ahead then old new next (on_leaves v old on) same

  -- a trim begins at a journal at rest whose first gate is open
  module _ (v : JournalView Op) (old new : FileState) (quiet : IsAtRest t v.choice v.gate v.ahead old) (rest : List ℕ) (opened : quiet.prefix ≡ t.header ++ 0xc3 ∷ rest) where
    whole : quiet.prefix ++ quiet.closed ∷ quiet.tail ≡ t.header ++ 0xc3 ∷ (rest ++ quiet.closed ∷ quiet.tail)
    whole = ap (λ (l : List ℕ). l ++ quiet.closed ∷ quiet.tail) opened ∙ append_assoc t.header (0xc3 ∷ rest) (quiet.closed ∷ quiet.tail)

    at : old ≡ at_rest (t.header ++ 0xc3 ∷ (rest ++ quiet.closed ∷ quiet.tail))
    at = quiet.is ∙ ap at_rest whole

    decodes : decoded t (t.header ++ 0xc3 ∷ (rest ++ quiet.closed ∷ quiet.tail)) ≡ Some v.choice.now
    decodes = ap (decoded t) (sym whole) ∙ extent_decodes t v.choice.now v.gate quiet.prefix quiet.tail quiet.closed quiet.on_device quiet.shut

    pub trim_written : Writes 64 (0 ∷ []) old new → is_on t (trimmed TrimWritten v) new
    unfolding is_on
    trim_written done = record {
      head = quiet.on_device.head;
      rest = rest ++ quiet.closed ∷ quiet.tail;
      next = refl;
      decodes = decodes;
      is = wrote 64 (0 ∷ []) _ _ old new at (put_gate t.header (rest ++ quiet.closed ∷ quiet.tail) 0xc3 64 (sym quiet.on_device.head) 0) done;
    }

    pub trim_failed : MayWrite 64 (0 ∷ []) old new → is_on t (trimmed Broken v) new
    unfolding is_on
    trim_failed failed = broken_by (trimmed Broken v).choice v.gate 64 nothing 64 (0 ∷ []) _ new refl
        (close_on (trimmed Broken v).choice (rest ++ quiet.closed ∷ quiet.tail) [] quiet.on_device.head refl decodes) (may_at _ _ _ old new at failed)

  module _ (v : JournalView Op) (old new : FileState) where
    -- the trim is synced: the journal decodes to no element
    pub trim_synced : v.ahead ≡ 64 → IsTrimWritten t v.choice v.gate v.ahead old → Syncs old new → is_on t (ended nothing v) new
    unfolding is_on
    trim_synced ahead on syncs = record {
      prefix = t.header;
      closed = 0;
      tail = on.rest;
      none = refl;
      on_device = subst (λ (n : ℕ). PrefixEncodes t nothing n t.header) (sym ahead) (empty_prefix t on.head);
      shut = λ e. omega (arith, e);
      is = synced _ _ _ _ old new on.is syncs;
    }
