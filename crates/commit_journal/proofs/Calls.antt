-- Each device call, from one phase to the next.
use Rattle.std.proofs.Common.{◌≡◌, ⊎_elim, ℕ, ◌+◌, ◌<◌, List, [], ◌∷◌, ◌++◌, length, refl, ap, subst, arith, Some}
use Rattle.crash_model.specs.Promises.{Content, nothing}
use Rattle.disk_model.specs.FileState.{FileState, Writes, MayWrite, Syncs}
use Rattle.commit_journal.specs.Encoding.{Encodings, Body, PrefixEncodes}
use Rattle.commit_journal.specs.OnDisk.{is_on, in_phase, MayBegin, with_elements, view_at, next_at}
use Rattle.commit_journal.specs.OnDisk.{Phase, Phase.AtRest, Phase.BodyWritten, Phase.BodySynced, Phase.GateWritten, Phase.TrimWritten, Phase.Broken}
use Rattle.commit_journal.proofs.Numbers.{first_gate}
use Rattle.commit_journal.proofs.States as states

module _ {Op : Type 0} (t : Encodings Op) (now then : Content Op) (gate ahead : ℕ) (old new : FileState) where
  abbrev At : Phase → FileState → Type 0
  At phase state = is_on t (view_at now then gate ahead phase) state

  opened : (phase : Phase) (state : FileState) → At phase state → in_phase phase t (record { now = now; next = next_at phase then }) gate ahead state
  unfolding is_on
  opened phase state on = on

  pub body_ok : (durable : ℕ) (chunk : List ℕ) (b : Body Op) → At AtRest old → MayBegin t now durable chunk b → Writes (gate + 1) (chunk ++ 0 ∷ []) old new
      → is_on t (view_at now (with_elements now durable b.elements) gate (gate + 1 + length chunk) BodyWritten) new
  body_ok durable chunk b on may done = states.body_written t (view_at now then gate ahead AtRest) durable chunk b old new (opened AtRest old on) may done

  pub body_failed : (durable : ℕ) (chunk : List ℕ) (b : Body Op) → At AtRest old → MayBegin t now durable chunk b → MayWrite (gate + 1) (chunk ++ 0 ∷ []) old new
      → is_on t (view_at now (with_elements now durable b.elements) gate (gate + 1 + length chunk) Broken) new
  body_failed durable chunk b on may failed = states.body_failed t (view_at now then gate ahead AtRest) durable chunk b old new (opened AtRest old on) may failed

  pub body_synced : At BodyWritten old → Syncs old new → At BodySynced new
  body_synced on syncs = states.body_synced t (view_at now then gate ahead BodyWritten) old new (opened BodyWritten old on) syncs

  pub gate_ok : At BodySynced old → Writes gate (0xc3 ∷ []) old new → At GateWritten new
  gate_ok on done = states.gate_written t (view_at now then gate ahead BodySynced) old new (opened BodySynced old on) done

  pub gate_failed : At BodySynced old → MayWrite gate (0xc3 ∷ []) old new → At Broken new
  gate_failed on failed = states.gate_failed t (view_at now then gate ahead BodySynced) old new (opened BodySynced old on) failed

  pub gate_synced : (any : Content Op) → At GateWritten old → Syncs old new → is_on t (view_at then any ahead ahead AtRest) new
  gate_synced any on syncs = states.gate_synced t (view_at now then gate ahead GateWritten) old new then refl (opened GateWritten old on) syncs

  -- a sync that failed, in any phase in which it is called
  pub sync_failed : (phase : Phase) → next_at phase then ≡ Some then → At phase old → new ≡ old → At Broken new
  unfolding is_on
  sync_failed phase next on same =
      let broken : is_on t (record { choice = record { now = now; next = next_at phase then }; gate = gate; ahead = ahead; phase = Broken }) new
      = states.sync_failed t (view_at now then gate ahead phase) old new then next on same in
      subst (λ n. is_on t (record { choice = record { now = now; next = n }; gate = gate; ahead = ahead; phase = Broken }) new) next broken

  prefix_of : (on : At AtRest old) → PrefixEncodes t now gate (opened AtRest old on).prefix
  prefix_of on = (opened AtRest old on).on_device

  -- if the journal has an element, the first gate is open
  first : (on : At AtRest old) → 0 < length now.elements → (rest : List ℕ) × ((opened AtRest old on).prefix ≡ t.header ++ 0xc3 ∷ rest)
  first on some = let s = prefix_of on in
      ⊎_elim (λ none. absurd (omega (arith, some, ap (λ (x : Content Op). length x.elements) none.0))) (λ one. one) (first_gate t now gate (opened AtRest old on).prefix s)

  pub trim_ok : 0 < length now.elements → At AtRest old → Writes 64 (0 ∷ []) old new → is_on t (view_at now nothing gate 64 TrimWritten) new
  trim_ok some on done = let f = first on some in states.trim_written t (view_at now then gate ahead AtRest) old new (opened AtRest old on) f.0 f.1 done

  pub trim_failed : 0 < length now.elements → At AtRest old → MayWrite 64 (0 ∷ []) old new → is_on t (view_at now nothing gate 64 Broken) new
  trim_failed some on failed = let f = first on some in states.trim_failed t (view_at now then gate ahead AtRest) old new (opened AtRest old on) f.0 f.1 failed

module _ {Op : Type 0} (t : Encodings Op) (now : Content Op) (gate : ℕ) (old new : FileState) where
  pub trim_synced : (any : Content Op) → is_on t (view_at now nothing gate 64 TrimWritten) old → Syncs old new → is_on t (view_at nothing any 64 64 AtRest) new
  unfolding is_on
  trim_synced any on syncs = states.trim_synced t (view_at now nothing gate 64 TrimWritten) old new refl on syncs
