-- Each call of an `append`, as what a crash after it leaves of both files.
use Rattle.std.proofs.Common.{◌≡◌, ◌≢◌, inl, ℕ, ◌+◌, ◌*◌, List, [], ◌∷◌, ◌++◌, length, refl, sym, ◌∙◌, ap, subst, arith}
use Rattle.std.proofs.lemmas.List.{length_push}
use Rattle.disk_model.specs.FileState.{FileState, at_rest, Leaves, Writes, MayWrite, Syncs}
use Rattle.disk_model.specs.Crash.{LeavesAll}
use Rattle.disk_model.proofs.Leaves.{left_at_rest, left_of_write}
use Rattle.gated_log.specs.GatedLog.{entries_of, log_of, IsSettled, HasOneMore, IsBeforeOrAfter}
use Rattle.gated_log.proofs.LogBytes.{staged, left_behind, left_gate, put_behind, put_gate, entries_of-log_of}

module _ (old : ℕ → FileState) (count byte : ℕ) (settled : IsSettled old count) where
  abbrev es : List ℕ
  es = entries_of (old 0).seen

  abbrev P : (ℕ → List ℕ) → Type 0
  P = IsBeforeOrAfter old byte

  -- the second file is left as it was, at each moment at which its state is as it was
  pub other_left : (state : FileState) (c : List ℕ) → state ≡ old 1 → Leaves state c → c ≡ (old 1).seen
  other_left state c same left = left_at_rest (old 1).seen c (subst (λ (s : FileState). Leaves s c) (same ∙ settled.other) left)

  pub at_start : (files : ℕ → List ℕ) → LeavesAll old files → P files
  at_start files left =
      let log : files 0 ≡ log_of es = left_at_rest (log_of es) (files 0) (subst (λ (s : FileState). Leaves s (files 0)) settled.log (left 0)) in
      (inl (ap entries_of log ∙ entries_of-log_of es), other_left (old 1) (files 1) refl (left 1))

  -- the first write leaves the entries as they were
  pub behind : (log other : FileState) (files : ℕ → List ℕ) → MayWrite (2 * count + 1) (byte ∷ 0 ∷ []) (old 0) log → Leaves log (files 0) → other ≡ old 1 → Leaves other (files 1) → P files
  behind log other files may left same other_may =
      let worst = left_of_write (2 * count + 1) (byte ∷ 0 ∷ []) (at_rest (log_of es)) log [] (files 0) (subst (λ (s : FileState). MayWrite (2 * count + 1) (byte ∷ 0 ∷ []) s log) settled.log may) left in
      (inl (left_behind es count byte settled.counted [] (files 0) worst), other_left other (files 1) same other_may)

  -- once it is synced the entry is after the closed gate
  pub is_staged : (log synced : FileState) → Writes (2 * count + 1) (byte ∷ 0 ∷ []) (old 0) log → Syncs log synced → synced ≡ at_rest (staged es byte)
  is_staged log synced wrote syncs =
      let at_log : Writes (2 * count + 1) (byte ∷ 0 ∷ []) (at_rest (log_of es)) log = subst (λ (s : FileState). Writes (2 * count + 1) (byte ∷ 0 ∷ []) s log) settled.log wrote in
      syncs ∙ ap (λ (s : FileState). at_rest s.seen) at_log ∙ ap at_rest (put_behind es count byte settled.counted)

  -- the second write leaves them with the new one or without
  pub opened : (before log other : FileState) (files : ℕ → List ℕ) → before ≡ at_rest (staged es byte) → MayWrite (2 * count) (0xc3 ∷ []) before log → Leaves log (files 0)
      → other ≡ old 1 → Leaves other (files 1) → P files
  opened before log other files is may left same other_may =
      let worst = left_of_write (2 * count) (0xc3 ∷ []) (at_rest (staged es byte)) log [] (files 0) (subst (λ (s : FileState). MayWrite (2 * count) (0xc3 ∷ []) s log) is may) left in
      (left_gate es count byte settled.counted [] (files 0) worst, other_left other (files 1) same other_may)

  pub is_added : (before log synced : FileState) → before ≡ at_rest (staged es byte) → Writes (2 * count) (0xc3 ∷ []) before log → Syncs log synced → synced ≡ at_rest (log_of (es ++ byte ∷ []))
  is_added before log synced is wrote syncs =
      let at_log : Writes (2 * count) (0xc3 ∷ []) (at_rest (staged es byte)) log = subst (λ (s : FileState). Writes (2 * count) (0xc3 ∷ []) s log) is wrote in
      syncs ∙ ap (λ (s : FileState). at_rest s.seen) at_log ∙ ap at_rest (put_gate es count byte settled.counted)

  pub has_one_more : (new : ℕ → FileState) → new 0 ≡ at_rest (log_of (es ++ byte ∷ [])) → new 1 ≡ old 1 → HasOneMore old new count byte
  has_one_more new log other =
      let entries : entries_of (new 0).seen ≡ es ++ byte ∷ [] = ap (λ (s : FileState). entries_of s.seen) log ∙ entries_of-log_of (es ++ byte ∷ []) in record {
        settled = record {
          log = log ∙ ap (λ (l : List ℕ). at_rest (log_of l)) (sym entries);
          counted = ap (λ (n : ℕ). n + 1) settled.counted ∙ sym (length_push es byte) ∙ ap length (sym entries);
          other = other ∙ settled.other ∙ ap (λ (s : FileState). at_rest s.seen) (sym other);
        };
        entries = entries;
        other = ap (λ (s : FileState). s.seen) other;
      }

-- the second file isn't the log
pub is_other : (f : ℕ) → f ≡ 1 → f ≢ 0
is_other f is zero = omega (arith, is, zero)
