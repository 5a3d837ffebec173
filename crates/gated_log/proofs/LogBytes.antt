-- What the bytes of a gated log are in each step of an `append`.
use Rattle.std.proofs.Common.{◌≡◌, ◌⊎◌, inl, inr, ℕ, ◌+◌, ◌*◌, ◌≤◌, Bool, true, false, List, [], ◌∷◌, ◌++◌, length, get_or, take, drop, refl, sym, ◌∙◌, ap, subst, arith, append_assoc, length-append, take-append-drop}
use Rattle.std.specs.Prelude.{if◌then◌else◌, ◌==◌}
use Rattle.std.proofs.lemmas.List.{take_at, drop_at, drop_more, take_all}
use Rattle.disk_model.specs.FileState.{at_rest, Leaves, after_write, put}
use Rattle.disk_model.proofs.Leaves.{front_kept, back_kept, same_length, put_end, put_within}
use Rattle.gated_log.specs.GatedLog.{entries_of, open_entries, log_of}

pub length-open_entries : (es : List ℕ) → length (open_entries es) ≡ 2 * length es
length-open_entries [] = refl
length-open_entries (e ∷ es) = omega (arith, length-open_entries es)

open_entries-push : (es : List ℕ) (byte : ℕ) (rest : List ℕ) → open_entries (es ++ byte ∷ []) ++ rest ≡ open_entries es ++ 0xc3 ∷ byte ∷ rest
open_entries-push [] byte rest = refl
open_entries-push (e ∷ es) byte rest = ap (λ (l : List ℕ). 0xc3 ∷ e ∷ l) (open_entries-push es byte rest)

-- after a closed gate nothing counts
entries_of-closed : (es rest : List ℕ) → entries_of (open_entries es ++ 0 ∷ rest) ≡ es
entries_of-closed [] [] = refl
entries_of-closed [] (r ∷ rest) = refl
entries_of-closed (e ∷ es) rest = ap (λ (l : List ℕ). e ∷ l) (entries_of-closed es rest)

pub entries_of-log_of : (es : List ℕ) → entries_of (log_of es) ≡ es
entries_of-log_of es = entries_of-closed es []

entries_of-gate : (es : List ℕ) (gate byte : ℕ) → (entries_of (open_entries es ++ gate ∷ byte ∷ 0 ∷ []) ≡ es) ⊎ (entries_of (open_entries es ++ gate ∷ byte ∷ 0 ∷ []) ≡ es ++ byte ∷ [])
entries_of-gate [] gate byte = by_test (gate == 0xc3)
  where
    by_test : (b : Bool) → ((if b then byte ∷ [] else []) ≡ []) ⊎ ((if b then byte ∷ [] else []) ≡ byte ∷ [])
    by_test true = inr refl
    by_test false = inl refl
entries_of-gate (e ∷ es) gate byte = elim (entries_of-gate es gate byte) [ inl none ↦ inl (ap (λ (l : List ℕ). e ∷ l) none) | inr one ↦ inr (ap (λ (l : List ℕ). e ∷ l) one) ]

-- the log with an entry after its closed gate
abbrev pub staged : List ℕ → ℕ → List ℕ
staged es byte = open_entries es ++ 0 ∷ byte ∷ 0 ∷ []

module _ (es : List ℕ) (count byte : ℕ) (counted : count ≡ length es) where
  front : length (open_entries es) ≡ 2 * count
  front = omega (arith, length-open_entries es)

  pub length-log : length (log_of es) ≡ 2 * count + 1
  length-log = omega (arith, front, length-append (open_entries es) (0 ∷ []))

  staged_is : staged es byte ≡ log_of es ++ byte ∷ 0 ∷ []
  staged_is = sym (append_assoc (open_entries es) (0 ∷ []) (byte ∷ 0 ∷ []))

  pub length-staged : length (staged es byte) ≡ 2 * count + 3
  length-staged = omega (arith, front, length-append (open_entries es) (0 ∷ byte ∷ 0 ∷ []))

  pub put_behind : put (log_of es) (2 * count + 1) (byte ∷ 0 ∷ []) ≡ staged es byte
  put_behind = put_end (log_of es) (byte ∷ 0 ∷ []) (2 * count + 1) (sym length-log) ∙ sym staged_is

  staged_front : take (2 * count) (staged es byte) ≡ open_entries es
  staged_front = take_at (open_entries es) (0 ∷ byte ∷ 0 ∷ []) (2 * count) front

  staged_back : drop (2 * count + 1) (staged es byte) ≡ byte ∷ 0 ∷ []
  staged_back = ap (λ (l : List ℕ). drop (2 * count + 1) l) staged_is ∙ drop_at (log_of es) (byte ∷ 0 ∷ []) (2 * count + 1) length-log

  pub put_gate : put (staged es byte) (2 * count) (0xc3 ∷ []) ≡ log_of (es ++ byte ∷ [])
  put_gate =
      put_within (staged es byte) (0xc3 ∷ []) (2 * count) (omega (arith, length-staged))
      ∙ ap (λ (l : List ℕ). l ++ (0xc3 ∷ []) ++ drop (2 * count + 1) (staged es byte)) staged_front
      ∙ ap (λ (l : List ℕ). open_entries es ++ (0xc3 ∷ []) ++ l) staged_back
      ∙ append_assoc (open_entries es) (0xc3 ∷ []) (byte ∷ 0 ∷ [])
      ∙ sym (open_entries-push es byte (0 ∷ []))

  -- the closed gate is in whatever the first write leaves
  pub left_behind : (seen c : List ℕ) → Leaves (after_write (at_rest (log_of es)) (2 * count + 1) (byte ∷ 0 ∷ []) seen) c → entries_of c ≡ es
  left_behind seen c left =
      let kept : take (2 * count + 1) c ≡ log_of es
      = front_kept (log_of es) (byte ∷ 0 ∷ []) seen c (2 * count + 1) left (omega (arith, length-log)) ∙ take_all (2 * count + 1) (log_of es) (omega (arith, length-log)) in
      let whole : c ≡ open_entries es ++ 0 ∷ drop (2 * count + 1) c
      = sym (take-append-drop (2 * count + 1) c) ∙ ap (λ (l : List ℕ). l ++ drop (2 * count + 1) c) kept ∙ append_assoc (open_entries es) (0 ∷ []) (drop (2 * count + 1) c) in
      ap entries_of whole ∙ entries_of-closed es (drop (2 * count + 1) c)

  -- the entry is whole in whatever the second write leaves
  pub left_gate : (seen c : List ℕ) → Leaves (after_write (at_rest (staged es byte)) (2 * count) (0xc3 ∷ []) seen) c → (entries_of c ≡ es) ⊎ (entries_of c ≡ es ++ byte ∷ [])
  left_gate seen c left =
      let gate = get_or c (2 * count) 0 in
      let inside : 2 * count + 1 ≤ length (staged es byte) = omega (arith, length-staged) in
      let long : length c ≡ 2 * count + 3 = same_length (staged es byte) (0xc3 ∷ []) seen c (2 * count) left inside ∙ length-staged in
      let before : take (2 * count) c ≡ open_entries es = front_kept (staged es byte) (0xc3 ∷ []) seen c (2 * count) left (omega arith) ∙ staged_front in
      let behind : drop (2 * count + 1) c ≡ byte ∷ 0 ∷ [] = back_kept (staged es byte) (0xc3 ∷ []) seen c (2 * count) left inside ∙ staged_back in
      let rest : drop (2 * count) c ≡ gate ∷ byte ∷ 0 ∷ [] = drop_more c (2 * count) 0 (omega arith) ∙ ap (λ (l : List ℕ). gate ∷ l) behind in
      let whole : c ≡ open_entries es ++ gate ∷ byte ∷ 0 ∷ [] = sym (take-append-drop (2 * count) c) ∙ ap (λ (l : List ℕ). l ++ drop (2 * count) c) before ∙ ap (λ (l : List ℕ). open_entries es ++ l) rest in
      subst (λ (l : List ℕ). (entries_of l ≡ es) ⊎ (entries_of l ≡ es ++ byte ∷ [])) (sym whole) (entries_of-gate es gate byte)
