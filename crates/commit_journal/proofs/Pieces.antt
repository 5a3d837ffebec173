-- A part of a file, after what was read of it.
use Rattle.std.proofs.Common.{◌≡◌, inl, inr, ⊎_elim, ℕ, ◌+◌, ◌-◌, ◌≤◌, List, ◌++◌, length, take, drop, Result, Ok, Err, sym, ◌∙◌, ap, append_assoc, take-append-drop, arith, length-take, length-drop}
use Rattle.std.specs.Prelude.{MatchResult, IfOk, IfErr}
use Rattle.refusals.specs.Answers.{RefusedFor}
use Rattle.refusals.specs.declared.refusal.Refusal.{Refusal}
use Rattle.refusals.specs.declared.refusal.Refusal.TheVariants.{JournalDamaged}
use Rattle.commit_journal.specs.ReadBuffers.{FailsBy, held, rest_of}
use Rattle.commit_journal.specs.declared.buffer.ReadBuffer.{ReadBuffer}
use Rattle.std.proofs.lemmas.List.{take-append-le, drop-append-le, drop-drop, drop-take, take-take}
use Rattle.std.proofs.Math.Seq.{take-add}

cut_front : (k n : ℕ) (l : List ℕ) → k ≤ n → drop k (take n l) ≡ take (n - k) (drop k l)
cut_front k n l le = let e : n ≡ k + (n - k) = omega (arith, le) in ap (λ (m : ℕ). drop k (take m l)) e ∙ drop-take k (n - k) l

-- how many bytes are in memory
pub part_length : (start end : ℕ) (l : List ℕ) → start ≤ end → end ≤ length l → length (take (end - start) (drop start l)) ≡ end - start
part_length start end l low high = omega (arith, length-take (end - start) (drop start l), length-drop start l, low, high)

-- some are taken
pub part_on : (start end count : ℕ) (l : List ℕ) → start + count ≤ end → take (end - (start + count)) (drop (start + count) l) ≡ drop count (take (end - start) (drop start l))
part_on start end count l le =
    ap (λ (k : ℕ). take (end - (start + count)) (drop k l)) (omega arith) ∙ ap (take (end - (start + count))) (sym (drop-drop count start l))
    ∙ ap (λ (k : ℕ). take k (drop count (drop start l))) (omega (arith, le)) ∙ sym (cut_front count (end - start) (drop start l) (omega (arith, le)))

-- some are read behind them
pub piece_on : (file old new : List ℕ) (start end at came count : ℕ) → start ≤ end → end ≤ length old → take end new ≡ take end old → take came (drop end new) ≡ take came (drop at file) → count ≤ came
    → take (end + count - start) (drop start new) ++ drop (at + count) file ≡ take (end - start) (drop start old) ++ drop at file
piece_on file old new start end at came count low high front read few =
    let partial_body : take count (drop end new) ≡ take count (drop at file) = sym (take-take count came (drop end new) few) ∙ ap (take count) read ∙ take-take count came (drop at file) few in
    let more : take (end + count - start) (drop start new) ≡ take (end - start) (drop start old) ++ take count (drop at file)
    = sym (cut_front start (end + count) new (omega (arith, low))) ∙ ap (drop start) (take-add end count new ∙ ap (λ (l : List ℕ). l ++ take count (drop end new)) front ∙ ap (λ (l : List ℕ). take end old ++ l) partial_body)
    ∙ drop-append-le start (take end old) (take count (drop at file)) (omega (arith, low, high, length-take end old)) ∙ ap (λ (l : List ℕ). l ++ take count (drop at file)) (cut_front start end old low) in
    ap (λ (l : List ℕ). l ++ drop (at + count) file) more
    ∙ append_assoc (take (end - start) (drop start old)) (take count (drop at file)) (drop (at + count) file)
    ∙ ap (λ (l : List ℕ). take (end - start) (drop start old) ++ (take count (drop at file) ++ l)) (ap (λ (k : ℕ). drop k file) (omega arith) ∙ sym (drop-drop count at file))
    ∙ ap (λ (l : List ℕ). take (end - start) (drop start old) ++ l) (take-append-drop count (drop at file))

pub fails_on : (F F' D D' : Type 0) (why : Refusal) → (F → F') → (D → D') → FailsBy F D why → FailsBy F' D' why
fails_on F F' D D' why f d by = ⊎_elim (λ none. inl none) (λ other. inr (⊎_elim (λ fault. inl (fault.0, f fault.1)) (λ damaged. inr (damaged.0, d damaged.1)) other)) by

-- a refusal of what was handed in, as one of the file
pub fails_of : (F D D' : Type 0) (why : Refusal) → (D → D') → RefusedFor JournalDamaged D why → FailsBy F D' why
fails_of F D D' why d by = ⊎_elim (λ damaged. inr (inr (damaged.0, d damaged.1))) (λ none. inl none) by

-- what an answer says of its value, and of its refusal
pub value_of : {X : Type 0} (r : Result X Refusal) (P Q : X → Type 0) (R : Refusal → Type 0) → ((x : X) → P x → Q x) → MatchResult r P R → IfOk r Q
value_of (Ok x) P Q R f said = f x said
value_of (Err why) P Q R f said = tt

pub refusal_of : {X : Type 0} (r : Result X Refusal) (P : X → Type 0) (F D D' : Type 0) → (D → D') → MatchResult r P (RefusedFor JournalDamaged D) → IfErr r (FailsBy F D')
refusal_of (Ok x) P F D D' d said = tt
refusal_of (Err why) P F D D' d said = fails_of F D D' why d said

pub front_there : (file : List ℕ) (w : ReadBuffer) → rest_of file w ≡ file → 64 ≤ length (held w) → take 64 (held w) ≡ take 64 file
front_there file w rest long = sym (take-append-le 64 (held w) (drop w.at file) long) ∙ ap (take 64) rest

pub behind_there : (file : List ℕ) (w skipped : ReadBuffer) → rest_of file w ≡ file → 64 ≤ length (held w) → held skipped ≡ drop 64 (held w) → skipped.at ≡ w.at → rest_of file skipped ≡ drop 64 file
behind_there file w skipped rest long held_is at_is =
    ap (λ (l : List ℕ). l ++ drop skipped.at file) held_is ∙ ap (λ (n : ℕ). drop 64 (held w) ++ drop n file) at_is ∙ sym (drop-append-le 64 (held w) (drop w.at file) long) ∙ ap (drop 64) rest
