-- Blanks at the beginning and at the end of a line, by the grammar and as they are scanned.
use Rattle.std.proofs.Common.{◌≡◌, ◌≢◌, ℕ, ◌==◌, Bool, true, false, cond, List, [], ◌∷◌, ◌++◌, Option, Some, None, refl, sym, ◌∙◌, ap, inl, inr}
use Rattle.std.specs.Prelude.{◌⊎◌, ◌||◌}
use Rattle.std.proofs.lemmas.Bool.Decides.{Decides-eqb}
use Rattle.std.proofs.lemmas.List.{append-nil}
use Rattle.reg_file.specs.Scanning.{is_blank, skip_blanks, is_end, ends_line, is_tail, ends_statement, strip}
use Rattle.reg_file.specs.Grammar.{AreBlanks, IsLineEnd, IsTail}
use Rattle.reg_file.proofs.Scans.{other_than}

-- a fact for each way that a test may go
pub by_test : {A : Type 0} (P : A → Type 0) (test : Bool) (x y : A) → (test ≡ true → P x) → (test ≡ false → P y) → P (cond test x y)
by_test P true x y h k = h refl
by_test P false x y h k = k refl

pub same_unit : (a b : ℕ) → (a == b) ≡ true → a ≡ b
same_unit a b h = (Decides-eqb a b).0 h

pub true_is_not_false : (test : Bool) → test ≡ true → test ≡ false → ⊥
true_is_not_false test h k = bad (sym h ∙ k)
  where
    bad : true ≡ false → ⊥
    bad e = cc

pub is_or_not : (test : Bool) → (test ≡ true) ⊎ (test ≡ false)
is_or_not true = inl refl
is_or_not false = inr refl

-- blanks are skipped
pub blanks_skipped : (blanks rest : List ℕ) → AreBlanks blanks → skip_blanks (blanks ++ rest) ≡ skip_blanks rest
blanks_skipped [] rest h = refl
blanks_skipped (unit ∷ units) rest h = ap (λ test. cond test (skip_blanks (units ++ rest)) (unit ∷ (units ++ rest))) h.0 ∙ blanks_skipped units rest h.1

pub stays : (unit : ℕ) (rest : List ℕ) → is_blank unit ≡ false → skip_blanks (unit ∷ rest) ≡ unit ∷ rest
stays unit rest h = ap (λ test. cond test (skip_blanks rest) (unit ∷ rest)) h

pub skipped_to : (blanks : List ℕ) (unit : ℕ) (rest : List ℕ) → AreBlanks blanks → is_blank unit ≡ false → skip_blanks (blanks ++ unit ∷ rest) ≡ unit ∷ rest
skipped_to blanks unit rest h k = blanks_skipped blanks (unit ∷ rest) h ∙ stays unit rest k

-- and what is skipped are blanks
pub record Skips (line rest : List ℕ) : Type 0 where
  pub blanks : List ℕ
  pub are_blanks : AreBlanks blanks
  pub parsed : line ≡ blanks ++ rest

one_skipped : (unit : ℕ) (units rest : List ℕ) → is_blank unit ≡ true → Skips units rest → Skips (unit ∷ units) rest
one_skipped unit units rest h s = record { blanks = unit ∷ s.blanks; are_blanks = (h, s.are_blanks); parsed = ap (λ xs. unit ∷ xs) s.parsed }

pub none_skipped : (line : List ℕ) → Skips line line
none_skipped line = record { blanks = []; are_blanks = tt; parsed = refl }

pub skips : (line : List ℕ) → Skips line (skip_blanks line)
skips [] = none_skipped []
skips (unit ∷ units) = by_test (Skips (unit ∷ units)) (is_blank unit) (skip_blanks units) (unit ∷ units) (λ h. one_skipped unit units (skip_blanks units) h (skips units)) (λ h. none_skipped (unit ∷ units))

-- the end of a line
pub line_ends : (end : List ℕ) → IsLineEnd end → ends_line end ≡ true
line_ends end e = elim e.parsed [
  | inl only ↦ ap ends_line (only ∙ sym (append-nil e.blanks)) ∙ ap is_end (blanks_skipped e.blanks [] e.are_blanks)
  | inr return ↦ ap ends_line return ∙ ap is_end (blanks_skipped e.blanks (13 ∷ []) e.are_blanks)
]

end_is : (units : List ℕ) → is_end units ≡ true → (units ≡ []) ⊎ (units ≡ 13 ∷ [])
end_is [] h = inl refl
end_is (unit ∷ []) h = inr (ap (λ u. u ∷ []) (same_unit unit 13 h))
end_is (unit ∷ other ∷ units) h = absurd (bad h)
  where
    bad : false ≡ true → ⊥
    bad e = cc

pub ends : (units : List ℕ) → ends_line units ≡ true → IsLineEnd units
ends units h =
    let s = skips units in
    elim (end_is (skip_blanks units) h) [
      | inl only ↦ record { blanks = s.blanks; are_blanks = s.are_blanks; parsed = inl (s.parsed ∙ ap (λ rest. s.blanks ++ rest) only ∙ append-nil s.blanks) }
      | inr return ↦ record { blanks = s.blanks; are_blanks = s.are_blanks; parsed = inr (s.parsed ∙ ap (λ rest. s.blanks ++ rest) return) }
    ]

-- what may stand behind a statement
or_true : (test : Bool) → (test || true) ≡ true
or_true true = refl
or_true false = refl

end_is_tail : (units : List ℕ) → is_end units ≡ true → is_tail units ≡ true
end_is_tail [] h = refl
end_is_tail (unit ∷ units) h = ap (λ test. (unit == 59) || test) h ∙ or_true (unit == 59)

pub tail_ends : (tail : List ℕ) → IsTail tail → ends_statement tail ≡ true
tail_ends tail (inl ended) = end_is_tail (skip_blanks tail) (line_ends tail ended)
tail_ends tail (inr (blanks, rest, e, h)) = ap ends_statement e ∙ ap is_tail (skipped_to blanks 59 rest h refl)

pub tails : (units : List ℕ) → ends_statement units ≡ true → IsTail units
tails units h = at_word (skip_blanks units) (skips units) refl h
  where
    at_word : (word : List ℕ) → Skips units word → skip_blanks units ≡ word → is_tail word ≡ true → IsTail units
    at_word [] s e k = inl (ends units (ap is_end e))
    at_word (unit ∷ rest) s e k = elim (is_or_not (unit == 59)) [
      | inl remark ↦ inr (s.blanks, rest, s.parsed ∙ ap (λ u. s.blanks ++ u ∷ rest) (same_unit unit 59 remark), s.are_blanks)
      | inr other ↦ inl (ends units (ap is_end e ∙ sym (ap (λ test. test || is_end (unit ∷ rest)) other) ∙ k))
    ]

-- what begins with another unit is neither the end of a line nor a remark
pub not_end : (unit : ℕ) (rest : List ℕ) → unit ≢ 13 → is_end (unit ∷ rest) ≡ false
not_end unit [] h = other_than unit 13 h
not_end unit (other ∷ rest) h = refl

pub not_tail : (unit : ℕ) (rest : List ℕ) → unit ≢ 13 → unit ≢ 59 → is_tail (unit ∷ rest) ≡ false
not_tail unit rest h k = ap (λ test. test || is_end (unit ∷ rest)) (other_than unit 59 k) ∙ not_end unit rest h

-- a text that stands as it is
pub stripped : (text rest : List ℕ) → strip text (text ++ rest) ≡ Some rest
stripped [] rest = refl
stripped (unit ∷ units) rest = ap (λ test. cond test (strip units (units ++ rest)) None) (same unit) ∙ stripped units rest
  where
    same : (u : ℕ) → (u == u) ≡ true
    same u = (Decides-eqb u u).1 refl

pub strips : (text line rest : List ℕ) → strip text line ≡ Some rest → line ≡ text ++ rest
strips [] line rest e = cc
strips (byte ∷ bytes) [] rest e = cc
strips (byte ∷ bytes) (unit ∷ units) rest e = elim (is_or_not (unit == byte)) [
  | inl same ↦
      let more = strips bytes units rest (sym (ap (λ test. cond test (strip bytes units) None) same) ∙ e) in
      ap (λ u. u ∷ units) (same_unit unit byte same) ∙ ap (λ xs. byte ∷ xs) more
  | inr other ↦ absurd (bad (sym (ap (λ test. cond test (strip bytes units) None) other) ∙ e))
]
  where
    bad : ◌≡◌ {A = Option (List ℕ)} None (Some rest) → ⊥
    bad h = cc
