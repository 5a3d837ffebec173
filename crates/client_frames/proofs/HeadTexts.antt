-- The texts of heads.
use Rattle.std.proofs.Common.{◌≡◌, ◌≢◌, ℕ, ◌<◌, ◌≤◌, ◌==◌, true, List, ◌∷◌, ◌++◌, length, get_or, replicate, refl, sym, ◌∙◌, ap, subst, arith}
use Rattle.std.specs.Prelude.{codes, not, Option, Some, None, MatchOption}
use Rattle.std.specs.Fmt.{decimal}
use Rattle.std.specs.List.{list_all}
use Rattle.std.proofs.lemmas.Fmt.{length-decimal-le, decimal_injective}
use Rattle.std.proofs.lemmas.List.{append_assoc, length-append, length-replicate}
use Rattle.client_frames.specs.Frames.{IsFrame, head_of, payload}
use Rattle.client_frames.specs.Heads.{IsFrameHead, IsPieceLength, IsNoHead, IsNoNumber, IsNoDataHead, IsDataHead, IsHeadOf, IsOtherWord, Lacks, head_text}
use Rattle.client_frames.specs.declared.frame.Frame.{Frame}
use Rattle.client_frames.specs.declared.frame.Frame.TheVariants as frame
use Rattle.client_frames.specs.declared.head.Head.{Head}
use Rattle.client_frames.specs.declared.head.Head.TheVariants.{Ready, Open, Data, More, End, Gone}
use Rattle.client_frames.specs.declared.head.TheConstants.{LONGEST_HEAD}
use Rattle.client_frames.specs.declared.place.TheConstants.{LAST_PLACE}
use Rattle.client_frames.proofs.Cuts.{cut_once, lacks_append, lacks_none, lacks_by_test}
use Rattle.client_frames.proofs.Numbers.{lacks_decimal}

-- the word of a frame of bytes, and what follows it
pub data_text : (place count : ℕ) → head_text (Data place count) ≡ codes "data" ++ 32 ∷ (decimal place ++ 32 ∷ decimal count)
data_text place count = ap (λ (l : List ℕ). codes "data " ++ l) (append_assoc (decimal place) (codes " ") (decimal count))

-- a place and a count are those of a frame
pub frame_of : (place count : ℕ) → place ≤ LAST_PLACE → IsPieceLength count → (f : Frame) × IsFrame f × (head_of f ≡ Data place count) × (length (payload f) ≡ count)
frame_of place count p c =
    let long : length (replicate count 0) ≡ count = length-replicate count 0 in
    (frame.Data place (replicate count 0), (p, subst IsPieceLength (sym long) c), ap (Data place) long, long)

module _ (place : ℕ) (p : place ≤ LAST_PLACE) where
  lacks_place : (x : ℕ) → x < 48 → Lacks x (decimal place)
  lacks_place x low = lacks_decimal x place low (omega (arith, p))

  short_place : length (decimal place) ≤ 2
  short_place = length-decimal-le 2 place (omega arith) (omega (arith, p)) (omega (arith, p))

  word_lacks : (word : List ℕ) → Lacks 10 word → Lacks 10 (word ++ decimal place)
  word_lacks word l = lacks_append 10 word (decimal place) l (lacks_place 10 (omega arith))

lacks_count : (x count : ℕ) → x < 48 → IsPieceLength count → Lacks x (decimal count)
lacks_count x count low c = lacks_decimal x count low (omega (arith, c.1))

-- no head has a line feed
pub head_lacks : (h : Head) → IsFrameHead h → Lacks 10 (head_text h)
head_lacks Ready is = lacks_by_test 10 (codes "ready") refl
head_lacks (Open place) is = word_lacks place is (codes "open ") (lacks_by_test 10 (codes "open ") refl)
head_lacks (Data place count) is =
    subst (Lacks 10) (sym (data_text place count)) (lacks_append 10 (codes "data ") (decimal place ++ 32 ∷ decimal count) (lacks_by_test 10 (codes "data ") refl)
    (lacks_append 10 (decimal place) (32 ∷ decimal count) (lacks_place place is.0 10 (omega arith)) ((λ e. omega (arith, e)), lacks_count 10 count (omega arith) is.1)))
head_lacks (More place) is = word_lacks place is (codes "more ") (lacks_by_test 10 (codes "more ") refl)
head_lacks (End place) is = word_lacks place is (codes "end ") (lacks_by_test 10 (codes "end ") refl)
head_lacks (Gone place) is = word_lacks place is (codes "gone ") (lacks_by_test 10 (codes "gone ") refl)

-- and none is longer than the longest
pub head_short : (h : Head) → IsFrameHead h → length (head_text h) ≤ LONGEST_HEAD
head_short Ready is = omega arith
head_short (Open place) is = omega (arith, length-append (codes "open ") (decimal place), short_place place is)
head_short (Data place count) is =
    omega (arith, ap length (data_text place count), length-append (codes "data ") (decimal place ++ 32 ∷ decimal count), length-append (decimal place) (32 ∷ decimal count), short_place place is.0, length-decimal-le 5 count (omega arith) (omega (arith, is.1.1)) (omega (arith, is.1.1)))
head_short (More place) is = omega (arith, length-append (codes "more ") (decimal place), short_place place is)
head_short (End place) is = omega (arith, length-append (codes "end ") (decimal place), short_place place is)
head_short (Gone place) is = omega (arith, length-append (codes "gone ") (decimal place), short_place place is)

-- the word of a text, and what follows it
word_of : (text word rest name tail : List ℕ) → Lacks 32 word → list_all (λ b. not (b == 32)) name ≡ true → text ≡ word ++ 32 ∷ rest → text ≡ name ++ 32 ∷ tail → (word ≡ name) × (rest ≡ tail)
word_of text word rest name tail l plain is e = cut_once 32 word rest name tail l (lacks_by_test 32 name plain) (sym is ∙ e)

-- a text is no head if what follows its word is not what follows the word of one
pub no_rest : (text word rest : List ℕ) → Lacks 32 word → text ≡ word ++ 32 ∷ rest → (word ≡ codes "data" → IsNoDataHead rest) → ((place : ℕ) → place ≤ LAST_PLACE → rest ≡ decimal place → IsOtherWord word) → IsNoHead text
no_rest text word rest l is none other Ready ok e = lacks_none 32 word rest (subst (Lacks 32) (sym e ∙ is) (lacks_by_test 32 (codes "ready") refl))
no_rest text word rest l is none other (Open place) ok e = let cut = word_of text word rest (codes "open") (decimal place) l refl is e in (other place ok cut.1).opens cut.0
no_rest text word rest l is none other (Data place count) ok e =
    let cut = word_of text word rest (codes "data") (decimal place ++ 32 ∷ decimal count) l refl is (e ∙ data_text place count) in
    none cut.0 place count ok.0 ok.1 cut.1
no_rest text word rest l is none other (More place) ok e = let cut = word_of text word rest (codes "more") (decimal place) l refl is e in (other place ok cut.1).asks cut.0
no_rest text word rest l is none other (End place) ok e = let cut = word_of text word rest (codes "end") (decimal place) l refl is e in (other place ok cut.1).ends cut.0
no_rest text word rest l is none other (Gone place) ok e = let cut = word_of text word rest (codes "gone") (decimal place) l refl is e in (other place ok cut.1).goes cut.0

-- the word of a frame of bytes is no other
data_is_none : (word : List ℕ) → word ≡ codes "data" → IsOtherWord word
data_is_none word same = record {
  opens = λ e. omega (arith, ap (λ (l : List ℕ). get_or l 0 0) (sym same ∙ e));
  asks = λ e. omega (arith, ap (λ (l : List ℕ). get_or l 0 0) (sym same ∙ e));
  ends = λ e. omega (arith, ap (λ (l : List ℕ). get_or l 0 0) (sym same ∙ e));
  goes = λ e. omega (arith, ap (λ (l : List ℕ). get_or l 0 0) (sym same ∙ e));
}

-- a word and a place are the text of their head
pub word_head : (h : Head) (text word : List ℕ) (place : ℕ) → place ≤ LAST_PLACE → text ≡ word ++ 32 ∷ decimal place → IsHeadOf h word place → IsFrameHead h × (text ≡ head_text h)
word_head Ready text word place ok is of = absurd of
word_head (Open p) text word place ok is of = (subst (λ n. n ≤ LAST_PLACE) (sym of.1) ok, is ∙ ap (λ (l : List ℕ). l ++ 32 ∷ decimal place) of.0 ∙ ap (λ n. codes "open " ++ decimal n) (sym of.1))
word_head (Data p count) text word place ok is of = absurd of
word_head (More p) text word place ok is of = (subst (λ n. n ≤ LAST_PLACE) (sym of.1) ok, is ∙ ap (λ (l : List ℕ). l ++ 32 ∷ decimal place) of.0 ∙ ap (λ n. codes "more " ++ decimal n) (sym of.1))
word_head (End p) text word place ok is of = (subst (λ n. n ≤ LAST_PLACE) (sym of.1) ok, is ∙ ap (λ (l : List ℕ). l ++ 32 ∷ decimal place) of.0 ∙ ap (λ n. codes "end " ++ decimal n) (sym of.1))
word_head (Gone p) text word place ok is of = (subst (λ n. n ≤ LAST_PLACE) (sym of.1) ok, is ∙ ap (λ (l : List ℕ). l ++ 32 ∷ decimal place) of.0 ∙ ap (λ n. codes "gone " ++ decimal n) (sym of.1))

-- a place and a count are the text of their head
pub data_word_head : (h : Head) (text rest : List ℕ) → text ≡ codes "data" ++ 32 ∷ rest → IsDataHead rest h → IsFrameHead h × (text ≡ head_text h)
data_word_head h text rest is (place, count, p, c, e, same) =
    subst (λ (k : Head). IsFrameHead k × (text ≡ head_text k)) (sym e) ((p, c), is ∙ ap (λ (l : List ℕ). codes "data" ++ 32 ∷ l) same ∙ sym (data_text place count))

-- what has no blank, or what isn't a place before it or a count after it, is no place and count
pub no_cut : (text : List ℕ) → Lacks 32 text → IsNoDataHead text
no_cut text l place count p c e = lacks_none 32 (decimal place) (decimal count) (subst (Lacks 32) e l)

pub no_numbers : (text front back : List ℕ) → Lacks 32 front → text ≡ front ++ 32 ∷ back → ((place count : ℕ) → place ≤ LAST_PLACE → IsPieceLength count → front ≡ decimal place → back ≢ decimal count) → IsNoDataHead text
no_numbers text front back l is none place count p c e =
    let cut = cut_once 32 front back (decimal place) (decimal count) l (lacks_place place p 32 (omega arith)) (sym is ∙ e) in
    none place count p c cut.0 cut.1

-- what is read of a text by its word and what follows it
pub data_result : (r : Option Head) (text word rest : List ℕ) → Lacks 32 word → text ≡ word ++ 32 ∷ rest → word ≡ codes "data" → MatchOption r (IsNoDataHead rest) (IsDataHead rest) → MatchOption r (IsNoHead text) (λ h. IsFrameHead h × (text ≡ head_text h))
data_result None text word rest l is same none = no_rest text word rest l is (λ d. none) (λ p fits e. data_is_none word same)
data_result (Some h) text word rest l is same of = data_word_head h text rest (is ∙ ap (λ (w : List ℕ). w ++ 32 ∷ rest) same) of

pub no_place : (text word rest : List ℕ) → Lacks 32 word → text ≡ word ++ 32 ∷ rest → word ≢ codes "data" → IsNoNumber LAST_PLACE rest → IsNoHead text
no_place text word rest l is other none = no_rest text word rest l is (λ d. absurd (other d)) (λ place ok e. absurd (none place ok e))

pub word_result : (r : Option Head) (text word rest : List ℕ) (place : ℕ) → Lacks 32 word → text ≡ word ++ 32 ∷ rest → word ≢ codes "data" → place ≤ LAST_PLACE → rest ≡ decimal place → MatchOption r (IsOtherWord word) (λ h. IsHeadOf h word place) → MatchOption r (IsNoHead text) (λ h. IsFrameHead h × (text ≡ head_text h))
word_result None text word rest place l is other ok e none = no_rest text word rest l is (λ d. absurd (other d)) (λ p fits same. none)
word_result (Some h) text word rest place l is other ok e of = word_head h text word place ok (is ∙ ap (λ (w : List ℕ). word ++ 32 ∷ w) e) of

-- a count of 0 is none
pub no_count : (back : List ℕ) (count : ℕ) → back ≡ decimal count → count ≡ 0 → (other : ℕ) → IsPieceLength other → back ≢ decimal other
no_count back count is zero other c e =
    let same : count ≡ other = decimal_injective count other (omega (arith, zero)) (omega (arith, c.1)) (sym is ∙ e) in
    omega (arith, same, zero, c.0)
