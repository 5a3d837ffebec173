-- What a printer of a salvage did.
use Rattle.std.proofs.Common.{◌≡◌, ℕ, Bool, true, false, ◌||◌, ap, List, [], ◌∷◌, ◌++◌, Option, refl, sym, subst, ◌∙◌}
use Rattle.std.specs.Io.KnownBytes.{Appends}
use Rattle.std.proofs.lemmas.List.Concat.{flat_map-append}
use Rattle.reply_lines.proofs.Written.{appends_both, appends_nothing}
use Rattle.key_walk.specs.KeyRows.{NamedRow}
use Rattle.hive_salvage.specs.Events.{Event, found, lost}
use Rattle.salvage_report.specs.declared.totals.Totals.{Totals}
use Rattle.salvage_report.specs.Told.{Asked, is_among, is_asked, line_told, lines_told, row_shown, rows_shown, totals_after, totals_with}

-- of what was told the keys that are asked for were taken, the lines of losses written, and both counted; printer, writer and
-- what is asked for stay
abbrev pub Printed : {S N M : Type 0} → (S → S → List NamedRow → Type 0) → S → S → N → N → Option (List ℕ) → Option (List ℕ) → M → M → Asked → Asked → Totals → Totals → List Event → Type 0
Printed Took old new keys same before after losses still asked kept totals now events =
    Took old new (rows_shown asked events) × (same ≡ keys) × Appends before after (lines_told asked events) × (still ≡ losses) × (kept ≡ asked) × (now ≡ totals_after asked totals events)

pub printed_none : {S N M : Type 0} (Took : S → S → List NamedRow → Type 0) → ((s : S) → Took s s []) → (s : S) (keys : N) (known : Option (List ℕ)) (losses : M) (asked : Asked) (totals : Totals) → Printed Took s s keys keys known known losses losses asked asked totals totals []
printed_none Took none s keys known losses asked totals = (none s, refl, appends_nothing known, refl, refl, refl)

-- totals of some events, and then of others
totals_both : (asked : Asked) (totals : Totals) (front rest : List Event) → totals_after asked (totals_after asked totals front) rest ≡ totals_after asked totals (front ++ rest)
totals_both asked totals [] rest = refl
totals_both asked totals (event ∷ front) rest = totals_both asked (totals_with asked totals event) front rest

pub printed_more : {S N M : Type 0} (Took : S → S → List NamedRow → Type 0) → ((a b c : S) (front rest : List NamedRow) → Took a b front → Took b c rest → Took a c (front ++ rest)) →
    (a b c : S) (keys same end : N) (x y z : Option (List ℕ)) (losses still last : M) (asked kept ends : Asked) (t s r : Totals) (front rest : List Event) →
    Printed Took a b keys same x y losses still asked kept t s front → Printed Took b c same end y z still last kept ends s r rest → Printed Took a c keys end x z losses last asked ends t r (front ++ rest)
printed_more Took more a b c keys same end x y z losses still last asked kept ends t s r front rest one two = (
  subst (Took a c) (sym (flat_map-append (row_shown asked) front rest)) (more a b c (rows_shown asked front) (rows_shown asked rest) one.0 (subst (λ (k : Asked). Took b c (rows_shown k rest)) one.4 two.0)),
  two.1 ∙ one.1,
  appends_both x y z (lines_told asked front) (lines_told asked rest) (lines_told asked (front ++ rest)) one.2 (subst (λ (k : Asked). Appends y z (lines_told k rest)) one.4 two.2) (sym (flat_map-append (line_told asked) front rest)),
  two.3 ∙ one.3,
  two.4 ∙ one.4,
  two.5 ∙ (λ i. totals_after (one.4 i) (one.5 i) rest) ∙ totals_both asked t front rest,
)

-- it is noted whether a key that is asked for was among what was told
abbrev pub Sought : List (List ℕ) → List (List ℕ) → Bool → Bool → List Event → Type 0
Sought path same before after events = (same ≡ path) × (after ≡ (before || is_among path events))

or_none : (b : Bool) → b ≡ (b || false)
or_none true = refl
or_none false = refl

or_turned : (a b c : Bool) → (a || (b || c)) ≡ ((a || b) || c)
or_turned true b c = refl
or_turned false b c = refl

among_both : (path : List (List ℕ)) (front rest : List Event) → is_among path (front ++ rest) ≡ (is_among path front || is_among path rest)
among_both path [] rest = refl
among_both path (found key ∷ front) rest = ap (λ b. is_asked path key.0 || b) (among_both path front rest) ∙ or_turned (is_asked path key.0) (is_among path front) (is_among path rest)
among_both path (lost names loss ∷ front) rest = among_both path front rest

pub sought_none : (path : List (List ℕ)) (b : Bool) → Sought path path b b []
sought_none path b = (refl, or_none b)

pub sought_more : (path same last : List (List ℕ)) (a b c : Bool) (front rest : List Event) → Sought path same a b front → Sought same last b c rest → Sought path last a c (front ++ rest)
sought_more path same last a b c front rest one two = (
  two.0 ∙ one.0,
  two.1 ∙ (λ i. one.1 i || is_among (one.0 i) rest) ∙ sym (or_turned a (is_among path front) (is_among path rest)) ∙ ap (λ b. a || b) (sym (among_both path front rest)),
)
