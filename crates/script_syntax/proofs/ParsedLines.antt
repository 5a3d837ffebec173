-- What is parsed of a line's words is what the grammar says.
use Rattle.std.proofs.Common.{◌≡◌, ℕ, ◌-◌, ◌^◌, ◌<◌, ◌≤◌, true, cond, List, [], ◌∷◌, Option, Some, None, refl, sym, ◌∙◌, ap, subst, arith, inl, inr}
use Rattle.std.specs.Prelude.{nat_le, codes}
use Rattle.std.specs.Option.{option_map, option_and_then}
use Rattle.std.specs.Str.{bytes_eq}
use Rattle.std.proofs.lemmas.Option.{none-some, cond_some}
use Rattle.std.proofs.lemmas.Bool.Decides.{nat_tests}
use Rattle.std.proofs.lemmas.Slice.Eq.{bytes_eq-Decides}
use Rattle.refusals.specs.declared.limits.TheConstants.{MOST_HIVES, MOST_HISTORY}
use Rattle.script_syntax.specs.Words.{words, key_ref_of, name_of, number_of, label_of, uuid_of}
use Rattle.script_syntax.specs.Lines.{one_of, two_of, request_with, request_of_words, hives_of, hives_line, history_of, history_line, at_line, alone, begin_line, kept_line, inside_line, label_in, hive_in, call_of, call_in, tear_of, tear_in, key_ref_in, backup_line, follow_line, served_line, device_line, step_line, transaction_line, line_with, line_of_words, line_of}
use Rattle.script_syntax.specs.Grammar.{VerbAndNumber, VerbAndLabel, RequestWords, LabLineWords, ServedLineWords, LineWords, BytesParseTo, tear_word}
use Rattle.script_syntax.specs.declared.line.Request.{Request}
use Rattle.script_syntax.specs.declared.line.Request.TheVariants.{Create, Delete, Set, Unset, Get, Keys, Values, Info}
use Rattle.script_syntax.specs.declared.line.Line.{Line}
use Rattle.script_syntax.specs.declared.line.Line.TheVariants.{Hives, History, At, Session, End, Plain, Begin, Inside, Commit, Rollback, Close, Outcome, Kept, Flush, Fold, Served, Lab}
use Rattle.script_syntax.specs.declared.served_line.ServedLine.{ServedLine}
use Rattle.script_syntax.specs.declared.served_line.ServedLine.TheVariants.{Backup, Follow, Watch, Stats}
use Rattle.script_syntax.specs.declared.lab_line.LabLine.{LabLine}
use Rattle.script_syntax.specs.declared.lab_line.LabLine.TheVariants.{Accept, JournalStep, FlusherStep, TrimStep, FlushWhole, StopAt, FailAt, Crash}
use Rattle.script_syntax.specs.declared.lab_line.CrashTear.{CrashTear}
use Rattle.script_syntax.specs.declared.lab_line.CrashTear.TheVariants.{Old, New, Torn}
use Rattle.word_syntax.proofs.Cuts.{is_or_not}
use Rattle.script_syntax.proofs.ParsedUnits.{map_some, then_some}
use Rattle.script_syntax.proofs.ParsedWords.{read_number, parsed_number, read_place, parsed_place, read_name, parsed_name, read_label, parsed_label}
use Rattle.script_syntax.proofs.ParsedRequests.{read_request, one_word, two_words, first_word, parsed_request, parsed_request_words}

-- words that are these, of which both are known
alike : (said these : List (List ℕ)) → said ≡ these → line_of_words these ≡ option_map (λ r. Plain r) (request_of_words these) → line_of_words said ≡ option_map (λ r. Plain r) (request_of_words said)
alike said these e same = subst (λ ws. line_of_words ws ≡ option_map (λ r. Plain r) (request_of_words ws)) (sym e) same

-- no request's first word is another line's
request_alone : (said : List (List ℕ)) (request : Request) → RequestWords request said → line_of_words said ≡ option_map (λ r. Plain r) (request_of_words said)
request_alone said (Create at) s = alike said _ s.1 refl
request_alone said (Delete at) s = alike said _ s.1 refl
request_alone said (Set at name kind bytes) s = alike said _ s.4 refl
request_alone said (Unset at name) s = alike said _ s.2 refl
request_alone said (Get at name) s = alike said _ s.2 refl
request_alone said (Keys at) s = alike said _ s.1 refl
request_alone said (Values at) s = alike said _ s.1 refl
request_alone said (Info at) s = alike said _ s.1 refl

read_tear : (tear : CrashTear) → tear_of (tear_word tear) ≡ Some tear
read_tear Old = refl
read_tear New = refl
read_tear Torn = refl

-- calls of the device are counted from 1
read_call : (number : List ℕ) (call : ℕ) → number_of (2 ^ 64 - 1) number ≡ Some call → 1 ≤ call → call_in (number ∷ []) ≡ Some call
read_call number call read least =
    let some : nat_le 1 call ≡ true = grind (arith, nat_tests, least) in
    ap (option_and_then call_of) read ∙ ap (λ test. cond test (Some call) None) some

read_lab : (said : List (List ℕ)) (line : LabLine) → LabLineWords line said → line_of_words said ≡ Some (Lab line)
read_lab said (Accept label) (word, e, l) = ap line_of_words e ∙ ap (option_map (λ a. Lab (Accept a))) (read_label word label l)
read_lab said JournalStep e = ap line_of_words e
read_lab said (FlusherStep hive) ((number, e, d), most) = ap line_of_words e ∙ ap (option_map (λ h. Lab (FlusherStep h))) (read_number 255 number hive d most)
read_lab said TrimStep e = ap line_of_words e
read_lab said (FlushWhole hive) ((number, e, d), most) = ap line_of_words e ∙ ap (option_map (λ h. Lab (FlushWhole h))) (read_number 255 number hive d most)
read_lab said (StopAt call) ((number, e, d), least, most) =
    let within : call ≤ 2 ^ 64 - 1 = omega (arith, most) in
    ap line_of_words e ∙ ap (option_map (λ k. Lab (StopAt k))) (read_call number call (read_number (2 ^ 64 - 1) number call d within) least)
read_lab said (FailAt call) ((number, e, d), least, most) =
    let within : call ≤ 2 ^ 64 - 1 = omega (arith, most) in
    ap line_of_words e ∙ ap (option_map (λ k. Lab (FailAt k))) (read_call number call (read_number (2 ^ 64 - 1) number call d within) least)
read_lab said (Crash tear) e = ap line_of_words e ∙ ap (option_map (λ t. Lab (Crash t))) (read_tear tear)

read_served : (said : List (List ℕ)) (line : ServedLine) → ServedLineWords line said → line_of_words said ≡ Some (Served line)
read_served said (Backup name) (word, e, n) = ap line_of_words e ∙ ap (option_map (λ a. Served (Backup a))) (read_name word name n)
read_served said (Follow after) ((number, e, d), most) =
    let within : after ≤ 2 ^ 64 - 1 = omega (arith, most) in
    ap line_of_words e ∙ ap (option_map (λ n. Served (Follow n))) (read_number (2 ^ 64 - 1) number after d within)
read_served said (Watch at) (word, e, p) = ap line_of_words e ∙ ap (option_map (λ a. Served (Watch a))) (read_place word at p)
read_served said Stats e = ap line_of_words e

read_words : (said : List (List ℕ)) (line : Line) → LineWords line said → line_of_words said ≡ Some line
read_words said (Hives count) ((number, e, d), least, most) =
    let some : nat_le 1 count ≡ true = grind (arith, nat_tests, least) in
    ap line_of_words e ∙ ap (option_and_then hives_of) (read_number MOST_HIVES number count d most) ∙ ap (λ test. cond test (Some (Hives count)) None) some
read_words said (History limit) ((number, e, d), least, most) =
    let some : nat_le 1 limit ≡ true = grind (arith, nat_tests, least) in
    ap line_of_words e ∙ ap (option_and_then history_of) (read_number MOST_HISTORY number limit d most) ∙ ap (λ test. cond test (Some (History limit)) None) some
read_words said (At moment) ((number, e, d), most) =
    let within : moment ≤ 2 ^ 64 - 1 = omega (arith, most) in
    ap line_of_words e ∙ ap (option_map (λ n. At n)) (read_number (2 ^ 64 - 1) number moment d within)
read_words said (Session session) ((number, e, d), most) =
    let within : session ≤ 2 ^ 32 - 1 = omega (arith, most) in
    ap line_of_words e ∙ ap (option_map (λ n. Session n)) (read_number (2 ^ 32 - 1) number session d within)
read_words said (End session) ((number, e, d), most) =
    let within : session ≤ 2 ^ 32 - 1 = omega (arith, most) in
    ap line_of_words e ∙ ap (option_map (λ n. End n)) (read_number (2 ^ 32 - 1) number session d within)
read_words said (Plain request) s = request_alone said request s ∙ ap (option_map (λ r. Plain r)) (read_request said request s)
read_words said (Begin label id) (word, text, e, l, u) =
    ap line_of_words e ∙ ap (option_and_then (λ a. option_map (λ b. Begin a b) (uuid_of text))) (read_label word label l) ∙ ap (option_map (λ b. Begin label b)) u
read_words said (Inside label request) (word, asked, e, l, r) =
    ap line_of_words e ∙ ap (option_and_then (λ a. option_map (λ b. Inside a b) (request_of_words asked))) (read_label word label l)
    ∙ ap (option_map (λ b. Inside label b)) (read_request asked request r)
read_words said (Commit label) (word, e, l) = ap line_of_words e ∙ ap (option_map (λ a. Commit a)) (read_label word label l)
read_words said (Rollback label) (word, e, l) = ap line_of_words e ∙ ap (option_map (λ a. Rollback a)) (read_label word label l)
read_words said (Close label) (word, e, l) = ap line_of_words e ∙ ap (option_map (λ a. Close a)) (read_label word label l)
read_words said (Outcome label) (word, e, l) = ap line_of_words e ∙ ap (option_map (λ a. Outcome a)) (read_label word label l)
read_words said (Kept id) (text, e, u) = ap line_of_words e ∙ ap (option_map (λ b. Kept b)) u
read_words said Flush e = ap line_of_words e
read_words said Fold e = ap line_of_words e
read_words said (Served line) s = read_served said line s
read_words said (Lab line) s = read_lab said line s

-- a line by the grammar is parsed
pub read_line : (bytes : List ℕ) (line : Line) → BytesParseTo bytes line → line_of bytes ≡ Some line
read_line bytes line s = read_words (words bytes) line s

-- a number alone
of_number : (verb : List ℕ) (most : ℕ) (args : List (List ℕ)) (word : List ℕ) (number : ℕ) → one_of args ≡ Some word → number_of most word ≡ Some number → VerbAndNumber verb number (verb ∷ args) × (number ≤ most)
of_number verb most args word number e f =
    let parsed = parsed_number most word number f in
    ((word, ap (λ ws. verb ∷ ws) (one_word args word e), parsed.0), parsed.1)

of_hives : (args : List (List ℕ)) (line : Line) → option_and_then hives_line (one_of args) ≡ Some line → LineWords line (codes "hives" ∷ args)
of_hives args line e =
    let word = then_some hives_line (one_of args) line e in
    let count = then_some hives_of (number_of MOST_HIVES word.0) line word.2 in
    let made = cond_some (nat_le 1 count.0) (Hives count.0) line count.2 in
    let number = of_number (codes "hives") MOST_HIVES args word.0 count.0 word.1 count.1 in
    let least : 1 ≤ count.0 = grind (arith, nat_tests, made.0) in
    subst (λ l. LineWords l (codes "hives" ∷ args)) made.1 (number.0, least, number.1)

of_history : (args : List (List ℕ)) (line : Line) → option_and_then history_line (one_of args) ≡ Some line → LineWords line (codes "history" ∷ args)
of_history args line e =
    let word = then_some history_line (one_of args) line e in
    let limit = then_some history_of (number_of MOST_HISTORY word.0) line word.2 in
    let made = cond_some (nat_le 1 limit.0) (History limit.0) line limit.2 in
    let number = of_number (codes "history") MOST_HISTORY args word.0 limit.0 word.1 limit.1 in
    let least : 1 ≤ limit.0 = grind (arith, nat_tests, made.0) in
    subst (λ l. LineWords l (codes "history" ∷ args)) made.1 (number.0, least, number.1)

of_at : (args : List (List ℕ)) (line : Line) → option_and_then at_line (one_of args) ≡ Some line → LineWords line (codes "at" ∷ args)
of_at args line e =
    let word = then_some at_line (one_of args) line e in
    let moment = map_some (λ n. At n) (number_of (2 ^ 64 - 1) word.0) line word.2 in
    let number = of_number (codes "at") (2 ^ 64 - 1) args word.0 moment.0 word.1 moment.1 in
    let within : moment.0 < 2 ^ 64 = omega (arith, number.1) in
    subst (λ l. LineWords l (codes "at" ∷ args)) moment.2 (number.0, within)

-- a line of a session's number
of_session : (verb : List ℕ) (made : ℕ → Line) → ((number : ℕ) (said : List (List ℕ)) → VerbAndNumber verb number said × (number < 2 ^ 32) → LineWords (made number) said) → (args : List (List ℕ)) (line : Line) → option_and_then (λ word. option_map made (number_of (2 ^ 32 - 1) word)) (one_of args) ≡ Some line → LineWords line (verb ∷ args)
of_session verb made shape args line e =
    let word = then_some (λ w. option_map made (number_of (2 ^ 32 - 1) w)) (one_of args) line e in
    let session = map_some made (number_of (2 ^ 32 - 1) word.0) line word.2 in
    let number = of_number verb (2 ^ 32 - 1) args word.0 session.0 word.1 session.1 in
    let within : session.0 < 2 ^ 32 = omega (arith, number.1) in
    subst (λ l. LineWords l (verb ∷ args)) session.2 (shape session.0 (verb ∷ args) (number.0, within))

-- a line of one word
of_alone : (verb : List ℕ) (made : Line) → LineWords made (verb ∷ []) → (args : List (List ℕ)) (line : Line) → alone made args ≡ Some line → LineWords line (verb ∷ args)
of_alone verb made parsed [] line e = subst (λ l. LineWords l (verb ∷ [])) (same made line e) parsed
  where
    same : (x y : Line) → Some x ≡ Some y → x ≡ y
    same x y h = cc
of_alone verb made parsed (word ∷ args) line e = absurd (none-some line e)

-- a line of a hive's number
of_hive : (verb : List ℕ) (made : ℕ → Line) → ((hive : ℕ) (said : List (List ℕ)) → VerbAndNumber verb hive said × (hive ≤ 255) → LineWords (made hive) said) → (args : List (List ℕ)) (line : Line) → option_map made (hive_in args) ≡ Some line → LineWords line (verb ∷ args)
of_hive verb made shape args line e =
    let hive = map_some made (hive_in args) line e in
    let word = then_some (number_of 255) (one_of args) hive.0 hive.1 in
    subst (λ l. LineWords l (verb ∷ args)) hive.2 (shape hive.0 (verb ∷ args) (of_number verb 255 args word.0 hive.0 word.1 word.2))

-- a line that counts calls of the device
of_call : (verb : List ℕ) (made : ℕ → Line) → ((call : ℕ) (said : List (List ℕ)) → VerbAndNumber verb call said × (1 ≤ call) × (call < 2 ^ 64) → LineWords (made call) said) → (args : List (List ℕ)) (line : Line) → option_map made (call_in args) ≡ Some line → LineWords line (verb ∷ args)
of_call verb made shape args line e =
    let call = map_some made (call_in args) line e in
    let word = then_some (λ w. option_and_then call_of (number_of (2 ^ 64 - 1) w)) (one_of args) call.0 call.1 in
    let number = then_some call_of (number_of (2 ^ 64 - 1) word.0) call.0 word.2 in
    let counted = cond_some (nat_le 1 number.0) number.0 call.0 number.2 in
    let parsed = of_number verb (2 ^ 64 - 1) args word.0 number.0 word.1 number.1 in
    let least : 1 ≤ number.0 = grind (arith, nat_tests, counted.0) in
    let within : number.0 < 2 ^ 64 = omega (arith, parsed.1) in
    subst (λ l. LineWords l (verb ∷ args)) call.2 (subst (λ k. LineWords (made k) (verb ∷ args)) counted.1 (shape number.0 (verb ∷ args) (parsed.0, least, within)))

one_tear : (word : List ℕ) (this tear : CrashTear) (other : Option CrashTear) → (other ≡ Some tear → word ≡ tear_word tear) → cond (bytes_eq word (tear_word this)) (Some this) other ≡ Some tear → word ≡ tear_word tear
one_tear word this tear other further e = elim (is_or_not (bytes_eq word (tear_word this))) [
  | inl same ↦ (bytes_eq-Decides word (tear_word this)).0 same ∙ ap tear_word (equal this tear (sym (ap (λ test. cond test (Some this) other) same) ∙ e))
  | inr not_same ↦ further (sym (ap (λ test. cond test (Some this) other) not_same) ∙ e)
]
  where
    equal : (x y : CrashTear) → Some x ≡ Some y → x ≡ y
    equal x y h = cc

parsed_tear : (word : List ℕ) (tear : CrashTear) → tear_of word ≡ Some tear → word ≡ tear_word tear
parsed_tear word tear e = one_tear word Old tear _ (one_tear word New tear _ (one_tear word Torn tear None (λ none. absurd (none-some tear none)))) e

of_crash : (args : List (List ℕ)) (line : Line) → option_map (λ tear. Lab (Crash tear)) (tear_in args) ≡ Some line → LineWords line (codes "crash" ∷ args)
of_crash args line e =
    let tear = map_some (λ t. Lab (Crash t)) (tear_in args) line e in
    let word = then_some tear_of (one_of args) tear.0 tear.1 in
    subst (λ l. LineWords l (codes "crash" ∷ args)) tear.2
    (ap (λ ws. codes "crash" ∷ ws) (one_word args word.0 word.1 ∙ ap (λ w. w ∷ []) (parsed_tear word.0 tear.0 word.2)))

of_begin : (args : List (List ℕ)) (line : Line) → option_and_then begin_line (two_of args) ≡ Some line → LineWords line (codes "begin" ∷ args)
of_begin args line e =
    let found = then_some begin_line (two_of args) line e in
    let word = found.0.0 in
    let text = found.0.1 in
    let label = then_some (λ a. option_map (λ b. Begin a b) (uuid_of text)) (label_of word) line found.2 in
    let id = map_some (λ b. Begin label.0 b) (uuid_of text) line label.2 in
    subst (λ l. LineWords l (codes "begin" ∷ args)) id.2
    (word, text, ap (λ ws. codes "begin" ∷ ws) (two_words args found.0 found.1), parsed_label word label.0 label.1, id.1)

of_kept : (args : List (List ℕ)) (line : Line) → option_and_then kept_line (one_of args) ≡ Some line → LineWords line (codes "kept" ∷ args)
of_kept args line e =
    let word = then_some kept_line (one_of args) line e in
    let id = map_some (λ b. Kept b) (uuid_of word.0) line word.2 in
    subst (λ l. LineWords l (codes "kept" ∷ args)) id.2 (word.0, ap (λ ws. codes "kept" ∷ ws) (one_word args word.0 word.1), id.1)

of_inside : (args : List (List ℕ)) (line : Line) → inside_line args ≡ Some line → LineWords line (codes "tx" ∷ args)
of_inside [] line e = absurd (none-some line e)
of_inside (word ∷ asked) line e =
    let label = then_some (λ a. option_map (λ b. Inside a b) (request_of_words asked)) (label_of word) line e in
    let request = map_some (λ b. Inside label.0 b) (request_of_words asked) line label.2 in
    subst (λ l. LineWords l (codes "tx" ∷ word ∷ asked)) request.2
    (word, asked, refl, parsed_label word label.0 label.1, parsed_request_words asked request.0 request.1)

-- a line of a label alone
of_label : (verb : List ℕ) (made : List ℕ → Line) → ((label : List ℕ) (said : List (List ℕ)) → VerbAndLabel verb label said → LineWords (made label) said) → (args : List (List ℕ)) (line : Line) → option_map made (label_in args) ≡ Some line → LineWords line (verb ∷ args)
of_label verb made shape args line e =
    let label = map_some made (label_in args) line e in
    let word = then_some label_of (one_of args) label.0 label.1 in
    subst (λ l. LineWords l (verb ∷ args)) label.2
    (shape label.0 (verb ∷ args) (word.0, ap (λ ws. verb ∷ ws) (one_word args word.0 word.1), parsed_label word.0 label.0 word.2))

of_request : (verb : List ℕ) (args : List (List ℕ)) (line : Line) → option_map (λ r. Plain r) (request_with verb args) ≡ Some line → LineWords line (verb ∷ args)
of_request verb args line e =
    let request = map_some (λ r. Plain r) (request_with verb args) line e in
    subst (λ l. LineWords l (verb ∷ args)) request.2 (parsed_request verb args request.0 request.1)

of_backup : (args : List (List ℕ)) (line : Line) → option_and_then backup_line (one_of args) ≡ Some line → LineWords line (codes "backup" ∷ args)
of_backup args line e =
    let word = then_some backup_line (one_of args) line e in
    let name = map_some (λ a. Served (Backup a)) (name_of word.0) line word.2 in
    subst (λ l. LineWords l (codes "backup" ∷ args)) name.2 (word.0, ap (λ ws. codes "backup" ∷ ws) (one_word args word.0 word.1), parsed_name word.0 name.0 name.1)

of_follow : (args : List (List ℕ)) (line : Line) → option_and_then follow_line (one_of args) ≡ Some line → LineWords line (codes "follow" ∷ args)
of_follow args line e =
    let word = then_some follow_line (one_of args) line e in
    let after = map_some (λ n. Served (Follow n)) (number_of (2 ^ 64 - 1) word.0) line word.2 in
    let number = of_number (codes "follow") (2 ^ 64 - 1) args word.0 after.0 word.1 after.1 in
    let within : after.0 < 2 ^ 64 = omega (arith, number.1) in
    subst (λ l. LineWords l (codes "follow" ∷ args)) after.2 (number.0, within)

of_watch : (args : List (List ℕ)) (line : Line) → option_map (λ at. Served (Watch at)) (key_ref_in args) ≡ Some line → LineWords line (codes "watch" ∷ args)
of_watch args line e =
    let at = map_some (λ a. Served (Watch a)) (key_ref_in args) line e in
    let word = then_some key_ref_of (one_of args) at.0 at.1 in
    subst (λ l. LineWords l (codes "watch" ∷ args)) at.2 (word.0, ap (λ ws. codes "watch" ∷ ws) (one_word args word.0 word.1), parsed_place word.0 at.0 word.2)

parsed_served : (verb : List ℕ) (args : List (List ℕ)) (line : Line) → served_line verb args ≡ Some line → LineWords line (verb ∷ args)
parsed_served verb args line e =
    first_word LineWords verb (codes "backup") args line _ _ (of_backup args line)
    (first_word LineWords verb (codes "follow") args line _ _ (of_follow args line)
    (first_word LineWords verb (codes "watch") args line _ _ (of_watch args line)
    (first_word LineWords verb (codes "stats") args line _ _ (of_alone (codes "stats") (Served Stats) refl args line)
    (of_request verb args line)))) e

parsed_device : (verb : List ℕ) (args : List (List ℕ)) (line : Line) → device_line verb args ≡ Some line → LineWords line (verb ∷ args)
parsed_device verb args line e =
    first_word LineWords verb (codes "stop") args line _ _ (of_call (codes "stop") (λ call. Lab (StopAt call)) (λ call said h. h) args line)
    (first_word LineWords verb (codes "fail") args line _ _ (of_call (codes "fail") (λ call. Lab (FailAt call)) (λ call said h. h) args line)
    (first_word LineWords verb (codes "crash") args line _ _ (of_crash args line)
    (parsed_served verb args line))) e

parsed_step : (verb : List ℕ) (args : List (List ℕ)) (line : Line) → step_line verb args ≡ Some line → LineWords line (verb ∷ args)
parsed_step verb args line e =
    first_word LineWords verb (codes "accept") args line _ _ (of_label (codes "accept") (λ label. Lab (Accept label)) (λ label said h. h) args line)
    (first_word LineWords verb (codes "jstep") args line _ _ (of_alone (codes "jstep") (Lab JournalStep) refl args line)
    (first_word LineWords verb (codes "fstep") args line _ _ (of_hive (codes "fstep") (λ hive. Lab (FlusherStep hive)) (λ hive said h. h) args line)
    (first_word LineWords verb (codes "tstep") args line _ _ (of_alone (codes "tstep") (Lab TrimStep) refl args line)
    (first_word LineWords verb (codes "fall") args line _ _ (of_hive (codes "fall") (λ hive. Lab (FlushWhole hive)) (λ hive said h. h) args line)
    (parsed_device verb args line))))) e

parsed_transaction : (verb : List ℕ) (args : List (List ℕ)) (line : Line) → transaction_line verb args ≡ Some line → LineWords line (verb ∷ args)
parsed_transaction verb args line e =
    first_word LineWords verb (codes "tx") args line _ _ (of_inside args line)
    (first_word LineWords verb (codes "begin") args line _ _ (of_begin args line)
    (first_word LineWords verb (codes "commit") args line _ _ (of_label (codes "commit") (λ label. Commit label) (λ label said h. h) args line)
    (first_word LineWords verb (codes "rollback") args line _ _ (of_label (codes "rollback") (λ label. Rollback label) (λ label said h. h) args line)
    (first_word LineWords verb (codes "close") args line _ _ (of_label (codes "close") (λ label. Close label) (λ label said h. h) args line)
    (first_word LineWords verb (codes "outcome") args line _ _ (of_label (codes "outcome") (λ label. Outcome label) (λ label said h. h) args line)
    (first_word LineWords verb (codes "kept") args line _ _ (of_kept args line)
    (parsed_step verb args line))))))) e

parsed_with : (verb : List ℕ) (args : List (List ℕ)) (line : Line) → line_with verb args ≡ Some line → LineWords line (verb ∷ args)
parsed_with verb args line e =
    first_word LineWords verb (codes "hives") args line _ _ (of_hives args line)
    (first_word LineWords verb (codes "history") args line _ _ (of_history args line)
    (first_word LineWords verb (codes "at") args line _ _ (of_at args line)
    (first_word LineWords verb (codes "session") args line _ _ (of_session (codes "session") (λ number. Session number) (λ number said h. h) args line)
    (first_word LineWords verb (codes "end") args line _ _ (of_session (codes "end") (λ number. End number) (λ number said h. h) args line)
    (first_word LineWords verb (codes "flush") args line _ _ (of_alone (codes "flush") Flush refl args line)
    (first_word LineWords verb (codes "fold") args line _ _ (of_alone (codes "fold") Fold refl args line)
    (parsed_transaction verb args line))))))) e

parsed_words : (said : List (List ℕ)) (line : Line) → line_of_words said ≡ Some line → LineWords line said
parsed_words [] line e = absurd (none-some line e)
parsed_words (verb ∷ args) line e = parsed_with verb args line e

-- and one that is parsed is a line by the grammar
pub parsed_line : (bytes : List ℕ) (line : Line) → line_of bytes ≡ Some line → BytesParseTo bytes line
parsed_line bytes line e = parsed_words (words bytes) line e

-- no bytes are two lines
pub one_line : (bytes : List ℕ) (line other : Line) → BytesParseTo bytes line → BytesParseTo bytes other → line ≡ other
one_line bytes line other s t = same (sym (read_line bytes line s) ∙ read_line bytes other t)
  where
    same : Some line ≡ Some other → line ≡ other
    same e = cc
