use Rattle.std.proofs.Common.{◌≡◌, ◌⊎◌, inl, inr, ◌∙◌, ◌<◌, ◌≤◌, ◌+◌, ℕ, zero, suc, ap, sym, refl, subst, arith, length, slice_get, map, Some, List}
use Rattle.crash_model.specs.Promises.{Choice, Content, top}
use Rattle.change_codec.specs.ModelChanges.{TimedOp}
use Rattle.commit_journal.specs.Journals.{changes_of, choice_of, store_of}
use Rattle.commit_journal.proofs.StoreHives.{least_hives, most_hives}
use Rattle.commit_journal.specs.Numbered.{numbered}
use Rattle.reg_tree.specs.Maps.{TreeMap}
use Rattle.engine_invariant.specs.Openings.{OpeningRecovers}
use Rattle.engine_invariant.specs.Prefixes.{view_of}
use Rattle.engine_invariant.proofs.HiveLists.{at_slot}
use Rattle.hive_flush.specs.declared.hive.HiveFile.{HiveFile}
use Rattle.store_model.specs.Machine.{bounds_for}
use Rattle.store_model.specs.Invariant.{OutcomesFit}
use Rattle.refusals.specs.declared.refusal.Refusal.{Refusal}
use Rattle.refusals.specs.declared.refusal.Refusal.TheVariants.{NoMemory}
use Rattle.refusals.proofs.Refused.{handed_on}
use Rattle.commit_journal.specs.declared.journal.Journal.{Journal}
use Rattle.reg_tree.specs.declared.element.Element.{Element}
use Rattle.std.proofs.lemmas.Option.{slice_get_within}
use Rattle.recovery.specs.Reading.{AreAtRest, AreOf, IsNumber, IsRefusedAsOutcomes, LeadTo}
use Rattle.recovery.specs.Recovered.{IsFileRefusal}
use Rattle.recovery.specs.Refused.{IsWrong}
use Rattle.recovery.proofs.Outcomes.{allowed_found, outcomes_fit}
use Rattle.recovery.proofs.Scanned as scanned
use Rattle.recovery.proofs.Together.{OneHeld, ahead_is, is_found, kept_is, number_is, outcomes_ahead, outcomes_wrong, spelled_as}
use Rattle.recovery.proofs.recovery_result.recovered.Goals as goal

zero_or_above : (n : ℕ) → (n ≡ 0) ⊎ (0 < n)
zero_or_above zero = inl refl
zero_or_above (suc n) = inr (omega arith)

-- a tree that is refused as one of outcomes is wrong as the refusal says
refused_outcomes : (journal : Journal) (below : ℕ) (es : List Element) (hives : List HiveFile) (rest : AreAtRest journal below es hives) → OneHeld → (number : ℕ) → IsNumber (top 0 (spelled_as below es)) hives number → (trees : List TreeMap) → length trees ≡ length hives
    → LeadTo (spelled_as below es) hives trees → (why : Refusal)
    → (why ≡ NoMemory) ⊎ ((tree : TreeMap) × (slice_get trees (store_of journal).hives ≡ Some tree) × IsRefusedAsOutcomes number (store_of journal).hives tree why)
    → (why ≡ NoMemory) ⊎ (IsFileRefusal why × ((files : ℕ → List ℕ) → AreOf files journal hives → IsWrong files why))
refused_outcomes journal below es hives rest one_held number is trees many lead why (inl memory) = inl memory
refused_outcomes journal below es hives rest one_held number is trees many lead why (inr (tree, at, (not, cause))) =
    let place = (store_of journal).hives in
    let h = at_slot hives place (omega (arith, slice_get_within trees place tree at, many)) in
    let leads = lead place h.0 tree h.1 at in
    subst (λ w. (w ≡ NoMemory) ⊎ (IsFileRefusal w × ((files : ℕ → List ℕ) → AreOf files journal hives → IsWrong files w))) (sym cause) (inr (
      tt,
      λ files of. inr (
        refl,
        inr (elim (zero_or_above (top 0 (spelled_as below es))) [
          | inl none ↦ inr (outcomes_ahead journal below es hives rest files of place h.0 h.1 (omega arith) tree leads number is not one_held none)
          | inr some ↦ inl (outcomes_wrong journal below es hives rest files of place h.0 h.1 (omega arith) tree leads number is not some)
        ]),
      ),
    ))

pub returns-in-Some-clause-fails : goal.returns-in-Some-clause-fails
returns-in-Some-clause-fails c =
    let j = c.args.read.journal in
    let below = (choice_of j).now.below in
    let es = changes_of j in
    let hs = c.args.read.hives.items in
    let ahead = c.first_above.ensures.some c.in-Some.hive c.in-Some.is in
    let h = at_slot hs c.in-Some.hive (subst (λ (l : List HiveFile). c.in-Some.hive < length l) c.deref-2.ensures.value ahead.0) in
    let above = ahead.1 h.0 (subst (λ (l : List HiveFile). slice_get l c.in-Some.hive ≡ Some h.0) (sym c.deref-2.ensures.value) h.1) in
    let number = number_is j below es hs c.requires.rest c.last_number.result c.number_of-number.result c.last_number.ensures (subst (λ (l : List HiveFile). IsNumber c.last_number.result l c.number_of-number.result) c.deref.ensures.value c.number_of-number.ensures) in inr (
      tt,
      λ files of. inr (refl, inl (ahead_is j below es hs c.requires.rest files of c.number_of-number.result number c.in-Some.hive h.0 h.1 (omega (arith, above, c.min.ensures)))),
    )

pub returns-clause-kept : goal.returns-clause-kept
returns-clause-kept c =
    let j = c.args.read.journal in
    let below = (choice_of j).now.below in
    let es = changes_of j in
    let hs = c.args.read.hives.items in
    let it = c.args.read.replay in
    let rest = c.requires.rest in
    let r = c.requires.replayed in
    let all = numbered below es in
    let number = number_is j below es hs rest c.last_number.result c.number_of-number.result c.last_number.ensures (subst (λ (l : List HiveFile). IsNumber c.last_number.result l c.number_of-number.result) c.deref.ensures.value c.number_of-number.ensures) in
    let low = c.first_above.ensures.none c.in_default.is in
    let its = spelled_as below es in
    let now : (choice_of j).now ≡ its = ap (λ (k : Choice (Content TimedOp)). k.now) rest.choice in
    let some_base : 0 < top 0 its → c.begun_at-base.result ≡ below = (λ lt. c.begun_at-base.ensures.some (subst (λ (s : Content TimedOp). 0 < top 0 s) (sym now) lt)) in
    let no_base : top 0 its ≡ 0 → c.begun_at-base.result ≡ c.number_of-number.result = (λ none. c.begun_at-base.ensures.none (ap (top 0) now ∙ none)) in
    let n = c.number_of-number.result in
    let b = c.begun_at-base.result in
    let long : length it.trees.items ≡ length hs = scanned.many hs rest.rest r.begin it r.begins all r.replays in
    let judged = c.in_ok-judge_outcomes.ensures.judged in
    let few : length it.trees.items ≤ (store_of j).hives + 1 = omega (arith, long, rest.many, most_hives (store_of j).layout (store_of j).hives) in
    kept_is _ below rest (subst (λ (ts : List TreeMap). OpeningRecovers (store_of j).hives ts n b es (choice_of j) (map view_of hs)) (sym c.from_vec.ensures)
    (is_found j below es hs rest n b it.trees.items number
    (λ i h at. let l = low i h (subst (λ (x : List HiveFile). slice_get x i ≡ Some h) (sym c.deref-2.ensures.value) at) in omega (arith, l, c.min.ensures))
    (scanned.base_found below n b es some_base no_base)
    long
    (scanned.are hs rest.rest r.begin it r.begins all r.replays)
    (scanned.lead hs rest.rest r.begin it r.begins all r.replays below es refl)
    (allowed_found (store_of j).hives n it.trees.items few (λ tree at. (judged tree at).0))))
    (scanned.retained_found below b es _ hs some_base (scanned.retained hs rest.rest r.begin it r.begins all r.replays below es refl))
    (scanned.all_named hs rest.rest r.begin it r.begins all r.replays)
    (scanned.names_found below b es _ some_base (scanned.names hs rest.rest r.begin it r.begins all r.replays below es refl))
    (subst (λ (ts : List TreeMap). OutcomesFit (bounds_for (store_of j).hives) ts n) (sym c.from_vec.ensures) (outcomes_fit (store_of j).hives n it.trees.items (λ tree at. (judged tree at).1)))

pub from_vec-requires-clause-some : goal.from_vec-requires-clause-some
from_vec-requires-clause-some c =
    let rest = c.requires.rest in
    let r = c.requires.replayed in
    let below = (choice_of c.args.read.journal).now.below in
    let its = store_of c.args.read.journal in
    omega (arith, scanned.many c.args.read.hives.items rest.rest r.begin c.args.read.replay r.begins (numbered below (changes_of c.args.read.journal)) r.replays, rest.many, rest.store.some_hives, least_hives its.layout its.hives)

pub from_vec-requires-clause-few : goal.from_vec-requires-clause-few
from_vec-requires-clause-few c =
    let rest = c.requires.rest in
    let r = c.requires.replayed in
    let below = (choice_of c.args.read.journal).now.below in
    let its = store_of c.args.read.journal in
    omega (arith, scanned.many c.args.read.hives.items rest.rest r.begin c.args.read.replay r.begins (numbered below (changes_of c.args.read.journal)) r.replays, rest.many, rest.store.few_hives, most_hives its.layout its.hives)

pub returns-in_err-judge_outcomes-clause-fails : goal.returns-in_err-judge_outcomes-clause-fails
returns-in_err-judge_outcomes-clause-fails c =
    let j = c.args.read.journal in
    let below = (choice_of j).now.below in
    let es = changes_of j in
    let hs = c.args.read.hives.items in
    let it = c.args.read.replay in
    let rest = c.requires.rest in
    let r = c.requires.replayed in
    let all = numbered below es in
    let why = c.in_err-judge_outcomes.field-0.0 in
    let number = number_is j below es hs rest c.last_number.result c.number_of-number.result c.last_number.ensures (subst (λ (l : List HiveFile). IsNumber c.last_number.result l c.number_of-number.result) c.deref.ensures.value c.number_of-number.ensures) in
    handed_on c.from_residual.result why (λ w. (w ≡ NoMemory) ⊎ (IsFileRefusal w × ((files : ℕ → List ℕ) → AreOf files j hs → IsWrong files w))) c.from_residual.ensures.1
    (refused_outcomes j below es hs rest c.at_most_one_tree.ensures c.number_of-number.result number it.trees.items (scanned.many hs rest.rest r.begin it r.begins all r.replays) (scanned.lead hs rest.rest r.begin it r.begins all r.replays below es refl) why c.in_err-judge_outcomes.ensures.fails)
