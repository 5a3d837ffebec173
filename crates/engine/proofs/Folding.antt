-- A fold: the changes of the history count among those before it, and those that are retained are retained with them.
use Rattle.std.proofs.Common.{◌≡◌, ◌⊎◌, inl, inr, ℕ, suc, ◌+◌, ◌-◌, ◌<◌, ◌≤◌, max, true, cond, List, [], ◌∷◌, ◌++◌, length, get_or, take, drop, refl, sym, ◌∙◌, ap, subst, arith}
use Rattle.std.specs.Prelude.{nat_lt, ◌||◌}
use Rattle.std.specs.List.{filter, list_any}
use Rattle.std.proofs.lemmas.Bool.{cases_lt, le-ltb, lt-ltb}
use Rattle.std.proofs.lemmas.List.{append-nil, map-append}
use Rattle.std.proofs.lemmas.List.Elements.{filter-append}
use Rattle.reg_tree.specs.Maps.{TreeMap}
use Rattle.reg_tree.specs.Operations.{hive_of}
use Rattle.reg_tree.specs.Judgement.{applied}
use Rattle.reg_tree.specs.declared.element.Element.{Element}
use Rattle.reg_tree.specs.declared.op.Op.{Op}
use Rattle.crash_model.specs.Changes as law
use Rattle.crash_model.specs.Changes.{ops_on}
use Rattle.crash_model.specs.Life.{known_elements}
use Rattle.crash_model.proofs.Lists.{drop_nil}
use Rattle.change_codec.specs.ModelChanges.{TimedOp, timed_element, timed_elements}
use Rattle.store_model.specs.Machine.{Machine, folded, last_number}
use Rattle.store_model.specs.Invariant.{AreLegalHistory}
use Rattle.transactions.specs.Stores.{StoreView}
use Rattle.commit_journal.specs.Numbered.{NumberedChange, numbered}
use Rattle.commit_journal.proofs.Firsts.{numbered_append}
use Rattle.hive_flush.specs.HiveStates.{memory_of}
use Rattle.hive_flush.specs.declared.hive.HiveFile.{HiveFile}
use Rattle.recovery.specs.Retained.{above_number, is_lacked}
use Rattle.engine_invariant.specs.States.{life_of}
use Rattle.engine.specs.LastChangePerHive.{AreLastNaming}
use Rattle.engine.specs.RetainedChanges.{RetainsWhatHivesLack}

-- the same changes are known
known_folds : (m : Machine) (base : ℕ) (opened : List Element) → known_elements (life_of (folded m) base (opened ++ m.accepted)) ≡ known_elements (life_of m base opened)
known_folds m base opened = append-nil (timed_elements (opened ++ m.accepted)) ∙ map-append timed_element opened m.accepted

-- so the last that name a hive are the same
pub naming_folds : (m t : Machine) (base : ℕ) (opened : List Element) (numbers : List ℕ) → t ≡ folded m → AreLastNaming m base opened numbers → AreLastNaming t base (opened ++ m.accepted) numbers
naming_folds m t base opened numbers is last i k at =
    let l = last i k at in
    let same = known_folds m base opened in
    subst (λ (x : Machine). (none : ℕ) → none ≡ 0 → AreLastNaming x base (opened ++ m.accepted) numbers) (sym is) (λ none zero j n there.
    let one = last j n there in record {
      none_after = ap (λ (es : List (law.Element TimedOp)). ops_on j (drop (n - base) (take (m.durable - base) es))) same ∙ one.none_after;
      names = subst (λ (es : List (law.Element TimedOp)). (n ≡ 0) ⊎ ((1 ≤ n) × ¬ (ops_on j (drop (n - 1 - base) (take (m.durable - base) es)) ≡ []))) (sym same) one.names;
    }) 0 refl i k at

-- Changes of the history, each of which has an operation

one_lacked : (own : List ℕ) (number : ℕ) (ops : List Op) → ((i : ℕ) → get_or own i 0 < number) → 0 < length ops → list_any (λ op. nat_lt (get_or own (hive_of op) 0) number) ops ≡ true
one_lacked own number [] low some = absurd (omega (arith, some))
one_lacked own number (op ∷ ops) low some = ap (λ b. b || list_any (λ op. nat_lt (get_or own (hive_of op) 0) number) ops) (lt-ltb (get_or own (hive_of op) 0) number (low (hive_of op)))

-- some hive lacked each of them, by numbers that are below theirs
all_lacked : (own : List ℕ) (trees : List TreeMap) (base : ℕ) (changes : List Element) → ((i : ℕ) → get_or own i 0 ≤ base) → AreLegalHistory trees changes → filter (is_lacked own) (numbered base changes) ≡ numbered base changes
all_lacked own trees base [] low legal = refl
all_lacked own trees base (x ∷ xs) low (some, first, rest) =
    ap (λ b. cond b ((base + 1, x) ∷ filter (is_lacked own) (numbered (base + 1) xs)) (filter (is_lacked own) (numbered (base + 1) xs))) (one_lacked own (base + 1) x.ops (λ i. let l = low i in omega (arith, l)) some)
    ∙ ap (λ (l : List NumberedChange). (base + 1, x) ∷ l) (all_lacked own (applied trees x.ops x.moment) (base + 1) xs (λ i. let l = low i in omega (arith, l)) rest)

-- those above a number are the last ones
above_numbered : (low base : ℕ) (changes : List Element) → above_number low (numbered base changes) ≡ numbered (max base low) (drop (max base low - base) changes)
above_numbered low base [] = ap (numbered (max base low)) (sym (drop_nil {A = Element} (max base low - base)))
above_numbered low base (x ∷ xs) = elim (cases_lt low (base + 1)) as (λ z. above_number low (numbered base (x ∷ xs)) ≡ numbered (max base low) (drop (max base low - base) (x ∷ xs))) [
  | inl lt ↦
      let here : max base low ≡ base = omega (arith, lt) in
      let next : max (base + 1) low ≡ base + 1 = omega (arith, lt) in
      let none : base - base ≡ 0 = omega arith in
      let same : (base + 1) - (base + 1) ≡ 0 = omega arith in
      ap (λ b. cond b ((base + 1, x) ∷ above_number low (numbered (base + 1) xs)) (above_number low (numbered (base + 1) xs))) (lt-ltb low (base + 1) lt)
      ∙ ap (λ (l : List NumberedChange). (base + 1, x) ∷ l) (above_numbered low (base + 1) xs ∙ ap (λ n. numbered n (drop (n - (base + 1)) xs)) next ∙ ap (λ n. numbered (base + 1) (drop n xs)) same)
      ∙ sym (ap (λ n. numbered n (drop (n - base) (x ∷ xs))) here ∙ ap (λ n. numbered base (drop n (x ∷ xs))) none)
  | inr ge ↦
      let same : max (base + 1) low ≡ max base low = omega (arith, ge) in
      let more : max base low - base ≡ suc (max base low - (base + 1)) = omega (arith, ge) in
      ap (λ b. cond b ((base + 1, x) ∷ above_number low (numbered (base + 1) xs)) (above_number low (numbered (base + 1) xs))) (le-ltb low (base + 1) ge)
      ∙ above_numbered low (base + 1) xs ∙ ap (λ n. numbered n (drop (n - (base + 1)) xs)) same ∙ ap (λ n. numbered (max base low) (drop n (x ∷ xs))) (sym more)
]

-- what is retained, with the history's behind it
pub retained_folds : (s t : StoreView) (base : ℕ) (decoded recent : List Element) (old new : List NumberedChange) (hives : List HiveFile) → s.machine.before ≡ base + length decoded → last_number s.machine ≤ s.machine.durable → s.machine.durable ≤ last_number s.machine → AreLegalHistory s.machine.opened s.machine.accepted
    → t.machine ≡ folded s.machine → t.retained ≡ last_number s.machine → recent ≡ drop (s.retained - s.machine.before) s.machine.accepted → new ≡ old ++ numbered s.retained recent
    → RetainsWhatHivesLack s base decoded old hives → RetainsWhatHivesLack t base (decoded ++ s.machine.accepted) new hives
retained_folds s t base decoded recent old new hives begun all there legal is hand rest put a = record {
  gone = a.gone;
  own = a.own;
  high = omega (arith, a.high, ap (λ (m : Machine). m.durable) is);
  opened_are = put ∙ ap (λ (l : List NumberedChange). l ++ numbered s.retained recent) a.opened_are ∙ ap (λ (l : List NumberedChange). above_number a.gone (filter (is_lacked a.own) (numbered base decoded)) ++ l) later
      ∙ sym (ap (λ (l : List NumberedChange). above_number a.gone (filter (is_lacked a.own) l)) (numbered_append base decoded s.machine.accepted)
      ∙ ap (above_number a.gone) (filter-append (is_lacked a.own) (numbered base decoded) (numbered (base + length decoded) s.machine.accepted))
      ∙ filter-append (λ (c : NumberedChange). nat_lt a.gone c.0) (filter (is_lacked a.own) (numbered base decoded)) (filter (is_lacked a.own) (numbered (base + length decoded) s.machine.accepted)));
  accepted_are = omega (arith, hand, a.high, there, before);
  early = λ i. let low = a.early i in omega (arith, low, before);
  since = a.since;
  lacked = λ i hive there. subst (λ (m : Machine). ops_on i (drop ((memory_of hive).1 - base) (take (a.gone - base) (known_elements (life_of m base (decoded ++ s.machine.accepted))))) ≡ []) (sym is)
      (ap (λ (es : List (law.Element TimedOp)). ops_on i (drop ((memory_of hive).1 - base) (take (a.gone - base) es))) (known_folds s.machine base decoded) ∙ a.lacked i hive there);
}
  where
    before : t.machine.before ≡ last_number s.machine
    before = ap (λ (m : Machine). m.before) is

    later : numbered s.retained recent ≡ above_number a.gone (filter (is_lacked a.own) (numbered (base + length decoded) s.machine.accepted))
    later = ap (numbered s.retained) rest ∙ ap (λ n. numbered n (drop (n - s.machine.before) s.machine.accepted)) a.accepted_are ∙ sym (above_numbered a.gone s.machine.before s.machine.accepted)
        ∙ ap (above_number a.gone) (sym (all_lacked a.own s.machine.opened s.machine.before s.machine.accepted a.early legal))
        ∙ ap (λ n. above_number a.gone (filter (is_lacked a.own) (numbered n s.machine.accepted))) begun
