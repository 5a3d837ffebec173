-- What a transaction sees: its view after one operation more, and after a change of others.
use Rattle.std.proofs.Common.{take, ◌==◌, ◌≡◌, ◌⊎◌, inl, inr, ℕ, zero, suc, ◌+◌, Bool, true, false, ◌||◌, ◌&&◌, length, arith, IfOk, IfSome, List, [], ◌∷◌, ◌++◌, map, Option, Some, None, Result, Ok, Err, refl, sym, ◌∙◌, ap, subst}
use Rattle.std.specs.Prelude.{slice_get, slice_index_or}
use Rattle.std.specs.List.{AllByRecursion, list_any}
use Rattle.std.proofs.lemmas.Bool.{true≢false, eqb-true}
use Rattle.reg_names.specs.Names.{folded_path}
use Rattle.refusals.specs.declared.refusal.Refusal.{Refusal}
use Rattle.std.specs.Result.{is_err}
use Rattle.std.specs.Option.{option_eq, option_map, option_and_then}
use Rattle.std.specs.FinMap as finite
use Rattle.reg_tree_parts.specs.Rows.{Row}
use Rattle.reg_tree_parts.specs.declared.value.Value.{Value}
use Rattle.reg_tree.specs.Maps.{TreeMap, row, subkeys, weight}
use Rattle.reg_tree.specs.Reads.{info_of}
use Rattle.reg_tree.specs.TreeLists.{levels_made, info_in, value_names_in, value_names_at}
use Rattle.reg_tree.specs.declared.tree.Info.{Info}
use Rattle.reg_tree.specs.Judgement.{judged, legal, legal_if, legal_after, changed, applied, applied_one, outweighs, outweighs_if, any_outweighs}
use Rattle.reg_tree.specs.Operations.{hive_of}
use Rattle.reg_tree.specs.Sequences.{AreTrees}
use Rattle.reg_tree.specs.Stamps.{time_in, touched_path_of, stamped}
use Rattle.reg_tree.specs.Times.{untimed, SameButTimes}
use Rattle.reg_tree.specs.declared.op.Op.{Op}
use Rattle.reg_tree.specs.declared.op.Op.TheVariants.{CreateKey, DeleteKey, SetValue, DeleteValue}
use Rattle.reg_tree.specs.declared.op.Legality.{Legality}
use Rattle.reg_tree.specs.declared.op.Legality.TheVariants.{Legal, Opened}
use Rattle.reg_tree.proofs.Times.{moments_alike, weight_any_moment, legal_alike, levels_alike, value_names_alike, applied_same}
use Rattle.reg_tree.proofs.OthersStay.{one_by_one, trees_stay_one}
use Rattle.conflicts.specs.Skeleton as law
use Rattle.conflicts.proofs.Tests.{conflict_sym}
use Rattle.conflicts.specs.Claims.{claim_of, meets}
use Rattle.conflicts.specs.TreeOutlines.{judged_in, judged_if, AreCarriedOut, OpsDontConflict, MakesAlike, IsBeside}
use Rattle.conflicts.proofs.StaysLegal.{more, one_more, any_moment}
use Rattle.conflicts.proofs.Meets.{conflict_meets}
use Rattle.store_model.specs.Machine.{too_long}
use Rattle.store_model.specs.Transactions.{Transaction, TxSlots, at, is_active, holds, view}
use Rattle.transactions.specs.Entries.{IsMade, AreCarried, AreAfter, AreLight, AreKnown, IsViewNow, IsViewed, WritesView, IsRebasedBy, IsTimed, KeepsTimes, StaysViewAfter, IsLegalIn, IsRebasedTo, AreRebased, moment_of}
use Rattle.transactions.specs.Tables.{MeetNone}
use Rattle.transactions.specs.declared.view.Judged.{Judged}
use Rattle.transactions.specs.declared.view.View.{View}
use Rattle.transactions.specs.declared.view.Known.{Known}
use Rattle.transactions.specs.declared.view.Known.TheVariants.{Nothing, Carried, Light}

-- whatever its moment, a view differs from the operations applied at another in times alone
pub seen_at : (now : List TreeMap) (ops : List Op) (moment : Option ℕ) (trees : List TreeMap) (n : ℕ) → IsMade now ops moment trees → SameButTimes trees (applied now ops n)
seen_at now ops None trees n made = made ∙ moments_alike now ops 0 n
seen_at now ops (Some m) trees n made = ap (map untimed) made ∙ moments_alike now ops m n

-- what is legal may be carried out
pub judged_of_legal : (trees : List TreeMap) (op : Op) → legal trees op ≡ Ok Legal → judged_in trees op ≡ Ok Legal
judged_of_legal trees op e = by_hive (slice_get trees (hive_of op)) e
  where
    by_judgement : (op : Op) (j : Result Legality Refusal) (total : ℕ) → legal_after op j total ≡ Ok Legal → j ≡ Ok Legal
    by_judgement op (Err refusal) total e = cc
    by_judgement op (Ok Opened) total e = cc
    by_judgement op (Ok Legal) total e = refl

    by_hive : (o : Option TreeMap) → legal_if o op ≡ Ok Legal → judged_if o op ≡ Ok Legal
    by_hive None e = cc
    by_hive (Some tree) e = by_judgement op (judged tree op) (weight (changed tree op 0)) e

-- what is legal leaves no tree too heavy, at whatever moment
not_heavy : (trees : List TreeMap) (op : Op) (moment : ℕ) → legal trees op ≡ Ok Legal → outweighs trees op moment ≡ false
not_heavy trees op moment e = by_hive (slice_get trees (hive_of op)) e (judged_of_legal trees op e)
  where
    by_hive : (o : Option TreeMap) → legal_if o op ≡ Ok Legal → judged_if o op ≡ Ok Legal → outweighs_if o op moment ≡ false
    by_hive None e may = refl
    by_hive (Some tree) e may =
        ap (λ total. is_err (legal_after op (Ok Legal) total)) (weight_any_moment tree op moment 0)
        ∙ ap is_err (sym (ap (λ j. legal_after op j (weight (changed tree op 0))) may) ∙ e)

none_heavy : (now : List TreeMap) (ops : List Op) (op : Op) (moment : ℕ) → any_outweighs now ops moment ≡ false → outweighs (applied now ops moment) op moment ≡ false → any_outweighs now (ops ++ op ∷ []) moment ≡ false
none_heavy now [] op moment light last = ap (λ b. b || false) last
none_heavy now (o ∷ ops) op moment light last = by_first (outweighs now o moment) light (λ none. none_heavy (applied_one now o moment) ops op moment none last)
  where
    by_first : (b : Bool) → (b || any_outweighs (applied_one now o moment) ops moment) ≡ false → (any_outweighs (applied_one now o moment) ops moment ≡ false → any_outweighs (applied_one now o moment) (ops ++ op ∷ []) moment ≡ false) → (b || any_outweighs (applied_one now o moment) (ops ++ op ∷ []) moment) ≡ false
    by_first true none rest = absurd (true≢false none)
    by_first false none rest = rest none

-- the view after one operation more
pub written_view : (now : List TreeMap) (ops : List Op) (view made : View) (op : Op) → IsViewNow now ops view → legal view.trees op ≡ Ok Legal → made ≡ record view { trees = applied_one view.trees op (moment_of view.moment); ops_since_read = made.ops_since_read } →
    IsViewNow now (ops ++ op ∷ []) made
written_view now ops view made op is allowed written = subst (IsViewNow now (ops ++ op ∷ [])) (sym written) record {
  made = by_moment view.moment view.trees is.made;
  known = by_known view.known is.known;
}
  where
    one_carried : AreCarried now ops → AreCarried now (ops ++ op ∷ [])
    one_carried before = record {
      are = before.are;
      carried = one_more now ops op 0 0 before.are before.carried (judged_of_legal (applied now ops 0) op (sym (legal_alike view.trees (applied now ops 0) (seen_at now ops view.moment view.trees 0 is.made) op) ∙ allowed));
    }

    light_at : (moment : Option ℕ) (trees : List TreeMap) → IsMade now ops moment trees → AreLight now ops moment → legal trees op ≡ Ok Legal → AreLight now (ops ++ op ∷ []) moment
    light_at None trees h light e = tt
    light_at (Some m) trees h light e = none_heavy now ops op m light (not_heavy (applied now ops m) op m (ap (λ ts. legal ts op) (sym h) ∙ e))

    by_known : (known : Known) → AreKnown now ops view.moment known → AreKnown now (ops ++ op ∷ []) view.moment known
    by_known Nothing k = tt
    by_known Carried k = one_carried k
    by_known Light k = (one_carried k.0, light_at view.moment view.trees is.made k.1 allowed)

    by_moment : (moment : Option ℕ) (trees : List TreeMap) → IsMade now ops moment trees → IsMade now (ops ++ op ∷ []) moment (applied_one trees op (moment_of moment))
    by_moment None trees h = applied_same trees (applied now ops 0) h (op ∷ []) 0 0 ∙ ap (map untimed) (sym (one_by_one now ops (op ∷ []) 0))
    by_moment (Some m) trees h = ap (λ ts. applied_one ts op m) h ∙ sym (one_by_one now ops (op ∷ []) m)

-- the laws of claims, as they are handed in
abbrev pub OnceInOrder : (List TreeMap → Op → ℕ → ℕ → List TreeMap → List TreeMap → Type 0) → Type 0
OnceInOrder Then = (trees : List TreeMap) (ops : List Op) (change : Op) (m n : ℕ) → IsBeside trees ops change m → Then trees change m n (applied trees ops m) (applied (applied_one trees change n) ops m)

pub record EitherOrder : Type 0 where
  pub exact : (trees : List TreeMap) (ops : List Op) (change : Op) (m : ℕ) → IsBeside trees ops change m → applied_one (applied trees ops m) change m ≡ applied (applied_one trees change m) ops m
  pub unwritten : OnceInOrder (λ trees change m n seen all. (time_in seen (hive_of change) (touched_path_of change (levels_made seen change)) ≡ Some m → ⊥) → applied_one seen change n ≡ all)
  pub written : OnceInOrder (λ trees change m n seen all. time_in seen (hive_of change) (touched_path_of change (levels_made seen change)) ≡ Some m → (time_in trees (hive_of change) (touched_path_of change (levels_made seen change)) ≡ Some m → ⊥) →
      stamped (applied_one seen change n) (hive_of change) (touched_path_of change (levels_made seen change)) m ≡ all)
  pub but_for_times : (trees seen : List TreeMap) (ops : List Op) (change : Op) (m n k l : ℕ) → IsBeside trees ops change m → SameButTimes seen (applied trees ops m) → SameButTimes (applied_one seen change n) (applied (applied_one trees change k) ops l)

abbrev pub StaysLegal : Type 0
StaysLegal = (trees : List TreeMap) (first ops : List Op) (m n k : ℕ) → AreTrees trees → OpsDontConflict first ops → AreCarriedOut trees ops m → AreCarriedOut (applied trees first n) ops k

alike_made : (change : Op) (trees others : List TreeMap) → levels_made trees change ≡ levels_made others change → MakesAlike change trees others
alike_made (CreateKey hive path) trees others e = e
alike_made (DeleteKey hive path) trees others e = tt
alike_made (SetValue hive path name kind bytes) trees others e = tt
alike_made (DeleteValue hive path name) trees others e = tt

apart_back : (ops : List Op) (change : Op) → OpsDontConflict ops (change ∷ []) → AllByRecursion (λ b. law.Conflict (claim_of change) (claim_of b) → ⊥) ops
apart_back [] change apart = tt
apart_back (op ∷ ops) change apart = (λ c. apart.0.0 (conflict_sym (claim_of change) (claim_of op) c), apart_back ops change apart.1)

levels_same : (trees others : List TreeMap) → SameButTimes trees others → (op : Op) → levels_made trees op ≡ levels_made others op
levels_same trees others same (CreateKey hive path) = levels_alike trees others same hive (folded_path path)
levels_same trees others same (DeleteKey hive path) = refl
levels_same trees others same (SetValue hive path name kind bytes) = refl
levels_same trees others same (DeleteValue hive path name) = refl

-- trees with operations and a change, whose times stay exact, are those of the change and then the operations
kept_times : EitherOrder → (now : List TreeMap) (ops : List Op) (op : Op) (own moment : ℕ) → IsBeside now ops op own → (seen after : List TreeMap) → seen ≡ applied now ops own → KeepsTimes seen now op moment own after → after ≡ applied (applied_one now op moment) ops own
kept_times either now ops op own moment beside seen after made =
    subst (λ ts. KeepsTimes ts now op moment own after → after ≡ applied (applied_one now op moment) ops own) (sym made) (λ keeps. elim keeps [
      | inl once ↦ once.1 ∙ ap (applied_one (applied now ops own) op) (sym once.0) ∙ either.exact now ops op own beside ∙ ap (λ m. applied (applied_one now op m) ops own) once.0
      | inr (inl other) ↦ other.1 ∙ either.unwritten now ops op own moment beside other.0
      | inr (inr again) ↦ again.2 ∙ either.written now ops op own moment beside again.0 again.1
    ])

-- operations of which anything is known could be carried out
known_carried : (now : List TreeMap) (ops : List Op) (moment : Option ℕ) (known : Known) → (known ≡ Nothing → ⊥) → AreKnown now ops moment known → AreCarried now ops
known_carried now ops moment Nothing some k = absurd (some refl)
known_carried now ops moment Carried some k = k
known_carried now ops moment Light some k = k.0

-- the view after a change that conflicts with no claim of the operations
pub moved_view : EitherOrder → StaysLegal → (now : List TreeMap) (ops : List Op) (view after : View) (op : Op) (number moment : ℕ) → IsViewNow now ops view → OpsDontConflict ops (op ∷ []) → judged_in now op ≡ Ok Legal → IsRebasedBy view now op moment number after →
    IsViewNow (applied_one now op moment) ops after
moved_view either stays now ops view after op number moment is apart allowed moves =
    record {
      made = by_moment after.moment moves.timed;
      known = subst (AreKnown (applied_one now op moment) ops after.moment) (sym moves.known) record {
        are = trees_stay_one now op moment before.are;
        carried = stays now (op ∷ []) ops 0 moment 0 before.are (apart_back ops op apart, tt) before.carried;
      };
    }
  where
    before : AreCarried now ops
    before = known_carried now ops view.moment view.known moves.carried is.known

    beside : (own : ℕ) → IsBeside now ops op own
    beside own = record {
      are = before.are;
      apart = apart;
      carried = any_moment now before.are ops 0 own before.carried;
      legal = allowed;
      alike = alike_made op (applied now ops own) now (sym (levels_same view.trees (applied now ops own) (seen_at now ops view.moment view.trees own is.made) op) ∙ moves.alike);
    }

    by_moment : (m : Option ℕ) → IsTimed view now op moment m after.trees → IsMade (applied_one now op moment) ops m after.trees
    by_moment None timed =
        subst (λ ts. SameButTimes ts (applied (applied_one now op moment) ops 0)) (sym timed)
        (either.but_for_times now view.trees ops op 0 moment moment 0 (beside 0) (seen_at now ops view.moment view.trees 0 is.made))
    by_moment (Some own) timed = kept_times either now ops op own moment (beside own) view.trees after.trees (subst (λ m. IsMade now ops m view.trees) timed.0 is.made) timed.1

-- a view that was made anew, whose operations were carried out
pub fresh_carried : (now : List TreeMap) (ops : List Op) (m : ℕ) → AreTrees now → AreCarriedOut now ops m → AreCarried now ops
fresh_carried now ops m are carried = record { are = are; carried = any_moment now are ops m 0 carried }

-- operations that were carried out, and one more
pub carried_more : (now : List TreeMap) (front done : List Op) (op : Op) (m : ℕ) (trees made : List TreeMap) → AreAfter now front m trees → legal trees op ≡ Ok Legal → made ≡ applied_one trees op m → done ≡ front ++ op ∷ [] → AreAfter now done m made
carried_more now front done op m trees made before allowed is all = subst (λ (ops : List Op). AreAfter now ops m made) (sym all) record {
  made = is ∙ ap (λ ts. applied_one ts op m) before.made ∙ sym (one_by_one now front (op ∷ []) m);
  carried = more now front op m before.carried (judged_of_legal (applied now front m) op may);
  light = none_heavy now front op m before.light (not_heavy (applied now front m) op m may);
}
  where
    may : legal (applied now front m) op ≡ Ok Legal
    may = ap (λ ts. legal ts op) (sym before.made) ∙ allowed

-- what a view says of an operation is so of what the transaction sees
pub legal_seen : (now : List TreeMap) (one : Transaction) (v : View) (op : Op) → IsViewNow now one.ops v → legal v.trees op ≡ legal (view now one) op
legal_seen now one v op is = legal_alike v.trees (view now one) (seen_at now one.ops v.moment v.trees one.moment is.made) op

pub judged_seen : (aside : ℕ) (now : List TreeMap) (number : ℕ) (one : Transaction) (v : View) (op : Op) (written : Judged) → (v.number ≡ number) × IsViewNow now one.ops v → WritesView v op (Some written) → too_long aside one op ≡ false → IsLegalIn aside now number one op written
judged_seen aside now number one v op written has is short = record {
  is_legal = sym (legal_seen now one v op has.1) ∙ is.is_legal;
  short = short;
  made = is.levels ∙ levels_same v.trees (view now one) (seen_at now one.ops v.moment v.trees one.moment has.1.made) op;
  numbered = ap (λ (x : View). x.number) is.made ∙ has.0;
  seen = written_view now one.ops v written.made op has.1 is.is_legal is.made;
}

-- a moment that was compared
pub at_moment : (moment : Option ℕ) (m : ℕ) → true ≡ option_eq ◌==◌ moment (Some m) → moment ≡ Some m
at_moment None m e = absurd (true≢false e)
at_moment (Some n) m e = ap Some (eqb-true n m (sym e))

all_parts : (P : Op → Type 0) (front : List Op) (op : Op) → AllByRecursion P (front ++ op ∷ []) → AllByRecursion P front × P op
all_parts P [] op h = (tt, h.0)
all_parts P (o ∷ front) op h = let rest = all_parts P front op h.1 in ((h.0, rest.0), rest.1)

apart_parts : (ops front : List Op) (op : Op) → OpsDontConflict ops (front ++ op ∷ []) → OpsDontConflict ops front × OpsDontConflict ops (op ∷ [])
apart_parts [] front op h = (tt, tt)
apart_parts (o ∷ ops) front op h =
    let here = all_parts (λ b. law.Conflict (claim_of o) (claim_of b) → ⊥) front op h.0 in
    let rest = apart_parts ops front op h.1 in
    ((here.0, rest.0), ((here.1, tt), rest.1))

pub carried_front : (now : List TreeMap) (ops : List Op) (n m : ℕ) → AreCarriedOut now ops m → AreCarriedOut now (take n ops) m
carried_front now [] zero m c = tt
carried_front now [] (suc n) m c = tt
carried_front now (op ∷ ops) zero m c = tt
carried_front now (op ∷ ops) (suc n) m c = (c.0, carried_front (applied_one now op m) ops n m c.1)

carried_last : (now : List TreeMap) (front : List Op) (op : Op) (m : ℕ) → AreCarriedOut now (front ++ op ∷ []) m → judged_in (applied now front m) op ≡ Ok Legal
carried_last now [] op m c = c.0
carried_last now (o ∷ front) op m c = carried_last (applied_one now o m) front op m c.1

-- a view after one operation more of a change
pub stays_more : EitherOrder → StaysLegal → (now trees : List TreeMap) (front done : List Op) (op : Op) (m number : ℕ) (view seen after : View) → StaysViewAfter now front m view seen → AreCarriedOut now done m → trees ≡ applied now front m → IsRebasedBy seen trees op m number after → done ≡ front ++ op ∷ [] →
    StaysViewAfter now done m view after
stays_more either stays now trees front done op m number view seen after kept carried made moves all = λ ops is apart.
    let both = apart_parts ops front op (subst (OpsDontConflict ops) all apart) in
    subst (λ ts. IsViewNow ts ops after) (sym (one_by_one now front (op ∷ []) m) ∙ ap (λ x. applied now x m) (sym all))
    (moved_view either stays (applied now front m) ops seen after op number m (kept ops is both.0) both.1 (carried_last now front op m (subst (λ x. AreCarriedOut now x m) all carried))
    (subst (λ ts. IsRebasedBy seen ts op m number after) made moves))

-- the trees of now after one operation more
pub trees_more : (now trees made : List TreeMap) (front done : List Op) (op : Op) (m : ℕ) → trees ≡ applied now front m → made ≡ applied_one trees op m → done ≡ front ++ op ∷ [] → made ≡ applied now done m
trees_more now trees made front done op m before is all = is ∙ ap (λ ts. applied_one ts op m) before ∙ sym (one_by_one now front (op ∷ []) m) ∙ ap (λ x. applied now x m) (sym all)

-- a view that was rebased, or none
pub moved_any : (now : List TreeMap) (number moment : ℕ) (ops change : List Op) (v : View) {E : Type 0} (r : Result (Option View) E) → IsViewNow now ops v → OpsDontConflict ops change →
    IfOk r (λ rebased. IfSome rebased (λ after. StaysViewAfter now change moment v after × (after.number ≡ number + 1))) → IfOk r (IsViewed (applied now change moment) (number + 1) ops)
moved_any now number moment ops change v (Ok (Some after)) is apart told = record {
  known = omega (arith, told.1);
  made = λ same. told.0 ops is apart;
}
moved_any now number moment ops change v (Ok None) is apart told = tt
moved_any now number moment ops change v (Err e) is apart told = tt

-- Views by their slots

pub none_moved : (now : List TreeMap) (number : ℕ) (there : Option Transaction) → IsRebasedTo now number there None
none_moved now number None = tt
none_moved now number (Some one) = tt

-- if no view was rebased
pub nothing_moved : (now : List TreeMap) (number : ℕ) (tx_slots : TxSlots) → AreRebased now number tx_slots []
nothing_moved now number tx_slots slot = none_moved now number (at tx_slots slot)

at_next : {A : Type 0} (xs : List A) (x d : A) (slot : ℕ) → (slice_index_or (xs ++ x ∷ []) slot d ≡ slice_index_or xs slot d) ⊎ ((slot ≡ length xs) × (slice_index_or (xs ++ x ∷ []) slot d ≡ x))
at_next [] x d zero = inr (refl, refl)
at_next [] x d (suc slot) = inl refl
at_next (y ∷ xs) x d zero = inl refl
at_next (y ∷ xs) x d (suc slot) = elim (at_next xs x d slot) [
  | inl e ↦ inl e
  | inr h ↦ inr (ap suc h.0, h.1)
]

at_end : {A : Type 0} (xs : List A) (x d : A) → slice_index_or (xs ++ x ∷ []) (length xs) d ≡ x
at_end [] x d = refl
at_end (y ∷ xs) x d = at_end xs x d

at_front : {A : Type 0} (xs : List A) (x d : A) (slot : ℕ) → (slice_index_or xs slot d ≡ slice_index_or (xs ++ x ∷ []) slot d) ⊎ (slice_index_or xs slot d ≡ d)
at_front [] x d slot = inr refl
at_front (y ∷ xs) x d zero = inl refl
at_front (y ∷ xs) x d (suc slot) = at_front xs x d slot

-- one more
pub moved_more : (now : List TreeMap) (number : ℕ) (tx_slots : TxSlots) (rebased : List (Option View)) (one : Option View) (slot : ℕ) → length rebased ≡ slot → AreRebased now number tx_slots rebased → IsRebasedTo now number (at tx_slots slot) one → AreRebased now number tx_slots (rebased ++ one ∷ [])
moved_more now number tx_slots rebased one slot long all its other = elim (at_next rebased one None other) [
  | inl e ↦ subst (IsRebasedTo now number (at tx_slots other)) (sym e) (all other)
  | inr h ↦ subst (IsRebasedTo now number (at tx_slots other)) (sym h.1) (subst (λ p. IsRebasedTo now number (at tx_slots p) one) (sym (h.0 ∙ long)) its)
]

-- one less, and that view
pub moved_less : (now : List TreeMap) (number : ℕ) (tx_slots : TxSlots) (rebased : List (Option View)) (one : Option View) → AreRebased now number tx_slots (rebased ++ one ∷ []) → AreRebased now number tx_slots rebased
moved_less now number tx_slots rebased one all other = elim (at_front rebased one None other) [
  | inl e ↦ subst (IsRebasedTo now number (at tx_slots other)) (sym e) (all other)
  | inr e ↦ subst (IsRebasedTo now number (at tx_slots other)) (sym e) (none_moved now number (at tx_slots other))
]

pub moved_last : (now : List TreeMap) (number : ℕ) (tx_slots : TxSlots) (rebased : List (Option View)) (one : Option View) → AreRebased now number tx_slots (rebased ++ one ∷ []) → IsRebasedTo now number (at tx_slots (length rebased)) one
moved_last now number tx_slots rebased one all = subst (IsRebasedTo now number (at tx_slots (length rebased))) (at_end rebased one None) (all (length rebased))

-- a change that conflicts with no claims of these operations
apart_all : (ops : List Op) (op : Op) → list_any (λ (o : Op). meets (claim_of op) (claim_of o)) ops ≡ false → OpsDontConflict ops (op ∷ [])
apart_all [] op none = tt
apart_all (o ∷ ops) op none =
    let parts = neither (meets (claim_of op) (claim_of o)) (list_any (λ (x : Op). meets (claim_of op) (claim_of x)) ops) none in
    ((λ c. true≢false (sym (conflict_meets (claim_of op) (claim_of o) (conflict_sym (claim_of o) (claim_of op) c)) ∙ parts.0), tt), apart_all ops op parts.1)
  where
    neither : (b c : Bool) → (b || c) ≡ false → (b ≡ false) × (c ≡ false)
    neither true c e = absurd (true≢false e)
    neither false c e = (refl, e)

apart_if : (op : Op) (one : Transaction) → is_active one ≡ true → holds (claim_of op) one ≡ false → OpsDontConflict one.ops (op ∷ [])
apart_if op one active none = apart_all one.ops op (sym (ap (λ b. b && list_any (λ (o : Op). meets (claim_of op) (claim_of o)) one.ops) active) ∙ none)

apart_none : (ops : List Op) → OpsDontConflict ops []
apart_none [] = tt
apart_none (o ∷ ops) = (tt, apart_none ops)

apart_more : (ops : List Op) (op : Op) (change : List Op) → OpsDontConflict ops (op ∷ []) → OpsDontConflict ops change → OpsDontConflict ops (op ∷ change)
apart_more [] op change one rest = tt
apart_more (o ∷ ops) op change one rest = ((one.0.0, rest.0), apart_more ops op change one.1 rest.1)

pub apart_all_if : (change : List Op) (one : Transaction) → is_active one ≡ true → MeetNone change (Some one) → OpsDontConflict one.ops change
apart_all_if [] one active none = apart_none one.ops
apart_all_if (op ∷ change) one active none = apart_more one.ops op change (apart_if op one active none.0) (apart_all_if change one active none.1)

-- an operation more
-- a key that a view doesn't have isn't there, at whatever moment
module _ (hive : ℕ) (path : List (List ℕ)) where
  none_named : (trees : List TreeMap) → info_in trees hive path ≡ None → value_names_in trees hive path ≡ None
  none_named trees e = by_hive (slice_get trees hive) e
    where
      by_row : (tree : TreeMap) (o : Option Row) → option_map (λ (key : Row). let info : Info = record { subkeys = length (subkeys tree path); values = finite.len key.values; time = key.time } in info) o ≡ None → option_map (λ (key : Row). map (λ (v : Value). v.name) (finite.values key.values)) o ≡ None
      by_row tree None e = refl
      by_row tree (Some key) e = cc

      by_hive : (o : Option TreeMap) → option_and_then (λ tree. info_of tree path) o ≡ None → option_and_then (λ tree. value_names_at tree path) o ≡ None
      by_hive None e = refl
      by_hive (Some tree) e = by_row tree (row tree path) e

  none_counted : (trees : List TreeMap) → value_names_in trees hive path ≡ None → info_in trees hive path ≡ None
  none_counted trees e = by_hive (slice_get trees hive) e
    where
      by_row : (tree : TreeMap) (o : Option Row) → option_map (λ (key : Row). map (λ (v : Value). v.name) (finite.values key.values)) o ≡ None → option_map (λ (key : Row). let info : Info = record { subkeys = length (subkeys tree path); values = finite.len key.values; time = key.time } in info) o ≡ None
      by_row tree None e = refl
      by_row tree (Some key) e = cc

      by_hive : (o : Option TreeMap) → option_and_then (λ tree. value_names_at tree path) o ≡ None → option_and_then (λ tree. info_of tree path) o ≡ None
      by_hive None e = refl
      by_hive (Some tree) e = by_row tree (row tree path) e

  pub missing_seen : (now : List TreeMap) (ops : List Op) (moment : Option ℕ) (trees : List TreeMap) (n : ℕ) → IsMade now ops moment trees → info_in trees hive path ≡ None → info_in (applied now ops n) hive path ≡ None
  missing_seen now ops moment trees n made none = none_counted (applied now ops n) (sym (value_names_alike trees (applied now ops n) (seen_at now ops moment trees n made) hive path) ∙ none_named trees none)
