-- How a claim is put into the table's indexes, and taken out of them.
use Rattle.std.proofs.Common.{◌≡◌, ◌⊎◌, inl, inr, ℕ, ◌<◌, ◌≤◌, Bool, true, false, not, cond, List, [], ◌∷◌, ◌++◌, map, Some, refl, sym, ◌∙◌, ap, subst, arith}
use Rattle.std.specs.Prelude.{Contains, ◌==◌, ◌≢◌}
use Rattle.std.specs.List.Sorted.{IsStrictlySortedBy}
use Rattle.std.specs.List.{AllByRecursion}
use Rattle.std.specs.Ordering.{nat_cmp, is_eq, ordering_then, match_ordering}
use Rattle.std.specs.Cmp.{tied_itself, nat_cmp_is}
use Rattle.std.specs.Cmp.Lexicographic.{slice_cmp}
use Rattle.std.specs.FinMap.{nat_cmp-IsAntisymmetric}
use Rattle.std.specs.Map.{lookup, remove_entry}
use Rattle.std.specs.Set.{remove_key}
use Rattle.std.specs.BTreeMap.{is_at, insert_entry}
use Rattle.std.specs.BTreeSet.{insert_key}
use Rattle.std.specs.declared.cmp.Ordering.{Ordering}
use Rattle.std.specs.declared.cmp.Ordering.TheVariants.{Less, Equal, Greater}
use Rattle.std.proofs.lemmas.Cmp.{nat_cmp_total}
use Rattle.std.proofs.lemmas.Bool.{eqb-true, eq-eqb, cases_eq}
use Rattle.reg_tree_parts.proofs.Keys.{names_apart}
use Rattle.conflicts.proofs.Tests.{never}
use Rattle.conflicts.specs.declared.table.IndexedClaim.{IndexedClaim}
use Rattle.conflicts.specs.Holders.{without_owner}
use Rattle.conflicts.specs.ClaimIndexes.{Numbered, claims_of, IsInIndexes, AreInIndexes, TakesOwn, LeavesOthers}
use Rattle.conflicts.specs.IndexKeys.{IndexKey, index_key_order, pair_order}
use Rattle.conflicts.specs.Index.{IsListed, KeepsOthers}
use Rattle.conflicts.specs.declared.index_keys.Index.{Index}
use Rattle.conflicts.specs.Skeleton.{Claim}
use Rattle.conflicts.proofs.Members.{here, later, first_or_later, none_empty}

-- Sets

module _ {K : Type 0} (cmp : K → K → Ordering) where
  -- an insertion keeps what is there
  pub insert_keeps : (xs : List K) (k y : K) → Contains xs y → Contains (insert_key cmp xs k) y
  insert_keeps [] k y c = absurd (none_empty y c)
  insert_keeps (x ∷ xs) k y c = by_case (λ d. insert_keeps xs k y d) (cmp k x)
    where
      by_case : (Contains xs y → Contains (insert_key cmp xs k) y) → (o : Ordering) → Contains (match_ordering o (k ∷ x ∷ xs) (x ∷ xs) (x ∷ insert_key cmp xs k)) y
      by_case rest Less = later k (x ∷ xs) y c
      by_case rest Equal = c
      by_case rest Greater = elim (first_or_later x xs y c) [
        | inl e ↦ subst (λ z. Contains (z ∷ insert_key cmp xs k) y) (sym e) (here y (insert_key cmp xs k))
        | inr d ↦ later x (insert_key cmp xs k) y (rest d)
      ]

  -- and brings in the key, or has one that ties with it
  pub insert_brings : (xs : List K) (k : K) → (y : K) × Contains (insert_key cmp xs k) y × ((k ≡ y) ⊎ (cmp k y ≡ Equal))
  insert_brings [] k = (k, here k [], inl refl)
  insert_brings (x ∷ xs) k = by_case (insert_brings xs k) (cmp k x) refl
    where
      by_case : ((y : K) × Contains (insert_key cmp xs k) y × ((k ≡ y) ⊎ (cmp k y ≡ Equal))) → (o : Ordering) → cmp k x ≡ o → (y : K) × Contains (match_ordering o (k ∷ x ∷ xs) (x ∷ xs) (x ∷ insert_key cmp xs k)) y × ((k ≡ y) ⊎ (cmp k y ≡ Equal))
      by_case rest Less e = (k, here k (x ∷ xs), inl refl)
      by_case rest Equal e = (x, here x xs, inr e)
      by_case rest Greater e = (rest.0, later x (insert_key cmp xs k) rest.0 rest.1, rest.2)

  -- a removal keeps all others
  pub remove_keeps : (test : K → Bool) (xs : List K) (y : K) → Contains xs y → test y ≡ false → Contains (remove_key test xs) y
  remove_keeps test [] y c f = c
  remove_keeps test (x ∷ xs) y c f = by_case (λ d. remove_keeps test xs y d f) (test x) refl
    where
      by_case : (Contains xs y → Contains (remove_key test xs) y) → (b : Bool) → test x ≡ b → Contains (cond b xs (x ∷ remove_key test xs)) y
      by_case rest true t = elim (first_or_later x xs y c) [ inl e ↦ never (sym f ∙ ap test (sym e) ∙ t) | inr d ↦ d ]
      by_case rest false t = elim (first_or_later x xs y c) [
        | inl e ↦ subst (λ z. Contains (z ∷ remove_key test xs) y) (sym e) (here y (remove_key test xs))
        | inr d ↦ later x (remove_key test xs) y (rest d)
      ]

-- Numbers and pairs that tie are equal

both_equal : (o p : Ordering) → ordering_then o p ≡ Equal → (o ≡ Equal) × (p ≡ Equal)
both_equal Less p e = cc
both_equal Equal p e = (refl, e)
both_equal Greater p e = cc

pair_is : (p q : ℕ × ℕ) → pair_order p q ≡ Equal → p ≡ q
pair_is p q e =
    let parts = both_equal (nat_cmp p.0 q.0) (nat_cmp p.1 q.1) e in
    let first : p.0 ≡ q.0 = nat_cmp-IsAntisymmetric p.0 q.0 parts.0 in
    let second : p.1 ≡ q.1 = nat_cmp-IsAntisymmetric p.1 q.1 parts.1 in
    λ i. (first i, second i)

pub pair_brought : (xs : List (ℕ × ℕ)) (p : ℕ × ℕ) → Contains (insert_key pair_order xs p) p
pair_brought xs p =
    let got = insert_brings pair_order xs p in
    elim got.2 [ inl e ↦ subst (λ q. Contains (insert_key pair_order xs p) q) (sym e) got.1 | inr t ↦ subst (λ q. Contains (insert_key pair_order xs p) q) (sym (pair_is p got.0 t)) got.1 ]

index_key_is : (s t : IndexKey) → index_key_order s t ≡ Equal → (s.0.items ≡ t.0.items) × (s.1 ≡ t.1)
index_key_is s t e =
    let parts = both_equal (slice_cmp nat_cmp s.0.items t.0.items) (nat_cmp s.1 t.1) e in
    (names_apart s.0.items t.0.items parts.0, nat_cmp-IsAntisymmetric s.1 t.1 parts.1)

pub index_key_brought : (xs : List IndexKey) (s : IndexKey) → (t : IndexKey) × Contains (insert_key index_key_order xs s) t × (t.0.items ≡ s.0.items) × (t.1 ≡ s.1)
index_key_brought xs s =
    let got = insert_brings index_key_order xs s in
    elim got.2 [
      | inl e ↦ (got.0, got.1, ap (λ (x : IndexKey). x.0.items) (sym e), ap (λ (x : IndexKey). x.1) (sym e))
      | inr t ↦ let same = index_key_is s got.0 t in (got.0, got.1, sym same.0, sym same.1)
    ]

-- The claims by number

-- a number above all goes to the end
pub put_last : (kept : List Numbered) (n : ℕ) (k : IndexedClaim) → ((m : ℕ) (h : IndexedClaim) → Contains kept (m, h) → m < n) → insert_entry nat_cmp kept n k ≡ kept ++ (n, k) ∷ []
put_last [] n k below = refl
put_last (e ∷ kept) n k below =
    ap (λ o. match_ordering o ((n, k) ∷ e ∷ kept) ((e.0, k) ∷ kept) (e ∷ insert_entry nat_cmp kept n k)) (sym (nat_cmp_is n e.0 Greater (below e.0 e.1 (here e kept))))
    ∙ ap (λ xs. e ∷ xs) (put_last kept n k (λ m h c. below m h (later e kept (m, h) c)))

-- and is taken out there again
pub take_last : (kept : List Numbered) (n : ℕ) (k : IndexedClaim) → ((m : ℕ) (h : IndexedClaim) → Contains kept (m, h) → m < n) → remove_entry (is_at (nat_cmp n)) (kept ++ (n, k) ∷ []) ≡ kept
take_last [] n k below = ap (λ o. cond (is_eq o) [] ((n, k) ∷ [])) (tied_itself nat_cmp_total n)
take_last (e ∷ kept) n k below =
    ap (λ o. cond (is_eq o) (kept ++ (n, k) ∷ []) (e ∷ remove_entry (is_at (nat_cmp n)) (kept ++ (n, k) ∷ []))) (sym (nat_cmp_is n e.0 Greater (below e.0 e.1 (here e kept))))
    ∙ ap (λ xs. e ∷ xs) (take_last kept n k (λ m h c. below m h (later e kept (m, h) c)))

-- one that is put in is new or was there
pub put_or_there : (kept : List Numbered) (last : Numbered) (e : Numbered) → Contains (kept ++ last ∷ []) e → Contains kept e ⊎ (last ≡ e)
put_or_there [] last e c = elim (first_or_later last [] e c) [ inl s ↦ inr s | inr d ↦ inl d ]
put_or_there (x ∷ kept) last e c = elim (first_or_later x (kept ++ last ∷ []) e c) [
  | inl s ↦ inl (subst (λ z. Contains (x ∷ kept) z) s (here x kept))
  | inr d ↦ elim (put_or_there kept last e d) [ inl k ↦ inl (later x kept e k) | inr s ↦ inr s ]
]

-- The whole

-- indexes may have more
pub widened : (next wider : ℕ) (index more : Index) (owned others : List (ℕ × ℕ)) (kept : List Numbered) → AreInIndexes next index owned kept → next ≤ wider → ((n : ℕ) (claim : Claim) → n < next → IsListed index n claim → IsListed more n claim) → ((p : ℕ × ℕ) → Contains owned p → Contains others p)
    → AreInIndexes wider more others kept
widened next wider index more owned others kept are le all_listed all_owned = record {
  rises = are.rises;
  in_indexes = λ n k c. let f : IsInIndexes next index owned n k.entry = are.in_indexes n k c in
      let below : n < next = f.below in
      record { below = omega (arith, below, le); listed = all_listed n k.entry.claim below f.listed; owner = all_owned (n_pair k n) (f.owner) };
  index_keys_known = are.index_keys_known;
}
  where
    n_pair : IndexedClaim → ℕ → ℕ × ℕ
    n_pair k n = (k.entry.owner, n)

-- one claim more at the end
pub put_in : (next wider n : ℕ) (index more : Index) (owned others : List (ℕ × ℕ)) (kept all : List Numbered) (k : IndexedClaim) → AreInIndexes next index owned kept → next ≤ wider → n < wider → ((m : ℕ) (claim : Claim) → m < next → IsListed index m claim → IsListed more m claim) → ((p : ℕ × ℕ) → Contains owned p → Contains others p)
    → all ≡ kept ++ (n, k) ∷ [] → IsStrictlySortedBy nat_cmp (map (λ (e : Numbered). e.0) all) → IsListed more n k.entry.claim → Contains others (k.entry.owner, n) → k.index_key.1 ≡ n
    → AreInIndexes wider more others all
put_in next wider n index more owned others kept all k are le lt all_listed all_owned is rises listed own known = record {
  rises = rises;
  in_indexes = λ m h c. elim (put_or_there kept (n, k) (m, h) (subst (λ xs. Contains xs (m, h)) is c)) [
    | inl d ↦ let w : AreInIndexes wider more others kept = widened next wider index more owned others kept are le all_listed all_owned in w.in_indexes m h d
    | inr e ↦ subst (λ (x : Numbered). IsInIndexes wider more others x.0 x.1.entry) e (record { below = lt; listed = listed; owner = own })
  ];
  index_keys_known = λ m h c. elim (put_or_there kept (n, k) (m, h) (subst (λ xs. Contains xs (m, h)) is c)) [
    | inl d ↦ are.index_keys_known m h d
    | inr e ↦ subst (λ (x : Numbered). x.1.index_key.1 ≡ x.0) e known
  ];
}

-- Taking claims out

pub other_number : (m n : ℕ) → m ≢ n → is_eq (nat_cmp m n) ≡ false
other_number m n ne = by_order (nat_cmp m n) refl
  where
    by_order : (o : Ordering) → nat_cmp m n ≡ o → is_eq o ≡ false
    by_order Less e = refl
    by_order Equal e = absurd (ne (nat_cmp-IsAntisymmetric m n e))
    by_order Greater e = refl

same_number : (n : ℕ) → is_eq (nat_cmp n n) ≡ true
same_number n = ap is_eq (tied_itself nat_cmp_total n)

pub not_tied : (o p : Ordering) → is_eq p ≡ false → is_eq (ordering_then o p) ≡ false
not_tied Less p f = refl
not_tied Equal p f = f
not_tied Greater p f = refl

-- if a number was looked up, its claim is there
lookup_has : (kept : List Numbered) (n : ℕ) (k : IndexedClaim) → lookup (is_at (nat_cmp n)) kept ≡ Some k → Contains kept (n, k)
lookup_has [] n k e = cc
lookup_has (x ∷ kept) n k e = by_case (lookup_has kept n k) (nat_cmp n x.0) refl e
  where
    by_case : (lookup (is_at (nat_cmp n)) kept ≡ Some k → Contains kept (n, k)) → (o : Ordering) → nat_cmp n x.0 ≡ o → cond (is_eq o) (Some x.1) (lookup (is_at (nat_cmp n)) kept) ≡ Some k → Contains (x ∷ kept) (n, k)
    by_case rest Less t e = later x kept (n, k) (rest e)
    by_case rest Equal t e =
        let first : n ≡ x.0 = nat_cmp-IsAntisymmetric n x.0 t in
        let second : x.1 ≡ k = cc in
        subst (λ (z : Numbered). Contains (x ∷ kept) z) (λ i. (sym first i, second i)) (here x kept)
    by_case rest Greater t e = later x kept (n, k) (rest e)

less_apart : (m n : ℕ) → nat_cmp m n ≡ Less → m ≢ n
less_apart m n e same = let c : Equal ≡ Less = sym (tied_itself nat_cmp_total n) ∙ ap (λ x. nat_cmp x n) (sym same) ∙ e in cc

apart_from_all : (n : ℕ) (kept : List Numbered) → AllByRecursion (λ x. nat_cmp n x ≡ Less) (map (λ (e : Numbered). e.0) kept) → (m : ℕ) (h : IndexedClaim) → Contains kept (m, h) → n ≢ m
apart_from_all n [] a m h c = absurd (none_empty (m, h) c)
apart_from_all n (x ∷ kept) a m h c = elim (first_or_later x kept (m, h) c) [
  | inl e ↦ subst (λ (z : Numbered). n ≢ z.0) e (less_apart n x.0 a.0)
  | inr d ↦ apart_from_all n kept a.1 m h d
]

-- the claim that is there under a number is looked up
pub has_lookup : (kept : List Numbered) → IsStrictlySortedBy nat_cmp (map (λ (e : Numbered). e.0) kept) → (n : ℕ) (k : IndexedClaim) → Contains kept (n, k) → lookup (is_at (nat_cmp n)) kept ≡ Some k
unfolding IsStrictlySortedBy
has_lookup [] r n k c = absurd (none_empty (n, k) c)
has_lookup (x ∷ kept) r n k c = elim (first_or_later x kept (n, k) c) [
  | inl e ↦ ap (λ (z : Numbered). cond (is_eq (nat_cmp n z.0)) (Some z.1) (lookup (is_at (nat_cmp n)) kept)) e ∙ ap (λ b. cond b (Some k) (lookup (is_at (nat_cmp n)) kept)) (same_number n)
  | inr d ↦ ap (λ b. cond b (Some x.1) (lookup (is_at (nat_cmp n)) kept)) (other_number n x.0 (λ s. apart_from_all x.0 kept r.0 n k d (sym s))) ∙ has_lookup kept r.1 n k d
]

-- what is left after a number was taken out was there, under another number
left_over : (kept : List Numbered) → IsStrictlySortedBy nat_cmp (map (λ (e : Numbered). e.0) kept) → (n m : ℕ) (h : IndexedClaim) → Contains (remove_entry (is_at (nat_cmp n)) kept) (m, h) → Contains kept (m, h) × (n ≢ m)
unfolding IsStrictlySortedBy
left_over [] r n m h c = absurd (none_empty (m, h) c)
left_over (x ∷ kept) r n m h c = by_case (left_over kept r.1 n m h) (nat_cmp n x.0) refl c
  where
    by_case : (Contains (remove_entry (is_at (nat_cmp n)) kept) (m, h) → Contains kept (m, h) × (n ≢ m)) → (o : Ordering) → nat_cmp n x.0 ≡ o → Contains (cond (is_eq o) kept (x ∷ remove_entry (is_at (nat_cmp n)) kept)) (m, h) → Contains (x ∷ kept) (m, h) × (n ≢ m)
    by_case rest Less t c = elim (first_or_later x (remove_entry (is_at (nat_cmp n)) kept) (m, h) c) [
      | inl e ↦ (subst (λ z. Contains (x ∷ kept) z) e (here x kept), subst (λ (z : Numbered). n ≢ z.0) e (less_apart n x.0 t))
      | inr d ↦ (later x kept (m, h) (rest d).0, (rest d).1)
    ]
    by_case rest Equal t c = (later x kept (m, h) c, λ s. apart_from_all x.0 kept r.0 m h c (sym (nat_cmp-IsAntisymmetric n x.0 t) ∙ s))
    by_case rest Greater t c = elim (first_or_later x (remove_entry (is_at (nat_cmp n)) kept) (m, h) c) [
      | inl e ↦ (subst (λ z. Contains (x ∷ kept) z) e (here x kept), subst (λ (z : Numbered). n ≢ z.0) e (λ s. let bad : Equal ≡ Greater = sym (tied_itself nat_cmp_total x.0) ∙ ap (λ y. nat_cmp y x.0) (sym s) ∙ t in cc))
      | inr d ↦ (later x kept (m, h) (rest d).0, (rest d).1)
    ]

-- the others' claims are the same without one of the owner's
pub others_same : (kept : List Numbered) (n owner : ℕ) (k : IndexedClaim) → lookup (is_at (nat_cmp n)) kept ≡ Some k → k.entry.owner ≡ owner → without_owner (claims_of (remove_entry (is_at (nat_cmp n)) kept)) owner ≡ without_owner (claims_of kept) owner
others_same [] n owner k e own = refl
others_same (x ∷ kept) n owner k e own = by_case (others_same kept n owner k) (is_eq (nat_cmp n x.0)) e
  where
    by_case : (lookup (is_at (nat_cmp n)) kept ≡ Some k → k.entry.owner ≡ owner → without_owner (claims_of (remove_entry (is_at (nat_cmp n)) kept)) owner ≡ without_owner (claims_of kept) owner) → (b : Bool) → cond b (Some x.1) (lookup (is_at (nat_cmp n)) kept) ≡ Some k
        → without_owner (claims_of (cond b kept (x ∷ remove_entry (is_at (nat_cmp n)) kept))) owner ≡ without_owner (x.1.entry ∷ claims_of kept) owner
    by_case rest true e =
        let same : x.1 ≡ k = cc in
        let owned : (x.1.entry.owner == owner) ≡ true = ap (λ (z : IndexedClaim). z.entry.owner == owner) same ∙ eq-eqb k.entry.owner owner own in
        sym (ap (λ b. cond (not b) (x.1.entry ∷ without_owner (claims_of kept) owner) (without_owner (claims_of kept) owner)) owned)
    by_case rest false e = ap (λ hs. cond (not (x.1.entry.owner == owner)) (x.1.entry ∷ hs) hs) (rest e own)

-- if the owner has none, dropping them changes nothing
pub none_left : (kept : List Numbered) (owner : ℕ) → ((n : ℕ) (k : IndexedClaim) → Contains kept (n, k) → k.entry.owner ≢ owner) → without_owner (claims_of kept) owner ≡ claims_of kept
none_left [] owner h = refl
none_left (x ∷ kept) owner h =
    ap (λ b. cond (not b) (x.1.entry ∷ without_owner (claims_of kept) owner) (without_owner (claims_of kept) owner)) (apart (x.1.entry.owner == owner) refl)
    ∙ ap (λ hs. x.1.entry ∷ hs) (none_left kept owner (λ n k c. h n k (later x kept (n, k) c)))
  where
    apart : (b : Bool) → (x.1.entry.owner == owner) ≡ b → (x.1.entry.owner == owner) ≡ false
    apart false e = e
    apart true e = absurd (h x.0 x.1 (here x kept) (eqb-true x.1.entry.owner owner e))

module _ (next : ℕ) (index : Index) (owned others : List (ℕ × ℕ)) (kept new : List Numbered) (owner n : ℕ) (listed : ℕ × ℕ) (first : listed.0 ≡ owner) (second : listed.1 ≡ n) (removed : others ≡ remove_key (is_at (pair_order listed)) owned) (are : AreInIndexes next index owned kept) where
  -- a pair with another number stays, and so does one with another owner
  stays_number : (p : ℕ × ℕ) → Contains owned p → n ≢ p.1 → Contains others p
  stays_number p c ne = subst (λ xs. Contains xs p) (sym removed) (remove_keeps pair_order (is_at (pair_order listed)) owned p c (not_tied (nat_cmp listed.0 p.0) (nat_cmp listed.1 p.1) (other_number listed.1 p.1 (λ s. ne (sym second ∙ s)))))

  stays_owner : (p : ℕ × ℕ) → Contains owned p → owner ≢ p.0 → Contains others p
  stays_owner p c ne = subst (λ xs. Contains xs p) (sym removed) (remove_keeps pair_order (is_at (pair_order listed)) owned p c (first_apart (nat_cmp listed.0 p.0) (nat_cmp listed.1 p.1) (other_number listed.0 p.0 (λ s. ne (sym first ∙ s)))))
    where
      first_apart : (o q : Ordering) → is_eq o ≡ false → is_eq (ordering_then o q) ≡ false
      first_apart Less q f = refl
      first_apart Equal q f = never (sym f)
      first_apart Greater q f = refl

  -- after a claim of the owner was taken out, with its index key
  pub filed_without : (fewer : Index) (one : IndexedClaim) → TakesOwn kept new owner n one → IsStrictlySortedBy nat_cmp (map (λ (e : Numbered). e.0) new) → KeepsOthers index fewer one.index_key.1 → AreInIndexes next fewer others new
  filed_without fewer one takes rises less = record {
    rises = rises;
    in_indexes = λ m h c. let was = left_over kept are.rises n m h (subst (λ xs. Contains xs (m, h)) takes.is c) in
        let f : IsInIndexes next index owned m h.entry = are.in_indexes m h was.0 in
        let known : one.index_key.1 ≡ n = are.index_keys_known n one (lookup_has kept n one takes.was) in
        record {
          below = f.below;
          listed = less m h.entry.claim (λ s. was.1 (sym known ∙ s)) f.listed;
          owner = stays_number (h.entry.owner, m) f.owner was.1;
        };
    index_keys_known = λ m h c. are.index_keys_known m h (left_over kept are.rises n m h (subst (λ xs. Contains xs (m, h)) takes.is c)).0;
  }

  -- and if there was none
  pub filed_still : LeavesOthers kept new owner n → AreInIndexes next index others new
  filed_still leaves = subst (λ xs. AreInIndexes next index others xs) (sym leaves.same) (record {
    rises = are.rises;
    in_indexes = λ m h c. let f : IsInIndexes next index owned m h.entry = are.in_indexes m h c in
        record {
          below = f.below;
          listed = f.listed;
          owner = elim (cases_eq n m) [
            | inl s ↦ stays_owner (h.entry.owner, m) f.owner (λ o. leaves.others h (has_lookup kept are.rises n h (subst (λ x. Contains kept (x, h)) (sym s) c)) (sym o))
            | inr ne ↦ stays_number (h.entry.owner, m) f.owner ne
          ];
        };
    index_keys_known = are.index_keys_known;
  })

-- the owner has no claim if no number is listed under it
pub none_owned : (next : ℕ) (index : Index) (owned : List (ℕ × ℕ)) (kept : List Numbered) (owner : ℕ) → AreInIndexes next index owned kept → next < 18446744073709551616 → ((number : ℕ) → number < 18446744073709551616 → Contains owned (owner, number) → ⊥)
    → without_owner (claims_of kept) owner ≡ claims_of kept
none_owned next index owned kept owner are small none = none_left kept owner (λ n k c e.
    let f : IsInIndexes next index owned n k.entry = are.in_indexes n k c in
    let below : n < next = f.below in
    none n (omega (arith, below, small)) (subst (λ o. Contains owned (o, n)) e f.owner))
