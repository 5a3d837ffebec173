-- Encodings of paths, and the index keys of the keys on the way along one.
use Rattle.std.proofs.Common.{◌≡◌, ◌⊎◌, inl, inr, true, ℕ, suc, ◌+◌, ◌<◌, List, [], ◌∷◌, ◌++◌, map, min, length, take, get_or, refl, sym, ◌∙◌, ap, subst, arith, append-nil, append_assoc}
use Rattle.std.specs.Prelude.{Contains}
use Rattle.std.proofs.lemmas.Bool.{cases_lt}
use Rattle.std.proofs.lemmas.List.{map-append, take_more, length-map, take-map}
use Rattle.reg_names.specs.Names.{folded, folded_path}
use Rattle.conflicts.specs.Skeleton.{Same, ClaimKind, Shape, Hold, Claim, Conflict}
use Rattle.conflicts.specs.Claims.{meets}
use Rattle.conflicts.specs.IndexKeys.{IndexKey, name_text, path_text, key_text, index_key_text, text_hash, numbers_under, past_of, ExtendsBelow}
use Rattle.conflicts.specs.Index.{IsListed}
use Rattle.conflicts.specs.declared.index_keys.Index.{Index}
use Rattle.conflicts.proofs.IndexKeyRanges.{under_has}
use Rattle.conflicts.proofs.Members.{here, later, first_or_later, none_empty}
use Rattle.conflicts.proofs.Meets.{meets_conflict}

-- Elements of lists that are joined

pub in_front : {X : Type 0} (xs ys : List X) (x : X) → Contains xs x → Contains (xs ++ ys) x
in_front [] ys x c = absurd (none_empty x c)
in_front (z ∷ xs) ys x c = elim (first_or_later z xs x c) [
  | inl e ↦ subst (λ w. Contains (w ∷ xs ++ ys) x) (sym e) (here x (xs ++ ys))
  | inr d ↦ later z (xs ++ ys) x (in_front xs ys x d)
]

pub behind : {X : Type 0} (xs ys : List X) (x : X) → Contains ys x → Contains (xs ++ ys) x
behind [] ys x c = c
behind (z ∷ xs) ys x c = later z (xs ++ ys) x (behind xs ys x c)

-- Encodings

pub path_text-append : (p q : List (List ℕ)) → path_text (p ++ q) ≡ path_text p ++ path_text q
path_text-append [] q = refl
path_text-append (n ∷ p) q = ap (λ t. name_text n ++ t) (path_text-append p q) ∙ sym (append_assoc (name_text n) (path_text p) (path_text q))

module _ (names : List (List ℕ)) (i : ℕ) (name : List ℕ) (lt : i < length names) (is : name ≡ get_or names i name) (before text : List ℕ) (written : text ≡ before ++ path_text (folded_path (take i names))) where
  pub text_more : (after : List ℕ) → after ≡ text ++ name_text (folded name) → after ≡ before ++ path_text (folded_path (take (i + 1) names))
  text_more after e =
      let taken : take (i + 1) names ≡ take i names ++ name ∷ [] = take_more names i name lt ∙ ap (λ n. take i names ++ n ∷ []) (sym is) in
      let made : path_text (folded_path (take (i + 1) names)) ≡ path_text (folded_path (take i names)) ++ name_text (folded name) =
      ap (λ p. path_text (folded_path p)) taken ∙ ap path_text (map-append folded (take i names) (name ∷ [])) ∙ path_text-append (folded_path (take i names)) (folded name ∷ []) ∙ ap (λ t. path_text (folded_path (take i names)) ++ t) (append-nil (name_text (folded name))) in
      e ∙ ap (λ t. t ++ name_text (folded name)) written ∙ append_assoc before (path_text (folded_path (take i names))) (name_text (folded name)) ∙ ap (λ t. before ++ t) (sym made)

  pub gathered_more : (keys : List (ℕ × ℕ)) (hash : ℕ) (old new : List ℕ) → hash ≡ text_hash (text ++ 0 ∷ []) → new ≡ old ++ numbers_under hash keys
      → ((number j : ℕ) → number < 18446744073709551616 → j < i → Contains keys (text_hash ((before ++ path_text (folded_path (take j names))) ++ 0 ∷ []), number) → Contains old number)
      → (number j : ℕ) → number < 18446744073709551616 → j < i + 1 → Contains keys (text_hash ((before ++ path_text (folded_path (take j names))) ++ 0 ∷ []), number) → Contains new number
  gathered_more keys hash old new hashed joined was number j small below has =
      subst (λ xs. Contains xs number) (sym joined) (elim (cases_lt j i) [
        | inl less ↦ in_front old (numbers_under hash keys) number (was number j small less has)
        | inr not_less ↦
            let same : j ≡ i = omega (arith, below, not_less) in
            let here_is : text_hash ((before ++ path_text (folded_path (take j names))) ++ 0 ∷ []) ≡ hash = ap (λ k. text_hash ((before ++ path_text (folded_path (take k names))) ++ 0 ∷ [])) same ∙ ap (λ t. text_hash (t ++ 0 ∷ [])) (sym written) ∙ sym hashed in
            behind old (numbers_under hash keys) number (under_has hash number keys small (subst (λ h. Contains keys (h, number)) here_is has))
      ])

-- The index keys that may matter to a claim

clipped : (n : List ℕ) (rest : List ℕ) → (u : ℕ) × (r : List ℕ) × (u < 65535) × (name_text n ++ rest ≡ u ∷ r)
clipped [] rest = (92, rest, omega arith, refl)
clipped (x ∷ n) rest = (min x 65534, (map (λ u. min u 65534) n ++ 92 ∷ []) ++ rest, omega arith, refl)

last_bound : (kind : ClaimKind) → 0 < past_of kind
last_bound Shape = omega arith
last_bound Hold = omega arith

at_front : (p q : List (List ℕ)) → take (length p) (p ++ q) ≡ p
at_front [] q = refl
at_front (n ∷ p) q = ap (λ xs. n ∷ xs) (at_front p q)

-- an index key whose claim conflicts with one: its key is on the way to the claim's key, or is that, or for a Shape is
-- below
module _ (path : List (List ℕ)) (claim held : Claim) (spelled : claim.key.path ≡ folded_path path) (index_key : IndexKey) (at : index_key.0.items ≡ index_key_text held) where
  abbrev pub OnTheWay : Type 0
  OnTheWay = (j : ℕ) × (j < length path) × (index_key_text held ≡ (claim.key.hive ∷ [] ++ path_text (folded_path (take j path))) ++ 0 ∷ [])

  abbrev pub AtOrBelow : Type 0
  AtOrBelow = ExtendsBelow (key_text claim.key) (past_of claim.kind) index_key.0.items

  same_text : Same claim.key held.key → key_text held.key ≡ key_text claim.key
  same_text e = λ i. sym e.0 i ∷ path_text (sym e.1 i)

  pub where_near : Conflict claim held → OnTheWay ⊎ AtOrBelow
  where_near (inl same) = inr (0, [], last_bound claim.kind, at ∙ ap (λ t. t ++ 0 ∷ []) (same_text same))
  where_near (inr (inl (shape, below))) =
      let first = clipped below.1.0 (path_text below.1.1 ++ 0 ∷ []) in
      let text : path_text held.key.path ++ 0 ∷ [] ≡ path_text claim.key.path ++ (name_text below.1.0 ++ (path_text below.1.1 ++ 0 ∷ [])) =
      ap (λ p. path_text p ++ 0 ∷ []) below.1.2 ∙ ap (λ t. t ++ 0 ∷ []) (path_text-append claim.key.path (below.1.0 ∷ below.1.1)) ∙ append_assoc (path_text claim.key.path) (name_text below.1.0 ++ path_text below.1.1) (0 ∷ []) ∙ ap (λ t. path_text claim.key.path ++ t) (append_assoc (name_text below.1.0) (path_text below.1.1) (0 ∷ [])) in
      inr (first.0, first.1, subst (λ k. first.0 < past_of k) (sym shape) first.2, at ∙ (λ i. sym below.0 i ∷ text i) ∙ ap (λ t. key_text claim.key ++ t) first.3)
  where_near (inr (inr (shape, below))) =
      let longer : folded_path path ≡ held.key.path ++ below.1.0 ∷ below.1.1 = sym spelled ∙ below.1.2 in
      let n : length path ≡ length held.key.path + suc (length below.1.1) = sym (length-map path folded) ∙ ap length longer ∙ more held.key.path below.1.0 below.1.1 in
      let front : folded_path (take (length held.key.path) path) ≡ held.key.path = sym (take-map folded (length held.key.path) path) ∙ ap (take (length held.key.path)) longer ∙ at_front held.key.path (below.1.0 ∷ below.1.1) in
      inl (length held.key.path, omega (arith, n), λ i. below.0 i ∷ (path_text (sym front i) ++ 0 ∷ []))
    where
      more : (p : List (List ℕ)) (x : List ℕ) (r : List (List ℕ)) → length (p ++ x ∷ r) ≡ length p + suc (length r)
      more [] x r = omega arith
      more (y ∷ p) x r = let e : length (p ++ x ∷ r) ≡ length p + suc (length r) = more p x r in omega (arith, e)

module _ (path : List (List ℕ)) (claim held : Claim) (spelled : claim.key.path ≡ folded_path path) (index : Index) (number : ℕ) (small : number < 18446744073709551616) (listed : IsListed index number held)
    (start text : List ℕ) (begun : start ≡ claim.key.hive ∷ []) (written : text ≡ start ++ path_text (folded_path path)) (past : ℕ) (bound : past ≡ past_of claim.kind) (way more joined final : List ℕ)
    (on_way : (n j : ℕ) → n < 18446744073709551616 → j < length path → Contains index.hashes.keys (text_hash ((start ++ path_text (folded_path (take j path))) ++ 0 ∷ []), n) → Contains way n)
    (at_key : (s : IndexKey) → Contains index.index_keys.keys s → ExtendsBelow text past s.0.items → Contains more s.1) (both : joined ≡ way ++ more) (keeps : (n : ℕ) → Contains joined n → Contains final n) where
  pub near_has : meets claim held ≡ true → Contains final number
  near_has t = keeps number (subst (λ xs. Contains xs number) (sym both) (elim (where_near path claim held spelled listed.index_key listed.text (meets_conflict claim held t)) [
    | inl w ↦ in_front way more number (on_way number w.0 small w.1 (subst (λ x. Contains index.hashes.keys (text_hash x, number)) (w.2 ∙ ap (λ x. (x ++ path_text (folded_path (take w.0 path))) ++ 0 ∷ []) (sym begun)) listed.hashed))
    | inr b ↦ behind way more number (subst (λ n. Contains more n) listed.numbered (at_key listed.index_key listed.listed (subst (λ x. ExtendsBelow x past listed.index_key.0.items) (sym whole) (subst (λ n. ExtendsBelow (key_text claim.key) n listed.index_key.0.items) (sym bound) b))))
  ]))
    where
      whole : text ≡ key_text claim.key
      whole = written ∙ ap (λ x. x ++ path_text (folded_path path)) begun ∙ ap (λ p. claim.key.hive ∷ path_text p) (sym spelled)
