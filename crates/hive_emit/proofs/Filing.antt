-- Descriptors with their indexes, by a map; so that none is kept twice.
use Rattle.std.proofs.Common.{◌≡◌, ◌⊎◌, inl, inr, ℕ, zero, suc, ◌+◌, Bool, true, false, cond, List, [], ◌∷◌, ◌++◌, length, map, slice_get, refl, sym, ◌∙◌, ap, subst, arith, Option, Some, None}
use Rattle.std.specs.Global.{Vec}
use Rattle.std.specs.Ordering.{nat_cmp, is_eq, match_ordering}
use Rattle.std.specs.Cmp.{tied_itself}
use Rattle.std.specs.Cmp.Lexicographic.{slice_cmp}
use Rattle.std.specs.BTreeMap.{insert_entry}
use Rattle.std.specs.declared.cmp.Ordering.{Ordering}
use Rattle.std.specs.declared.cmp.Ordering.TheVariants.{Less, Equal, Greater}
use Rattle.reg_tree_parts.proofs.Finds.{equal_of}
use Rattle.reg_tree_parts.proofs.Keys.{names_total, names_apart}
use Rattle.hive_tree_model.proofs.Basics.{some_same}
use Rattle.hive_tree_model.specs.Lists.{IsIn}
use Rattle.hive_emit.specs.declared.security.SecurityEntry.{SecurityEntry}
use Rattle.hive_emit.specs.EmittedKeys.{Has}
use Rattle.hive_emit.specs.SecurityTables.{index_of, AreFiled, HasDescriptorAt, AreApart, tallies}

abbrev pub order : Vec ℕ → Vec ℕ → Ordering
order k j = slice_cmp nat_cmp k.items j.items

tied : (xs ys : List ℕ) → xs ≡ ys → is_eq (slice_cmp nat_cmp xs ys) ≡ true
tied xs ys e = ap (λ (zs : List ℕ). is_eq (slice_cmp nat_cmp xs zs)) (sym e) ∙ ap is_eq (tied_itself names_total xs)

untied : (xs ys : List ℕ) → (xs ≡ ys → ⊥) → is_eq (slice_cmp nat_cmp xs ys) ≡ false
untied xs ys apart = by (is_eq (slice_cmp nat_cmp xs ys)) refl
  where
    by : (b : Bool) → is_eq (slice_cmp nat_cmp xs ys) ≡ b → is_eq (slice_cmp nat_cmp xs ys) ≡ false
    by true e = absurd (apart (names_apart xs ys (equal_of (slice_cmp nat_cmp xs ys) e)))
    by false e = e

-- what an insertion makes of the indexes
pub placed_here : (es : List (Vec ℕ × ℕ)) (k : Vec ℕ) (v : ℕ) (d : List ℕ) → k.items ≡ d → index_of (insert_entry order es k v) d ≡ Some v
placed_here [] k v d e = ap (λ (b : Bool). cond b (Some v) (index_of [] d)) (tied d k.items (sym e))
placed_here (x ∷ es) k v d e = by (placed_here es k v d e) (order k x.0) refl
  where
    by : index_of (insert_entry order es k v) d ≡ Some v → (o : Ordering) → order k x.0 ≡ o → index_of (match_ordering o ((k, v) ∷ x ∷ es) ((x.0, v) ∷ es) (x ∷ insert_entry order es k v)) d ≡ Some v
    by rest Less f = ap (λ (b : Bool). cond b (Some v) (index_of (x ∷ es) d)) (tied d k.items (sym e))
    by rest Equal f = let key : (let y = x.0 in k.items ≡ y.items) = names_apart k.items (let y = x.0 in y.items) f in ap (λ (b : Bool). cond b (Some v) (index_of es d)) (tied d (let y = x.0 in y.items) (sym e ∙ key))
    by rest Greater f =
        let other : (let y = x.0 in d ≡ y.items → ⊥) = λ same. let tie : order k x.0 ≡ Equal = ap (slice_cmp nat_cmp k.items) (sym (e ∙ same)) ∙ tied_itself names_total k.items in let never : ⊥ = cc in never in
        ap (λ (b : Bool). cond b (Some x.1) (index_of (insert_entry order es k v) d)) (untied d (let y = x.0 in y.items) other) ∙ rest

pub placed_other : (es : List (Vec ℕ × ℕ)) (k : Vec ℕ) (v : ℕ) (d : List ℕ) → (k.items ≡ d → ⊥) → index_of (insert_entry order es k v) d ≡ index_of es d
placed_other [] k v d apart = ap (λ (b : Bool). cond b (Some v) (index_of [] d)) (untied d k.items (λ e. apart (sym e)))
placed_other (x ∷ es) k v d apart = by (placed_other es k v d apart) (order k x.0) refl
  where
    by : index_of (insert_entry order es k v) d ≡ index_of es d → (o : Ordering) → order k x.0 ≡ o → index_of (match_ordering o ((k, v) ∷ x ∷ es) ((x.0, v) ∷ es) (x ∷ insert_entry order es k v)) d ≡ index_of (x ∷ es) d
    by rest Less f = ap (λ (b : Bool). cond b (Some v) (index_of (x ∷ es) d)) (untied d k.items (λ e. apart (sym e)))
    by rest Equal f =
        let key : (let y = x.0 in k.items ≡ y.items) = names_apart k.items (let y = x.0 in y.items) f in
        let out : is_eq (slice_cmp nat_cmp d (let y = x.0 in y.items)) ≡ false = untied d (let y = x.0 in y.items) (λ e. apart (key ∙ sym e)) in
        ap (λ (b : Bool). cond b (Some v) (index_of es d)) out ∙ sym (ap (λ (b : Bool). cond b (Some x.1) (index_of es d)) out)
    by rest Greater f = ap (λ (p : Option ℕ). cond (is_eq (slice_cmp nat_cmp d (let y = x.0 in y.items))) (Some x.1) p) rest

-- a descriptor without an index in the map is not kept, and none is kept at another index than the map has for it
pub none_filed : (es : List (Vec ℕ × ℕ)) (cells : List SecurityEntry) (d : List ℕ) → AreFiled es cells → None ≡ index_of es d → Has cells d → ⊥
none_filed es cells d filed none has = let e : None ≡ Some has.place = none ∙ ap (index_of es) (sym has.same) ∙ filed has.place has.security has.is in let never : ⊥ = cc in never

pub filed_there : (es : List (Vec ℕ × ℕ)) (cells : List SecurityEntry) (place : ℕ) (d : List ℕ) → AreFiled es cells → Some place ≡ index_of es d → Has cells d → HasDescriptorAt cells place d
filed_there es cells place d filed there has =
    let same : has.place ≡ place = some_same has.place place (sym (filed has.place has.security has.is) ∙ ap (index_of es) has.same ∙ sym there) in
    subst (λ (i : ℕ). HasDescriptorAt cells i d) same (record { security = has.security; is = has.is; same = has.same })

-- cells that are filed stay so
pub filed_put : (es : List (Vec ℕ × ℕ)) (cells : List SecurityEntry) (k : Vec ℕ) (v : ℕ) (d : List ℕ) → k.items ≡ d → (Has cells d → ⊥) → AreFiled es cells → AreFiled (insert_entry order es k v) cells
filed_put es cells k v d same fresh filed i s e = placed_other es k v s.descriptor (λ it. fresh (record { place = i; security = s; is = e; same = sym it ∙ same })) ∙ filed i s e

got_push : (cells : List SecurityEntry) (new : SecurityEntry) (i : ℕ) (s : SecurityEntry) → slice_get (cells ++ new ∷ []) i ≡ Some s → (slice_get cells i ≡ Some s) ⊎ ((i ≡ length cells) × (s ≡ new))
got_push [] new zero s e = let same : new ≡ s = cc in inr (refl, sym same)
got_push [] new (suc i) s e = absurd (let no : ⊥ = cc in no)
got_push (c ∷ cells) new zero s e = inl e
got_push (c ∷ cells) new (suc i) s e = elim (got_push cells new i s e) [ inl f ↦ inl f | inr f ↦ inr (ap suc f.0, f.1) ]

pub filed_push : (es : List (Vec ℕ × ℕ)) (cells : List SecurityEntry) (k : Vec ℕ) (v : ℕ) (new : SecurityEntry) → k.items ≡ new.descriptor → v ≡ length cells → (Has cells new.descriptor → ⊥) → AreFiled es cells → AreFiled (insert_entry order es k v) (cells ++ new ∷ [])
filed_push es cells k v new same long fresh filed i s e = elim (got_push cells new i s e) [
  | inl f ↦ filed_put es cells k v new.descriptor same fresh filed i s f
  | inr f ↦ placed_here es k v s.descriptor (same ∙ ap (λ (x : SecurityEntry). x.descriptor) (sym f.1)) ∙ ap Some (long ∙ sym f.0)
]

-- and none of them has the descriptor of another
in_at : (d : List ℕ) (cells : List SecurityEntry) → IsIn d (map (λ (t : List ℕ × ℕ). t.0) (tallies cells)) → (i : ℕ) × (s : SecurityEntry) × (slice_get cells i ≡ Some s) × (s.descriptor ≡ d)
in_at d [] h = absurd h
in_at d (c ∷ cells) (inl e) = (zero, c, refl, sym e)
in_at d (c ∷ cells) (inr h) = let x = in_at d cells h in (suc x.0, x.1, x.2, x.3)

apart_from : (es : List (Vec ℕ × ℕ)) (n : ℕ) (cells : List SecurityEntry) → ((i : ℕ) (s : SecurityEntry) → slice_get cells i ≡ Some s → index_of es s.descriptor ≡ Some (n + i)) → AreApart (tallies cells)
apart_from es n [] filed = tt
apart_from es n (c ∷ cells) filed = (
  (λ twice.
      let x = in_at c.descriptor cells twice in
      let same : n + 0 ≡ n + suc x.0 = some_same (n + 0) (n + suc x.0) (sym (filed zero c refl) ∙ ap (index_of es) (sym x.3) ∙ filed (suc x.0) x.1 x.2) in
      omega (arith, same)),
  apart_from es (n + 1) cells (λ i s e. filed (suc i) s e ∙ ap Some (let shift : n + suc i ≡ n + 1 + i = omega arith in shift)),
)

pub filed_apart : (es : List (Vec ℕ × ℕ)) (cells : List SecurityEntry) → AreFiled es cells → AreApart (tallies cells)
filed_apart es cells filed = apart_from es 0 cells (λ i s e. filed i s e ∙ ap Some (let zero_more : i ≡ 0 + i = omega arith in zero_more))
