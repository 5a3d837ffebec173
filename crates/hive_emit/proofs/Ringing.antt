-- Where security cells are put, one after the other, and the ring of their links.
use Rattle.std.proofs.Common.{◌≡◌, inl, inr, ℕ, zero, suc, ◌+◌, ◌-◌, ◌<◌, ◌≤◌, Bool, cond, ne_eqb, List, [], ◌∷◌, length, map, take, sum_by, slice_get, refl, sym, ◌∙◌, ap, subst, arith, Some}
use Rattle.std.specs.Prelude.{slice_set}
use Rattle.std.specs.List.{AllByRecursion}
use Rattle.std.proofs.lemmas.Bool.{cases_eq, eq-eqb}
use Rattle.std.proofs.lemmas.List.{length-map}
use Rattle.std.proofs.lemmas.List.Sums.{sum_by-cons}
use Rattle.std.proofs.lemmas.Option.{slice_get_within}
use Rattle.hive_cells.specs.Bins.{Cells}
use Rattle.hive_tree_model.proofs.Basics.{some_same}
use Rattle.hive_tree_model.specs.Lists.{IsIn}
use Rattle.hive_records.specs.Fields.{CellHolds}
use Rattle.hive_records.specs.KeyEncodings.{security_bytes}
use Rattle.hive_emit.specs.CellWrites.{HasFreeRoomAt, Lands}
use Rattle.hive_emit.proofs.Sums.{sum_next}
use Rattle.hive_emit.specs.declared.security.SecurityEntry.{SecurityEntry}
use Rattle.hive_emit.specs.KeyCosts.{descriptor_cost, security_cost, securities_cost}
use Rattle.hive_emit.specs.Forms.{SecurityCell, behind, IsRing, IsNamed}
use Rattle.hive_emit.specs.EmittedKeys.{SecuritiesAreWritten, IsOffsetOf}
use Rattle.hive_emit.specs.SecurityTables.{tallies, planned_offset, ahead, IsPlanned, ArePlanned, Laid}
use Rattle.hive_emit.proofs.SecurityTables.{set_here, set_there}
use Rattle.hive_emit.proofs.Counting.{cell_of, cells_of}

-- ---- offsets

pub spot_next : (cells : List SecurityEntry) (i : ℕ) (s : SecurityEntry) → slice_get cells i ≡ Some s → planned_offset cells (i + 1) ≡ planned_offset cells i + security_cost s
spot_next cells i s e = omega (arith, sum_next security_cost cells i s e)

cost_tallies : (cells : List SecurityEntry) (j : ℕ) → securities_cost (take j cells) ≡ sum_by (λ t. descriptor_cost (length t.0)) (take j (tallies cells))
cost_tallies [] zero = refl
cost_tallies [] (suc j) = refl
cost_tallies (c ∷ cells) zero = refl
cost_tallies (c ∷ cells) (suc j) = omega (
  arith,
  sum_by-cons security_cost c (take j cells),
  sum_by-cons (λ (t : List ℕ × ℕ). descriptor_cost (length t.0)) (c.descriptor, c.count) (take j (tallies cells)),
  cost_tallies cells j,
)

pub cost_same : (a b : List SecurityEntry) (j : ℕ) → tallies a ≡ tallies b → securities_cost (take j a) ≡ securities_cost (take j b)
cost_same a b j e = cost_tallies a j ∙ ap (λ (ts : List (List ℕ × ℕ)). sum_by (λ t. descriptor_cost (length t.0)) (take j ts)) e ∙ sym (cost_tallies b j)

pub spot_same : (a b : List SecurityEntry) (j : ℕ) → tallies a ≡ tallies b → planned_offset a j ≡ planned_offset b j
spot_same a b j e = ap (λ (n : ℕ). 32 + n) (cost_same a b j e)

pub long_same : (a b : List SecurityEntry) → tallies a ≡ tallies b → length a ≡ length b
long_same a b e = sym (length-map a (λ (s : SecurityEntry). (s.descriptor, s.count))) ∙ ap length e ∙ length-map b (λ (s : SecurityEntry). (s.descriptor, s.count))

take_most : (cells : List SecurityEntry) (j : ℕ) → securities_cost (take j cells) ≤ securities_cost cells
take_most [] zero = omega arith
take_most [] (suc j) = omega arith
take_most (c ∷ cells) zero = omega arith
take_most (c ∷ cells) (suc j) = omega (arith, sum_by-cons security_cost c (take j cells), sum_by-cons security_cost c cells, take_most cells j)

-- ---- indexes in a ring

pub behind_last : (n i : ℕ) → i + 1 ≡ n → behind n i ≡ 0
behind_last n i e = ap (λ (b : Bool). cond b 0 (i + 1)) (eq-eqb (i + 1) n e)

pub behind_next : (n i : ℕ) → (i + 1 ≡ n → ⊥) → behind n i ≡ i + 1
behind_next n i h = ap (λ (b : Bool). cond b 0 (i + 1)) (ne_eqb (i + 1) n h)

ahead_next : (n i : ℕ) → ahead n (i + 1) ≡ i
ahead_next n i = ap (λ (b : Bool). cond b (n - 1) (i + 1 - 1)) (ne_eqb (i + 1) 0 (λ e. omega (arith, e))) ∙ (let same : i + 1 - 1 ≡ i = omega arith in same)

ahead_behind : (n i : ℕ) → i < n → ahead n (behind n i) ≡ i
ahead_behind n i h = elim (cases_eq (i + 1) n) [
  | inl e ↦ ap (ahead n) (behind_last n i e) ∙ (let same : n - 1 ≡ i = omega (arith, e) in same)
  | inr e ↦ ap (ahead n) (behind_next n i e) ∙ ahead_next n i
]

behind_within : (n i : ℕ) → i < n → behind n i < n
behind_within n i h = elim (cases_eq (i + 1) n) [
  | inl e ↦ subst (λ (j : ℕ). j < n) (sym (behind_last n i e)) (omega (arith, h))
  | inr e ↦ subst (λ (j : ℕ). j < n) (sym (behind_next n i e)) (omega (arith, h, e))
]

-- ---- one cell after another

planned_set : (planned now : List SecurityEntry) (i : ℕ) (new : SecurityEntry) → i < length now → ArePlanned planned now i → IsPlanned planned i new → ArePlanned planned (slice_set now i new) (i + 1)
planned_set planned now i new inside before is j s h e = elim (cases_eq j i) [
  | inl here ↦
      let it : s ≡ new = some_same s new (sym e ∙ ap (slice_get (slice_set now i new)) here ∙ set_here now i new inside) in
      subst (λ (k : ℕ). IsPlanned planned k s) (sym here) (subst (IsPlanned planned i) (sym it) is)
  | inr apart ↦ before j s (omega (arith, h, apart)) (sym (set_there now i j new apart) ∙ e)
]

pub laid_none : (planned : List SecurityEntry) (bytes : List ℕ) (previous more : ℕ) → (0 < length planned → previous ≡ planned_offset planned (length planned - 1)) → HasFreeRoomAt bytes 32 (securities_cost planned + more) → Laid planned planned bytes 0 previous more
laid_none planned bytes previous more last room = record {
  room = λ rest e. subst (λ (n : ℕ). HasFreeRoomAt bytes 32 (n + more)) (let same : securities_cost planned ≡ rest = omega (arith, e) in same) room;
  are = λ i s h e. absurd (omega (arith, h));
  previous_is = last;
}

pub laid_next : (planned now : List SecurityEntry) (old new : List ℕ) (i at next previous cost more : ℕ) (cell : SecurityEntry) → tallies now ≡ tallies planned → i < length planned → planned_offset planned (i + 1) ≡ planned_offset planned i + cost → next ≡ planned_offset planned (behind (length planned) i)
    → Lands old new at cost → cell.at ≡ at → cell.next ≡ next → cell.previous ≡ previous → Laid planned now old i previous more → Laid planned (slice_set now i cell) new (i + 1) at more
laid_next planned now old new i at next previous cost more cell same inside step next_is lands at_is its_next its_previous l = record {
  room = λ rest e. (landed rest e).1;
  are = planned_set planned now i cell (omega (arith, inside, long_same now planned same)) l.are (record { at = at_is ∙ here; next = its_next ∙ next_is; previous = its_previous ∙ l.previous_is inside });
  previous_is = λ past. here ∙ ap (planned_offset planned) (sym (ahead_next (length planned) i));
}
  where
    landed : (rest : ℕ) → securities_cost planned ≡ securities_cost (take (i + 1) planned) + rest → (at ≡ planned_offset planned i) × HasFreeRoomAt new (planned_offset planned (i + 1)) (rest + more)
    landed rest e =
        let x = lands (planned_offset planned i) (rest + more) (subst (HasFreeRoomAt old (planned_offset planned i)) (let joined : cost + rest + more ≡ cost + (rest + more) = omega arith in joined) (l.room (cost + rest) (omega (arith, e, step)))) in
        (x.0, subst (λ (n : ℕ). HasFreeRoomAt new n (rest + more)) (sym step) x.1)

    here : at ≡ planned_offset planned i
    here = (landed (securities_cost planned - securities_cost (take (i + 1) planned)) (omega (arith, take_most planned (i + 1)))).0

-- ---- as the image has them

got_cell : (now : List SecurityEntry) (i : ℕ) (s : SecurityCell) → slice_get (cells_of now) i ≡ Some s → (x : SecurityEntry) × (slice_get now i ≡ Some x) × (s ≡ cell_of x)
got_cell [] i s e = absurd (let no : ⊥ = cc in no)
got_cell (c ∷ now) zero s e = let same : cell_of c ≡ s = cc in (c, refl, sym same)
got_cell (c ∷ now) (suc i) s e = got_cell now i s e

pub ring_of : (planned now : List SecurityEntry) → tallies now ≡ tallies planned → ArePlanned planned now (length planned) → IsRing (cells_of now)
ring_of planned now same are i s t e f =
    let long : length (cells_of now) ≡ length planned = length-map now cell_of ∙ long_same now planned same in
    let x = got_cell now i s e in
    let y = got_cell now (behind (length planned) i) t (ap (λ (n : ℕ). slice_get (cells_of now) (behind n i)) (sym long) ∙ f) in
    let inside : i < length planned = omega (arith, slice_get_within now i x.0 x.1, long_same now planned same) in
    let p = are i x.0 inside x.1 in
    let q = are (behind (length planned) i) y.0 (behind_within (length planned) i inside) y.1 in (
      ap (λ (c : SecurityCell). c.next) x.2 ∙ p.next ∙ sym q.at ∙ ap (λ (c : SecurityCell). c.at) (sym y.2),
      ap (λ (c : SecurityCell). c.previous) y.2 ∙ q.previous ∙ ap (planned_offset planned) (ahead_behind (length planned) i inside) ∙ sym p.at ∙ ap (λ (c : SecurityCell). c.at) (sym x.2),
    )

pub held_of : (now : List SecurityEntry) (cells : Cells) → SecuritiesAreWritten now cells → AllByRecursion (λ (s : SecurityCell). CellHolds cells s.at (security_bytes s.next s.previous s.count s.descriptor)) (cells_of now)
held_of [] cells h = tt
held_of (c ∷ now) cells h = (h.0.encoding, held_of now cells h.1)

pub names_of : (now : List SecurityEntry) → map (λ (s : SecurityCell). s.descriptor) (cells_of now) ≡ map (λ (t : List ℕ × ℕ). t.0) (tallies now)
names_of [] = refl
names_of (c ∷ now) = ap (λ (ds : List (List ℕ)). c.descriptor ∷ ds) (names_of now)

cell_in : (now : List SecurityEntry) (i : ℕ) (s : SecurityEntry) → slice_get now i ≡ Some s → IsIn (cell_of s) (cells_of now)
cell_in [] i s e = absurd (let no : ⊥ = cc in no)
cell_in (c ∷ now) zero s e = let same : c ≡ s = cc in inl (ap cell_of (sym same))
cell_in (c ∷ now) (suc i) s e = inr (cell_in now i s e)

pub named_of : (now : List SecurityEntry) (descriptor : List ℕ) (at : ℕ) → IsOffsetOf now descriptor at → IsNamed (cells_of now) descriptor at
named_of now descriptor at (inl none) = inl none
named_of now descriptor at (inr is) = inr (cell_of is.security, cell_in now is.place is.security is.is, is.same, is.here)
