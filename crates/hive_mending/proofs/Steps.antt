-- Cells and chains in bytes that are the same, and where cells go on from a place.
use Rattle.std.proofs.Common.{◌≡◌, ℕ, suc, ◌+◌, ◌-◌, ◌*◌, ◌/◌, ◌%◌, ◌<◌, ◌≤◌, List, length, refl, sym, ◌∙◌, subst, inl, inr, arith, ap}
use Rattle.std.specs.Prelude.{slice_index, slice_set, replicate}
use Rattle.std.proofs.lemmas.Bool.{cases_eq}
use Rattle.std.proofs.lemmas.List.{length-set, get_or-set_same, get_or-set_other, length-replicate, get_or-replicate}
use Rattle.hive_cells.specs.Tiles.{IsCell, cell_size}
use Rattle.hive_cells.proofs.Region.{words_same, size_same}
use Rattle.hive_mending.specs.Breaks.{Chain, no_cell, more_cells, GoesOnAt}
use Rattle.hive_mending.specs.Restarts.{IsRestart, AreRestarts, HaveRestarts}
use Rattle.hive_mending.specs.Mending.{SameWithin, SameFrom}

-- a cell is one in bytes whose size is the same
pub cell_again : (old new : List ℕ) (end at : ℕ) → SameWithin old new at (at + 4) → IsCell old end at → IsCell new end at
cell_again old new end at same c =
    let size : cell_size new at ≡ cell_size old at = size_same old new at (words_same old new at same) in
    let eights : cell_size old at % 8 ≡ 0 = c.eights in
    let least : 8 ≤ cell_size old at = c.least in
    let within : at + cell_size old at ≤ end = c.within in
    record { eights = rw size eights; least = rw size least; within = rw size within }

pub size_again : (old new : List ℕ) (at : ℕ) → SameWithin old new at (at + 4) → cell_size new at ≡ cell_size old at
size_again old new at same = size_same old new at (words_same old new at same)

-- and no cell stands if none stood
pub no_cell_again : (old new : List ℕ) (end at : ℕ) → SameWithin old new at (at + 4) → (¬ IsCell old end at) → ¬ IsCell new end at
no_cell_again old new end at same none c = none (cell_again new old end at (λ i after before. sym (same i after before)) c)

-- a chain of cells is one in bytes that are the same from its start on
pub chain_again : (old new : List ℕ) (end at count : ℕ) → SameFrom old new at → Chain old end at count → Chain new end at count
chain_again old new end at count same (no_cell _ none) = no_cell at (no_cell_again old new end at (λ i after before. same i after) none)
chain_again old new end at count same (more_cells _ next more c is rest) =
    let least : 8 ≤ cell_size old at = c.least in
    more_cells at next more (cell_again old new end at (λ i after before. same i after) c)
    (is ∙ ap (λ (n : ℕ). at + n) (sym (size_again old new at (λ i after before. same i after))))
    (chain_again old new end next more (λ i after. same i (omega (arith, after, is, least))) rest)

-- one chain begins at an offset
pub chain_unique : (bytes : List ℕ) (end at n m : ℕ) → Chain bytes end at n → Chain bytes end at m → n ≡ m
chain_unique bytes end at n m (no_cell _ none) (no_cell _ also) = refl
chain_unique bytes end at n m (no_cell _ none) (more_cells _ next more c is rest) = absurd (none c)
chain_unique bytes end at n m (more_cells _ next more c is rest) (no_cell _ none) = absurd (none c)
chain_unique bytes end at n m (more_cells _ next more c is rest) (more_cells _ next' more' c' is' rest') =
    ap suc (chain_unique bytes end next more more' rest (subst (λ (x : ℕ). Chain bytes end x more') (is' ∙ sym is) rest'))

-- cells go on at the same place
pub goes_on_again : (old new : List ℕ) (end from next : ℕ) → SameFrom old new from → GoesOnAt old end from next → GoesOnAt new end from next
goes_on_again old new end from next same g =
    let after : from ≤ next = g.after in
    record {
      after = g.after;
      within = g.within;
      eights = g.eights;
      count = g.count;
      chain = chain_again old new end next g.count (λ i later. same i (omega (arith, after, later))) g.chain;
      none = g.none;
      longest = λ other others low high eights chain. g.longest other others low high eights (chain_again new old end other others (λ i later. sym (same i (omega (arith, low, later)))) chain);
      first = λ other others low high eights chain some. g.first other others low high eights (chain_again new old end other others (λ i later. sym (same i (omega (arith, low, later)))) chain) some;
    }

-- from a place that is no cell, cells go on as from the next place
pub past_no_cell : (bytes : List ℕ) (end at next : ℕ) → at % 8 ≡ 0 → (¬ IsCell bytes end at) → GoesOnAt bytes end (at + 8) next → GoesOnAt bytes end at next
past_no_cell bytes end at next eight none g =
    let after : at + 8 ≤ next = g.after in
    let zero_here : (n : ℕ) → Chain bytes end at n → n ≡ 0 = λ n chain. chain_unique bytes end at n 0 chain (no_cell at none) in
    record {
      after = omega (arith, after);
      within = g.within;
      eights = g.eights;
      count = g.count;
      chain = g.chain;
      none = g.none;
      longest = λ other others low high eights chain. elim (cases_eq other at) [
        | inl same ↦ omega (arith, zero_here others (subst (λ (x : ℕ). Chain bytes end x others) same chain))
        | inr apart ↦ g.longest other others (omega (arith, low, eights, eight, apart)) high eights chain
      ];
      first = λ other others low high eights chain some. elim (cases_eq other at) [
        | inl same ↦ omega (arith, some, zero_here others (subst (λ (x : ℕ). Chain bytes end x others) same chain))
        | inr apart ↦ g.first other others (omega (arith, low, eights, eight, apart)) high eights chain some
      ];
    }

-- from a cell with a shorter chain too
pub past_short : (bytes : List ℕ) (end at next count others : ℕ) → at % 8 ≡ 0 → Chain bytes end at count → Chain bytes end next others → count < others → GoesOnAt bytes end (at + 8) next → GoesOnAt bytes end at next
past_short bytes end at next count longer eight mine theirs less g =
    let after : at + 8 ≤ next = g.after in
    let here : (n : ℕ) → Chain bytes end at n → n ≡ count = λ n chain. chain_unique bytes end at n count chain mine in
    let there : g.count ≡ longer = chain_unique bytes end next g.count longer g.chain theirs in
    record {
      after = omega (arith, after);
      within = g.within;
      eights = g.eights;
      count = g.count;
      chain = g.chain;
      none = g.none;
      longest = λ other others low high eights chain. elim (cases_eq other at) [
        | inl same ↦ omega (arith, there, less, here others (subst (λ (x : ℕ). Chain bytes end x others) same chain))
        | inr apart ↦ g.longest other others (omega (arith, low, eights, eight, apart)) high eights chain
      ];
      first = λ other others low high eights chain some. elim (cases_eq other at) [
        | inl same ↦ omega (arith, there, less, here others (subst (λ (x : ℕ). Chain bytes end x others) same chain))
        | inr apart ↦ g.first other others (omega (arith, low, eights, eight, apart)) high eights chain some
      ];
    }

-- a cell with a chain that is as long is where cells go on
pub at_longest : (bytes : List ℕ) (end at next count others : ℕ) → at % 8 ≡ 0 → at ≤ end → 0 < count → Chain bytes end at count → Chain bytes end next others → others ≤ count → GoesOnAt bytes end (at + 8) next → GoesOnAt bytes end at at
at_longest bytes end at next count shorter eight within some mine theirs less g =
    let here : (n : ℕ) → Chain bytes end at n → n ≡ count = λ n chain. chain_unique bytes end at n count chain mine in
    let there : g.count ≡ shorter = chain_unique bytes end next g.count shorter g.chain theirs in
    record {
      after = omega arith;
      within = within;
      eights = eight;
      count = count;
      chain = mine;
      none = λ no. absurd (omega (arith, some, no));
      longest = λ other others low high eights chain. elim (cases_eq other at) [
        | inl same ↦ omega (arith, here others (subst (λ (x : ℕ). Chain bytes end x others) same chain))
        | inr apart ↦ omega (arith, there, less, g.longest other others (omega (arith, low, eights, eight, apart)) high eights chain)
      ];
      first = λ other others low high eights chain count_some. absurd (omega (arith, low, high));
    }

module _ (bytes : List ℕ) (end first place at : ℕ) (counts next : List ℕ) (first_eight : first % 8 ≡ 0) (end_eight : end % 8 ≡ 0) (before : first + 8 * place < end) (at_is : at ≡ first + 8 * place) (later : AreRestarts bytes end first counts next (place + 1)) where
  next_place : IsRestart bytes end first (place + 1) (slice_index counts (place + 1)) (slice_index next (place + 1))
  next_place = later.each (place + 1) (omega arith) (omega (arith, before, first_eight, end_eight))

  goes_on_after : GoesOnAt bytes end (first + 8 * place + 8) (slice_index next (place + 1))
  goes_on_after =
      let there : first + 8 * (place + 1) ≡ first + 8 * place + 8 = omega arith in
      subst (λ (x : ℕ). GoesOnAt bytes end x (slice_index next (place + 1))) there next_place.goes_on

  -- what is kept of a later offset of 8 bytes
  pub kept_at : (other : ℕ) → at < other → other ≤ end → other % 8 ≡ 0 → Chain bytes end other (slice_index counts ((other - first) / 8)) × (8 * slice_index counts ((other - first) / 8) ≤ end - other)
  kept_at other after within eights =
      let there : first + 8 * ((other - first) / 8) ≡ other = omega (arith, after, eights, first_eight, at_is) in
      let its : IsRestart bytes end first ((other - first) / 8) (slice_index counts ((other - first) / 8)) (slice_index next ((other - first) / 8)) = later.each ((other - first) / 8) (omega (arith, after, eights, first_eight, at_is)) (omega (arith, there, within)) in
      (subst (λ (x : ℕ). Chain bytes end x (slice_index counts ((other - first) / 8))) there its.chain, omega (arith, its.few, there))

  pub restart_none : (¬ IsCell bytes end at) → IsRestart bytes end first place 0 (slice_index next (place + 1))
  restart_none none =
      let none_here : ¬ IsCell bytes end (first + 8 * place) = λ c. none (subst (λ (x : ℕ). IsCell bytes end x) (sym at_is) c) in
      record {
        chain = no_cell (first + 8 * place) none_here;
        few = omega arith;
        goes_on = past_no_cell bytes end (first + 8 * place) (slice_index next (place + 1)) (omega (arith, first_eight)) none_here goes_on_after;
      }

  -- the chain from a cell
  mine : (behind : ℕ) → IsCell bytes end at → behind ≡ at + cell_size bytes at → Chain bytes end (first + 8 * place) (slice_index counts ((behind - first) / 8) + 1) × (8 * (slice_index counts ((behind - first) / 8) + 1) ≤ end - (first + 8 * place))
  mine behind c is =
      let least : 8 ≤ cell_size bytes at = c.least in
      let eights : cell_size bytes at % 8 ≡ 0 = c.eights in
      let within : at + cell_size bytes at ≤ end = c.within in
      let k = kept_at behind (omega (arith, least, is)) (omega (arith, within, is)) (omega (arith, eights, is, at_is, first_eight)) in
      let one_more : suc (slice_index counts ((behind - first) / 8)) ≡ slice_index counts ((behind - first) / 8) + 1 = omega arith in (
        subst (λ (x : ℕ). Chain bytes end x (slice_index counts ((behind - first) / 8) + 1)) at_is
            (subst (λ (n : ℕ). Chain bytes end at n) one_more (more_cells at behind (slice_index counts ((behind - first) / 8)) c is k.0)),
        omega (arith, k.1, is, least, at_is, within),
      )

  -- the chain from where cells go on after it
  theirs : Chain bytes end (slice_index next (place + 1)) (slice_index counts ((slice_index next (place + 1) - first) / 8))
  theirs = (kept_at (slice_index next (place + 1)) (omega (arith, goes_on_after.after, at_is)) goes_on_after.within goes_on_after.eights).0

  pub restart_later : (behind : ℕ) → IsCell bytes end at → behind ≡ at + cell_size bytes at → slice_index counts ((behind - first) / 8) + 1 < slice_index counts ((slice_index next (place + 1) - first) / 8) → IsRestart bytes end first place (slice_index counts ((behind - first) / 8) + 1) (slice_index next (place + 1))
  restart_later behind c is less =
      let m = mine behind c is in
      record {
        chain = m.0;
        few = m.1;
        goes_on = past_short bytes end (first + 8 * place) (slice_index next (place + 1)) (slice_index counts ((behind - first) / 8) + 1) (slice_index counts ((slice_index next (place + 1) - first) / 8)) (omega (arith, first_eight)) m.0 theirs less goes_on_after;
      }

  pub restart_here : (behind : ℕ) → IsCell bytes end at → behind ≡ at + cell_size bytes at → slice_index counts ((slice_index next (place + 1) - first) / 8) ≤ slice_index counts ((behind - first) / 8) + 1 → IsRestart bytes end first place (slice_index counts ((behind - first) / 8) + 1) at
  restart_here behind c is less =
      let m = mine behind c is in
      record {
        chain = m.0;
        few = m.1;
        goes_on = subst (λ (x : ℕ). GoesOnAt bytes end (first + 8 * place) x) (sym at_is)
            (at_longest bytes end (first + 8 * place) (slice_index next (place + 1)) (slice_index counts ((behind - first) / 8) + 1) (slice_index counts ((slice_index next (place + 1) - first) / 8)) (omega (arith, first_eight)) (omega (arith, before)) (omega arith) m.0 theirs less goes_on_after);
      }

-- of the bin's end no cell goes on
end_place : (bytes : List ℕ) (end first place : ℕ) → first + 8 * place ≡ end → end % 8 ≡ 0 → IsRestart bytes end first place 0 end
end_place bytes end first place is eights =
    let none : ¬ IsCell bytes end (first + 8 * place) = λ c. (let least : 8 ≤ cell_size bytes (first + 8 * place) = c.least in let within : first + 8 * place + cell_size bytes (first + 8 * place) ≤ end = c.within in omega arith) in
    record {
      chain = no_cell (first + 8 * place) none;
      few = omega arith;
      goes_on = record {
        after = omega arith;
        within = omega arith;
        eights = eights;
        count = 0;
        chain = subst (λ (x : ℕ). Chain bytes end x 0) is (no_cell (first + 8 * place) none);
        none = λ _. refl;
        longest = λ other others low high eights chain. absurd (omega (arith, low, high, is));
        first = λ other others low high eights chain some. absurd (omega (arith, low, high, is));
      };
    }

-- at the start the bin's end alone is kept
pub restarts_start : (bytes : List ℕ) (end first : ℕ) → first ≤ end → first % 8 ≡ 0 → end % 8 ≡ 0 → AreRestarts bytes end first (replicate ((end - first) / 8 + 1) 0) (replicate ((end - first) / 8 + 1) end) ((end - first) / 8)
restarts_start bytes end first order first_eight end_eight =
    record {
      counts_len = length-replicate {A = ℕ} ((end - first) / 8 + 1) 0;
      next_len = length-replicate {A = ℕ} ((end - first) / 8 + 1) end;
      each = λ place low within.
          rw (get_or-replicate {A = ℕ} ((end - first) / 8 + 1) place 0 0 (omega (arith, order, within)), get_or-replicate {A = ℕ} ((end - first) / 8 + 1) place end 0 (omega (arith, order, within)))
          (end_place bytes end first place (omega (arith, order, first_eight, end_eight, low, within)) end_eight);
    }

-- a place more is kept
pub restarts_on : (bytes : List ℕ) (end first place count next : ℕ) (counts nexts : List ℕ) → first + 8 * place < end → AreRestarts bytes end first counts nexts (place + 1) → IsRestart bytes end first place count next → AreRestarts bytes end first (slice_set counts place count) (slice_set nexts place next) place
restarts_on bytes end first place count next counts nexts before later its =
    let counts_len : length counts ≡ (end - first) / 8 + 1 = later.counts_len in
    let next_len : length nexts ≡ (end - first) / 8 + 1 = later.next_len in
    record {
      counts_len = length-set counts place count ∙ counts_len;
      next_len = length-set nexts place next ∙ next_len;
      each = λ k low within. elim (cases_eq k place) [
        | inl same ↦ subst (λ (k : ℕ). IsRestart bytes end first k (slice_index (slice_set counts place count) k) (slice_index (slice_set nexts place next) k)) (sym same)
            (rw (get_or-set_same counts place count 0 (omega (arith, counts_len, before)), get_or-set_same nexts place next 0 (omega (arith, next_len, before))) its)
        | inr apart ↦ rw (get_or-set_other counts place k count 0 apart, get_or-set_other nexts place k next 0 apart) (later.each k (omega (arith, low, apart)) within)
      ];
    }

-- in the end each place is
pub restarts_done : (bytes : List ℕ) (end first : ℕ) (counts next : List ℕ) → AreRestarts bytes end first counts next 0 → HaveRestarts bytes end first next
restarts_done bytes end first counts next all =
    record { len = all.next_len; each = λ place within. (all.each place (omega arith) within).goes_on }
