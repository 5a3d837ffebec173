-- One walk along a path: what an edit below a subkey makes of its parent.
use Rattle.std.proofs.Common.{◌≡◌, ℕ, suc, ◌+◌, ◌<◌, false, inl, inr, List, [], ◌∷◌, ◌++◌, length, take, drop, Option, Some, None, refl, sym, ◌∙◌, ap, subst, arith}
use Rattle.std.proofs.lemmas.Bool.{true≢false}
use Rattle.std.specs.Ordering.{eq_by_cmp}
use Rattle.refusals.specs.declared.refusal.Refusal.{Refusal}
use Rattle.reg_names.specs.Names.{folded, folded_path}
use Rattle.reg_tree_parts.specs.Orders.{name_order}
use Rattle.reg_tree_parts.specs.Rows.{Row}
use Rattle.reg_tree_parts.specs.Nodes.{Entries, root_name, row_at, IsNode}
use Rattle.reg_tree_parts.specs.Walks.{AreMissing, IsStep, IsNearest, IsReplaced, IsEdited, IsRefused}
use Rattle.reg_tree_parts.proofs.PathSteps.{others_step}

-- a key at which a path leads no further is the nearest
near_here : (entries : Entries) (path : List (List ℕ)) → AreMissing entries path → (row : Row) → row_at entries [] ≡ Some row → IsNearest entries path 0 entries
near_here entries [] missing row here = record { within = omega arith; there = λ q. refl; names = λ q. refl; row = row; here = here; gone = λ lt q. absurd (omega (arith, lt)) }
near_here entries (name ∷ path) missing row here = record { within = omega arith; there = λ q. refl; names = λ q. refl; row = row; here = here; gone = λ lt q. missing q }

-- nothing is dropped of a path, and it stays as long
all_left : (path : List (List ℕ)) → path ≡ drop 0 path
all_left [] = refl
all_left (name ∷ path) = refl

none_taken : (path : List (List ℕ)) → [] ≡ folded_path (take 0 path)
none_taken [] = refl
none_taken (name ∷ path) = refl

-- another key in place of one is all of it
replaced_here : (entries new : Entries) → root_name new ≡ root_name entries → IsNode new → IsReplaced entries [] new new
replaced_here entries new named node = record { within = λ rest. refl; others = λ other off. absurd (true≢false off); root = named; node = node }

-- what an edit makes at this key
pub edited_here : (Makes : Entries → List (List ℕ) → Option Entries → Type 0) (entries : Entries) (path : List (List ℕ)) → AreMissing entries path → (row : Row) → row_at entries [] ≡ Some row
    → (new : Entries) → Makes entries path (Some new) → root_name new ≡ root_name entries → IsNode new → IsEdited Makes entries path (Some (new, length path))
edited_here Makes entries path missing row here new makes named node = record {
  depth = 0;
  nearest = entries;
  near = near_here entries path missing row here;
  edits = (new, (subst (λ p. Makes entries p (Some new)) (all_left path) makes, (subst (λ p. IsReplaced entries p new new) (none_taken path) (replaced_here entries new named node), omega arith)));
}

pub let_be_here : (Makes : Entries → List (List ℕ) → Option Entries → Type 0) (entries : Entries) (path : List (List ℕ)) → AreMissing entries path → (row : Row) → row_at entries [] ≡ Some row
    → Makes entries path None → IsEdited Makes entries path None
let_be_here Makes entries path missing row here makes = record {
  depth = 0;
  nearest = entries;
  near = near_here entries path missing row here;
  edits = subst (λ p. Makes entries p None) (all_left path) makes;
}

pub refused_here : (Refuses : Entries → List (List ℕ) → Refusal → Type 0) (entries : Entries) (path : List (List ℕ)) → AreMissing entries path → (row : Row) → row_at entries [] ≡ Some row
    → (why : Refusal) → Refuses entries path why → IsRefused Refuses entries path why
refused_here Refuses entries path missing row here why refuses = inl (0, (entries, (near_here entries path missing row here, subst (λ p. Refuses entries p why) (all_left path) refuses)))

module _ (entries child : Entries) (path rest : List (List ℕ)) (step : IsStep entries path child rest) where
  -- the names after a step are fewer
  pub step_falls : length rest < length path
  step_falls = rw step.path_is (omega arith)

  -- what is nearest below the subkey is nearest below its parent
  near_below : (depth : ℕ) (nearest : Entries) → IsNearest child rest depth nearest → IsNearest entries path (suc depth) nearest
  near_below depth nearest near = subst (λ p. IsNearest entries p (suc depth) nearest) (sym step.path_is) (record {
    within = omega (arith, near.within);
    there = λ q. step.there (folded_path (take depth rest) ++ q) ∙ near.there q;
    names = λ q. step.names (folded_path (take depth rest) ++ q) ∙ near.names q;
    row = near.row;
    here = near.here;
    gone = λ lt q.
        let e : suc depth + 1 ≡ suc (depth + 1) = omega arith in
        subst (λ n. row_at entries (folded_path (take n (step.name ∷ rest)) ++ q) ≡ None) (sym e)
        (step.there (folded_path (take (depth + 1) rest) ++ q) ∙ near.gone (omega (arith, lt)) q);
  })

  -- the names that are missing are the same
  same_left : (depth : ℕ) → drop depth rest ≡ drop (suc depth) path
  same_left depth = rw step.path_is refl

  pub let_be_below : (Makes : Entries → List (List ℕ) → Option Entries → Type 0) → IsEdited Makes child rest None → IsEdited Makes entries path None
  let_be_below Makes inner = record {
    depth = suc inner.depth;
    nearest = inner.nearest;
    near = near_below inner.depth inner.nearest inner.near;
    edits = subst (λ p. Makes inner.nearest p None) (same_left inner.depth) inner.edits;
  }

  pub refused_below : (Refuses : Entries → List (List ℕ) → Refusal → Type 0) (why : Refusal) → IsRefused Refuses child rest why → IsRefused Refuses entries path why
  refused_below Refuses why (inl inner) =
      inl (suc inner.0, (inner.1.0, (near_below inner.0 inner.1.0 inner.1.1.0, subst (λ p. Refuses inner.1.0 p why) (same_left inner.0) inner.1.1.1)))
  refused_below Refuses why (inr none) = inr none

  module _ (new made : Entries) (same : row_at made [] ≡ row_at entries []) (child_is : (r : List (List ℕ)) → row_at made (root_name new ∷ r) ≡ row_at new r)
      (others : (m : List ℕ) (r : List (List ℕ)) → eq_by_cmp name_order m (root_name new) ≡ false → row_at made (m ∷ r) ≡ row_at entries (m ∷ r))
      (root : root_name made ≡ root_name entries) (node : IsNode made) where
    -- what is in place of a key below the subkey is there below its parent
    replaced_below : (front : List (List ℕ)) (bottom : Entries) → IsReplaced child (folded_path front) bottom new → IsReplaced entries (folded_path (step.name ∷ front)) bottom made
    replaced_below front bottom inner =
        let name : root_name new ≡ folded step.name = inner.root ∙ step.named in
        record {
          within = λ r. ap (λ n. row_at made (n ∷ folded_path front ++ r)) (sym name) ∙ child_is (folded_path front ++ r) ∙ inner.within r;
          others = others_step made entries new child step.name front (step.name ∷ front) refl same name child_is others step.there inner.others;
          root = root;
          node = node;
        }

    pub edited_below : (Makes : Entries → List (List ℕ) → Option Entries → Type 0) (missing : ℕ) → IsEdited Makes child rest (Some (new, missing)) → IsEdited Makes entries path (Some (made, missing))
    edited_below Makes missing inner =
        let bottom = inner.edits.0 in
        record {
          depth = suc inner.depth;
          nearest = inner.nearest;
          near = near_below inner.depth inner.nearest inner.near;
          edits = (
            bottom,
            (
              subst (λ p. Makes inner.nearest p (Some bottom)) (same_left inner.depth) inner.edits.1.0,
              (
                subst (λ p. IsReplaced entries (folded_path (take (suc inner.depth) p)) bottom made) (sym step.path_is) (replaced_below (take inner.depth rest) bottom inner.edits.1.1.0),
                rw step.path_is (omega (arith, inner.edits.1.1.1)),
              ),
            ),
          );
        }
