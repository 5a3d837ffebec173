-- What a loop over a change's operations has made so far of those on one hive.
use Rattle.std.proofs.Common.{◌≡◌, ℕ, suc, List, [], ◌∷◌, ◌++◌, sym, ap, ◌∙◌, Some, None}
use Rattle.std.specs.Prelude.{Bool, ◌==◌, filter, if◌then◌else◌}
use Rattle.std.proofs.lemmas.Bool.{eq-eqb, ne_eqb}
use Rattle.std.proofs.lemmas.List.{append-nil}
use Rattle.std.proofs.lemmas.List.Elements.{filter-append}
use Rattle.std.proofs.lemmas.Option.{same_Some}
use Rattle.reg_tree.specs.declared.op.Op.{Op}
use Rattle.reg_tree.specs.Operations.{hive_of}
use Rattle.change_codec.specs.Readers.{repeat}
use Rattle.change_codec.specs.Encoding.{op_at}
use Rattle.change_codec.specs.Changes.{AreOps, HasOps}
use Rattle.change_codec.proofs.Taken.{behind, behind_none, goes_on, stops, ends}

abbrev pub on : ℕ → List Op → List Op
on hive ops = filter (λ op. hive_of op == hive) ops

-- one that is on another hive leaves those before, and one that is on the hive is appended to them
pub of_other : (hive : ℕ) (op : Op) (before : List Op) → (hive_of op ≡ hive → ⊥) → before ≡ before ++ on hive (op ∷ [])
of_other hive op before other = sym (append-nil before) ∙ ap (λ (b : Bool). before ++ (if b then op ∷ [] else [])) (sym (ne_eqb (hive_of op) hive other))

pub of_hive : (hive : ℕ) (op : Op) (before after : List Op) → hive_of op ≡ hive → after ≡ before ++ op ∷ [] → after ≡ before ++ on hive (op ∷ [])
of_hive hive op before after here put = put ∙ ap (λ (b : Bool). before ++ (if b then op ∷ [] else [])) (sym (eq-eqb (hive_of op) hive here))

-- of `count` operations that bytes begin with some were read, and those on the hive were made; `left` of them are left
pub record HasMade (hive count : ℕ) (bytes : List ℕ) (left : ℕ) (rest : List ℕ) (made : List Op) : Type 0 where
  pub front : List Op
  pub so_far : repeat count (op_at 256) bytes ≡ behind front (repeat left (op_at 256) rest)
  pub are : made ≡ on hive front

module _ (hive count : ℕ) (bytes : List ℕ) where
  -- none was read yet
  pub none_yet : (left : ℕ) (made : List Op) → left ≡ count → made ≡ [] → HasMade hive count bytes left bytes made
  none_yet left made all is = record {
    front = [];
    so_far = ap (λ (n : ℕ). repeat n (op_at 256) bytes) (sym all) ∙ behind_none (repeat left (op_at 256) bytes);
    are = is;
  }

  module _ (left more : ℕ) (rest : List ℕ) (made : List Op) (so : HasMade hive count bytes left rest made) (is : left ≡ suc more) where
    -- one more is there
    pub there_is : AreOps count bytes → ¬ (op_at 256 rest ≡ None)
    there_is some = λ none. some (so.so_far ∙ stops (op_at 256) so.front left more rest is none)

    -- and it was read
    pub one_more : (op : Op) (next : List ℕ) (after : List Op) → op_at 256 rest ≡ Some (op, next) → after ≡ made ++ on hive (op ∷ []) → HasMade hive count bytes more next after
    one_more op next after got put = record {
      front = so.front ++ op ∷ [];
      so_far = so.so_far ∙ goes_on (op_at 256) so.front left more op rest next is got;
      are = put ∙ ap (λ (ops : List Op). ops ++ on hive (op ∷ [])) so.are ∙ sym (filter-append (λ (x : Op). hive_of x == hive) so.front (op ∷ []));
    }

  -- all were read
  pub all_made : (left : ℕ) (rest : List ℕ) (made ops : List Op) → HasMade hive count bytes left rest made → left ≡ 0 → HasOps (repeat count (op_at 256) bytes) ops → made ≡ on hive ops
  all_made left rest made ops so is has =
      let same = same_Some (so.front, rest) (ops, has.0) (sym (so.so_far ∙ ends (op_at 256) so.front left rest is) ∙ has.1) in
      so.are ∙ ap (λ (p : List Op × List ℕ). on hive p.0) same
