-- Operations after others, and paths that others begin.
use Rattle.std.proofs.Common.{◌≡◌, ℕ, Bool, true, false, ◌&&◌, List, [], ◌∷◌, ◌++◌, ◌==◌, length, Ok, refl, sym, ◌∙◌, ap, subst, append_assoc, arith, slice_index_or}
use Rattle.std.proofs.lemmas.Bool.Decides.{nat_tests}
use Rattle.std.specs.List.{All}
use Rattle.std.specs.Ordering.{eq_by_cmp, is_eq}
use Rattle.std.specs.Cmp.{tied_itself}
use Rattle.std.proofs.lemmas.List.{append-nil, map-append}
use Rattle.std.proofs.lemmas.List.Elements.{All-append, All-cons}
use Rattle.reg_names.specs.Names.{folded, folded_path}
use Rattle.reg_tree_parts.specs.Orders.{name_order}
use Rattle.reg_tree_parts.specs.Nodes.{begins_path}
use Rattle.reg_tree_parts.proofs.Keys.{names_total}
use Rattle.reg_tree.specs.Maps.{TreeMap}
use Rattle.reg_tree.specs.Judgement.{applied, applied_one, legal}
use Rattle.reg_tree.specs.declared.op.Op.{Op}
use Rattle.reg_tree.specs.declared.op.Op.TheVariants.{DeleteKey}
use Rattle.reg_tree.specs.declared.op.Legality.TheVariants.{Legal}
use Rattle.store_model.specs.Invariant.{AreLegalChanges}
use Rattle.change_plan.specs.declared.extension.Extension.{Extension}
use Rattle.change_plan.specs.Edits.{DeletesBelow}
use Rattle.change_plan.specs.Removals.{DeletesMore}

pub applied_on : (trees : List TreeMap) (ops others : List Op) (moment : ℕ) → applied trees (ops ++ others) moment ≡ applied (applied trees ops moment) others moment
applied_on trees [] others moment = refl
applied_on trees (op ∷ ops) others moment = applied_on (applied_one trees op moment) ops others moment

pub legal_on : (trees : List TreeMap) (ops others : List Op) (moment : ℕ) → AreLegalChanges trees ops moment → AreLegalChanges (applied trees ops moment) others moment → AreLegalChanges trees (ops ++ others) moment
legal_on trees [] others moment front rest = rest
legal_on trees (op ∷ ops) others moment front rest = (front.0, legal_on (applied_one trees op moment) ops others moment front.1 rest)

both : (a b : Bool) → (a && b) ≡ true → (a ≡ true) × (b ≡ true)
both true b h = (refl, h)
both false b h = absurd (let no : ⊥ = cc in no)

-- a path that begins itself and more
pub begins_more : (path more : List (List ℕ)) → begins_path path (path ++ more) ≡ true
begins_more [] more = refl
begins_more (name ∷ path) more = ap (λ o. is_eq o && begins_path path (path ++ more)) (tied_itself names_total name) ∙ begins_more path more

pub begins_self : (path : List (List ℕ)) → begins_path (folded_path path) (folded_path path) ≡ true
begins_self path = ap (begins_path (folded_path path)) (sym (append-nil (folded_path path))) ∙ begins_more (folded_path path) []

-- what a longer path begins, its front begins too
pub front_begins : (front more path : List (List ℕ)) → begins_path (front ++ more) path ≡ true → begins_path front path ≡ true
front_begins [] more path h = refl
front_begins (name ∷ front) more [] h = absurd (let no : ⊥ = cc in no)
front_begins (name ∷ front) more (other ∷ path) h =
    let parts = both (eq_by_cmp name_order other name) (begins_path (front ++ more) path) h in
    ap (λ b. b && begins_path front path) parts.0 ∙ front_begins front more path parts.1

-- what lies below a subkey lies below the key
pub below_parent : (hive : ℕ) (path : List (List ℕ)) (name : List ℕ) (op : Op) → DeletesBelow hive (path ++ name ∷ []) op → DeletesBelow hive path op
below_parent hive path name op deletes =
    (deletes.0, deletes.1, front_begins (folded_path path) (folded_path (name ∷ [])) (folded_path deletes.0) (ap (λ p. begins_path p (folded_path deletes.0)) (sym (map-append folded path (name ∷ []))) ∙ deletes.2))

-- a list without elements
pub no_names : (names : List (List ℕ)) → (length names == 0) ≡ true → names ≡ []
no_names [] h = refl
no_names (name ∷ names) h = absurd (grind (arith, nat_tests, h))

-- no deletion more, and deletions after others
pub all_below_parent : (hive : ℕ) (path : List (List ℕ)) (name : List ℕ) (ops : List Op) → All (DeletesBelow hive (path ++ name ∷ [])) ops → All (DeletesBelow hive path) ops
all_below_parent hive path name ops all = λ k d lt. below_parent hive path name (slice_index_or ops k d) (all k d lt)

-- deletions below a subkey are some below the key
pub more_of_child : (first last : Extension) (moment hive : ℕ) (path : List (List ℕ)) (name : List ℕ) → DeletesMore first moment hive (path ++ name ∷ []) last → DeletesMore first moment hive path last
more_of_child first last moment hive path name more = record {
  more = more.more;
  legal = more.legal;
  below = all_below_parent hive path name more.more more.below;
  ops = more.ops;
  view = more.view;
}

pub none_more : (extension : Extension) (moment hive : ℕ) (path : List (List ℕ)) → DeletesMore extension moment hive path extension
none_more extension moment hive path = record {
  more = [];
  legal = tt;
  below = λ k d lt. absurd (let no : ⊥ = omega (arith, lt) in no);
  ops = sym (append-nil extension.ops.items);
  view = refl;
}

pub more_on : (first between last : Extension) (moment hive : ℕ) (path : List (List ℕ)) → DeletesMore first moment hive path between → DeletesMore between moment hive path last → DeletesMore first moment hive path last
more_on first between last moment hive path one two = record {
  more = one.more ++ two.more;
  legal = legal_on first.view one.more two.more moment one.legal (subst (λ (trees : List TreeMap). AreLegalChanges trees two.more moment) one.view two.legal);
  below = All-append (DeletesBelow hive path) one.more two.more one.below two.below;
  ops = two.ops ∙ ap (λ (ops : List Op). ops ++ two.more) one.ops ∙ append_assoc first.ops.items one.more two.more;
  view = two.view ∙ ap (λ (trees : List TreeMap). applied trees two.more moment) one.view ∙ sym (applied_on first.view one.more two.more moment);
}

-- the deletion of the key itself after others
pub own_on : (first between last : Extension) (moment hive : ℕ) (path copy : List (List ℕ)) → copy ≡ path → DeletesMore first moment hive path between → legal between.view (DeleteKey hive copy) ≡ Ok Legal → last.ops.items ≡ between.ops.items ++ DeleteKey hive copy ∷ []
    → last.view ≡ applied_one between.view (DeleteKey hive copy) moment → DeletesMore first moment hive path last
own_on first between last moment hive path copy same one is_legal ops view =
    more_on first between last moment hive path one (record {
      more = DeleteKey hive path ∷ [];
      legal = (subst (λ p. legal between.view (DeleteKey hive p) ≡ Ok Legal) same is_legal, tt);
      below = All-cons (DeletesBelow hive path) (DeleteKey hive path) [] (path, refl, begins_self path) (λ k d lt. absurd (let no : ⊥ = omega (arith, lt) in no));
      ops = ops ∙ ap (λ p. between.ops.items ++ DeleteKey hive p ∷ []) same;
      view = view ∙ ap (λ p. applied_one between.view (DeleteKey hive p) moment) same;
    })
