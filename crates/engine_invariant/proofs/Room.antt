-- The journal's room, counted over changes as the machine has them and as the crash model has them.
use Rattle.std.proofs.Common.{◌≡◌, ℕ, ◌+◌, ◌≤◌, List, [], ◌∷◌, ◌++◌, length, map, take, refl, ◌∙◌, ap, arith}
use Rattle.std.specs.List.{sum_by}
use Rattle.std.proofs.lemmas.List.{map-append, length-map, take-append-le}
use Rattle.std.proofs.lemmas.List.Sums.{sum_by-append, sum_by-cons}
use Rattle.reg_tree.specs.Encodings.{element_encoded_len, op_encoded_len}
use Rattle.reg_tree.specs.declared.element.Element.{Element}
use Rattle.reg_tree.specs.declared.op.Op.{Op}
use Rattle.crash_model.specs.Changes as law
use Rattle.store_model.specs.Machine as machine
use Rattle.change_codec.specs.ModelChanges.{TimedOp, timed, timed_element, timed_elements}
use Rattle.commit_journal.specs.Store.{room_of, timed_len}

ops_len : (moment : ℕ) (ops : List Op) → sum_by (λ (o : ℕ × TimedOp). op_encoded_len o.1.1) (map (timed moment) ops) ≡ sum_by op_encoded_len ops
ops_len moment [] = refl
ops_len moment (op ∷ ops) = let rest = ops_len moment ops in
    omega (arith, rest, sum_by-cons (λ (o : ℕ × TimedOp). op_encoded_len o.1.1) (timed moment op) (map (timed moment) ops), sum_by-cons op_encoded_len op ops)

pub len_is : (e : Element) → timed_len (timed_element e) ≡ element_encoded_len e
len_is e = ap (λ n. 16 + n) (ops_len e.moment e.ops)

pub rooms_are : (es : List Element) → room_of (timed_elements es) ≡ sum_by machine.room_of es
rooms_are [] = refl
rooms_are (e ∷ es) = let rest = rooms_are es in
    omega (arith, rest, len_is e, sum_by-cons (λ l. 17 + timed_len l) (timed_element e) (timed_elements es), sum_by-cons machine.room_of e es)

pub room_append : (xs ys : List (law.Element TimedOp)) → room_of (xs ++ ys) ≡ room_of xs + room_of ys
room_append xs ys = sum_by-append (λ l. 17 + timed_len l) xs ys

pub one_more_room : (es : List Element) (e : Element) → room_of (timed_elements (es ++ e ∷ [])) ≡ room_of (timed_elements es) + (17 + element_encoded_len e)
one_more_room es e =
    omega (arith, rooms_are (es ++ e ∷ []), rooms_are es, sum_by-append machine.room_of es (e ∷ []))

-- the first of a list stay the first as it grows
pub first_stay : (count : ℕ) (es : List Element) (e : Element) → count ≤ length es → take count (timed_elements (es ++ e ∷ [])) ≡ take count (timed_elements es)
first_stay count es e le = ap (take count) (map-append timed_element es (e ∷ [])) ∙ take-append-le count (timed_elements es) (timed_element e ∷ []) (omega (arith, le, length-map es timed_element))
