-- Changes differ if what the model sees of them differs.
use Rattle.std.proofs.Common.{◌≡◌, ℕ, ◌<◌, List, [], ◌∷◌, length, map, ap, refl, arith}
use Rattle.reg_tree.specs.declared.op.Op.{Op}
use Rattle.reg_tree.specs.declared.element.Element.{Element}
use Rattle.change_codec.specs.ModelChanges.{TimedOp, timed, timed_element}

same_cons : (a b : Op) (front back : List Op) → a ≡ b → front ≡ back → a ∷ front ≡ b ∷ back
same_cons a b front back p q = cc

same_ops : (m n : ℕ) (os ps : List Op) → map (timed m) os ≡ map (timed n) ps → os ≡ ps
same_ops m n [] [] same = refl
same_ops m n [] (p ∷ ps) same = absurd (let e = ap (λ (l : List (ℕ × TimedOp)). length l) same in omega (arith, e))
same_ops m n (o ∷ os) [] same = absurd (let e = ap (λ (l : List (ℕ × TimedOp)). length l) same in omega (arith, e))
same_ops m n (o ∷ os) (p ∷ ps) same =
    let head : timed m o ≡ timed n p = cc in
    let tail : map (timed m) os ≡ map (timed n) ps = cc in
    same_cons o p os ps (ap (λ (t : ℕ × TimedOp). t.1.1) head) (same_ops m n os ps tail)

same_moment : (m n : ℕ) (os ps : List Op) → 0 < length os → 0 < length ps → map (timed m) os ≡ map (timed n) ps → m ≡ n
same_moment m n [] ps some more same = absurd (omega (arith, some))
same_moment m n (o ∷ os) [] some more same = absurd (omega (arith, more))
same_moment m n (o ∷ os) (p ∷ ps) some more same =
    let head : timed m o ≡ timed n p = cc in ap (λ (t : ℕ × TimedOp). t.1.0) head

pub apart : (a b : Element) → 0 < length a.ops → 0 < length b.ops → timed_element a ≡ timed_element b → a ≡ b
apart a b some more same =
    let moment = same_moment a.moment b.moment a.ops b.ops some more same in
    let ops = same_ops a.moment b.moment a.ops b.ops same in
    λ i. record { moment = moment i; ops = ops i }
