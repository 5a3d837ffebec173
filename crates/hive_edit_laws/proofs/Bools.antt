-- Tests that are joined, and what they tell.
use Rattle.std.proofs.Common.{◌≡◌, ◌⊎◌, inl, inr, ◌≤◌, nat_le, not, ◌&&◌, ◌||◌, ℕ, Bool, true, false, if◌then◌else◌, Some, Option, refl, sym, arith}
use Rattle.hive_tree_model.proofs.Basics.{never}

pub not_true : (b : Bool) → not b ≡ true → b ≡ false
not_true true e = never e
not_true false e = refl

pub true_not : (b : Bool) → b ≡ false → not b ≡ true
true_not true e = sym e
true_not false e = refl

pub first_of : (a b : Bool) → (a && b) ≡ true → a ≡ true
first_of true b e = refl
first_of false b e = never e

pub second_of : (a b : Bool) → (a && b) ≡ true → b ≡ true
second_of true b e = e
second_of false b e = never e

pub both_of : (a b : Bool) → a ≡ true → b ≡ true → (a && b) ≡ true
both_of true b e f = f
both_of false b e f = never e

pub first_not : (a b : Bool) → (a || b) ≡ false → a ≡ false
first_not true b e = e
first_not false b e = refl

pub rest_not : (a b : Bool) → (a || b) ≡ false → b ≡ false
rest_not true b e = never (sym e)
rest_not false b e = e

pub neither : (a b : Bool) → a ≡ false → b ≡ false → (a || b) ≡ false
neither true b e f = e
neither false b e f = f

pub left : (a b : Bool) → a ≡ true → (a || b) ≡ true
left true b e = refl
left false b e = never e

pub right : (a b : Bool) → b ≡ true → (a || b) ≡ true
right true b e = refl
right false b e = e

pub or_right : (a b : Bool) → (a || b) ≡ true → a ≡ false → b ≡ true
or_right true b e f = never (sym f)
or_right false b e f = e

pub at_least : (n m : ℕ) → nat_le n m ≡ true → n ≤ m
at_least n m e = search (arith, e)

-- what a choice gives is one of two
pub by_test : {A : Type 0} (b : Bool) (x y : Option A) (z : A) → (if b then x else y) ≡ Some z → ((b ≡ true) × (x ≡ Some z)) ⊎ ((b ≡ false) × (y ≡ Some z))
by_test true x y z e = inl (refl, e)
by_test false x y z e = inr (refl, e)
