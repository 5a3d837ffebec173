-- Parts of tests on lists in order.
use Rattle.std.proofs.Common.{◌≡◌, Bool, true, false, ◌&&◌, T, refl}
use Rattle.std.specs.declared.cmp.Ordering.{Ordering}
use Rattle.std.specs.declared.cmp.Ordering.TheVariants.{Less, Equal, Greater}
use Rattle.std.specs.Ordering.{is_lt}

pub less_of : (o : Ordering) → T (is_lt o) → o ≡ Less
less_of Less h = refl
less_of Equal h = absurd h
less_of Greater h = absurd h

pub front_of : (a b : Bool) → T (a && b) → T a
front_of true b h = tt
front_of false b h = absurd h

pub back_of : (a b : Bool) → T (a && b) → T b
back_of true b h = h
back_of false b h = absurd h
