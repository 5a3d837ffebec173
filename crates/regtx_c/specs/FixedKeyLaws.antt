-- Keys that were met one after another.
use Rattle.std.proofs.Common.{◌≡◌, Bool, true, false, ◌||◌, List, [], ◌∷◌, ◌++◌, refl, sym, ◌∙◌, ap}
use Rattle.key_walk.specs.KeyRows.{NamedRow}
use Rattle.regtx_c.specs.declared.fixed_keys.FixedKeys.{FixedKeys}
use Rattle.regtx_c.specs.FixedKeys.{is_fixed, any_fixed, MeetsFixed}

or_false : (a : Bool) → a ≡ (a || false)
or_false true = refl
or_false false = refl

or_both : (a b c : Bool) → ((a || b) || c) ≡ (a || (b || c))
or_both true b c = refl
or_both false b c = refl

any_both : (front rest : List NamedRow) → any_fixed (front ++ rest) ≡ (any_fixed front || any_fixed rest)
any_both [] rest = refl
any_both (key ∷ front) rest = ap (λ (b : Bool). is_fixed key.1 || b) (any_both front rest) ∙ sym (or_both (is_fixed key.1) (any_fixed front) (any_fixed rest))

pub meets_none : (found : FixedKeys) → MeetsFixed found found []
meets_none found = or_false found.are_met

pub meets_more : (before between after : FixedKeys) (front rest : List NamedRow) → MeetsFixed before between front → MeetsFixed between after rest → MeetsFixed before after (front ++ rest)
meets_more before between after front rest one two =
    two ∙ ap (λ (b : Bool). b || any_fixed rest) one ∙ or_both before.are_met (any_fixed front) (any_fixed rest) ∙ ap (λ (b : Bool). before.are_met || b) (sym (any_both front rest))
