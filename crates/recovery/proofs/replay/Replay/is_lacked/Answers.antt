use Rattle.std.proofs.Common.{◌≡◌, ◌∙◌, ℕ, ◌<◌, ◌≤◌, Bool, true, List, [], ◌∷◌, get_or, map, refl, sym, ap, arith}
use Rattle.std.specs.Prelude.{nat_lt, ◌||◌}
use Rattle.std.specs.List.{list_any}
use Rattle.std.proofs.lemmas.Bool.{lt-ltb, le-ltb}
use Rattle.reg_tree.specs.Operations.{hive_of}
use Rattle.reg_tree.specs.declared.op.Op.{Op}
use Rattle.recovery.proofs.replay.Replay.is_lacked.Goals as goal

any_map : (test : ℕ → Bool) (ops : List Op) → list_any test (map hive_of ops) ≡ list_any (λ op. test (hive_of op)) ops
any_map test [] = refl
any_map test (op ∷ ops) = ap (λ b. test (hive_of op) || b) (any_map test ops)

found : (numbers : List ℕ) (number hive : ℕ) (rest : List ℕ) → get_or numbers hive 0 < number → list_any (λ h. nat_lt (get_or numbers h 0) number) (hive ∷ rest) ≡ true
found numbers number hive rest lt = ap (λ b. b || list_any (λ h. nat_lt (get_or numbers h 0) number) rest) (lt-ltb (get_or numbers hive 0) number lt)

passed : (numbers : List ℕ) (number hive : ℕ) (rest : List ℕ) → number ≤ get_or numbers hive 0 → list_any (λ h. nat_lt (get_or numbers h 0) number) (hive ∷ rest) ≡ list_any (λ h. nat_lt (get_or numbers h 0) number) rest
passed numbers number hive rest ge = ap (λ b. b || list_any (λ h. nat_lt (get_or numbers h 0) number) rest) (le-ltb (get_or numbers hive 0) number ge)

pub returns-then-number_of-number : goal.returns-then-number_of-number
returns-then-number_of-number c =
    let numbers = c.args.self.now.numbers.items in
    let test : ℕ → Bool = λ h. nat_lt (get_or numbers h 0) c.args.number in
    sym (found numbers c.args.number c.in-Some.hive c.next.new.self (omega (arith, c.if-number_of-number.true, c.number_of.ensures)))
    ∙ sym (ap (list_any test) c.in-Some.ensures) ∙ sym c.loop-hive.invariant ∙ any_map test c.args.change.now.ops

pub loop-hive-preserved : goal.loop-hive-preserved
loop-hive-preserved c =
    let numbers = c.args.self.now.numbers.items in
    let test : ℕ → Bool = λ h. nat_lt (get_or numbers h 0) c.args.number in
    c.loop-hive.invariant ∙ ap (list_any test) c.in-Some.ensures ∙ passed numbers c.args.number c.in-Some.hive c.next.new.self (omega (arith, c.if-number_of-number.false, c.number_of.ensures))

pub returns : goal.returns
returns c =
    let test : ℕ → Bool = λ h. nat_lt (get_or c.args.self.now.numbers.items h 0) c.args.number in
    sym (ap (list_any test) c.in_default.ensures) ∙ sym c.loop-hive.invariant ∙ any_map test c.args.change.now.ops
