-- The unit of work that operations commit.
use Rattle.std.proofs.Common.{◌≡◌, ◌∙◌, ℕ, ◌<◌, ◌+◌, List, ◌∷◌, Some, length, get_or, drop, ap, sym}
use Rattle.std.specs.Prelude.{if◌then◌else◌}
use Rattle.std.proofs.lemmas.Bool.{eq-eqb}
use Rattle.std.proofs.lemmas.List.{drop_more}
use Rattle.reg_tree.specs.declared.op.Op.{Op}
use Rattle.reg_tree.specs.declared.op.Op.TheVariants.{SetValue}
use Rattle.served_replies.specs.ServedReplies.{unit_in}

-- the operation at a place writes a value in the hive of outcomes, and none before it does
pub found : (named : ℕ) (ops : List Op) (i : ℕ) (item : Op) (hive : ℕ) (path : List (List ℕ)) (name : List ℕ) (kind : ℕ) (bytes : List ℕ) → unit_in named (drop i ops) ≡ unit_in named ops → i < length ops → item ≡ get_or ops i item → item ≡ SetValue hive path name kind bytes → hive ≡ named → Some name ≡ unit_in named ops
found named ops i item hive path name kind bytes same lt at is on =
    sym (sym same ∙ ap (unit_in named) (drop_more ops i item lt ∙ ap (λ x. x ∷ drop (i + 1) ops) (sym at ∙ is))
    ∙ ap (λ b. if b then Some name else unit_in named (drop (i + 1) ops)) (eq-eqb hive named on))
