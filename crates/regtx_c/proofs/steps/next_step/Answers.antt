-- The next subkey of the key above is one index further.
use Rattle.std.proofs.Common.{◌≡◌, ◌+◌, length, Some, None, refl, ap, ◌∙◌, subst, arith}
use Rattle.std.specs.FinMap as finite
use Rattle.reg_tree_parts.specs.Nodes.{subkeys_of}
use Rattle.regtx_c.specs.Places.{leads}
use Rattle.regtx_c.specs.Ways.{Leads, end_of}
use Rattle.regtx_c.proofs.Ways.{told_by, step_by, split_on, next_is, next_within}
use Rattle.regtx_c.proofs.steps.next_step.Goals as goal

pub end-above-requires : goal.end-above-requires
end-above-requires c = let parts = split_on (finite.entries c.args.tree.now) c.in-Some.front.now c.in-Some.last.now (subst (Leads c.args.tree.now) c.in-Some.ensures.cases.0 c.requires) in parts.0

pub overflow_add-index : goal.overflow_add-index
overflow_add-index c =
    let parts = split_on (finite.entries c.args.tree.now) c.in-Some.front.now c.in-Some.last.now (subst (Leads c.args.tree.now) c.in-Some.ensures.cases.0 c.requires) in
    let le = next_within (end_of c.args.tree.now c.in-Some.front.now) c.in-Some.last.now c.subkey_count-index.result parts.1 (subst (λ es. c.subkey_count-index.result ≡ length (subkeys_of es)) c.end-above.ensures.end c.subkey_count-index.ensures.subkeys) in
    omega (arith, le, c.subkey_count-index.type_inv)

pub returns-in_default-subkey_at : goal.returns-in_default-subkey_at
returns-in_default-subkey_at c =
    let tree = c.args.tree.now in
    let front = c.in-Some.front.now in
    let last = c.in-Some.last.now in
    let parts = split_on (finite.entries tree) front last (subst (Leads tree) c.in-Some.ensures.cases.0 c.requires) in
    ap (leads tree) (next_is c.args.way.now front last c.in-Some.ensures.cases.0)
    ∙ told_by tree front front c.end-above.result.now (last.index + 1) None refl c.end-above.ensures.end c.end-above.ensures.root parts.0 c.in_default-subkey_at.ensures.at c.in_default-subkey_at.ensures.has

pub returns : goal.returns
returns c =
    let tree = c.args.tree.now in
    let front = c.in-Some.front.now in
    let last = c.in-Some.last.now in
    let found = c.in-Some-subkey_at in
    let parts = split_on (finite.entries tree) front last (subst (Leads tree) c.in-Some.ensures.cases.0 c.requires) in record {
      front = front;
      last = last;
      whole = c.in-Some.ensures.cases.0;
      index = refl;
      goes = step_by tree front front c.end-above.result.now (last.index + 1) found.subkey.now c.in_ok-key.key refl c.end-above.ensures.end found.ensures.at found.ensures.has c.in_ok-key.ensures.same;
      there = ap (leads tree) (next_is c.args.way.now front last c.in-Some.ensures.cases.0) ∙ told_by tree front front c.end-above.result.now (last.index + 1) (Some found.subkey.now) refl c.end-above.ensures.end c.end-above.ensures.root parts.0 found.ensures.at found.ensures.has;
    }
