-- The first subkey of the key is one step further.
use Rattle.std.proofs.Common.{Some, None, refl, sym, ap, ◌∙◌, subst}
use Rattle.std.specs.FinMap as finite
use Rattle.regtx_c.specs.Ways.{Leads, indexes}
use Rattle.regtx_c.proofs.Ways.{told_by, step_by, joined_on, indexes_more}
use Rattle.regtx_c.proofs.steps.go_down.Goals as goal

pub returns-in_default-clause-steps : goal.returns-in_default-clause-steps
returns-in_default-clause-steps c =
    (told_by c.args.tree.now c.args.way.now.items c.deref.result.now c.end.result.now 0 None c.deref.ensures.value c.end.ensures.end c.end.ensures.root c.requires c.in_default.ensures.at c.in_default.ensures.has, refl)

pub returns-clause-on : goal.returns-clause-on
returns-clause-on c =
    let tree = c.args.tree.now in
    let way = c.args.way.now.items in
    subst (Leads tree) (sym c.in_ok-push.ensures.items) (joined_on (finite.entries tree) way (record { index = 0; key = c.in_ok-key.key }) c.requires
    (step_by tree way c.deref.result.now c.end.result.now 0 c.in-Some.subkey.now c.in_ok-key.key c.deref.ensures.value c.end.ensures.end c.in-Some.ensures.at c.in-Some.ensures.has c.in_ok-key.ensures.same))

pub returns-clause-steps : goal.returns-clause-steps
returns-clause-steps c = (
  told_by c.args.tree.now c.args.way.now.items c.deref.result.now c.end.result.now 0 (Some c.in-Some.subkey.now) c.deref.ensures.value c.end.ensures.end c.end.ensures.root c.requires c.in-Some.ensures.at c.in-Some.ensures.has,
  ap Some (ap indexes c.in_ok-push.ensures.items ∙ indexes_more c.args.way.now.items (record { index = 0; key = c.in_ok-key.key })),
)
