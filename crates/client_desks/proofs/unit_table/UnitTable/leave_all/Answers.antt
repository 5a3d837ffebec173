use Rattle.std.proofs.Common.{◌≡◌, rules, ◌==◌, not, ◌∙◌, ap}
use Rattle.std.specs.List.{filter}
use Rattle.std.proofs.lemmas.Fn.{filter_same}
use Rattle.client_desks.proofs.Tables.{fewer, filtered}
use Rattle.client_desks.proofs.unit_table.UnitTable.leave_all.Goals as goal

pub returns : goal.returns
returns c = filter_same _ (λ s. not (s.place == c.args.place)) _ (λ x b f' k. Prim.search rules) _ _ c.retain.ensures.filtered ∙ ap (filter (λ s. not (s.place == c.args.place))) c.self.view_is

pub invariant_of-self : goal.invariant_of-self
invariant_of-self c =
    let items = c.self.inside.active.items in
    let left : c.retain.new.self.items ≡ filter (λ s. not (s.place == c.args.place)) items = filter_same _ (λ s. not (s.place == c.args.place)) _ (λ x b f' k. Prim.search rules) _ _ c.retain.ensures.filtered in
    fewer items c.retain.new.self.items c.self.invariant (λ e h. filtered (λ s. not (s.place == c.args.place)) items e (rw left at h))
