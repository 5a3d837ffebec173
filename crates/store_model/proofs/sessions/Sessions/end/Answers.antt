use Rattle.std.proofs.Common.{rules, ◌==◌, not, ◌∙◌, ap}
use Rattle.std.specs.List.{filter}
use Rattle.std.proofs.lemmas.Fn.{filter_same}
use Rattle.store_model.proofs.sessions.Sessions.end.Goals as goal

pub returns : goal.returns
returns c = filter_same _ (λ s. not (s == c.args.session)) _ (λ x b f' k. Prim.search rules) _ _ c.retain.ensures.filtered ∙ ap (filter (λ s. not (s == c.args.session))) c.self.view_is
