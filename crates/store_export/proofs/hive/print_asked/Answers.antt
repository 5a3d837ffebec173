use Rattle.std.proofs.Common.{ap, sym, ◌∙◌}
use Rattle.std.specs.Option.{option_map}
use Rattle.store_export.proofs.FilePrints.{asked_none, asked_some}
use Rattle.store_export.proofs.hive.print_asked.Goals as goal

pub returns-in-Some : goal.returns-in-Some
returns-in-Some g c =
    asked_some c.args.request.now _ c.in-Some.path.now c.args.image.now.bytes c.args.minor c.args.root _ _ c.print_below.result (sym (ap (option_map (λ path. path.now)) c.in-Some.is) ∙ c.asked_path.ensures.asked) c.print_below.ensures

pub returns-in-None : goal.returns-in-None
returns-in-None g c =
    asked_none (Unit {0}) c.args.request.now _ c.args.image.now.bytes c.args.minor c.args.root _ (sym (ap (option_map (λ path. path.now)) c.in-None.is) ∙ c.asked_path.ensures.asked)
