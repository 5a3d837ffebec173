use Rattle.std.proofs.Common.{◌≡◌}
use Rattle.registry_lines.specs.Interpreters.{script_of}
use Rattle.store_server.specs.Served.{kind_of}
use Rattle.store_server.specs.declared.served_kind.ServedKind.TheVariants.{Begin, Kept}
use Rattle.store_server.proofs.LineKinds.{begin_told, kept_told}
use Rattle.store_server.proofs.served_script.ServedScript.answer.Goals as goal

pub returns-in-Kept : goal.returns-in-Kept
returns-in-Kept g c =
    let O = g.O.Origin in
    let S = g.O.Start in
    let is : kind_of c.args.line ≡ Kept c.in-Kept.id = cc (c.kind_of.ensures, c.in-Kept.is) in
    record { answered = kept_told S.sole S.start O.trees O.number O.hives (script_of c.args.self.now.script) c.args.line c.in-Kept.id c.kept.result (script_of c.kept.new.self.script) is c.kept.ensures }

pub returns-in-Begin : goal.returns-in-Begin
returns-in-Begin g c =
    let O = g.O.Origin in
    let S = g.O.Start in
    let is : kind_of c.args.line ≡ Begin c.in-Begin.label c.in-Begin.id = cc (c.kind_of.ensures, c.in-Begin.is) in
    record { answered = begin_told S.sole S.start O.trees O.number O.hives (script_of c.args.self.now.script) c.args.line c.in-Begin.label c.in-Begin.id c.begin.result (script_of c.begin.new.self.script) is c.begin.ensures }
