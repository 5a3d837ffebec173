use Rattle.std.proofs.Common.{◌∷◌, [], List, ℕ, sym, ap, refl, append_assoc}
use Rattle.key_walk.specs.KeyPaths.{names_on}
use Rattle.key_walk.proofs.Rows.{on_ok}
use Rattle.reg_export.specs.RegTexts.{reg_path}
use Rattle.reg_export.specs.SinkLaws.{prints_both}
use Rattle.reg_export.proofs.reg_sink.write_key_line.Goals as goal

pub returns : goal.returns
returns g c = on_ok c.write_text-3.result (λ end. prints_both c.args.encoding _ _ _ _ _ _
    (prints_both c.args.encoding _ _ _ _ _ _ (prints_both c.args.encoding _ _ _ _ _ _ c.in_ok-write_text.ensures c.in_ok-write_text-2.ensures refl) c.in_ok-write_path.ensures refl) end
    (ap (λ (t : List ℕ). 91 ∷ t) (sym (append_assoc (reg_path c.args.prefix.now (names_on c.args.path.now)) (93 ∷ []) (13 ∷ 10 ∷ []))))) c.write_text-3.ensures
