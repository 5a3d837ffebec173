use Rattle.std.proofs.Common.{List, ℕ, refl, sym, subst, ◌∙◌, inl, inr}
use Rattle.jiff_core.specs.Timestamp.{IsTimestampNanos}
use Rattle.key_walk.specs.KeyPaths.{names_on}
use Rattle.key_walk.proofs.Rows.{on_ok}
use Rattle.reg_export.specs.Moments.{IsUtcText, nanos_of}
use Rattle.reg_export.specs.JsonLaws.{json_lines_one}
use Rattle.reg_export.proofs.json_sink.JsonSinkKeySink.take.Goals as goal

pub returns-in-Some : goal.returns-in-Some
returns-in-Some g c = on_ok c.write_key.result (λ printed.
    let text : List ℕ = c.as_bytes.result.now in
    let shown = subst (λ (bytes : List ℕ). IsUtcText c.args.key.now.time bytes) (sym (c.as_bytes.ensures.value ∙ c.as_str.ensures.value)) (subst (λ time. IsUtcText time c.in-Some.text.bytes) c.time.ensures c.in-Some.ensures.1) in
    let inside = subst (λ time. IsTimestampNanos (nanos_of time)) c.time.ensures c.in-Some.ensures.0 in
    (json_lines_one _ _ c.args.self.now.hive (names_on c.args.path.now, c.args.key.now) _ (inl (text, inside, shown, refl)) printed, refl, refl)) c.write_key.ensures

pub returns-in-None : goal.returns-in-None
returns-in-None g c = on_ok c.write_key-in-None.result (λ printed.
    (json_lines_one _ _ c.args.self.now.hive (names_on c.args.path.now, c.args.key.now) _ (inr (subst (λ time. ¬ IsTimestampNanos (nanos_of time)) c.time.ensures c.in-None.ensures, refl)) printed, refl, refl)) c.write_key-in-None.ensures
