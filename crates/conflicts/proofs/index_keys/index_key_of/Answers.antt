use Rattle.std.proofs.Common.{◌++◌, ◌∷◌, [], ap, ◌∙◌}
use Rattle.reg_names.specs.Names.{folded_path}
use Rattle.conflicts.specs.IndexKeys.{path_text, index_key_text}
use Rattle.conflicts.proofs.index_keys.index_key_of.Goals as goal

pub returns-clause-text : goal.returns-clause-text
returns-clause-text c =
    c.in_ok-push-2.ensures.items ∙ ap (λ xs. xs ++ 0 ∷ []) (c.in_ok-write_path.ensures ∙ ap (λ p. c.push.new.self.items ++ path_text (folded_path p)) c.names-names.ensures.names ∙ ap (λ xs. xs ++ path_text (folded_path c.claim.inside.path.now)) (c.in_ok-push.ensures.items ∙ ap (λ xs. xs ++ c.from.result ∷ []) c.in_ok-text.ensures.items ∙ ap (λ n. n ∷ []) c.from.ensures)) ∙ ap index_key_text c.claim.view_is
