use Rattle.std.proofs.Common.{◌≡◌, ◌++◌, ◌∷◌, [], take, ◌<◌, ℕ}
use Rattle.std.specs.Prelude.{Contains}
use Rattle.std.specs.Hash.DefaultHasher as sip
use Rattle.reg_names.specs.Names.{folded_path}
use Rattle.conflicts.specs.IndexKeys.{path_text, hasher_after, text_hash}
use Rattle.conflicts.proofs.index_keys.numbers_along.Given as goal

abbrev pub invariant-loop-name : goal.invariant-loop-name
invariant-loop-name l = record {
  written : l.text.items ≡ l.initial.text.items ++ path_text (folded_path (take l.name-index l.names));
  hashed : l.hasher ≡ hasher_after sip.initial l.text.items;
  gathered : (number j : ℕ) → number < 18446744073709551616 → j < l.name-index → Contains l.hashes.keys (text_hash ((l.initial.text.items ++ path_text (folded_path (take j l.names))) ++ 0 ∷ []), number) → Contains l.found.items number;
}
