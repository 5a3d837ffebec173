use Rattle.std.proofs.Common.{refl, ◌∙◌, ◌∷◌, [], slice_index}
use Rattle.hive_edit.proofs.Words.{same_word, four_bytes}
use Rattle.hive_edit.proofs.value_edit.record_text.Goals as goal

pub returns : goal.returns
returns c =
    let size = c.u32_bytes-size.result in
    let kind = c.u32_bytes-kind.result in
    let field = c.args.new.now.field in
    let text = slice_index size 0 ∷ slice_index size 1 ∷ slice_index size 2 ∷ slice_index size 3 ∷ slice_index field 0 ∷ slice_index field 1 ∷ slice_index field 2 ∷ slice_index field 3 ∷ slice_index kind 0 ∷ slice_index kind 1 ∷ slice_index kind 2 ∷ slice_index kind 3 ∷ [] in
    record {
      len = refl;
      size = same_word text size 0 0 refl refl refl refl ∙ c.u32_bytes-size.ensures.is;
      field = four_bytes text field 4 refl refl refl refl;
      kind_is = same_word text kind 8 0 refl refl refl refl ∙ c.u32_bytes-kind.ensures.is;
    }
