-- Names that fold alike.
use Rattle.std.proofs.Common.{◌≡◌, ℕ, ◌<◌, List, length, get_or, ◌∙◌, sym, subst}
use Rattle.std.proofs.lemmas.List.{ext_get_or, get_or-map, length-map}
use Rattle.reg_names.specs.Names.{fold_unit, folded}

-- names of one length whose units fold alike
pub fold_alike : (xs ys : List ℕ) → length xs ≡ length ys → ((k : ℕ) → k < length xs → fold_unit (get_or xs k 0) ≡ fold_unit (get_or ys k 0)) → folded xs ≡ folded ys
fold_alike xs ys e h = ext_get_or 0 (folded xs) (folded ys) (length-map xs fold_unit ∙ e ∙ sym (length-map ys fold_unit)) (λ i l.
    let here : i < length xs = subst (λ n. i < n) (length-map xs fold_unit) l in
    get_or-map fold_unit xs i 0 0 here ∙ h i here ∙ sym (get_or-map fold_unit ys i 0 0 (subst (λ n. i < n) e here)))
