use Rattle.std.proofs.Common.{◌≡◌, ◌+◌, ◌*◌, Some, refl, subst, sym, ◌∙◌}
use Rattle.std.proofs.lemmas.Option.{same_Some}
use Rattle.crash_model.specs.Files.{DecodesBy, HoldsBy}
use Rattle.crash_model.proofs.OfFiles.{files_prefix, files_once}
use Rattle.crash_model.proofs.of_files.Goals as goal

pub returns : goal.returns
returns g c = record {
  exists = λ r decoded held most hives s engine files left.
      files_prefix r (DecodesBy decoded) (HoldsBy held) most hives s engine (λ c. c ≡ files 0) (λ c e. let j = left.journal in (j.0, j.1, subst (λ b. decoded b ≡ Some j.0) (sym e) j.2))
      (λ i c. c ≡ files (1 + 2 * i)) (λ i c. c ≡ files (2 + 2 * i))
      (λ i lt p l a b. let x = left.each i lt in (x.0, x.1, subst (λ q. held q l ≡ Some x.0) (sym a) (subst (λ q. held (files (1 + 2 * i)) q ≡ Some x.0) (sym b) x.2)))
      files refl (λ i lt. (refl, refl));
  only = λ r decoded held most hives files n m ts us a b.
      files_once r (DecodesBy decoded) (HoldsBy held) most hives (λ c s t a b. same_Some s t (sym a ∙ b)) (λ p l x y a b. same_Some x y (sym a ∙ b)) files n m ts us a b;
}
