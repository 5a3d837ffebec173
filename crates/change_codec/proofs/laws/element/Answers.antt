use Rattle.change_codec.proofs.Elements.{element_law, element_exact, element_apart}
use Rattle.change_codec.proofs.May.{may_fit}
use Rattle.change_codec.proofs.Lengths.{element_length}
use Rattle.change_codec.proofs.laws.element.Goals as goal

pub returns : goal.returns
returns c = record {
  again = λ hives most e rest fits. (element_law hives most).again e rest fits;
  back = λ hives most bytes e rest h. (element_law hives most).back bytes e rest h;
  exact = λ hives most bytes e rest h. element_exact hives most bytes e rest h;
  apart = λ hives most e f rest more a b same. element_apart hives most e f rest more a b same;
  fits = λ hives e some has there moment size. may_fit hives e some has there moment size;
  size = λ e. element_length e;
}
