use Rattle.crash_model.specs.Files.{DecodesBy, HoldsBy}
use Rattle.crash_model.specs.Moments.{LeavesBy}
use Rattle.crash_model.proofs.EachMoment.{some_prefix, every_prefix}
use Rattle.crash_model.proofs.each_moment.Goals as goal

pub returns : goal.returns
returns g c = record {
  some = λ r decoded held most hives test b bs trace all files k low high left. some_prefix r (DecodesBy decoded) (HoldsBy held) most hives (LeavesBy test) files k left b bs trace all low high;
  every = λ r decoded held most hives test bs all files k left. every_prefix r (DecodesBy decoded) (HoldsBy held) most hives (LeavesBy test) files k left bs all;
}
