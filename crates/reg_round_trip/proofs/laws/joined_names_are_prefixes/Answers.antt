use Rattle.reg_round_trip.proofs.PrefixTexts.{joined_text}
use Rattle.reg_round_trip.proofs.laws.joined_names_are_prefixes.Goals as goal

pub returns : goal.returns
returns c = joined_text
