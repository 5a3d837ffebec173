use Rattle.reg_round_trip.proofs.ShownPlaces.{joined, place_shown, path_read}
use Rattle.reg_round_trip.proofs.laws.paths_lead_to_keys.Goals as goal

pub returns : goal.returns
returns c = λ prefixes hive prefix names apart shown all short. (joined names, place_shown prefixes apart hive prefix shown names, path_read names all short)
