use Rattle.client_frames.proofs.Apart.{told_apart, all_apart}
use Rattle.client_frames.proofs.laws.frames_are_told_apart.Goals as goal

pub returns-clause-one : goal.returns-clause-one
returns-clause-one c = told_apart

pub returns-clause-all : goal.returns-clause-all
returns-clause-all c = all_apart
