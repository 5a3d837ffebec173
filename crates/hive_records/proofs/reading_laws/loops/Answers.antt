use Rattle.hive_records.proofs.Each.{each_starts, each_goes_on, each_stops}
use Rattle.hive_records.proofs.reading_laws.loops.Goals as goal

pub returns-clause-starts : goal.returns-clause-starts
returns-clause-starts g c = λ f cells marks. each_starts f cells marks

pub returns-clause-goes_on : goal.returns-clause-goes_on
returns-clause-goes_on g c = λ f first x cells old mid new ys y h k. each_goes_on f first x cells old mid new ys y h k

pub returns-clause-stops : goal.returns-clause-stops
returns-clause-stops g c = λ f first x rest cells old mid new ys e h k. each_stops f first x rest cells old mid new ys e h k
