use Rattle.std.proofs.Common.{◌∙◌, arith, length-set}
use Rattle.std.proofs.lemmas.List.Elements.{AllWithin-more_set}
use Rattle.disk_model.specs.MemFile.{FileHasRoom}
use Rattle.disk_model.proofs.Files.{state_of_replaced}
use Rattle.disk_model.proofs.mem_disk.reserve.Goals as goal

pub returns-in_err-reserve-clause-same : goal.returns-in_err-reserve-clause-same
returns-in_err-reserve-clause-same c =
    λ f. state_of_replaced c.loop-number.files.items c.index_mut.result.now c.reserve.new.self c.loop-number.number c.index_mut.ensures.value c.reserve.ensures.same f ∙ c.loop-number.invariant.same f

pub loop-number-preserved : goal.loop-number-preserved
loop-number-preserved c =
    let files = c.loop-number.files.items in
    let size = length-set files c.loop-number.number c.reserve.new.self in
    record {
      at_first = size ∙ c.loop-number.invariant.at_first;
      same = λ f. state_of_replaced files c.index_mut.result.now c.reserve.new.self c.loop-number.number c.index_mut.ensures.value c.reserve.ensures.same f ∙ c.loop-number.invariant.same f;
      room = AllWithin-more_set files c.loop-number.number c.reserve.new.self (omega arith) (FileHasRoom c.args.bytes c.args.calls) c.loop-number.invariant.room c.in_ok-reserve.ensures.room;
    }
