use Rattle.hive_edit_laws.proofs.ElementWrites.{more_over, fewer_over, more_kept, fewer_kept}
use Rattle.hive_edit_laws.proofs.cell_writes.elements_after.Goals as goal

pub returns-clause-more : goal.returns-clause-more
returns-clause-more c = λ old mid new source from stride count index word wide most front o long is tail. more_over old mid new source from stride count index word wide most front o long is tail

pub returns-clause-fewer : goal.returns-clause-fewer
returns-clause-fewer c = λ old mid new source from stride count index wide most front o long tail. fewer_over old mid new source from stride count index wide most front o long tail

pub returns-clause-more_kept : goal.returns-clause-more_kept
returns-clause-more_kept c = λ old mid new source at from stride count index word s o out. more_kept old mid new source at from stride count index word s o out

pub returns-clause-fewer_kept : goal.returns-clause-fewer_kept
returns-clause-fewer_kept c = λ old mid new source at from stride count index s o out. fewer_kept old mid new source at from stride count index s o out
