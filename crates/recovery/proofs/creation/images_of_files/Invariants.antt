use Rattle.std.proofs.Common.{◌≡◌, ◌≤◌, ◌++◌, length, map}
use Rattle.std.specs.Prelude.{vec_capacity}
use Rattle.std.specs.Vec.Iter.{into_iter_items, into_iter_len}
use Rattle.recovery.specs.FileCopies.{AreImagesOfFiles}
use Rattle.recovery.proofs.creation.images_of_files.Given as goal

abbrev pub invariant-loop-file : goal.invariant-loop-file
invariant-loop-file l = record {
  rest : l.yielded ++ into_iter_items l.file-iterator ≡ into_iter_items l.initial.file-iterator;
  left : into_iter_len l.file-iterator ≡ length (into_iter_items l.file-iterator);
  many : length l.images.items ≡ length l.yielded;
  room : length (into_iter_items l.initial.file-iterator) ≤ vec_capacity l.images;
  images : AreImagesOfFiles l.id (map (λ file. file.items) l.yielded) l.images.items;
}
