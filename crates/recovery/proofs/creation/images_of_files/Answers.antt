use Rattle.std.proofs.Common.{◌≡◌, ◌∙◌, ◌+◌, ◌∷◌, ◌++◌, [], List, ℕ, inr, length, map, refl, sym, ap, subst, arith, append_assoc, length-append}
use Rattle.std.proofs.lemmas.List.{length-map, map-append}
use Rattle.std.specs.Global.{Vec}
use Rattle.std.specs.Vec.Iter.{into_iter_items}
use Rattle.refusals.proofs.Refused.{handed_on}
use Rattle.recovery.specs.FileCopies.{AreImagesOfFiles, AreRefusedFor, IsRefusalOfFile}
use Rattle.recovery.proofs.Creations.{next_refused, no_file_yet, one_more_file}
use Rattle.recovery.proofs.creation.images_of_files.Goals as goal

-- the bytes of files
abbrev bytes_of : List (Vec ℕ) → List (List ℕ)
bytes_of files = map (λ file. file.items) files

pub loop-file-init : goal.loop-file-init
loop-file-init c =
    let gives = c.into_iter-file-iterator.ensures.into_iter_gives in
    let items = ap (λ (fs : List (Vec ℕ)). length fs) gives.0 in
    record {
      rest = refl;
      left = gives.1 ∙ c.args.files.ok.0 ∙ sym items;
      many = ap length c.in_ok-images.ensures.items;
      room = omega (arith, items, c.args.files.ok.0, c.len.ensures, c.in_ok-images.ensures.capacity);
      images = no_file_yet c.args.id c.in_ok-images.images.items;
    }

pub loop-file-preserved : goal.loop-file-preserved
loop-file-preserved c =
    let l = c.loop-file in
    let i = l.invariant in
    let file = c.in-Some.file in
    let images = l.images.items in
    let steps : into_iter_items l.file-iterator ≡ file ∷ into_iter_items c.next.new.self = c.in-Some.ensures.steps.0 in
    let many : length images ≡ length (bytes_of l.yielded) = i.many ∙ sym (length-map l.yielded (λ f. f.items)) in
    let image = c.in_ok-image.ensures.image in
    record {
      rest = append_assoc l.yielded (file ∷ []) _ ∙ rw (← steps) i.rest;
      left = omega (arith, i.left, c.in-Some.ensures.steps.1, ap length steps);
      many = ap length c.push_reserved.ensures.items ∙ length-append images (c.in_ok-image.image ∷ []) ∙ ap (λ n. n + 1) i.many ∙ sym (length-append l.yielded (file ∷ []));
      room = omega (arith, i.room, c.push_reserved.ensures.capacity);
      images = subst (λ fs. AreImagesOfFiles c.args.id fs c.push_reserved.new.self.items) (sym (map-append (λ (f : Vec ℕ). f.items) l.yielded (file ∷ [])))
          (subst (AreImagesOfFiles c.args.id (bytes_of l.yielded ++ file.items ∷ [])) (sym c.push_reserved.ensures.items)
          (one_more_file c.args.id (bytes_of l.yielded) images file.items many i.images c.in_ok-image.image image.0 image.1));
    }

pub returns-in_err-image-clause-refused : goal.returns-in_err-image-clause-refused
returns-in_err-image-clause-refused c =
    let l = c.loop-file in
    let i = l.invariant in
    let file = c.in-Some.file in
    let rest = into_iter_items c.next.new.self in
    let steps : into_iter_items l.file-iterator ≡ file ∷ rest = c.in-Some.ensures.steps.0 in
    let all : l.yielded ++ file ∷ rest ≡ c.args.files.items = rw (← steps) (i.rest ∙ c.into_iter-file-iterator.ensures.into_iter_gives.0) in
    let bytes : bytes_of l.yielded ++ file.items ∷ bytes_of rest ≡ bytes_of c.args.files.items = sym (map-append (λ (f : Vec ℕ). f.items) l.yielded (file ∷ rest)) ∙ ap bytes_of all in
    let many : length l.images.items ≡ length (bytes_of l.yielded) = i.many ∙ sym (length-map l.yielded (λ f. f.items)) in
    handed_on c.from_residual-in_err-image.result c.in_err-image.field-0.0 (AreRefusedFor (bytes_of c.args.files.items)) c.from_residual-in_err-image.ensures.1
    (inr (subst (λ fs. IsRefusalOfFile fs c.in_err-image.field-0.0) bytes
    (next_refused c.args.id (bytes_of l.yielded) l.images.items file.items many i.images (bytes_of rest) c.len-hive.result c.in_err-image.field-0.0 (c.len-hive.ensures ∙ l.images.ok.0) c.in_err-image.ensures.refused)))
