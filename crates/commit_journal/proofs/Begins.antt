-- A batch that begins, from the body that is ready to be written.
use Rattle.std.proofs.Common.{◌≡◌, ℕ, ◌+◌, ◌-◌, ◌<◌, ◌≤◌, List, [], ◌∷◌, ◌++◌, length, take, refl, sym, ◌∙◌, ap, subst, arith, length-append, length-take}
use Rattle.std.proofs.lemmas.List.{length-map, take-map}
use Rattle.std.specs.Prelude.{◌^◌, sum_by}
use Rattle.std.specs.List.{flat_map, AllByRecursion}
use Rattle.byteorder.specs.Endian.{little_bytes}
use Rattle.byteorder.specs.Numbers.{length-bytes_low_first}
use Rattle.change_codec.specs.Encoding.{element_bytes}
use Rattle.reg_tree.specs.Encodings.{element_encoded_len}
use Rattle.commit_journal.specs.Store.{Store, all_hives, header_bytes, encodings}
use Rattle.commit_journal.proofs.StoreHives.{most_hives}
use Rattle.commit_journal.specs.Handed.{OnHives, FitsIfThere, IsLongestPrefix, body_len}
use Rattle.commit_journal.proofs.Batches.{encodings_length, all_taken, all_fit, body_is}
use Rattle.reg_tree.specs.declared.element.Element.{Element}
use Rattle.crash_model.specs.Changes as law
use Rattle.crash_model.specs.Promises.{Content, nothing, under_way, MayFollow, BeginsBatch}
use Rattle.disk_model.specs.FileState.{FileState, Writes, MayWrite}
use Rattle.change_codec.specs.ModelChanges.{TimedOp, timed_element, timed_elements}
use Rattle.commit_journal.specs.Encoding.{Encodings, Body, IsBody, body_bytes}
use Rattle.commit_journal.specs.OnDisk.{is_on, view_at, with_elements, MayBegin, Phase.BodyWritten, Phase.Broken}
use Rattle.commit_journal.specs.Journals.{content_of, view_in_phase, IsReady}
use Rattle.commit_journal.specs.declared.extent.Extent.{Extent}
use Rattle.commit_journal.specs.declared.journal.Phase.{Phase}
use Rattle.commit_journal.specs.declared.journal.Phase.TheVariants as phase
use Rattle.commit_journal.proofs.Calls as calls

module _ (t : Encodings TimedOp) (now : Extent) (first : ℕ) (handed : List Element) (bytes : List ℕ) (ahead : Extent) (ready : IsReady t now first handed bytes ahead) where
  abbrev chosen : List Element
  chosen = take ready.count handed

  count_is : length (timed_elements chosen) ≡ ready.count
  count_is = omega (arith, length-map chosen timed_element, length-take ready.count handed, ready.prefix.there)

  -- what the crash model says of it
  pub begins : (p : Phase) → p ≡ phase.AtRest → BeginsBatch first (timed_elements handed) (view_in_phase now p).choice (under_way (content_of now) (content_of ahead))
  begins p quiet = subst (λ (q : Phase). BeginsBatch first (timed_elements handed) (view_in_phase now q).choice (under_way (content_of now) (content_of ahead))) (sym quiet) (
    ready.count,
    omega (arith, ready.some),
    omega (arith, ready.prefix.there, length-map handed timed_element),
    refl,
    ap (λ (s : Content TimedOp). under_way (content_of now) s) (ready.decodes ∙ ap (λ (l : List (law.Element TimedOp)). with_elements (content_of now) (first - 1) l) (sym (take-map timed_element ready.count handed))),
  )

  module _ (one : 1 ≤ first) (continue_at : MayFollow t.most (first - 1) (timed_elements handed) (content_of now)) (p : Phase) (quiet : p ≡ phase.AtRest) (old new : FileState) (on : is_on t (view_in_phase now p) old) where
    abbrev body : Body TimedOp
    body = record { first = first; elements = timed_elements chosen }

    may : MayBegin t (content_of now) (first - 1) ready.chunk body
    may = record {
      body = ready.body;
      ends = continue_at.ends;
      first = omega (arith, one);
      some = omega (arith, count_is, ready.some);
      room = omega (arith, count_is, ready.prefix.there, continue_at.room, length-map handed timed_element);
    }

    here : is_on t (view_in_phase now phase.AtRest) old
    here = subst (λ (q : Phase). is_on t (view_in_phase now q) old) quiet on

    pub body_ok : Writes (now.gate + 1) bytes old new → is_on t (view_at (content_of now) (content_of ahead) now.gate ahead.gate BodyWritten) new
    body_ok done =
        subst (λ (s : Content TimedOp). is_on t (view_at (content_of now) s now.gate ahead.gate BodyWritten) new) (sym ready.decodes)
        (subst (λ (k : ℕ). is_on t (view_at (content_of now) (with_elements (content_of now) (first - 1) (timed_elements chosen)) now.gate k BodyWritten) new) (sym ready.gate)
        (calls.body_ok t (content_of now) nothing now.gate now.gate old new (first - 1) ready.chunk body here may (subst (λ (l : List ℕ). Writes (now.gate + 1) l old new) ready.is done)))

    pub body_failed : (x : Extent) → x ≡ ahead → MayWrite (now.gate + 1) bytes old new → is_on t (view_at (content_of now) (content_of x) now.gate x.gate Broken) new
    body_failed x is failed =
        subst (λ (y : Extent). is_on t (view_at (content_of now) (content_of y) now.gate y.gate Broken) new) (sym is)
        (subst (λ (s : Content TimedOp). is_on t (view_at (content_of now) s now.gate ahead.gate Broken) new) (sym ready.decodes)
        (subst (λ (k : ℕ). is_on t (view_at (content_of now) (with_elements (content_of now) (first - 1) (timed_elements chosen)) now.gate k Broken) new) (sym ready.gate)
        (calls.body_failed t (content_of now) nothing now.gate now.gate old new (first - 1) ready.chunk body here may (subst (λ (l : List ℕ). MayWrite (now.gate + 1) l old new) ready.is failed))))

body_bytes_length : (first count : ℕ) (encodings : List ℕ) → length (body_bytes first count encodings) ≡ 16 + length encodings
body_bytes_length first count encodings =
    let a = little_bytes 4 (16 + length encodings) in
    let b = little_bytes 8 first in
    let c = little_bytes 4 count in
    omega (arith, length-append (a ++ b ++ c) encodings, length-append (a ++ b) c, length-append a b, length-bytes_low_first 0 4 (16 + length encodings), length-bytes_low_first 0 8 first, length-bytes_low_first 0 4 count)

-- the body of the chosen elements, and the content with it, are ready
pub ready_of : (store : Store) → store.hives ≤ 16 → (now : Extent) (first : ℕ) (handed : List Element) (count size : ℕ) (chunk bytes : List ℕ) (ahead : Extent) (xs : List Element)
    → chunk ≡ body_bytes first (length xs) (flat_map element_bytes xs) → AllByRecursion FitsIfThere xs → xs ≡ take count handed
    → first < 256 ^ 8 → 0 < count → IsLongestPrefix count handed → AllByRecursion (OnHives (all_hives store)) handed → size ≡ body_len (take count handed)
    → bytes ≡ chunk ++ 0 ∷ [] → content_of ahead ≡ with_elements (content_of now) (first - 1) (timed_elements xs) → ahead.gate ≡ now.gate + 1 + size
    → IsReady (encodings store) now first handed bytes ahead
ready_of store le now first handed count size chunk bytes ahead xs encoding fit eq small some prefix there is bytes_are decodes gate =
    let on_hives : AllByRecursion (OnHives (all_hives store)) xs = subst (λ (l : List Element). AllByRecursion (OnHives (all_hives store)) l) (sym eq) (all_taken (OnHives (all_hives store)) count handed there) in
    let sums = ap (λ (l : List Element). sum_by element_encoded_len l) eq in
    let made : IsBody (encodings store) chunk (record { first = first; elements = timed_elements xs })
    = subst (λ (b : List ℕ). IsBody (encodings store) b (record { first = first; elements = timed_elements xs })) (sym encoding)
    (body_is (all_hives store) (omega (arith, most_hives store.layout store.hives, le)) (header_bytes store) first xs (all_fit (all_hives store) xs fit on_hives) small (omega (arith, sums, prefix.fits))) in
    record {
      count = count;
      chunk = chunk;
      some = some;
      prefix = prefix;
      body = subst (λ (l : List Element). IsBody (encodings store) chunk (record { first = first; elements = timed_elements l })) eq made;
      is = bytes_are;
      decodes = decodes ∙ ap (λ (l : List Element). with_elements (content_of now) (first - 1) (timed_elements l)) eq;
      gate = omega (arith, gate, is, sums, ap (λ (l : List ℕ). length l) encoding, body_bytes_length first (length xs) (flat_map element_bytes xs), encodings_length xs);
    }
