-- How far a reading of a journal's bytes has come, from left to right.
use Rattle.std.specs.Prelude.{◌≡◌, ℕ, ◌+◌, ◌-◌, ◌≤◌, List, ◌∷◌, ◌++◌, length, take, drop, ◌==◌, if◌then◌else◌, Option, Some, None, sum_by}
use Rattle.std.specs.Option.{option_and_then}
use Rattle.std.specs.List.{AllByRecursion}
use Rattle.byteorder.specs.Endian.{little_number}
use Rattle.refusals.specs.declared.limits.TheConstants.{GREATEST_NUMBER}
use Rattle.reg_tree.specs.Encodings.{element_encoded_len}
use Rattle.reg_tree.specs.declared.element.Element.{Element}
use Rattle.crash_model.specs.Changes as law
use Rattle.crash_model.specs.Promises.{Content, nothing, top}
use Rattle.disk_model.specs.FileState.{at_rest}
use Rattle.change_codec.specs.Encoding.{Fits}
use Rattle.change_codec.specs.ModelChanges.{TimedOp, timed_elements}
use Rattle.commit_journal.specs.declared.layout.TheConstants.{OPEN_GATE, MOST_BODY_BYTES}
use Rattle.commit_journal.specs.Encoding.{Encodings, Body, read_elements, read_body, PrefixEncodes, decoded}
use Rattle.commit_journal.specs.Store.{encodings_after}
use Rattle.commit_journal.specs.OnDisk.{is_on, view_at, Phase.AtRest}
use Rattle.commit_journal.specs.Numbered.{NumberedChange, numbered}
use Rattle.commit_journal.specs.GhostLog.{logged_changes, logged_elements}
use Rattle.commit_journal.specs.Journals.{content_of}
use Rattle.commit_journal.specs.declared.extent.Extent.{Extent}
use Rattle.commit_journal.specs.declared.reader.PartialBody.{PartialBody}
use Rattle.commit_journal.specs.declared.reader.NextField.{NextField}
use Rattle.commit_journal.specs.declared.reader.NextField.TheVariants.{Gate, Head, Size, Encoding, Done}
use Rattle.commit_journal.specs.declared.reader.Reader.{Reader}
use Rattle.commit_journal.specs.declared.buffer.ReadBuffer.{ReadBuffer}
use Rattle.commit_journal.specs.ReadBuffers.{rest_of}

-- ---- what the file's bytes are

-- The bytes before these encode this content: the next byte is a gate.
pub record AtGate {Op : Type 0} (t : Encodings Op) (file : List ℕ) (now : Content Op) (at : ℕ) (rest : List ℕ) : Type 0 where
  pub prefix : List ℕ
  pub is : file ≡ prefix ++ rest
  pub on_device : PrefixEncodes t now at prefix

-- the body of these elements, with those that were read before them, if nothing of it is left
abbrev pub finished : {Op : Type 0} → ℕ → List (law.Element Op) → List ℕ → List (law.Element Op) × List ℕ → Option (Body Op × List ℕ)
finished first es behind got = if length got.1 == 0 then Some (record { first = first; elements = es ++ got.0 }, behind) else None

-- the body that begins with these elements, of which `left` bytes and `count` elements are left
abbrev pub rest_of_body : {Op : Type 0} → Encodings Op → ℕ → List (law.Element Op) → ℕ → ℕ → List ℕ → Option (Body Op × List ℕ)
rest_of_body t first es left count rest = option_and_then (finished first es (drop left rest)) (read_elements t.read count (take left rest))

-- After an open gate a body of `size` bytes was read in part: these elements are read, and this many bytes and elements
-- are left.
pub record InBody {Op : Type 0} (t : Encodings Op) (file : List ℕ) (now : Content Op) (at size first : ℕ) (es : List (law.Element Op)) (left count : ℕ) (rest : List ℕ) : Type 0 where
  pub bytes : List ℕ
  pub gate : AtGate t file now at (OPEN_GATE ∷ bytes)
  pub reads : read_body t bytes ≡ rest_of_body t first es left count rest
  pub there : left ≤ length rest
  pub length_is : length bytes + left ≡ size + length rest

-- the file decodes to the durable content, and its journal is at rest
pub record FileDecodesTo (t : Encodings TimedOp) (file : List ℕ) (now : Extent) : Type 0 where
  pub decodes : decoded t file ≡ Some (content_of now)
  pub on : is_on t (view_at (content_of now) nothing now.gate now.gate AtRest) (at_rest file)

abbrev pub in_partial_body : Encodings TimedOp → List ℕ → Extent → List Element → PartialBody → List ℕ → Type 0
in_partial_body t file now es partial_body rest =
    InBody t file (content_of now) now.gate partial_body.size partial_body.first (timed_elements (drop partial_body.start es)) partial_body.left partial_body.count rest

-- the bytes that are still to be read, by what comes next
abbrev pub reading_at : Encodings TimedOp → List ℕ → Extent → List Element → NextField → List ℕ → Type 0
reading_at t file now es Gate rest = AtGate t file (content_of now) now.gate rest
reading_at t file now es Head rest = AtGate t file (content_of now) now.gate (OPEN_GATE ∷ rest)
reading_at t file now es (Size partial_body) rest = in_partial_body t file now es partial_body rest
reading_at t file now es (Encoding partial_body len) rest = in_partial_body t file now es partial_body rest × (little_number 4 rest ≡ len)
reading_at t file now es Done rest = FileDecodesTo t file now

-- the elements that were read
abbrev pub read_by : Reader → List Element
read_by r = logged_changes r.read

abbrev pub encodings_for : List ℕ → Reader → Encodings TimedOp
encodings_for header r = encodings_after header r.hives

-- The reading of this file, as the journal of a store with this header, has reached these bytes, which are still to be
-- read.
abbrev pub IsReading : List ℕ → List ℕ → Reader → List ℕ → Type 0
IsReading header file r rest = reading_at (encodings_for header r) file r.on_device (read_by r) r.next rest

-- A body with `count` elements from the number `first` on may follow the durable content.
pub record BodyMayFollow {Op : Type 0} (most : ℕ) (now : Content Op) (first count : ℕ) : Type 0 where
  pub one : 1 ≤ first
  pub ends : top (first - 1) now ≡ first - 1
  pub some : 1 ≤ count
  pub room : first + count ≤ most + 1

-- ---- what is kept of the elements, whatever the device gave

-- the durable content is these elements, and each of all elements that were read fits
pub record ElementsAreSound (hives : ℕ) (now : Extent) (durable_before es : List Element) : Type 0 where
  pub are : logged_changes now.ghost_log ≡ durable_before
  pub ghost_log : logged_elements now.ghost_log ≡ timed_elements durable_before
  pub fit : AllByRecursion (Fits hives) es
  pub last : now.last ≤ GREATEST_NUMBER

-- the numbers of a body that is read in part
pub record PartialIsSound (now : Extent) (es : List Element) (partial_body : PartialBody) : Type 0 where
  pub start : partial_body.start ≤ length es
  pub number : 1 ≤ partial_body.first
  pub ends : top (partial_body.first - 1) (content_of now) ≡ partial_body.first - 1
  pub some : 1 ≤ length (drop partial_body.start es) + partial_body.count
  pub most : partial_body.first + (length (drop partial_body.start es) + partial_body.count) ≤ GREATEST_NUMBER + 1
  pub size : partial_body.size ≡ 16 + (partial_body.left + sum_by element_encoded_len (drop partial_body.start es))
  pub short : partial_body.size ≤ MOST_BODY_BYTES

-- the length of the next element of a partial body may be this
pub record IsNext (partial_body : PartialBody) (len : ℕ) : Type 0 where
  pub some : 1 ≤ partial_body.count
  pub low : 16 ≤ len
  pub high : len ≤ partial_body.left

abbrev pub sound_at : ℕ → Extent → List Element → NextField → Type 0
sound_at hives now es Gate = ElementsAreSound hives now es es
sound_at hives now es Head = ElementsAreSound hives now es es
sound_at hives now es (Size partial_body) = ElementsAreSound hives now (take partial_body.start es) es × (PartialIsSound now es partial_body × ((1 ≤ partial_body.count) × (16 ≤ partial_body.left)))
sound_at hives now es (Encoding partial_body len) = ElementsAreSound hives now (take partial_body.start es) es × (PartialIsSound now es partial_body × ((1 ≤ partial_body.count) × ((16 ≤ len) × (len ≤ partial_body.left))))
sound_at hives now es Done = ElementsAreSound hives now es es

abbrev pub ReaderIsSound : Reader → Type 0
ReaderIsSound r = sound_at r.hives r.on_device (read_by r) r.next

-- the number of the last element that was read of a body, or the number before its first
abbrev pub IsLastOfPartial : ℕ → List Element → PartialBody → Type 0
IsLastOfPartial last es partial_body = last + 1 ≡ partial_body.first + length (drop partial_body.start es)

abbrev pub numbers_agree_at : ℕ → Extent → List Element → NextField → Type 0
numbers_agree_at last now es Gate = last ≡ now.last
numbers_agree_at last now es Head = last ≡ now.last
numbers_agree_at last now es (Size partial_body) = IsLastOfPartial last es partial_body
numbers_agree_at last now es (Encoding partial_body len) = IsLastOfPartial last es partial_body
numbers_agree_at last now es Done = last ≡ now.last

-- the number of the last element continues the durable content, and what was read of a body
abbrev pub NumbersAgree : Reader → Type 0
NumbersAgree r = numbers_agree_at r.last r.on_device (read_by r) r.next

-- ---- what a sink took

-- the elements that were read, with their numbers, the last of which is this
abbrev pub numbered_to : ℕ → List Element → List NumberedChange
numbered_to last es = numbered (last - length es) es

abbrev pub taken_by : Reader → List NumberedChange
taken_by r = numbered_to r.last (read_by r)

-- If the sink took what the one reader had read, it now took what the other has.
abbrev pub TakesOn : {S : Type 0} → (S → S → List NumberedChange → Type 0) → S → S → Reader → Reader → Type 0
TakesOn {S} Took was is old new = (start : S) → Took start was (taken_by old) → Took start is (taken_by new)

-- what holds of each file and the encodings of its store, if the reading of the file has reached these bytes
abbrev pub FromBytes : Reader → NextField → List ℕ → (Encodings TimedOp → List ℕ → Type 0) → Type 0
FromBytes r next bytes Holds = (header file behind : List ℕ) → reading_at (encodings_for header r) file r.on_device (read_by r) next (bytes ++ behind) → Holds (encodings_for header r) file

-- the same, if it is known how many bytes the file has from these on
abbrev pub FromReader : Reader → List ℕ → ℕ → (Encodings TimedOp → List ℕ → Type 0) → Type 0
FromReader r bytes left Holds = (header file behind : List ℕ) → left ≡ length bytes + length behind → IsReading header file r (bytes ++ behind) → Holds (encodings_for header r) file

-- the same for a file whose next bytes are in a buffer
abbrev pub FromBuffer : Type 0 → List ℕ → ReadBuffer → Reader → (Encodings TimedOp → List ℕ → Type 0) → Type 0
FromBuffer faithful file buffer r Holds = faithful → buffer.end_of_file ≡ length file → (header : List ℕ) → IsReading header file r (rest_of file buffer) → Holds (encodings_for header r) file

-- ---- what is wanted

-- how many bytes are wanted next
abbrev pub wanted_by : NextField → ℕ
wanted_by Gate = 1
wanted_by Head = 16
wanted_by (Size partial_body) = 4
wanted_by (Encoding partial_body len) = len
wanted_by Done = 0

-- the steps that take no byte, before one that does
abbrev pub waits : NextField → ℕ
waits Gate = 0
waits Head = 0
waits (Size partial_body) = 1
waits (Encoding partial_body len) = 0
waits Done = 0
