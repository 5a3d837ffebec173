-- What a header says of its store.
use Rattle.std.proofs.Common.{◌≡◌, ℕ, ◌<◌, List, ◌++◌, length, take, drop, replicate, refl, sym, ◌∙◌, ap, arith, length-take, take-append-drop, Some, None}
use Rattle.std.specs.Prelude.{nat_eq, get_or}
use Rattle.std.specs.List.{starts_with}
use Rattle.std.specs.Option.{option_and_then}
use Rattle.std.proofs.lemmas.List.{take_at, drop_at, get_or-take, drop-drop, take-take}
use Rattle.std.proofs.lemmas.Option.{none-some}
use Rattle.byteorder.specs.Endian.{little_number, little_bytes}
use Rattle.byteorder.specs.Numbers.{little_from-take, little_number-reads_back}
use Rattle.crash_model.specs.Promises.{Content, nothing}
use Rattle.change_codec.specs.ModelChanges.{TimedOp}
use Rattle.commit_journal.specs.Encoding.{read_gates, content_of_bodies, decoded}
use Rattle.commit_journal.specs.Store.{Store, IsStore, magic, header_bytes, encodings, IsNoJournal}
use Rattle.commit_journal.specs.declared.store_layout.Layout.{Layout}
use Rattle.commit_journal.specs.declared.store_layout.Layout.TheVariants.{HivesAlone, WithOutcomes}
use Rattle.commit_journal.specs.Reading.{AtGate}
use Rattle.commit_journal.proofs.Reading.{begun_with}
use Rattle.commit_journal.proofs.Numbers.{empty_prefix}
use Rattle.commit_journal.proofs.Opening.{let_through}
use Rattle.commit_journal.proofs.Created.{header_length, magic_length}
use Rattle.commit_journal.proofs.ElementsRead.{cut_front}
use Rattle.commit_journal.proofs.Parts.{never}

-- the fields of a header, if bytes begin with it
pub id_there : (bytes : List ℕ) (store : Store) → IsStore store → take 64 bytes ≡ header_bytes store → store.id ≡ take 16 (drop 8 bytes)
id_there bytes store is begin_batch =
    let behind = little_bytes 4 store.hives ++ replicate 36 0 in
    sym (take_at store.id behind 16 is.id_is_whole)
    ∙ ap (take 16) (sym (drop_at (magic store.layout) (store.id ++ behind) 8 (magic_length store.layout)) ∙ ap (drop 8) (sym begin_batch) ∙ cut_front 8 64 bytes (omega arith))
    ∙ take-take 16 56 (drop 8 bytes) (omega arith)

pub hives_there : (bytes : List ℕ) (store : Store) → IsStore store → take 64 bytes ≡ header_bytes store → store.hives ≡ little_number 4 (drop 24 bytes)
hives_there bytes store is begin_batch =
    let zeros : List ℕ = replicate 36 0 in
    let behind = little_bytes 4 store.hives ++ zeros in
    let at : drop 24 (header_bytes store) ≡ behind
    = sym (drop-drop 16 8 (header_bytes store)) ∙ ap (drop 16) (drop_at (magic store.layout) (store.id ++ behind) 8 (magic_length store.layout)) ∙ drop_at store.id behind 16 is.id_is_whole in
    sym (little_number-reads_back 4 store.hives zeros (omega (arith, is.few_hives)))
    ∙ ap (little_number 4) (sym at ∙ ap (drop 24) (sym begin_batch) ∙ cut_front 24 64 bytes (omega arith))
    ∙ little_from-take 0 4 40 (drop 24 bytes) (omega arith)

pub mark_there : (bytes : List ℕ) (store : Store) → take 64 bytes ≡ header_bytes store → get_or bytes 7 0 ≡ get_or (magic store.layout) 7 0
mark_there bytes store begin_batch = sym (get_or-take 64 bytes 7 0 (omega arith)) ∙ ap (λ (l : List ℕ). get_or l 7 0) begin_batch ∙ by_layout store.layout
  where
    by_layout : (layout : Layout) → get_or (magic layout ++ (store.id ++ (little_bytes 4 store.hives ++ replicate 36 0))) 7 0 ≡ get_or (magic layout) 7 0
    by_layout HivesAlone = refl
    by_layout WithOutcomes = refl

-- headers differ in their eighth byte if their layouts differ
same_layout : (a b : Layout) → get_or (magic a) 7 0 ≡ get_or (magic b) 7 0 → a ≡ b
same_layout HivesAlone HivesAlone same = refl
same_layout HivesAlone WithOutcomes same = absurd (omega (arith, same))
same_layout WithOutcomes HivesAlone same = absurd (omega (arith, same))
same_layout WithOutcomes WithOutcomes same = refl

-- the stores whose header bytes begin with are one store
same_store : (bytes : List ℕ) (a b : Store) → IsStore a → IsStore b → take 64 bytes ≡ header_bytes a → take 64 bytes ≡ header_bytes b → a ≡ b
same_store bytes a b a_is b_is of_a of_b =
    let id = id_there bytes a a_is of_a ∙ sym (id_there bytes b b_is of_b) in
    let hives = hives_there bytes a a_is of_a ∙ sym (hives_there bytes b b_is of_b) in
    let layout = same_layout a.layout b.layout (sym (mark_there bytes a of_a) ∙ mark_there bytes b of_b) in
    λ i. record { id = id i; hives = hives i; layout = layout i }

-- the store whose header bytes begin with is the one of these fields
pub no_other : (bytes : List ℕ) (id : List ℕ) (hives : ℕ) (layout : Layout) (header : List ℕ) → id ≡ take 16 (drop 8 bytes) → hives ≡ little_number 4 (drop 24 bytes) → ((l : Layout) → get_or bytes 7 0 ≡ get_or (magic l) 7 0 → layout ≡ l)
    → header ≡ header_bytes (record { id = id; hives = hives; layout = layout }) → ((take 64 bytes ≡ header) → ⊥) → (store : Store) → IsStore store → take 64 bytes ≡ header_bytes store → ⊥
no_other bytes id hives layout header id_is hives_is layout_is is differ store here begin_batch =
    let same_id = id_there bytes store here begin_batch ∙ sym id_is in
    let same_hives = hives_there bytes store here begin_batch ∙ sym hives_is in
    let same_layout = sym (layout_is store.layout (mark_there bytes store begin_batch)) in
    let same : store ≡ record { id = id; hives = hives; layout = layout } = λ i. record { id = same_id i; hives = same_hives i; layout = same_layout i } in
    differ (begin_batch ∙ ap header_bytes same ∙ sym is)

-- what a journal decodes to is after its store's header
header_there : (store : Store) → IsStore store → (file : List ℕ) (x : Content TimedOp) → decoded (encodings store) file ≡ Some x → take 64 file ≡ header_bytes store
unfolding decoded
header_there store is file x e =
    let t = encodings store in
    let test = let_through (starts_with nat_eq file t.header) (option_and_then (content_of_bodies t.most) (read_gates t (length file) (drop 64 file))) x e in
    ap (take 64) (begun_with file t.header test.0) ∙ take_at t.header (drop (length t.header) file) 64 (header_length store is.id_is_whole)

pub none_without : (file : List ℕ) → ((store : Store) → IsStore store → take 64 file ≡ header_bytes store → ⊥) → IsNoJournal file
none_without file no_header store is = never (decoded (encodings store) file) (λ x e. no_header store is (header_there store is file x e))

pub none_short : (file : List ℕ) → length file < 64 → IsNoJournal file
none_short file short = none_without file (λ store is begin_batch.
    omega (arith, short, ap (λ (l : List ℕ). length l) begin_batch, header_length store is.id_is_whole, length-take 64 file))

-- bytes are the journal of one store at most
pub one_store : (file : List ℕ) (a b : Store) (x y : Content TimedOp) → IsStore a → IsStore b → decoded (encodings a) file ≡ Some x → decoded (encodings b) file ≡ Some y → a ≡ b
one_store file a b x y a_is b_is ax by' =
    same_store file a b a_is b_is (header_there a a_is file x ax) (header_there b b_is file y by')

pub none_for : (file : List ℕ) (store : Store) → IsStore store → take 64 file ≡ header_bytes store → decoded (encodings store) file ≡ None → IsNoJournal file
none_for file store is begin_batch none other other_is = never (decoded (encodings other) file) (λ x e.
    let same : other ≡ store = same_store file other store other_is is (header_there other other_is file x e) begin_batch in
    none-some x (sym none ∙ ap (λ (s : Store). decoded (encodings s) file) (sym same) ∙ e))

-- after the header the first gate comes
pub at_first : (file : List ℕ) (store : Store) → IsStore store → take 64 file ≡ header_bytes store → AtGate (encodings store) file nothing 64 (drop 64 file)
at_first file store is begin_batch = record {
  prefix = header_bytes store;
  is = sym (take-append-drop 64 file) ∙ ap (λ (l : List ℕ). l ++ drop 64 file) begin_batch;
  on_device = empty_prefix (encodings store) (header_length store is.id_is_whole);
}

-- a store whose journal the bytes decode as is the one whose header they begin with
pub only_one : (file : List ℕ) (a b : Store) (x : Content TimedOp) → IsStore a → IsStore b → decoded (encodings a) file ≡ Some x → take 64 file ≡ header_bytes b → a ≡ b
only_one file a b x a_is b_is ax begin_batch =
    same_store file a b a_is b_is (header_there a a_is file x ax) begin_batch
