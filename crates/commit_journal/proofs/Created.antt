-- A journal that was made.
use Rattle.std.proofs.Common.{◌≡◌, ℕ, List, [], ◌++◌, length, replicate, refl, sym, ◌∙◌, ap, subst, arith, length-append}
use Rattle.std.proofs.lemmas.List.{length-replicate, nil_from_length}
use Rattle.byteorder.specs.Endian.{little_bytes}
use Rattle.byteorder.specs.Numbers.{length-bytes_low_first}
use Rattle.crash_model.specs.Promises.{Content, nothing}
use Rattle.disk_model.specs.FileState.{FileState, at_rest, put, resized, Cuts, Writes, Syncs}
use Rattle.disk_model.proofs.Leaves.{put_end}
use Rattle.disk_model.proofs.Put.{length-resized}
use Rattle.change_codec.specs.ModelChanges.{TimedOp}
use Rattle.commit_journal.specs.Store.{Store, created_bytes, header_bytes, encodings, magic}
use Rattle.commit_journal.specs.declared.store_layout.Layout.{Layout}
use Rattle.commit_journal.specs.declared.store_layout.Layout.TheVariants.{HivesAlone, WithOutcomes}
use Rattle.commit_journal.specs.OnDisk.{is_on, view_at, Phase.AtRest}
use Rattle.commit_journal.proofs.Opening.{created}

-- what a header begins with has 8 bytes
pub magic_length : (layout : Layout) → length (magic layout) ≡ 8
magic_length HivesAlone = refl
magic_length WithOutcomes = refl

-- a header is as long as the offset of the first gate
pub header_length : (store : Store) → length store.id ≡ 16 → length (header_bytes store) ≡ 64
header_length store size =
    let zeros : List ℕ = replicate 36 0 in
    let hives = little_bytes 4 store.hives in
    omega (arith, size, magic_length store.layout, length-append (magic store.layout) (store.id ++ (hives ++ zeros)), length-append store.id (hives ++ zeros), length-append hives zeros, length-bytes_low_first 0 4 store.hives, length-replicate {A = ℕ} 36 0)

-- a file that is made empty and written is what was written
pub created_file : (store : Store) (bytes : List ℕ) → bytes ≡ created_bytes store → (old empty mid new : FileState) → Cuts 0 old empty → Writes 0 bytes empty mid → Syncs mid new
    → new ≡ at_rest (created_bytes store)
created_file store bytes is old empty mid new cuts wrote syncs =
    let none : empty.seen ≡ [] = ap (λ (s : FileState). s.seen) cuts ∙ nil_from_length (resized old.seen 0) (length-resized old.seen 0) in
    let all : put empty.seen 0 bytes ≡ bytes = ap (λ (l : List ℕ). put l 0 bytes) none ∙ put_end [] bytes 0 refl in
    syncs ∙ ap (λ (x : FileState). at_rest x.seen) wrote ∙ ap at_rest (all ∙ is)

pub created_on : (store : Store) → length store.id ≡ 16 → (state : FileState) → state ≡ at_rest (created_bytes store)
    → (s : Content TimedOp) (gate : ℕ) → s ≡ nothing → gate ≡ 64 → is_on (encodings store) (view_at s nothing gate gate AtRest) state
created_on store size state is s gate none first =
    subst (λ (x : FileState). is_on (encodings store) (view_at s nothing gate gate AtRest) x) (sym is)
    (subst (λ (x : Content TimedOp). is_on (encodings store) (view_at x nothing gate gate AtRest) (at_rest (created_bytes store))) (sym none)
    (subst (λ (k : ℕ). is_on (encodings store) (view_at nothing nothing k k AtRest) (at_rest (created_bytes store))) (sym first)
    (created (encodings store) (header_length store size) 0 64 [] nothing (λ e. omega (arith, e)))))
