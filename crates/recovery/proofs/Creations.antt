-- A store that is made recovers the trees of which it is made, at the number of its hives.
use Rattle.std.proofs.Common.{◌≡◌, inl, inr, ℕ, ◌+◌, ◌<◌, ◌≤◌, List, [], ◌∷◌, ◌++◌, length, take, refl, sym, ◌∙◌, ap, subst, arith, Result, Ok, Err, OnOk, Some, slice_get, length-append, true, IsTrue}
use Rattle.std.proofs.lemmas.Option.{get_or_from_slice_get, none-some, same_Some, slice_get_within}
use Rattle.std.proofs.lemmas.Bool.{cases_eq}
use Rattle.std.specs.Prelude.{min, ◌-◌}
use Rattle.std.proofs.Math.Seq.{drop-nil}
use Rattle.refusals.specs.declared.limits.TheConstants.{GREATEST_NUMBER, MOST_WEIGHT}
use Rattle.refusals.specs.declared.refusal.Refusal.{Refusal}
use Rattle.reg_tree.specs.Fresh.{fresh_tree}
use Rattle.reg_tree.specs.Maps.{TreeMap, weight}
use Rattle.crash_model.specs.Changes.{Element, ops_on, replay}
use Rattle.crash_model.specs.Files.{DecodesBy}
use Rattle.crash_model.specs.Promises.{Choice, JournalOn, Content, nothing, settled}
use Rattle.crash_model.specs.Promises as promises
use Rattle.crash_model.specs.Recovery.{Recovers}
use Rattle.crash_model.proofs.OfFiles.{files_recover}
use Rattle.disk_model.specs.FileState.{FileState, Leaves, at_rest}
use Rattle.disk_model.specs.Call.{Extends}
use Rattle.disk_model.specs.Sector.{IsHonest}
use Rattle.disk_model.specs.StoreFiles.{IsJournal, IsFileOfHive, primary_file, log_file, journal_file}
use Rattle.disk_model.proofs.Leaves.{left_at_rest}
use Rattle.change_codec.specs.ModelChanges.{TimedOp}
use Rattle.commit_journal.specs.Encoding.{decoded}
use Rattle.commit_journal.specs.Store.{IsStore, Store, all_hives, encodings, hives_in}
use Rattle.commit_journal.specs.declared.store_layout.Layout.{Layout}
use Rattle.commit_journal.specs.declared.store_layout.Layout.TheVariants.{HivesAlone, WithOutcomes}
use Rattle.commit_journal.proofs.StoreHives.{least_hives, most_hives}
use Rattle.commit_outcomes.specs.Trees.{are_outcomes}
use Rattle.commit_journal.specs.OnDisk.{JournalView, is_on}
use Rattle.commit_journal.specs.Journals.{choice_of, store_of, encodings_of, journal_view}
use Rattle.commit_journal.specs.declared.journal.Journal.{Journal}
use Rattle.hive_files.specs.Frames.{TouchesOwnFiles}
use Rattle.hive_files.proofs.Frames.{extends_on}
use Rattle.hive_file_reader.specs.Hives.{FileHoldsHive}
use Rattle.hive_file_reader.specs.Readings.{FileRefusedAs}
use Rattle.hive_flush.specs.Creation.{AreCreated, IsImageOf, IsImageOfFile}
use Rattle.hive_flush.specs.Decoders.{HiveFilesHold}
use Rattle.hive_flush.specs.declared.image.HiveImage.{HiveImage}
use Rattle.engine_invariant.specs.Prefixes.{Holds, JournalDecodesTo, Recover}
use Rattle.engine_invariant.specs.Rules.{rules}
use Rattle.engine_invariant.specs.States.{tree_of}
use Rattle.engine_invariant.proofs.HiveLists.{at_slot, each_pushed}
use Rattle.recovery.specs.Created.{AreImagesIn, AreImagesOf, AreWritten, HiveIsDurable, HivesAreDurable, HivesAreMade, IsOfHives, IsOfStore, IsWritten, trees_in}
use Rattle.recovery.specs.FileCopies.{AreImagesOfFiles, HivesAreCopied, IsRefusalOfFile}
use Rattle.recovery.specs.Recovered.{IsRecovered}
use Rattle.recovery.proofs.Outcomes.{allowed_found}
use Rattle.recovery.proofs.ListEntries.{got_end, got_front, got_next, got_push}

-- The law of a journal's phases that is used

abbrev pub Spelling : Type 0
Spelling = (v : JournalView TimedOp) (store : Store) (state : FileState) → is_on (encodings store) v state → JournalOn (DecodesBy (decoded (encodings store))) v.choice (Leaves state)

-- what follows of a success from two facts
pub on_ok_and : {T E P Q R : Type 0} (result : Result T E) → OnOk result P → OnOk result Q → (P → Q → R) → OnOk result R
on_ok_and (Ok x) p q f = f p q
on_ok_and (Err e) p q f = tt

-- ---- one hive after another

-- the first n trees are within the weight
abbrev pub LightUpTo : ℕ → List TreeMap → Type 0
LightUpTo n trees = (i : ℕ) (tree : TreeMap) → i < n → slice_get trees i ≡ Some tree → weight tree ≤ MOST_WEIGHT

pub one_more_light : (n most : ℕ) (trees : List TreeMap) (tree : TreeMap) → LightUpTo n trees → slice_get trees n ≡ Some tree → MOST_WEIGHT < most → min (weight tree) most ≤ MOST_WEIGHT → LightUpTo (n + 1) trees
one_more_light n most trees tree before is room light i t lt at = elim (cases_eq i n) [
  | inl same ↦ subst (λ (x : TreeMap). weight x ≤ MOST_WEIGHT) (same_Some tree t (sym is ∙ sym (ap (slice_get trees) same) ∙ at)) (omega (arith, light, room))
  | inr other ↦ before i t (omega (arith, lt, other)) at
]

-- the first n hives are written of their images
abbrev pub WrittenUpTo : ℕ → List HiveImage → (ℕ → FileState) → Type 0
WrittenUpTo n images state = (i : ℕ) (image : HiveImage) → i < n → slice_get images i ≡ Some image → IsWritten image (state (primary_file i)) (state (log_file i))

pub one_more_written : (n : ℕ) (images : List HiveImage) (image : HiveImage) (mid new : ℕ → FileState) → WrittenUpTo n images mid → slice_get images n ≡ Some image
    → ((f : ℕ) → ¬ (IsFileOfHive n f) → new f ≡ mid f) → IsWritten image (new (primary_file n)) (new (log_file n)) → WrittenUpTo (n + 1) images new
one_more_written n images image mid new before is others here i x lt at = elim (cases_eq i n) [
  | inl same ↦ subst (λ (y : HiveImage). IsWritten y (new (primary_file i)) (new (log_file i))) (same_Some image x (sym is ∙ sym (ap (slice_get images) same) ∙ at))
      (subst (λ j. IsWritten image (new (primary_file j)) (new (log_file j))) (sym same) here)
  | inr other ↦
      let first = others (primary_file i) (λ f. elim (f) [ inl e ↦ omega (arith, e, other) | inr e ↦ omega (arith, e) ]) in
      let second = others (log_file i) (λ f. elim (f) [ inl e ↦ omega (arith, e) | inr e ↦ omega (arith, e, other) ]) in
      subst (λ (s : FileState). IsWritten x s (new (log_file i))) (sym first) (subst (λ (s : FileState). IsWritten x (mid (primary_file i)) s) (sym second) (before i x (omega (arith, lt, other)) at))
]

-- one more image is that of the next tree
pub one_more_image : (id : List ℕ) (number : ℕ) (trees : List TreeMap) (images : List HiveImage) (n : ℕ) (image : HiveImage) (tree : TreeMap) → length images ≡ n → AreImagesOf id number trees images → slice_get trees n ≡ Some tree → IsImageOf id tree number image
    → AreImagesOf id number trees (images ++ image ∷ [])
one_more_image id number trees images n image tree many before is here =
    each_pushed images image (λ i x. (t : TreeMap) → slice_get trees i ≡ Some t → IsImageOf id t number x) before
    (λ t at. subst (λ (x : TreeMap). IsImageOf id x number image) (same_Some tree t (sym is ∙ sym (ap (slice_get trees) many) ∙ at)) here)

-- the tree that an image has is the one that its file holds
image_holds : (id file : List ℕ) (tree : TreeMap) (image : HiveImage) → IsImageOfFile id file tree image → FileHoldsHive file tree
image_holds id file tree image is = record {
  block = is.block;
  bins = image.bins.items;
  has = is.has.0;
  own = is.has.1;
  tree_is = rw (is.root_is, is.minor_is) at is.stands;
}

pub no_file_yet : (id : List ℕ) (images : List HiveImage) → AreImagesOfFiles id [] images
no_file_yet id images = record {
  trees = [];
  hold = record { many = refl; held = λ i file tree at. absurd (none-some file at) };
  each = λ i image file tree at there. absurd (none-some file there);
}

module _ (id : List ℕ) (files : List (List ℕ)) (images : List HiveImage) (file : List ℕ) (many : length images ≡ length files) (before : AreImagesOfFiles id files images) where
  -- one more image is that of the next file
  pub one_more_file : (image : HiveImage) (tree : TreeMap) → IsImageOfFile id file tree image → AreImagesOfFiles id (files ++ file ∷ []) (images ++ image ∷ [])
  one_more_file image tree here = record {
    trees = before.trees ++ tree ∷ [];
    hold = record {
      many = length-append before.trees (tree ∷ []) ∙ ap (λ n. n + 1) before.hold.many ∙ sym (length-append files (file ∷ []));
      held = λ i f t at is. elim (got_push files file i f at) [
        | inl there ↦ before.hold.held i f t there (sym (got_front before.trees (tree ∷ []) i (omega (arith, slice_get_within files i f there, before.hold.many))) ∙ is)
        | inr end ↦ subst (λ (l : List ℕ). FileHoldsHive l t) end.1 (subst (FileHoldsHive file) (got_end before.trees tree [] i t (end.0 ∙ sym before.hold.many) is) (image_holds id file tree image here))
      ];
    };
    each = λ i x f t at is_f is_t. each_pushed images image (λ j y. (g : List ℕ) (u : TreeMap) → slice_get (files ++ file ∷ []) j ≡ Some g → slice_get (before.trees ++ tree ∷ []) j ≡ Some u → IsImageOfFile id g u y)
        (λ j y own g u is_g is_u. let lt = slice_get_within images j y own in
        before.each j y g u own (sym (got_front files (file ∷ []) j (omega (arith, lt, many))) ∙ is_g) (sym (got_front before.trees (tree ∷ []) j (omega (arith, lt, many, before.hold.many))) ∙ is_u))
        (λ g u is_g is_u. subst (λ (l : List ℕ). IsImageOfFile id l u image) (got_end files file [] (length images) g many is_g)
        (subst (λ (m : TreeMap). IsImageOfFile id file m image) (got_end before.trees tree [] (length images) u (many ∙ sym before.hold.many) is_u) here))
        i x at f t is_f is_t;
  }

  -- the next file is refused
  pub next_refused : (rest : List (List ℕ)) (index : ℕ) (why : Refusal) → index ≡ length images → FileRefusedAs index file why → IsRefusalOfFile (files ++ file ∷ rest) why
  next_refused rest index why is refused = record {
    index = index;
    file = file;
    at = ap (slice_get (files ++ file ∷ rest)) (is ∙ many) ∙ got_next files file rest;
    refused = refused;
    before = λ i other lt at.
        let tree = at_slot before.trees i (omega (arith, lt, is, many, before.hold.many)) in
        (tree.0, before.hold.held i other tree.0 (sym (got_front files (file ∷ rest) i (omega (arith, lt, is, many))) ∙ at) tree.1);
  }

-- ---- what is written

-- images that are written make the hives' files
pub hives_made : (id : List ℕ) (number : ℕ) (trees : List TreeMap) (images : List HiveImage) (state : ℕ → FileState) → length images ≡ length trees → AreImagesOf id number trees images → AreWritten images state → HivesAreMade id number trees state
hives_made id number trees images state many are written i tree is =
    let lt = slice_get_within trees i tree is in
    let at = at_slot images i (omega (arith, lt, many)) in
    (written i at.0 at.1).created id tree number (are i at.0 at.1 tree is)

-- those of files make copies of them
pub hives_copied : (id : List ℕ) (files : List (List ℕ)) (images : List HiveImage) (state : ℕ → FileState) → length images ≡ length files → (are : AreImagesOfFiles id files images) → AreWritten images state
    → HivesAreCopied id files are.trees state
hives_copied id files images state many are written i file tree there is =
    let lt = slice_get_within files i file there in
    let at = at_slot images i (omega (arith, lt, many)) in
    (written i at.0 at.1).copied id file tree (are.each i at.0 file tree at.1 there is)

-- the journal's file alone is written after them
pub written_stay : (images : List HiveImage) (mid new : ℕ → FileState) → ((f : ℕ) → ¬ (IsJournal f) → new f ≡ mid f) → AreWritten images mid → AreWritten images new
written_stay images mid new others written i image is =
    subst (λ (p : FileState). IsWritten image p (new (log_file i))) (sym (others (primary_file i) (λ e. omega (arith, e))))
    (subst (λ (l : FileState). IsWritten image (mid (primary_file i)) l) (sym (others (log_file i) (λ e. omega (arith, e)))) (written i image is))

-- files that were made are at rest
rests : (state : FileState) (bytes : List ℕ) → state ≡ at_rest bytes → state ≡ at_rest state.synced
rests state bytes is = is ∙ ap at_rest (sym (ap (λ (s : FileState). s.synced) is))

pub created_durable : (id : List ℕ) (number : ℕ) (trees : List TreeMap) (state : ℕ → FileState) → HivesAreMade id number trees state → HivesAreDurable id number trees state
created_durable id number trees state made i tree is =
    let own = made i tree is in
    record { primary_rests = rests _ _ own.made.whole; log_rests = rests _ _ own.made.empty; holds = own.holds }

pub copied_durable : (id : List ℕ) (files : List (List ℕ)) (trees : List TreeMap) (state : ℕ → FileState) → length trees ≡ length files → HivesAreCopied id files trees state → HivesAreDurable id 0 trees state
copied_durable id files trees state many copied i tree is =
    let lt = slice_get_within trees i tree is in
    let at = at_slot files i (omega (arith, lt, many)) in
    let own = copied i at.0 tree at.1 is in
    record { primary_rests = rests _ _ own.made.whole; log_rests = rests _ _ own.made.empty; holds = own.holds }

-- what a read gives of a primary file at rest has an honest first sector
pub durable_honest : (id : List ℕ) (number : ℕ) (tree : TreeMap) (primary log : FileState) → HiveIsDurable id number tree primary log → IsHonest primary primary.seen
durable_honest id number tree primary log durable = inl (ap (λ (s : FileState). take 512 s.seen) durable.primary_rests)

pub stays_off : (hives : ℕ) (first mid last : ℕ → ℕ → FileState) (a b c : ℕ) → TouchesOwnFiles (IsOfHives hives) first mid a b → Extends mid last b c → ((f : ℕ) → ¬ (IsJournal f) → last c f ≡ mid b f) → TouchesOwnFiles (IsOfStore hives) first last a c
stays_off hives first mid last a b c stays time others = record {
  time = extends_on first mid last a b c stays.time time;
  others = λ f not. others f (λ j. not (inl j)) ∙ stays.others f (λ h. not (inr h));
}

-- what is left of a hive's files decodes to its tree
left_held : (id : List ℕ) (number : ℕ) (tree : TreeMap) (primary log : FileState) → HiveIsDurable id number tree primary log → (p l : List ℕ) → Leaves primary p → Leaves log l → HiveFilesHold id p l (tree, number)
left_held id number tree primary log durable p l first second =
    let p_is : p ≡ primary.synced = left_at_rest primary.synced p (subst (λ (s : FileState). Leaves s p) durable.primary_rests first) in
    let l_is : l ≡ log.synced = left_at_rest log.synced l (subst (λ (s : FileState). Leaves s l) durable.log_rests second) in
    subst (λ (b : List ℕ). HiveFilesHold id b l (tree, number)) (sym p_is) (subst (λ (b : List ℕ). HiveFilesHold id primary.synced b (tree, number)) (sym l_is) durable.holds)

-- what is left of a journal's file, as it was made, decodes to no element
nothing_left : Spelling → (journal : Journal) (store : Store) → store_of journal ≡ store → choice_of journal ≡ settled nothing → (state : FileState) → is_on (encodings_of journal) (journal_view journal) state
    → (c : List ℕ) → Leaves state c → decoded (encodings store) c ≡ Some nothing
nothing_left law journal store is empty state on c left =
    let found = law (journal_view journal) store state (subst (λ (s : Store). is_on (encodings s) (journal_view journal) state) is on) c left in
    found.2 ∙ ap Some (stands found.0 found.1)
  where
    stands : (s : Content TimedOp) → promises.Leaves (choice_of journal) s → s ≡ nothing
    stands s (inl now) = now ∙ ap (λ (c : Choice (Content TimedOp)). c.now) empty
    stands s (inr next) = absurd (none-some s (sym (ap (λ (c : Choice (Content TimedOp)). c.next) empty) ∙ next))

-- the trees are recovered from hives that store them at a number, and no change
fresh : (named number : ℕ) (trees : List TreeMap) → 1 ≤ length trees → number ≤ GREATEST_NUMBER → ((i : ℕ) → i < length trees → IsTrue ((rules named).allows i number (tree_of trees i)))
    → Recovers (rules named) GREATEST_NUMBER (length trees) nothing (λ i. (tree_of trees i, number)) number (tree_of trees)
fresh named number trees some limit allowed = record {
  last = (0, omega (arith, some), refl);
  limit = limit;
  not_above = λ i lt. omega arith;
  tree = λ i lt. ap (λ (es : List (Element TimedOp)). replay (rules named) (ops_on i es) (tree_of trees i)) (drop-nil (number - 0));
  allowed = allowed;
}

pub recovers_durable : Spelling → (journal : Journal) (store : Store) (number : ℕ) (trees : List TreeMap) → number ≤ GREATEST_NUMBER → store_of journal ≡ store → choice_of journal ≡ settled nothing → IsStore store → length trees ≡ all_hives store
    → ((tree : TreeMap) → slice_get trees store.hives ≡ Some tree → are_outcomes number tree ≡ true)
    → (state : ℕ → FileState) → is_on (encodings_of journal) (journal_view journal) (state journal_file) → HivesAreDurable store.id number trees state
    → (files : ℕ → List ℕ) → ((f : ℕ) → Leaves (state f) (files f)) → IsRecovered files store number trees
recovers_durable law journal store number trees limit is empty whole many outcomes state on hives files left = record {
  store_is = whole;
  many = many;
  recovers = subst (λ n. Recover store n files number trees) many
      (files_recover (rules store.hives) (JournalDecodesTo store) (Holds store) GREATEST_NUMBER (length trees) files nothing (λ i. (tree_of trees i, number)) number (tree_of trees)
      (nothing_left law journal store is empty (state journal_file) on (files journal_file) (left journal_file)) held
      (fresh store.hives number trees (omega (arith, many, whole.some_hives, least_hives store.layout store.hives)) limit (allowed_found store.hives number trees (omega (arith, many, most_hives store.layout store.hives)) outcomes)));
}
  where
    held : (i : ℕ) → i < length trees → HiveFilesHold store.id (files (primary_file i)) (files (log_file i)) (tree_of trees i, number)
    held i lt =
        let at = at_slot trees i lt in
        subst (λ (t : TreeMap). HiveFilesHold store.id (files (primary_file i)) (files (log_file i)) (t, number)) (sym (get_or_from_slice_get trees i at.0 fresh_tree at.1))
        (left_held store.id number at.0 (state (primary_file i)) (state (log_file i)) (hives i at.0 at.1) (files (primary_file i)) (files (log_file i)) (left (primary_file i)) (left (log_file i)))

-- ---- the hive after those that calls name

pub images_many : (id : List ℕ) (layout : Layout) (images all : List HiveImage) → AreImagesIn id layout images all → length all ≡ hives_in layout (length images)
images_many id HivesAlone images all is = ap (λ (hs : List HiveImage). length hs) is
images_many id WithOutcomes images all (image, is, here) = ap (λ (hs : List HiveImage). length hs) is ∙ length-append images (image ∷ [])

pub trees_many : (layout : Layout) (trees : List TreeMap) → length (trees_in layout trees) ≡ hives_in layout (length trees)
trees_many HivesAlone trees = refl
trees_many WithOutcomes trees = length-append trees (fresh_tree ∷ [])

-- the images are those of the trees, in either layout
pub images_are : (id : List ℕ) (layout : Layout) (trees : List TreeMap) (images all : List HiveImage) → length images ≡ length trees → AreImagesOf id 0 trees images → AreImagesIn id layout images all → AreImagesOf id 0 (trees_in layout trees) all
images_are id HivesAlone trees images all many are is = subst (AreImagesOf id 0 trees) (sym is) are
images_are id WithOutcomes trees images all many are (image, is, here) = subst (AreImagesOf id 0 (trees ++ fresh_tree ∷ [])) (sym is)
    (each_pushed images image (λ i x. (t : TreeMap) → slice_get (trees ++ fresh_tree ∷ []) i ≡ Some t → IsImageOf id t 0 x)
    (λ i x at t there. are i x at t (sym (got_front trees (fresh_tree ∷ []) i (omega (arith, slice_get_within images i x at, many))) ∙ there))
    (λ t there. subst (λ (u : TreeMap). IsImageOf id u 0 image) (got_end trees fresh_tree [] (length images) t many there) here))

-- that after those of the trees is of outcomes
pub last_outcomes : (layout : Layout) (trees : List TreeMap) → are_outcomes 0 fresh_tree ≡ true → (tree : TreeMap) → slice_get (trees_in layout trees) (length trees) ≡ Some tree → are_outcomes 0 tree ≡ true
last_outcomes HivesAlone trees new tree at = absurd (omega (arith, slice_get_within trees (length trees) tree at))
last_outcomes WithOutcomes trees new tree at = subst (λ (t : TreeMap). are_outcomes 0 t ≡ true) (got_end trees fresh_tree [] (length trees) tree refl at) new

-- the first hives are written, and the one after them
pub written_front : (images : List HiveImage) (image : HiveImage) (all : List HiveImage) (state : ℕ → FileState) → all ≡ images ++ image ∷ [] → AreWritten all state → AreWritten images state
written_front images image all state is written i x at =
    written i x (ap (λ (hs : List HiveImage). slice_get hs i) is ∙ got_front images (image ∷ []) i (slice_get_within images i x at) ∙ at)

pub written_last : (id : List ℕ) (images : List HiveImage) (image : HiveImage) (all : List HiveImage) (state : ℕ → FileState) (count : ℕ) → all ≡ images ++ image ∷ [] → length images ≡ count → IsImageOf id fresh_tree 0 image → AreWritten all state
    → AreCreated id fresh_tree 0 (state (primary_file count)) (state (log_file count))
written_last id images image all state count is many here written =
    (written count image (ap (λ (hs : List HiveImage). slice_get hs count) is ∙ ap (slice_get (images ++ image ∷ [])) (sym many) ∙ got_next images image [])).created id fresh_tree 0 here

-- a tree is durable after others
pub durable_pushed : (id : List ℕ) (trees : List TreeMap) (state : ℕ → FileState) → HivesAreDurable id 0 trees state → AreCreated id fresh_tree 0 (state (primary_file (length trees))) (state (log_file (length trees)))
    → HivesAreDurable id 0 (trees ++ fresh_tree ∷ []) state
durable_pushed id trees state durable last = each_pushed trees fresh_tree (λ i t. HiveIsDurable id 0 t (state (primary_file i)) (state (log_file i))) durable
    (record { primary_rests = rests _ _ last.made.whole; log_rests = rests _ _ last.made.empty; holds = last.holds })
