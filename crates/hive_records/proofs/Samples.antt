-- What images say that were written byte by byte.
use Rattle.std.proofs.Common.{◌≡◌, inl, inr, ℕ, List, [], ◌∷◌, refl, sym, true, Ok, arith}
use Rattle.refusals.specs.declared.refusal.Refusal.{Refusal}
use Rattle.refusals.specs.declared.refusal.Refusal.TheVariants as refusal
use Rattle.refusals.specs.declared.refusal.Cause.{Cause}
use Rattle.refusals.specs.declared.refusal.Cause.TheVariants as cause
use Rattle.reg_tree_parts.specs.Rows.{Row}
use Rattle.hive_cells.specs.Tiles.{u32_at}
use Rattle.hive_tree_model.specs.Lists.{Once}
use Rattle.hive_tree_model.specs.Keys.{KeyParts, none, key}
use Rattle.hive_tree_model.specs.Encodings.{CellsEncodeTree}
use Rattle.hive_tree_model.proofs.Basics.{cons_nil, same_head, same_tail}
use Rattle.hive_records.specs.Readers.{done, refuse, look, look_lent, choice, rule, barred, each, ◌⟫◌}
use Rattle.hive_records.specs.Numbers.{u16_at, u64_at}
use Rattle.hive_records.specs.Values.{value_at}
use Rattle.hive_records.specs.KeyNodes.{keys_in}
use Rattle.hive_records.specs.Fields.{Gives}
use Rattle.hive_records.specs.Images.{FaultIn}
use Rattle.hive_records.specs.Samples as sample
use Rattle.hive_records.proofs.Examples.{not_in}

abbrev pub damaged : Cause → Refusal
damaged c = refusal.HiveDamaged 0 c

-- ---- every kind of list, a wide name, a class

parts_of : List ℕ → Row → List ℕ → List ℕ → KeyParts Row
parts_of name row subkey_list own = record { name = name; row = row; subkey_list = subkey_list; own = own; lent = [] }

above : KeyParts Row
above = parts_of [] sample.classed_row (80 ∷ 88 ∷ 96 ∷ []) (32 ∷ 72 ∷ 40 ∷ 48 ∷ 56 ∷ 64 ∷ [])

first_subkey : KeyParts Row
first_subkey = parts_of (0x41 ∷ []) (sample.row_of (0x61 ∷ [])) [] (80 ∷ [])

second_subkey : KeyParts Row
second_subkey = parts_of (0x41 ∷ 0x100 ∷ []) (sample.row_of (0x61 ∷ 0x100 ∷ [])) [] (88 ∷ [])

third_subkey : KeyParts Row
third_subkey = parts_of (0x42 ∷ []) (sample.row_of (0x62 ∷ [])) [] (96 ∷ [])

above_reads : keys_in true sample.every_list 32 ≡ Ok above
unfolding above parts_of done refuse look look_lent choice rule barred each ◌⟫◌ u16_at u64_at u32_at
above_reads = refl

first_reads : keys_in true sample.every_list 80 ≡ Ok first_subkey
unfolding first_subkey parts_of done refuse look look_lent choice rule barred each ◌⟫◌ u16_at u64_at u32_at
first_reads = refl

second_reads : keys_in true sample.every_list 88 ≡ Ok second_subkey
unfolding second_subkey parts_of done refuse look look_lent choice rule barred each ◌⟫◌ u16_at u64_at u32_at
second_reads = refl

third_reads : keys_in true sample.every_list 96 ≡ Ok third_subkey
unfolding third_subkey parts_of done refuse look look_lent choice rule barred each ◌⟫◌ u16_at u64_at u32_at
third_reads = refl

every_once : Once {A = ℕ} (32 ∷ 72 ∷ 40 ∷ 48 ∷ 56 ∷ 64 ∷ 80 ∷ 88 ∷ 96 ∷ [])
every_once = (
  not_in 32 (72 ∷ 40 ∷ 48 ∷ 56 ∷ 64 ∷ 80 ∷ 88 ∷ 96 ∷ []) tt,
  (
    not_in 72 (40 ∷ 48 ∷ 56 ∷ 64 ∷ 80 ∷ 88 ∷ 96 ∷ []) tt,
    (
      not_in 40 (48 ∷ 56 ∷ 64 ∷ 80 ∷ 88 ∷ 96 ∷ []) tt,
      (not_in 48 (56 ∷ 64 ∷ 80 ∷ 88 ∷ 96 ∷ []) tt, (not_in 56 (64 ∷ 80 ∷ 88 ∷ 96 ∷ []) tt, (not_in 64 (80 ∷ 88 ∷ 96 ∷ []) tt, (not_in 80 (88 ∷ 96 ∷ []) tt, (not_in 88 (96 ∷ []) tt, (λ h. h, tt)))))),
    ),
  ),
)

other_first : (ns ms : List ℕ) → ◌≡◌ {A = List ℕ} (0x41 ∷ ns) (0x42 ∷ ms) → ⊥
other_first ns ms e = let h = same_head 0x41 0x42 ns ms e in absurd (omega (arith, h))

not_longer : ◌≡◌ {A = List ℕ} (0x41 ∷ []) (0x41 ∷ 0x100 ∷ []) → ⊥
not_longer e = cons_nil 0x100 [] (sym (same_tail 0x41 0x41 [] (0x100 ∷ []) e))

pub every_stands : CellsEncodeTree (keys_in true sample.every_list) 32 sample.four_keys
unfolding above first_subkey second_subkey third_subkey parts_of
every_stands = (
  above,
  key 80 first_subkey none (key 88 second_subkey none (key 96 third_subkey none none)),
  record {
    read = above_reads;
    listed = refl;
    fits = (first_reads, refl, tt, (second_reads, refl, tt, (third_reads, refl, tt, tt)));
    named = (
      λ e. cons_nil 0x41 [] e,
      λ h. elim h [ inl e ↦ not_longer e | inr g ↦ elim g [ inl e ↦ other_first [] [] e | inr z ↦ z ] ],
      tt,
      (λ e. cons_nil 0x41 (0x100 ∷ []) e, λ h. elim h [ inl e ↦ other_first (0x100 ∷ []) [] e | inr z ↦ z ], tt, (λ e. cons_nil 0x42 [] e, λ h. h, tt, tt)),
    );
    once = every_once;
  },
  refl,
  λ cell h g. h,
)

-- ---- big data

pub big_reads : Gives (value_at true 32) sample.big_cells (32 ∷ 64 ∷ 80 ∷ 96 ∷ 104 ∷ []) [] sample.big_value
unfolding done refuse look look_lent choice rule barred each ◌⟫◌ u16_at u64_at u32_at
big_reads = record { reads = refl }

-- ---- broken rules

pub no_cell_refused : FaultIn true sample.no_cells 32 (damaged cause.BadOffset)
unfolding done refuse look look_lent choice rule barred each ◌⟫◌ u16_at u64_at u32_at
no_cell_refused = inl (inl ([], 32, refl, refl))

pub empty_refused : FaultIn true sample.empty_cell 32 (damaged cause.BadRecord)
unfolding done refuse look look_lent choice rule barred each ◌⟫◌ u16_at u64_at u32_at
empty_refused = inl (inl ([], 32, refl, refl))

pub handle_refused : FaultIn true sample.handle_in_place 32 refusal.Unsupported
unfolding done refuse look look_lent choice rule barred each ◌⟫◌ u16_at u64_at u32_at
handle_refused = inl (inl ([], 32, refl, refl))

pub odd_refused : FaultIn true sample.odd_name 32 (damaged cause.BadName)
unfolding done refuse look look_lent choice rule barred each ◌⟫◌ u16_at u64_at u32_at
odd_refused = inl (inl ([], 32, refl, refl))

pub backslash_refused : FaultIn true sample.backslash_in_name 32 (damaged cause.BadName)
unfolding done refuse look look_lent choice rule barred each ◌⟫◌ u16_at u64_at u32_at
backslash_refused = inl (inl ([], 32, refl, refl))

pub values_refused : FaultIn true sample.values_alike 32 (damaged cause.BadName)
unfolding done refuse look look_lent choice rule barred each ◌⟫◌ u16_at u64_at u32_at
values_refused = inl (inl ([], 32, refl, refl))

pub no_list_refused : FaultIn true sample.no_list 32 (damaged cause.BadList)
unfolding done refuse look look_lent choice rule barred each ◌⟫◌ u16_at u64_at u32_at
no_list_refused = inl (inl ([], 32, refl, refl))

pub lists_refused : FaultIn true sample.list_in_lists 32 (damaged cause.BadList)
unfolding done refuse look look_lent choice rule barred each ◌⟫◌ u16_at u64_at u32_at
lists_refused = inl (inl ([], 32, refl, refl))

pub total_refused : FaultIn true sample.other_total 32 (damaged cause.BadList)
unfolding done refuse look look_lent choice rule barred each ◌⟫◌ u16_at u64_at u32_at
total_refused = inl (inl ([], 32, refl, refl))

one_above : List ℕ → List ℕ → KeyParts Row
one_above subkey_list own = parts_of [] (sample.row_of []) subkey_list own

pub nameless_refused : FaultIn true sample.nameless_subkey 32 (damaged cause.BadName)
unfolding parts_of one_above done refuse look look_lent choice rule barred each ◌⟫◌ u16_at u64_at u32_at
nameless_refused = inl (inr (inl (refl, inl (0, [], 48, parts_of [] (sample.row_of []) [] (48 ∷ []), (one_above (48 ∷ []) (32 ∷ 40 ∷ []), 48, refl, refl, refl), refl, refl))))

pub alike_refused : FaultIn true sample.subkeys_alike 32 (damaged cause.BadName)
unfolding parts_of one_above done refuse look look_lent choice rule barred each ◌⟫◌ u16_at u64_at u32_at
alike_refused = inl (inr (inl (
  refl,
  inr (record {
    way = [];
    at = 32;
    leads = refl;
    parts = one_above (48 ∷ 56 ∷ []) (32 ∷ 40 ∷ []);
    reads_so = refl;
    i = 0;
    j = 1;
    apart = λ e. absurd (omega (arith, e));
    one = 48;
    one_listed = refl;
    one_parts = parts_of (0x41 ∷ []) (sample.row_of (0x61 ∷ [])) [] (48 ∷ []);
    one_reads = refl;
    other = 56;
    other_listed = refl;
    other_parts = parts_of (0x41 ∷ []) (sample.row_of (0x41 ∷ [])) [] (56 ∷ []);
    other_reads = refl;
    same_name = refl;
  }),
)))

twice : {cell : ℕ} → Once (cell ∷ cell ∷ []) → ⊥
twice h = h.0 (inl refl)

pub twice_refused : FaultIn true sample.cell_met_twice 32 (damaged cause.Shared)
unfolding done refuse look look_lent choice rule barred each ◌⟫◌ u16_at u64_at u32_at
twice_refused = inl (inr (inr (refl, inl ([], 32, refl, λ h. twice {cell = 32} h))))

pub itself_refused : FaultIn true sample.key_in_itself 32 (damaged cause.Shared)
unfolding parts_of done refuse look look_lent choice rule barred each ◌⟫◌ u16_at u64_at u32_at
itself_refused = inl (inr (inr (
  refl,
  inr (inl (record {
    way = [];
    at = 32;
    leads = refl;
    other_way = 0 ∷ [];
    other = 32;
    other_leads = (parts_of (0x41 ∷ []) (sample.row_of (0x61 ∷ [])) (32 ∷ []) (32 ∷ 40 ∷ []), 32, refl, refl, refl);
    apart = λ e. cons_nil 0 [] (λ i. sym e i);
    cell = 32;
    first = inl refl;
    second = inl refl;
  })),
)))

pub lent_refused : FaultIn true sample.lent_and_own 32 (damaged cause.Shared)
unfolding done refuse look look_lent choice rule barred each ◌⟫◌ u16_at u64_at u32_at
lent_refused = inr (
  refl,
  record {
    way = [];
    at = 32;
    leads = refl;
    other_way = [];
    other = 32;
    other_leads = refl;
    cell = 40;
    belongs = inr (inl refl);
    lent = inl refl;
  },
)
