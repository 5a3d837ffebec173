-- The form of a whole image.
use Rattle.std.proofs.Common.{◌≡◌, ℕ, ◌<◌, ◌^◌, List, [], length, sym, ◌∙◌, ap, subst}
use Rattle.std.specs.List.{AllByRecursion}
use Rattle.std.specs.FinMap as finite
use Rattle.std.specs.FinMap.{entries-from_sorted}
use Rattle.reg_tree_parts.specs.Orders.{path_order}
use Rattle.reg_tree_parts.specs.Nodes.{Entries, IsNode}
use Rattle.reg_tree.specs.Maps.{TreeMap}
use Rattle.hive_cells.specs.Bins.{Cells, Shows}
use Rattle.hive_tree_model.specs.Lists.{Once}
use Rattle.hive_records.specs.Numbers.{nil_offset}
use Rattle.hive_emit.specs.CellWrites.{Makes}
use Rattle.hive_emit.proofs.Makings.{made_then}
use Rattle.hive_emit.specs.declared.security.SecurityEntry.{SecurityEntry}
use Rattle.hive_emit.specs.Forms.{SecurityCell, keys_with, IsNamed, IsFormed}
use Rattle.hive_emit.specs.EmittedKeys.{SecuritiesAreWritten, KeepsSecurityCells, KeyAt, PutsKey, IsOffsetOf}
use Rattle.hive_emit.specs.SecurityTables.{tallies, Counts, AreSome, AreApart, ArePlanned}
use Rattle.hive_emit.proofs.KeyProofs.{held_grown}
use Rattle.hive_emit.proofs.Formed.{root_led, is_form_as}
use Rattle.hive_emit.proofs.Counting.{cells_of, cells_count}
use Rattle.hive_emit.proofs.Ringing.{ring_of, held_of, names_of, named_of}

-- security cells that were gathered of a tree and put
pub record Put (counted securities : List SecurityEntry) (entries : Entries) : Type 0 where
  pub few : length entries < 2 ^ 24
  pub counts : Counts [] (tallies counted) (length entries) (λ d. keys_with d entries)
  pub some : AreSome (tallies counted)
  pub same : tallies securities ≡ tallies counted
  pub apart : AreApart (tallies securities)
  pub planned : ArePlanned counted securities (length counted)

-- what is known at the end
record Ended (securities : List SecurityEntry) (root : ℕ) (entries : Entries) (z : Cells) : Type 0 where
  y : Cells
  held : SecuritiesAreWritten securities z
  key : KeyAt securities nil_offset root entries y z

pub formed_at_end : (a b c : List ℕ) (counted securities : List SecurityEntry) (root : ℕ) (tree : TreeMap) (entries : Entries) (before : Cells) → Shows a before → IsNode entries → tree ≡ finite.from_sorted entries → Put counted securities entries → Makes a b (KeepsSecurityCells securities) → Makes b c (PutsKey securities nil_offset root entries) → IsFormed c root tree
formed_at_end a b c counted securities root tree entries before shows node same put m n =
    let all = made_then a b c (KeepsSecurityCells securities) (PutsKey securities nil_offset root entries) (λ x z. Ended securities root entries z) m n (λ x y z g h held key. record { y = y; held = held_grown securities y z h held; key = key held }) in
    let z = all.cells before shows in
    let k = z.3.key in
    let rows : entries ≡ finite.entries tree = sym (entries-from_sorted path_order entries node.rises) ∙ ap (λ (t : TreeMap). finite.entries t) (sym same) in
    record {
      cells = z.0;
      shows = z.1;
      securities = cells_of securities;
      ring = record {
        held = held_of securities z.0 z.3.held;
        apart = subst Once (sym (names_of securities)) put.apart;
        ring = ring_of counted securities put.same put.planned;
        counts = subst (λ (es : Entries). AllByRecursion (λ (s : SecurityCell). (0 < s.count) × (s.count ≡ keys_with s.descriptor es)) (cells_of securities)) rows
            (cells_count securities entries put.few (subst (λ ts. Counts [] ts (length entries) (λ d. keys_with d entries)) (sym put.same) put.counts) (subst AreSome (sym put.same) put.some) put.apart);
      };
      keys = λ way parent at leads. is_form_as z.0 (IsOffsetOf securities) (IsNamed (cells_of securities)) parent at (named_of securities)
          (root_led z.0 (IsOffsetOf securities) nil_offset root k.parts k.below k.written.whole.read k.written.whole.listed k.written.whole.fits k.form k.formed way parent at leads);
    }
