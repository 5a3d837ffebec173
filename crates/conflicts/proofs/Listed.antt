-- What an index lists after an index key was put into it or taken out.
use Rattle.std.proofs.Common.{◌≡◌, ℕ, List, sym, ◌∙◌, subst}
use Rattle.std.specs.Prelude.{Contains, ◌≢◌}
use Rattle.std.specs.Ordering.{nat_cmp}
use Rattle.std.specs.Cmp.Lexicographic.{slice_cmp}
use Rattle.std.specs.Set.{remove_key}
use Rattle.std.specs.BTreeMap.{is_at}
use Rattle.std.specs.BTreeSet.{insert_key}
use Rattle.conflicts.specs.Skeleton.{Claim}
use Rattle.conflicts.specs.IndexKeys.{IndexKey, index_key_order, pair_order, index_key_text, text_hash}
use Rattle.conflicts.specs.Index.{IsListed, KeepsOthers}
use Rattle.conflicts.specs.declared.index_keys.Index.{Index}
use Rattle.conflicts.proofs.Indexing.{insert_keeps, remove_keeps, pair_brought, index_key_brought, other_number, not_tied}

module _ (old new : Index) (index_key : IndexKey) where
  abbrev hashed : ℕ × ℕ
  hashed = (text_hash index_key.0.items, index_key.1)

  -- after it was put in, all that was listed is
  module _ (index_keys : new.index_keys.keys ≡ insert_key index_key_order old.index_keys.keys index_key) (hashes : new.hashes.keys ≡ insert_key pair_order old.hashes.keys hashed) where
    pub listed_still : (n : ℕ) (claim : Claim) → IsListed old n claim → IsListed new n claim
    listed_still n claim was = record {
      index_key = was.index_key;
      listed = subst (λ xs. Contains xs was.index_key) (sym index_keys) (insert_keeps index_key_order old.index_keys.keys index_key was.index_key was.listed);
      text = was.text;
      numbered = was.numbered;
      hashed = subst (λ xs. Contains xs (text_hash (index_key_text claim), n)) (sym hashes) (insert_keeps pair_order old.hashes.keys hashed (text_hash (index_key_text claim), n) was.hashed);
    }

    -- and so is a claim of its encoding
    pub listed_now : (claim : Claim) → index_key.0.items ≡ index_key_text claim → IsListed new index_key.1 claim
    listed_now claim text =
        let brought = index_key_brought old.index_keys.keys index_key in
        record {
          index_key = brought.0;
          listed = subst (λ xs. Contains xs brought.0) (sym index_keys) brought.1;
          text = brought.2 ∙ text;
          numbered = brought.3;
          hashed = subst (λ t. Contains new.hashes.keys (text_hash t, index_key.1)) text (subst (λ xs. Contains xs hashed) (sym hashes) (pair_brought old.hashes.keys hashed));
        }

  -- a removal of pairs keeps those of other numbers
  pair_stays : (pairs : List (ℕ × ℕ)) (h n : ℕ) → index_key.1 ≢ n → Contains pairs (h, n) → Contains (remove_key (is_at (pair_order hashed)) pairs) (h, n)
  pair_stays pairs h n ne has = remove_keeps pair_order (is_at (pair_order hashed)) pairs (h, n) has (not_tied (nat_cmp hashed.0 h) (nat_cmp index_key.1 n) (other_number index_key.1 n ne))

  -- after it was taken out, all others are listed
  pub others_listed : new.index_keys.keys ≡ remove_key (is_at (index_key_order index_key)) old.index_keys.keys → new.hashes.keys ≡ remove_key (is_at (pair_order hashed)) old.hashes.keys → KeepsOthers old new index_key.1
  others_listed index_keys hashes n claim ne was = record {
    index_key = was.index_key;
    listed = subst (λ xs. Contains xs was.index_key) (sym index_keys) (remove_keeps index_key_order (is_at (index_key_order index_key)) old.index_keys.keys was.index_key was.listed (not_tied (slice_cmp nat_cmp index_key.0.items was.index_key.0.items) (nat_cmp index_key.1 was.index_key.1) (other_number index_key.1 was.index_key.1 (λ s. ne (s ∙ was.numbered)))));
    text = was.text;
    numbered = was.numbered;
    hashed = subst (λ xs. Contains xs (text_hash (index_key_text claim), n)) (sym hashes) (pair_stays old.hashes.keys (text_hash (index_key_text claim)) n ne was.hashed);
  }

  -- and after its hash was put in and taken out
  pub others_stay : new.index_keys.keys ≡ old.index_keys.keys → new.hashes.keys ≡ remove_key (is_at (pair_order hashed)) (insert_key pair_order old.hashes.keys hashed) → KeepsOthers old new index_key.1
  others_stay index_keys hashes n claim ne was = record {
    index_key = was.index_key;
    listed = subst (λ xs. Contains xs was.index_key) (sym index_keys) was.listed;
    text = was.text;
    numbered = was.numbered;
    hashed = subst (λ xs. Contains xs (text_hash (index_key_text claim), n)) (sym hashes) (pair_stays (insert_key pair_order old.hashes.keys hashed) (text_hash (index_key_text claim)) n ne (insert_keeps pair_order old.hashes.keys hashed (text_hash (index_key_text claim), n) was.hashed));
  }
