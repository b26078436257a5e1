-- The keys that a table names are the ones that are locked or waited for.
use Rattle.std.proofs.Common.{◌≡◌, ℕ, true, false, List, Option, Some, None, unwrap_or, refl, sym, ap, ◌∙◌}
use mathlib.Core.Bool.{true≢false}
use Rattle.std.specs.Prelude.{Contains, IfSome, is_some}
use Rattle.std.specs.Cmp.{eq_by_cmp_equiv}
use Rattle.std.specs.Cmp.Lexicographic.{nat_list_cmp_total}
use Rattle.std.specs.FinMap.{get, keys, contains_key-keys}
use Rattle.std.proofs.lemmas.Map.Lookups.{exact_bytes}
use Rattle.std.proofs.lemmas.Map.Views.{tells_apart, list_any-from_Contains, Contains-from_any}
use Rattle.lt_rules.specs.Rules.{Record, empty, is_empty}
use Rattle.lt_rules.specs.Table.{Records, record_at, keys_after, AreSound, IsKept}
use Rattle.lt_rules.proofs.Rising.{rising_keys}
use Rattle.lt_entry.specs.declared.entry.Entry.{Entry}
use Rattle.lt_words.specs.History.{key_record}
use Rattle.lt_shard.specs.Shards.{AreLockedKeys, AreLockedKeysAfter}

-- ---- a key has a record exactly if the record is not empty

filled : (o : Option Record) → IfSome o IsKept → is_some o ≡ true → is_empty (unwrap_or o empty) ≡ false
filled None kept is = absurd (true≢false (sym is))
filled (Some r) kept is = kept.filled

there : (o : Option Record) → is_empty (unwrap_or o empty) ≡ false → is_some o ≡ true
there None is = absurd (true≢false is)
there (Some r) is = refl

named : (m : Records) (key : List ℕ) → Contains (keys m) key → is_some (get m key) ≡ true
named m key has = contains_key-keys m key ∙ list_any-from_Contains (eq_by_cmp_equiv nat_list_cmp_total) key (keys m) has

names : (m : Records) (key : List ℕ) → is_some (get m key) ≡ true → Contains (keys m) key
names m key is = Contains-from_any (λ x y e. tells_apart exact_bytes x y e) key (keys m) (sym (contains_key-keys m key) ∙ is)

pub locked_keys : (m : Records) (es : List Entry) (all : List (List ℕ)) → AreSound m → ((key : List ℕ) → record_at m key ≡ key_record key es) → all ≡ keys m → AreLockedKeys es all
locked_keys m es all sound replays same = rw same (record {
  rising = rising_keys m;
  locked = λ key. (
    λ has. ap is_empty (sym (replays key)) ∙ filled (get m key) (sound key) (named m key has),
    λ is. names m key (there (get m key) (ap is_empty (replays key) ∙ is)),
  );
})

pub locked_keys_after : (m : Records) (es : List Entry) (after : Option (List ℕ)) (at_most : ℕ) (first : List (List ℕ)) → AreSound m → ((key : List ℕ) → record_at m key ≡ key_record key es) → first ≡ keys_after m after at_most → AreLockedKeysAfter es after at_most first
locked_keys_after m es after at_most first sound replays same = record {
  all = keys m;
  are_locked = locked_keys m es (keys m) sound replays refl;
  first = same;
}
