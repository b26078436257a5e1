-- A tree from keys to records, read as a finite map.
use Rattle.std.proofs.Common.{◌≡◌, ◌≢◌, ◌≤◌, ℕ, true, cond, List, [], ◌∷◌, Option, Some, None, unwrap_or, refl, sym, ap, ◌∙◌, IsSome, IfOk, OnErr, Result, Ok, Err, subst, inl, inr, arith}
use Rattle.std.specs.Ordering.{eq_by_cmp}
use Rattle.std.specs.Cmp.{eq_by_cmp_equiv}
use Rattle.std.specs.Cmp.Lexicographic.{nat_list_cmp_total}
use Rattle.std.specs.FinMap.{get, find, get-from_entries, get-remove}
use Rattle.std.specs.BTreeMap as tree
use Rattle.std.specs.BTreeMap.{BTreeMap, is_at, UpdatesBy}
use Rattle.std.specs.Map.{lookup}
use Rattle.lt_ids.specs.declared.ticket.Through.{Through}
use Rattle.lt_rules.specs.declared.call.Call.{Call}
use Rattle.lt_rules.specs.declared.call.Reply.{Reply}
use Rattle.lt_rules.specs.Rules.{Record, empty, is_empty, Outcome, IsOutcome, unchanged}
use Rattle.lt_rules.specs.Step.{step}
use Rattle.lt_rules.specs.Table.{Records, record_at, with_record, without_empty, IsStep}
use Rattle.lt_rules.specs.Memory.{how_many, HasRoom}
use Rattle.lt_rules.proofs.Maps.{order, same_records, same_or_apart, is_apart, here_dropped, others_dropped}
use Rattle.lt_rules.proofs.Rooms.{room_stepped}
use Rattle.lt_plain.proofs.Rooms.{none_come}
use Rattle.lt_plain.specs.Plain.{tree_records}

abbrev Tree : Type 0
Tree = BTreeMap (List ℕ) Record

find_lookup : (es : List (List ℕ × Record)) (k : List ℕ) → find order k es ≡ lookup (is_at (order k)) es
find_lookup [] k = refl
find_lookup (e ∷ es) k = ap (cond (is_at (order k) e.0) (Some e.1)) (find_lookup es k)

-- the map has the same record at a key as the tree
pub get_of : (m : Tree) (k : List ℕ) → get (tree_records m) k ≡ tree.get order m k
get_of m k = get-from_entries nat_list_cmp_total m.entries k ∙ find_lookup m.entries k

-- the record that a lookup finds
pub found : (m : Tree) (k : List ℕ) (r : Record) → Some r ≡ tree.get order m k → record_at (tree_records m) k ≡ r
found m k r e = ap (λ o. unwrap_or o empty) (get_of m k ∙ sym e)

pub missing : (m : Tree) (k : List ℕ) → None ≡ tree.get order m k → record_at (tree_records m) k ≡ empty
missing m k e = ap (λ o. unwrap_or o empty) (get_of m k ∙ sym e)

module _ (m n : Tree) (k : List ℕ) where
  -- a record that is written at a key
  pub here_written : (w : Option Record) → UpdatesBy order (order k) m n w → record_at (tree_records n) k ≡ unwrap_or w empty
  here_written w u = ap (λ o. unwrap_or o empty) (get_of n k ∙ u.1)

  pub others_written : (w : Option Record) → UpdatesBy order (order k) m n w → (q : List ℕ) → q ≢ k → get (tree_records n) q ≡ get (tree_records m) q
  others_written w u q apart = get_of n q ∙ u.2 q (is_apart q k apart) ∙ sym (get_of m q)

-- the removal of the record at a key, if it is empty
pub removed_record : (m n : Tree) (k : List ℕ) → is_empty (record_at (tree_records m) k) ≡ true → UpdatesBy order (order k) m n None → tree_records n ≡ with_record (tree_records m) k (record_at (tree_records m) k)
removed_record m n k gone u = rw gone (same_records _ _ (λ q.
    get_of n q ∙ u.0 q ∙ ap (λ b. cond b None (tree.get order m q)) ((eq_by_cmp_equiv nat_list_cmp_total).symm k q)
    ∙ ap (cond (eq_by_cmp order q k) None) (sym (get_of m q)) ∙ sym (get-remove nat_list_cmp_total (tree_records m) k q)))

-- a step at a key without a record that answers and changes nothing
pub act_answers : (m : Records) (k : List ℕ) (act : Record → Outcome) (reply : Reply) → record_at m k ≡ empty → act empty ≡ unchanged empty reply → IsStep m k act reply [] m
act_answers m k act reply at nothing =
    let outcome : act (record_at m k) ≡ unchanged empty reply = ap act at ∙ nothing in
    record {
      replied = sym (ap (λ o. o.reply) outcome);
      let_through = sym (ap (λ o. o.lets) outcome);
      here = at ∙ sym (ap (λ o. o.after) outcome);
      others = λ q apart. refl;
    }

-- the effect of a write to a record through a lookup
pub written : (m n : Tree) (k : List ℕ) (r after : Record) → Some r ≡ tree.get order m k → tree.WritesThrough order (order k) m after n → UpdatesBy order (order k) m n (Some after)
written m n k r after some w = w.3 (subst IsSome some refl)

-- the same, if the outcome of an act is written
pub act_written : (m n : Tree) (k : List ℕ) (r after : Record) (act : Record → Outcome) (reply : Reply) (lets : List Through) → record_at (tree_records m) k ≡ r → UpdatesBy order (order k) m n (Some after) → IsOutcome (act r) after reply lets → IsStep (tree_records m) k act reply lets (tree_records n)
act_written m n k r after act reply lets at u is =
    record {
      replied = rw at is.replied;
      let_through = rw at is.let_through;
      here = here_written m n k (Some after) u ∙ rw at is.moved;
      others = others_written m n k (Some after) u;
    }

-- the same, if the record is written back unchanged
pub same_written : (m n : Tree) (k : List ℕ) (r after : Record) → Some r ≡ tree.get order m k → UpdatesBy order (order k) m n (Some after) → after ≡ r → tree_records n ≡ tree_records m
same_written m n k r after some u same = same_records _ _ (λ q. elim (same_or_apart q k) [
  | inl s ↦ ap (get (tree_records n)) s.0 ∙ get_of n k ∙ u.1 ∙ ap (λ x. Some x) same ∙ some ∙ sym (get_of m k) ∙ ap (get (tree_records m)) (sym s.0)
  | inr d ↦ others_written m n k (Some after) u q d.0
])

-- ---- the room for the lets of each key

-- after a step at a key without a record
pub room_free : {E : Type 0} (m n : Records) (k : List ℕ) (pass : ℕ) (call : Call) (result : Result Reply E) (room : ℕ) → record_at m k ≡ empty → IfOk result (λ reply. IsStep m k (λ r. step r pass call) reply [] n) → OnErr result (n ≡ m) → HasRoom m room → HasRoom n room
room_free m n k pass call (Ok reply) room at ok err has =
    let none = none_come pass call in
    let few : how_many (step (record_at m k) pass call).after ≤ room = subst (λ r. how_many (step r pass call).after ≤ room) (sym at) (omega (arith, none)) in
    room_stepped m n k (λ r. step r pass call) reply [] room room ok (omega arith) (λ _. few) has
room_free m n k pass call (Err e) room at ok err has = subst (λ x. HasRoom x room) (sym err) has

-- after a write to the record at a key
pub room_written : (m n : Tree) (k : List ℕ) (r after : Record) (room more : ℕ) → Some r ≡ tree.get order m k → UpdatesBy order (order k) m n (Some after) → room ≤ more → (how_many r ≤ room → how_many after ≤ more) → HasRoom (tree_records m) room → HasRoom (tree_records n) more
room_written m n k r after room more some u grown here has q = elim (same_or_apart q k) [
  | inl s ↦ subst (λ x. how_many x ≤ more) (sym (ap (record_at (tree_records n)) s.0 ∙ here_written m n k (Some after) u)) (here (subst (λ x. how_many x ≤ room) (found m k r some) (has k)))
  | inr d ↦
      let same : record_at (tree_records n) q ≡ record_at (tree_records m) q = ap (λ o. unwrap_or o empty) (others_written m n k (Some after) u q d.0) in
      let few = subst (λ x. how_many x ≤ room) (sym same) (has q) in
      omega (arith, few, grown)
]

-- after an empty record has been dropped
pub room_dropped : (m n : Records) (k : List ℕ) (room : ℕ) → n ≡ without_empty m k → HasRoom m room → HasRoom n room
room_dropped m n k room is has q = rw is (elim (same_or_apart q k) [
  | inl s ↦ subst (λ x. how_many x ≤ room) (sym (ap (record_at (without_empty m k)) s.0 ∙ here_dropped m k)) (has k)
  | inr d ↦ subst (λ x. how_many x ≤ room) (sym (ap (λ o. unwrap_or o empty) (others_dropped m k (record_at m k) q d.0))) (has q)
])
