-- Maps from keys to records: which are equal, and what a step changes in them.
use Rattle.std.proofs.Common.{◌≡◌, ◌≢◌, ℕ, true, false, cond, List, [], ◌∷◌, Option, Some, None, unwrap_or, refl, sym, ap, ◌∙◌, IfSome, subst, arith, ◌⊎◌, inl, inr}
use mathlib.Core.Bool.{true≢false}
use Rattle.std.specs.declared.cmp.Ordering.{Ordering}
use Rattle.std.specs.Ordering.{nat_cmp, eq_by_cmp}
use Rattle.std.specs.Cmp.{eq_by_cmp_equiv}
use Rattle.std.specs.Cmp.Lexicographic.{slice_cmp, nat_list_cmp_total}
use Rattle.std.specs.FinMap.{get, insert, remove, get-insert, get-remove, same_map, slice_cmp-IsAntisymmetric, nat_cmp-IsAntisymmetric}
use Rattle.std.specs.BTreeMap.{is_at}
use Rattle.std.proofs.lemmas.Map.Lookups.{exact_bytes}
use Rattle.std.proofs.lemmas.Map.Views.{tells_apart}
use Rattle.lt_ids.specs.declared.ticket.Through.{Through}
use Rattle.std.proofs.lemmas.Bool.Decides.{nat_tests}
use Rattle.lt_rules.specs.declared.queued.Holder.{Holder}
use Rattle.lt_rules.specs.declared.queued.QueuedRequest.{QueuedRequest}
use Rattle.lt_rules.specs.declared.queued.QueuedWriter.{QueuedWriter}
use Rattle.lt_rules.specs.declared.call.Reply.{Reply}
use Rattle.lt_rules.specs.Rules.{Record, empty, is_empty, Outcome}
use Rattle.lt_rules.specs.Table.{Records, record_at, with_record, IsKept, AreSound, IsStep}
use Rattle.lt_rules.specs.Lawful.{IsLawful}
use Rattle.lt_rules.proofs.Lawfulness.{empty_is_lawful}

abbrev pub order : List ℕ → List ℕ → Ordering
order = slice_cmp nat_cmp

-- two maps with the same records are equal
pub same_records : (m n : Records) → ((q : List ℕ) → get m q ≡ get n q) → m ≡ n
same_records m n h = same_map nat_list_cmp_total (slice_cmp-IsAntisymmetric nat_cmp-IsAntisymmetric) m n h

-- two keys are equal or different, and the order tells which
pub same_or_apart : (q k : List ℕ) → ((q ≡ k) × (eq_by_cmp order q k ≡ true)) ⊎ ((q ≢ k) × (eq_by_cmp order q k ≡ false))
same_or_apart q k =
    elim (eq_by_cmp order q k) as (λ b. eq_by_cmp order q k ≡ b → ((q ≡ k) × (eq_by_cmp order q k ≡ true)) ⊎ ((q ≢ k) × (eq_by_cmp order q k ≡ false))) [
      | true ↦ λ e. inl (tells_apart exact_bytes q k e, e)
      | false ↦ λ e. inr (λ same. true≢false (sym ((eq_by_cmp_equiv nat_list_cmp_total).refl k) ∙ rw same at e), e)
    ] refl

pub is_apart : (q k : List ℕ) → q ≢ k → is_at (order k) q ≡ false
is_apart q k apart = elim (same_or_apart k q) [ inl s ↦ absurd (apart (sym s.0)) | inr d ↦ d.1 ]

-- a record that tests as empty is the empty one
empty_parts : (h : Option Holder) (s : Option QueuedRequest) (ws : List QueuedWriter) (rs : List QueuedRequest) (d : Option ℕ) → is_empty (record { holder = h; reservation = s; writers = ws; readers = rs; distinguished = d }) ≡ true → record { holder = h; reservation = s; writers = ws; readers = rs; distinguished = d } ≡ empty
empty_parts None None [] [] None e = refl
empty_parts (Some h) s ws rs d e = absurd (true≢false (sym e))
empty_parts None (Some q) ws rs d e = absurd (true≢false (sym e))
empty_parts None None (w ∷ ws) rs d e = grind (arith, nat_tests)
empty_parts None None [] (r ∷ rs) d e = grind (arith, nat_tests)
empty_parts None None [] [] (Some n) e = absurd (true≢false (sym e))

is_empty_record : (r : Record) → is_empty r ≡ true → r ≡ empty
is_empty_record r e = empty_parts r.holder r.reservation r.writers r.readers r.distinguished e

filled_is_some : (o : Option Record) → is_empty (unwrap_or o empty) ≡ false → Some (unwrap_or o empty) ≡ o
filled_is_some None filled = absurd (true≢false filled)
filled_is_some (Some r) filled = refl

-- a record that is not empty is in the map, and inserting it again changes nothing
pub kept_record : (m : Records) (k : List ℕ) → is_empty (record_at m k) ≡ false → m ≡ with_record m k (record_at m k)
kept_record m k filled = rw filled (same_records _ _ (λ q. elim (same_or_apart q k) [
  | inl s ↦ ap (get m) s.0 ∙ sym (get-insert nat_list_cmp_total m k (record_at m k) q ∙ rw s.1 (filled_is_some (get m k) filled))
  | inr d ↦ sym (get-insert nat_list_cmp_total m k (record_at m k) q ∙ rw d.1 refl)
]))

-- two acts that have the same effect on the record at the key
pub act_alike : (old new : Records) (k : List ℕ) (act other : Record → Outcome) (reply : Reply) (lets : List Through) → IsStep old k act reply lets new → act (record_at old k) ≡ other (record_at old k) → IsStep old k other reply lets new
act_alike old new k act other reply lets a e = record {
  replied = a.replied ∙ ap (λ o. o.reply) e;
  let_through = a.let_through ∙ ap (λ o. o.lets) e;
  here = a.here ∙ ap (λ o. o.after) e;
  others = a.others;
}

-- dropping an empty record changes no record at this key
pub here_dropped : (m : Records) (k : List ℕ) → record_at (with_record m k (record_at m k)) k ≡ record_at m k
here_dropped m k =
    let same : eq_by_cmp order k k ≡ true = (eq_by_cmp_equiv nat_list_cmp_total).refl k in
    let removed : get (remove m k) k ≡ None = get-remove nat_list_cmp_total m k k ∙ rw same refl in
    let inserted : get (insert m k (record_at m k)) k ≡ Some (record_at m k) = get-insert nat_list_cmp_total m k (record_at m k) k ∙ rw same refl in
    elim (is_empty (record_at m k)) as (λ b. is_empty (record_at m k) ≡ b → unwrap_or (get (cond b (remove m k) (insert m k (record_at m k))) k) empty ≡ record_at m k) [
      | true ↦ λ e. ap (λ o. unwrap_or o empty) removed ∙ sym (is_empty_record (record_at m k) e)
      | false ↦ λ e. ap (λ o. unwrap_or o empty) inserted
    ] refl

-- nor at any other key
pub others_dropped : (m : Records) (k : List ℕ) (r : Record) (q : List ℕ) → q ≢ k → get (with_record m k r) q ≡ get m q
others_dropped m k r q apart = elim (is_empty r) as (λ b. get (cond b (remove m k) (insert m k r)) q ≡ get m q) [
  | true ↦ get-remove nat_list_cmp_total m k q ∙ rw (is_apart k q (λ e. apart (sym e))) refl
  | false ↦ get-insert nat_list_cmp_total m k r q ∙ rw (is_apart k q (λ e. apart (sym e))) refl
]

-- so a step is still a step after it
pub step_dropped : (old mid new : Records) (k : List ℕ) (act : Record → Outcome) (reply : Reply) (lets : List Through) → IsStep old k act reply lets mid → new ≡ with_record mid k (record_at mid k) → IsStep old k act reply lets new
step_dropped old mid new k act reply lets a e = rw e (record {
  replied = a.replied;
  let_through = a.let_through;
  here = here_dropped mid k ∙ a.here;
  others = λ q apart. others_dropped mid k (record_at mid k) q apart ∙ a.others q apart;
})

-- a key's record is lawful if each record is sound
lawful_at : (o : Option Record) → IfSome o IsKept → IsLawful (unwrap_or o empty)
lawful_at None kept = empty_is_lawful
lawful_at (Some r) kept = kept.lawful

-- the records stay sound, if the act keeps a record lawful
pub sound_dropped : (old mid new : Records) (k : List ℕ) (act : Record → Outcome) (reply : Reply) (lets : List Through) → ((r : Record) → IsLawful r → IsLawful (act r).after) → IsStep old k act reply lets mid → new ≡ with_record mid k (record_at mid k) → AreSound old → AreSound new
sound_dropped old mid new k act reply lets keeps a e sound q = rw e (elim (same_or_apart q k) [
  | inr d ↦ rw (others_dropped mid k (record_at mid k) q d.0, a.others q d.0) (sound q)
  | inl s ↦ rw s.0 (elim (is_empty (record_at mid k)) as (λ b. is_empty (record_at mid k) ≡ b → IfSome (get (cond b (remove mid k) (insert mid k (record_at mid k))) k) IsKept) [
    | true ↦ λ e. rw (get-remove nat_list_cmp_total mid k k, (eq_by_cmp_equiv nat_list_cmp_total).refl k) tt
    | false ↦ λ e. rw (get-insert nat_list_cmp_total mid k (record_at mid k) k, (eq_by_cmp_equiv nat_list_cmp_total).refl k) (record {
      filled = e;
      lawful = subst IsLawful (sym a.here) (keeps (record_at old k) (lawful_at (get old k) (sound k)));
    })
  ] refl)
])

-- the same for a step that leaves no empty record, after which nothing is dropped
pub sound_filled : (old new : Records) (k : List ℕ) (act : Record → Outcome) (reply : Reply) (lets : List Through) → ((r : Record) → IsLawful r → IsLawful (act r).after) → IsStep old k act reply lets new → is_empty (act (record_at old k)).after ≡ false → AreSound old → AreSound new
sound_filled old new k act reply lets keeps a filled = sound_dropped old new new k act reply lets keeps a (kept_record new k (subst (λ r. is_empty r ≡ false) (sym a.here) filled))
