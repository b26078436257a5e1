-- Lines each of which follows the lines before it are the lines of legal histories.
use Rattle.std.proofs.Common.{◌≡◌, ℕ, Bool, true, false, cond, List, [], ◌∷◌, length, map, refl, sym, ap, subst, ◌∙◌, inl, inr, suc}
use Rattle.std.specs.List.{AllByRecursion}
use Rattle.std.specs.Str.{bytes_eq}
use Rattle.lt_ids.specs.Ids.{Wait}
use Rattle.lt_rules.specs.Rules.{Record, empty}
use Rattle.lt_rules.specs.Step.{IsLegalFrom}
use Rattle.lt_entry.specs.Ranges.{IsTicket}
use Rattle.lt_entry.specs.declared.entry.Entry.{Entry}
use Rattle.lt_checker.specs.Lines.{Parts}
use Rattle.lt_checker.specs.Text.{Spot, start, record_before, spot_after, outcome, Follows, AreLegalFrom, AreLegal}
use Rattle.lt_checker.specs.Histories.{precedes, parts_of_entry}
use Rattle.lt_entry.specs.Legal.{event_of, key_part, AreLegalKeys}
use Rattle.lt_entry.specs.Ranges.{IsInRange}
use Rattle.lt_checker.specs.Sorted.{RiseFrom, next_index, lines_after}
use Rattle.lt_checker.proofs.Keys.{not_back, apart_back, upto_before, apart_keys, never_before_none, precedes_itself}
use Rattle.lt_entry.proofs.SameKeys.{same_key, key_itself}
use Rattle.lt_checker.proofs.Grouped.{part_same, part_other, none_below}

-- The entry of a line, with the lets that the rules give.
abbrev entry_of : Spot → Parts → Entry
entry_of s p = record { key = p.key; pass = p.step.pass; call = p.step.call; reply = p.step.reply; lets = (outcome s p).lets }

abbrev pub entries_from : Spot → List Parts → List Entry
entries_from s [] = []
entries_from s (p ∷ ps) = entry_of s p ∷ entries_from (spot_after s p) ps

pub as_many : (s : Spot) (ps : List Parts) → length (entries_from s ps) ≡ length ps
as_many s [] = refl
as_many s (p ∷ ps) = ap (λ n. suc n) (as_many (spot_after s p) ps)

pub entries_rise : (s : Spot) (ps : List Parts) → AreLegalFrom s ps → RiseFrom s.key (entries_from s ps)
entries_rise s [] h = tt
entries_rise s (p ∷ ps) h = (h.1.ordered, entries_rise (spot_after s p) ps h.2)

pub entries_in_range : (s : Spot) (ps : List Parts) → AreLegalFrom s ps → AllByRecursion IsInRange (entries_from s ps)
entries_in_range s [] h = tt
entries_in_range s (p ∷ ps) h = (
  record {
    key = h.0.key;
    pass = h.0.step.pass;
    call = h.0.step.call;
    reply = h.0.step.reply;
    lets = subst (λ (ts : List Wait). AllByRecursion IsTicket ts) h.1.let_through h.0.tickets;
  },
  entries_in_range (spot_after s p) ps h.2,
)

-- The line of that entry is the line itself.
line_again : (s : Spot) (p : Parts) → Follows s p → parts_of_entry (next_index s.key s.index p.key) (entry_of s p) ≡ p
line_again s p f =
    let number : ℕ → Parts = λ i. record { key = p.key; step = record { index = i; pass = p.step.pass; call = p.step.call; reply = p.step.reply }; tickets = map (λ t. t.ticket) (outcome s p).lets } in
    let tickets : List Wait → Parts = λ ts. record { key = p.key; step = p.step; tickets = ts } in
    ap number (sym f.counted) ∙ ap tickets (sym f.let_through)

pub lines_again : (s : Spot) (ps : List Parts) → AreLegalFrom s ps → lines_after s.key s.index (entries_from s ps) ≡ ps
lines_again s [] h = refl
lines_again s (p ∷ ps) h =
    let es = entries_from (spot_after s p) ps in
    ap (λ (q : Parts). q ∷ lines_after p.key (next_index s.key s.index p.key) es) (line_again s p h.1)
    ∙ (ap (λ (i : ℕ). p ∷ lines_after p.key i es) (sym h.1.counted) ∙ ap (λ (qs : List Parts). p ∷ qs) (lines_again (spot_after s p) ps h.2))

-- ---- each key's key_part

module _ (s : Spot) (p : Parts) (es : List Entry) where
  abbrev next : Spot
  next = spot_after s p

  abbrev e : Entry
  e = entry_of s p

  here : Follows s p → IsLegalFrom (record_before next p.key) (map event_of (key_part p.key es)) → IsLegalFrom (record_before s p.key) (map event_of (key_part p.key (e ∷ es)))
  here f h =
      subst (λ (run : List Entry). IsLegalFrom (record_before s p.key) (map event_of run)) (sym (part_same p.key e es (key_itself p.key)))
      (f.replied, refl, subst (λ (r : Record). IsLegalFrom r (map event_of (key_part p.key es))) (ap (λ b. cond b (outcome s p).after empty) (key_itself p.key)) h)

  above : (key : List ℕ) → Follows s p → precedes p.key key ≡ true → IsLegalFrom (record_before next key) (map event_of (key_part key es)) → IsLegalFrom (record_before s key) (map event_of (key_part key es))
  above key f lt h =
      let was_none : record_before next key ≡ empty = ap (λ b. cond b (outcome s p).after empty) (apart_back p.key key lt) in
      let is_none : record_before s key ≡ empty = ap (λ b. cond b s.state empty) (apart_back s.key key (upto_before s.key p.key key f.ordered lt)) in
      subst (λ (r : Record). IsLegalFrom r (map event_of (key_part key es))) (was_none ∙ sym is_none) h

  below : (r : Record) (key : List ℕ) → RiseFrom p.key es → precedes key p.key ≡ true → IsLegalFrom r (map event_of (key_part key es))
  below r key rise lt = subst (λ (run : List Entry). IsLegalFrom r (map event_of run)) (sym (none_below p.key es rise key lt)) tt

parts_legal : (s : Spot) (ps : List Parts) → AreLegalFrom s ps → (key : List ℕ) → precedes key s.key ≡ false → IsLegalFrom (record_before s key) (map event_of (key_part key (entries_from s ps)))
parts_legal s [] h key order = tt
parts_legal s (p ∷ ps) h key order =
    let es = entries_from (spot_after s p) ps in
    let more : (k : List ℕ) → precedes k p.key ≡ false → IsLegalFrom (record_before (spot_after s p) k) (map event_of (key_part k es)) = parts_legal (spot_after s p) ps h.2 in
    elim (bytes_eq p.key key) as (λ b. bytes_eq p.key key ≡ b → IsLegalFrom (record_before s key) (map event_of (key_part key (entry_of s p ∷ es)))) [
      | true ↦ λ same. subst (λ (k : List ℕ). IsLegalFrom (record_before s k) (map event_of (key_part k (entry_of s p ∷ es)))) (same_key p.key key same) (here s p es h.1 (more p.key (precedes_itself p.key)))
      | false ↦ λ other.
          subst (λ (run : List Entry). IsLegalFrom (record_before s key) (map event_of run)) (sym (part_other key (entry_of s p) es other))
          (elim (apart_keys p.key key other) [
            | inl up ↦ above s p es key h.1 up (more key (not_back p.key key up))
            | inr down ↦ below s p es (record_before s key) key (entries_rise (spot_after s p) ps h.2) down
          ])
    ] refl

same_empty : (b : Bool) → cond b empty empty ≡ empty
same_empty true = refl
same_empty false = refl

pub entries_legal : (ps : List Parts) → AreLegal ps → AreLegalKeys (entries_from start ps)
entries_legal ps h = λ key. subst (λ (r : Record). IsLegalFrom r (map event_of (key_part key (entries_from start ps)))) (same_empty (bytes_eq key [])) (parts_legal start ps h key (never_before_none key))
