-- Each line of legal histories follows the lines before it.
use Rattle.std.proofs.Common.{◌≡◌, ◌≢◌, ℕ, ◌+◌, ◌^◌, ◌<◌, ◌≤◌, true, false, cond, List, [], ◌∷◌, ◌++◌, length, map, refl, sym, ap, subst, ◌∙◌, arith}
use Rattle.std.specs.List.{AllByRecursion, Contains}
use Rattle.std.specs.Str.{bytes_eq}
use Rattle.std.proofs.lemmas.List.Elements.{All-from_recursion, recursion_from_All, All-filter, All-weaker, filter_passes}
use Rattle.std.proofs.lemmas.List.Sums.{length-filter, count_by-le-length}
use Rattle.lt_rules.specs.Rules.{Record, empty}
use Rattle.lt_rules.specs.Step.{step, IsLegalFrom}
use Rattle.lt_text.specs.Replies.{is_reply_of}
use Rattle.lt_entry.specs.declared.entry.Entry.{Entry}
use Rattle.lt_checker.specs.Lines.{Parts, IsLine}
use Rattle.lt_checker.specs.Text.{Spot, start, index_after, record_before, spot_after, outcome, AreLegalFrom, AreLegal}
use Rattle.lt_checker.specs.Histories.{precedes, KeysRise, AreKeysOf, parts_of_entry, lines_from, lines_of}
use Rattle.lt_entry.specs.Legal.{event_of, key_part, AreLegalKeys}
use Rattle.lt_entry.specs.Ranges.{IsInRange}
use Rattle.lt_checker.proofs.Keys.{not_back, apart_back, precedes_itself, upto_before}
use Rattle.lt_entry.proofs.SameKeys.{same_key, key_itself}
use Rattle.lt_checker.proofs.Grouped.{is_head, is_later, weaker}
use Rattle.lt_checker.proofs.Fits.{step_fits}

-- ---- the key_part of a key

part_keys : (key : List ℕ) (es : List Entry) → AllByRecursion (λ e. e.key ≡ key) (key_part key es)
part_keys key es =
    recursion_from_All (λ (e : Entry). e.key ≡ key) (key_part key es)
    (All-weaker (λ (e : Entry). bytes_eq e.key key ≡ true) (λ (e : Entry). e.key ≡ key) (λ e h. same_key e.key key h) (key_part key es) (filter_passes (λ (e : Entry). bytes_eq e.key key) es))

part_ranges : (key : List ℕ) (es : List Entry) → AllByRecursion IsInRange es → AllByRecursion IsInRange (key_part key es)
part_ranges key es h = recursion_from_All IsInRange (key_part key es) (All-filter (λ (e : Entry). bytes_eq e.key key) IsInRange es (All-from_recursion IsInRange es h))

part_size : (key : List ℕ) (es : List Entry) → length (key_part key es) ≤ length es
part_size key es = omega (arith, length-filter (λ (e : Entry). bytes_eq e.key key) es, count_by-le-length (λ (e : Entry). bytes_eq e.key key) es)

-- ---- the lines of one key, and what follows them

is_line : (index : ℕ) (r : Record) (e : Entry) → 1 ≤ index → index < 2 ^ 64 → IsInRange e → e.reply ≡ (step r e.pass e.call).reply → IsLine (parts_of_entry index e)
is_line index r e low high h replied = record {
  key = h.key;
  step = record {
    index = (low, high);
    pass = h.pass;
    call = h.call;
    reply = h.reply;
    fits = ap (is_reply_of e.call) replied ∙ step_fits r e.pass e.call;
  };
  tickets = h.lets;
}

run_legal : (s : Spot) (key : List ℕ) (index : ℕ) (r : Record) (run : List Entry) (more : List Parts) → index ≡ index_after s key → r ≡ record_before s key → precedes key s.key ≡ false
    → 1 ≤ index → index + length run ≤ 2 ^ 64 → AllByRecursion (λ e. e.key ≡ key) run → AllByRecursion IsInRange run → IsLegalFrom r (map event_of run)
    → ((t : Spot) → precedes key t.key ≡ false → AreLegalFrom t more) → AreLegalFrom s (lines_from index run ++ more)
run_legal s key index r [] more counted stands order low room keys ranges legal goes_on = goes_on s order
run_legal s key index r (e ∷ es) more counted stands order low room keys ranges legal goes_on =
    let p : Parts = parts_of_entry index e in
    let at : r ≡ record_before s e.key = stands ∙ ap (record_before s) (sym keys.0) in
    let itself : bytes_eq key e.key ≡ true = ap (bytes_eq key) keys.0 ∙ key_itself key in
    let after : (step r e.pass e.call).after ≡ (outcome s p).after = ap (λ (x : Record). (step x e.pass e.call).after) at in (
      is_line index r e low (omega arith) ranges.0 legal.0,
      record {
        ordered = ap (λ (k : List ℕ). precedes k s.key) keys.0 ∙ order;
        counted = counted ∙ ap (index_after s) (sym keys.0);
        replied = legal.0 ∙ ap (λ (x : Record). (step x e.pass e.call).reply) at;
        let_through = ap (map (λ t. t.ticket)) (legal.1 ∙ ap (λ (x : Record). (step x e.pass e.call).lets) at);
      },
      run_legal (spot_after s p) key (index + 1) (step r e.pass e.call).after es more (sym (ap (λ b. cond b (index + 1) 1) itself)) (after ∙ sym (ap (λ b. cond b (outcome s p).after empty) itself))
          (ap (precedes key) keys.0 ∙ precedes_itself key) (omega arith) (omega arith) keys.1 ranges.1 legal.2 goes_on,
    )

-- ---- key after key

module _ (es : List Entry) (ranges : AllByRecursion IsInRange es) (legal : AreLegalKeys es) (room : length es < 2 ^ 64) where
  keys_legal : (keys : List (List ℕ)) (s : Spot) → KeysRise keys → AllByRecursion (λ k. precedes s.key k ≡ true) keys → AreLegalFrom s (lines_of es keys)
  keys_legal [] s rise above = tt
  keys_legal (key ∷ keys) s rise above =
      let other : bytes_eq key s.key ≡ false = apart_back s.key key above.0 in
      let size = part_size key es in
      run_legal s key 1 empty (key_part key es) (lines_of es keys) (sym (ap (λ b. cond b (s.index + 1) 1) other)) (sym (ap (λ b. cond b s.state empty) other))
      (not_back s.key key above.0) (omega arith) (omega arith) (part_keys key es) (part_ranges key es ranges) (legal key)
      (λ t order. keys_legal keys t rise.1 (weaker (λ k. precedes key k ≡ true) (λ k. precedes t.key k ≡ true) (λ k lt. upto_before t.key key k order lt) keys rise.0))

-- Each key that has an entry has at least one byte.
above_none : (key : List ℕ) → 0 < length key → precedes [] key ≡ true
above_none [] h = absurd (omega arith)
above_none (b ∷ bs) h = refl

used : (key : List ℕ) (run : List Entry) → AllByRecursion (λ e. e.key ≡ key) run → AllByRecursion IsInRange run → run ≢ [] → precedes [] key ≡ true
used key [] keys ranges some = absurd (some refl)
used key (e ∷ es) keys ranges some = subst (λ (k : List ℕ). precedes [] k ≡ true) keys.0 (above_none e.key ranges.0.key.not_empty)

each_key : (P : List ℕ → Type 0) (keys : List (List ℕ)) → ((key : List ℕ) → Contains keys key → P key) → AllByRecursion P keys
each_key P [] f = tt
each_key P (key ∷ keys) f = (f key (is_head key keys), each_key P keys (λ k h. f k (is_later key k keys h)))

pub lines_legal : (es : List Entry) (keys : List (List ℕ)) → AllByRecursion IsInRange es → AreLegalKeys es → length es < 2 ^ 64 → AreKeysOf es keys → AreLegal (lines_of es keys)
lines_legal es keys ranges legal room are =
    keys_legal es ranges legal room keys start are.rise (each_key (λ k. precedes [] k ≡ true) keys (λ k h. used k (key_part k es) (part_keys k es) (part_ranges k es ranges) ((are.each k).0 h)))
