-- A checker takes a text piece by piece, and two checkers are joined.
use Rattle.std.proofs.Common.{◌≡◌, ◌≢◌, ℕ, ◌+◌, ◌<◌, ◌≤◌, ◌^◌, false, cond, eqb, ◌==◌, map, List, [], ◌∷◌, ◌++◌, length, Option, Some, None, Result, Ok, Err, refl, sym, ap, subst, ◌∙◌, inl, inr, append_assoc, arith}
use Rattle.std.specs.Prelude.{IfOk, IfErr}
use Rattle.std.specs.List.{slice_split, flat_map, AllByRecursion}
use Rattle.std.specs.Str.{bytes_eq}
use Rattle.std.proofs.lemmas.List.{append-nil, length-append, append_cancel_left}
use Rattle.std.proofs.lemmas.Grind.{flat_map-append}
use Rattle.std.proofs.lemmas.List.Sums.{sum_by-append, count_by-le-length}
use Rattle.lt_text.specs.Words.{cut_of}
use Rattle.lt_text.proofs.Plain.{cut_takes}
use Rattle.lt_checker.specs.declared.checker.Report.{Report}
use Rattle.lt_checker.specs.declared.checker.CheckError.{CheckError}
use Rattle.lt_checker.specs.declared.checker.CheckError.TheVariants as errors
use Rattle.lt_checker.specs.declared.error.Fault.{Fault}
use Rattle.lt_checker.specs.declared.error.Fault.TheVariants.{Header, Shape, KeyOrder, Index, WrongReply, WrongLets}
use Rattle.lt_checker.specs.declared.error.HistoryLineError.{HistoryLineError}
use Rattle.lt_checker.specs.declared.error.HistoryLineError.TheVariants as refusals
use Rattle.lt_checker.specs.declared.pieces.Checker.{Checker}
use Rattle.lt_checker.specs.Cursor.{spot, latest_key}
use Rattle.lt_checker.specs.Histories.{precedes}
use Rattle.lt_ids.specs.Ids.{Wait}
use Rattle.lt_checker.specs.declared.line.LineStep.{LineStep}
use Rattle.lt_text.specs.Lets.{lets_words}
use Rattle.lt_checker.specs.Lines.{Parts, IsLine, line_text, parts_with, step_at, step_words, lets_in_words}
use Rattle.lt_checker.specs.Text.{Spot, IsOf, IsOrdered, HasItsIndex, IsShapelessIn, MayNotComeNext, start, text_by, spot_after, spot_from, outcome, index_after, Follows, AreLegal, AreLegalFrom, key_count, HasFault, HasFaultOr, FailsAt, Fails}
use Rattle.lt_checker.specs.Verdict.{IsReported, FailsOr, GoesOn, Judges, IsLegalText, IsOrMemory, located}
use Rattle.lt_checker.specs.Version.{IsVersion, header_of}
use Rattle.lt_checker.specs.Pieces.{IsCountable, first_key, HasTaken, ReportsLegal, HasBegun, LacksHeader, IsFaultyLine, IsNoNextLine, key_or, TakesOneLine, TakesParts, IsFaultyParts, MovesOver, RefusesFrom, JudgesAtEnd, SaysAtEnd, AcceptsAtEnd, RefusesAtEnd, RisesTo, MayJoin, TakesBoth, first_of_both, IsJoined}
use Rattle.lt_checker.proofs.Keys.{not_back, apart_back}
use Rattle.lt_checker.proofs.LineLaws.{words_are, shapeless, wrong, cut_more, uncut_is_shapeless, one_line, of_other_version, without_key, with_parts, with_other_parts}
use Rattle.lt_checker.proofs.Loop.{legal_push, spot_push, text_push, one_more_of, keys_push, room_of}
use Rattle.lt_checker.proofs.Verdicts.{is_said, legal_is_said, fault_is_said, all_append}

-- ---- what was taken

nothing_taken : (c : Checker) (version : ℕ) → c.report.version ≡ version → c.report.steps ≡ 0 → c.report.keys ≡ 0 → c.first ≡ None → IsVersion version → spot c.cursor ≡ start → HasTaken c (header_of version)
nothing_taken c version v steps keys first is stands = record {
  is_version = subst IsVersion (sym v) is;
  lines = [];
  legal = tt;
  of_version = tt;
  joined = ap header_of (sym v) ∙ sym (append-nil (header_of c.report.version));
  steps = steps;
  keys = keys;
  stands = stands;
  first = first;
}

reported : (c : Checker) (text : List ℕ) → HasTaken c text → IsReported text c.report
reported c text h = record {
  is_version = h.is_version;
  lines = h.lines;
  legal = h.legal;
  of_version = h.of_version;
  joined = h.joined;
  steps = h.steps;
  keys = h.keys;
}

pub reports_legal : (c : Checker) → ReportsLegal c c.report
reports_legal c = λ text h fits. is_said text (Ok c.report) (reported c text h)

-- The counts are no greater than the text is long.
few_keys : (ps : List Parts) → key_count ps ≤ length ps
few_keys ps = count_by-le-length (λ p. p.step.index == 1) ps

steps_fit : (c : Checker) (text : List ℕ) → HasTaken c text → c.report.steps ≤ length text
steps_fit c text h = omega (arith, h.steps, ap length h.joined, length-append (header_of c.report.version) (flat_map line_text h.lines), room_of h.lines)

keys_fit : (c : Checker) (text : List ℕ) → HasTaken c text → c.report.keys ≤ length text
keys_fit c text h = omega (arith, h.keys, h.steps, few_keys h.lines, steps_fit c text h)

-- ---- one more line

first_push : (ps : List Parts) (p : Parts) → key_or (first_key ps) p.key ≡ first_key (ps ++ p ∷ [])
first_push [] p = refl
first_push (q ∷ ps) p = refl

one_more : (old new : Checker) (before bytes : List ℕ) → HasTaken old before → TakesOneLine old bytes new → IsCountable (before ++ (bytes ++ 10 ∷ [])) → HasTaken new (before ++ (bytes ++ 10 ∷ []))
one_more old new before bytes h a fits =
    let p = a.next.parts in
    let version = old.report.version in
    let lines = h.lines ++ p ∷ [] in
    let room = length-append before (bytes ++ 10 ∷ []) in
    record {
      is_version = subst IsVersion (sym a.version) h.is_version;
      lines = lines;
      legal = legal_push start h.lines p h.legal a.next.line (subst (λ (x : Spot). Follows x p) h.stands a.next.follows);
      of_version = subst (λ (n : ℕ). AllByRecursion (IsOf n) lines) (sym a.version) (one_more_of version h.lines p h.of_version a.next.of_version);
      joined = ap (λ (t : List ℕ). t ++ (bytes ++ 10 ∷ [])) h.joined
          ∙ (ap (λ (t : List ℕ). text_by version h.lines ++ t) (sym a.next.is_text)
          ∙ (append_assoc (header_of version) (flat_map line_text h.lines) (line_text p)
          ∙ (ap (λ (t : List ℕ). header_of version ++ t) (text_push h.lines p) ∙ ap (λ (n : ℕ). text_by n lines) (sym a.version))));
      steps = a.steps (omega (arith, steps_fit old before h, room, fits)) ∙ omega (arith, h.steps, length-append h.lines (p ∷ []));
      keys = a.keys (omega (arith, keys_fit old before h, room, fits)) ∙ (ap (λ (m : ℕ). cond (eqb p.step.index 1) (m + 1) m) h.keys ∙ sym (keys_push h.lines p));
      stands = a.next.leads ∙ (ap (λ (x : Spot). spot_after x p) h.stands ∙ sym (spot_push start h.lines p));
      first = a.first ∙ (ap (λ (f : Option (List ℕ)). key_or f p.key) h.first ∙ first_push h.lines p);
    }

pub moves_nowhere : (c : Checker) (piece : List ℕ) → MovesOver c piece c piece
moves_nowhere c piece = record {
  taken = [];
  joined = refl;
  has_taken = λ before h fits. subst (HasTaken c) (sym (append-nil before)) h;
}

pub moves_on : (old mid new : Checker) (piece rest bytes after : List ℕ) → MovesOver old piece mid rest → cut_of 10 rest ≡ Some (bytes, after) → TakesOneLine mid bytes new → MovesOver old piece new after
moves_on old mid new piece rest bytes after m cut a =
    let line = bytes ++ 10 ∷ [] in
    record {
      taken = m.taken ++ line;
      joined = m.joined ∙ (ap (λ (t : List ℕ). m.taken ++ t) (cut_takes 10 rest bytes after cut ∙ sym (append_assoc bytes (10 ∷ []) after)) ∙ sym (append_assoc m.taken line after));
      has_taken = λ before h fits.
          let joined = append_assoc before m.taken line in
          let more = one_more mid new (before ++ m.taken) bytes (m.has_taken before h (omega (arith, ap length joined, length-append (before ++ m.taken) line, fits))) a (subst IsCountable (sym joined) fits) in
          subst (HasTaken new) joined more;
    }

-- ---- a line with a fault

some_rest : (rest bytes after : List ℕ) → cut_of 10 rest ≡ Some (bytes, after) → 0 < length rest
some_rest rest bytes after cut = omega (arith, ap length (cut_takes 10 rest bytes after cut), length-append bytes (10 ∷ after))

faulty : (version : ℕ) (s : Spot) (rest bytes after : List ℕ) (e : HistoryLineError) → cut_of 10 rest ≡ Some (bytes, after) → IsFaultyLine version s bytes e → HasFaultOr version s rest e
faulty version s rest bytes after e cut (inl h) = shapeless version s rest bytes after e (some_rest rest bytes after cut) cut h
faulty version s rest bytes after e cut (inr h) = wrong version s rest bytes after h.0 e (some_rest rest bytes after cut) h.1 h.2 cut h.3 h.4

fails : (c : Checker) (before rest : List ℕ) (fault : Fault) → HasTaken c before → HasFault c.report.version (spot c.cursor) rest fault → FailsAt (before ++ rest) (c.report.steps + 2) fault
fails c before rest fault h f = record {
  version = c.report.version;
  is_version = h.is_version;
  before = h.lines;
  rest = rest;
  legal = h.legal;
  of_version = h.of_version;
  joined = ap (λ (t : List ℕ). t ++ rest) h.joined;
  number = ap (λ n. n + 2) h.steps;
  faulty = subst (λ (x : Spot). HasFault c.report.version x rest fault) h.stands f;
}

nothing_left : (xs ys : List ℕ) → xs ++ ys ≡ [] → ys ≡ []
nothing_left [] ys e = e
nothing_left (x ∷ xs) ys e = absurd cc

goes_on : (c : Checker) (before rest : List ℕ) → HasTaken c before → rest ≢ [] → GoesOn (before ++ rest)
goes_on c before rest h some = record {
  version = c.report.version;
  is_version = h.is_version;
  rest = flat_map line_text h.lines ++ rest;
  joined = ap (λ (t : List ℕ). t ++ rest) h.joined ∙ append_assoc (header_of c.report.version) (flat_map line_text h.lines) rest;
  more = λ empty. some (nothing_left (flat_map line_text h.lines) rest empty);
}

fails_or : (c : Checker) (before rest : List ℕ) (e : HistoryLineError) → HasTaken c before → HasFaultOr c.report.version (spot c.cursor) rest e → FailsOr (before ++ rest) (located e (c.report.steps + 2))
fails_or c before rest refusals.Memory h f = goes_on c before rest h f
fails_or c before rest (refusals.Fault Header) h f = absurd f
fails_or c before rest (refusals.Fault Shape) h f = fails c before rest Shape h f
fails_or c before rest (refusals.Fault KeyOrder) h f = fails c before rest KeyOrder h f
fails_or c before rest (refusals.Fault Index) h f = fails c before rest Index h f
fails_or c before rest (refusals.Fault WrongReply) h f = fails c before rest WrongReply h f
fails_or c before rest (refusals.Fault WrongLets) h f = fails c before rest WrongLets h f

-- The number of the line is exact while the text can be counted.
pub refuses : (old mid : Checker) (piece rest bytes after : List ℕ) (e : HistoryLineError) (line : ℕ) → MovesOver old piece mid rest → cut_of 10 rest ≡ Some (bytes, after) → IsFaultyLine mid.report.version (spot mid.cursor) bytes e
    → (mid.report.steps + 2 < 2 ^ 64 → line ≡ mid.report.steps + 2) → RefusesFrom old piece (located e line)
refuses old mid piece rest bytes after e line m cut f is = λ before more h fits.
    let sizes = length-append before piece in
    let here = ap length m.joined in
    let parts = length-append m.taken rest in
    let now = m.has_taken before h (omega (arith, sizes, here, parts, length-append before m.taken, fits)) in
    let exact = is (omega (arith, steps_fit mid (before ++ m.taken) now, sizes, here, parts, length-append before m.taken, fits)) in
    let joined = append_assoc before m.taken (rest ++ more) ∙ ap (λ (t : List ℕ). before ++ t) (sym (append_assoc m.taken rest more) ∙ ap (λ (t : List ℕ). t ++ more) (sym m.joined)) in
    subst (λ (n : ℕ). FailsOr (before ++ (piece ++ more)) (located e n)) (sym exact)
    (subst (λ (t : List ℕ). FailsOr t (located e (mid.report.steps + 2))) joined
    (fails_or mid (before ++ m.taken) (rest ++ more) e now (faulty mid.report.version (spot mid.cursor) (rest ++ more) bytes (after ++ more) e (cut_more rest bytes after more cut) f)))

-- ---- the end of the text

pub refused_at_end : (c : Checker) (rest : List ℕ) (e : CheckError) → RefusesFrom c rest e → JudgesAtEnd c rest (Err e)
refused_at_end c rest e r = λ before h fits. subst (λ (t : List ℕ). FailsOr (before ++ t) e) (append-nil rest) (r before [] h fits)

empty_list : (xs : List ℕ) → length xs ≡ 0 → xs ≡ []
empty_list [] e = refl
empty_list (x ∷ xs) e = absurd (omega (arith, e))

pub accepted_at_end : (c new : Checker) (rest left : List ℕ) → MovesOver c rest new left → length left ≡ 0 → JudgesAtEnd c rest (Ok new.report)
accepted_at_end c new rest left m none = λ before h fits.
    let whole : m.taken ≡ rest = sym (append-nil m.taken) ∙ (ap (λ (t : List ℕ). m.taken ++ t) (sym (empty_list left none)) ∙ sym m.joined) in
    reported new (before ++ rest) (subst (λ (t : List ℕ). HasTaken new (before ++ t)) whole (m.has_taken before h (subst (λ (t : List ℕ). IsCountable (before ++ t)) (sym whole) fits)))

pub cut_off_at_end : (c new : Checker) (rest left : List ℕ) (line : ℕ) → MovesOver c rest new left → cut_of 10 left ≡ None → (length left ≡ 0 → ⊥) → (new.report.steps + 2 < 2 ^ 64 → line ≡ new.report.steps + 2) → JudgesAtEnd c rest (Err (errors.Refused line Shape))
cut_off_at_end c new rest left line m uncut some is = λ before h fits.
    let sizes = length-append before rest in
    let here = ap length m.joined in
    let parts = length-append m.taken left in
    let now = m.has_taken before h (omega (arith, sizes, here, parts, length-append before m.taken, fits)) in
    let exact = is (omega (arith, steps_fit new (before ++ m.taken) now, sizes, here, parts, length-append before m.taken, fits)) in
    let joined = append_assoc before m.taken left ∙ ap (λ (t : List ℕ). before ++ t) (sym m.joined) in
    subst (λ (n : ℕ). FailsAt (before ++ rest) n Shape) (sym exact)
    (subst (λ (t : List ℕ). FailsAt t (new.report.steps + 2) Shape) joined
    (fails new (before ++ m.taken) left Shape now (uncut_is_shapeless new.report.version (spot new.cursor) left (omega (arith, some)) uncut)))

pub says_at_end : (c : Checker) (rest : List ℕ) (r : Result Report CheckError) → JudgesAtEnd c rest r → SaysAtEnd c rest r
says_at_end c rest r j = λ before h fits. is_said (before ++ rest) r (j before h fits)

pub accepts_at_end : (c : Checker) (rest : List ℕ) (r : Result Report CheckError) → JudgesAtEnd c rest r → AcceptsAtEnd c rest r
accepts_at_end c rest r j = λ before h fits. legal_is_said (before ++ rest) r (omega (arith, fits)) (j before h fits)

pub refuses_at_end : (c : Checker) (rest : List ℕ) (r : Result Report CheckError) → JudgesAtEnd c rest r → RefusesAtEnd c rest r
refuses_at_end c rest r j = λ before h fits. fault_is_said (before ++ rest) r (j before h fits)

-- ---- two parts

legal_both : (s : Spot) (ps qs : List Parts) → AreLegalFrom s ps → AreLegalFrom (spot_from s ps) qs → AreLegalFrom s (ps ++ qs)
legal_both s [] qs h k = k
legal_both s (p ∷ ps) qs h k = (h.0, h.1, legal_both (spot_after s p) ps qs h.2 k)

spot_both : (s : Spot) (ps qs : List Parts) → spot_from s (ps ++ qs) ≡ spot_from (spot_from s ps) qs
spot_both s [] qs = refl
spot_both s (p ∷ ps) qs = spot_both (spot_after s p) ps qs

-- A line whose key precedes no other and differs from the latest one follows here as it follows at the start.
pub record IsNewKey (s : Spot) (key : List ℕ) : Type 0 where
  pub ordered : precedes key s.key ≡ false
  pub other : bytes_eq key s.key ≡ false

new_at_start : (key : List ℕ) → 0 < length key → IsNewKey start key
new_at_start [] lt = absurd (omega arith)
new_at_start (b ∷ bs) lt = record { ordered = refl; other = refl }

same_outcome : (s : Spot) (p : Parts) → IsNewKey s p.key → IsNewKey start p.key → outcome s p ≡ outcome start p
same_outcome s p n m = rw (n.other, m.other) refl

same_index : (s : Spot) (p : Parts) → IsNewKey s p.key → IsNewKey start p.key → index_after s p.key ≡ index_after start p.key
same_index s p n m = rw (n.other, m.other) refl

follows_here : (s : Spot) (p : Parts) → IsNewKey s p.key → IsNewKey start p.key → Follows start p → Follows s p
follows_here s p n m f = record {
  ordered = n.ordered;
  counted = f.counted ∙ sym (same_index s p n m);
  replied = f.replied ∙ sym (ap (λ o. o.reply) (same_outcome s p n m));
  let_through = f.let_through ∙ sym (ap (λ o. map (λ t. t.ticket) o.lets) (same_outcome s p n m));
}

spot_here : (s : Spot) (p : Parts) → IsNewKey s p.key → IsNewKey start p.key → spot_after s p ≡ spot_after start p
spot_here s p n m = ap (λ o. record { key = p.key; index = p.step.index; state = o.after }) (same_outcome s p n m)

legal_here : (s : Spot) (p : Parts) (ps : List Parts) → IsNewKey s p.key → IsNewKey start p.key → AreLegalFrom start (p ∷ ps) → AreLegalFrom s (p ∷ ps)
legal_here s p ps n m h = (h.0, follows_here s p n m h.1, subst (λ (x : Spot). AreLegalFrom x ps) (sym (spot_here s p n m)) h.2)

-- The key of the spot after some lines is that of the last one.
later_keys : (s : Spot) (ps : List Parts) → AreLegalFrom s ps → (0 < length s.key) → 0 < length (spot_from s ps).key
later_keys s [] h lt = lt
later_keys s (p ∷ ps) h lt = later_keys (spot_after s p) ps h.2 h.0.key.not_empty

no_key : (ps : List Parts) → AreLegalFrom start ps → (spot_from start ps).key ≡ [] → ps ≡ []
no_key [] h e = refl
no_key (p ∷ ps) h e = absurd (omega (arith, ap length e, later_keys (spot_after start p) ps h.2 h.0.key.not_empty))

new_key : (s : Spot) (latest : Option (List ℕ)) (lines : List Parts) (p : Parts) → AreLegal lines → s ≡ spot_from start lines → s.key ≡ latest_key latest → RisesTo latest (Some p.key) → 0 < length p.key → IsNewKey s p.key
new_key s None lines p legal stands key rises lt =
    subst (λ (x : Spot). IsNewKey x p.key) (sym (stands ∙ ap (λ (ps : List Parts). spot_from start ps) (no_key lines legal (ap (λ (x : Spot). x.key) (sym stands) ∙ key)))) (new_at_start p.key lt)
new_key s (Some latest) lines p legal stands key rises lt = record {
  ordered = ap (λ (k : List ℕ). precedes p.key k) key ∙ not_back latest p.key rises;
  other = ap (λ (k : List ℕ). bytes_eq p.key k) key ∙ apart_back latest p.key rises;
}

no_first : (ps : List Parts) → first_key ps ≡ None → ps ≡ []
no_first [] e = refl
no_first (p ∷ ps) e = absurd cc

first_both : (ps qs : List Parts) (a b : Option (List ℕ)) → a ≡ first_key ps → b ≡ first_key qs → first_of_both a b ≡ first_key (ps ++ qs)
first_both [] qs a b e f = rw e f
first_both (p ∷ ps) qs a b e f = rw e refl

-- If the second part has no line, the joined check is the first one.
pub both_without : (c next : Checker) → next.first ≡ None → TakesBoth c next c
both_without c next none = λ before lines h k fits.
    let empty : lines ≡ [] = append_cancel_left (header_of next.report.version) lines [] (k.joined ∙ ap (λ (ps : List Parts). text_by next.report.version ps) (no_first k.lines (sym k.first ∙ none))) in
    subst (HasTaken c) (sym (append-nil before) ∙ ap (λ (t : List ℕ). before ++ t) (sym empty)) h

joined_lines : (c next both : Checker) (before lines : List ℕ) (p : Parts) (ps : List Parts) → MayJoin c next → HasTaken c before → (k : HasTaken next (header_of next.report.version ++ lines)) → k.lines ≡ p ∷ ps → IsCountable (before ++ lines)
    → IsJoined c next both → HasTaken both (before ++ lines)
joined_lines c next both before lines p ps may h k same fits j =
    let version = c.report.version in
    let all = h.lines ++ p ∷ ps in
    let legal_next : AreLegal (p ∷ ps) = subst AreLegal same k.legal in
    let lt = legal_next.0.key.not_empty in
    let rises = subst (RisesTo c.cursor.key) (k.first ∙ ap first_key same) may.1 in
    let n = new_key (spot c.cursor) c.cursor.key h.lines p h.legal h.stands refl rises lt in
    let m = new_at_start p.key lt in
    let here : AreLegalFrom (spot c.cursor) (p ∷ ps) = legal_here (spot c.cursor) p ps n m legal_next in
    let stands_next : spot_from (spot c.cursor) (p ∷ ps) ≡ spot next.cursor = ap (λ (x : Spot). spot_from x ps) (spot_here (spot c.cursor) p n m) ∙ (ap (λ (qs : List Parts). spot_from start qs) (sym same) ∙ sym k.stands) in
    let text : lines ≡ flat_map line_text (p ∷ ps) = append_cancel_left (header_of next.report.version) lines (flat_map line_text (p ∷ ps)) (k.joined ∙ ap (λ (qs : List Parts). text_by next.report.version qs) same) in
    let of_next : AllByRecursion (IsOf version) (p ∷ ps) = subst (λ (v : ℕ). AllByRecursion (IsOf v) (p ∷ ps)) (sym may.0) (subst (AllByRecursion (IsOf next.report.version)) same k.of_version) in
    let whole = length-append before lines in
    let room = room_of (p ∷ ps) in
    let size = ap length text in
    let count = ap length same in
    let few = few_keys (p ∷ ps) in
    record {
      is_version = subst IsVersion (sym j.version) h.is_version;
      lines = all;
      legal = legal_both start h.lines (p ∷ ps) h.legal (subst (λ (x : Spot). AreLegalFrom x (p ∷ ps)) h.stands here);
      of_version = subst (λ (v : ℕ). AllByRecursion (IsOf v) all) (sym j.version) (all_append (IsOf version) h.lines (p ∷ ps) h.of_version of_next);
      joined = ap (λ (t : List ℕ). t ++ lines) h.joined
          ∙ (ap (λ (t : List ℕ). text_by version h.lines ++ t) text
          ∙ (append_assoc (header_of version) (flat_map line_text h.lines) (flat_map line_text (p ∷ ps))
          ∙ (ap (λ (t : List ℕ). header_of version ++ t) (sym (flat_map-append line_text h.lines (p ∷ ps))) ∙ ap (λ (v : ℕ). text_by v all) (sym j.version))));
      steps = j.steps (omega (arith, steps_fit c before h, k.steps, room, size, count, whole, fits)) ∙ omega (arith, h.steps, k.steps, count, length-append h.lines (p ∷ ps));
      keys = j.keys (omega (arith, keys_fit c before h, k.keys, ap key_count same, room, size, few, whole, fits)) ∙ omega (arith, h.keys, k.keys, ap key_count same, sum_by-append (λ q. cond (eqb q.step.index 1) 1 0) h.lines (p ∷ ps));
      stands = ap spot j.cursor ∙ (sym stands_next ∙ (ap (λ (x : Spot). spot_from x (p ∷ ps)) h.stands ∙ sym (spot_both start h.lines (p ∷ ps))));
      first = j.first ∙ first_both h.lines (p ∷ ps) c.first next.first h.first (k.first ∙ ap first_key same);
    }

pub both_with : (c next both : Checker) → MayJoin c next → next.first ≢ None → IsJoined c next both → TakesBoth c next both
both_with c next both may some j = λ before lines h k fits. by_lines before lines h k fits k.lines refl
  where
    by_lines : (before lines : List ℕ) → HasTaken c before → (k : HasTaken next (header_of next.report.version ++ lines)) → IsCountable (before ++ lines) → (ps : List Parts) → k.lines ≡ ps → HasTaken both (before ++ lines)
    by_lines before lines h k fits [] same = absurd (some (k.first ∙ ap first_key same))
    by_lines before lines h k fits (p ∷ ps) same = joined_lines c next both before lines p ps may h k same fits j

-- ---- a whole text

pub begun_accepts : (text : List ℕ) (c : Checker) (lines : List ℕ) (r : Result Report CheckError) → HasBegun text c lines → IsCountable text → AcceptsAtEnd c lines r → (report : Report) → IsLegalText text report → IsOrMemory r (Ok report)
begun_accepts text c lines r b fits accepts = λ report legal.
    accepts (header_of c.report.version) b.has_taken (subst IsCountable b.joined fits) report (subst (λ (t : List ℕ). IsLegalText t report) b.joined legal)

pub headless : (text : List ℕ) → LacksHeader text → Judges text (Err (errors.Refused 1 Header))
headless text h = subst (λ (t : List ℕ). Fails t 1 Header) (append-nil text) (h [] (inr refl))

-- ---- a line that may not come next

pub shapeless_comes_not : (version : ℕ) (s : Spot) (bytes : List ℕ) (e : HistoryLineError) → IsShapelessIn version e bytes → IsNoNextLine version s bytes e
shapeless_comes_not version s bytes refusals.Memory h = tt
shapeless_comes_not version s bytes (refusals.Fault Shape) h = λ p line old same ordered counted. h p line old same
shapeless_comes_not version s bytes (refusals.Fault Header) h = absurd h
shapeless_comes_not version s bytes (refusals.Fault KeyOrder) h = absurd h
shapeless_comes_not version s bytes (refusals.Fault Index) h = absurd h
shapeless_comes_not version s bytes (refusals.Fault WrongReply) h = absurd h
shapeless_comes_not version s bytes (refusals.Fault WrongLets) h = absurd h

line_comes_not : (version : ℕ) (s : Spot) (bytes : List ℕ) (p : Parts) (e : HistoryLineError) → IsLine p → line_text p ≡ bytes ++ 10 ∷ [] → MayNotComeNext s p e → IsNoNextLine version s bytes e
line_comes_not version s bytes p refusals.Memory line same h = tt
line_comes_not version s bytes p (refusals.Fault fault) line same h = λ q other old is ordered counted.
    let e : p ≡ q = (one_line p q [] [] line other (ap (λ (t : List ℕ). t ++ []) (same ∙ sym is))).0 in
    h (subst (IsOrdered s) (sym e) ordered) (subst (HasItsIndex s) (sym e) counted)

pub refused_comes_not : {A : Type 0} (version : ℕ) (s : Spot) (bytes : List ℕ) (p : Parts) (r : Result A HistoryLineError) → IsLine p → line_text p ≡ bytes ++ 10 ∷ [] → IfErr r (MayNotComeNext s p) → IfErr r (IsNoNextLine version s bytes)
refused_comes_not version s bytes p (Ok x) line same h = tt
refused_comes_not version s bytes p (Err e) line same h = line_comes_not version s bytes p e line same h

-- ---- a line that is taken word by word

pub takes_line : (old new : Checker) (bytes key : List ℕ) (words rest : List (List ℕ)) (s : LineStep) (ts : List Wait) (r : Result Unit HistoryLineError) → slice_split (λ b. eqb b 32) bytes ≡ key ∷ words → step_at words ≡ Some (s, rest) → lets_in_words rest ≡ Some ts
    → IfOk r (λ _. TakesParts old (parts_with key s ts) new) → IfOk r (λ _. TakesOneLine old bytes new)
takes_line old new bytes key words rest s ts (Ok u) split step lets h =
    let p = with_parts bytes key words rest s ts split step lets h.key in
    record {
      next = record { parts = parts_with key s ts; line = p.0; of_version = h.of_version; is_text = p.1; follows = h.follows; leads = h.leads };
      version = h.version;
      steps = h.steps;
      keys = h.keys;
      first = h.first;
    }
takes_line old new bytes key words rest s ts (Err e) split step lets h = tt

pub refuses_line : (version : ℕ) (at : Spot) (bytes key : List ℕ) (words rest : List (List ℕ)) (s : LineStep) (ts : List Wait) (r : Result Unit HistoryLineError) → slice_split (λ b. eqb b 32) bytes ≡ key ∷ words → step_at words ≡ Some (s, rest) → lets_in_words rest ≡ Some ts
    → IfErr r (λ e. IsFaultyParts version at (parts_with key s ts) e) → IfErr r (λ e. IsFaultyLine version at bytes e)
refuses_line version at bytes key words rest s ts (Ok u) split step lets h = tt
refuses_line version at bytes key words rest s ts (Err e) split step lets h = elim h [
  | inl a ↦ inl (elim a [
    | inl none ↦ without_key version bytes key words e split none
    | inr other ↦ subst (λ x. IsShapelessIn version x bytes) (sym other.0) (with_other_parts version bytes key words rest s ts split step lets other.1)
  ])
  | inr b ↦ let p = with_parts bytes key words rest s ts split step lets b.0 in inr (parts_with key s ts, p.0, b.1, p.1, b.2)
]

-- ---- a line that is taken after it was read

same_parts : (p : Parts) (key : List ℕ) (ts : List Wait) → key ≡ p.key → ts ≡ p.tickets → parts_with key p.step ts ≡ p
same_parts p key ts k t = rw (k, t) refl

pub takes_read : (old new : Checker) (bytes : List ℕ) (p : Parts) (key : List ℕ) (ts : List Wait) → key ≡ p.key → ts ≡ p.tickets → IsLine p → line_text p ≡ bytes ++ 10 ∷ [] → TakesParts old (parts_with key p.step ts) new → TakesOneLine old bytes new
takes_read old new bytes p key ts k t line text taken =
    let h : TakesParts old p new = subst (λ (q : Parts). TakesParts old q new) (same_parts p key ts k t) taken in
    record {
      next = record { parts = p; line = line; of_version = h.of_version; is_text = text; follows = h.follows; leads = h.leads };
      version = h.version;
      steps = h.steps;
      keys = h.keys;
      first = h.first;
    }

refuses_parts : (version : ℕ) (at : Spot) (bytes : List ℕ) (p : Parts) (e : HistoryLineError) → IsLine p → line_text p ≡ bytes ++ 10 ∷ [] → IsFaultyParts version at p e → IsFaultyLine version at bytes e
refuses_parts version at bytes p e line text h = elim h [
  | inl a ↦ inl (elim a [
    | inl none ↦ without_key version bytes p.key (step_words p.step ++ lets_words p.tickets) e (words_are bytes p line text) none
    | inr other ↦ subst (λ x. IsShapelessIn version x bytes) (sym other.0) (of_other_version version bytes p line text other.1)
  ])
  | inr b ↦ inr (p, line, b.1, text, b.2)
]

pub refuses_read : (version : ℕ) (at : Spot) (bytes : List ℕ) (p : Parts) (key : List ℕ) (ts : List Wait) (e : HistoryLineError) → key ≡ p.key → ts ≡ p.tickets → IsLine p → line_text p ≡ bytes ++ 10 ∷ [] → IsFaultyParts version at (parts_with key p.step ts) e → IsFaultyLine version at bytes e
refuses_read version at bytes p key ts e k t line text h =
    refuses_parts version at bytes p e line text (subst (λ (q : Parts). IsFaultyParts version at q e) (same_parts p key ts k t) h)
