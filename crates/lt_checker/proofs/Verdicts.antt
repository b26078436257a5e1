-- A text has one verdict.
use Rattle.std.proofs.Common.{◌≡◌, ◌↔◌, ℕ, ◌+◌, ◌<◌, ◌^◌, ◌⊎◌, Bool, true, false, not, ◌&&◌, cond, map, drop, List, [], ◌∷◌, ◌++◌, length, Result, Ok, Err, refl, sym, ap, subst, ◌∙◌, inl, inr, append_assoc, arith}
use Rattle.std.specs.Prelude.{slice_set}
use Rattle.std.specs.List.{flat_map, AllByRecursion}
use Rattle.std.proofs.Math.ListN.{get_or}
use Rattle.std.proofs.lemmas.List.{append_cancel_left, length-append}
use Rattle.lt_checker.specs.declared.checker.Report.{Report}
use Rattle.lt_checker.specs.declared.checker.CheckError.{CheckError}
use Rattle.lt_checker.specs.declared.checker.CheckError.TheVariants as errors
use Rattle.lt_checker.specs.declared.error.Fault.{Fault}
use Rattle.lt_checker.specs.declared.error.Fault.TheVariants.{Header, Shape, KeyOrder, Index, WrongReply, WrongLets}
use Rattle.lt_checker.specs.Lines.{Parts, IsLine, line_text}
use Rattle.lt_checker.specs.Text.{Spot, IsOf, start, text_by, spot_after, spot_from, IsWrong, AreLegalFrom, key_count, HasFault, FailsAt, Fails}
use Rattle.lt_checker.specs.Version.{IsVersion, IsLegalOf, header_of, is_first, is_too_long_reply}
use Rattle.lt_entry.specs.declared.entry.Entry.{Entry}
use Rattle.lt_checker.specs.First as first
use Rattle.lt_rules.specs.Step.{IsLegal}
use Rattle.lt_checker.proofs.First.{first_rules_hold}
use Rattle.std.specs.Str.{bytes_eq}
use Rattle.std.proofs.lemmas.Bool.Decides.{nat_tests}
use Rattle.lt_checker.specs.Histories.{AreLegalKeysBy, IsEntryOf, lines_from, lines_of}
use Rattle.lt_entry.specs.Legal.{AreLegalKeys, event_of, key_part}
use Rattle.lt_checker.specs.Verdict.{IsLegalText, IsReported, Judges, Says, IsOrMemory, upgraded, of_latest}
use Rattle.lt_checker.proofs.LineLaws.{one_line, no_empty_line}
use Rattle.lt_checker.proofs.Loop.{IsSpoiled, spoiled, room_of}
use Rattle.lt_checker.proofs.Grouped.{sorted_keys}
use Rattle.lt_checker.proofs.Legal.{lines_legal}
use Rattle.lt_checker.proofs.Counts.{counted, sized}
use Rattle.lt_checker.proofs.Steps.{entries_from, as_many, entries_rise, entries_in_range, lines_again, entries_legal}

-- ---- a text has one list of lines

same_lines : (s : Spot) (ps qs : List Parts) → AreLegalFrom s ps → AreLegalFrom s qs → flat_map line_text ps ≡ flat_map line_text qs → ps ≡ qs
same_lines s [] [] hp hq e = refl
same_lines s [] (q ∷ qs) hp hq e = absurd (no_empty_line q (flat_map line_text qs) e)
same_lines s (p ∷ ps) [] hp hq e = absurd (no_empty_line p (flat_map line_text ps) (sym e))
same_lines s (p ∷ ps) (q ∷ qs) hp hq e =
    let same = one_line p q (flat_map line_text ps) (flat_map line_text qs) hp.0 hq.0 e in
    let more = same_lines (spot_after s q) ps qs (subst (λ (x : Parts). AreLegalFrom (spot_after s x) ps) same.0 hp.2) hq.2 same.1 in
    ap (λ (x : Parts). x ∷ ps) same.0 ∙ ap (λ (xs : List Parts). q ∷ xs) more

-- ---- and one prefix before the first fault

same_prefix : (version : ℕ) (s : Spot) (ps qs : List Parts) (x y : List ℕ) → AreLegalFrom s ps → AllByRecursion (IsOf version) ps → AreLegalFrom s qs → AllByRecursion (IsOf version) qs → flat_map line_text ps ++ x ≡ flat_map line_text qs ++ y
    → IsSpoiled version (spot_from s ps) x → IsSpoiled version (spot_from s qs) y → (ps ≡ qs) × (x ≡ y)
same_prefix version s [] [] x y hp op hq oq e f g = (refl, e)
same_prefix version s [] (q ∷ qs) x y hp op hq oq e f g = absurd (f.none_follows q (flat_map line_text qs ++ y) hq.0 oq.0 (e ∙ append_assoc (line_text q) (flat_map line_text qs) y) hq.1)
same_prefix version s (p ∷ ps) [] x y hp op hq oq e f g = absurd (g.none_follows p (flat_map line_text ps ++ x) hp.0 op.0 (sym e ∙ append_assoc (line_text p) (flat_map line_text ps) x) hp.1)
same_prefix version s (p ∷ ps) (q ∷ qs) x y hp op hq oq e f g =
    let same = one_line p q (flat_map line_text ps ++ x) (flat_map line_text qs ++ y) hp.0 hq.0 (sym (append_assoc (line_text p) (flat_map line_text ps) x) ∙ (e ∙ append_assoc (line_text q) (flat_map line_text qs) y)) in
    let more = same_prefix version (spot_after s q) ps qs x y (subst (λ (z : Parts). AreLegalFrom (spot_after s z) ps) same.0 hp.2) op.1 hq.2 oq.1 same.1 (subst (λ (z : Parts). IsSpoiled version (spot_from (spot_after s z) ps) x) same.0 f) g in
    (ap (λ (z : Parts). z ∷ ps) same.0 ∙ ap (λ (zs : List Parts). q ∷ zs) more.0, more.1)

unspoiled : (version : ℕ) (s : Spot) (ps before : List Parts) (rest : List ℕ) → AreLegalFrom s ps → AllByRecursion (IsOf version) ps → AreLegalFrom s before → flat_map line_text ps ≡ flat_map line_text before ++ rest → IsSpoiled version (spot_from s before) rest → ⊥
unspoiled version s [] [] rest hp op hb e f = f.some (sym e)
unspoiled version s (p ∷ ps) [] rest hp op hb e f = f.none_follows p (flat_map line_text ps) hp.0 op.0 (sym e) hp.1
unspoiled version s [] (b ∷ bs) rest hp op hb e f = no_empty_line b (flat_map line_text bs ++ rest) (e ∙ append_assoc (line_text b) (flat_map line_text bs) rest)
unspoiled version s (p ∷ ps) (b ∷ bs) rest hp op hb e f =
    let same = one_line p b (flat_map line_text ps) (flat_map line_text bs ++ rest) hp.0 hb.0 (e ∙ append_assoc (line_text b) (flat_map line_text bs) rest) in
    unspoiled version (spot_after s b) ps bs rest (subst (λ (x : Parts). AreLegalFrom (spot_after s x) ps) same.0 hp.2) op.1 hb.2 same.1 f

-- ---- a line has one first fault

one_wrong : (s : Spot) (p : Parts) (f g : Fault) → IsWrong s p f → IsWrong s p g → f ≡ g
one_wrong s p KeyOrder KeyOrder v w = refl
one_wrong s p KeyOrder Index v w = absurd (v w.0)
one_wrong s p KeyOrder WrongReply v w = absurd (v w.0)
one_wrong s p KeyOrder WrongLets v w = absurd (v w.0)
one_wrong s p KeyOrder Header v w = absurd w
one_wrong s p KeyOrder Shape v w = absurd w
one_wrong s p Index KeyOrder v w = absurd (w v.0)
one_wrong s p Index Index v w = refl
one_wrong s p Index WrongReply v w = absurd (v.1 w.1)
one_wrong s p Index WrongLets v w = absurd (v.1 w.1)
one_wrong s p Index Header v w = absurd w
one_wrong s p Index Shape v w = absurd w
one_wrong s p WrongReply KeyOrder v w = absurd (w v.0)
one_wrong s p WrongReply Index v w = absurd (w.1 v.1)
one_wrong s p WrongReply WrongReply v w = refl
one_wrong s p WrongReply WrongLets v w = absurd (v.2 w.2)
one_wrong s p WrongReply Header v w = absurd w
one_wrong s p WrongReply Shape v w = absurd w
one_wrong s p WrongLets KeyOrder v w = absurd (w v.0)
one_wrong s p WrongLets Index v w = absurd (w.1 v.1)
one_wrong s p WrongLets WrongReply v w = absurd (w.2 v.2)
one_wrong s p WrongLets WrongLets v w = refl
one_wrong s p WrongLets Header v w = absurd w
one_wrong s p WrongLets Shape v w = absurd w
one_wrong s p Header g v w = absurd v
one_wrong s p Shape g v w = absurd v

-- The two cases of a fault: no line of the version is a prefix of the rest, or one is.
abbrev IsNoLine : ℕ → List ℕ → Type 0
IsNoLine version rest = (p : Parts) (more : List ℕ) → IsLine p → IsOf version p → rest ≡ line_text p ++ more → ⊥

record IsOfLine (version : ℕ) (s : Spot) (rest : List ℕ) (fault : Fault) : Type 0 where
  parts : Parts
  more : List ℕ
  line : IsLine parts
  of_version : IsOf version parts
  joined : rest ≡ line_text parts ++ more
  wrong : IsWrong s parts fault

seen : (version : ℕ) (s : Spot) (rest : List ℕ) (fault : Fault) → HasFault version s rest fault → ((fault ≡ Shape) × IsNoLine version rest) ⊎ IsOfLine version s rest fault
seen version s rest Header f = absurd f
seen version s rest Shape f = inl (refl, f.1)
seen version s rest KeyOrder f = inr (record { parts = f.0; more = f.1; line = f.2; of_version = f.3; joined = f.4; wrong = f.5 })
seen version s rest Index f = inr (record { parts = f.0; more = f.1; line = f.2; of_version = f.3; joined = f.4; wrong = f.5 })
seen version s rest WrongReply f = inr (record { parts = f.0; more = f.1; line = f.2; of_version = f.3; joined = f.4; wrong = f.5 })
seen version s rest WrongLets f = inr (record { parts = f.0; more = f.1; line = f.2; of_version = f.3; joined = f.4; wrong = f.5 })

one_of_line : (version : ℕ) (s : Spot) (rest : List ℕ) (f g : Fault) → IsOfLine version s rest f → IsOfLine version s rest g → f ≡ g
one_of_line version s rest f g v w =
    let same = one_line v.parts w.parts v.more w.more v.line w.line (sym v.joined ∙ w.joined) in
    one_wrong s w.parts f g (subst (λ (p : Parts). IsWrong s p f) same.0 v.wrong) w.wrong

one_fault : (version : ℕ) (s : Spot) (rest : List ℕ) (f g : Fault) → HasFault version s rest f → HasFault version s rest g → f ≡ g
one_fault version s rest f g v w =
    elim (seen version s rest f v) [
      | inl a ↦ elim (seen version s rest g w) [ inl b ↦ a.0 ∙ sym b.0 | inr b ↦ absurd (a.1 b.parts b.more b.line b.of_version b.joined) ]
      | inr a ↦ elim (seen version s rest g w) [ inl b ↦ absurd (b.1 a.parts a.more a.line a.of_version a.joined) | inr b ↦ one_of_line version s rest f g a b ]
    ]

-- ---- whole texts

after_header : (version : ℕ) (text : List ℕ) (ps : List Parts) (rest : List ℕ) → text ≡ text_by version ps ++ rest → text ≡ header_of version ++ (flat_map line_text ps ++ rest)
after_header version text ps rest e = e ∙ append_assoc (header_of version) (flat_map line_text ps) rest

-- A text has one version.
first_or_second : (xs ys : List ℕ) → header_of 1 ++ xs ≡ header_of 2 ++ ys → ⊥
first_or_second xs ys e = absurd (omega (arith, ap (λ (t : List ℕ). get_or t 6 0) e))

one_version : (v w : ℕ) (xs ys : List ℕ) → IsVersion v → IsVersion w → header_of v ++ xs ≡ header_of w ++ ys → v ≡ w
one_version v w xs ys (inl a) (inl b) e = a ∙ sym b
one_version v w xs ys (inl a) (inr b) e = absurd (first_or_second xs ys (subst (λ (n : ℕ). header_of 1 ++ xs ≡ header_of n ++ ys) b (subst (λ (n : ℕ). header_of n ++ xs ≡ header_of w ++ ys) a e)))
one_version v w xs ys (inr a) (inl b) e = absurd (first_or_second ys xs (sym (subst (λ (n : ℕ). header_of 2 ++ xs ≡ header_of n ++ ys) b (subst (λ (n : ℕ). header_of n ++ xs ≡ header_of w ++ ys) a e))))
one_version v w xs ys (inr a) (inr b) e = a ∙ sym b

-- The lines before a fault and the rest of the text, if the version is known.
record Before (version : ℕ) (text : List ℕ) (line : ℕ) (fault : Fault) : Type 0 where
  before : List Parts
  rest : List ℕ
  legal : AreLegalFrom start before
  of_version : AllByRecursion (IsOf version) before
  joined : text ≡ text_by version before ++ rest
  number : line ≡ length before + 2
  faulty : HasFault version (spot_from start before) rest fault

before_of : (version : ℕ) (text : List ℕ) (line : ℕ) (fault : Fault) (f : FailsAt text line fault) → f.version ≡ version → Before version text line fault
before_of version text line fault f e = subst (λ (v : ℕ). Before v text line fault) e (record { before = f.before; rest = f.rest; legal = f.legal; of_version = f.of_version; joined = f.joined; number = f.number; faulty = f.faulty })

same_cursor : (version : ℕ) (text : List ℕ) (line line' : ℕ) (f g : Fault) → Before version text line f → Before version text line' g → (line ≡ line') × (f ≡ g)
same_cursor version text line line' f g v w =
    let prefixes = append_cancel_left (header_of version) (flat_map line_text v.before ++ v.rest) (flat_map line_text w.before ++ w.rest) (sym (after_header version text v.before v.rest v.joined) ∙ after_header version text w.before w.rest w.joined) in
    let same = same_prefix version start v.before w.before v.rest w.rest v.legal v.of_version w.legal w.of_version prefixes (spoiled version (spot_from start v.before) v.rest f v.faulty) (spoiled version (spot_from start w.before) w.rest g w.faulty) in (
      v.number ∙ (ap (λ (ps : List Parts). length ps + 2) same.0 ∙ sym w.number),
      one_fault version (spot_from start w.before) w.rest f g (subst (λ (ps : List Parts). HasFault version (spot_from start ps) w.rest f) same.0 (subst (λ (r : List ℕ). HasFault version (spot_from start v.before) r f) same.1 v.faulty)) w.faulty,
    )

one_cursor : (text : List ℕ) (line line' : ℕ) (f g : Fault) → FailsAt text line f → FailsAt text line' g → (line ≡ line') × (f ≡ g)
one_cursor text line line' f g v w =
    let version = one_version w.version v.version (flat_map line_text w.before ++ w.rest) (flat_map line_text v.before ++ v.rest) w.is_version v.is_version (sym (after_header w.version text w.before w.rest w.joined) ∙ after_header v.version text v.before v.rest v.joined) in
    same_cursor v.version text line line' f g (before_of v.version text line f v refl) (before_of v.version text line' g w version)

-- The first line is faulty, or a later one is.
record IsHeaderless (text : List ℕ) (line : ℕ) (fault : Fault) : Type 0 where
  is : fault ≡ Header
  first : line ≡ 1
  none : (version : ℕ) (more : List ℕ) → IsVersion version → text ≡ header_of version ++ more → ⊥

placed : (text : List ℕ) (line : ℕ) (fault : Fault) → Fails text line fault → IsHeaderless text line fault ⊎ FailsAt text line fault
placed text line Header f = inl (record { is = refl; first = f.0; none = f.1 })
placed text line Shape f = inr f
placed text line KeyOrder f = inr f
placed text line Index f = inr f
placed text line WrongReply f = inr f
placed text line WrongLets f = inr f

refused_same : (line line' : ℕ) (f g : Fault) → line ≡ line' → f ≡ g → errors.Refused line f ≡ errors.Refused line' g
refused_same line line' f g e h = ap (λ n. errors.Refused n f) e ∙ ap (λ x. errors.Refused line' x) h

one_failure : (text : List ℕ) (line line' : ℕ) (f g : Fault) → Fails text line f → Fails text line' g → errors.Refused line f ≡ errors.Refused line' g
one_failure text line line' f g v w =
    elim (placed text line f v) [
      | inl a ↦ elim (placed text line' g w) [
        | inl b ↦ refused_same line line' f g (a.first ∙ sym b.first) (a.is ∙ sym b.is)
        | inr b ↦ absurd (a.none b.version (flat_map line_text b.before ++ b.rest) b.is_version (after_header b.version text b.before b.rest b.joined))
      ]
      | inr a ↦ elim (placed text line' g w) [
        | inl b ↦ absurd (b.none a.version (flat_map line_text a.before ++ a.rest) a.is_version (after_header a.version text a.before a.rest a.joined))
        | inr b ↦ let same = one_cursor text line line' f g a b in refused_same line line' f g same.0 same.1
      ]
    ]

no_later : (version : ℕ) (text : List ℕ) (line : ℕ) (fault : Fault) (lines : List Parts) → AreLegalFrom start lines → AllByRecursion (IsOf version) lines → text ≡ text_by version lines → Before version text line fault → ⊥
no_later version text line fault lines legal old joined a =
    unspoiled version start lines a.before a.rest legal old a.legal (append_cancel_left (header_of version) (flat_map line_text lines) (flat_map line_text a.before ++ a.rest) (sym joined ∙ after_header version text a.before a.rest a.joined))
    (spoiled version (spot_from start a.before) a.rest fault a.faulty)

no_failure : (text : List ℕ) (line : ℕ) (fault : Fault) (report : Report) → IsReported text report → Fails text line fault → ⊥
no_failure text line fault report h f =
    elim (placed text line fault f) [
      | inl a ↦ a.none report.version (flat_map line_text h.lines) h.is_version h.joined
      | inr a ↦ no_later report.version text line fault h.lines h.legal h.of_version h.joined
          (before_of report.version text line fault a (one_version a.version report.version (flat_map line_text a.before ++ a.rest) (flat_map line_text h.lines) a.is_version h.is_version (sym (after_header a.version text a.before a.rest a.joined) ∙ h.joined)))
    ]

one_report : (text : List ℕ) (a b : Report) → IsReported text a → IsReported text b → a ≡ b
one_report text a b v w =
    let version = one_version a.version b.version (flat_map line_text v.lines) (flat_map line_text w.lines) v.is_version w.is_version (sym v.joined ∙ w.joined) in
    let prefixes = append_cancel_left (header_of b.version) (flat_map line_text v.lines) (flat_map line_text w.lines) (ap (λ (n : ℕ). header_of n ++ flat_map line_text v.lines) (sym version) ∙ (sym v.joined ∙ w.joined)) in
    let same = same_lines start v.lines w.lines v.legal w.legal prefixes in
    let of_version : ℕ → Report = λ n. record { version = n; keys = a.keys; steps = a.steps } in
    let of_keys : ℕ → Report = λ n. record { version = b.version; keys = n; steps = a.steps } in
    let of_steps : ℕ → Report = λ n. record { version = b.version; keys = b.keys; steps = n } in
    ap of_version version ∙ (ap of_keys (v.keys ∙ (ap key_count same ∙ sym w.keys)) ∙ ap of_steps (v.steps ∙ (ap length same ∙ sym w.steps)))

-- ---- lines and entries

-- An entry can occur in a text of the version exactly if its line can.
entries_of_version : (version : ℕ) (s : Spot) (ps : List Parts) → AllByRecursion (IsOf version) ps → AllByRecursion (IsEntryOf version) (entries_from s ps)
entries_of_version version s [] h = tt
entries_of_version version s (p ∷ ps) h = (h.0, entries_of_version version (spot_after s p) ps h.1)

run_of_version : (version index : ℕ) (es : List Entry) → AllByRecursion (IsEntryOf version) es → AllByRecursion (IsOf version) (lines_from index es)
run_of_version version index [] h = tt
run_of_version version index (e ∷ es) h = (h.0, run_of_version version (index + 1) es h.1)

part_of_version : (version : ℕ) (key : List ℕ) (es : List Entry) → AllByRecursion (IsEntryOf version) es → AllByRecursion (IsEntryOf version) (key_part key es)
part_of_version version key [] h = tt
part_of_version version key (e ∷ es) h = elim (bytes_eq e.key key) as (λ b. AllByRecursion (IsEntryOf version) (cond b (e ∷ key_part key es) (key_part key es))) [
  | true ↦ (h.0, part_of_version version key es h.1)
  | false ↦ part_of_version version key es h.1
]

pub all_append : {X : Type 0} (P : X → Type 0) (xs ys : List X) → AllByRecursion P xs → AllByRecursion P ys → AllByRecursion P (xs ++ ys)
all_append P [] ys a b = b
all_append P (x ∷ xs) ys a b = (a.0, all_append P xs ys a.1 b)

lines_of_version : (version : ℕ) (es : List Entry) (keys : List (List ℕ)) → AllByRecursion (IsEntryOf version) es → AllByRecursion (IsOf version) (lines_of es keys)
lines_of_version version es [] h = tt
lines_of_version version es (key ∷ keys) h = all_append (IsOf version) (lines_from 1 (key_part key es)) (lines_of es keys) (run_of_version version 1 (key_part key es) (part_of_version version key es h)) (lines_of_version version es keys h)

-- ---- the rules of the first version

calls_of_first : (run : List Entry) → AllByRecursion (IsEntryOf 1) run → AllByRecursion (λ e. first.is_of_first e.call ≡ true) (map event_of run)
calls_of_first [] h = tt
calls_of_first (e ∷ es) h = (prefix_true (first.is_of_first e.call) (not (is_too_long_reply e.reply)) h.0, calls_of_first es h.1)
  where
    prefix_true : (a b : Bool) → (a && b) ≡ true → a ≡ true
    prefix_true true b e = refl
    prefix_true false b e = e

legal_in : (version : ℕ) (b : Bool) → is_first version ≡ b → (key : List ℕ) (es : List Entry) → AllByRecursion (IsEntryOf version) es → IsLegal (map event_of (key_part key es)) ↔ IsLegalOf b (map event_of (key_part key es))
legal_in version false e key es h = (λ l. l, λ l. l)
legal_in version true e key es h =
    let one : version ≡ 1 = grind (arith, nat_tests) in
    first_rules_hold (map event_of (key_part key es)) (calls_of_first (key_part key es) (part_of_version 1 key es (subst (λ (v : ℕ). AllByRecursion (IsEntryOf v) es) one h)))

legal_by : (version : ℕ) (es : List Entry) → AllByRecursion (IsEntryOf version) es → AreLegalKeys es → AreLegalKeysBy version es
legal_by version es h l key = (legal_in version (is_first version) refl key es h).0 (l key)

legal_now : (version : ℕ) (es : List Entry) → AllByRecursion (IsEntryOf version) es → AreLegalKeysBy version es → AreLegalKeys es
legal_now version es h l key = (legal_in version (is_first version) refl key es h).1 (l key)

is_legal : (text : List ℕ) (report : Report) → IsReported text report → IsLegalText text report
is_legal text report h =
    let es = entries_from start h.lines in
    let k = sorted_keys es (entries_rise start h.lines h.legal) in
    let lines : lines_of es k.0 ≡ h.lines = sym k.2 ∙ lines_again start h.lines h.legal in
    record {
      is_version = h.is_version;
      entries = es;
      in_range = entries_in_range start h.lines h.legal;
      of_version = entries_of_version report.version start h.lines h.of_version;
      legal = legal_by report.version es (entries_of_version report.version start h.lines h.of_version) (entries_legal h.lines h.legal);
      is_text = record { keys = k.0; are_keys = k.1; lines = h.joined ∙ ap (text_by report.version) (sym lines) };
      keys = h.keys ∙ (ap key_count (sym lines) ∙ counted es k.0 (λ key c. (k.1.each key).0 c));
      steps = h.steps ∙ sym (as_many start h.lines);
    }

is_reported : (text : List ℕ) (report : Report) → length text < 2 ^ 64 → IsLegalText text report → IsReported text report
is_reported text report room h =
    let keys = h.is_text.keys in
    let lines = lines_of h.entries keys in
    let size = sized h.entries keys h.is_text.are_keys in
    let fits : length h.entries < 2 ^ 64 = omega (arith, room_of lines, ap length h.is_text.lines, length-append (header_of report.version) (flat_map line_text lines)) in
    record {
      is_version = h.is_version;
      lines = lines;
      legal = lines_legal h.entries keys h.in_range (legal_now report.version h.entries h.of_version h.legal) fits h.is_text.are_keys;
      of_version = lines_of_version report.version h.entries keys h.of_version;
      joined = h.is_text.lines;
      steps = h.steps ∙ sym size;
      keys = h.keys ∙ sym (counted h.entries keys (λ key c. (h.is_text.are_keys.each key).0 c));
    }

-- ---- the verdict of the check

pub is_said : (text : List ℕ) (r : Result Report CheckError) → Judges text r → Says text r
is_said text (Ok report) h = is_legal text report h
is_said text (Err errors.Memory) h = h
is_said text (Err (errors.Refused line fault)) h = h

pub legal_is_said : (text : List ℕ) (r : Result Report CheckError) → length text < 2 ^ 64 → Judges text r → (report : Report) → IsLegalText text report → IsOrMemory r (Ok report)
legal_is_said text (Ok said) room h report legal = inl (ap (λ x. Ok x) (one_report text said report h (is_reported text report room legal)))
legal_is_said text (Err errors.Memory) room h report legal = inr refl
legal_is_said text (Err (errors.Refused line fault)) room h report legal = absurd (no_failure text line fault report (is_reported text report room legal) h)

pub fault_is_said : (text : List ℕ) (r : Result Report CheckError) → Judges text r → (line : ℕ) (fault : Fault) → Fails text line fault → IsOrMemory r (Err (errors.Refused line fault))
fault_is_said text (Ok report) h line fault f = absurd (no_failure text line fault report h f)
fault_is_said text (Err errors.Memory) h line fault f = inr refl
fault_is_said text (Err (errors.Refused line' fault')) h line fault f = inl (ap (λ x. Err x) (one_failure text line' line fault' fault h f))

-- ---- an upgraded text

eight : (version : ℕ) (rest : List ℕ) → IsVersion version → drop 8 (header_of version ++ rest) ≡ rest
eight version rest (inl e) = subst (λ (v : ℕ). drop 8 (header_of v ++ rest) ≡ rest) (sym e) refl
eight version rest (inr e) = subst (λ (v : ℕ). drop 8 (header_of v ++ rest) ≡ rest) (sym e) refl

upgraded_is : (version : ℕ) (text : List ℕ) (ps : List Parts) → IsVersion version → text ≡ text_by version ps → upgraded text ≡ text_by 2 ps
upgraded_is version text ps is e = ap (λ (t : List ℕ). header_of 2 ++ drop 8 t) e ∙ ap (λ (t : List ℕ). header_of 2 ++ t) (eight version (flat_map line_text ps) is)

seventh : (version : ℕ) (rest : List ℕ) → IsVersion version → slice_set (header_of version ++ rest) 6 50 ≡ header_of 2 ++ rest
seventh version rest (inl e) = subst (λ (v : ℕ). slice_set (header_of v ++ rest) 6 50 ≡ header_of 2 ++ rest) (sym e) refl
seventh version rest (inr e) = subst (λ (v : ℕ). slice_set (header_of v ++ rest) 6 50 ≡ header_of 2 ++ rest) (sym e) refl

-- Only the seventh byte changes.
pub set_is_upgraded : (text : List ℕ) (report : Report) → IsLegalText text report → slice_set text 6 50 ≡ upgraded text
set_is_upgraded text report h =
    let lines = flat_map line_text (lines_of h.entries h.is_text.keys) in
    ap (λ (t : List ℕ). slice_set t 6 50) h.is_text.lines ∙ (seventh report.version lines h.is_version ∙ sym (upgraded_is report.version text (lines_of h.entries h.is_text.keys) h.is_version h.is_text.lines))

-- Every call and every reply can occur in a text of the second version.
pub all_of_latest : (es : List Entry) → AllByRecursion (IsEntryOf 2) es
all_of_latest [] = tt
all_of_latest (e ∷ es) = (refl, all_of_latest es)

pub upgraded_legal : (text : List ℕ) (report : Report) → IsLegalText text report → IsLegalText (upgraded text) (of_latest report)
upgraded_legal text report h = record {
  is_version = inr refl;
  entries = h.entries;
  in_range = h.in_range;
  of_version = all_of_latest h.entries;
  legal = legal_now report.version h.entries h.of_version h.legal;
  is_text = record { keys = h.is_text.keys; are_keys = h.is_text.are_keys; lines = upgraded_is report.version text (lines_of h.entries h.is_text.keys) h.is_version h.is_text.lines };
  keys = h.keys;
  steps = h.steps;
}
