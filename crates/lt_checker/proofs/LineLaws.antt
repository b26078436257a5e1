-- What is read is a line, and the bytes are its text. Reading the text of a line gives that line.
use Rattle.std.proofs.Common.{◌≡◌, ◌≢◌, ℕ, ◌<◌, List, [], ◌∷◌, ◌++◌, false, length, Option, Some, None, Result, Ok, Err, eqb, refl, sym, ap, subst, ◌∙◌, append_assoc, arith}
use Rattle.std.specs.Prelude.{IfOk, IfErr}
use Rattle.std.specs.List.{slice_split, join_with_byte, All, position_or_len, before_first, after_first}
use Rattle.std.proofs.lemmas.Option.{some_pair_parts, cond_some}
use Rattle.std.proofs.lemmas.List.{append_cancel_right, length-append, length-take, get_or-take}
use Rattle.std.proofs.lemmas.List.Sums.{fails_before_first}
use Rattle.std.proofs.lemmas.List.Splits.{join_with_byte-slice_split}
use Rattle.lt_checker.specs.declared.error.Fault.TheVariants.{Header, Shape, KeyOrder, Index, WrongReply, WrongLets}
use Rattle.lt_checker.specs.declared.error.HistoryLineError.{HistoryLineError}
use Rattle.lt_checker.specs.declared.error.HistoryLineError.TheVariants as refusals
use Rattle.lt_checker.specs.declared.line.Line.{Line}
use Rattle.lt_text.specs.Words.{cut_of}
use Rattle.lt_ids.specs.Key.{IsKey}
use Rattle.lt_ids.specs.Ids.{Wait}
use Rattle.lt_checker.specs.declared.line.LineStep.{LineStep}
use Rattle.lt_checker.specs.Lines.{Parts, IsLine, line_words, line_text, parts_at, parts_of, parts_with, key_if_legal, step_at, lets_in_words, IsMisread, IsReadAs, IsNoKey, IsShapeless}
use Rattle.lt_checker.specs.Text.{Spot, IsOf, IsShapelessIn, IsWrongOr, HasFault, HasFaultOr}
use Rattle.lt_text.proofs.Plain.{cut_again, cut_takes, split_join, no_line_end}
use Rattle.lt_checker.proofs.PartsLaws.{key_takes, parts_takes, parts_again, parts_plain, parts_at_words, no_key_no_parts, no_step_no_parts, no_lets_no_parts, no_words_no_parts}

text_is : (bytes : List ℕ) (p : Parts) → slice_split (λ b. eqb b 32) bytes ≡ line_words p → line_text p ≡ bytes ++ 10 ∷ []
unfolding line_text
text_is bytes p e =
    ap (λ (ws : List (List ℕ)). join_with_byte 32 ws ++ 10 ∷ []) (sym e) ∙ ap (λ (t : List ℕ). t ++ 10 ∷ []) (join_with_byte-slice_split 32 bytes)

-- ---- what reading a line says

pub read_is_line : (bytes : List ℕ) (r : Result Line HistoryLineError) → IsReadAs parts_of r (parts_at (slice_split (λ b. eqb b 32) bytes)) → IfOk r (λ l. IsLine (parts_of l))
read_is_line bytes (Ok l) h = (parts_takes (slice_split (λ b. eqb b 32) bytes) (parts_of l) h).1
read_is_line bytes (Err e) h = tt

pub read_is_text : (bytes : List ℕ) (r : Result Line HistoryLineError) → IsReadAs parts_of r (parts_at (slice_split (λ b. eqb b 32) bytes)) → IfOk r (λ l. line_text (parts_of l) ≡ bytes ++ 10 ∷ [])
read_is_text bytes (Ok l) h = text_is bytes (parts_of l) (parts_takes (slice_split (λ b. eqb b 32) bytes) (parts_of l) h).0
read_is_text bytes (Err e) h = tt

-- The words of a line are the words of its text.
same_prefix : (a b : List ℕ) → a ++ 10 ∷ [] ≡ b ++ 10 ∷ [] → a ≡ b
same_prefix a b e = append_cancel_right a b (10 ∷ []) e

pub words_are : (bytes : List ℕ) (p : Parts) → IsLine p → line_text p ≡ bytes ++ 10 ∷ [] → slice_split (λ b. eqb b 32) bytes ≡ line_words p
unfolding line_text
words_are bytes p h e =
    ap (λ (t : List ℕ). slice_split (λ b. eqb b 32) t) (sym (same_prefix (join_with_byte 32 (line_words p)) bytes e)) ∙ split_join p.key _ (parts_plain p h)

no_value : (p : Parts) (o : Option Parts) → o ≡ Some p → o ≡ None → ⊥
no_value p o e f = absurd (let g : ◌≡◌ {A = Option Parts} (Some p) None = sym e ∙ f in cc)

pub unread : (bytes : List ℕ) (r : Result Line HistoryLineError) → IsReadAs parts_of r (parts_at (slice_split (λ b. eqb b 32) bytes)) → IfErr r (λ e. IsShapeless e bytes)
unread bytes (Ok l) h = tt
unread bytes (Err refusals.Memory) h = tt
unread bytes (Err (refusals.Fault Shape)) h = λ p line e. no_value p (parts_at (line_words p)) (parts_again p line) (ap parts_at (sym (words_are bytes p line e)) ∙ h)
unread bytes (Err (refusals.Fault Header)) h = h
unread bytes (Err (refusals.Fault KeyOrder)) h = h
unread bytes (Err (refusals.Fault Index)) h = h
unread bytes (Err (refusals.Fault WrongReply)) h = h
unread bytes (Err (refusals.Fault WrongLets)) h = h

-- ---- a line that is a prefix of a text

line_cut : (p : Parts) (more : List ℕ) → IsLine p → cut_of 10 (line_text p ++ more) ≡ Some (join_with_byte 32 (line_words p), more)
unfolding line_text
line_cut p more h =
    ap (λ (t : List ℕ). cut_of 10 t) (append_assoc (join_with_byte 32 (line_words p)) (10 ∷ []) more)
    ∙ cut_again 10 (join_with_byte 32 (line_words p)) more (no_line_end (line_words p) (parts_plain p h))

nonempty : (text : List ℕ) → 0 < length text → text ≢ []
nonempty [] lt = absurd (omega arith)
nonempty (b ∷ bs) lt = λ e. absurd cc

no_pair : (x : List ℕ × List ℕ) → ◌≡◌ {A = Option (List ℕ × List ℕ)} None (Some x) → ⊥
no_pair x e = absurd cc

pub uncut_is_shapeless : (version : ℕ) (s : Spot) (text : List ℕ) → 0 < length text → cut_of 10 text ≡ None → HasFault version s text Shape
uncut_is_shapeless version s text lt e = (nonempty text lt, λ p more line old same. no_pair (join_with_byte 32 (line_words p), more) (sym e ∙ (ap (λ (t : List ℕ). cut_of 10 t) same ∙ line_cut p more line)))

bytes_are : (text bytes rest : List ℕ) (p : Parts) (more : List ℕ) → IsLine p → cut_of 10 text ≡ Some (bytes, rest) → text ≡ line_text p ++ more → line_text p ≡ bytes ++ 10 ∷ []
unfolding line_text
bytes_are text bytes rest p more line cut same =
    let e = some_pair_parts (join_with_byte 32 (line_words p)) bytes more rest (sym (line_cut p more line) ∙ (ap (λ (t : List ℕ). cut_of 10 t) (sym same) ∙ cut)) in
    ap (λ (t : List ℕ). t ++ 10 ∷ []) e.0

pub shapeless : (version : ℕ) (s : Spot) (text bytes rest : List ℕ) (e : HistoryLineError) → 0 < length text → cut_of 10 text ≡ Some (bytes, rest) → IsShapelessIn version e bytes → HasFaultOr version s text e
shapeless version s text bytes rest refusals.Memory lt cut h = nonempty text lt
shapeless version s text bytes rest (refusals.Fault Shape) lt cut h = (nonempty text lt, λ p more line old same. h p line old (bytes_are text bytes rest p more line cut same))
shapeless version s text bytes rest (refusals.Fault Header) lt cut h = h
shapeless version s text bytes rest (refusals.Fault KeyOrder) lt cut h = absurd h
shapeless version s text bytes rest (refusals.Fault Index) lt cut h = absurd h
shapeless version s text bytes rest (refusals.Fault WrongReply) lt cut h = absurd h
shapeless version s text bytes rest (refusals.Fault WrongLets) lt cut h = absurd h

-- The bytes before the first line end have none, so the first line of a text stays the same whatever comes after it.
no_end_before : (text bytes rest : List ℕ) → cut_of 10 text ≡ Some (bytes, rest) → All (λ b. eqb b 10 ≡ false) bytes
no_end_before text bytes rest e =
    let p = cond_some _ (before_first (λ b. eqb b 10) text, after_first (λ b. eqb b 10) text) (bytes, rest) e in
    let n = position_or_len (λ b. eqb b 10) text in
    subst (λ (t : List ℕ). All (λ b. eqb b 10 ≡ false) t) (ap (λ (t : List ℕ × List ℕ). t.0) p.1)
    (λ k d lt. let low : k < n = omega (arith, length-take n text) in ap (λ (b : ℕ). eqb b 10) (get_or-take n text k d low) ∙ fails_before_first (λ b. eqb b 10) text k d low)

pub cut_more : (text bytes rest more : List ℕ) → cut_of 10 text ≡ Some (bytes, rest) → cut_of 10 (text ++ more) ≡ Some (bytes, rest ++ more)
cut_more text bytes rest more e =
    ap (λ (t : List ℕ). cut_of 10 (t ++ more)) (cut_takes 10 text bytes rest e)
    ∙ (ap (λ (t : List ℕ). cut_of 10 t) (append_assoc bytes (10 ∷ rest) more) ∙ cut_again 10 bytes (rest ++ more) (no_end_before text bytes rest e))

joined_prefix : (text bytes rest : List ℕ) (p : Parts) → cut_of 10 text ≡ Some (bytes, rest) → line_text p ≡ bytes ++ 10 ∷ [] → text ≡ line_text p ++ rest
joined_prefix text bytes rest p cut e =
    cut_takes 10 text bytes rest cut ∙ (sym (append_assoc bytes (10 ∷ []) rest) ∙ ap (λ (t : List ℕ). t ++ rest) (sym e))

pub wrong : (version : ℕ) (s : Spot) (text bytes rest : List ℕ) (p : Parts) (e : HistoryLineError) → 0 < length text → IsLine p → IsOf version p → cut_of 10 text ≡ Some (bytes, rest) → line_text p ≡ bytes ++ 10 ∷ [] → IsWrongOr s p e → HasFaultOr version s text e
wrong version s text bytes rest p refusals.Memory lt line old cut same h = nonempty text lt
wrong version s text bytes rest p (refusals.Fault Header) lt line old cut same h = h
wrong version s text bytes rest p (refusals.Fault Shape) lt line old cut same h = absurd h
wrong version s text bytes rest p (refusals.Fault KeyOrder) lt line old cut same h = (p, rest, line, old, joined_prefix text bytes rest p cut same, h)
wrong version s text bytes rest p (refusals.Fault Index) lt line old cut same h = (p, rest, line, old, joined_prefix text bytes rest p cut same, h)
wrong version s text bytes rest p (refusals.Fault WrongReply) lt line old cut same h = (p, rest, line, old, joined_prefix text bytes rest p cut same, h)
wrong version s text bytes rest p (refusals.Fault WrongLets) lt line old cut same h = (p, rest, line, old, joined_prefix text bytes rest p cut same, h)

-- ---- a text has one reading

same_Some : (p q : Parts) → ◌≡◌ {A = Option Parts} (Some p) (Some q) → p ≡ q
same_Some p q e = cc

pub one_line : (p q : Parts) (x y : List ℕ) → IsLine p → IsLine q → line_text p ++ x ≡ line_text q ++ y → (p ≡ q) × (x ≡ y)
one_line p q x y hp hq e =
    let cut = some_pair_parts (join_with_byte 32 (line_words p)) (join_with_byte 32 (line_words q)) x y (sym (line_cut p x hp) ∙ (ap (λ (t : List ℕ). cut_of 10 t) e ∙ line_cut q y hq)) in
    let words : line_words p ≡ line_words q =
    sym (split_join p.key _ (parts_plain p hp)) ∙ (ap (λ (t : List ℕ). slice_split (λ b. eqb b 32) t) cut.0 ∙ split_join q.key _ (parts_plain q hq)) in
    (same_Some p q (sym (parts_again p hp) ∙ (ap parts_at words ∙ parts_again q hq)), cut.1)

pub no_empty_line : (p : Parts) (more : List ℕ) → [] ≡ line_text p ++ more → ⊥
unfolding line_text
no_empty_line p more e = absurd (omega (arith, ap length e, length-append {A = ℕ}))

-- ---- a line and the versions

pub shapeless_in : (version : ℕ) (e : HistoryLineError) (bytes : List ℕ) → IsShapeless e bytes → IsShapelessIn version e bytes
shapeless_in version refusals.Memory bytes h = tt
shapeless_in version (refusals.Fault Shape) bytes h = λ p line old e. h p line e
shapeless_in version (refusals.Fault Header) bytes h = h
shapeless_in version (refusals.Fault KeyOrder) bytes h = h
shapeless_in version (refusals.Fault Index) bytes h = h
shapeless_in version (refusals.Fault WrongReply) bytes h = h
shapeless_in version (refusals.Fault WrongLets) bytes h = h

-- The text of a line that cannot occur in the version is not the text of a line that can.
pub of_other_version : (version : ℕ) (bytes : List ℕ) (p : Parts) → IsLine p → line_text p ≡ bytes ++ 10 ∷ [] → (IsOf version p → ⊥) → IsShapelessIn version (refusals.Fault Shape) bytes
of_other_version version bytes p line e other = λ q line' old e'.
    let same = one_line p q [] [] line line' (ap (λ (t : List ℕ). t ++ []) (e ∙ sym e')) in
    other (subst (IsOf version) (sym same.0) old)

-- ---- a line that is read word by word

-- What makes nothing of the parts makes nothing of the line.
misread_more : {A B : Type 0} (e : HistoryLineError) (o : Option A) (p : Option B) → (o ≡ None → p ≡ None) → IsMisread e o → IsMisread e p
misread_more refusals.Memory o p f h = tt
misread_more (refusals.Fault Shape) o p f h = f h
misread_more (refusals.Fault Header) o p f h = h
misread_more (refusals.Fault KeyOrder) o p f h = h
misread_more (refusals.Fault Index) o p f h = h
misread_more (refusals.Fault WrongReply) o p f h = h
misread_more (refusals.Fault WrongLets) o p f h = h

misread_line : (version : ℕ) (bytes : List ℕ) (words : List (List ℕ)) (e : HistoryLineError) → slice_split (λ b. eqb b 32) bytes ≡ words → IsMisread e (parts_at words) → IsShapelessIn version e bytes
misread_line version bytes words e split h = shapeless_in version e bytes (unread bytes (Err e) (subst (λ (ws : List (List ℕ)). IsMisread e (parts_at ws)) (sym split) h))

pub without_words : (version : ℕ) (bytes : List ℕ) → slice_split (λ b. eqb b 32) bytes ≡ [] → IsShapelessIn version (refusals.Fault Shape) bytes
without_words version bytes split = misread_line version bytes [] (refusals.Fault Shape) split no_words_no_parts

pub without_key : (version : ℕ) (bytes key : List ℕ) (words : List (List ℕ)) (e : HistoryLineError) → slice_split (λ b. eqb b 32) bytes ≡ key ∷ words → IsNoKey key e → IsShapelessIn version e bytes
without_key version bytes key words e split h = misread_line version bytes (key ∷ words) e split (misread_more e (key_if_legal key) (parts_at (key ∷ words)) (no_key_no_parts key words) h)

pub without_step : (version : ℕ) (bytes key : List ℕ) (words : List (List ℕ)) → slice_split (λ b. eqb b 32) bytes ≡ key ∷ words → step_at words ≡ None → IsShapelessIn version (refusals.Fault Shape) bytes
without_step version bytes key words split none = misread_line version bytes (key ∷ words) (refusals.Fault Shape) split (no_step_no_parts key words none)

pub without_lets : (version : ℕ) (bytes key : List ℕ) (words rest : List (List ℕ)) (s : LineStep) (e : HistoryLineError) → slice_split (λ b. eqb b 32) bytes ≡ key ∷ words → step_at words ≡ Some (s, rest) → IsMisread e (lets_in_words rest) → IsShapelessIn version e bytes
without_lets version bytes key words rest s e split step h =
    misread_line version bytes (key ∷ words) e split (misread_more e (lets_in_words rest) (parts_at (key ∷ words)) (no_lets_no_parts key words rest s step) h)

pub with_parts : (bytes key : List ℕ) (words rest : List (List ℕ)) (s : LineStep) (ts : List Wait) → slice_split (λ b. eqb b 32) bytes ≡ key ∷ words → step_at words ≡ Some (s, rest) → lets_in_words rest ≡ Some ts → IsKey key → IsLine (parts_with key s ts) × (line_text (parts_with key s ts) ≡ bytes ++ 10 ∷ [])
with_parts bytes key words rest s ts split step lets is =
    let t = parts_takes (slice_split (λ b. eqb b 32) bytes) (parts_with key s ts) (ap parts_at split ∙ parts_at_words key words rest s ts is step lets) in
    (t.1, text_is bytes (parts_with key s ts) t.0)

of_other_by : (version : ℕ) (bytes key : List ℕ) (words rest : List (List ℕ)) (s : LineStep) (ts : List Wait) (o : Option (List ℕ)) → key_if_legal key ≡ o → slice_split (λ b. eqb b 32) bytes ≡ key ∷ words → step_at words ≡ Some (s, rest) → lets_in_words rest ≡ Some ts
    → (IsOf version (parts_with key s ts) → ⊥) → IsShapelessIn version (refusals.Fault Shape) bytes
of_other_by version bytes key words rest s ts None none split step lets other = without_key version bytes key words (refusals.Fault Shape) split none
of_other_by version bytes key words rest s ts (Some own) legal split step lets other =
    let k = key_takes key own legal in
    let p = with_parts bytes key words rest s ts split step lets (subst IsKey (sym k.0) k.1) in
    of_other_version version bytes (parts_with key s ts) p.0 p.1 other

pub with_other_parts : (version : ℕ) (bytes key : List ℕ) (words rest : List (List ℕ)) (s : LineStep) (ts : List Wait) → slice_split (λ b. eqb b 32) bytes ≡ key ∷ words → step_at words ≡ Some (s, rest) → lets_in_words rest ≡ Some ts
    → (IsOf version (parts_with key s ts) → ⊥) → IsShapelessIn version (refusals.Fault Shape) bytes
with_other_parts version bytes key words rest s ts split step lets other = of_other_by version bytes key words rest s ts (key_if_legal key) refl split step lets other
