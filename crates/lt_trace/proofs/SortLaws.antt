-- What is read line by line, and written line by line, is what `specs/Sorting.antt` says of the whole.
use Rattle.std.proofs.Common.{◌≡◌, ◌≢◌, ◌+◌, ◌<◌, ◌≤◌, cond, eqb, arith, ◌⊎◌, inr, ℕ, zero, suc, Bool, true, false, IfNone, IfSome, IsSome, codes, get_or, List, [], ◌∷◌, ◌++◌, length, drop, Option, None, Some, Result, Ok, Err, OnOk, refl, sym, ap, subst, ◌∙◌, append_assoc, append-nil, length-append}
use Rattle.std.specs.Prelude.{⊤}
use Rattle.std.specs.Io.BufRead.{take_through, drop_through}
use Rattle.std.specs.Io.KnownBytes.{Appends}
use Rattle.lt_checker.specs.Sorted.{next_index}
use Rattle.lt_trace.specs.declared.error.SortError.{SortError}
use Rattle.lt_trace.specs.declared.error.SortError.TheVariants as errors
use Rattle.lt_trace.specs.declared.error.TraceFault.{TraceFault}
use Rattle.lt_trace.specs.declared.error.TraceLineError.{TraceLineError}
use Rattle.lt_trace.specs.declared.error.TraceLineError.TheVariants as refusals
use Rattle.lt_trace.specs.declared.line.TraceLine.{TraceLine}
use Rattle.lt_trace.specs.declared.page.KeyCounter.{KeyCounter}
use Rattle.lt_trace.specs.declared.page.Page.{Page}
use Rattle.lt_trace.specs.declared.sort.SortReport.{SortReport}
use Rattle.lt_trace.specs.declared.sort.TraceForm.{TraceForm}
use Rattle.lt_trace.specs.Errors.{IsOfOutput}
use Rattle.lt_trace.specs.Form.{IsReadInForm, IsInputLine}
use Rattle.lt_trace.specs.Page.{AppendsPlain, AppendsNumbered, WritesFront}
use Rattle.lt_trace.specs.Trace.{plain_text, numbered_text}
use Rattle.lt_trace.specs.Sorting.{BeginWithLines, steps_of_lines, HaveNoLineEnd, HasLineFault, TellsLineFault, IsNoRefusal, RefusesFirstFault, TakesInputLine, IsNextFaulty, RefusesNextLine, AreCollected, HasCollected, AreByKey, plain_lines, numbered_lines, page_lines, WritesInOrder, WritesSomeLines, IsNumberedInto, IsSortedInto, HaveSteps, counted, first_lines}

-- ---- what is written

appends_none : (w : Option (List ℕ)) → Appends w w []
appends_none None = tt
appends_none (Some xs) = sym (append-nil xs)

appends_both : (a b c : Option (List ℕ)) (x y : List ℕ) → Appends a b x → Appends b c y → Appends a c (x ++ y)
appends_both None b c x y h k = tt
appends_both (Some xs) None c x y h k = absurd h
appends_both (Some xs) (Some ys) None x y h k = absurd k
appends_both (Some xs) (Some ys) (Some zs) x y h k = k ∙ (ap (λ (t : List ℕ). t ++ y) h ∙ append_assoc xs x y)

-- Nothing was written.
pub none_written : (w : Option (List ℕ)) (bytes : List ℕ) → WritesFront w w bytes bytes
none_written w bytes = record { front = []; split = refl; written = appends_none w }

-- Something more was written.
pub more_written : (a b c : Option (List ℕ)) (bytes others rest : List ℕ) → WritesFront a b bytes others → WritesFront b c others rest → WritesFront a c bytes rest
more_written a b c bytes others rest h k = record {
  front = h.front ++ k.front;
  split = h.split ∙ (ap (λ (t : List ℕ). h.front ++ t) k.split ∙ sym (append_assoc h.front k.front rest));
  written = appends_both a b c h.front k.front h.written k.written;
}

-- All was written.
pub all_written : (a b c : Option (List ℕ)) (bytes others : List ℕ) → WritesFront a b bytes others → Appends b c others → Appends a c bytes
all_written a b c bytes others h k = subst (λ (t : List ℕ). Appends a c t) (sym h.split) (appends_both a b c h.front others h.written k)

-- What follows a line on a page follows it in the text.
put_at : (old new : Page) (line : TraceLine) (rest : List TraceLine) (before after : Option KeyCounter) → IfNone before (AppendsPlain old new line) → AppendsNumbered old new line before after
    → old.bytes.items ++ page_lines before (line ∷ rest) ≡ new.bytes.items ++ page_lines after rest
put_at old new line rest None after p n =
    sym (append_assoc old.bytes.items (plain_text line) (plain_lines rest)) ∙ (ap (λ (t : List ℕ). t ++ plain_lines rest) (sym p) ∙ ap (λ c. new.bytes.items ++ page_lines c rest) (sym n))
put_at old new line rest (Some b) None p n = absurd n
put_at old new line rest (Some b) (Some a) p n =
    let next = next_index b.key.items b.index line.key in
    let here : numbered_text next line ≡ numbered_text a.index line = ap (λ (i : ℕ). numbered_text i line) (sym n.counts.index) in
    let after : numbered_lines line.key next rest ≡ numbered_lines a.key.items a.index rest =
    ap (λ (i : ℕ). numbered_lines line.key i rest) (sym n.counts.index) ∙ ap (λ (k : List ℕ). numbered_lines k a.index rest) (sym n.counts.key_after) in
    sym (append_assoc old.bytes.items (numbered_text next line) (numbered_lines line.key next rest)) ∙ (ap (λ (t : List ℕ). (old.bytes.items ++ t) ++ numbered_lines line.key next rest) here ∙ (ap (λ (t : List ℕ). t ++ numbered_lines line.key next rest) (sym n.text) ∙ ap (λ (t : List ℕ). new.bytes.items ++ t) after))

-- A line that is put on a page is counted with those that are still to come.
counted_at : (old new : Page) (line : TraceLine) (rest : List TraceLine) (before after : Option KeyCounter) → AppendsNumbered old new line before after → counted before (line ∷ rest) ≡ counted after rest
counted_at old new line rest None after n = ap (λ c. counted c rest) (sym n)
counted_at old new line rest (Some b) None n = absurd n
counted_at old new line rest (Some b) (Some a) n =
    let next = next_index b.key.items b.index line.key in
    let same : first_lines line.key next rest ≡ first_lines a.key.items a.index rest =
    ap (λ (i : ℕ). first_lines line.key i rest) (sym n.counts.index) ∙ ap (λ (k : List ℕ). first_lines k a.index rest) (sym n.counts.key_after) in
    let first : a.keys ≡ b.keys + cond (eqb next 1) 1 0 = n.counts.keys ∙ (one_more_if (eqb a.index 1) b.keys ∙ ap (λ (i : ℕ). b.keys + cond (eqb i 1) 1 0) n.counts.index) in
    let keys : b.keys + (cond (eqb next 1) 1 0 + first_lines line.key next rest) ≡ a.keys + first_lines a.key.items a.index rest = omega (arith, same, first) in
    let steps : b.steps + suc (length rest) ≡ a.steps + length rest = omega (arith, n.counts.steps) in
    ap (λ (k : ℕ). (k, b.steps + suc (length rest))) keys ∙ ap (λ (s : ℕ). (a.keys + first_lines a.key.items a.index rest, s)) steps
  where
    one_more_if : (c : Bool) (k : ℕ) → cond c (k + 1) k ≡ k + cond c 1 0
    one_more_if true k = refl
    one_more_if false k = omega arith

same_written : (a b : Option (List ℕ)) (bytes others same : List ℕ) → WritesFront a b bytes others → others ≡ same → WritesFront a b bytes same
same_written a b bytes others same h e = subst (λ (t : List ℕ). WritesFront a b bytes t) e h

-- One turn: the line is put on the page, of which the front may be written.
pub line_written : (a b c : Option (List ℕ)) (bytes : List ℕ) (old new last : Page) (line : TraceLine) (lines rest : List TraceLine) → lines ≡ line ∷ rest → WritesFront a b bytes (old.bytes.items ++ page_lines old.counter lines)
    → IfNone old.counter (AppendsPlain old new line) → AppendsNumbered old new line old.counter new.counter → WritesFront b c new.bytes.items last.bytes.items → last.counter ≡ new.counter
    → WritesFront a c bytes (last.bytes.items ++ page_lines last.counter rest)
line_written a b c bytes old new last line lines rest e h p n w k =
    let put : old.bytes.items ++ page_lines old.counter lines ≡ new.bytes.items ++ page_lines new.counter rest = ap (λ ls. old.bytes.items ++ page_lines old.counter ls) e ∙ put_at old new line rest old.counter new.counter p n in
    let split : new.bytes.items ++ page_lines new.counter rest ≡ w.front ++ (last.bytes.items ++ page_lines last.counter rest) =
    ap (λ (t : List ℕ). t ++ page_lines new.counter rest) w.split ∙ (append_assoc w.front last.bytes.items (page_lines new.counter rest) ∙ ap (λ d. w.front ++ (last.bytes.items ++ page_lines d rest)) (sym k)) in
    more_written a b c bytes (new.bytes.items ++ page_lines new.counter rest) (last.bytes.items ++ page_lines last.counter rest) (same_written a b bytes _ _ h put)
    (record { front = w.front; split = split; written = w.written })

no_lines : (counter : Option KeyCounter) → page_lines counter [] ≡ []
no_lines None = refl
no_lines (Some c) = refl

-- The next line, and those after it.
pub drop_line : (lines : List TraceLine) (i j : ℕ) (line : TraceLine) → i < length lines → line ≡ get_or lines i line → j ≡ suc i → drop i lines ≡ line ∷ drop j lines
drop_line [] i j line lt e f = absurd (omega arith)
drop_line (l ∷ lines) zero j line lt e f = rw f (ap (λ x. x ∷ lines) (sym e))
drop_line (l ∷ lines) (suc i) j line lt e f = rw f (drop_line lines i (suc i) line (omega arith) e refl)

-- All lines are on the page or written.
pub lines_written : (a b : Option (List ℕ)) (bytes : List ℕ) (page : Page) (lines : List TraceLine) → lines ≡ [] → WritesFront a b bytes (page.bytes.items ++ page_lines page.counter lines) → WritesFront a b bytes page.bytes.items
lines_written a b bytes page lines e h = same_written a b bytes _ _ h (ap (λ ls. page.bytes.items ++ page_lines page.counter ls) e ∙ (ap (λ (t : List ℕ). page.bytes.items ++ t) (no_lines page.counter) ∙ append-nil page.bytes.items))

-- One turn of a loop over these lines: the line is counted.
pub line_counted : (start : ℕ × ℕ) (old new last : Page) (line : TraceLine) (lines rest : List TraceLine) → lines ≡ line ∷ rest → counted old.counter lines ≡ start → AppendsNumbered old new line old.counter new.counter → last.counter ≡ new.counter → counted last.counter rest ≡ start
line_counted start old new last line lines rest e h n k =
    ap (λ c. counted c rest) k ∙ (sym (counted_at old new line rest old.counter new.counter n) ∙ (ap (λ ls. counted old.counter ls) (sym e) ∙ h))

-- These lines are on the page or written, whatever comes after them.
pub record HasTaken (a b : Option (List ℕ)) (first now : Page) : Type 0 where
  pub lines : List TraceLine
  pub taken : (rest : List TraceLine) → WritesFront a b (first.bytes.items ++ page_lines first.counter (lines ++ rest)) (now.bytes.items ++ page_lines now.counter rest)
  pub counts : (rest : List TraceLine) → counted now.counter rest ≡ counted first.counter (lines ++ rest)

pub none_taken : (a : Option (List ℕ)) (page : Page) → HasTaken a a page page
none_taken a page = record { lines = []; taken = λ rest. none_written a (page.bytes.items ++ page_lines page.counter rest); counts = λ rest. refl }

pub one_taken : (a b c : Option (List ℕ)) (first old new last : Page) (line : TraceLine) → HasTaken a b first old → IfNone old.counter (AppendsPlain old new line) → AppendsNumbered old new line old.counter new.counter
    → WritesFront b c new.bytes.items last.bytes.items → last.counter ≡ new.counter → HasTaken a c first last
one_taken a b c first old new last line h p n w k = record {
  lines = h.lines ++ line ∷ [];
  taken = λ rest. subst (λ ls. WritesFront a c (first.bytes.items ++ page_lines first.counter ls) (last.bytes.items ++ page_lines last.counter rest)) (sym (append_assoc h.lines (line ∷ []) rest))
      (line_written a b c (first.bytes.items ++ page_lines first.counter (h.lines ++ line ∷ rest)) old new last line (line ∷ rest) rest refl (h.taken (line ∷ rest)) p n w k);
  counts = λ rest. line_counted (counted first.counter (h.lines ++ line ∷ rest)) old new last line (line ∷ rest) rest refl (h.counts (line ∷ rest)) n k
      ∙ ap (λ ls. counted first.counter ls) (sym (append_assoc h.lines (line ∷ []) rest));
}

taken : (a b c : Option (List ℕ)) (first now last : Page) → HasTaken a b first now → Appends b c now.bytes.items → last.counter ≡ now.counter → WritesSomeLines a c first last
taken a b c first now last h k same = record {
  lines = h.lines ++ [];
  written = all_written a b c (first.bytes.items ++ page_lines first.counter (h.lines ++ [])) now.bytes.items (lines_written a b _ now [] refl (h.taken [])) k;
  counts = ap (λ c. counted c []) same ∙ h.counts [];
}

-- If the page was written, all is.
pub all_taken : (r : Result (Unit {0}) SortError) (a b c : Option (List ℕ)) (first now last : Page) → HasTaken a b first now → OnOk r (Appends b c now.bytes.items) → last.counter ≡ now.counter → OnOk r (WritesSomeLines a c first last)
all_taken (Ok u) a b c first now last h k same = taken a b c first now last h k same
all_taken (Err e) a b c first now last h k same = tt

-- ---- what is read

-- A text with a line end that is refused has this fault.
pub told_form : (form : TraceForm) (bytes text : List ℕ) (e : TraceLineError) → bytes ≡ text ++ 10 ∷ [] → IsReadInForm form text (Err e) → TellsLineFault form bytes e
told_form form bytes text refusals.Memory e h = tt
told_form form bytes text (refusals.Fault fault) e h = inr (record { text = text; ended = e; refused = h })

lines_more : (form : TraceForm) (bytes : List ℕ) (os : List (Option TraceLine)) (others : List ℕ) (o : Option TraceLine) → BeginWithLines form bytes os others → IsInputLine form (take_through 10 others) o
    → BeginWithLines form bytes (os ++ o ∷ []) (drop_through 10 others)
lines_more form bytes [] others o h l = (subst (λ (t : List ℕ). IsInputLine form (take_through 10 t) o) h l, ap (λ (t : List ℕ). drop_through 10 t) h)
lines_more form bytes (x ∷ os) others o h l = (h.0, lines_more form (drop_through 10 bytes) os others o h.1 l)

-- So far these lines were read, if the bytes are known.
abbrev pub AreReadTo : TraceForm → Option (List ℕ) → Option (List ℕ) → List (Option TraceLine) → Type 0
AreReadTo form None now os = ⊤
AreReadTo form (Some bytes) None os = ⊥
AreReadTo form (Some bytes) (Some others) os = BeginWithLines form bytes os others

read_more : (form : TraceForm) (source now next : Option (List ℕ)) (os : List (Option TraceLine)) (o : Option TraceLine) → AreReadTo form source now os → TakesInputLine form now next (Some o) → AreReadTo form source next (os ++ o ∷ [])
read_more form None now next os o h t = tt
read_more form (Some bytes) None next os o h t = absurd h
read_more form (Some bytes) (Some others) None os o h t = absurd t
read_more form (Some bytes) (Some others) (Some rest) os o h t = subst (λ (x : List ℕ). BeginWithLines form bytes (os ++ o ∷ []) x) (sym t.1) (lines_more form bytes os others o h t.0)

empty_line : (os : List (Option TraceLine)) → steps_of_lines (os ++ None ∷ []) ≡ steps_of_lines os
empty_line [] = refl
empty_line (None ∷ os) = empty_line os
empty_line (Some line ∷ os) = ap (λ ls. line ∷ ls) (empty_line os)

line_added : (os : List (Option TraceLine)) (l : TraceLine) → steps_of_lines (os ++ Some l ∷ []) ≡ steps_of_lines os ++ l ∷ []
line_added [] l = refl
line_added (None ∷ os) l = line_added os l
line_added (Some line ∷ os) l = ap (λ ls. line ∷ ls) (line_added os l)

count_more : (os : List (Option TraceLine)) (o : Option TraceLine) → length (os ++ o ∷ []) ≡ length os + 1
count_more [] o = refl
count_more (x ∷ os) o = omega (arith, count_more os o)

no_more_steps : (os : List (Option TraceLine)) → length (steps_of_lines os) ≤ length os
no_more_steps [] = omega arith
no_more_steps (None ∷ os) = let rest = no_more_steps os in omega (arith, rest)
no_more_steps (Some line ∷ os) = let rest = no_more_steps os in omega (arith, rest)

-- So many lines were read, and those that are not empty came to these, as long as no run was written.
pub record IsCollecting (form : TraceForm) (source now : Option (List ℕ)) (number steps : ℕ) (InMemory : Type 0) (old new : List TraceLine) : Type 0 where
  pub lines : List (Option TraceLine)
  pub read : AreReadTo form source now lines
  pub count : number ≡ length lines + 1
  pub added : InMemory → new ≡ old ++ steps_of_lines lines
  pub steps_are : steps ≡ length (steps_of_lines lines)

pub begins : (form : TraceForm) (source : Option (List ℕ)) (InMemory : Type 0) (old : List TraceLine) → IsCollecting form source source 1 0 InMemory old old
begins form source InMemory old = record { lines = []; read = read source; count = refl; added = λ _. sym (append-nil old); steps_are = refl }
  where
    read : (s : Option (List ℕ)) → AreReadTo form s s []
    read None = tt
    read (Some bytes) = refl

pub skips_line : (form : TraceForm) (source now next : Option (List ℕ)) (number steps : ℕ) (InMemory : Type 0) (old new : List TraceLine) → IsCollecting form source now number steps InMemory old new → TakesInputLine form now next (Some None)
    → IsCollecting form source next (number + 1) steps InMemory old new
skips_line form source now next number steps InMemory old new h t = record {
  lines = h.lines ++ None ∷ [];
  read = read_more form source now next h.lines None h.read t;
  count = ap (λ (n : ℕ). n + 1) (h.count ∙ sym (count_more h.lines None));
  added = λ m. h.added m ∙ ap (λ ls. old ++ ls) (sym (empty_line h.lines));
  steps_are = h.steps_are ∙ ap (λ ls. length ls) (sym (empty_line h.lines));
}

pub keeps_line : (form : TraceForm) (source now next : Option (List ℕ)) (number steps more : ℕ) (Before After : Type 0) (old held new : List TraceLine) (line : TraceLine) → IsCollecting form source now number steps Before old held → TakesInputLine form now next (Some (Some line))
    → (After → Before × (new ≡ held ++ line ∷ [])) → (steps < number → more ≡ steps + 1) → IsCollecting form source next (number + 1) more After old new
keeps_line form source now next number steps more Before After old held new line h t k one = record {
  lines = h.lines ++ Some line ∷ [];
  read = read_more form source now next h.lines (Some line) h.read t;
  count = ap (λ (n : ℕ). n + 1) (h.count ∙ sym (count_more h.lines (Some line)));
  added = λ m. (k m).1 ∙ (ap (λ ls. ls ++ line ∷ []) (h.added (k m).0) ∙ (append_assoc old (steps_of_lines h.lines) (line ∷ []) ∙ ap (λ ls. old ++ ls) (sym (line_added h.lines line))));
  steps_are =
      let few : length (steps_of_lines h.lines) ≤ length h.lines = no_more_steps h.lines in
      let added : length (steps_of_lines (h.lines ++ Some line ∷ [])) ≡ length (steps_of_lines h.lines) + 1 = ap (λ ls. length ls) (line_added h.lines line) ∙ length-append (steps_of_lines h.lines) (line ∷ []) in
      one (omega (arith, few, h.steps_are, h.count)) ∙ omega (arith, h.steps_are, added);
}

-- No line is left.
pub collected : (form : TraceForm) (source now next : Option (List ℕ)) (number steps : ℕ) (InMemory : Type 0) (old new : List TraceLine) → IsCollecting form source now number steps InMemory old new → TakesInputLine form now next None
    → InMemory → HasCollected form source old new
collected form None now next number steps InMemory old new h t m = tt
collected form (Some bytes) None next number steps InMemory old new h t m = absurd h.read
collected form (Some bytes) (Some others) next number steps InMemory old new h t m = record {
  lines = h.lines;
  read = subst (λ (x : List ℕ). BeginWithLines form bytes h.lines x) t h.read;
  added = h.added m;
}

-- Nothing but lines was read.
pub all_read : (form : TraceForm) (source now next : Option (List ℕ)) (number steps : ℕ) (InMemory : Type 0) (old new : List TraceLine) → IsCollecting form source now number steps InMemory old new → TakesInputLine form now next None → IfSome source (HaveSteps form steps)
all_read form None now next number steps InMemory old new h t = tt
all_read form (Some bytes) None next number steps InMemory old new h t = absurd h.read
all_read form (Some bytes) (Some others) next number steps InMemory old new h t = record { lines = h.lines; read = subst (λ (x : List ℕ). BeginWithLines form bytes h.lines x) t h.read; count = h.steps_are }

-- A refusal of the next line is one of the first faulty line.
pub refused_next : (form : TraceForm) (source now : Option (List ℕ)) (number steps : ℕ) (InMemory : Type 0) (old new : List TraceLine) (e : SortError) → IsCollecting form source now number steps InMemory old new → RefusesNextLine form now number e → RefusesFirstFault form source e
refused_next form None now number steps InMemory old new (errors.Refused line fault) h r = tt
refused_next form (Some bytes) None number steps InMemory old new (errors.Refused line fault) h r = absurd h.read
refused_next form (Some bytes) (Some others) number steps InMemory old new (errors.Refused line fault) h r = record {
  lines = h.lines;
  others = others;
  read = h.read;
  number = r.0 ∙ h.count;
  some = r.1.0;
  fault_of = r.1.1;
}
refused_next form source now number steps InMemory old new errors.Memory h r = tt
refused_next form source now number steps InMemory old new errors.Read h r = tt
refused_next form source now number steps InMemory old new errors.Temporary h r = tt
refused_next form source now number steps InMemory old new errors.Write h r = tt
refused_next form source now number steps InMemory old new errors.TooManySteps h r = tt

-- An error of the output refuses no line.
pub of_output : (form : TraceForm) (source : Option (List ℕ)) (e : SortError) → IsOfOutput e → RefusesFirstFault form source e
of_output form source (errors.Refused line fault) h = absurd cc
of_output form source errors.Memory h = tt
of_output form source errors.Read h = tt
of_output form source errors.Temporary h = tt
of_output form source errors.Write h = tt
of_output form source errors.TooManySteps h = tt

pub no_refusal : (form : TraceForm) (source : Option (List ℕ)) (number : ℕ) (e : SortError) → IsNoRefusal e → RefusesNextLine form source number e
no_refusal form source number (errors.Refused line fault) h = absurd h
no_refusal form source number errors.Memory h = tt
no_refusal form source number errors.Read h = tt
no_refusal form source number errors.Temporary h = tt
no_refusal form source number errors.Write h = tt
no_refusal form source number errors.TooManySteps h = tt

-- ---- both

counter_lines : (counter : Option KeyCounter) (lines : List TraceLine) → IfSome counter (λ c. c.index ≡ 0) → IfSome counter (λ c. c.key.items ≡ []) → IsSome counter → page_lines counter lines ≡ numbered_lines [] 0 lines
counter_lines None lines i k s = absurd cc
counter_lines (Some c) lines i k s = ap (λ (key : List ℕ). numbered_lines key c.index lines) k ∙ ap (λ (index : ℕ). numbered_lines [] index lines) i

header_lines : (page : Page) (lines : List TraceLine) → page.bytes.items ≡ codes "locks 2\n" → IfSome page.counter (λ c. c.index ≡ 0) → IfSome page.counter (λ c. c.key.items ≡ []) → IsSome page.counter
    → page.bytes.items ++ page_lines page.counter lines ≡ codes "locks 2\n" ++ numbered_lines [] 0 lines
header_lines page lines e i k s = ap (λ (t : List ℕ). t ++ page_lines page.counter lines) e ∙ ap (λ (t : List ℕ). codes "locks 2\n" ++ t) (counter_lines page.counter lines i k s)

-- The lines that were collected are those that were written, behind the header.
pub sorted_into : (form : TraceForm) (source before now : Option (List ℕ)) (page last : Page) (held : List TraceLine) → HasCollected form source [] held → WritesInOrder before now page last held
    → page.bytes.items ≡ codes "locks 2\n" → IfSome page.counter (λ c. c.index ≡ 0) → IfSome page.counter (λ c. c.key.items ≡ []) → IsSome page.counter → IfSome source (IsSortedInto form before now)
sorted_into form None before now page last held h w e i k s = tt
sorted_into form (Some bytes) before now page last held h w e i k s = record {
  lines = h.lines;
  read = h.read;
  sorted = w.sorted;
  in_order = subst (λ ls. AreByKey ls w.sorted) h.added w.in_order;
  written = subst (λ (t : List ℕ). Appends before now t) (header_lines page w.sorted e i k s) w.written;
}

-- What a page without a line has counted after these lines.
counts_lines : (counter : Option KeyCounter) (lines : List TraceLine) → IfSome counter (λ c. c.index ≡ 0) → IfSome counter (λ c. c.key.items ≡ []) → IfSome counter (λ c. c.keys ≡ 0) → IfSome counter (λ c. c.steps ≡ 0) → IsSome counter
    → counted counter lines ≡ (first_lines [] 0 lines, length lines)
counts_lines None lines i k ks ss s = absurd cc
counts_lines (Some c) lines i k ks ss s =
    let same : first_lines c.key.items c.index lines ≡ first_lines [] 0 lines = ap (λ (key : List ℕ). first_lines key c.index lines) k ∙ ap (λ (index : ℕ). first_lines [] index lines) i in
    let no_key : c.keys ≡ 0 = ks in
    let no_step : c.steps ≡ 0 = ss in
    let keys : c.keys + first_lines c.key.items c.index lines ≡ first_lines [] 0 lines = omega (arith, no_key, same) in
    let steps : c.steps + length lines ≡ length lines = omega (arith, no_step) in
    ap (λ (n : ℕ). (n, c.steps + length lines)) keys ∙ ap (λ (n : ℕ). (first_lines [] 0 lines, n)) steps

-- The report of a numbered page.
pub numbered_some : (before now : Option (List ℕ)) (page last : Page) (report : SortReport) → WritesSomeLines before now page last
    → page.bytes.items ≡ codes "locks 2\n" → IfSome page.counter (λ c. c.index ≡ 0) → IfSome page.counter (λ c. c.key.items ≡ []) → IfSome page.counter (λ c. c.keys ≡ 0) → IfSome page.counter (λ c. c.steps ≡ 0) → IsSome page.counter
    → report.keys ≡ (counted last.counter []).0 → report.steps ≡ (counted last.counter []).1 → IsNumberedInto before now report
numbered_some before now page last report w e i k ks ss s a b =
    let all : counted last.counter [] ≡ (first_lines [] 0 w.lines, length w.lines) = w.counts ∙ counts_lines page.counter w.lines i k ks ss s in
    record {
      lines = w.lines;
      written = subst (λ (t : List ℕ). Appends before now t) (header_lines page w.lines e i k s) w.written;
      keys = a ∙ ap (λ (x : ℕ × ℕ). x.0) all;
      steps = b ∙ ap (λ (x : ℕ × ℕ). x.1) all;
    }

some_lines : (before now : Option (List ℕ)) (page last : Page) (held : List TraceLine) → WritesInOrder before now page last held → WritesSomeLines before now page last
some_lines before now page last held w = record { lines = w.sorted; written = w.written; counts = w.counts }

pub numbered_in_order : (before now : Option (List ℕ)) (page last : Page) (held : List TraceLine) (report : SortReport) → WritesInOrder before now page last held
    → page.bytes.items ≡ codes "locks 2\n" → IfSome page.counter (λ c. c.index ≡ 0) → IfSome page.counter (λ c. c.key.items ≡ []) → IfSome page.counter (λ c. c.keys ≡ 0) → IfSome page.counter (λ c. c.steps ≡ 0) → IsSome page.counter
    → report.keys ≡ (counted last.counter []).0 → report.steps ≡ (counted last.counter []).1 → IsNumberedInto before now report
numbered_in_order before now page last held report w = numbered_some before now page last report (some_lines before now page last held w)

-- The lines in memory are counted, if all were collected.
pub steps_in_order : (form : TraceForm) (source before now : Option (List ℕ)) (page last : Page) (held : List TraceLine) (report : SortReport) → HasCollected form source [] held → WritesInOrder before now page last held
    → IfSome page.counter (λ c. c.index ≡ 0) → IfSome page.counter (λ c. c.key.items ≡ []) → IfSome page.counter (λ c. c.keys ≡ 0) → IfSome page.counter (λ c. c.steps ≡ 0) → IsSome page.counter
    → report.steps ≡ (counted last.counter []).1 → IfSome source (HaveSteps form report.steps)
steps_in_order form None before now page last held report h w i k ks ss s b = tt
steps_in_order form (Some bytes) before now page last held report h w i k ks ss s b =
    let all : counted last.counter [] ≡ (first_lines [] 0 w.sorted, length w.sorted) = w.counts ∙ counts_lines page.counter w.sorted i k ks ss s in
    record {
      lines = h.lines;
      read = h.read;
      count = b ∙ (ap (λ (x : ℕ × ℕ). x.1) all ∙ (w.in_order.count ∙ ap (λ ls. length ls) h.added));
    }
