-- A stream is read line by line and given to a checker.
use Rattle.std.proofs.Common.{◌≡◌, ℕ, ◌+◌, ◌≤◌, ◌⊎◌, Bool, true, false, cond, eqb, List, [], ◌∷◌, ◌++◌, length, drop, Option, Some, None, Result, Ok, Err, refl, sym, ap, subst, ◌∙◌, inl, inr, append_assoc, arith, length-append}
use Rattle.std.specs.Prelude.{IfSome, IfOk, IfErr, OnOk}
use Rattle.std.specs.Io.{StartsWith}
use Rattle.std.specs.Io.BufRead.{take_through, drop_through, DropsThrough}
use Rattle.std.specs.Io.KnownBytes.{Consumes, IsAtEnd, Keeps}
use Rattle.std.proofs.lemmas.Bool.{eqb-true}
use Rattle.std.proofs.lemmas.List.{append-nil, take-append-drop}
use Rattle.lt_checker.specs.declared.checker.Report.{Report}
use Rattle.lt_checker.specs.declared.checker.CheckError.{CheckError}
use Rattle.lt_checker.specs.declared.checker.CheckError.TheVariants as checks
use Rattle.lt_checker.specs.declared.error.Fault.TheVariants.{Header}
use Rattle.lt_checker.specs.declared.pieces.Checker.{Checker}
use Rattle.lt_checker.specs.Pieces.{IsCountable, HasTaken, HasBegun, LacksHeader, MovesOver, TakesLines, RefusesFrom}
use Rattle.lt_checker.specs.Verdict.{Judges}
use Rattle.lt_checker.specs.Version.{header_of}
use Rattle.lt_checker.proofs.Verdicts.{is_said, legal_is_said, fault_is_said}
use Rattle.lt_trace_check.specs.Audit.{EndsLine, StopsAtLineEnd, IsAfterLine, IsLineRead, IsBeginning, IsReading, RefusesPending, EndsWith, EndsAs, IsNoVerdict, EndsReading, EndsReadingAs, IsAudited, IsAuditedAs, IsSplit, IsExplained, IsFirstLine, SaysOfLine}
use Rattle.lt_trace_check.specs.declared.explained.Explained.{Explained}
use Rattle.lt_trace_check.specs.declared.error.AuditError.{AuditError}
use Rattle.lt_trace_check.specs.declared.error.AuditError.TheVariants as errors

-- ---- one line

through : (xs : List ℕ) → xs ≡ take_through 10 xs ++ drop_through 10 xs
through [] = refl
through (x ∷ xs) = by_byte (eqb x 10) (through xs)
  where
    by_byte : (b : Bool) → xs ≡ take_through 10 xs ++ drop_through 10 xs → x ∷ xs ≡ cond b (x ∷ []) (x ∷ take_through 10 xs) ++ cond b xs (drop_through 10 xs)
    by_byte true more = refl
    by_byte false more = ap (λ (t : List ℕ). x ∷ t) more

none_through : (xs : List ℕ) → length (take_through 10 xs) ≡ 0 → xs ≡ []
none_through [] e = refl
none_through (x ∷ xs) e = absurd (by_byte (eqb x 10) e)
  where
    by_byte : (b : Bool) → length (cond b (x ∷ []) (x ∷ take_through 10 xs)) ≡ 0 → ⊥
    by_byte true e = omega (arith, e)
    by_byte false e = omega (arith, e)

-- What a read up to a line end takes ends with one, or nothing is left.
ends_or_all : (xs : List ℕ) → EndsLine (take_through 10 xs) ⊎ (drop_through 10 xs ≡ [])
ends_or_all [] = inr refl
ends_or_all (x ∷ xs) = by_byte (eqb x 10) refl (ends_or_all xs)
  where
    further : EndsLine (take_through 10 xs) ⊎ (drop_through 10 xs ≡ []) → EndsLine (x ∷ take_through 10 xs) ⊎ (drop_through 10 xs ≡ [])
    further (inl e) = inl (x ∷ e.0, ap (λ (t : List ℕ). x ∷ t) e.1)
    further (inr e) = inr e

    by_byte : (b : Bool) → eqb x 10 ≡ b → EndsLine (take_through 10 xs) ⊎ (drop_through 10 xs ≡ []) → EndsLine (cond b (x ∷ []) (x ∷ take_through 10 xs)) ⊎ (cond b xs (drop_through 10 xs) ≡ [])
    by_byte true is more = inl ([], ap (λ (y : ℕ). y ∷ []) (eqb-true x 10 is))
    by_byte false is more = further more

ends_more : (old bytes new : List ℕ) → new ≡ old ++ bytes → EndsLine bytes → EndsLine new
ends_more old bytes new grown e = (old ++ e.0, grown ∙ (ap (λ (t : List ℕ). old ++ t) e.1 ∙ sym (append_assoc old e.0 (10 ∷ []))))

pub line_stops : (source now : Option (List ℕ)) (old new : List ℕ) → IfSome source (λ xs. new ≡ old ++ take_through 10 xs) → DropsThrough source now 10 → StopsAtLineEnd source now new
line_stops None now old new known drops = tt
line_stops (Some xs) now old new known drops = by_end (ends_or_all xs)
  where
    by_end : EndsLine (take_through 10 xs) ⊎ (drop_through 10 xs ≡ []) → EndsLine new ⊎ IsAtEnd now
    by_end (inl e) = inl (ends_more old (take_through 10 xs) new known e)
    by_end (inr e) = inr (subst IsAtEnd (sym drops) e)

pub line_read : (source now : Option (List ℕ)) (old new : List ℕ) (n : ℕ) → StartsWith new old → length new ≡ length old + n → IfSome source (λ xs. new ≡ old ++ take_through 10 xs) → DropsThrough source now 10 → IsLineRead source now old new n
line_read None now old new n starts size known drops = record {
  bytes = drop (length old) new;
  grown = sym (take-append-drop (length old) new) ∙ ap (λ (t : List ℕ). t ++ drop (length old) new) starts;
  count = omega (arith, size, ap length (sym (take-append-drop (length old) new) ∙ ap (λ (t : List ℕ). t ++ drop (length old) new) starts), length-append old (drop (length old) new));
  taken = tt;
  at_end = λ z. tt;
}
line_read (Some xs) now old new n starts size known drops = record {
  bytes = take_through 10 xs;
  grown = known;
  count = omega (arith, size, ap length known, length-append old (take_through 10 xs));
  taken = subst (λ (o : Option (List ℕ)). Consumes (Some xs) o (take_through 10 xs)) (sym drops) (through xs);
  at_end = λ z. none_through xs (omega (arith, z, size, ap length known, length-append old (take_through 10 xs)));
}

pub consumes_both : (first mid last : Option (List ℕ)) (prefix bytes : List ℕ) → Consumes first mid prefix → Consumes mid last bytes → Consumes first last (prefix ++ bytes)
consumes_both None mid last prefix bytes p q = tt
consumes_both (Some xs) None last prefix bytes p q = absurd p
consumes_both (Some xs) (Some ys) None prefix bytes p q = q
consumes_both (Some xs) (Some ys) (Some zs) prefix bytes p q = p ∙ (ap (λ (t : List ℕ). prefix ++ t) q ∙ sym (append_assoc prefix bytes zs))

pub consumes_all : (first last : Option (List ℕ)) (text : List ℕ) → Consumes first last text → IsAtEnd last → IfSome first (λ all. text ≡ all)
consumes_all None last text h e = tt
consumes_all (Some xs) None text h e = absurd h
consumes_all (Some xs) (Some ys) text h e = sym (h ∙ (ap (λ (t : List ℕ). text ++ t) e ∙ append-nil text))

pub nothing_more : (old new bytes : List ℕ) → new ≡ old ++ bytes → length bytes ≡ 0 → new ≡ old
nothing_more old new [] e z = e ∙ append-nil old
nothing_more old new (b ∷ bs) e z = absurd (omega (arith, z))

-- ---- the beginning

pub consumes_nothing : (source : Option (List ℕ)) → Consumes source source []
consumes_nothing None = tt
consumes_nothing (Some xs) = refl

pub reads_on : (source mid now : Option (List ℕ)) (old new : List ℕ) (n : ℕ) → Consumes source mid old → IsLineRead mid now old new n → Consumes source now new
reads_on source mid now old new n h r = subst (Consumes source now) (sym r.grown) (consumes_both source mid now old r.bytes h r.taken)

pub is_all : (source mid now : Option (List ℕ)) (old new : List ℕ) (n : ℕ) → Consumes source mid old → IsLineRead mid now old new n → n ≡ 0 → IfSome source (λ all. new ≡ all)
is_all source mid now old new n h r z =
    subst (λ (t : List ℕ). IfSome source (λ all. t ≡ all)) (sym (nothing_more old new r.bytes r.grown (r.count ∙ z))) (consumes_all source mid old h (r.at_end z))

pub begins_short : (source mid now : Option (List ℕ)) (old new : List ℕ) (n : ℕ) → Consumes source mid old → IsLineRead mid now old new n → n ≡ 0 → IsBeginning source now new
begins_short source mid now old new n h r z = record { taken = reads_on source mid now old new n h r; enough = inr (is_all source mid now old new n h r z) }

-- ---- verdicts

judged : (source : Option (List ℕ)) (text : List ℕ) (verdict : Result Report CheckError) → IfSome source (λ all. text ≡ all) → (IsCountable text → Judges text verdict) → IsAudited source verdict
judged source text verdict given j = record {
  text = text;
  is_given = given;
  right = λ fits. record {
    says = is_said text verdict (j fits);
    accepts = legal_is_said text verdict (omega (arith, fits)) (j fits);
    refuses = fault_is_said text verdict (j fits);
  };
}

pub lacks_first_line : (source now : Option (List ℕ)) (bytes : List ℕ) → IsBeginning source now bytes → LacksHeader bytes → IsAudited source (Err (checks.Refused 1 Header))
lacks_first_line None now bytes b lacks = judged None (bytes ++ []) (Err (checks.Refused 1 Header)) tt (λ fits. lacks [] (inr refl))
lacks_first_line (Some xs) None bytes b lacks = absurd b.taken
lacks_first_line (Some xs) (Some ys) bytes b lacks = by_size b.enough
  where
    by_size : (8 ≤ length bytes) ⊎ (bytes ≡ xs) → IsAudited (Some xs) (Err (checks.Refused 1 Header))
    by_size (inl long) = judged (Some xs) (bytes ++ ys) (Err (checks.Refused 1 Header)) (sym b.taken) (λ fits. lacks ys (inl long))
    by_size (inr all) = judged (Some xs) (bytes ++ []) (Err (checks.Refused 1 Header)) (append-nil bytes ∙ all) (λ fits. lacks [] (inr refl))

-- ---- the loop

pub starts_reading : (source now : Option (List ℕ)) (bytes lines : List ℕ) (c : Checker) → Consumes source now bytes → HasBegun bytes c lines → IsReading source now c lines
starts_reading source now bytes lines c h b = record {
  before = header_of c.report.version;
  has_taken = λ fits. b.has_taken;
  taken = subst (Consumes source now) b.joined h;
}

pub moves_pending : (source now : Option (List ℕ)) (old new : Checker) (pending rest : List ℕ) → IsReading source now old pending → MovesOver old pending new rest → IsReading source now new rest
moves_pending source now old new pending rest h t =
    let joined : h.before ++ pending ≡ (h.before ++ t.taken) ++ rest = ap (λ (xs : List ℕ). h.before ++ xs) t.joined ∙ sym (append_assoc h.before t.taken rest) in
    record {
      before = h.before ++ t.taken;
      has_taken = λ fits. t.has_taken h.before (h.has_taken (omega (arith, fits, length-append h.before t.taken))) fits;
      taken = subst (Consumes source now) joined h.taken;
    }

pub takes_pending : (source now : Option (List ℕ)) (old new : Checker) (pending rest : List ℕ) → IsReading source now old pending → TakesLines old pending new rest → IsReading source now new rest
takes_pending source now old new pending rest h t = moves_pending source now old new pending rest h t.0

pub reads_line : (source mid now : Option (List ℕ)) (c : Checker) (old new : List ℕ) (n : ℕ) → IsReading source mid c old → IsLineRead mid now old new n → IsReading source now c new
reads_line source mid now c old new n h r = record {
  before = h.before;
  has_taken = h.has_taken;
  taken = subst (Consumes source now) (append_assoc h.before old r.bytes ∙ ap (λ (t : List ℕ). h.before ++ t) (sym r.grown)) (consumes_both source mid now (h.before ++ old) r.bytes h.taken r.taken);
}

pub refused_pending : (source now : Option (List ℕ)) (c : Checker) (pending : List ℕ) (e : AuditError) → IsReading source now c pending → RefusesPending c pending e → IsAuditedAs source e
refused_pending source now c pending errors.Read h r = tt
refused_pending source now c pending errors.NoSuchLine h r = tt
refused_pending source now c pending errors.TooLong h r = tt
refused_pending source now c pending (errors.Check checks.Memory) h r = tt
refused_pending source now c pending (errors.Check (checks.Refused line fault)) h r = by_source source now h.taken
  where
    verdict : Result Report CheckError
    verdict = Err (checks.Refused line fault)

    judges : (after : List ℕ) → IsCountable (h.before ++ (pending ++ after)) → Judges (h.before ++ (pending ++ after)) verdict
    judges after fits =
        let sizes = length-append h.before (pending ++ after) in
        let more = length-append pending after in
        r h.before after (h.has_taken (omega (arith, fits, sizes, more))) (omega (arith, fits, sizes, more, length-append h.before pending))

    by_source : (s n : Option (List ℕ)) → Consumes s n (h.before ++ pending) → IsAudited s verdict
    by_source None n k = judged None (h.before ++ (pending ++ [])) verdict tt (judges [])
    by_source (Some xs) None k = absurd k
    by_source (Some xs) (Some ys) k = judged (Some xs) (h.before ++ (pending ++ ys)) verdict (sym (append_assoc h.before pending ys) ∙ sym k) (judges ys)

pub refused_by_check : (c : Checker) (pending : List ℕ) (e : CheckError) → RefusesFrom c pending e → RefusesPending c pending (errors.Check e)
refused_by_check c pending checks.Memory r = tt
refused_by_check c pending (checks.Refused line fault) r = r

pub ends_by_check : (c : Checker) (pending : List ℕ) (e : CheckError) → EndsWith c pending (Err e) → EndsAs c pending (errors.Check e)
ends_by_check c pending checks.Memory h = tt
ends_by_check c pending (checks.Refused line fault) h = h

ended : (source mid now : Option (List ℕ)) (c : Checker) (old new : List ℕ) (n : ℕ) (verdict : Result Report CheckError) → IsReading source mid c old → IsLineRead mid now old new n → n ≡ 0 → EndsWith c new verdict → IsAudited source verdict
ended source mid now c old new n verdict h r z e =
    let same = nothing_more old new r.bytes r.grown (r.count ∙ z) in
    let small : IsCountable (h.before ++ new) → HasTaken c h.before = λ fits. h.has_taken (omega (arith, fits, length-append h.before new)) in
    record {
      text = h.before ++ new;
      is_given = subst (λ (t : List ℕ). IfSome source (λ all. h.before ++ t ≡ all)) (sym same) (consumes_all source mid (h.before ++ old) h.taken (r.at_end z));
      right = λ fits. record {
        says = e.says h.before (small fits) fits;
        accepts = e.accepts h.before (small fits) fits;
        refuses = e.refuses h.before (small fits) fits;
      };
    }

ended_as : (source mid now : Option (List ℕ)) (c : Checker) (old new : List ℕ) (n : ℕ) (e : AuditError) → IsReading source mid c old → IsLineRead mid now old new n → n ≡ 0 → EndsAs c new e → IsAuditedAs source e
ended_as source mid now c old new n errors.Read h r z k = tt
ended_as source mid now c old new n errors.NoSuchLine h r z k = tt
ended_as source mid now c old new n errors.TooLong h r z k = tt
ended_as source mid now c old new n (errors.Check checks.Memory) h r z k = tt
ended_as source mid now c old new n (errors.Check (checks.Refused line fault)) h r z k = ended source mid now c old new n (Err (checks.Refused line fault)) h r z k

pub accepted : (source mid now : Option (List ℕ)) (c : Checker) (old new shown : List ℕ) (n : ℕ) (r : Result Report AuditError) → IsReading source mid c old → IsLineRead mid now old new n → n ≡ 0 → shown ≡ new → IfOk r (λ report. EndsWith c shown (Ok report))
    → IfOk r (λ report. IsAudited source (Ok report))
accepted source mid now c old new shown n (Ok report) h l z same e = ended source mid now c old new n (Ok report) h l z (subst (λ (t : List ℕ). EndsWith c t (Ok report)) same e)
accepted source mid now c old new shown n (Err e) h l z same k = tt

pub refused : (source mid now : Option (List ℕ)) (c : Checker) (old new shown : List ℕ) (n : ℕ) (r : Result Report AuditError) → IsReading source mid c old → IsLineRead mid now old new n → n ≡ 0 → shown ≡ new → IfErr r (EndsAs c shown) → IfErr r (IsAuditedAs source)
refused source mid now c old new shown n (Ok report) h l z same e = tt
refused source mid now c old new shown n (Err e) h l z same k = ended_as source mid now c old new n e h l z (subst (λ (t : List ℕ). EndsAs c t e) same k)

-- ---- the rest of a text

pub keeps_known : (old mid now : Option (List ℕ)) (bytes : List ℕ) → Keeps old mid → Consumes mid now bytes → Consumes old now bytes
keeps_known None mid now bytes k h = tt
keeps_known (Some xs) None now bytes k h = absurd k
keeps_known (Some xs) (Some ys) None bytes k h = h
keeps_known (Some xs) (Some ys) (Some zs) bytes k h = sym k ∙ h

pub no_verdict : (source : Option (List ℕ)) (e : AuditError) → IsNoVerdict e → IsAuditedAs source e
no_verdict source errors.Read h = tt
no_verdict source errors.NoSuchLine h = tt
no_verdict source errors.TooLong h = tt
no_verdict source (errors.Check checks.Memory) h = tt
no_verdict source (errors.Check (checks.Refused line fault)) h = absurd h

-- A line was read, and the checker took it or refused it.
pub takes_next : (first now : Option (List ℕ)) (old new : Checker) (start pending rest : List ℕ) (n : ℕ) (r : Result (Unit {0}) AuditError)
    → IsLineRead first now start pending n → IfOk r (λ _. TakesLines old pending new rest) → OnOk r ((source : Option (List ℕ)) → IsReading source first old start → IsReading source now new rest)
takes_next first now old new start pending rest n (Ok x) l t = λ source h. takes_pending source now old new pending rest (reads_line source first now old start pending n h l) t
takes_next first now old new start pending rest n (Err e) l t = tt

pub refuses_next : (first now : Option (List ℕ)) (old : Checker) (start pending : List ℕ) (n : ℕ) (r : Result (Unit {0}) AuditError)
    → IsLineRead first now start pending n → IfErr r (RefusesPending old pending) → IfErr r (EndsReadingAs first old start)
refuses_next first now old start pending n (Ok x) l k = tt
refuses_next first now old start pending n (Err e) l k = λ source h. refused_pending source now old pending e (reads_line source first now old start pending n h l) k

pub rest_accepted : (first mid now : Option (List ℕ)) (old c : Checker) (start pending new shown : List ℕ) (n : ℕ) (r : Result Report AuditError)
    → ((source : Option (List ℕ)) → IsReading source first old start → IsReading source mid c pending) → IsLineRead mid now pending new n → n ≡ 0 → shown ≡ new
    → IfOk r (λ report. EndsWith c shown (Ok report)) → IfOk r (λ report. EndsReading first old start (Ok report))
rest_accepted first mid now old c start pending new shown n (Ok report) reads l z same e = λ source h. accepted source mid now c pending new shown n (Ok report) (reads source h) l z same e
rest_accepted first mid now old c start pending new shown n (Err e) reads l z same k = tt

pub rest_refused : (first mid now : Option (List ℕ)) (old c : Checker) (start pending new shown : List ℕ) (n : ℕ) (r : Result Report AuditError)
    → ((source : Option (List ℕ)) → IsReading source first old start → IsReading source mid c pending) → IsLineRead mid now pending new n → n ≡ 0 → shown ≡ new
    → IfErr r (EndsAs c shown) → IfErr r (EndsReadingAs first old start)
rest_refused first mid now old c start pending new shown n (Ok report) reads l z same e = tt
rest_refused first mid now old c start pending new shown n (Err e) reads l z same k = λ source h. refused source mid now c pending new shown n (Err e) (reads source h) l z same k

pub rest_is_audited : (source now : Option (List ℕ)) (c : Checker) (pending : List ℕ) (r : Result Report AuditError) → IsReading source now c pending → IfOk r (λ report. EndsReading now c pending (Ok report)) → IfOk r (λ report. IsAudited source (Ok report))
rest_is_audited source now c pending (Ok report) h e = e source h
rest_is_audited source now c pending (Err e) h k = tt

pub rest_is_audited_as : (source now : Option (List ℕ)) (c : Checker) (pending : List ℕ) (r : Result Report AuditError) → IsReading source now c pending → IfErr r (EndsReadingAs now c pending) → IfErr r (IsAuditedAs source)
rest_is_audited_as source now c pending (Ok report) h e = tt
rest_is_audited_as source now c pending (Err e) h k = k source h

-- ---- one line

pub explained : (source mid now : Option (List ℕ)) (c : Checker) (old pending : List ℕ) (n number : ℕ) (line : List ℕ) (ended : Bool) (x : Explained) → IsReading source mid c old → IsLineRead mid now old pending n → StopsAtLineEnd mid now pending → IsSplit pending line ended
    → c.report.steps + 2 ≡ number → SaysOfLine c line ended x → IsExplained source number x
unfolding reads_line
explained source mid now c old pending n number line ended x before r stops split numbered said = by_source source mid now ended said.ended_is before.taken (reads_line source mid now c old pending n before r).taken stops split
  where
    with_rest : (s : Option (List ℕ)) (after : List ℕ) (e : Bool) → x.is_ended ≡ e → IfSome s (λ all. (all ≡ before.before ++ (line ++ after)) × IsAfterLine e after) → IsExplained s number x
    with_rest s after e is is_given = record {
      checker = c;
      before = before.before;
      has_taken = before.has_taken;
      numbered = numbered;
      after = after;
      line = line;
      is_given = subst (λ (b : Bool). IfSome s (λ all. (all ≡ before.before ++ (line ++ after)) × IsAfterLine b after)) (sym is) is_given;
      said = subst (λ (b : Bool). SaysOfLine c line b x) (sym said.ended_is) said;
    }

    nothing_left : (ys : List ℕ) → EndsLine pending ⊎ (ys ≡ []) → (EndsLine pending → ⊥) → ys ≡ []
    nothing_left ys (inl e) open_end = absurd (open_end e)
    nothing_left ys (inr e) open_end = e

    by_source : (s m l : Option (List ℕ)) (e : Bool) → x.is_ended ≡ e → Consumes s m (before.before ++ old) → Consumes s l (before.before ++ pending) → StopsAtLineEnd m l pending → IsSplit pending line e → IsExplained s number x
    by_source None m l e is j k stops split = with_rest None [] e is tt
    by_source (Some xs) None l e is j k stops split = absurd j
    by_source (Some xs) (Some zs) None e is j k stops split = absurd k
    by_source (Some xs) (Some zs) (Some ys) false is j k stops whole =
        let text : xs ≡ before.before ++ (line ++ ys) = k ∙ (append_assoc before.before pending ys ∙ ap (λ (t : List ℕ). before.before ++ (t ++ ys)) whole.0) in
        with_rest (Some xs) [] false is (subst (λ (t : List ℕ). xs ≡ before.before ++ (line ++ t)) (nothing_left ys stops whole.1) text, refl)
    by_source (Some xs) (Some zs) (Some ys) true is j k stops cut =
        let text : xs ≡ before.before ++ (line ++ (10 ∷ ys)) =
        k ∙ (append_assoc before.before pending ys ∙ ap (λ (t : List ℕ). before.before ++ t) (ap (λ (t : List ℕ). t ++ ys) cut ∙ append_assoc line (10 ∷ []) ys)) in
        with_rest (Some xs) (10 ∷ ys) true is (text, (ys, refl))

-- A read from the beginning gives the first line.
pub first_line : (source now : Option (List ℕ)) (old line : List ℕ) (n : ℕ) → IsLineRead source now old line n → old ≡ [] → StopsAtLineEnd source now line → IsFirstLine source line
first_line None now old line n r empty stops = tt
first_line (Some xs) None old line n r empty stops = absurd r.taken
first_line (Some xs) (Some ys) old line n r empty stops =
    let grown : line ≡ r.bytes = r.grown ∙ ap (λ (t : List ℕ). t ++ r.bytes) empty in
    (ys, subst (λ (t : List ℕ). xs ≡ t ++ ys) (sym grown) r.taken, stops)
