-- Pieces of a text are checked by themselves and joined to a checked prefix.
use Rattle.std.proofs.Common.{◌≡◌, ℕ, ◌+◌, ◌-◌, ◌≤◌, List, [], ◌∷◌, ◌++◌, length, get_or, take, drop, Option, Some, None, refl, sym, ap, subst, ◌∙◌, inl, inr, append_assoc, arith, length-append}
use Rattle.std.specs.Prelude.{IfSome}
use Rattle.std.specs.Option.{option_map}
use Rattle.std.specs.Io.KnownBytes.{Consumes, prepend_known}
use Rattle.std.specs.Io.Buffered.{reader_inner, reader_buffer, reader_capacity, reader_remaining}
use Rattle.std.specs.declared.io.buffered.BufReader.{BufReader}
use Rattle.std.proofs.lemmas.List.{append-nil, take-append-drop, drop-drop}
use Rattle.lt_checker.specs.declared.pieces.Checker.{Checker}
use Rattle.lt_checker.specs.Pieces.{IsCountable, HasTaken, HasBegun, MovesOver, TakesBoth}
use Rattle.lt_checker.specs.Version.{IsVersion, header_of}
use Rattle.lt_trace_check.specs.declared.parallel.CheckedPiece.{CheckedPiece}
use Rattle.lt_trace_check.specs.declared.parallel.CheckedPrefix.{CheckedPrefix}
use Rattle.lt_trace_check.specs.Audit.{IsLineRead}
use Rattle.lt_trace_check.specs.KnownText.{known_from}
use Rattle.lt_trace_check.specs.Parallel.{IsTaking, TakesAll, IsCheckedPiece, IsCheckedPrefix, KeepsPrefix}
use Rattle.lt_trace_check.proofs.Streams.{consumes_both, consumes_all, consumes_nothing, nothing_more}

-- ---- the first line

eight_long : (version : ℕ) → IsVersion version → length (header_of version) ≡ 8
eight_long version (inl e) = subst (λ (v : ℕ). length (header_of v) ≡ 8) (sym e) refl
eight_long version (inr e) = subst (λ (v : ℕ). length (header_of v) ≡ 8) (sym e) refl

after_eight : (version : ℕ) (rest : List ℕ) → IsVersion version → drop 8 (header_of version ++ rest) ≡ rest
after_eight version rest (inl e) = subst (λ (v : ℕ). drop 8 (header_of v ++ rest) ≡ rest) (sym e) refl
after_eight version rest (inr e) = subst (λ (v : ℕ). drop 8 (header_of v ++ rest) ≡ rest) (sym e) refl

not_both : (xs ys : List ℕ) → header_of 1 ++ xs ≡ header_of 2 ++ ys → ⊥
not_both xs ys e = absurd (omega (arith, ap (λ (t : List ℕ). get_or t 6 0) e))

same_version : (v w : ℕ) (xs ys : List ℕ) → IsVersion v → IsVersion w → header_of v ++ xs ≡ header_of w ++ ys → v ≡ w
same_version v w xs ys (inl a) (inl b) e = a ∙ sym b
same_version v w xs ys (inl a) (inr b) e = absurd (not_both xs ys (subst (λ (n : ℕ). header_of 1 ++ xs ≡ header_of n ++ ys) b (subst (λ (n : ℕ). header_of n ++ xs ≡ header_of w ++ ys) a e)))
same_version v w xs ys (inr a) (inl b) e = absurd (not_both ys xs (sym (subst (λ (n : ℕ). header_of 2 ++ xs ≡ header_of n ++ ys) b (subst (λ (n : ℕ). header_of n ++ xs ≡ header_of w ++ ys) a e))))
same_version v w xs ys (inr a) (inr b) e = a ∙ sym b

-- ---- all lines of a reader

pub takes_nothing : (source : Option (List ℕ)) (c : Checker) → IsTaking source source c c []
takes_nothing source c = record {
  lines = [];
  goes_on = λ before h fits. subst (HasTaken c) (sym (append-nil before)) h;
  taken = consumes_nothing source;
}

pub takes_chunk : (source mid now : Option (List ℕ)) (old c : Checker) (pending new : List ℕ) (n : ℕ) → IsTaking source mid old c pending → IsLineRead mid now pending new n → IsTaking source now old c new
takes_chunk source mid now old c pending new n t r = record {
  lines = t.lines;
  goes_on = t.goes_on;
  taken = subst (Consumes source now) (append_assoc t.lines pending r.bytes ∙ ap (λ (xs : List ℕ). t.lines ++ xs) (sym r.grown)) (consumes_both source mid now (t.lines ++ pending) r.bytes t.taken r.taken);
}

pub takes_moved : (source now : Option (List ℕ)) (first old new : Checker) (pending rest : List ℕ) → IsTaking source now first old pending → MovesOver old pending new rest → IsTaking source now first new rest
takes_moved source now first old new pending rest t m = record {
  lines = t.lines ++ m.taken;
  goes_on = λ before h fits.
      let sizes = length-append before (t.lines ++ m.taken) in
      let more = length-append t.lines m.taken in
      let joined = append_assoc before t.lines m.taken in
      subst (HasTaken new) joined
      (m.has_taken (before ++ t.lines) (t.goes_on before h (omega (arith, fits, sizes, more, length-append before t.lines))) (subst IsCountable (sym joined) fits));
  taken = subst (Consumes source now) (ap (λ (xs : List ℕ). t.lines ++ xs) m.joined ∙ sym (append_assoc t.lines m.taken rest)) t.taken;
}

is_nil : (xs : List ℕ) → length xs ≡ 0 → xs ≡ []
is_nil [] e = refl
is_nil (x ∷ xs) e = absurd (omega (arith, e))

pub takes_all : (source mid now : Option (List ℕ)) (old c : Checker) (pending new : List ℕ) (n : ℕ) → IsTaking source mid old c pending → IsLineRead mid now pending new n → n ≡ 0 → length new ≡ 0 → TakesAll source old c
takes_all source mid now old c pending new n t r z empty =
    let none : pending ≡ [] = sym (nothing_more pending new r.bytes r.grown (r.count ∙ z)) ∙ is_nil new empty in
    record {
      lines = t.lines;
      is_all = subst (λ (xs : List ℕ). IfSome source (λ all. xs ≡ all)) (ap (λ (xs : List ℕ). t.lines ++ xs) none ∙ append-nil t.lines) (consumes_all source mid (t.lines ++ pending) t.taken (r.at_end z));
      goes_on = t.goes_on;
    }

-- ---- one piece

pub is_piece : (known source : Option (List ℕ)) (version from to : ℕ) (new c : Checker) → IsVersion version → from ≤ to → source ≡ option_map (take (to - from)) (known_from known from) → HasTaken new (header_of version) → TakesAll source new c
    → IsCheckedPiece known version record { from = from; to = to; checker = c }
is_piece known source version from to new c is ordered same begun t = record {
  is_version = is;
  lines = t.lines;
  stands = by_text known (subst (λ (s : Option (List ℕ)). IfSome s (λ all. t.lines ≡ all)) same t.is_all);
  has_taken = λ fits. t.goes_on (header_of version) begun fits;
}
  where
    by_text : (k : Option (List ℕ)) → IfSome (option_map (take (to - from)) (known_from k from)) (λ all. t.lines ≡ all) → Consumes (known_from k from) (known_from k to) t.lines
    by_text None h = tt
    by_text (Some all) h =
        let there : from + (to - from) ≡ to = omega (arith, ordered) in
        sym (take-append-drop (to - from) (drop from all))
        ∙ (ap (λ (xs : List ℕ). xs ++ drop (to - from) (drop from all)) (sym h) ∙ ap (λ (xs : List ℕ). t.lines ++ xs) (drop-drop (to - from) from all ∙ ap (λ (n : ℕ). drop n all) there))

-- ---- a prefix

pub begins : (known now : Option (List ℕ)) (first lines : List ℕ) (c : Checker) → Consumes (known_from known 0) now first → HasBegun first c lines → IsCheckedPrefix known record { version = c.report.version; to = 8; checker = c }
begins known now first lines c h b = record {
  is_version = b.has_taken.is_version;
  reading = record {
    before = header_of c.report.version;
    has_taken = λ fits. b.has_taken;
    taken = by_text known now h;
  };
}
  where
    by_text : (k n : Option (List ℕ)) → Consumes (known_from k 0) n first → Consumes k (known_from k 8) (header_of c.report.version ++ [])
    by_text None n e = tt
    by_text (Some all) None e = absurd e
    by_text (Some all) (Some ys) e =
        let whole : all ≡ header_of c.report.version ++ (lines ++ ys) = e ∙ (ap (λ (xs : List ℕ). xs ++ ys) b.joined ∙ append_assoc (header_of c.report.version) lines ys) in
        let rest : drop 8 all ≡ lines ++ ys = ap (drop 8) whole ∙ after_eight c.report.version (lines ++ ys) b.has_taken.is_version in
        whole ∙ (ap (λ (xs : List ℕ). header_of c.report.version ++ xs) (sym rest) ∙ ap (λ (xs : List ℕ). xs ++ drop 8 all) (sym (append-nil (header_of c.report.version))))

pub joins : (known : Option (List ℕ)) (version : ℕ) (p : CheckedPrefix) (q : CheckedPiece) (both : Checker) → p.to ≡ q.from → TakesBoth p.checker q.checker both → IsCheckedPiece known version q
    → KeepsPrefix known p record { version = p.version; to = q.to; checker = both }
joins known version p q both there takes piece prefix =
    let h = prefix.reading in
    let before = h.before in
    let meets : Consumes (known_from known p.to) (known_from known q.to) piece.lines = subst (λ (n : ℕ). Consumes (known_from known n) (known_from known q.to) piece.lines) (sym there) piece.stands in
    record {
      is_version = prefix.is_version;
      reading = record {
        before = before ++ piece.lines;
        has_taken = λ fits.
            let size = length-append before piece.lines in
            let taken : HasTaken p.checker before = h.has_taken (omega (arith, fits, size)) in
            let long = eight_long p.checker.report.version taken.is_version in
            let headed = length-append (header_of version) piece.lines in
            let first = eight_long version piece.is_version in
            let begins_so = ap length taken.joined in
            let k : HasTaken q.checker (header_of version ++ piece.lines) = piece.has_taken (omega (arith, fits, size, long, headed, first, begins_so, length-append {A = ℕ})) in
            let same : q.checker.report.version ≡ version = sym (same_version version q.checker.report.version piece.lines _ piece.is_version k.is_version k.joined) in
            takes before piece.lines taken (subst (λ (v : ℕ). HasTaken q.checker (header_of v ++ piece.lines)) (sym same) k) fits;
        taken = subst (Consumes known (known_from known q.to)) (sym (append-nil (before ++ piece.lines)))
            (consumes_both known (known_from known p.to) (known_from known q.to) before piece.lines (subst (Consumes known (known_from known p.to)) (append-nil before) h.taken) meets);
      };
    }

-- ---- a fresh reader

pub fresh : {T A : Type 0} (remaining : T → Option (List ℕ)) (r : BufReader T A) (inner : T) → reader_inner r ≡ inner → reader_buffer r ≡ [] → reader_capacity r ≡ 65536 → reader_remaining remaining r ≡ remaining inner
fresh remaining r inner i b k = rw (k, b) (nothing_before (remaining r.inner) ∙ ap remaining i)
  where
    nothing_before : (o : Option (List ℕ)) → prepend_known [] o ≡ o
    nothing_before None = refl
    nothing_before (Some xs) = refl

pub from_start : (known : Option (List ℕ)) → known_from known 0 ≡ known
from_start None = refl
from_start (Some all) = refl
