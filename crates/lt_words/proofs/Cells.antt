-- The row of words after one of them has changed.
use Rattle.std.proofs.Common.{◌≡◌, ◌≢◌, ℕ, zero, suc, ◌+◌, ◌<◌, ◌≤◌, ◌⊎◌, true, false, List, [], ◌∷◌, ◌++◌, length, set, get_or, refl, ap, sym, subst, ◌∙◌, inl, inr, ⊎_elim, arith, append-nil, length-append, length-set, get_or-set_same, get_or-set_other, eq-eqb, cond}
use mathlib.Core.Logic.{dite}
use native.Mathlib.Decide.{ℕ_discrete}
use Rattle.std.proofs.lemmas.List.{set-get_or}
use Rattle.logbook.specs.Pages.{Cell, cell}
use Rattle.lt_entry.specs.declared.entry.Entry.{Entry}
use Rattle.lt_ids.specs.Ids.{IsNumber, IsWaitNumber, value_of}
use Rattle.lt_ids.specs.declared.ticket.Through.{Through}
use Rattle.lt_words.specs.declared.event.Event.{Event}
use Rattle.lt_words.specs.declared.event.Event.TheVariants.{Draw, Step}
use Rattle.lt_words.specs.declared.event.Logged.{Logged}
use Rattle.lt_words.specs.declared.event.Logged.TheVariants.{Happened, Shown, Took}
use Rattle.lt_words.specs.declared.event.Take.{Take}
use Rattle.lt_words.specs.History.{part, draws_of, shard_of, IsLegalHistory, MayFollow, LetIn}
use Rattle.lt_words.specs.Shown.{word_of, AreLet}
use Rattle.lt_words.specs.Takes.{taken_of}
use Rattle.lt_words.specs.Rules.{WordsMatchLog, IsOpenLog, history_of, shown_of, takes_of, shards_in, passes_in}
use Rattle.lt_words.proofs.Histories.{part-append, draws_of-append, legal_draw, legal_step}
use Rattle.lt_words.proofs.Showing.{word_here, word_else, let_on, let_snoc}
use Rattle.lt_words.proofs.Taking.{taken_here, taken_else}
use Rattle.lt_words.proofs.Logs.{history_on, shown_of-append, takes_of-append, passes_on, open_on}

abbrev pub off : Cell
off = (0, false)

-- the word at j, after the word at k was set
pub by_index : (cs : List Cell) (j k : ℕ) (c : Cell) (P : Cell → Type 0) → k < length cs → (j ≡ k → P c) → (j ≢ k → P (cell cs j)) → P (cell (set cs k c) j)
by_index cs j k c P inside hit miss =
    dite (ℕ_discrete j k)
    (λ e. subst P (sym (ap (λ i. get_or (set cs k c) i off) e ∙ get_or-set_same cs k c off inside)) (hit e))
    (λ ne. subst P (sym (get_or-set_other cs k j c off ne)) (miss ne))

home_after : (cs : List Cell) (k n : ℕ) → k < length cs → ((j : ℕ) → j < length cs → (cell cs j).1 ≡ true) → (j : ℕ) → j < length (set cs k (n, true)) → (cell (set cs k (n, true)) j).1 ≡ true
home_after cs k n inside home j lt = by_index cs j k (n, true) (λ c. c.1 ≡ true) inside (λ e. refl) (λ ne. home j (omega (arith, length-set cs k (n, true))))

-- nothing changes
pub kept_same : (cs : List Cell) (log : List Logged) (k : ℕ) → WordsMatchLog cs log → k < length cs → WordsMatchLog (set cs k ((cell cs k).0, true)) (log ++ [])
kept_same cs log k kept inside =
    let at : (cell cs k).1 ≡ true = kept.home k inside in
    let whole : ((cell cs k).0, true) ≡ cell cs k = λ i. ((cell cs k).0, sym at i) in
    let row : set cs k ((cell cs k).0, true) ≡ cs = ap (λ c. set cs k c) whole ∙ set-get_or cs k off in
    subst (λ (t : List Cell × List Logged). WordsMatchLog t.0 t.1) (λ i. (sym row i, sym (append-nil log) i)) kept

-- a log with one more event
happened : (log : List Logged) (e : Event) → IsOpenLog log → IsLegalHistory (shards_in log) (history_of log ++ e ∷ []) → IsOpenLog (log ++ Happened e ∷ [])
happened log e is legal = open_on log (Happened e ∷ []) is legal
    (subst (λ (ts : List Through). AreLet (history_of log ++ e ∷ []) ts) (sym (append-nil (shown_of log))) (let_on (history_of log) (e ∷ []) (shown_of log) is.let_through))

-- an event shows nothing
same_shown : (log : List Logged) (e : Event) → shown_of (log ++ Happened e ∷ []) ≡ shown_of log
same_shown log e = shown_of-append log (Happened e ∷ []) ∙ append-nil (shown_of log)

-- an event takes nothing out
same_takes : (log : List Logged) (e : Event) → takes_of (log ++ Happened e ∷ []) ≡ takes_of log
same_takes log e = takes_of-append log (Happened e ∷ []) ∙ append-nil (takes_of log)

-- the number word counts one more draw
pub kept_draw : (cs : List Cell) (log : List Logged) (p : ℕ) (n : ℕ) → WordsMatchLog cs log → (cell cs 0).0 + 1 ≡ n → WordsMatchLog (set cs 0 (n, true)) (log ++ Happened (Draw p n) ∷ [])
kept_draw cs log p n kept e =
    let inside : 0 < length cs = omega (arith, kept.many) in
    let h = history_of log in
    let more = Draw p n ∷ [] in
    let history : history_of (log ++ Happened (Draw p n) ∷ []) ≡ h ++ more = history_on log (Happened (Draw p n) ∷ []) kept.is_open in
    let passes = passes_on log (Happened (Draw p n) ∷ []) kept.is_open in record {
      is_open = happened log (Draw p n) kept.is_open (legal_draw (shards_in log) h p n kept.is_open.legal (omega (arith, kept.number)));
      many = length-set cs 0 (n, true) ∙ (kept.many ∙ ap (λ k. k + 129) (sym passes));
      home = home_after cs 0 n inside kept.home;
      number = by_index cs 0 0 (n, true) (λ c. c.0 ≡ draws_of (history_of (log ++ Happened (Draw p n) ∷ []))) inside (λ _. omega (arith, ap draws_of history, draws_of-append h more, kept.number)) (λ ne. absurd (ne refl));
      steps = λ s lt. by_index cs (s + 1) 0 (n, true) (λ c. c.0 ≡ length (part s (history_of (log ++ Happened (Draw p n) ∷ [])))) inside (λ z. absurd (omega arith))
          (λ _. kept.steps s lt ∙ sym (ap length (ap (part s) history ∙ (part-append s h more ∙ append-nil (part s h)))));
      takes = λ s lt. by_index cs (s + 65) 0 (n, true) (λ c. c.0 ≡ taken_of s (takes_of (log ++ Happened (Draw p n) ∷ []))) inside (λ z. absurd (omega arith))
          (λ _. kept.takes s lt ∙ ap (taken_of s) (sym (same_takes log (Draw p n))));
      status = λ q low high. by_index cs (q + 128) 0 (n, true) (λ c. c.0 ≡ word_of q (shown_of (log ++ Happened (Draw p n) ∷ []))) inside (λ z. absurd (omega arith))
          (λ _. kept.status q low (omega (arith, high, passes)) ∙ ap (word_of q) (sym (same_shown log (Draw p n))));
    }

part_one : (s : ℕ) (e : Entry) → part s (Step s e ∷ []) ≡ e ∷ []
part_one s e = rw (eq-eqb s s refl) refl

part_none : (s t : ℕ) (e : Entry) → s ≢ t → part s (Step t e ∷ []) ≡ []
part_none s t e ne = rw (Rattle.std.proofs.Common.ne_eqb s t ne) refl

pub part_snoc : (s : ℕ) (h : List Event) (e : Entry) → part s (h ++ Step s e ∷ []) ≡ part s h ++ e ∷ []
part_snoc s h e = part-append s h (Step s e ∷ []) ∙ ap (λ l. part s h ++ l) (part_one s e)

pub part_else : (s t : ℕ) (h : List Event) (e : Entry) → s ≢ t → part s (h ++ Step t e ∷ []) ≡ part s h
part_else s t h e ne = part-append s h (Step t e ∷ []) ∙ (ap (λ l. part s h ++ l) (part_none s t e ne) ∙ append-nil (part s h))

-- a step word counts one more step of its shard
pub kept_step : (cs : List Cell) (log : List Logged) (t : ℕ) (e : Entry) (n : ℕ) → WordsMatchLog cs log → t < 64 → (cell cs (t + 1)).0 + 1 ≡ n → t ≡ shard_of e.key (shards_in log) → MayFollow (part t (history_of log)) e
    → WordsMatchLog (set cs (t + 1) (n, true)) (log ++ Happened (Step t e) ∷ [])
kept_step cs log t e n kept small is at may =
    let inside : t + 1 < length cs = omega (arith, kept.many) in
    let h = history_of log in
    let more = Step t e ∷ [] in
    let new = log ++ Happened (Step t e) ∷ [] in
    let history : history_of new ≡ h ++ more = history_on log (Happened (Step t e) ∷ []) kept.is_open in
    let passes = passes_on log (Happened (Step t e) ∷ []) kept.is_open in record {
      is_open = happened log (Step t e) kept.is_open (legal_step (shards_in log) h t e kept.is_open.legal at may);
      many = length-set cs (t + 1) (n, true) ∙ (kept.many ∙ ap (λ k. k + 129) (sym passes));
      home = home_after cs (t + 1) n inside kept.home;
      number = by_index cs 0 (t + 1) (n, true) (λ c. c.0 ≡ draws_of (history_of new)) inside (λ z. absurd (omega arith)) (λ _. omega (arith, ap draws_of history, draws_of-append h more, kept.number));
      steps = λ s lt. by_index cs (s + 1) (t + 1) (n, true) (λ c. c.0 ≡ length (part s (history_of new))) inside
          (λ z. let same : s ≡ t = omega arith in
          subst (λ (r : ℕ). n ≡ length (part r (history_of new))) (sym same) (omega (arith, kept.steps t small, ap (λ l. length (part t l)) history, ap length (part_snoc t h e), length-append (part t h) (e ∷ []))))
          (λ ne. kept.steps s lt ∙ sym (ap length (ap (part s) history ∙ part_else s t h e (λ z. ne (ap (λ r. r + 1) z)))));
      takes = λ s lt. by_index cs (s + 65) (t + 1) (n, true) (λ c. c.0 ≡ taken_of s (takes_of new)) inside (λ z. absurd (omega (arith, small, z)))
          (λ _. kept.takes s lt ∙ ap (taken_of s) (sym (same_takes log (Step t e))));
      status = λ q low high. by_index cs (q + 128) (t + 1) (n, true) (λ c. c.0 ≡ word_of q (shown_of new)) inside (λ z. absurd (omega arith))
          (λ _. kept.status q low (omega (arith, high, passes)) ∙ ap (word_of q) (sym (same_shown log (Step t e))));
    }

-- a status word shows a let whose ticket is above everything that the word has shown
pub kept_shown : (cs : List Cell) (log : List Logged) (t : Through) (n : ℕ) → WordsMatchLog cs log → 0 < t.pass → t.pass ≤ passes_in log → (cell cs (t.pass + 128)).0 < n → n ≡ value_of t.ticket → IsNumber t.ticket.number → IsWaitNumber t.ticket.wait → LetIn (history_of log) t.pass t.ticket
    → WordsMatchLog (set cs (t.pass + 128) (n, true)) (log ++ Shown t ∷ [])
kept_shown cs log t n kept low high below value number wait through =
    let p = t.pass in
    let inside : p + 128 < length cs = omega (arith, kept.many) in
    let h = history_of log in
    let new = log ++ Shown t ∷ [] in
    let history : history_of new ≡ h = history_on log (Shown t ∷ []) kept.is_open ∙ append-nil h in
    let shown : shown_of new ≡ shown_of log ++ t ∷ [] = shown_of-append log (Shown t ∷ []) in
    let passes = passes_on log (Shown t ∷ []) kept.is_open in record {
      is_open = open_on log (Shown t ∷ []) kept.is_open (subst (IsLegalHistory (shards_in log)) (sym (append-nil h)) kept.is_open.legal)
          (subst (λ (l : List Event). AreLet l (shown_of log ++ t ∷ [])) (sym (append-nil h)) (let_snoc h (shown_of log) t kept.is_open.let_through number wait through));
      many = length-set cs (p + 128) (n, true) ∙ (kept.many ∙ ap (λ k. k + 129) (sym passes));
      home = home_after cs (p + 128) n inside kept.home;
      number = by_index cs 0 (p + 128) (n, true) (λ c. c.0 ≡ draws_of (history_of new)) inside (λ z. absurd (omega arith)) (λ _. kept.number ∙ ap draws_of (sym history));
      steps = λ s lt. by_index cs (s + 1) (p + 128) (n, true) (λ c. c.0 ≡ length (part s (history_of new))) inside (λ z. absurd (omega arith)) (λ _. kept.steps s lt ∙ ap (λ l. length (part s l)) (sym history));
      takes = λ s lt. by_index cs (s + 65) (p + 128) (n, true) (λ c. c.0 ≡ taken_of s (takes_of new)) inside (λ z. absurd (omega (arith, lt, z, low)))
          (λ _. kept.takes s lt ∙ ap (taken_of s) (sym (takes_of-append log (Shown t ∷ []) ∙ append-nil (takes_of log))));
      status = λ q q-low q-high. by_index cs (q + 128) (p + 128) (n, true) (λ c. c.0 ≡ word_of q (shown_of new)) inside
          (λ z. let same : q ≡ p = omega arith in
          let above : word_of q (shown_of log) < value_of t.ticket = omega (arith, below, value, ap (λ (r : ℕ). (cell cs (r + 128)).0) same, kept.status q q-low (omega (arith, q-high, passes))) in
          value ∙ (sym (word_here q (shown_of log) t same above) ∙ ap (word_of q) (sym shown)))
          (λ ne. kept.status q q-low (omega (arith, q-high, passes)) ∙ (sym (word_else q (shown_of log) t (λ z. ne (ap (λ r. r + 128) z))) ∙ ap (word_of q) (sym shown)));
    }

-- a take word counts the steps that one more take took out
pub kept_take : (cs : List Cell) (log : List Logged) (t : Take) (n : ℕ) → WordsMatchLog cs log → t.shard < 64 → (cell cs (t.shard + 65)).0 + t.many ≡ n
    → WordsMatchLog (set cs (t.shard + 65) (n, true)) (log ++ Took t ∷ [])
kept_take cs log t n kept small is =
    let k = t.shard in
    let inside : k + 65 < length cs = omega (arith, kept.many, small) in
    let h = history_of log in
    let new = log ++ Took t ∷ [] in
    let history : history_of new ≡ h = history_on log (Took t ∷ []) kept.is_open ∙ append-nil h in
    let shown : shown_of new ≡ shown_of log = shown_of-append log (Took t ∷ []) ∙ append-nil (shown_of log) in
    let takes : takes_of new ≡ takes_of log ++ t ∷ [] = takes_of-append log (Took t ∷ []) in
    let passes = passes_on log (Took t ∷ []) kept.is_open in record {
      is_open = open_on log (Took t ∷ []) kept.is_open (subst (IsLegalHistory (shards_in log)) (sym (append-nil h)) kept.is_open.legal)
          (subst (λ (p : List Event × List Through). AreLet p.0 p.1) (λ i. (sym (append-nil h) i, sym (append-nil (shown_of log)) i)) kept.is_open.let_through);
      many = length-set cs (k + 65) (n, true) ∙ (kept.many ∙ ap (λ m. m + 129) (sym passes));
      home = home_after cs (k + 65) n inside kept.home;
      number = by_index cs 0 (k + 65) (n, true) (λ c. c.0 ≡ draws_of (history_of new)) inside (λ z. absurd (omega arith)) (λ _. kept.number ∙ ap draws_of (sym history));
      steps = λ s lt. by_index cs (s + 1) (k + 65) (n, true) (λ c. c.0 ≡ length (part s (history_of new))) inside (λ z. absurd (omega (arith, lt, z))) (λ _. kept.steps s lt ∙ ap (λ l. length (part s l)) (sym history));
      takes = λ s lt. by_index cs (s + 65) (k + 65) (n, true) (λ c. c.0 ≡ taken_of s (takes_of new)) inside
          (λ z. let same : s ≡ k = omega arith in
          subst (λ (r : ℕ). n ≡ taken_of r (takes_of new)) (sym same) (omega (arith, is, kept.takes k small, ap (taken_of k) takes, taken_here (takes_of log) t)))
          (λ ne. kept.takes s lt ∙ (sym (taken_else s (takes_of log) t (λ z. ne (ap (λ r. r + 65) z))) ∙ ap (taken_of s) (sym takes)));
      status = λ q low high. by_index cs (q + 128) (k + 65) (n, true) (λ c. c.0 ≡ word_of q (shown_of new)) inside (λ z. absurd (omega (arith, small, z, low)))
          (λ _. kept.status q low (omega (arith, high, passes)) ∙ ap (word_of q) (sym shown));
    }
