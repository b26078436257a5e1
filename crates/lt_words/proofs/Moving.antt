-- Each access of a word keeps the rule, and tells its caller what specs/Rules says.
use Rattle.std.proofs.Common.{◌≡◌, ◌≢◌, ℕ, ◌+◌, ◌-◌, ◌<◌, ◌≤◌, ◌==◌, Bool, true, false, List, [], ◌∷◌, ◌++◌, length, set, refl, ap, sym, subst, ◌∙◌, inl, arith, append-nil, eq-eqb, ne_eqb, Option, None, MatchBool}
use mathlib.Core.List.{IsPrefix}
use prog.Atomic.{either}
use Rattle.logbook.specs.Pages.{Cell, cell, Act, keeps, cells_after, nib_after, Valid, Runs, View, no_nib, step, Moves}
use Rattle.logbook.proofs.Lists.{exchanged}
use Rattle.lt_entry.specs.declared.entry.Entry.{Entry}
use Rattle.lt_words.specs.declared.event.Event.{Event}
use Rattle.lt_words.specs.declared.event.Event.TheVariants.{Draw, Step}
use Rattle.lt_words.specs.declared.event.Logged.{Logged}
use Rattle.lt_words.specs.declared.event.Logged.TheVariants.{Happened, Shown, Took}
use Rattle.lt_words.specs.declared.event.Take.{Take}
use Rattle.lt_ids.specs.Ids.{value_of, IsNumber, IsWaitNumber}
use Rattle.lt_ids.specs.declared.ticket.Through.{Through}
use Rattle.lt_words.specs.History.{part, shard_of, MayFollow, LetIn, IsStatus}
use Rattle.lt_words.specs.Shown.{word_of, IsShown}
use Rattle.lt_words.specs.Takes.{taken_of}
use Rattle.lt_words.specs.Rules.{history_of, shown_of, takes_of, shards_in, passes_in, IsOpenLog, WordsMatchLog, DrawnGives, ReadGives, DrawGives, CommitGives, ExactGives, SignalGives, TakeGives, TakenGives}
use Rattle.lt_words.proofs.Prefixes.{prefix_trans}
use Rattle.lt_words.proofs.Histories.{part_same, let_later}
use Rattle.lt_words.proofs.Showing.{word_here, status_is}
use Rattle.lt_words.proofs.Logs.{history_prefix, history_on, shown_of-append, takes_of-append, takes_prefix, same_shards, same_passes}
use Rattle.lt_words.proofs.Cells.{kept_same, kept_draw, kept_step, kept_shown, kept_take}

-- what clients see of the log
abbrev pub bare : List Logged → List Logged
bare log = []

abbrev pub moved : List Logged → List Logged → ℕ → Type 0
moved xs ys n = Unit {0}

-- a view with no pen and no answer
abbrev pub at_rest : List Logged → View Logged ℕ
at_rest v = (v, (no_nib, None))

-- an exchange: the word was as expected and the log was extended, or nothing changed
pub exchanges : (k : ℕ) (v : List Logged) (old new : ℕ) (T : ℕ → View Logged ℕ → Type 0)
    → ((cs : List Cell) (log : List Logged) → WordsMatchLog cs log → IsPrefix v log → k < length cs)
    → ((cs : List Cell) (log : List Logged) → WordsMatchLog cs log → IsPrefix v log → (cell cs k).0 ≡ old → (more : List Logged) × WordsMatchLog (set cs k (new, true)) (log ++ more) × T old (at_rest (log ++ more)))
    → ((cs : List Cell) (log : List Logged) → WordsMatchLog cs log → IsPrefix v log → (cell cs k).0 ≢ old → T (cell cs k).0 (at_rest log))
    → Moves WordsMatchLog bare moved k (at_rest v) (λ n. either (n == old) new n) T
exchanges k v old new T inside hit miss cs log kept pre away =
    let here = inside cs log kept pre in
    let found = (cell cs k).0 in
    let F : ℕ → Type 0 = λ m. (a : Act) × (more : List Logged) × (t : Option ℕ) × Valid a no_nib × WordsMatchLog (cells_after a no_nib (set cs k (m, true))) (log ++ more) × Runs moved None t (bare log) (bare (log ++ more)) × T found (log ++ more, (nib_after a no_nib cs, t)) in
    let went : F (either (found == old) new found) =
    exchanged found old new F
    (λ e. let h = hit cs log kept pre e in (keeps, h.0, None, tt, h.1, inl (refl, refl), subst (λ (n : ℕ). T n (at_rest (log ++ h.0))) (sym e) h.2))
    (λ ne. (keeps, [], None, tt, kept_same cs log k kept here, inl (refl, refl), subst (λ (l : List Logged). T found (at_rest l)) (sym (append-nil log)) (miss cs log kept pre ne))) in
    (here, kept.home k here, went)

-- a load: nothing changes
pub loads : (k : ℕ) (v : List Logged) (T : ℕ → View Logged ℕ → Type 0)
    → ((cs : List Cell) (log : List Logged) → WordsMatchLog cs log → IsPrefix v log → k < length cs)
    → ((cs : List Cell) (log : List Logged) → WordsMatchLog cs log → IsPrefix v log → T (cell cs k).0 (at_rest log))
    → Moves WordsMatchLog bare moved k (at_rest v) (λ n. n) T
loads k v T inside tells cs log kept pre away =
    let here = inside cs log kept pre in
    (here, kept.home k here, (keeps, [], None, tt, kept_same cs log k kept here, inl (refl, refl), subst (λ (l : List Logged). T (cell cs k).0 (at_rest l)) (sym (append-nil log)) (tells cs log kept pre)))

match_true : (b : Bool) (P Q : Type 0) → b ≡ true → P → MatchBool b P Q
match_true b P Q e p = subst (λ (c : Bool). MatchBool c P Q) (sym e) p

match_false : (b : Bool) (P Q : Type 0) → b ≡ false → Q → MatchBool b P Q
match_false b P Q e q = subst (λ (c : Bool). MatchBool c P Q) (sym e) q

-- the number word is read
pub count_moves : (v : List Logged) (ask : Logged) → Moves WordsMatchLog bare moved 0 (at_rest v) (λ n. n) (DrawnGives (step 0 0 0 ask) (at_rest v))
count_moves v ask = loads 0 v (DrawnGives (step 0 0 0 ask) (at_rest v))
    (λ cs log kept pre. omega (arith, kept.many))
    (λ cs log kept pre. (kept.is_open, kept.number))

-- a status word is read
pub read_moves : (v : List Logged) (pass : ℕ) (ask : Logged) → IsOpenLog v → 0 < pass → pass ≤ passes_in v → Moves WordsMatchLog bare moved (pass + 128) (at_rest v) (λ n. n) (ReadGives (step (pass + 128) 0 0 ask) (at_rest v))
read_moves v pass ask is low high = loads (pass + 128) v (ReadGives (step (pass + 128) 0 0 ask) (at_rest v))
    (λ cs log kept pre. omega (arith, kept.many, same_passes v log is pre))
    (λ cs log kept pre.
    let back : (pass + 128) - 128 ≡ pass = omega arith in
    let word : (cell cs (pass + 128)).0 ≡ word_of pass (shown_of log) = kept.status pass low (omega (arith, high, same_passes v log is pre)) in
    let status : IsStatus (history_of log) pass (cell cs (pass + 128)).0 = subst (IsStatus (history_of log) pass) (sym word) (status_is (history_of log) pass (shown_of log) kept.is_open.let_through) in
    (kept.is_open, word ∙ ap (λ p. word_of p (shown_of log)) (sym back), subst (λ (p : ℕ). IsStatus (history_of log) p (cell cs (pass + 128)).0) (sym back) status))

-- the number word goes from old to old + 1
pub draw_moves : (v : List Logged) (pass old new : ℕ) → IsOpenLog v → new ≡ old + 1
    → Moves WordsMatchLog bare moved 0 (at_rest v) (λ n. either (n == old) new n) (DrawGives (step 0 old new (Happened (Draw pass new))) (at_rest v))
draw_moves v pass old new begun is =
    let T : ℕ → View Logged ℕ → Type 0 = DrawGives (step 0 old new (Happened (Draw pass new))) (at_rest v) in
    exchanges 0 v old new T
    (λ cs log kept pre. omega (arith, kept.many))
    (λ cs log kept pre e.
    let next = kept_draw cs log pass new kept (omega (arith, e, is)) in (
      Happened (Draw pass new) ∷ [],
      next,
      ((next.is_open, match_true (old == old) _ _ (eq-eqb old old refl) (history_of log, history_prefix v log begun pre, sym kept.number ∙ e, history_on log (Happened (Draw pass new) ∷ []) kept.is_open)), match_true (old == old) _ _ (eq-eqb old old refl) tt),
    ))
    (λ cs log kept pre ne.
    let other = ne_eqb (cell cs 0).0 old ne in
    ((kept.is_open, match_false ((cell cs 0).0 == old) _ _ other (history_prefix v log begun pre)), match_false ((cell cs 0).0 == old) _ _ other (λ e. ne (kept.number ∙ e))))

-- a step word goes from old to old + 1: the front's part of the shard has old steps, and the entry may follow them
pub step_moves : (v : List Logged) (front : List Event) (shard old new : ℕ) (entry : Entry) → IsOpenLog v → IsPrefix front (history_of v)
    → shard < 64 → length (part shard front) ≡ old → new ≡ old + 1 → shard ≡ shard_of entry.key (shards_in v) → MayFollow (part shard front) entry
    → Moves WordsMatchLog bare moved (shard + 1) (at_rest v) (λ n. either (n == old) new n) (CommitGives (step (shard + 1) old new (Happened (Step shard entry))) (at_rest v))
step_moves v front shard old new entry is begins small many one at may =
    let T : ℕ → View Logged ℕ → Type 0 = CommitGives (step (shard + 1) old new (Happened (Step shard entry))) (at_rest v) in
    exchanges (shard + 1) v old new T
    (λ cs log kept pre. omega (arith, kept.many))
    (λ cs log kept pre e.
    let ahead : IsPrefix front (history_of log) = prefix_trans front (history_of v) (history_of log) begins (history_prefix v log is pre) in
    let counted : length (part shard (history_of log)) ≡ old = sym (kept.steps shard small) ∙ e in
    let same : part shard front ≡ part shard (history_of log) = part_same shard old front (history_of log) ahead many counted in
    let next = kept_step cs log shard entry new kept small (omega (arith, e, one)) (at ∙ ap (shard_of entry.key) (sym (same_shards v log is pre))) (subst (λ (es : List Entry). MayFollow es entry) same may) in (
      Happened (Step shard entry) ∷ [],
      next,
      (next.is_open, match_true (old == old) _ _ (eq-eqb old old refl) (history_of log, history_prefix v log is pre, counted, history_on log (Happened (Step shard entry) ∷ []) kept.is_open)),
    ))
    (λ cs log kept pre ne. (kept.is_open, match_false ((cell cs (shard + 1)).0 == old) _ _ (ne_eqb (cell cs (shard + 1)).0 old ne) (history_prefix v log is pre)))

-- a step word goes from n to n
pub meet_moves : (v : List Logged) (shard old : ℕ) (ask : Logged) → shard < 64 → Moves WordsMatchLog bare moved (shard + 1) (at_rest v) (λ n. either (n == old) old n) (ExactGives (step (shard + 1) old old ask) (at_rest v))
meet_moves v shard old ask small =
    let back : (shard + 1) - 1 ≡ shard = omega arith in
    exchanges (shard + 1) v old old (ExactGives (step (shard + 1) old old ask) (at_rest v))
    (λ cs log kept pre. omega (arith, kept.many))
    (λ cs log kept pre e.
    let here : WordsMatchLog (set cs (shard + 1) (old, true)) (log ++ []) = subst (λ (n : ℕ). WordsMatchLog (set cs (shard + 1) (n, true)) (log ++ [])) e (kept_same cs log (shard + 1) kept (omega (arith, kept.many))) in
    let counted : length (part ((shard + 1) - 1) (history_of (log ++ []))) ≡ old = ap (λ s. length (part s (history_of (log ++ [])))) back ∙ (ap (λ l. length (part shard (history_of l))) (append-nil log) ∙ (sym (kept.steps shard small) ∙ e)) in
    ([], here, (here.is_open, match_true (old == old) _ _ (eq-eqb old old refl) counted)))
    (λ cs log kept pre ne. (kept.is_open, match_false ((cell cs (shard + 1)).0 == old) _ _ (ne_eqb (cell cs (shard + 1)).0 old ne) tt))

-- a status word goes up to a ticket that was let through
pub signal_moves : (v : List Logged) (old new : ℕ) (t : Through) → IsOpenLog v → 0 < t.pass → t.pass ≤ passes_in v → old < new → IsNumber t.ticket.number → IsWaitNumber t.ticket.wait → new ≡ value_of t.ticket → LetIn (history_of v) t.pass t.ticket
    → Moves WordsMatchLog bare moved (t.pass + 128) (at_rest v) (λ n. either (n == old) new n) (SignalGives (step (t.pass + 128) old new (Shown t)) (at_rest v))
signal_moves v old new t is low high below number wait value let_in =
    let T : ℕ → View Logged ℕ → Type 0 = SignalGives (step (t.pass + 128) old new (Shown t)) (at_rest v) in
    exchanges (t.pass + 128) v old new T
    (λ cs log kept pre. omega (arith, kept.many, same_passes v log is pre))
    (λ cs log kept pre e.
    let high2 : t.pass ≤ passes_in log = omega (arith, high, same_passes v log is pre) in
    let now : LetIn (history_of log) t.pass t.ticket = let_later (history_of v) (history_of log) t.pass t.ticket (history_prefix v log is pre) let_in in
    let next = kept_shown cs log t new kept low high2 (omega (arith, e, below)) value number wait now in
    let above : word_of t.pass (shown_of log) < value_of t.ticket = omega (arith, e, below, value, kept.status t.pass low high2) in
    let reached : IsShown (shown_of (log ++ Shown t ∷ [])) t.pass t.ticket = omega (arith, ap (word_of t.pass) (shown_of-append log (Shown t ∷ [])), word_here t.pass (shown_of log) t refl above) in
    (Shown t ∷ [], next, (next.is_open, match_true (old == old) _ _ (eq-eqb old old refl) (reached, tt))))
    (λ cs log kept pre ne.
    let back : (t.pass + 128) - 128 ≡ t.pass = omega arith in
    let word : (cell cs (t.pass + 128)).0 ≡ word_of t.pass (shown_of log) = kept.status t.pass low (omega (arith, high, same_passes v log is pre)) in
    (kept.is_open, match_false ((cell cs (t.pass + 128)).0 == old) _ _ (ne_eqb (cell cs (t.pass + 128)).0 old ne) (λ e. ne (word ∙ (ap (λ p. word_of p (shown_of log)) (sym back) ∙ e)))))

-- a take word goes from old to old + many
pub take_moves : (v : List Logged) (old new : ℕ) (t : Take) → t.shard < 64 → new ≡ old + t.many
    → Moves WordsMatchLog bare moved (t.shard + 65) (at_rest v) (λ n. either (n == old) new n) (TakeGives (step (t.shard + 65) old new (Took t)) (at_rest v))
take_moves v old new t small more =
    let back : (t.shard + 65) - 65 ≡ t.shard = omega arith in
    exchanges (t.shard + 65) v old new (TakeGives (step (t.shard + 65) old new (Took t)) (at_rest v))
    (λ cs log kept pre. omega (arith, kept.many, small))
    (λ cs log kept pre e.
    let next = kept_take cs log t new kept small (omega (arith, e, more)) in
    let counted : taken_of ((t.shard + 65) - 65) (takes_of log) ≡ old = ap (λ s. taken_of s (takes_of log)) back ∙ (sym (kept.takes t.shard small) ∙ e) in
    (Took t ∷ [], next, (next.is_open, match_true (old == old) _ _ (eq-eqb old old refl) (takes_of log, takes_prefix v log pre, counted, takes_of-append log (Took t ∷ [])))))
    (λ cs log kept pre ne. (kept.is_open, match_false ((cell cs (t.shard + 65)).0 == old) _ _ (ne_eqb (cell cs (t.shard + 65)).0 old ne) tt))

-- a take word goes from n to n
pub taken_moves : (v : List Logged) (shard old : ℕ) (ask : Logged) → shard < 64 → Moves WordsMatchLog bare moved (shard + 65) (at_rest v) (λ n. either (n == old) old n) (TakenGives (step (shard + 65) old old ask) (at_rest v))
taken_moves v shard old ask small =
    let back : (shard + 65) - 65 ≡ shard = omega arith in
    exchanges (shard + 65) v old old (TakenGives (step (shard + 65) old old ask) (at_rest v))
    (λ cs log kept pre. omega (arith, kept.many, small))
    (λ cs log kept pre e.
    let here : WordsMatchLog (set cs (shard + 65) (old, true)) (log ++ []) = subst (λ (n : ℕ). WordsMatchLog (set cs (shard + 65) (n, true)) (log ++ [])) e (kept_same cs log (shard + 65) kept (omega (arith, kept.many, small))) in
    let counted : taken_of ((shard + 65) - 65) (takes_of (log ++ [])) ≡ old = ap (λ s. taken_of s (takes_of (log ++ []))) back ∙ (ap (λ l. taken_of shard (takes_of l)) (append-nil log) ∙ (sym (kept.takes shard small) ∙ e)) in
    ([], here, (here.is_open, match_true (old == old) _ _ (eq-eqb old old refl) counted)))
    (λ cs log kept pre ne. (kept.is_open, match_false ((cell cs (shard + 65)).0 == old) _ _ (ne_eqb (cell cs (shard + 65)).0 old ne) tt))
