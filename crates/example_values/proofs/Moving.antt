-- Each access of a word keeps the rule, and tells its caller what specs/Values says.
use Rattle.std.proofs.Common.{◌≡◌, ◌≢◌, ℕ, zero, suc, ◌+◌, ◌<◌, ◌≤◌, ◌==◌, Bool, true, false, List, [], ◌∷◌, ◌++◌, length, set, get_or, replicate, refl, ap, sym, subst, ◌∙◌, inl, arith, append-nil, length-set, get_or-set_same, get_or-set_other, eqb, eq-eqb, ne_eqb, cond, ◌&&◌, Option, Some, None, MatchBool}
use Rattle.std.specs.List.{AllByRecursion}
use Rattle.std.proofs.lemmas.List.{set-get_or, length-replicate, get_or-replicate}
use mathlib.Core.List.{IsPrefix}
use mathlib.Core.Logic.{dite}
use native.Mathlib.Decide.{ℕ_discrete}
use prog.Atomic.{either}
use Rattle.logbook.specs.Pages.{Cell, cell, Act, keeps, cells_after, nib_after, Valid, Runs, View, no_nib, step, Moves}
use Rattle.logbook.proofs.Lists.{exchanged}
use Rattle.example_values.specs.declared.entry.LeftValue.{LeftValue}
use Rattle.example_values.specs.Values.{is_of_step, said_of, WordsBound, WordReadGives, LeaveGives, EntriesStay}

-- what clients see of the log
abbrev pub bare : List LeftValue → List LeftValue
bare log = []

abbrev pub moved : List LeftValue → List LeftValue → ℕ → Type 0
moved xs ys n = Unit {0}

-- a view with no pen and no answer
abbrev pub at_rest : List LeftValue → View LeftValue ℕ
at_rest v = (v, (no_nib, None))

abbrev off : Cell
off = (0, false)

-- the word at j, after the word at k was set
by_index : (cs : List Cell) (j k : ℕ) (c : Cell) (P : Cell → Type 0) → k < length cs → (j ≡ k → P c) → (j ≢ k → P (cell cs j)) → P (cell (set cs k c) j)
by_index cs j k c P inside hit miss =
    dite (ℕ_discrete j k)
    (λ e. subst P (sym (ap (λ i. get_or (set cs k c) i off) e ∙ get_or-set_same cs k c off inside)) (hit e))
    (λ ne. subst P (sym (get_or-set_other cs k j c off ne)) (miss ne))

-- nothing changes
kept_same : (cs : List Cell) (log : List LeftValue) (k : ℕ) → WordsBound cs log → k < length cs → WordsBound (set cs k ((cell cs k).0, true)) (log ++ [])
kept_same cs log k kept inside =
    let at : (cell cs k).1 ≡ true = kept.home k inside in
    let whole : ((cell cs k).0, true) ≡ cell cs k = λ i. ((cell cs k).0, sym at i) in
    let row : set cs k ((cell cs k).0, true) ≡ cs = ap (λ c. set cs k c) whole ∙ set-get_or cs k off in
    subst (λ (t : List Cell × List LeftValue). WordsBound t.0 t.1) (λ i. (sym row i, sym (append-nil log) i)) kept

all_mono : (P Q : LeftValue → Type 0) (log : List LeftValue) → ((e : LeftValue) → P e → Q e) → AllByRecursion P log → AllByRecursion Q log
all_mono P Q [] f all = tt
all_mono P Q (e ∷ log) f all = (f e all.0, all_mono P Q log f all.1)

all_push : (P : LeftValue → Type 0) (log : List LeftValue) (e : LeftValue) → AllByRecursion P log → P e → AllByRecursion P (log ++ e ∷ [])
all_push P [] e all one = (one, tt)
all_push P (f ∷ log) e all one = (all.0, all_push P log e all.1 one)

-- one more entry, whose index is not below the word
kept_left : (cs : List Cell) (log : List LeftValue) (e : LeftValue) (k new : ℕ) → WordsBound cs log → k < length cs → e.shard ≡ k → (cell cs k).0 ≤ e.at → new ≡ e.at + 1 → WordsBound (set cs k (new, true)) (log ++ e ∷ [])
kept_left cs log e k new kept inside here above next = record {
  many = length-set cs k (new, true) ∙ kept.many;
  home = λ j lt. by_index cs j k (new, true) (λ c. c.1 ≡ true) inside (λ _. refl) (λ ne. kept.home j (omega (arith, lt, length-set cs k (new, true))));
  below = all_push (λ f. f.at < (cell (set cs k (new, true)) f.shard).0) log e
      (all_mono (λ f. f.at < (cell cs f.shard).0) (λ f. f.at < (cell (set cs k (new, true)) f.shard).0) log
      (λ f was. by_index cs f.shard k (new, true) (λ c. f.at < c.0) inside (λ same. omega (arith, was, ap (λ s. (cell cs s).0) same, above, next)) (λ ne. was)) kept.below)
      (by_index cs e.shard k (new, true) (λ c. e.at < c.0) inside (λ _. omega (arith, next)) (λ ne. absurd (ne here)));
}

and_false : (b : Bool) → (b && false) ≡ false
and_false true = refl
and_false false = refl

-- the entry is what the log says of its step, if all entries of its shard are of earlier ones
not_of : (e f : LeftValue) → (f.shard ≡ e.shard → f.at < e.at) → is_of_step e.shard e.at f ≡ false
not_of e f less = dite (ℕ_discrete f.shard e.shard)
    (λ same. let other : f.at ≢ e.at = λ is. absurd (omega (arith, less same, is)) in ap (λ b. eqb f.shard e.shard && b) (ne_eqb f.at e.at other) ∙ and_false (eqb f.shard e.shard))
    (λ ne. ap (λ b. b && eqb f.at e.at) (ne_eqb f.shard e.shard ne))

own : (e : LeftValue) → is_of_step e.shard e.at e ≡ true
own e = ap (λ b. b && eqb e.at e.at) (eq-eqb e.shard e.shard refl) ∙ eq-eqb e.at e.at refl

said : (log : List LeftValue) (e : LeftValue) → AllByRecursion (λ f. f.shard ≡ e.shard → f.at < e.at) log → said_of (log ++ e ∷ []) e.shard e.at ≡ Some e
said [] e fresh = rw (own e) refl
said (f ∷ log) e fresh = rw (not_of e f fresh.0) (said log e fresh.1)

-- 64 words that hold 0, and an empty log
pub opens : WordsBound (replicate 64 (0, true)) []
opens = let zero_word : Cell = (0, true) in record {
  many = length-replicate 64 zero_word;
  home = λ k lt. ap (λ (c : Cell). c.1) (get_or-replicate 64 k zero_word off (omega (arith, lt, length-replicate 64 zero_word)));
  below = tt;
}

-- what the log says of a step stays
stays_if : (b : Bool) (e f : LeftValue) (rest more : Option LeftValue) → (rest ≡ Some e → more ≡ Some e) → cond b (Some f) rest ≡ Some e → cond b (Some f) more ≡ Some e
stays_if true e f rest more on is = is
stays_if false e f rest more on is = on is

stay_on : (log more : List LeftValue) (shard at : ℕ) (e : LeftValue) → said_of log shard at ≡ Some e → said_of (log ++ more) shard at ≡ Some e
stay_on [] more shard at e is = absurd cc
stay_on (f ∷ log) more shard at e is = stays_if (is_of_step shard at f) e f (said_of log shard at) (said_of (log ++ more) shard at) (stay_on log more shard at e) is

pub stay : EntriesStay
stay log later shard at e p is = subst (λ l. said_of l shard at ≡ Some e) p.1 (stay_on log p.0 shard at e is)

match_true : (b : Bool) (P Q : Type 0) → b ≡ true → P → MatchBool b P Q
match_true b P Q e p = subst (λ (c : Bool). MatchBool c P Q) (sym e) p

match_false : (b : Bool) (P Q : Type 0) → b ≡ false → Q → MatchBool b P Q
match_false b P Q e q = subst (λ (c : Bool). MatchBool c P Q) (sym e) q

-- a word is read
pub read_moves : (v : List LeftValue) (k : ℕ) (ask : LeftValue) → k < 64 → Moves WordsBound bare moved k (at_rest v) (λ n. n) (WordReadGives (step k 0 0 ask) (at_rest v))
read_moves v k ask small cs log kept pre away =
    let here : k < length cs = omega (arith, kept.many, small) in
    (here, kept.home k here, (keeps, [], None, tt, kept_same cs log k kept here, inl (refl, refl), tt))

-- a word goes from old to new, for an entry whose index is not below old
pub leave_moves : (v : List LeftValue) (k old new : ℕ) (e : LeftValue) → k < 64 → e.shard ≡ k → old ≤ e.at → new ≡ e.at + 1
    → Moves WordsBound bare moved k (at_rest v) (λ n. either (n == old) new n) (LeaveGives (step k old new e) (at_rest v))
leave_moves v k old new e small shard above next cs log kept pre away =
    let here : k < length cs = omega (arith, kept.many, small) in
    let found = (cell cs k).0 in
    let T : ℕ → View LeftValue ℕ → Type 0 = LeaveGives (step k old new e) (at_rest v) in
    let F : ℕ → Type 0 = λ m. (a : Act) × (more : List LeftValue) × (t : Option ℕ) × Valid a no_nib × WordsBound (cells_after a no_nib (set cs k (m, true))) (log ++ more) × Runs moved None t (bare log) (bare (log ++ more)) × T found (log ++ more, (nib_after a no_nib cs, t)) in
    let went : F (either (found == old) new found) =
    exchanged found old new F
    (λ is.
    let low : (cell cs k).0 ≤ e.at = omega (arith, is, above) in
    let fresh = all_mono (λ f. f.at < (cell cs f.shard).0) (λ f. f.shard ≡ e.shard → f.at < e.at) log (λ f was same. omega (arith, was, ap (λ s. (cell cs s).0) (same ∙ shard), low)) kept.below in
    (keeps, e ∷ [], None, tt, kept_left cs log e k new kept here shard low next, inl (refl, refl), match_true (found == old) _ _ (eq-eqb found old is) (said log e fresh)))
    (λ ne. (keeps, [], None, tt, kept_same cs log k kept here, inl (refl, refl), match_false (found == old) _ _ (ne_eqb found old ne) tt)) in
    (here, kept.home k here, went)
