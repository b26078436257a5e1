-- The transactions of all logs: no two have one name, so they went one after the other.
use Rattle.std.proofs.Common.{◌≢◌, ℕ, ◌<◌, List, [], ◌∷◌, ◌++◌, map, sym, subst, arith}
use mathlib.Core.Logic.{∥∥₁_elim}
use Rattle.std.specs.List.{AllByRecursion}
use Rattle.std.proofs.lemmas.List.{map-append}
use mathlib.Core.List.{IsPrefix}
use Rattle.lt_words.specs.declared.event.Event.{Event}
use Rattle.lt_words.specs.History.{IsLegalHistory, DrewIn}
use Rattle.lt_words.specs.Laws.{NumbersAreOfOnePass, DrawsStay}
use Rattle.lt_words.specs.Row.{Opening}
use Rattle.lt_tenure.specs.Tenure.{IsTwoPhase}
use Rattle.lt_tenure.specs.Committed.{Committed, AreOrderedBy}
use Rattle.lt_tenure.specs.Laws.{CommittedAreSerializable}
use Rattle.example_cells.specs.Committing.{Commit, IsLogged, NamesRise, LogState, IsLog, as_committed, all_commits, PassesDiffer, WentInOrder}
use Rattle.example_cells.proofs.Freed.{followed}

all_map : {A : Type 0} (P Q : A → Type 0) (xs : List A) → ((x : A) → P x → Q x) → AllByRecursion P xs → AllByRecursion Q xs
all_map P Q [] f all = tt
all_map P Q (x ∷ xs) f all = (f x all.0, all_map P Q xs f all.1)

all_mapped : {A B : Type 0} (g : A → B) (P : A → Type 0) (Q : B → Type 0) (xs : List A) → ((x : A) → P x → Q (g x)) → AllByRecursion P xs → AllByRecursion Q (map g xs)
all_mapped g P Q [] f all = tt
all_mapped g P Q (x ∷ xs) f all = (f x all.0, all_mapped g P Q xs f all.1)

all_both : {A : Type 0} (P : A → Type 0) (xs ys : List A) → AllByRecursion P xs → AllByRecursion P ys → AllByRecursion P (xs ++ ys)
all_both P [] ys all more = more
all_both P (x ∷ xs) ys all more = (all.0, all_both P xs ys all.1 more)

-- each log is of the history
record IsLogIn (of : Opening) (whole : List Event) (l : LogState) : Type 0 where
  each : AllByRecursion (IsLogged of l.pass whole) l.commits
  rise : NamesRise l.commits

log_in : (of : Opening) (whole : List Event) (l : LogState) → IsLog of l → IsPrefix l.seen whole → IsLogIn of whole l
log_in of whole l log within = record {
  each = all_map (IsLogged of l.pass l.seen) (IsLogged of l.pass whole) l.commits (λ c x. record { commit = x.commit; own = x.own; within = followed c.seen l.seen whole x.within within }) log.each;
  rise = log.rise;
}

logs_in : (of : Opening) (whole : List Event) (ls : List LogState) → AllByRecursion (IsLog of) ls → AllByRecursion (λ l. IsPrefix l.seen whole) ls → AllByRecursion (IsLogIn of whole) ls
logs_in of whole [] logs within = tt
logs_in of whole (l ∷ ls) logs within = (log_in of whole l logs.0 within.0, logs_in of whole ls logs.1 within.1)

-- ---- what holds of each transaction

each_commit : (of : Opening) (whole : List Event) (Q : Committed → Type 0) → ((pass : ℕ) (c : Commit) → IsLogged of pass whole c → Q (as_committed c)) → (ls : List LogState) → AllByRecursion (IsLogIn of whole) ls → AllByRecursion Q (map as_committed (all_commits ls))
each_commit of whole Q f [] logs = tt
each_commit of whole Q f (l ∷ ls) logs =
    subst (AllByRecursion Q) (sym (map-append as_committed l.commits (all_commits ls)))
    (all_both Q (map as_committed l.commits) (map as_committed (all_commits ls)) (all_mapped as_committed (IsLogged of l.pass whole) Q l.commits (f l.pass) logs.0.each) (each_commit of whole Q f ls logs.1))

-- ---- names

abbrev Differ : Committed → Committed → Type 0
Differ a b = a.txn ≢ b.txn

-- transactions of two passes
apart : NumbersAreOfOnePass → DrawsStay → (of : Opening) (whole : List Event) (p q : ℕ) (a b : Commit) → IsLegalHistory of.shards whole → p ≢ q → IsLogged of p whole a → IsLogged of q whole b → a.txn ≢ b.txn
apart once stay of whole p q a b legal differ x y same =
    let a_in = followed a.named a.point whole x.commit.named (followed a.point a.seen whole x.commit.two_phase.within x.within) in
    let b_in = followed b.named b.point whole y.commit.named (followed b.point b.seen whole y.commit.two_phase.within y.within) in
    ∥∥₁_elim x.commit.drew (λ m n. absurd m) (λ d. ∥∥₁_elim y.commit.drew (λ m n. absurd m) (λ e.
    let here : DrewIn whole p b.txn = subst (λ n. DrewIn whole n b.txn) x.own (subst (λ n. DrewIn whole a.pass n) same (stay a.named whole a.pass a.txn a_in d)) in
    let there : DrewIn whole q b.txn = subst (λ n. DrewIn whole n b.txn) y.own (stay b.named whole b.pass b.txn b_in e) in
    differ (once of.shards whole p q b.txn legal here there)))

rising : (cs : List Commit) → NamesRise cs → AreOrderedBy Differ (map as_committed cs)
rising [] rise = tt
rising (c ∷ cs) rise = (
  all_mapped as_committed (λ d. c.txn < d.txn) (Differ (as_committed c)) cs (λ d below same. omega (arith, below, same)) rise.0,
  rising cs rise.1,
)

others : NumbersAreOfOnePass → DrawsStay → (of : Opening) (whole : List Event) (p : ℕ) (a : Commit) → IsLegalHistory of.shards whole → IsLogged of p whole a → (ls : List LogState) → AllByRecursion (λ m. p ≢ m.pass) ls → AllByRecursion (IsLogIn of whole) ls → AllByRecursion (Differ (as_committed a)) (map as_committed (all_commits ls))
others once stay of whole p a legal x [] differ logs = tt
others once stay of whole p a legal x (l ∷ ls) differ logs =
    subst (AllByRecursion (Differ (as_committed a))) (sym (map-append as_committed l.commits (all_commits ls)))
    (all_both (Differ (as_committed a)) (map as_committed l.commits) (map as_committed (all_commits ls))
    (all_mapped as_committed (IsLogged of l.pass whole) (Differ (as_committed a)) l.commits (λ b y. apart once stay of whole p l.pass a b legal differ.0 x y) logs.0.each)
    (others once stay of whole p a legal x ls differ.1 logs.1))

ordered_both : (xs ys : List Committed) → AreOrderedBy Differ xs → AreOrderedBy Differ ys → AllByRecursion (λ a. AllByRecursion (Differ a) ys) xs → AreOrderedBy Differ (xs ++ ys)
ordered_both [] ys first second cross = second
ordered_both (x ∷ xs) ys first second cross = (all_both (Differ x) xs ys first.0 cross.0, ordered_both xs ys first.1 second cross.1)

names : NumbersAreOfOnePass → DrawsStay → (of : Opening) (whole : List Event) → IsLegalHistory of.shards whole → (ls : List LogState) → PassesDiffer ls → AllByRecursion (IsLogIn of whole) ls → AreOrderedBy Differ (map as_committed (all_commits ls))
names once stay of whole legal [] differ logs = tt
names once stay of whole legal (l ∷ ls) differ logs =
    subst (AreOrderedBy Differ) (sym (map-append as_committed l.commits (all_commits ls)))
    (ordered_both (map as_committed l.commits) (map as_committed (all_commits ls)) (rising l.commits logs.0.rise) (names once stay of whole legal ls differ.1 logs.1)
    (all_mapped as_committed (IsLogged of l.pass whole) (λ a. AllByRecursion (Differ a) (map as_committed (all_commits ls))) l.commits (λ a x. others once stay of whole l.pass a legal x ls differ.0 logs.1) logs.0.each))

pub went_in_order : CommittedAreSerializable → NumbersAreOfOnePass → DrawsStay → (of : Opening) (ls : List LogState) → AllByRecursion (IsLog of) ls → (whole : List Event) → IsLegalHistory of.shards whole → AllByRecursion (λ l. IsPrefix l.seen whole) ls → PassesDiffer ls → WentInOrder ls
went_in_order serializable once stay of ls logs whole legal within differ =
    let known = logs_in of whole ls logs within in
    serializable of.shards whole (map as_committed (all_commits ls)) (record {
      seen = each_commit of whole (λ c. IsPrefix c.seen whole) (λ pass c x. x.within) ls known;
      each = each_commit of whole (λ c. IsTwoPhase of.shards c.seen c.point c.txn c.tenures) (λ pass c x. x.commit.two_phase) ls known;
    }) (names once stay of whole legal ls differ known)
