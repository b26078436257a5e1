-- What follows from the parts of a legal history, and from those of its prefixes.
use Rattle.std.proofs.Common.{◌≡◌, ◌≢◌, ℕ, ◌+◌, ◌==◌, ◌⊎◌, Bool, true, false, cond, Option, Some, List, [], ◌∷◌, ◌++◌, map, refl, ap, sym, subst, ◌∙◌}
use Rattle.std.specs.Prelude.{slice_get}
use Rattle.std.specs.List.{AllByRecursion}
use Rattle.std.specs.Str.{bytes_eq}
use Rattle.std.proofs.lemmas.Bool.{eqb-true}
use Rattle.std.proofs.lemmas.List.{map-append}
use Rattle.std.proofs.lemmas.List.Elements.{filter-append}
use mathlib.Core.Logic.{dite}
use native.Mathlib.Decide.{ℕ_discrete}
use mathlib.Core.List.{IsPrefix}
use Rattle.lt_ids.specs.Ids.{Wait}
use Rattle.lt_ids.specs.declared.timestamp.Timestamp.{Timestamp}
use Rattle.lt_ids.specs.declared.request.Access.TheVariants.{Read}
use Rattle.lt_rules.specs.declared.call.Call.TheVariants.{Visit}
use Rattle.lt_rules.specs.declared.call.Reply.TheVariants.{Passed, MustWait}
use Rattle.lt_rules.specs.Rules.{Record, empty}
use Rattle.lt_rules.specs.Step.{Event as KeyEvent, step, IsLegal, IsLegalFrom, Holds, IsBelowOthers}
use Rattle.lt_rules.specs.Laws.{OneHolder, ReadsPass}
use Rattle.lt_entry.specs.declared.entry.Entry.{Entry}
use Rattle.lt_entry.specs.Legal.{event_of, AreLegalKeys}
use Rattle.lt_entry.specs.Legal.{key_part}
use Rattle.lt_entry.proofs.SameKeys.{same_key}
use Rattle.lt_words.specs.declared.event.Event.{Event}
use Rattle.lt_words.specs.declared.event.Event.TheVariants.{Opened, Draw, Step}
use Rattle.lt_words.specs.History.{part, steps_of, shard_of, DrawsCount, StepsAreInTheirShards, IsLegalHistory, key_history}
use Rattle.lt_words.proofs.Histories.{steps_of-append, part_prefix, key_in_part}
use Rattle.lt_words.proofs.Prefixes.{prefix_get}

-- ---- prefixes

legal_first : (r : Record) (es fs : List KeyEvent) → IsLegalFrom r (es ++ fs) → IsLegalFrom r es
legal_first r [] fs legal = tt
legal_first r (e ∷ es) fs legal = (legal.0, legal.1, legal_first (step r e.pass e.call).after es fs legal.2)

keys_first : (es fs : List Entry) → AreLegalKeys (es ++ fs) → AreLegalKeys es
keys_first es fs legal = λ k. legal_first empty (key_history k es) (key_history k fs)
    (subst IsLegal (ap (map event_of) (filter-append (λ x. bytes_eq x.key k) es fs) ∙ map-append event_of (key_part k es) (key_part k fs)) (legal k))

home_first : (shards : ℕ) (g more : List Event) → StepsAreInTheirShards shards (g ++ more) → StepsAreInTheirShards shards g
home_first shards [] more h = tt
home_first shards (Opened a b way ∷ g) more h = absurd h
home_first shards (Draw p n ∷ g) more h = home_first shards g more h
home_first shards (Step s e ∷ g) more h = (h.0, home_first shards g more h.1)

draws_first : (n : ℕ) (g more : List Event) → DrawsCount n (g ++ more) → DrawsCount n g
draws_first n [] more h = tt
draws_first n (Opened a b way ∷ g) more h = absurd h
draws_first n (Draw p k ∷ g) more h = (h.0, draws_first (n + 1) g more h.1)
draws_first n (Step s e ∷ g) more h = draws_first n g more h

legal_beginning : (shards : ℕ) (g more : List Event) → IsLegalHistory shards (g ++ more) → IsLegalHistory shards g
legal_beginning shards g more legal = record {
  keys = keys_first (steps_of g) (steps_of more) (subst AreLegalKeys (steps_of-append g more) legal.keys);
  home = home_first shards g more legal.home;
  draws = draws_first 0 g more legal.draws;
}

pub prefixes_are_legal : (shards : ℕ) (g h : List Event) → IsPrefix g h → IsLegalHistory shards h → IsLegalHistory shards g
prefixes_are_legal shards g h pre legal = legal_beginning shards g pre.0 (subst (IsLegalHistory shards) (sym pre.1) legal)

pub steps_stay : (shard : ℕ) (g h : List Event) (at : ℕ) (entry : Entry) → IsPrefix g h → slice_get (part shard g) at ≡ Some entry → slice_get (part shard h) at ≡ Some entry
steps_stay shard g h at entry pre stands = prefix_get (part shard g) (part shard h) at entry (part_prefix shard g h pre) stands

-- ---- parts

-- each of these steps is at a key of this shard
abbrev InShard : ℕ → ℕ → List Entry → Type 0
InShard shards s es = AllByRecursion (λ e. s ≡ shard_of e.key shards) es

in_shard_one : (shards s t : ℕ) (e : Entry) (es : List Entry) (b : Bool) → (s == t) ≡ b → t ≡ shard_of e.key shards → InShard shards s es → InShard shards s (cond b (e ∷ es) es)
in_shard_one shards s t e es true is home rest = (eqb-true s t is ∙ home, rest)
in_shard_one shards s t e es false is home rest = rest

in_shard : (shards s : ℕ) (h : List Event) → StepsAreInTheirShards shards h → InShard shards s (part s h)
in_shard shards s [] home = tt
in_shard shards s (Opened a b way ∷ h) home = absurd home
in_shard shards s (Draw p n ∷ h) home = in_shard shards s h home
in_shard shards s (Step t e ∷ h) home = in_shard_one shards s t e (part s h) (s == t) refl home.0 (in_shard shards s h home.1)

pub steps_are_in_their_shards : (shards shard : ℕ) (h : List Event) → IsLegalHistory shards h → AllByRecursion (λ e. shard ≡ shard_of e.key shards) (part shard h)
steps_are_in_their_shards shards shard h legal = in_shard shards shard h legal.home

not_here : (shards s : ℕ) (k : List ℕ) (e : Entry) (rest : List Entry) (b : Bool) → bytes_eq e.key k ≡ b → s ≡ shard_of e.key shards → s ≢ shard_of k shards → rest ≡ [] → cond b (e ∷ rest) rest ≡ []
not_here shards s k e rest true is home ne none = absurd (ne (home ∙ ap (λ j. shard_of j shards) (same_key e.key k is)))
not_here shards s k e rest false is home ne none = none

-- a key of another shard has no steps among these
none_elsewhere : (shards s : ℕ) (k : List ℕ) (es : List Entry) → InShard shards s es → s ≢ shard_of k shards → key_part k es ≡ []
none_elsewhere shards s k [] home ne = refl
none_elsewhere shards s k (e ∷ es) home ne = not_here shards s k e (key_part k es) (bytes_eq e.key k) refl home.0 ne (none_elsewhere shards s k es home.1 ne)

pub parts_are_legal : (shards shard : ℕ) (h : List Event) → IsLegalHistory shards h → AreLegalKeys (part shard h)
parts_are_legal shards shard h legal = λ k. dite (ℕ_discrete shard (shard_of k shards))
    (λ at. subst (λ (es : List Entry). IsLegal (map event_of es)) (sym (key_in_part shards shard k h at legal.home)) (legal.keys k))
    (λ ne. subst (λ (es : List Entry). IsLegal (map event_of es)) (sym (none_elsewhere shards shard k (part shard h) (in_shard shards shard h legal.home) ne)) tt)

-- ---- keys, by the laws of one key's history

pub one_holder_at_each_key : OneHolder → (es : List Entry) (key : List ℕ) (past rest : List KeyEvent) (T U : ℕ) → AreLegalKeys es → key_history key es ≡ past ++ rest → Holds past T → Holds past U → T ≡ U
one_holder_at_each_key law es key past rest T U legal is t u = law past rest T U (subst IsLegal is (legal key)) t u

pub reads_pass_at_each_key : ReadsPass → (es : List Entry) (key : List ℕ) (past rest : List KeyEvent) (e : KeyEvent) (ticket : Wait) (txn : Option ℕ) (ts : Timestamp) (longest : ℕ) → AreLegalKeys es → key_history key es ≡ past ++ e ∷ rest → e.call ≡ Visit ticket txn ts Read longest
    → ((e.reply ≡ Passed) × IsBelowOthers past txn ts) ⊎ ((e.reply ≡ MustWait) × (IsBelowOthers past txn ts → ⊥))
reads_pass_at_each_key law es key past rest e ticket txn ts longest legal is call = law past rest e ticket txn ts longest (subst IsLegal is (legal key)) call
