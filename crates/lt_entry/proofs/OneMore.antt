-- What one more entry changes in a history: the events of its own key, and of no other.
--
-- A proof about a table that is kept together with the list of its steps finds here that the list stays legal, and
-- that replaying each key's steps from the empty record gives the table's record there.
use Rattle.std.proofs.Common.{◌≡◌, ◌≢◌, ℕ, Bool, true, false, List, [], ◌∷◌, ◌++◌, Option, unwrap_or, map, refl, sym, ap, subst, ◌∙◌}
use Rattle.std.specs.List.{AllByRecursion}
use Rattle.std.specs.Str.{bytes_eq}
use Rattle.std.specs.FinMap as finmap
use Rattle.std.specs.Ordering.{nat_cmp}
use Rattle.std.specs.Cmp.Lexicographic.{slice_cmp}
use Rattle.std.proofs.lemmas.List.{map-append, append-nil}
use Rattle.std.proofs.lemmas.List.Elements.{filter-append}
use Rattle.lt_rules.specs.Rules.{Record, empty}
use Rattle.lt_rules.specs.Step.{Event, step, IsLegal, IsLegalFrom, record_after}
use Rattle.lt_rules.specs.Table.{Records, record_at, IsStep}
use Rattle.lt_entry.specs.declared.entry.Entry.{Entry}
use Rattle.lt_entry.specs.Legal.{event_of, key_part, AreLegalKeys}
use Rattle.lt_entry.proofs.SameKeys.{same_key, key_itself}

-- ---- one more event of one key

pub after_more : (r : Record) (es : List Event) (e : Event) → record_after r (es ++ e ∷ []) ≡ (step (record_after r es) e.pass e.call).after
after_more r [] e = refl
after_more r (x ∷ xs) e = after_more (step r x.pass x.call).after xs e

-- The event has the reply and the lets that the rules give at this record.
abbrev pub Fits : Record → Event → Type 0
Fits r e = (e.reply ≡ (step r e.pass e.call).reply) × (e.lets ≡ (step r e.pass e.call).lets)

pub legal_more : (r : Record) (es : List Event) (e : Event) → IsLegalFrom r es → Fits (record_after r es) e → IsLegalFrom r (es ++ e ∷ [])
legal_more r [] e h f = (f.0, f.1, tt)
legal_more r (x ∷ xs) e h f = (h.0, h.1, legal_more (step r x.pass x.call).after xs e h.2 f)

-- ---- the events of the entry's key, and those of the others

abbrev pub events : List ℕ → List Entry → List Event
events key es = map event_of (key_part key es)

-- the record of a key after the entries
abbrev pub replayed : List ℕ → List Entry → Record
replayed key es = record_after empty (events key es)

alone_here : (key : List ℕ) (e : Entry) → bytes_eq e.key key ≡ true → key_part key (e ∷ []) ≡ e ∷ []
alone_here key e h = rw h refl

alone_elsewhere : (key : List ℕ) (e : Entry) → bytes_eq e.key key ≡ false → key_part key (e ∷ []) ≡ []
alone_elsewhere key e h = rw h refl

pub here : (key : List ℕ) (es : List Entry) (e : Entry) → bytes_eq e.key key ≡ true → events key (es ++ e ∷ []) ≡ events key es ++ event_of e ∷ []
here key es e h =
    ap (λ (xs : List Entry). map event_of xs) (filter-append (λ x. bytes_eq x.key key) es (e ∷ []) ∙ ap (λ (xs : List Entry). key_part key es ++ xs) (alone_here key e h))
    ∙ map-append event_of (key_part key es) (e ∷ [])

pub elsewhere : (key : List ℕ) (es : List Entry) (e : Entry) → bytes_eq e.key key ≡ false → events key (es ++ e ∷ []) ≡ events key es
elsewhere key es e h =
    ap (λ (xs : List Entry). map event_of xs)
    (filter-append (λ x. bytes_eq x.key key) es (e ∷ []) ∙ (ap (λ (xs : List Entry). key_part key es ++ xs) (alone_elsewhere key e h) ∙ append-nil (key_part key es)))

pub another_key : (e : Entry) (key : List ℕ) → bytes_eq e.key key ≡ false → key ≢ e.key
another_key e key other same = let yes : bytes_eq e.key key ≡ true = subst (λ (k : List ℕ). bytes_eq e.key k ≡ true) (sym same) (key_itself e.key) in absurd cc

-- ---- one more entry of a history

legal_at : (es : List Entry) (e : Entry) (key : List ℕ) → IsLegal (events key es) → Fits (replayed e.key es) (event_of e) → (b : Bool) → bytes_eq e.key key ≡ b → IsLegal (events key (es ++ e ∷ []))
legal_at es e key h f true is =
    let fits = subst (λ (k : List ℕ). Fits (replayed k es) (event_of e)) (same_key e.key key is) f in
    subst (λ (evs : List Event). IsLegal evs) (sym (here key es e is)) (legal_more empty (events key es) (event_of e) h fits)
legal_at es e key h f false is = subst (λ (evs : List Event). IsLegal evs) (sym (elsewhere key es e is)) h

pub keys_legal_more : (es : List Entry) (e : Entry) → AreLegalKeys es → Fits (replayed e.key es) (event_of e) → AreLegalKeys (es ++ e ∷ [])
keys_legal_more es e h f = λ key. legal_at es e key (h key) f (bytes_eq e.key key) refl

-- ---- a table, and the entries of its steps

pub empty_at : (t : Records) (key : List ℕ) → t ≡ finmap.empty → record_at t key ≡ empty
empty_at t key e = rw (e, finmap.get-empty (slice_cmp nat_cmp) key) refl

-- Replaying each key's entries from the empty record gives the table's record there.
abbrev pub Replays : Records → List Entry → Type 0
Replays t es = (key : List ℕ) → record_at t key ≡ replayed key es

-- The entry is the step from one table to the other.
abbrev pub Tells : Records → Entry → Records → Type 0
Tells t e u = IsStep t e.key (λ r. step r e.pass e.call) e.reply e.lets u

pub told_fits : (t u : Records) (es : List Entry) (e : Entry) → Replays t es → Tells t e u → Fits (replayed e.key es) (event_of e)
told_fits t u es e h s = (
  s.replied ∙ ap (λ (r : Record). (step r e.pass e.call).reply) (h e.key),
  s.let_through ∙ ap (λ (r : Record). (step r e.pass e.call).lets) (h e.key),
)

replays_at : (t u : Records) (es : List Entry) (e : Entry) (key : List ℕ) → Replays t es → Tells t e u → (b : Bool) → bytes_eq e.key key ≡ b → record_at u key ≡ replayed key (es ++ e ∷ [])
replays_at t u es e key h s true is =
    let same : e.key ≡ key = same_key e.key key is in
    let was : record_at t e.key ≡ replayed key es = ap (λ (k : List ℕ). record_at t k) same ∙ h key in
    ap (λ (k : List ℕ). record_at u k) (sym same)
    ∙ (s.here ∙ (ap (λ (r : Record). (step r e.pass e.call).after) was ∙ (sym (after_more empty (events key es) (event_of e)) ∙ ap (λ (evs : List Event). record_after empty evs) (sym (here key es e is)))))
replays_at t u es e key h s false is =
    ap (λ (o : Option Record). unwrap_or o empty) (s.others key (another_key e key is)) ∙ (h key ∙ ap (λ (evs : List Event). record_after empty evs) (sym (elsewhere key es e is)))

pub replays_more : (t u : Records) (es : List Entry) (e : Entry) → Replays t es → Tells t e u → Replays u (es ++ e ∷ [])
replays_more t u es e h s = λ key. replays_at t u es e key h s (bytes_eq e.key key) refl

-- ---- one more element in a list

pub all_more : {A : Type 0} (P : A → Type 0) (xs : List A) (x : A) → AllByRecursion P xs → P x → AllByRecursion P (xs ++ x ∷ [])
all_more P [] x h p = (p, tt)
all_more P (y ∷ ys) x h p = (h.0, all_more P ys x h.1 p)
