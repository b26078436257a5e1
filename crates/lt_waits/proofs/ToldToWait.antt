-- Who is let through had been told to wait.
use Rattle.std.proofs.Common.{◌≡◌, ℕ, suc, ◌<◌, ◌==◌, Bool, true, false, cond, inl, inr, Some, List, [], ◌∷◌, ◌++◌, map, slice_get, refl, sym, ◌∙◌, ap, subst, eq-eqb}
use Rattle.std.proofs.lemmas.List.{map-append}
use Rattle.std.proofs.lemmas.List.Elements.{filter-append}
use Rattle.std.proofs.lemmas.Slice.Eq.{bytes_eq-Decides}
use Rattle.std.specs.Str.{bytes_eq}
use Rattle.std.specs.List.{AllByRecursion}
use native.Mathlib.Nat.{mod-lt}
use Rattle.lt_ids.specs.Ids.{Wait}
use Rattle.lt_ids.specs.declared.ticket.Through.{Through as Letting}
use Rattle.lt_rules.specs.Step.{Event as KeyEvent, IsLegal}
use Rattle.lt_rules.specs.declared.call.Call.TheVariants.{Visit}
use Rattle.lt_rules.specs.Laws.{LetsEndWaits, IsWaiting}
use Rattle.lt_entry.specs.declared.entry.Entry.{Entry}
use Rattle.lt_entry.specs.Legal.{event_of, key_part, AreLegalKeys}
use Rattle.lt_words.specs.declared.event.Event.{Event}
use Rattle.lt_words.specs.declared.event.Event.TheVariants.{Opened, Draw, Step}
use Rattle.lt_words.specs.History.{part, shard_of, StepsAreInTheirShards, IsLetAmong, LetIn}
use Rattle.lt_words.specs.Laws.{PartsAreLegal}
use Rattle.lt_words.proofs.Prefixes.{prefix_more, prefix_get}
use Rattle.lt_waits.specs.Laws.{LetWasToldToWait}

-- ---- the step that lets a ticket through, in its shard's part

record IsLetAt (shards : ℕ) (h : List Event) (p : ℕ) (t : Wait) : Type 0 where
  shard : ℕ
  front : List Entry
  entry : Entry
  back : List Entry
  split : part shard h ≡ front ++ entry ∷ back
  home : shard ≡ shard_of entry.key shards
  among : IsLetAmong entry.lets p t

one_before : (b : Bool) (e : Entry) (es front back : List Entry) (entry : Entry) → es ≡ front ++ entry ∷ back → cond b (e ∷ es) es ≡ cond b (e ∷ front) front ++ entry ∷ back
one_before true e es front back entry is = ap (λ l. e ∷ l) is
one_before false e es front back entry is = is

here : (s : ℕ) (e : Entry) (es : List Entry) → cond (s == s) (e ∷ es) es ≡ e ∷ es
here s e es = let own : (s == s) ≡ true = eq-eqb s s refl in rw own refl

let_at : (shards : ℕ) (h : List Event) (p : ℕ) (t : Wait) → StepsAreInTheirShards shards h → LetIn h p t → IsLetAt shards h p t
let_at shards [] p t home l = absurd l
let_at shards (Opened s n way ∷ h) p t home l = absurd home
let_at shards (Draw q n ∷ h) p t home l =
    let found = let_at shards h p t home l in
    record { shard = found.shard; front = found.front; entry = found.entry; back = found.back; split = found.split; home = found.home; among = found.among }
let_at shards (Step s e ∷ h) p t home (inl among) =
    record { shard = s; front = []; entry = e; back = part s h; split = here s e (part s h); home = home.0; among = among }
let_at shards (Step s e ∷ h) p t home (inr later) =
    let found = let_at shards h p t home.1 later in
    record {
      shard = found.shard;
      front = cond (found.shard == s) (e ∷ found.front) found.front;
      entry = found.entry;
      back = found.back;
      split = one_before (found.shard == s) e (part found.shard h) found.front found.back found.entry found.split;
      home = found.home;
      among = found.among;
    }

-- what holds of each let holds of one among them
holds_of_let : (P : Letting → Type 0) (lets : List Letting) (p : ℕ) (t : Wait) → AllByRecursion P lets → IsLetAmong lets p t → (x : Letting) × P x × (x.pass ≡ p) × (x.ticket ≡ t)
holds_of_let P [] p t all among = absurd among
holds_of_let P (x ∷ lets) p t all (inl same) = (x, all.0, same.0, same.1)
holds_of_let P (x ∷ lets) p t all (inr later) = holds_of_let P lets p t all.1 later

-- ---- an event of a key among the steps of its shard

one_more : {A : Type 0} (x y : A) (xs ys : List A) → x ∷ xs ≡ y ∷ ys → (x ≡ y) × (xs ≡ ys)
one_more x y xs ys is = (cc is, cc is)

abbrev HasEventAt : List Entry → KeyEvent → Type 0
HasEventAt es e = (k : ℕ) × (f : Entry) × (slice_get es k ≡ Some f) × (event_of f ≡ e)

event_later : (f : Entry) (es : List Entry) (e : KeyEvent) → HasEventAt es e → HasEventAt (f ∷ es) e
event_later f es e found = (suc found.0, found.1, found.2, found.3)

event_here : (b : Bool) (f : Entry) (es keys : List Entry) (before : List KeyEvent) (e : KeyEvent) (since : List KeyEvent) → ((rest : List KeyEvent) → map event_of keys ≡ rest ++ e ∷ since → HasEventAt es e) →
    map event_of (cond b (f ∷ keys) keys) ≡ before ++ e ∷ since → HasEventAt (f ∷ es) e
event_here true f es keys [] e since later is = (0, f, refl, (one_more (event_of f) e (map event_of keys) since is).0)
event_here true f es keys (x ∷ before) e since later is = event_later f es e (later before (one_more (event_of f) x (map event_of keys) (before ++ e ∷ since) is).1)
event_here false f es keys before e since later is = event_later f es e (later before is)

event_at : (key : List ℕ) (es : List Entry) (before : List KeyEvent) (e : KeyEvent) (since : List KeyEvent) → map event_of (key_part key es) ≡ before ++ e ∷ since → HasEventAt es e
event_at key [] [] e since is = absurd cc
event_at key [] (x ∷ before) e since is = absurd cc
event_at key (f ∷ es) before e since is = event_here (bytes_eq f.key key) f es (key_part key es) before e since (λ rest found. event_at key es rest e since found) is

-- the history of the key of one of these steps
key_split : (front back : List Entry) (e : Entry) → map event_of (key_part e.key (front ++ e ∷ back)) ≡ map event_of (key_part e.key front) ++ event_of e ∷ map event_of (key_part e.key back)
key_split front back e =
    let own : bytes_eq e.key e.key ≡ true = (bytes_eq-Decides e.key e.key).1 refl in
    let last : key_part e.key (e ∷ back) ≡ e ∷ key_part e.key back = rw own refl in
    ap (λ l. map event_of l) (filter-append (λ f. bytes_eq f.key e.key) front (e ∷ back) ∙ ap (λ l. key_part e.key front ++ l) last)
    ∙ map-append event_of (key_part e.key front) (e ∷ key_part e.key back)

pub let_was_told_to_wait : LetsEndWaits → PartsAreLegal → LetWasToldToWait
let_was_told_to_wait ends legal_parts shards h p t some legal was =
    let found : IsLetAt shards h p t = let_at shards h p t legal.home was in
    let keys : AreLegalKeys (part found.shard h) = legal_parts shards found.shard h legal in
    let key : List ℕ = found.entry.key in
    let past : List KeyEvent = map event_of (key_part key found.front) in
    let rest : List KeyEvent = map event_of (key_part key found.back) in
    let is_legal : IsLegal (past ++ event_of found.entry ∷ rest) = subst (λ l. IsLegal l) (ap (λ l. map event_of (key_part key l)) found.split ∙ key_split found.front found.back found.entry) (keys key) in
    let waited = holds_of_let (IsWaiting past) found.entry.lets p t (ends past rest (event_of found.entry) is_legal).0 found.among in
    let w : IsWaiting past waited.0 = waited.1 in
    let told = event_at key found.front w.before w.told w.since w.joined in
    record {
      shard = found.shard;
      below = subst (λ s. s < shards) (sym found.home) (mod-lt _ some);
      index = told.0;
      entry = told.1;
      at = subst (λ l. slice_get l told.0 ≡ Some told.1) (sym found.split) (prefix_get found.front (found.front ++ found.entry ∷ found.back) told.0 told.1 (prefix_more found.front (found.entry ∷ found.back)) told.2);
      pass = ap (λ (e : KeyEvent). e.pass) told.3 ∙ (w.tells.pass ∙ waited.2);
      txn = w.tells.txn;
      ts = w.tells.ts;
      access = w.tells.access;
      longest = w.tells.longest;
      call = subst (λ u. told.1.call ≡ Visit u w.tells.txn w.tells.ts w.tells.access w.tells.longest) waited.3 (ap (λ (e : KeyEvent). e.call) told.3 ∙ w.tells.call);
      reply = ap (λ (e : KeyEvent). e.reply) told.3 ∙ w.tells.reply;
    }
