-- Cells that were told of a step say what the steps up to it made of each key's lock.
use Rattle.std.proofs.Common.{◌≡◌, ℕ, Bool, true, false, cond, Option, Some, None, List, [], ◌∷◌, ◌++◌, length, refl, sym, ap, subst, ◌∙◌}
use Rattle.std.specs.Prelude.{IfSome, IsSome, MatchOption, is_some}
use Rattle.std.specs.Option.{option_map}
use Rattle.std.specs.Str.{bytes_eq}
use Rattle.std.proofs.lemmas.Slice.Eq.{bytes_eq-Decides}
use Rattle.lt_ids.specs.declared.timestamp.Timestamp.{Timestamp}
use Rattle.lt_rules.specs.declared.call.Call.{Call}
use Rattle.lt_rules.specs.declared.call.Call.TheVariants.{Visit, Acquire, Update, Finish, Leave, Look}
use Rattle.lt_rules.specs.declared.call.Reply.{Reply}
use Rattle.lt_rules.specs.Step.{is_taken, is_freed}
use Rattle.lt_entry.specs.declared.entry.Entry.{Entry}
use Rattle.lt_entry.specs.Legal.{AreLegalKeys}
use Rattle.lt_shard.specs.declared.answer.Answer.{Answer}
use Rattle.lt_shard.specs.Shards.{entry_of}
use Rattle.lt_tenure.specs.Tenure as tenure
use Rattle.lt_tenure.specs.Tenure.{owner_with, owner_step, owner_after, lock_owner, freed_step, freed_after, last_freed, IsTenure}
use Rattle.lt_tenure.specs.Laws.{OwnerFollows, LastFreedFollows, FreeingEndsATenure, TenureLasts}
use Rattle.example_cells.specs.declared.cell.Cell.{Cell}
use Rattle.example_cells.specs.declared.cell.Owner.{Owner}
use Rattle.example_cells.specs.declared.cell.PastTenure.{PastTenure}
use Rattle.example_cells.specs.Knowing.{Put, owner_next, past_of, past_next, ToldCell, owner_named, tenure_of, Knows, CellKnows, CellMap, cell_at, CellsKnow, ToldEach, HasCellFor, installed, InstallsWith}
use Rattle.lt_table_core.specs.Values.{IsNextStep}

own_bytes : (a : List ℕ) → bytes_eq a a ≡ true
own_bytes a = (bytes_eq-Decides a a).1 refl

-- The call is the next step of these, with this index and with this reply.
record NextAt (es : List Entry) (key : List ℕ) (pass : ℕ) (call : Call) (reply : Reply) (at : ℕ) : Type 0 where
  at_is : at ≡ length es
  reply_is : reply ≡ (entry_of es pass key call).reply
  legal : AreLegalKeys es

abbrev freed_of : Option PastTenure → Option ℕ
freed_of t = option_map (λ x. x.freed) t

-- ---- a tenure that ended before

lasts_if : TenureLasts → (key : List ℕ) (es more : List Entry) (t : Option PastTenure) → IfSome t (λ x. IsTenure es x.txn (tenure_of key x)) → IfSome t (λ x. IsTenure (es ++ more) x.txn (tenure_of key x))
lasts_if lasts key es more None ended = tt
lasts_if lasts key es more (Some x) ended = lasts es more x.txn (tenure_of key x) ended

-- ---- a step at another key

knows_elsewhere : OwnerFollows → LastFreedFollows → TenureLasts → (q : List ℕ) (es : List Entry) (e : Entry) (o : Option Owner) (t : Option PastTenure) → bytes_eq e.key q ≡ false → Knows q es o t → Knows q (es ++ e ∷ []) o t
knows_elsewhere owner freed lasts q es e o t away knows = record {
  owner = knows.owner ∙ sym (owner q es e ∙ ap (λ b. cond b (owner_step (lock_owner q es) (length es) e.call e.reply) (lock_owner q es)) away);
  last = knows.last ∙ sym (freed q es e ∙ ap (λ b. cond b (freed_step (last_freed q es) (length es) e.call e.reply) (last_freed q es)) away);
  ended = lasts_if lasts q es (e ∷ []) t knows.ended;
}

-- ---- a step at the cell's own key

named_if : (b : Bool) (x : Option Owner) (o : Option Owner) → option_map owner_named (cond b x o) ≡ cond b (option_map owner_named x) (option_map owner_named o)
named_if true x o = refl
named_if false x o = refl

named_next : (o : Option Owner) (at : ℕ) (call : Call) (reply : Reply) → option_map owner_named (owner_next o at call reply) ≡ owner_step (option_map owner_named o) at call reply
named_next o at (Visit ticket txn ts access longest) reply = refl
named_next o at (Acquire txn ts) reply = named_if (is_taken reply) (Some (record { txn = txn; taken = at })) o
named_next o at (Update txn ts) reply = refl
named_next o at (Finish txn) reply = named_if (is_freed reply) None o
named_next o at (Leave number) reply = refl
named_next o at (Look number) reply = refl

-- The step at the cell's key: it is the next one of the shard, and the rules gave its reply.
module _ (key : List ℕ) (es : List Entry) (pass at : ℕ) (call : Call) (reply : Reply) (next : NextAt es key pass call reply at) where
  abbrev entry : Entry
  entry = entry_of es pass key call

  owner_then : OwnerFollows → (o : Option Owner) → option_map owner_named o ≡ lock_owner key es → option_map owner_named (owner_next o at call reply) ≡ lock_owner key (es ++ entry ∷ [])
  owner_then owner o is =
      named_next o at call reply
      ∙ (ap (λ w. owner_step w at call reply) is
      ∙ (ap (λ n. owner_step (lock_owner key es) n call reply) next.at_is
      ∙ (ap (λ r. owner_step (lock_owner key es) (length es) call r) next.reply_is
      ∙ sym (owner key es entry ∙ ap (λ b. cond b (owner_step (lock_owner key es) (length es) call entry.reply) (lock_owner key es)) (own_bytes key)))))

  freed_then : LastFreedFollows → (f : Option ℕ) → f ≡ last_freed key es → freed_step f at call reply ≡ last_freed key (es ++ entry ∷ [])
  freed_then freed f is =
      ap (λ w. freed_step w at call reply) is
      ∙ (ap (λ n. freed_step (last_freed key es) n call reply) next.at_is
      ∙ (ap (λ r. freed_step (last_freed key es) (length es) call r) next.reply_is
      ∙ sym (freed key es entry ∙ ap (λ b. cond b (freed_step (last_freed key es) (length es) call entry.reply) (last_freed key es)) (own_bytes key))))

-- what one more step owes of the tenure that ended last
record Ends (key : List ℕ) (es : List Entry) (t : Option PastTenure) (f : Option ℕ) : Type 0 where
  last : freed_of t ≡ f
  ended : IfSome t (λ x. IsTenure es x.txn (tenure_of key x))

-- a transaction frees the lock that this owner owns
ends_own : (key : List ℕ) (es : List Entry) (e : Entry) (at txn : ℕ) (o : Option Owner) → e.key ≡ key → at ≡ length es → option_map owner_named o ≡ lock_owner key es →
    ((taken : ℕ) × (lock_owner e.key es ≡ Some (owner_with txn taken)) × IsTenure (es ++ e ∷ []) txn (record { key = e.key; taken = taken; freed = length es })) →
    Ends key (es ++ e ∷ []) (past_of o at) (Some at)
ends_own key es e at txn None same index is own =
    let none : None ≡ Some (owner_with txn own.0) = is ∙ (ap (λ k. lock_owner k es) (sym same) ∙ own.1) in absurd cc
ends_own key es e at txn (Some x) same index is own =
    let both : Some (owner_named x) ≡ Some (owner_with txn own.0) = is ∙ (ap (λ k. lock_owner k es) (sym same) ∙ own.1) in
    let owner : owner_named x ≡ owner_with txn own.0 = cc both in
    let name : x.txn ≡ txn = ap (λ (w : tenure.Owner). w.txn) owner in
    let index_too : x.taken ≡ own.0 = ap (λ (w : tenure.Owner). w.taken) owner in
    record { last = refl; ended = rw (name, index_too, index, sym same) own.2 }

ends_if : TenureLasts → FreeingEndsATenure → (key : List ℕ) (es : List Entry) (pass at txn : ℕ) (reply : Reply) (o : Option Owner) (t : Option PastTenure) → NextAt es key pass (Finish txn) reply at → Knows key es o t →
    (b : Bool) → is_freed reply ≡ b → Ends key (es ++ entry_of es pass key (Finish txn) ∷ []) (cond b (past_of o at) t) (cond b (Some at) (freed_of t))
ends_if lasts ends key es pass at txn reply o t next knows true is =
    let e : Entry = entry_of es pass key (Finish txn) in
    ends_own key es e at txn o refl next.at_is knows.owner (ends es e txn next.legal (record { reply = refl; lets = refl }) refl (ap is_freed (sym next.reply_is) ∙ is))
ends_if lasts ends key es pass at txn reply o t next knows false is =
    record { last = refl; ended = lasts_if lasts key es (entry_of es pass key (Finish txn) ∷ []) t knows.ended }

ends_next : TenureLasts → FreeingEndsATenure → (key : List ℕ) (es : List Entry) (pass at : ℕ) (call : Call) (reply : Reply) (o : Option Owner) (t : Option PastTenure) → NextAt es key pass call reply at → Knows key es o t →
    Ends key (es ++ entry_of es pass key call ∷ []) (past_next t o at call reply) (freed_step (freed_of t) at call reply)
ends_next lasts ends key es pass at (Visit ticket txn ts access longest) reply o t next knows = record { last = refl; ended = lasts_if lasts key es _ t knows.ended }
ends_next lasts ends key es pass at (Acquire txn ts) reply o t next knows = record { last = refl; ended = lasts_if lasts key es _ t knows.ended }
ends_next lasts ends key es pass at (Update txn ts) reply o t next knows = record { last = refl; ended = lasts_if lasts key es _ t knows.ended }
ends_next lasts ends key es pass at (Finish txn) reply o t next knows = ends_if lasts ends key es pass at txn reply o t next knows (is_freed reply) refl
ends_next lasts ends key es pass at (Leave number) reply o t next knows = record { last = refl; ended = lasts_if lasts key es _ t knows.ended }
ends_next lasts ends key es pass at (Look number) reply o t next knows = record { last = refl; ended = lasts_if lasts key es _ t knows.ended }

-- The laws of one more step.
pub record Laws : Type 0 where
  owner : OwnerFollows
  freed : LastFreedFollows
  ends : FreeingEndsATenure
  lasts : TenureLasts

pub laws_of : OwnerFollows → LastFreedFollows → FreeingEndsATenure → TenureLasts → Laws
laws_of owner freed ends lasts = record { owner = owner; freed = freed; ends = ends; lasts = lasts }

knows_here : Laws → (key : List ℕ) (es : List Entry) (pass at : ℕ) (call : Call) (reply : Reply) (o : Option Owner) (t : Option PastTenure) → NextAt es key pass call reply at → Knows key es o t →
    Knows key (es ++ entry_of es pass key call ∷ []) (owner_next o at call reply) (past_next t o at call reply)
knows_here laws key es pass at call reply o t next knows =
    let e = ends_next laws.lasts laws.ends key es pass at call reply o t next knows in
    record {
      owner = owner_then key es pass at call reply next laws.owner o knows.owner;
      last = e.last ∙ freed_then key es pass at call reply next laws.freed (freed_of t) knows.last;
      ended = e.ended;
    }

-- ---- every cell

-- a key that has no cell, and that the call does not lock
none_if : {A : Type 0} (b : Bool) (o : Option A) → o ≡ None → cond b None o ≡ None
none_if true o is = refl
none_if false o is = is

past_if : (b : Bool) (at : ℕ) → cond b (past_of None at) None ≡ None
past_if true at = refl
past_if false at = refl

record StaysNone (at : ℕ) (call : Call) (reply : Reply) : Type 0 where
  owner : owner_next None at call reply ≡ None
  past : past_next None None at call reply ≡ None

stays_none : (at : ℕ) (call : Call) (reply : Reply) → ((txn : ℕ) (ts : Timestamp) → call ≡ Acquire txn ts → ⊥) → StaysNone at call reply
stays_none at (Visit ticket txn ts access longest) reply never = record { owner = refl; past = refl }
stays_none at (Acquire txn ts) reply never = absurd (never txn ts refl)
stays_none at (Update txn ts) reply never = record { owner = refl; past = refl }
stays_none at (Finish txn) reply never = record { owner = none_if (is_freed reply) None refl; past = past_if (is_freed reply) at }
stays_none at (Leave number) reply never = record { owner = refl; past = refl }
stays_none at (Look number) reply never = record { owner = refl; past = refl }

cell_elsewhere : Laws → (q : List ℕ) (es : List Entry) (e : Entry) (c : Option Cell) → bytes_eq e.key q ≡ false → CellKnows q es c → CellKnows q (es ++ e ∷ []) c
cell_elsewhere laws q es e None away knows = knows_elsewhere laws.owner laws.freed laws.lasts q es e None None away knows
cell_elsewhere laws q es e (Some c) away knows = knows_elsewhere laws.owner laws.freed laws.lasts q es e c.owner c.last away knows

cell_here : Laws → (key : List ℕ) (es : List Entry) (pass at : ℕ) (call : Call) (reply : Reply) (o n : Option Cell) → NextAt es key pass call reply at →
    MatchOption o (n ≡ None) (λ c. (d : Cell) × (n ≡ Some d) × ToldCell c d call reply at) → ((txn : ℕ) (ts : Timestamp) → call ≡ Acquire txn ts → IsSome o) → CellKnows key es o → CellKnows key (es ++ entry_of es pass key call ∷ []) n
cell_here laws key es pass at call reply None n next told has knows =
    let stays = stays_none at call reply (λ txn ts is. let some = has txn ts is in absurd cc) in
    let after = knows_here laws key es pass at call reply None None next knows in
    subst (CellKnows key (es ++ entry_of es pass key call ∷ [])) (sym told) (subst (λ o. Knows key (es ++ entry_of es pass key call ∷ []) o None) stays.owner (subst (λ t. Knows key (es ++ entry_of es pass key call ∷ []) (owner_next None at call reply) t) stays.past after))
cell_here laws key es pass at call reply (Some c) n next told has knows =
    let after = knows_here laws key es pass at call reply c.owner c.last next knows in
    subst (CellKnows key (es ++ entry_of es pass key call ∷ [])) (sym told.1) (subst (λ o. Knows key (es ++ entry_of es pass key call ∷ []) o told.0.last) (sym told.2.owner) (subst (λ t. Knows key (es ++ entry_of es pass key call ∷ []) (owner_next c.owner at call reply) t) (sym told.2.last) after))

at_key : Laws → (old new : CellMap) (q key : List ℕ) (es : List Entry) (pass at : ℕ) (call : Call) (reply : Reply) → NextAt es key pass call reply at → ToldEach old new key call reply at → HasCellFor old key call → CellsKnow es old →
    (b : Bool) → bytes_eq key q ≡ b → CellKnows q (es ++ entry_of es pass key call ∷ []) (cell_at new q)
at_key laws old new q key es pass at call reply next told has knows true is =
    subst (λ k. CellKnows k (es ++ entry_of es pass key call ∷ []) (cell_at new k)) ((bytes_eq-Decides key q).0 is)
    (cell_here laws key es pass at call reply (cell_at old key) (cell_at new key) next told.here has (knows key))
at_key laws old new q key es pass at call reply next told has knows false is =
    subst (CellKnows q (es ++ entry_of es pass key call ∷ [])) (sym (told.others q is)) (cell_elsewhere laws q es (entry_of es pass key call) (cell_at old q) is (knows q))

pub know_more : Laws → (old new : CellMap) (key : List ℕ) (es : List Entry) (pass : ℕ) (call : Call) (answer : Answer) → IsNextStep es key pass call answer → ToldEach old new key call answer.reply answer.at → HasCellFor old key call → CellsKnow es old →
    CellsKnow (es ++ entry_of es pass key call ∷ []) new
know_more laws old new key es pass call answer next told has knows q =
    at_key laws old new q key es pass answer.at call answer.reply (record { at_is = next.at_is; reply_is = next.reply_is; legal = next.legal }) told has knows (bytes_eq key q) refl

-- ---- cells that are made, and values that are set

pub none_of : {A : Type 0} (o : Option A) → is_some o ≡ false → o ≡ None
none_of None is = refl
none_of (Some x) is = absurd cc

made_at : (old n : Option Cell) (q : List ℕ) (es : List Entry) (made : Cell) (b : Bool) → n ≡ cond b (Some made) old → (b ≡ true → old ≡ None) → made.owner ≡ None → made.last ≡ None → CellKnows q es old → CellKnows q es n
made_at old n q es made true is none owner last knows =
    let before : Knows q es None None = subst (CellKnows q es) (none refl) knows in
    subst (CellKnows q es) (sym is) (subst (λ o. Knows q es o made.last) (sym owner) (subst (λ t. Knows q es None t) (sym last) before))
made_at old n q es made false is none owner last knows = subst (CellKnows q es) (sym is) knows

pub made_knows : (old new : CellMap) (key : List ℕ) (made : Cell) → cell_at old key ≡ None → made.owner ≡ None → made.last ≡ None → ((q : List ℕ) → cell_at new q ≡ cond (bytes_eq key q) (Some made) (cell_at old q)) → (es : List Entry) → CellsKnow es old → CellsKnow es new
made_knows old new key made none owner last is es knows q =
    made_at (cell_at old q) (cell_at new q) q es made (bytes_eq key q) (is q) (λ same. ap (cell_at old) (sym ((bytes_eq-Decides key q).0 same)) ∙ none) owner last (knows q)

install_at : (left : Bool) (old n : Option Cell) (q : List ℕ) (es : List Entry) (put : Option Put) → MatchOption old (n ≡ None) (λ c. n ≡ Some (installed left put c)) → CellKnows q es old → CellKnows q es n
install_at left None n q es put is knows = subst (CellKnows q es) (sym is) knows
install_at left (Some c) n q es put is knows = subst (CellKnows q es) (sym is) knows

install_in : (left : Bool) (old new : CellMap) (key q : List ℕ) (es : List Entry) (put : Option Put) → InstallsWith left old new key put → CellsKnow es old → (b : Bool) → bytes_eq key q ≡ b → CellKnows q es (cell_at new q)
install_in left old new key q es put installs knows true is = subst (λ k. CellKnows k es (cell_at new k)) ((bytes_eq-Decides key q).0 is) (install_at left (cell_at old key) (cell_at new key) key es put installs.here (knows key))
install_in left old new key q es put installs knows false is = subst (CellKnows q es) (sym (installs.others q is)) (knows q)

pub install_knows : (left : Bool) (old new : CellMap) (key : List ℕ) (put : Option Put) → InstallsWith left old new key put → (es : List Entry) → CellsKnow es old → CellsKnow es new
install_knows left old new key put installs es knows q = install_in left old new key q es put installs knows (bytes_eq key q) refl
