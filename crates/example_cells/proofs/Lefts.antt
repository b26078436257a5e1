-- What cells say of the log of values stays true, whatever they are told.
use Rattle.std.proofs.Common.{◌≡◌, ℕ, Bool, true, false, cond, Option, Some, None, List, refl, sym, ap, subst, ◌∙◌}
use Rattle.std.specs.Prelude.{MatchOption, IfSome, unwrap_or}
use Rattle.std.specs.Option.{option_map}
use Rattle.std.specs.Str.{bytes_eq}
use Rattle.std.proofs.lemmas.Slice.Eq.{bytes_eq-Decides}
use mathlib.Core.List.{IsPrefix}
use Rattle.lt_rules.specs.declared.call.Call.{Call}
use Rattle.lt_rules.specs.declared.call.Call.TheVariants.{Visit, Acquire, Update, Finish, Leave, Look}
use Rattle.lt_rules.specs.declared.call.Reply.{Reply}
use Rattle.lt_rules.specs.Step.{is_freed}
use Rattle.lt_words.specs.History.{shard_of}
use Rattle.example_values.specs.declared.entry.LeftValue.{LeftValue}
use Rattle.example_values.specs.Values.{EntriesStay}
use Rattle.example_cells.specs.declared.cell.Cell.{Cell}
use Rattle.example_cells.specs.declared.cell.CellReading.{CellReading}
use Rattle.example_cells.specs.declared.cell.Owner.{Owner}
use Rattle.example_cells.specs.declared.cell.PastTenure.{PastTenure}
use Rattle.example_cells.specs.Knowing.{Put, CellMap, cell_at, value_bytes, last_of, left_next, past_next, installed, ToldCell, ToldEach, InstallsWith}
use Rattle.example_cells.specs.Leaving.{LeftAt, IsCellLeft, AreCellsLeft, IsReadingLeft, OneValue}

-- a cell that is at a key by two paths is one cell
one_cell : (o : Option Cell) (c d : Cell) → o ≡ Some c → o ≡ Some d → c ≡ d
one_cell o c d p q = let both : Some c ≡ Some d = sym p ∙ q in cc both

-- the log grew
left_later : EntriesStay → (shards : ℕ) (log later : List LeftValue) (key : List ℕ) (at : ℕ) (bytes : Option (List ℕ)) → IsPrefix log later → LeftAt shards log key at bytes → LeftAt shards later key at bytes
left_later stay shards log later key at bytes p is = stay log later (shard_of key shards) at (record { shard = shard_of key shards; key = key; at = at; value = bytes }) p is

cell_later : EntriesStay → (shards : ℕ) (log later : List LeftValue) (key : List ℕ) (c : Cell) → IsPrefix log later → IsCellLeft shards log key c → IsCellLeft shards later key c
cell_later stay shards log later key c p says t left last = left_later stay shards log later key t.freed (value_bytes c.value) p (says t left last)

pub cells_later : EntriesStay → (shards : ℕ) (log later : List LeftValue) (cells : CellMap) → IsPrefix log later → AreCellsLeft shards log cells → AreCellsLeft shards later cells
cells_later stay shards log later cells p all key c is = cell_later stay shards log later key c p (all key c is)

-- ---- a step

record Stays (left : Bool) (last : Option PastTenure) (owner : Option Owner) (at : ℕ) (call : Call) (reply : Reply) : Type 0 where
  left_is : left ≡ true
  last_is : past_next last owner at call reply ≡ last

stays_if : (b left : Bool) (last freed : Option PastTenure) → cond b false left ≡ true → (left ≡ true) × (cond b freed last ≡ last)
stays_if true left last freed is = absurd cc
stays_if false left last freed is = (is, refl)

stays : (left : Bool) (last : Option PastTenure) (owner : Option Owner) (at : ℕ) (call : Call) (reply : Reply) → left_next left call reply ≡ true → Stays left last owner at call reply
stays left last owner at (Visit ticket txn ts access longest) reply is = record { left_is = is; last_is = refl }
stays left last owner at (Acquire txn ts) reply is = record { left_is = is; last_is = refl }
stays left last owner at (Update txn ts) reply is = record { left_is = is; last_is = refl }
stays left last owner at (Finish txn) reply is = let both = stays_if (is_freed reply) left last _ is in record { left_is = both.0; last_is = both.1 }
stays left last owner at (Leave number) reply is = record { left_is = is; last_is = refl }
stays left last owner at (Look number) reply is = record { left_is = is; last_is = refl }

told_cell : (shards : ℕ) (log : List LeftValue) (key : List ℕ) (c d : Cell) (call : Call) (reply : Reply) (at : ℕ) → ToldCell c d call reply at → IsCellLeft shards log key c → IsCellLeft shards log key d
told_cell shards log key c d call reply at told says t left last =
    let s = stays c.left c.last c.owner at call reply (sym told.left ∙ left) in
    subst (λ v. LeftAt shards log key t.freed (value_bytes v)) (sym told.value) (says t s.left_is (sym s.last_is ∙ (sym told.last ∙ last)))

told_here : (shards : ℕ) (log : List LeftValue) (key : List ℕ) (o n : Option Cell) (call : Call) (reply : Reply) (at : ℕ) → MatchOption o (n ≡ None) (λ c. (d : Cell) × (n ≡ Some d) × ToldCell c d call reply at) →
    ((c : Cell) → o ≡ Some c → IsCellLeft shards log key c) → (d : Cell) → n ≡ Some d → IsCellLeft shards log key d
told_here shards log key None n call reply at told says d is = let none : None ≡ Some d = sym told ∙ is in absurd cc
told_here shards log key (Some c) n call reply at told says d is = subst (IsCellLeft shards log key) (one_cell n told.0 d told.1 is) (told_cell shards log key c told.0 call reply at told.2 (says c refl))

by_key : (P : List ℕ → Type 0) (key q : List ℕ) → P key → (bytes_eq key q ≡ false → P q) → (b : Bool) → bytes_eq key q ≡ b → P q
by_key P key q here else true is = subst P ((bytes_eq-Decides key q).0 is) here
by_key P key q here else false is = else is

pub told_left : (shards : ℕ) (log : List LeftValue) (old new : CellMap) (key : List ℕ) (call : Call) (reply : Reply) (at : ℕ) → ToldEach old new key call reply at → AreCellsLeft shards log old → AreCellsLeft shards log new
told_left shards log old new key call reply at told all q =
    by_key (λ k. (c : Cell) → cell_at new k ≡ Some c → IsCellLeft shards log k c) key q
    (told_here shards log key (cell_at old key) (cell_at new key) call reply at told.here (all key))
    (λ other c is. all q c (sym (told.others q other) ∙ is))
    (bytes_eq key q) refl

-- ---- a cell that is made

made_at : (shards : ℕ) (log : List LeftValue) (q : List ℕ) (b : Bool) (old n : Option Cell) (made : Cell) → n ≡ cond b (Some made) old → made.left ≡ false → ((c : Cell) → old ≡ Some c → IsCellLeft shards log q c) → (c : Cell) → n ≡ Some c → IsCellLeft shards log q c
made_at shards log q true old n made is fresh says c here t left last =
    let same : made ≡ c = one_cell n made c is here in
    let not : false ≡ true = sym fresh ∙ (ap (λ (x : Cell). x.left) same ∙ left) in absurd cc
made_at shards log q false old n made is fresh says c here t left last = says c (sym is ∙ here) t left last

pub made_left : (old new : CellMap) (key : List ℕ) (made : Cell) → made.left ≡ false → ((q : List ℕ) → cell_at new q ≡ cond (bytes_eq key q) (Some made) (cell_at old q)) → (shards : ℕ) (log : List LeftValue) → AreCellsLeft shards log old → AreCellsLeft shards log new
made_left old new key made fresh is shards log all q = made_at shards log q (bytes_eq key q) (cell_at old q) (cell_at new q) made (is q) fresh (all q)

-- ---- what is put

put_at : (shards : ℕ) (log : List LeftValue) (key : List ℕ) (o n : Option Cell) (put : Option Put) → MatchOption o (n ≡ None) (λ c. n ≡ Some (installed false put c)) → (d : Cell) → n ≡ Some d → IsCellLeft shards log key d
put_at shards log key None n put is d here t left last = let none : None ≡ Some d = sym is ∙ here in absurd cc
put_at shards log key (Some c) n put is d here t left last =
    let same : installed false put c ≡ d = one_cell n (installed false put c) d is here in
    let not : false ≡ true = ap (λ (x : Cell). x.left) same ∙ left in absurd cc

pub put_left : (old new : CellMap) (key : List ℕ) (put : Option Put) → InstallsWith false old new key put → (shards : ℕ) (log : List LeftValue) → AreCellsLeft shards log old → AreCellsLeft shards log new
put_left old new key put installs shards log all q =
    by_key (λ k. (c : Cell) → cell_at new k ≡ Some c → IsCellLeft shards log k c) key q
    (put_at shards log key (cell_at old key) (cell_at new key) put installs.here)
    (λ other c is. all q c (sym (installs.others q other) ∙ is))
    (bytes_eq key q) refl

pub leave_left : EntriesStay → (left : Bool) (old new : CellMap) (key : List ℕ) (put : Option Put) (shards : ℕ) (log later : List LeftValue) → InstallsWith left old new key put → ((c : Cell) → cell_at new key ≡ Some c → IsCellLeft shards later key c) → IsPrefix log later →
    AreCellsLeft shards log old → AreCellsLeft shards later new
leave_left stay left old new key put shards log later installs here p all q =
    by_key (λ k. (c : Cell) → cell_at new k ≡ Some c → IsCellLeft shards later k c) key q
    here
    (λ other c is. cell_later stay shards log later q c p (all q c (sym (installs.others q other) ∙ is)))
    (bytes_eq key q) refl

-- ---- what was put is what the log says

put_of : (shards : ℕ) (log : List LeftValue) (key : List ℕ) (c : Cell) (put : Option Put) (t : PastTenure) → LeftAt shards log key t.freed (value_bytes (unwrap_or put c.value)) → IfSome put (λ p. LeftAt shards log key t.freed (value_bytes p))
put_of shards log key c None t is = tt
put_of shards log key c (Some p) t is = is

tenure_of_cell : (shards : ℕ) (log : List LeftValue) (key : List ℕ) (c : Cell) (put : Option Put) (last : Option PastTenure) → c.last ≡ last → IsCellLeft shards log key (installed true put c) → IfSome last (λ t. IfSome put (λ p. LeftAt shards log key t.freed (value_bytes p)))
tenure_of_cell shards log key c put None is says = tt
tenure_of_cell shards log key c put (Some t) is says = put_of shards log key c put t (says t refl is)

left_here : (shards : ℕ) (log : List LeftValue) (key : List ℕ) (o n : Option Cell) (put : Option Put) → MatchOption o (n ≡ None) (λ c. n ≡ Some (installed true put c)) → ((c : Cell) → n ≡ Some c → IsCellLeft shards log key c) → IfSome (last_of o) (λ t. IfSome put (λ p. LeftAt shards log key t.freed (value_bytes p)))
left_here shards log key None n put is says = tt
left_here shards log key (Some c) n put is says = tenure_of_cell shards log key c put c.last refl (says (installed true put c) is)

pub what_is_left : (left : Bool) (old new : CellMap) (key : List ℕ) (put : Option Put) (shards : ℕ) (log : List LeftValue) → left ≡ true → InstallsWith left old new key put → ((c : Cell) → cell_at new key ≡ Some c → IsCellLeft shards log key c) →
    IfSome (last_of (cell_at old key)) (λ t. IfSome put (λ p. LeftAt shards log key t.freed (value_bytes p)))
what_is_left left old new key put shards log is installs here =
    let true_is : InstallsWith true old new key put = subst (λ b. InstallsWith b old new key put) is installs in
    left_here shards log key (cell_at old key) (cell_at new key) put true_is.here here

-- ---- a step left one value

pub one_value : (shards : ℕ) (log : List LeftValue) → OneValue shards log
one_value shards log key at v w a b =
    let both : Some (record { shard = shard_of key shards; key = key; at = at; value = v }) ≡ Some (record { shard = shard_of key shards; key = key; at = at; value = w }) = sym a ∙ b in
    let same : record { shard = shard_of key shards; key = key; at = at; value = v } ≡ record { shard = shard_of key shards; key = key; at = at; value = w } = cc both in
    ap (λ (e : LeftValue). e.value) same

pub same_value : EntriesStay → (shards : ℕ) (mine its both : List LeftValue) (key other : List ℕ) (freed : ℕ) → IsPrefix mine both → IsPrefix its both → (r : CellReading) (t : PastTenure) (bytes : Option (List ℕ)) → IsReadingLeft shards mine key r → r.left ≡ true → r.last ≡ Some t →
    key ≡ other → t.freed ≡ freed → LeftAt shards its other freed bytes → value_bytes r.value ≡ bytes
same_value stay shards mine its both key other freed p q r t bytes says left last key_is freed_is put =
    let read : LeftAt shards both key t.freed (value_bytes r.value) = left_later stay shards mine both key t.freed (value_bytes r.value) p (says t left last) in
    let here : LeftAt shards both other freed (value_bytes r.value) = subst (λ (x : List ℕ × ℕ). LeftAt shards both x.0 x.1 (value_bytes r.value)) (λ i. (key_is i, freed_is i)) read in
    one_value shards both other freed (value_bytes r.value) bytes here (left_later stay shards its both other freed bytes q put)
