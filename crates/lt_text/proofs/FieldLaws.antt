-- Each word inside a line: what is read was written that way, what is written reads back as itself, and it is
-- plain.
use Rattle.std.proofs.Common.{◌≡◌, ℕ, ◌^◌, ◌<◌, ◌≤◌, ◌⊎◌, ◌&&◌, Bool, true, false, cond, ltb, leb, eqb, List, [], ◌∷◌, ◌++◌, take, drop, Option, Some, None, refl, sym, ap, subst, ◌∙◌, inl, inr, arith}
use Rattle.std.specs.Prelude.{codes}
use Rattle.std.specs.Str.{bytes_eq}
use Rattle.std.specs.Fmt.{decimal}
use Rattle.std.specs.List.{All}
use Rattle.std.proofs.lemmas.Bool.{and_parts, and_from, ltb-true, lt-ltb, leb-true, le-leb, ne_eqb}
use Rattle.std.proofs.lemmas.Option.{cond_some, some_pair_parts, same_Some}
use Rattle.std.proofs.lemmas.List.{take-append-drop}
use Rattle.std.proofs.lemmas.Slice.Eq.{bytes_eq-Decides}
use Rattle.lt_ids.specs.Ids.{Wait}
use Rattle.lt_ids.specs.declared.timestamp.Timestamp.{Timestamp}
use Rattle.lt_ids.specs.declared.request.Access.{Access}
use Rattle.lt_ids.specs.declared.request.Access.TheVariants.{Read, Write}
use Rattle.lt_text.specs.Maybe.{◌>>=◌}
use Rattle.lt_text.specs.Words.{cut_of}
use Rattle.lt_text.specs.Number.{decimal_of}
use Rattle.lt_text.specs.Fields.{pair_word, ticket_word, time_word, access_word, owner_word, bound_word, number_within, pair_of, ticket_of, time_of, access_of, owner_of, is_bound, bound_of}
use Rattle.lt_entry.specs.Ranges.{IsTicket, IsTime, IsOwner}
use Rattle.lt_text.specs.Calls.{field_at}
use Rattle.lt_text.specs.Replies.{held_word, held_of}
use Rattle.lt_text.proofs.Numbers.{number_of_is, decimal_of-decimal}
use Rattle.lt_text.proofs.Plain.{above, above_append, above_without, plain_decimal, digits_above, cut_takes, cut_again}

-- the value of a part that did not fail
pub bind_some : {A B : Type 0} (o : Option A) (f : A → Option B) (y : B) → (o >>= f) ≡ Some y → (x : A) × (o ≡ Some x) × (f x ≡ Some y)
bind_some (Some x) f y e = (x, refl, e)
bind_some None f y e = absurd cc

-- how a word is read and written
pub record IsField (A : Type 0) (read : List ℕ → Option A) (write : A → List ℕ) (Fits : A → Type 0) : Type 0 where
  pub takes : (word : List ℕ) (x : A) → read word ≡ Some x → (word ≡ write x) × Fits x
  pub again : (x : A) → Fits x → read (write x) ≡ Some x
  pub plain : (x : A) → Fits x → above 32 (write x) ≡ true

abbrev pub IsWithin : ℕ → ℕ → ℕ → Type 0
IsWithin low limit n = (low ≤ n) × (n < limit)

pub number_field : (low limit : ℕ) → limit ≤ 2 ^ 64 → IsField ℕ (number_within low limit) (λ n. decimal n) (IsWithin low limit)
number_field low limit le = record {
  takes = λ word n e.
      let b = bind_some (decimal_of word) (λ m. cond (leb low m && ltb m limit) (Some m) None) n e in
      let c = cond_some (leb low b.0 && ltb b.0 limit) b.0 n b.2 in
      let p = and_parts (leb low b.0) (ltb b.0 limit) c.0 in
      subst (λ (m : ℕ). (word ≡ decimal m) × IsWithin low limit m) c.1 ((number_of_is word b.0 b.1).1, (leb-true low b.0 p.0, ltb-true b.0 limit p.1));
  again = λ n h. rw (decimal_of-decimal n (omega arith), and_from _ _ (le-leb low n h.0) (lt-ltb n limit h.1)) refl;
  plain = λ n h. plain_decimal n (omega arith);
}

pub pair_takes : (word : List ℕ) (m n : ℕ) → pair_of word ≡ Some (m, n) → (word ≡ pair_word m n) × (m < 2 ^ 64) × (n < 2 ^ 64)
pair_takes word m n e =
    let a = bind_some (cut_of 46 word) (λ parts. decimal_of parts.0 >>= λ m. decimal_of parts.1 >>= λ n. Some (m, n)) (m, n) e in
    let b = bind_some (decimal_of a.0.0) (λ m. decimal_of a.0.1 >>= λ n. Some (m, n)) (m, n) a.2 in
    let c = bind_some (decimal_of a.0.1) (λ n. Some (b.0, n)) (m, n) b.2 in
    let p = some_pair_parts b.0 m c.0 n c.2 in
    let first = number_of_is a.0.0 b.0 b.1 in
    let second = number_of_is a.0.1 c.0 c.1 in
    let joined : word ≡ pair_word b.0 c.0 = cut_takes 46 word a.0.0 a.0.1 a.1 ∙ (ap (λ (t : List ℕ). t ++ 46 ∷ a.0.1) first.1 ∙ ap (λ (t : List ℕ). decimal b.0 ++ 46 ∷ t) second.1) in
    subst (λ (k : ℕ). (word ≡ pair_word k n) × (k < 2 ^ 64) × (n < 2 ^ 64)) p.0 (subst (λ (k : ℕ). (word ≡ pair_word b.0 k) × (b.0 < 2 ^ 64) × (k < 2 ^ 64)) p.1 (joined, first.0, second.0))

pub pair_plain : (m n : ℕ) → m < 2 ^ 64 → n < 2 ^ 64 → above 32 (pair_word m n) ≡ true
pair_plain m n lm ln = above_append 32 (decimal m) (46 ∷ decimal n) (plain_decimal m lm) (plain_decimal n ln)

no_dot : (n : ℕ) → n < 2 ^ 64 → All (λ b. eqb b 46 ≡ false) (decimal n)
no_dot n lt = above_without 47 46 (decimal n) (omega arith) (digits_above n lt)

pub pair_again : (m n : ℕ) → m < 2 ^ 64 → n < 2 ^ 64 → pair_of (pair_word m n) ≡ Some (m, n)
pair_again m n lm ln = rw (cut_again 46 (decimal m) (decimal n) (no_dot m lm), decimal_of-decimal m lm, decimal_of-decimal n ln) refl

pub time_field : IsField Timestamp time_of time_word IsTime
unfolding time_of
time_field = record {
  takes = λ word ts e.
      let a = bind_some (pair_of word) (λ t. cond (ltb t.1 (2 ^ 32)) (Some (record { wall = t.0; logical = t.1 })) None) ts e in
      let made : Timestamp = record { wall = a.0.0; logical = a.0.1 } in
      let c = cond_some (ltb a.0.1 (2 ^ 32)) made ts a.2 in
      let p = pair_takes word a.0.0 a.0.1 a.1 in
      subst (λ (x : Timestamp). (word ≡ time_word x) × IsTime x) c.1 (p.0, (p.1, ltb-true a.0.1 (2 ^ 32) c.0));
  again = λ ts h. rw (pair_again ts.wall ts.logical h.0 (omega arith), lt-ltb ts.logical (2 ^ 32) h.1) refl;
  plain = λ ts h. pair_plain ts.wall ts.logical h.0 (omega arith);
}

pub ticket_field : IsField Wait ticket_of ticket_word IsTicket
unfolding ticket_of
ticket_field = record {
  takes = λ word t e.
      let a = bind_some (pair_of word) (λ x. cond (((leb 1 x.0 && ltb x.0 (2 ^ 40)) && leb 1 x.1) && ltb x.1 (2 ^ 24)) (Some (record { number = x.0; wait = x.1 })) None) t e in
      let made : Wait = record { number = a.0.0; wait = a.0.1 } in
      let c = cond_some (((leb 1 a.0.0 && ltb a.0.0 (2 ^ 40)) && leb 1 a.0.1) && ltb a.0.1 (2 ^ 24)) made t a.2 in
      let d = and_parts ((leb 1 a.0.0 && ltb a.0.0 (2 ^ 40)) && leb 1 a.0.1) (ltb a.0.1 (2 ^ 24)) c.0 in
      let f = and_parts (leb 1 a.0.0 && ltb a.0.0 (2 ^ 40)) (leb 1 a.0.1) d.0 in
      let g = and_parts (leb 1 a.0.0) (ltb a.0.0 (2 ^ 40)) f.0 in
      let p = pair_takes word a.0.0 a.0.1 a.1 in
      subst (λ (x : Wait). (word ≡ ticket_word x) × IsTicket x) c.1 (p.0, ((leb-true 1 a.0.0 g.0, ltb-true a.0.0 (2 ^ 40) g.1), (leb-true 1 a.0.1 f.1, ltb-true a.0.1 (2 ^ 24) d.1)));
  again = λ t h. rw (pair_again t.number t.wait (omega arith) (omega arith), le-leb 1 t.number h.0.0, lt-ltb t.number (2 ^ 40) h.0.1, le-leb 1 t.wait h.1.0, lt-ltb t.wait (2 ^ 24) h.1.1) refl;
  plain = λ t h. pair_plain t.number t.wait (omega arith) (omega arith);
}

-- ---- a word of two possible ones

choose : {A : Type 0} (b c : Bool) (x y z : A) → cond b (Some x) (cond c (Some y) None) ≡ Some z → ((b ≡ true) × (x ≡ z)) ⊎ ((c ≡ true) × (y ≡ z))
choose true c x y z e = inl (refl, same_Some x z e)
choose false true x y z e = inr (refl, same_Some y z e)
choose false false x y z e = absurd cc

access_takes : (word : List ℕ) (a : Access) → access_of word ≡ Some a → (word ≡ access_word a) × Unit {0}
unfolding access_of
access_takes word a e =
    elim (choose (bytes_eq word (codes "r")) (bytes_eq word (codes "w")) Read Write a e) [
      | inl p ↦ subst (λ (x : Access). (word ≡ access_word x) × Unit {0}) p.1 ((bytes_eq-Decides word (codes "r")).0 p.0, tt)
      | inr p ↦ subst (λ (x : Access). (word ≡ access_word x) × Unit {0}) p.1 ((bytes_eq-Decides word (codes "w")).0 p.0, tt)
    ]

access_again : (a : Access) → Unit {0} → access_of (access_word a) ≡ Some a
unfolding access_of
access_again Read h = refl
access_again Write h = refl

access_plain : (a : Access) → Unit {0} → above 32 (access_word a) ≡ true
access_plain Read h = refl
access_plain Write h = refl

pub access_field : IsField Access access_of access_word (λ a. Unit {0})
access_field = record { takes = access_takes; again = access_again; plain = access_plain }

held_takes : (word : List ℕ) (h : Bool) → held_of word ≡ Some h → (word ≡ held_word h) × Unit {0}
held_takes word h e =
    elim (choose (bytes_eq word (codes "held")) (bytes_eq word (codes "reserved")) true false h e) [
      | inl p ↦ subst (λ (x : Bool). (word ≡ held_word x) × Unit {0}) p.1 ((bytes_eq-Decides word (codes "held")).0 p.0, tt)
      | inr p ↦ subst (λ (x : Bool). (word ≡ held_word x) × Unit {0}) p.1 ((bytes_eq-Decides word (codes "reserved")).0 p.0, tt)
    ]

held_again : (h : Bool) → Unit {0} → held_of (held_word h) ≡ Some h
held_again true u = refl
held_again false u = refl

held_plain : (h : Bool) → Unit {0} → above 32 (held_word h) ≡ true
held_plain true u = refl
held_plain false u = refl

pub held_field : IsField Bool held_of held_word (λ h. Unit {0})
held_field = record { takes = held_takes; again = held_again; plain = held_plain }

-- ---- an optional transaction, and a bound

pub txn_field : IsField ℕ (number_within 1 (2 ^ 64)) (λ n. decimal n) (IsWithin 1 (2 ^ 64))
txn_field = number_field 1 (2 ^ 64) (omega arith)

no_owner : (b : Bool) (o : Option (Option ℕ)) (x : Option ℕ) → cond b (Some None) o ≡ Some x → ((b ≡ true) × (None ≡ x)) ⊎ (o ≡ Some x)
no_owner true o x e = inl (refl, same_Some None x e)
no_owner false o x e = inr e

owner_takes : (word : List ℕ) (x : Option ℕ) → owner_of word ≡ Some x → (word ≡ owner_word x) × IsOwner x
unfolding owner_of
owner_takes word x e =
    elim (no_owner (bytes_eq word (codes "-")) (number_within 1 (2 ^ 64) word >>= λ txn. Some (Some txn)) x e) [
      | inl p ↦ subst (λ (y : Option ℕ). (word ≡ owner_word y) × IsOwner y) p.1 ((bytes_eq-Decides word (codes "-")).0 p.0, tt)
      | inr p ↦
          let a = bind_some (number_within 1 (2 ^ 64) word) (λ txn. Some (Some txn)) x p in
          subst (λ (y : Option ℕ). (word ≡ owner_word y) × IsOwner y) (same_Some (Some a.0) x a.2) (txn_field.takes word a.0 a.1)
    ]

-- The word of a transaction is not `-`.
no_hyphen : (ds : List ℕ) → above 47 ds ≡ true → bytes_eq ds (codes "-") ≡ false
no_hyphen [] p = refl
no_hyphen (d ∷ ds) p =
    let lt = ltb-true 47 d (and_parts (ltb 47 d) (above 47 ds) p).0 in
    rw (ne_eqb d 45 (λ e. absurd (omega arith))) refl

owner_again : (x : Option ℕ) → IsOwner x → owner_of (owner_word x) ≡ Some x
unfolding owner_of
owner_again None h = refl
owner_again (Some txn) h = rw (no_hyphen (decimal txn) (digits_above txn h.1), txn_field.again txn h) refl

owner_plain : (x : Option ℕ) → IsOwner x → above 32 (owner_word x) ≡ true
owner_plain None h = refl
owner_plain (Some txn) h = txn_field.plain txn h

pub owner_field : IsField (Option ℕ) owner_of owner_word IsOwner
owner_field = record { takes = owner_takes; again = owner_again; plain = owner_plain }

bound_number : IsField ℕ (number_within 1 (2 ^ 32)) (λ n. decimal n) (IsWithin 1 (2 ^ 32))
bound_number = number_field 1 (2 ^ 32) (omega arith)

only : {A : Type 0} (b : Bool) (o : Option A) (x : A) → cond b o None ≡ Some x → (b ≡ true) × (o ≡ Some x)
only true o x e = (refl, e)
only false o x e = absurd cc

bound_takes : (word : List ℕ) (n : ℕ) → bound_of word ≡ Some n → (word ≡ bound_word n) × IsWithin 1 (2 ^ 32) n
unfolding bound_of
bound_takes word n e =
    let p = only (is_bound word) (number_within 1 (2 ^ 32) (drop 4 word)) n e in
    let t = bound_number.takes (drop 4 word) n p.1 in
    let prefix : take 4 word ≡ codes "max=" = (bytes_eq-Decides (take 4 word) (codes "max=")).0 p.0 in
    (sym (take-append-drop 4 word) ∙ (ap (λ (xs : List ℕ). xs ++ drop 4 word) prefix ∙ ap (λ (xs : List ℕ). codes "max=" ++ xs) t.0), t.1)

bound_again : (n : ℕ) → IsWithin 1 (2 ^ 32) n → bound_of (bound_word n) ≡ Some n
unfolding bound_of
bound_again n h = bound_number.again n h

bound_plain : (n : ℕ) → IsWithin 1 (2 ^ 32) n → above 32 (bound_word n) ≡ true
bound_plain n h = above_append 32 (codes "max=") (decimal n) refl (bound_number.plain n h)

pub bound_field : IsField ℕ bound_of bound_word (IsWithin 1 (2 ^ 32))
bound_field = record { takes = bound_takes; again = bound_again; plain = bound_plain }

-- ---- fields of a line

pub field_takes : {A : Type 0} {read : List ℕ → Option A} {write : A → List ℕ} {Fits : A → Type 0} (field : IsField A read write Fits) (words : List (List ℕ)) (x : A) (rest : List (List ℕ))
    → field_at read words ≡ Some (x, rest) → (words ≡ write x ∷ rest) × Fits x
field_takes field [] x rest e = absurd cc
field_takes {read = read} {write = write} {Fits = Fits} field (word ∷ words) x rest e =
    let a = bind_some (read word) (λ y. Some (y, words)) (x, rest) e in
    let p = some_pair_parts a.0 x words rest a.2 in
    let t = field.takes word x (a.1 ∙ ap (λ y. Some y) p.0) in
    (ap (λ (w : List ℕ). w ∷ words) t.0 ∙ ap (λ (ws : List (List ℕ)). write x ∷ ws) p.1, t.1)

pub field_again : {A : Type 0} {read : List ℕ → Option A} {write : A → List ℕ} {Fits : A → Type 0} (field : IsField A read write Fits) (x : A) (rest : List (List ℕ)) → Fits x → field_at read (write x ∷ rest) ≡ Some (x, rest)
field_again field x rest h = rw (field.again x h) refl
