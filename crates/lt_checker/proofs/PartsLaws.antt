-- Reading inverts writing: what is read as a line is the text of that line, and the text of each line is read as
-- that line.
use Rattle.std.proofs.Common.{◌≡◌, ℕ, ◌^◌, Bool, true, false, cond, not, eqb, ltb, leb, List, [], ◌∷◌, ◌++◌, length, get_or, Option, Some, None, refl, sym, ap, subst, ◌∙◌, append_assoc, suc, rules, arith}
use Rattle.std.specs.Prelude.{codes, position, IsTrue}
use Rattle.lt_ids.specs.Ids.{Wait}
use Rattle.lt_ids.specs.declared.error.IdError.{IdError}
use Rattle.lt_ids.specs.declared.error.IdError.TheVariants.{KeyEmpty, KeyTooLong, KeyByte}
use Rattle.std.proofs.lemmas.List.Sums.{fails_before_first, position_or_len_is}
use Rattle.std.specs.List.{All, position_or_len}
use Rattle.std.specs.Option.{option_map}
use Rattle.std.specs.Str.{bytes_eq}
use Rattle.std.specs.Fmt.{decimal}
use Rattle.std.proofs.lemmas.Bool.{lt-ltb, ltb-false, le-ltb, eqb-false, ne_eqb, leb-true, and_from, and_parts}
use Rattle.std.proofs.lemmas.Option.{same_Some, cond_some}
use Rattle.std.proofs.lemmas.Slice.Eq.{bytes_eq-Decides}
use Rattle.lt_ids.specs.Key.{IsKey, is_key_byte, key_fault}
use Rattle.lt_checker.specs.declared.line.LineStep.{LineStep}
use Rattle.lt_text.specs.Maybe.{◌>>=◌}
use Rattle.lt_text.specs.Fields.{number_within}
use Rattle.lt_text.specs.Calls.{call_words, field_at, call_at}
use Rattle.lt_text.specs.Replies.{reply_words, is_reply_of, reply_at}
use Rattle.lt_text.specs.Lets.{lets_words}
use Rattle.lt_checker.specs.Lines.{Parts, IsLine, IsReadStep, step_words, line_words, if_no_fault, key_if_legal, key_at, equals_of, step_in, step_at, lets_in_words, parts_at, parts_with}
use Rattle.lt_text.proofs.Plain.{above, ArePlain}
use Rattle.lt_text.proofs.FieldLaws.{bind_some, IsField, IsWithin, number_field, txn_field, field_takes, field_again}
use Rattle.lt_text.proofs.CallLaws.{call_takes, call_again, call_plain}
use Rattle.lt_text.proofs.ReplyLaws.{reply_takes, reply_again, reply_plain}
use Rattle.lt_checker.proofs.LetsLaws.{lets_takes, lets_again, lets_plain}

pass_field : IsField ℕ (number_within 1 1025) (λ n. decimal n) (IsWithin 1 1025)
pass_field = number_field 1 1025 (omega arith)

equals_takes : (word : List ℕ) (u : Unit {0}) → equals_of word ≡ Some u → (word ≡ codes "=") × Unit {0}
unfolding equals_of
equals_takes word u e = let p = cond_some (bytes_eq word (codes "=")) tt u e in ((bytes_eq-Decides word (codes "=")).0 p.0, tt)

equals_again : (u : Unit {0}) → Unit {0} → equals_of (codes "=") ≡ Some u
unfolding equals_of
equals_again u h = refl

equals_field : IsField (Unit {0}) equals_of (λ u. codes "=") (λ u. Unit {0})
equals_field = record { takes = equals_takes; again = equals_again; plain = λ u h. refl }

cond_none : {A : Type 0} (b : Bool) (x : A) (o : Option A) → cond b (Some x) o ≡ None → (b ≡ false) × (o ≡ None)
cond_none true x o e = absurd cc
cond_none false x o e = (refl, e)

map_none : {A B : Type 0} (f : A → B) (o : Option A) → option_map f o ≡ None → o ≡ None
map_none f None e = refl
map_none f (Some x) e = absurd cc

no_fault_takes : (o : Option IdError) (word key : List ℕ) → if_no_fault o word ≡ Some key → (o ≡ None) × (word ≡ key)
no_fault_takes None word key e = (refl, same_Some word key e)
no_fault_takes (Some f) word key e = absurd cc

not_not : (b : Bool) → not b ≡ false → IsTrue b
not_not true e = search rules
not_not false e = absurd cc

not_true : (b : Bool) → IsTrue b → not b ≡ false
not_true true e = refl
not_true false e = search rules

is_key : (word : List ℕ) → key_fault word ≡ None → IsKey word
is_key word e =
    let a = cond_none (eqb (length word) 0) KeyEmpty _ e in
    let b = cond_none (ltb 64 (length word)) KeyTooLong _ a.1 in
    let c = map_none (λ i. KeyByte i) (position (λ x. not (is_key_byte x)) word) b.1 in
    let d = cond_none (ltb (position_or_len (λ x. not (is_key_byte x)) word) (length word)) (position_or_len (λ x. not (is_key_byte x)) word) None c in
    let le = ltb-false _ _ d.0 in
    let some = eqb-false (length word) 0 a.0 in
    record {
      not_empty = omega arith;
      not_too_long = ltb-false 64 (length word) b.0;
      each = λ k x lt. not_not (is_key_byte (get_or word k x)) (fails_before_first (λ y. not (is_key_byte y)) word k x (omega arith));
    }

no_key_fault : (key : List ℕ) → IsKey key → key_fault key ≡ None
no_key_fault key h =
    let place : position_or_len (λ y. not (is_key_byte y)) key ≡ length key =
    position_or_len_is (λ y. not (is_key_byte y)) key (length key) 0 (omega arith) (λ k lt. not_true (is_key_byte (get_or key k 0)) (h.each k 0 lt)) (λ lt. absurd (omega arith)) in
    rw (ne_eqb (length key) 0 (λ e. absurd (omega (arith, h.not_empty))), le-ltb 64 (length key) h.not_too_long, place, le-ltb (length key) (length key) (omega arith)) refl

plain_byte : (b : ℕ) → IsTrue (is_key_byte b) → ltb 32 b ≡ true
plain_byte b h = let p = and_parts (leb 33 b) (leb b 126) h in let le = leb-true 33 b p.0 in lt-ltb 32 b (omega arith)

plain_key : (key : List ℕ) → All (λ b. IsTrue (is_key_byte b)) key → above 32 key ≡ true
plain_key [] h = refl
plain_key (b ∷ bs) h = and_from _ _ (plain_byte b (h 0 0 (omega arith))) (plain_key bs (λ k d lt. h (suc k) d (omega arith)))

pub key_takes : (word key : List ℕ) → key_if_legal word ≡ Some key → (word ≡ key) × IsKey key
key_takes word key e = let p = no_fault_takes (key_fault word) word key e in (p.1, subst IsKey p.1 (is_key word p.0))

key_again : (key : List ℕ) → IsKey key → key_if_legal key ≡ Some key
key_again key h = ap (λ (o : Option IdError). if_no_fault o key) (no_key_fault key h)

key_field : IsField (List ℕ) key_if_legal (λ key. key) IsKey
key_field = record { takes = key_takes; again = key_again; plain = λ key h. plain_key key h.each }

step_joined : (words after_index after_pass after_call after_equals rest : List (List ℕ)) (s : LineStep) → words ≡ decimal s.index ∷ after_index → after_index ≡ decimal s.pass ∷ after_pass → after_pass ≡ call_words s.call ++ after_call → after_call ≡ codes "=" ∷ after_equals
    → after_equals ≡ reply_words s.reply ++ rest → words ≡ step_words s ++ rest
step_joined words after_index after_pass after_call after_equals rest s index pass call equals reply =
    let last : after_call ≡ (codes "=" ∷ reply_words s.reply) ++ rest = equals ∙ ap (λ (ws : List (List ℕ)). codes "=" ∷ ws) reply in
    let tail : after_pass ≡ (call_words s.call ++ codes "=" ∷ reply_words s.reply) ++ rest =
    call ∙ (ap (λ (ws : List (List ℕ)). call_words s.call ++ ws) last ∙ sym (append_assoc (call_words s.call) (codes "=" ∷ reply_words s.reply) rest)) in
    index ∙ (ap (λ (ws : List (List ℕ)). decimal s.index ∷ ws) pass ∙ ap (λ (ws : List (List ℕ)). decimal s.index ∷ decimal s.pass ∷ ws) tail)

pub step_takes : (words : List (List ℕ)) (s : LineStep) (rest : List (List ℕ)) → step_at words ≡ Some (s, rest) → (words ≡ step_words s ++ rest) × IsReadStep s
unfolding step_in
step_takes words s rest e =
    let a = bind_some (field_at (number_within 1 (2 ^ 64)) words) (λ index. field_at (number_within 1 1025) index.1 >>= λ pass. call_at pass.1 >>= λ call. field_at equals_of call.1 >>= λ equals. reply_at equals.1 >>= λ reply.
    cond (is_reply_of call.0 reply.0) (Some (record { index = index.0; pass = pass.0; call = call.0; reply = reply.0 }, reply.1)) None) (s, rest) e in
    let b = bind_some (field_at (number_within 1 1025) a.0.1) (λ pass. call_at pass.1 >>= λ call. field_at equals_of call.1 >>= λ equals. reply_at equals.1 >>= λ reply.
    cond (is_reply_of call.0 reply.0) (Some (record { index = a.0.0; pass = pass.0; call = call.0; reply = reply.0 }, reply.1)) None) (s, rest) a.2 in
    let c = bind_some (call_at b.0.1) (λ call. field_at equals_of call.1 >>= λ equals. reply_at equals.1 >>= λ reply.
    cond (is_reply_of call.0 reply.0) (Some (record { index = a.0.0; pass = b.0.0; call = call.0; reply = reply.0 }, reply.1)) None) (s, rest) b.2 in
    let d = bind_some (field_at equals_of c.0.1) (λ equals. reply_at equals.1 >>= λ reply.
    cond (is_reply_of c.0.0 reply.0) (Some (record { index = a.0.0; pass = b.0.0; call = c.0.0; reply = reply.0 }, reply.1)) None) (s, rest) c.2 in
    let f = bind_some (reply_at d.0.1) (λ reply.
    cond (is_reply_of c.0.0 reply.0) (Some (record { index = a.0.0; pass = b.0.0; call = c.0.0; reply = reply.0 }, reply.1)) None) (s, rest) d.2 in
    let made : LineStep = record { index = a.0.0; pass = b.0.0; call = c.0.0; reply = f.0.0 } in
    let q = cond_some {A = LineStep × List (List ℕ)} (is_reply_of c.0.0 f.0.0) (made, f.0.1) (s, rest) f.2 in
    let t = field_takes txn_field words a.0.0 a.0.1 a.1 in
    let u = field_takes pass_field a.0.1 b.0.0 b.0.1 b.1 in
    let v = call_takes b.0.1 c.0.0 c.0.1 c.1 in
    let w = field_takes equals_field c.0.1 d.0.0 d.0.1 d.1 in
    let x = reply_takes d.0.1 f.0.0 f.0.1 f.1 in
    let all : words ≡ step_words made ++ f.0.1 = step_joined words a.0.1 b.0.1 c.0.1 d.0.1 f.0.1 made t.0 u.0 v.0 w.0 x.0 in
    let is_step : IsReadStep made = record { index = t.1; pass = (u.1.0, omega (arith, u.1.1)); call = v.1; reply = x.1; fits = q.0 } in
    subst (λ (y : LineStep × List (List ℕ)). (words ≡ step_words y.0 ++ y.1) × IsReadStep y.0) {x = (made, f.0.1)} q.1 (all, is_step)

regroup : (s : LineStep) (rest : List (List ℕ)) → (call_words s.call ++ codes "=" ∷ reply_words s.reply) ++ rest ≡ call_words s.call ++ (codes "=" ∷ (reply_words s.reply ++ rest))
regroup s rest = append_assoc (call_words s.call) (codes "=" ∷ reply_words s.reply) rest

step_again : (s : LineStep) (rest : List (List ℕ)) → IsReadStep s → step_at (step_words s ++ rest) ≡ Some (s, rest)
unfolding step_in
step_again s rest h =
    rw (field_again txn_field s.index (decimal s.pass ∷ ((call_words s.call ++ codes "=" ∷ reply_words s.reply) ++ rest)) h.index, field_again pass_field s.pass ((call_words s.call ++ codes "=" ∷ reply_words s.reply) ++ rest) (h.pass.0, omega (arith, h.pass.1)), regroup s rest, call_again s.call (codes "=" ∷ (reply_words s.reply ++ rest)) h.call refl, field_again equals_field tt (reply_words s.reply ++ rest) tt, reply_again s.reply rest h.reply, h.fits) refl

plain_more : (a b : List (List ℕ)) → ArePlain a → ArePlain b → ArePlain (a ++ b)
plain_more [] b p q = q
plain_more (w ∷ ws) b p q = (p.0, plain_more ws b p.1 q)

parts_joined : (words after_key after_step : List (List ℕ)) (p : Parts) → words ≡ p.key ∷ after_key → after_key ≡ step_words p.step ++ after_step → after_step ≡ lets_words p.tickets → words ≡ line_words p
parts_joined words after_key after_step p key step lets =
    key ∙ (ap (λ (ws : List (List ℕ)). p.key ∷ ws) step ∙ ap (λ (ws : List (List ℕ)). p.key ∷ (step_words p.step ++ ws)) lets)

pub parts_takes : (words : List (List ℕ)) (p : Parts) → parts_at words ≡ Some p → (words ≡ line_words p) × IsLine p
unfolding parts_at
parts_takes words p e =
    let a = bind_some (key_at words) (λ key. step_at key.1 >>= λ step. lets_in_words step.1 >>= λ tickets. Some (record { key = key.0; step = step.0; tickets = tickets })) p e in
    let b = bind_some (step_at a.0.1) (λ step. lets_in_words step.1 >>= λ tickets. Some (record { key = a.0.0; step = step.0; tickets = tickets })) p a.2 in
    let c = bind_some (lets_in_words b.0.1) (λ tickets. Some (record { key = a.0.0; step = b.0.0; tickets = tickets })) p b.2 in
    let made : Parts = record { key = a.0.0; step = b.0.0; tickets = c.0 } in
    let t = field_takes key_field words a.0.0 a.0.1 a.1 in
    let u = step_takes a.0.1 b.0.0 b.0.1 b.1 in
    let v = lets_takes b.0.1 c.0 c.1 in
    let is_line : IsLine made = record { key = t.1; step = u.1; tickets = v.1 } in
    let all : words ≡ line_words made = parts_joined words a.0.1 b.0.1 made t.0 u.0 v.0 in
    subst (λ (x : Parts). (words ≡ line_words x) × IsLine x) {x = made} (same_Some made p c.2) (all, is_line)

pub parts_again : (p : Parts) → IsLine p → parts_at (line_words p) ≡ Some p
unfolding parts_at
parts_again p h =
    rw (field_again key_field p.key (step_words p.step ++ lets_words p.tickets) h.key, step_again p.step (lets_words p.tickets) h.step, lets_again p.tickets h.tickets) refl

pub parts_plain : (p : Parts) → IsLine p → ArePlain (line_words p)
parts_plain p h = (
  key_field.plain p.key h.key,
  (
    txn_field.plain p.step.index h.step.index,
    (
      pass_field.plain p.step.pass (h.step.pass.0, omega (arith, h.step.pass.1)),
      plain_more (call_words p.step.call ++ codes "=" ∷ reply_words p.step.reply) (lets_words p.tickets)
          (plain_more (call_words p.step.call) (codes "=" ∷ reply_words p.step.reply) (call_plain p.step.call h.step.call) (refl, reply_plain p.step.reply h.step.reply)) (lets_plain p.tickets h.tickets),
    ),
  ),
)

-- ---- parts that are read one after the other

pub parts_at_words : (key : List ℕ) (words rest : List (List ℕ)) (s : LineStep) (ts : List Wait) → IsKey key → step_at words ≡ Some (s, rest) → lets_in_words rest ≡ Some ts → parts_at (key ∷ words) ≡ Some (parts_with key s ts)
unfolding parts_at
parts_at_words key words rest s ts is step lets = rw (no_key_fault key is, step, lets) refl

pub no_key_no_parts : (key : List ℕ) (words : List (List ℕ)) → key_if_legal key ≡ None → parts_at (key ∷ words) ≡ None
unfolding parts_at
no_key_no_parts key words none = rw none refl

-- the key and the words after it
abbrev before : List (List ℕ) → List ℕ → Option (List ℕ × List (List ℕ))
before words key = Some (key, words)

abbrev parts_after : List ℕ × List (List ℕ) → Option Parts
parts_after key = step_at key.1 >>= λ step. lets_in_words step.1 >>= λ tickets. Some (parts_with key.0 step.0 tickets)

step_missing : (o : Option IdError) (key : List ℕ) (words : List (List ℕ)) → step_at words ≡ None → ((if_no_fault o key >>= before words) >>= parts_after) ≡ None
step_missing None key words none = rw none refl
step_missing (Some f) key words none = refl

pub no_step_no_parts : (key : List ℕ) (words : List (List ℕ)) → step_at words ≡ None → parts_at (key ∷ words) ≡ None
unfolding parts_at
no_step_no_parts key words none = step_missing (key_fault key) key words none

lets_missing : (o : Option IdError) (key : List ℕ) (words rest : List (List ℕ)) (s : LineStep) → step_at words ≡ Some (s, rest) → lets_in_words rest ≡ None → ((if_no_fault o key >>= before words) >>= parts_after) ≡ None
lets_missing None key words rest s step none = rw (step, none) refl
lets_missing (Some f) key words rest s step none = refl

pub no_lets_no_parts : (key : List ℕ) (words rest : List (List ℕ)) (s : LineStep) → step_at words ≡ Some (s, rest) → lets_in_words rest ≡ None → parts_at (key ∷ words) ≡ None
unfolding parts_at
no_lets_no_parts key words rest s step none = lets_missing (key_fault key) key words rest s step none

pub no_words_no_parts : parts_at [] ≡ None
unfolding parts_at
no_words_no_parts = refl
