-- A call that is read was written that way, and each call that is written reads back as itself.
use Rattle.std.proofs.Common.{◌≡◌, ℕ, zero, suc, ◌^◌, ◌<◌, ◌≤◌, ◌⊎◌, Bool, true, false, cond, List, [], ◌∷◌, ◌++◌, Option, Some, None, refl, sym, ap, subst, ◌∙◌, inl, inr, arith}
use Rattle.std.specs.Prelude.{codes}
use Rattle.std.specs.Str.{bytes_eq}
use Rattle.std.specs.Fmt.{decimal}
use Rattle.std.proofs.lemmas.Bool.{ne_eqb}
use Rattle.std.proofs.lemmas.Option.{some_pair_parts}
use Rattle.std.proofs.lemmas.Slice.Eq.{bytes_eq-Decides}
use Rattle.lt_ids.specs.Ids.{Wait}
use Rattle.lt_ids.specs.declared.timestamp.Timestamp.{Timestamp}
use Rattle.lt_ids.specs.declared.request.Access.{Access}
use Rattle.lt_rules.specs.declared.call.Call.{Call}
use Rattle.lt_rules.specs.declared.call.Call.TheVariants.{Visit, Acquire, Update, Finish, Leave, Look}
use Rattle.lt_text.specs.Maybe.{◌>>=◌}
use Rattle.lt_text.specs.Fields.{ticket_word, time_word, access_word, owner_word, bound_word, bound_words, number_within, ticket_of, time_of, access_of, owner_of, is_bound, bound_of}
use Rattle.lt_text.specs.Calls.{call_words, AreBoundless, field_at, bound_at, visit_at, acquire_at, update_at, finish_at, leave_at, look_at, call_in_words, call_at}
use Rattle.lt_entry.specs.Ranges.{IsCall}
use Rattle.lt_text.proofs.Plain.{ArePlain}
use Rattle.lt_text.proofs.FieldLaws.{bind_some, IsField, IsWithin, number_field, txn_field, owner_field, bound_field, ticket_field, time_field, access_field, field_takes, field_again}

number_of_request : IsField ℕ (number_within 1 (2 ^ 40)) (λ n. decimal n) (IsWithin 1 (2 ^ 40))
number_of_request = number_field 1 (2 ^ 40) (omega arith)

abbrev Takes : List ℕ → List (List ℕ) → Call → List (List ℕ) → Type 0
Takes name words c rest = (name ∷ words ≡ call_words c ++ rest) × IsCall c

pub chosen : {A : Type 0} (b : Bool) (x y z : A) → cond b x y ≡ z → ((b ≡ true) × (x ≡ z)) ⊎ ((b ≡ false) × (y ≡ z))
chosen true x y z e = inl (refl, e)
chosen false x y z e = inr (refl, e)

-- ---- a bound, if there is one

none_or_some : (n : ℕ) → (n ≡ 0) ⊎ (1 ≤ n)
none_or_some zero = inl refl
none_or_some (suc n) = inr (omega arith)

some_bound : (n : ℕ) → 1 ≤ n → bound_words n ≡ bound_word n ∷ []
some_bound n h = rw (ne_eqb n 0 (λ e. absurd (omega arith))) refl

bound_takes : (words : List (List ℕ)) (n : ℕ) (rest : List (List ℕ)) → bound_at words ≡ Some (n, rest) → (words ≡ bound_words n ++ rest) × (n < 2 ^ 32)
unfolding bound_at
bound_takes [] n rest e =
    let p = some_pair_parts 0 n [] rest e in
    subst (λ (m : ℕ). ([] ≡ bound_words m ++ rest) × (m < 2 ^ 32)) p.0 (p.1, omega arith)
bound_takes (word ∷ words) n rest e =
    elim (chosen (is_bound word) (bound_of word >>= λ longest. Some (longest, words)) (Some (0, word ∷ words)) (Some (n, rest)) e) [
      | inl q ↦
          let a = bind_some (bound_of word) (λ longest. Some (longest, words)) (n, rest) q.1 in
          let p = some_pair_parts a.0 n words rest a.2 in
          let t = bound_field.takes word a.0 a.1 in
          let all : word ∷ words ≡ bound_words a.0 ++ rest =
          ap (λ (w : List ℕ). w ∷ words) t.0 ∙ (ap (λ (ws : List (List ℕ)). bound_word a.0 ∷ ws) p.1 ∙ ap (λ (ws : List (List ℕ)). ws ++ rest) (sym (some_bound a.0 t.1.0))) in
          subst (λ (m : ℕ). (word ∷ words ≡ bound_words m ++ rest) × (m < 2 ^ 32)) p.0 (all, t.1.1)
      | inr q ↦
          let p = some_pair_parts 0 n (word ∷ words) rest q.1 in
          subst (λ (m : ℕ). (word ∷ words ≡ bound_words m ++ rest) × (m < 2 ^ 32)) p.0 (p.1, omega arith)
    ]

none_again : (rest : List (List ℕ)) → AreBoundless rest → bound_at rest ≡ Some (0, rest)
unfolding bound_at
none_again [] h = refl
none_again (word ∷ words) h = rw h refl

some_again : (n : ℕ) (rest : List (List ℕ)) → 1 ≤ n → n < 2 ^ 32 → bound_at (bound_word n ∷ rest) ≡ Some (n, rest)
unfolding bound_at
some_again n rest low high = rw (bound_field.again n (low, high)) refl

bound_again : (n : ℕ) (rest : List (List ℕ)) → n < 2 ^ 32 → AreBoundless rest → bound_at (bound_words n ++ rest) ≡ Some (n, rest)
bound_again n rest lt h =
    elim (none_or_some n) [
      | inl none ↦ subst (λ (m : ℕ). bound_at (bound_words m ++ rest) ≡ Some (m, rest)) (sym none) (none_again rest h)
      | inr some ↦ ap (λ (ws : List (List ℕ)). bound_at (ws ++ rest)) (some_bound n some) ∙ some_again n rest some lt
    ]

bound_plain : (n : ℕ) → n < 2 ^ 32 → ArePlain (bound_words n)
bound_plain n lt =
    elim (none_or_some n) [
      | inl none ↦ subst (λ (m : ℕ). ArePlain (bound_words m)) (sym none) tt
      | inr some ↦ subst ArePlain (sym (some_bound n some)) (bound_field.plain n (some, lt), tt)
    ]

visit_joined : (words after_ticket after_txn after_ts after_access after_bound rest : List (List ℕ)) (ticket : Wait) (txn : Option ℕ) (ts : Timestamp) (access : Access) (longest : ℕ) → words ≡ ticket_word ticket ∷ after_ticket → after_ticket ≡ owner_word txn ∷ after_txn → after_txn ≡ time_word ts ∷ after_ts
    → after_ts ≡ access_word access ∷ after_access → after_access ≡ bound_words longest ++ after_bound → after_bound ≡ rest → words ≡ ticket_word ticket ∷ owner_word txn ∷ time_word ts ∷ access_word access ∷ (bound_words longest ++ rest)
visit_joined words after_ticket after_txn after_ts after_access after_bound rest ticket txn ts access longest t u v w x y =
    let from_access : after_ts ≡ access_word access ∷ (bound_words longest ++ rest) = w ∙ ap (λ (ws : List (List ℕ)). access_word access ∷ ws) (x ∙ ap (λ (ws : List (List ℕ)). bound_words longest ++ ws) y) in
    let from_txn : after_ticket ≡ owner_word txn ∷ time_word ts ∷ access_word access ∷ (bound_words longest ++ rest) =
    u ∙ ap (λ (ws : List (List ℕ)). owner_word txn ∷ ws) (v ∙ ap (λ (ws : List (List ℕ)). time_word ts ∷ ws) from_access) in
    t ∙ ap (λ (ws : List (List ℕ)). ticket_word ticket ∷ ws) from_txn

visit_takes : (words : List (List ℕ)) (c : Call) (rest : List (List ℕ)) → visit_at words ≡ Some (c, rest) → Takes (codes "visit") words c rest
unfolding visit_at
visit_takes words c rest e =
    let a = bind_some (field_at ticket_of words) (λ ticket. field_at owner_of ticket.1 >>= λ txn. field_at time_of txn.1 >>= λ ts. field_at access_of ts.1 >>= λ access. bound_at access.1 >>= λ longest. Some (Visit ticket.0 txn.0 ts.0 access.0 longest.0, longest.1)) (c, rest) e in
    let b = bind_some (field_at owner_of a.0.1) (λ txn. field_at time_of txn.1 >>= λ ts. field_at access_of ts.1 >>= λ access. bound_at access.1 >>= λ longest. Some (Visit a.0.0 txn.0 ts.0 access.0 longest.0, longest.1)) (c, rest) a.2 in
    let d = bind_some (field_at time_of b.0.1) (λ ts. field_at access_of ts.1 >>= λ access. bound_at access.1 >>= λ longest. Some (Visit a.0.0 b.0.0 ts.0 access.0 longest.0, longest.1)) (c, rest) b.2 in
    let f = bind_some (field_at access_of d.0.1) (λ access. bound_at access.1 >>= λ longest. Some (Visit a.0.0 b.0.0 d.0.0 access.0 longest.0, longest.1)) (c, rest) d.2 in
    let g = bind_some (bound_at f.0.1) (λ longest. Some (Visit a.0.0 b.0.0 d.0.0 f.0.0 longest.0, longest.1)) (c, rest) f.2 in
    let p = some_pair_parts (Visit a.0.0 b.0.0 d.0.0 f.0.0 g.0.0) c g.0.1 rest g.2 in
    let t = field_takes ticket_field words a.0.0 a.0.1 a.1 in
    let u = field_takes owner_field a.0.1 b.0.0 b.0.1 b.1 in
    let v = field_takes time_field b.0.1 d.0.0 d.0.1 d.1 in
    let w = field_takes access_field d.0.1 f.0.0 f.0.1 f.1 in
    let x = bound_takes f.0.1 g.0.0 g.0.1 g.1 in
    let all : words ≡ ticket_word a.0.0 ∷ owner_word b.0.0 ∷ time_word d.0.0 ∷ access_word f.0.0 ∷ (bound_words g.0.0 ++ rest) =
    visit_joined words a.0.1 b.0.1 d.0.1 f.0.1 g.0.1 rest a.0.0 b.0.0 d.0.0 f.0.0 g.0.0 t.0 u.0 v.0 w.0 x.0 p.1 in
    subst (λ (y : Call). Takes (codes "visit") words y rest) {x = Visit a.0.0 b.0.0 d.0.0 f.0.0 g.0.0} p.0 (ap (λ (ws : List (List ℕ)). codes "visit" ∷ ws) all, (t.1, u.1, v.1, x.1))

times_joined : (words after_txn after_ts rest : List (List ℕ)) (txn : ℕ) (ts : Timestamp) → words ≡ decimal txn ∷ after_txn → after_txn ≡ time_word ts ∷ after_ts → after_ts ≡ rest → words ≡ decimal txn ∷ time_word ts ∷ rest
times_joined words after_txn after_ts rest txn ts t u y = t ∙ ap (λ (ws : List (List ℕ)). decimal txn ∷ ws) (u ∙ ap (λ (ws : List (List ℕ)). time_word ts ∷ ws) y)

acquire_takes : (words : List (List ℕ)) (c : Call) (rest : List (List ℕ)) → acquire_at words ≡ Some (c, rest) → Takes (codes "acquire") words c rest
unfolding acquire_at
acquire_takes words c rest e =
    let a = bind_some (field_at (number_within 1 (2 ^ 64)) words) (λ txn. field_at time_of txn.1 >>= λ ts. Some (Acquire txn.0 ts.0, ts.1)) (c, rest) e in
    let b = bind_some (field_at time_of a.0.1) (λ ts. Some (Acquire a.0.0 ts.0, ts.1)) (c, rest) a.2 in
    let p = some_pair_parts (Acquire a.0.0 b.0.0) c b.0.1 rest b.2 in
    let t = field_takes txn_field words a.0.0 a.0.1 a.1 in
    let u = field_takes time_field a.0.1 b.0.0 b.0.1 b.1 in
    let all : words ≡ decimal a.0.0 ∷ time_word b.0.0 ∷ rest = times_joined words a.0.1 b.0.1 rest a.0.0 b.0.0 t.0 u.0 p.1 in
    subst (λ (x : Call). Takes (codes "acquire") words x rest) {x = Acquire a.0.0 b.0.0} p.0 (ap (λ (ws : List (List ℕ)). codes "acquire" ∷ ws) all, (t.1, u.1))

update_takes : (words : List (List ℕ)) (c : Call) (rest : List (List ℕ)) → update_at words ≡ Some (c, rest) → Takes (codes "update") words c rest
unfolding update_at
update_takes words c rest e =
    let a = bind_some (field_at (number_within 1 (2 ^ 64)) words) (λ txn. field_at time_of txn.1 >>= λ ts. Some (Update txn.0 ts.0, ts.1)) (c, rest) e in
    let b = bind_some (field_at time_of a.0.1) (λ ts. Some (Update a.0.0 ts.0, ts.1)) (c, rest) a.2 in
    let p = some_pair_parts (Update a.0.0 b.0.0) c b.0.1 rest b.2 in
    let t = field_takes txn_field words a.0.0 a.0.1 a.1 in
    let u = field_takes time_field a.0.1 b.0.0 b.0.1 b.1 in
    let all : words ≡ decimal a.0.0 ∷ time_word b.0.0 ∷ rest = times_joined words a.0.1 b.0.1 rest a.0.0 b.0.0 t.0 u.0 p.1 in
    subst (λ (x : Call). Takes (codes "update") words x rest) {x = Update a.0.0 b.0.0} p.0 (ap (λ (ws : List (List ℕ)). codes "update" ∷ ws) all, (t.1, u.1))

-- a call of one number
abbrev one : (ℕ → Call) → ℕ × List (List ℕ) → Option (Call × List (List ℕ))
one make n = Some (make n.0, n.1)

one_takes : (name : List ℕ) (limit : ℕ) (field : IsField ℕ (number_within 1 limit) (λ n. decimal n) (IsWithin 1 limit)) (make : ℕ → Call) (words : List (List ℕ)) (c : Call) (rest : List (List ℕ))
    → (field_at (number_within 1 limit) words >>= λ n. one make n) ≡ Some (c, rest) → (n : ℕ) × (words ≡ decimal n ∷ rest) × IsWithin 1 limit n × (make n ≡ c)
one_takes name limit field make words c rest e =
    let a = bind_some (field_at (number_within 1 limit) words) (λ n. one make n) (c, rest) e in
    let p = some_pair_parts (make a.0.0) c a.0.1 rest a.2 in
    let t = field_takes field words a.0.0 a.0.1 a.1 in
    (a.0.0, t.0 ∙ ap (λ (ws : List (List ℕ)). decimal a.0.0 ∷ ws) p.1, t.1, p.0)

finish_takes : (words : List (List ℕ)) (c : Call) (rest : List (List ℕ)) → finish_at words ≡ Some (c, rest) → Takes (codes "finish") words c rest
unfolding finish_at
finish_takes words c rest e =
    let a = one_takes (codes "finish") (2 ^ 64) txn_field (λ n. Finish n) words c rest e in
    subst (λ (x : Call). Takes (codes "finish") words x rest) a.3 (ap (λ (ws : List (List ℕ)). codes "finish" ∷ ws) a.1, a.2)

leave_takes : (words : List (List ℕ)) (c : Call) (rest : List (List ℕ)) → leave_at words ≡ Some (c, rest) → Takes (codes "leave") words c rest
unfolding leave_at
leave_takes words c rest e =
    let a = one_takes (codes "leave") (2 ^ 40) number_of_request (λ n. Leave n) words c rest e in
    subst (λ (x : Call). Takes (codes "leave") words x rest) a.3 (ap (λ (ws : List (List ℕ)). codes "leave" ∷ ws) a.1, a.2)

look_takes : (words : List (List ℕ)) (c : Call) (rest : List (List ℕ)) → look_at words ≡ Some (c, rest) → Takes (codes "look") words c rest
unfolding look_at
look_takes words c rest e =
    let a = one_takes (codes "look") (2 ^ 40) number_of_request (λ n. Look n) words c rest e in
    subst (λ (x : Call). Takes (codes "look") words x rest) a.3 (ap (λ (ws : List (List ℕ)). codes "look" ∷ ws) a.1, a.2)

named : (name word : List ℕ) (words : List (List ℕ)) (c : Call) (rest : List (List ℕ)) → bytes_eq name word ≡ true → Takes word words c rest → Takes name words c rest
named name word words c rest e t = (ap (λ (w : List ℕ). w ∷ words) ((bytes_eq-Decides name word).0 e) ∙ t.0, t.1)

no_none : {A : Type 0} (x : A) → ◌≡◌ {A = Option A} None (Some x) → ⊥
no_none x e = absurd cc

call_of_takes : (name : List ℕ) (words : List (List ℕ)) (c : Call) (rest : List (List ℕ)) → call_in_words name words ≡ Some (c, rest) → Takes name words c rest
unfolding call_in_words
call_of_takes name words c rest e =
    elim (chosen (bytes_eq name (codes "visit")) (visit_at words) _ (Some (c, rest)) e) [
      | inl p ↦ named name (codes "visit") words c rest p.0 (visit_takes words c rest p.1)
      | inr q ↦ elim (chosen (bytes_eq name (codes "acquire")) (acquire_at words) _ (Some (c, rest)) q.1) [
        | inl p ↦ named name (codes "acquire") words c rest p.0 (acquire_takes words c rest p.1)
        | inr r ↦ elim (chosen (bytes_eq name (codes "update")) (update_at words) _ (Some (c, rest)) r.1) [
          | inl p ↦ named name (codes "update") words c rest p.0 (update_takes words c rest p.1)
          | inr s ↦ elim (chosen (bytes_eq name (codes "finish")) (finish_at words) _ (Some (c, rest)) s.1) [
            | inl p ↦ named name (codes "finish") words c rest p.0 (finish_takes words c rest p.1)
            | inr t ↦ elim (chosen (bytes_eq name (codes "leave")) (leave_at words) _ (Some (c, rest)) t.1) [
              | inl p ↦ named name (codes "leave") words c rest p.0 (leave_takes words c rest p.1)
              | inr u ↦ elim (chosen (bytes_eq name (codes "look")) (look_at words) None (Some (c, rest)) u.1) [
                | inl p ↦ named name (codes "look") words c rest p.0 (look_takes words c rest p.1)
                | inr v ↦ absurd (no_none (c, rest) v.1)
              ]
            ]
          ]
        ]
      ]
    ]

pub call_takes : (words : List (List ℕ)) (c : Call) (rest : List (List ℕ)) → call_at words ≡ Some (c, rest) → (words ≡ call_words c ++ rest) × IsCall c
call_takes [] c rest e = absurd (no_none (c, rest) e)
call_takes (name ∷ words) c rest e = call_of_takes name words c rest e

pub call_again : (c : Call) (rest : List (List ℕ)) → IsCall c → AreBoundless rest → call_at (call_words c ++ rest) ≡ Some (c, rest)
unfolding call_in_words visit_at acquire_at update_at finish_at leave_at look_at
call_again (Visit ticket txn ts access longest) rest h b =
    let more : List (List ℕ) = bound_words longest ++ rest in
    rw (field_again ticket_field ticket (owner_word txn ∷ time_word ts ∷ access_word access ∷ more) h.0, field_again owner_field txn (time_word ts ∷ access_word access ∷ more) h.1, field_again time_field ts (access_word access ∷ more) h.2, field_again access_field access more tt, bound_again longest rest h.3 b) refl
call_again (Acquire txn ts) rest h b = rw (field_again txn_field txn (time_word ts ∷ rest) h.0, field_again time_field ts rest h.1) refl
call_again (Update txn ts) rest h b = rw (field_again txn_field txn (time_word ts ∷ rest) h.0, field_again time_field ts rest h.1) refl
call_again (Finish txn) rest h b = rw (field_again txn_field txn rest h) refl
call_again (Leave number) rest h b = rw (field_again number_of_request number rest h) refl
call_again (Look number) rest h b = rw (field_again number_of_request number rest h) refl

pub call_plain : (c : Call) → IsCall c → ArePlain (call_words c)
call_plain (Visit ticket txn ts access longest) h = (refl, (ticket_field.plain ticket h.0, (owner_field.plain txn h.1, (time_field.plain ts h.2, (access_field.plain access tt, bound_plain longest h.3)))))
call_plain (Acquire txn ts) h = (refl, (txn_field.plain txn h.0, (time_field.plain ts h.1, tt)))
call_plain (Update txn ts) h = (refl, (txn_field.plain txn h.0, (time_field.plain ts h.1, tt)))
call_plain (Finish txn) h = (refl, (txn_field.plain txn h, tt))
call_plain (Leave number) h = (refl, (number_of_request.plain number h, tt))
call_plain (Look number) h = (refl, (number_of_request.plain number h, tt))
