-- A line of a trace with an index is a line of histories.
use Rattle.std.proofs.Common.{◌≡◌, ℕ, ◌^◌, ◌≤◌, ◌<◌, true, false, cond, eqb, List, [], ◌∷◌, ◌++◌, length, Option, Some, None, is_some, refl, sym, ap, subst, ◌∙◌, append_assoc, arith}
use Rattle.std.specs.Fmt.{decimal}
use Rattle.std.specs.List.{slice_split, join_with_byte}
use Rattle.std.proofs.lemmas.Option.{cond_some, same_Some}
use Rattle.std.proofs.lemmas.List.Splits.{join_with_byte-slice_split, length-slice_split}
use Rattle.lt_ids.specs.declared.error.IdError.{IdError}
use Rattle.lt_ids.specs.Key.{key_fault}
use Rattle.lt_rules.specs.declared.call.Call.{Call}
use Rattle.lt_rules.specs.declared.call.Reply.{Reply}
use Rattle.lt_text.specs.Maybe.{◌>>=◌}
use Rattle.lt_text.specs.Fields.{number_within}
use Rattle.lt_text.specs.Calls.{field_at, call_at}
use Rattle.lt_text.specs.Replies.{reply_at, is_reply_of}
use Rattle.lt_text.proofs.FieldLaws.{bind_some, txn_field, field_again}
use Rattle.lt_checker.specs.declared.line.LineStep.{LineStep}
use Rattle.lt_checker.specs.Lines.{Parts, line_words, line_text, if_no_fault, key_if_legal, equals_of, step_in, step_at, lets_in_words, parts_at}
use Rattle.lt_checker.proofs.PartsLaws.{parts_takes}
use Rattle.lt_trace.specs.Step.{are_step_words, is_step_text}
use Rattle.lt_trace.specs.Trace.{parts_of_line, IsHistoryLine}
use Rattle.lt_trace.specs.Laws.{NumberedIsLine}

-- The step of these parts.
abbrev step_with : ℕ → ℕ → Call → Reply → LineStep
step_with index pass call reply = record { index = index; pass = pass; call = call; reply = reply }

read_numbered : (index pass : ℕ) (call : Call) (u : Unit {0}) (reply : Reply) (words words₁ words₂ words₃ words₄ : List (List ℕ)) → 1 ≤ index → index < 2 ^ 64
    → field_at (number_within 1 1025) words ≡ Some (pass, words₁) → call_at words₁ ≡ Some (call, words₂) → field_at equals_of words₂ ≡ Some (u, words₃)
    → reply_at words₃ ≡ Some (reply, words₄) → is_reply_of call reply ≡ true → step_at (decimal index ∷ words) ≡ Some (step_with index pass call reply, words₄)
unfolding step_in
read_numbered index pass call u reply words words₁ words₂ words₃ words₄ low high a b c d fits =
    rw (field_again txn_field index words (low, high), a, b, c, d, fits) refl

same_rest : (words rest : List (List ℕ)) (made s : LineStep) (r : LineStep × List (List ℕ)) → (made, rest) ≡ r → step_at words ≡ Some (s, rest) → step_at words ≡ Some (s, r.1)
same_rest words rest made s r e h = subst (λ (x : LineStep × List (List ℕ)). step_at words ≡ Some (s, x.1)) e h

-- The words of a step with an index before them are those of a step of histories with this index.
numbered_step : (index : ℕ) (words : List (List ℕ)) (r : LineStep × List (List ℕ)) → 1 ≤ index → index < 2 ^ 64 → step_in false words ≡ Some r
    → (s : LineStep) × (s.index ≡ index) × (step_at (decimal index ∷ words) ≡ Some (s, r.1))
unfolding step_in
numbered_step index words r low high e =
    let a = bind_some (field_at (number_within 1 1025) words) (λ pass. call_at pass.1 >>= λ call. field_at equals_of call.1 >>= λ equals. reply_at equals.1 >>= λ reply. cond (is_reply_of call.0 reply.0) (Some (step_with 1 pass.0 call.0 reply.0, reply.1)) None) r e in
    let b = bind_some (call_at a.0.1) (λ call. field_at equals_of call.1 >>= λ equals. reply_at equals.1 >>= λ reply. cond (is_reply_of call.0 reply.0) (Some (step_with 1 a.0.0 call.0 reply.0, reply.1)) None) r a.2 in
    let c = bind_some (field_at equals_of b.0.1) (λ equals. reply_at equals.1 >>= λ reply. cond (is_reply_of b.0.0 reply.0) (Some (step_with 1 a.0.0 b.0.0 reply.0, reply.1)) None) r b.2 in
    let d = bind_some (reply_at c.0.1) (λ reply. cond (is_reply_of b.0.0 reply.0) (Some (step_with 1 a.0.0 b.0.0 reply.0, reply.1)) None) r c.2 in
    let q = cond_some (is_reply_of b.0.0 d.0.0) (step_with 1 a.0.0 b.0.0 d.0.0, d.0.1) r d.2 in
    let read = read_numbered index a.0.0 b.0.0 c.0.0 d.0.0 words a.0.1 b.0.1 c.0.1 d.0.1 low high a.1 b.1 c.1 d.1 q.0 in
    (step_with index a.0.0 b.0.0 d.0.0, refl, same_rest (decimal index ∷ words) d.0.1 (step_with 1 a.0.0 b.0.0 d.0.0) (step_with index a.0.0 b.0.0 d.0.0) r q.1 read)

legal_is : (o : Option IdError) (word key : List ℕ) → if_no_fault o word ≡ Some key → (o ≡ None) × (word ≡ key)
legal_is None word key e = (refl, same_Some word key e)
legal_is (Some f) word key e = absurd cc

key_itself : (word key : List ℕ) → key_if_legal word ≡ Some key → key_if_legal key ≡ Some key
key_itself word key e = let h = legal_is (key_fault word) word key e in subst (λ (k : List ℕ). key_if_legal k ≡ Some key) h.1 e

-- What is some has a value.
some_value : {A : Type 0} (o : Option A) → is_some o ≡ true → (x : A) × (o ≡ Some x)
some_value None e = absurd cc
some_value (Some x) e = (x, refl)

numbered_parts : (key : List ℕ) (index : ℕ) (words : List (List ℕ)) → 1 ≤ index → index < 2 ^ 64 → key_if_legal key ≡ Some key → are_step_words words ≡ true
    → (p : Parts) × (p.key ≡ key) × (p.step.index ≡ index) × (parts_at (key ∷ decimal index ∷ words) ≡ Some p)
unfolding are_step_words parts_at
numbered_parts key index words low high legal e =
    let t = some_value (step_in false words >>= λ step. lets_in_words step.1) e in
    let a = bind_some (step_in false words) (λ step. lets_in_words step.1) t.0 t.1 in
    let s = numbered_step index words a.0 low high a.1 in
    let made : Parts = record { key = key; step = s.0; tickets = t.0 } in
    (made, refl, s.1, rw (legal, s.2, a.2) refl)

joined_words : (key number bytes : List ℕ) (ws : List (List ℕ)) → 0 < length ws → join_with_byte 32 ws ≡ bytes → join_with_byte 32 (key ∷ number ∷ ws) ≡ key ++ 32 ∷ number ++ 32 ∷ bytes
joined_words key number bytes [] lt e = absurd (omega arith)
joined_words key number bytes (w ∷ ws) lt e = ap (λ (t : List ℕ). key ++ (32 ∷ (number ++ (32 ∷ t)))) e ∙ sym (append_assoc key (32 ∷ number) (32 ∷ bytes))

text_is : (key step : List ℕ) (index : ℕ) (p : Parts) → key ∷ decimal index ∷ slice_split (λ b. eqb b 32) step ≡ line_words p → line_text p ≡ key ++ 32 ∷ decimal index ++ 32 ∷ step ++ 10 ∷ []
unfolding line_text
text_is key step index p e =
    let words = slice_split (λ b. eqb b 32) step in
    let joined = joined_words key (decimal index) step words (omega (arith, length-slice_split (λ b. eqb b 32) step)) (join_with_byte-slice_split 32 step) in
    ap (λ (ws : List (List ℕ)). join_with_byte 32 ws ++ 10 ∷ []) (sym e) ∙ (ap (λ (t : List ℕ). t ++ 10 ∷ []) joined)

is_history_line : (key step : List ℕ) (index : ℕ) → 1 ≤ index → index < 2 ^ 64 → key_if_legal key ≡ Some key → is_step_text step ≡ true → IsHistoryLine key index (key ++ 32 ∷ decimal index ++ 32 ∷ step ++ 10 ∷ [])
is_history_line key step index low high legal e =
    let words = slice_split (λ b. eqb b 32) step in
    let n = numbered_parts key index words low high legal e in
    let t = parts_takes (key ∷ decimal index ∷ words) n.0 n.3 in
    record {
      parts = n.0;
      is_line = t.1;
      key_of = n.1;
      index_of = n.2;
      text_of = text_is key step index n.0 t.0;
    }

pub numbered_is_line : NumberedIsLine
numbered_is_line word step line index e low high =
    let a = bind_some (key_if_legal word) (λ key. cond (is_step_text step) (Some (key, step)) None) (parts_of_line line) e in
    let c = cond_some (is_step_text step) (a.0, step) (parts_of_line line) a.2 in
    subst (λ (x : List ℕ × List ℕ). IsHistoryLine x.0 index (x.0 ++ 32 ∷ decimal index ++ 32 ∷ x.1 ++ 10 ∷ [])) c.1
    (is_history_line a.0 step index low high (key_itself word a.0 a.1) c.0)
