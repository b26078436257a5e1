-- Moves and lines lead on, one after the other.
use Rattle.std.proofs.Common.{◌≡◌, ℕ, suc, ◌+◌, ◌<◌, Bool, true, cond, nat_eq, List, [], ◌∷◌, ◌++◌, length, take, drop, Option, Some, None, is_some, Ok, Err, inl, inr, refl, sym, ap, ◌∙◌, subst, arith}
use Rattle.lt_trace_waits.specs.declared.judge.JudgeError.{JudgeError}
use Rattle.lt_trace_waits.specs.declared.judge.JudgeError.TheVariants.{Refused, Memory, TooLong}
use Rattle.lt_trace_waits.specs.declared.judge.WaitJudge.{WaitJudge}
use Rattle.lt_trace_waits.specs.declared.open_wait.RequestWait.{RequestWait}
use Rattle.lt_trace_waits.specs.declared.open_wait.WaitFault.{WaitFault}
use Rattle.lt_trace_waits.specs.declared.open_wait.WaitFault.TheVariants.{Shape}
use Rattle.lt_trace_waits.specs.declared.open_wait.WaitMove.{WaitMove}
use Rattle.lt_trace_waits.specs.Waits.{AllWaits, no_waits, with_request, next, LeadTo, Break}
use Rattle.lt_trace_waits.specs.Moves.{LineSays}
use Rattle.lt_trace_waits.specs.Judged.{WaitMap, wait_in, SetsWait, Applies, IsBroken, IsBrokenLine, LinesLead, TakesLine, IsRefusal}
use Rattle.std.specs.BTreeMap.{UpdatesBy, IsLowerBound, is_at, btree_map_len}
use Rattle.std.specs.Map.{lookup}
use Rattle.std.specs.Ordering.{nat_cmp, is_eq, is_gt}
use Rattle.std.proofs.lemmas.Bool.{false≢true}
use Rattle.std.proofs.lemmas.Bool.Decides.{nat_tests}
use Rattle.std.proofs.lemmas.List.{length-append, take_more, drop_more, take-append-drop}
use lib.ListN.{get_or}

-- ---- the map

at_is : (a b : ℕ) → is_eq (nat_cmp a b) ≡ nat_eq b a
at_is a b = grind (arith, nat_tests)

-- a wait is put in
pub put_in : (old new : WaitMap) (number : ℕ) (w : RequestWait) → UpdatesBy nat_cmp (nat_cmp number) old new (Some w) → SetsWait old number (Some w) new
put_in old new number w u n = u.0 n ∙ ap (λ (b : Bool). cond b (Some w) (wait_in old n)) (at_is number n)

-- a wait is taken out
pub taken_out : (old new : WaitMap) (number : ℕ) → UpdatesBy nat_cmp (nat_cmp number) old new None → SetsWait old number None new
taken_out old new number u n = u.0 n ∙ ap (λ (b : Bool). cond b None (wait_in old n)) (at_is number n)

-- a map without entries
pub none_open : (m : WaitMap) → btree_map_len m ≡ 0 → (n : ℕ) → wait_in m n ≡ None
none_open m none n = by m.entries none
  where
    by : (es : List (ℕ × RequestWait)) → length es ≡ 0 → lookup (is_at (nat_cmp n)) es ≡ None
    by [] e = refl
    by (x ∷ es) e = absurd (omega (arith, e))

is_above : (a b : ℕ) → b < a → is_gt (nat_cmp a b) ≡ true
is_above a b lt = grind (arith, nat_tests)

-- below the least number
pub none_below : (m : WaitMap) (k n : ℕ) → IsLowerBound nat_cmp m k → n < k → wait_in m n ≡ None
none_below m k n low lt = by (wait_in m n) refl
  where
    by : (o : Option RequestWait) → wait_in m n ≡ o → o ≡ None
    by None e = refl
    by (Some w) e = absurd (false≢true (sym (low n (ap (λ (p : Option RequestWait). is_some p) e)) ∙ is_above k n lt))

-- ---- moves and lines

same_with : (a b : AllWaits) (k : ℕ) (after : Option RequestWait) → ((n : ℕ) → a n ≡ b n) → (n : ℕ) → with_request a k after n ≡ with_request b k after n
same_with a b k after same n = ap (λ (o : Option RequestWait). cond (nat_eq n k) after o) (same n)

-- equal waits lead to the same
lead_from : (line : ℕ) (a b c : AllWaits) (ms : List WaitMove) → ((n : ℕ) → a n ≡ b n) → LeadTo line b ms c → LeadTo line a ms c
lead_from line a b c [] same lead = λ n. same n ∙ lead n
lead_from line a b c (m ∷ ms) same (after, made, lead) =
    (after, subst (λ (o : Option RequestWait). next line o m ≡ Ok after) (sym (same m.number)) made, lead_from line (with_request a m.number after) (with_request b m.number after) c ms (same_with a b m.number after same) lead)

-- one more move
lead_on : (line : ℕ) (a b c : AllWaits) (ms : List WaitMove) (m : WaitMove) (after : Option RequestWait) → LeadTo line a ms b → next line (b m.number) m ≡ Ok after → ((n : ℕ) → c n ≡ with_request b m.number after n) → LeadTo line a (ms ++ m ∷ []) c
lead_on line a b c [] m after same made sets =
    (after, subst (λ (o : Option RequestWait). next line o m ≡ Ok after) (sym (same m.number)) made, λ n. same_with a b m.number after same n ∙ sym (sets n))
lead_on line a b c (x ∷ ms) m after (first, begun, lead) made sets = (first, begun, lead_on line (with_request a x.number first) b c ms m after lead made sets)

pub one_more_move : (line : ℕ) (start : AllWaits) (old new : WaitMap) (ms more : List WaitMove) (m : WaitMove) → more ≡ ms ++ m ∷ [] → LeadTo line start ms (wait_in old) → Applies line old m new → LeadTo line start more (wait_in new)
one_more_move line start old new ms more m is lead a = subst (λ (l : List WaitMove). LeadTo line start l (wait_in new)) (sym is) (lead_on line start (wait_in old) (wait_in new) ms m a.after lead a.moved a.sets)

-- a move that breaks a rule
broken_on : (line : ℕ) (a b : AllWaits) (ms rest : List WaitMove) (m : WaitMove) (fault : WaitFault) → LeadTo line a ms b → next line (b m.number) m ≡ Err fault → Break line a (ms ++ m ∷ rest) fault
broken_on line a b [] rest m fault same broken = inl (subst (λ (o : Option RequestWait). next line o m ≡ Err fault) (sym (same m.number)) broken)
broken_on line a b (x ∷ ms) rest m fault (first, begun, lead) broken = inr (first, begun, broken_on line (with_request a x.number first) b ms rest m fault lead broken)

pub broken_move : (line : ℕ) (start : AllWaits) (old : WaitMap) (ms rest all : List WaitMove) (m : WaitMove) (e : JudgeError) → all ≡ ms ++ m ∷ rest → LeadTo line start ms (wait_in old) → IsBroken line old m e → IsBrokenLine line start all e
broken_move line start old ms rest all m (Refused at fault) is lead (number, broken) =
    (number, subst (λ (l : List WaitMove). Break line start l fault) (sym is) (broken_on line start (wait_in old) ms rest m fault lead broken))
broken_move line start old ms rest all m Memory is lead b = tt
broken_move line start old ms rest all m TooLong is lead b = tt

-- the next move of these
pub next_move : (line : ℕ) (start : AllWaits) (old new : WaitMap) (moves : List WaitMove) (i : ℕ) (d : WaitMove) → i < length moves → LeadTo line start (take i moves) (wait_in old) → Applies line old (get_or moves i d) new → LeadTo line start (take (i + 1) moves) (wait_in new)
next_move line start old new moves i d lt = one_more_move line start old new (take i moves) (take (i + 1) moves) (get_or moves i d) (take_more moves i d lt)

pub next_breaks : (line : ℕ) (start : AllWaits) (old : WaitMap) (moves : List WaitMove) (i : ℕ) (d : WaitMove) (e : JudgeError) → i < length moves → LeadTo line start (take i moves) (wait_in old) → IsBroken line old (get_or moves i d) e → IsBrokenLine line start moves e
next_breaks line start old moves i d e lt =
    broken_move line start old (take i moves) (drop (i + 1) moves) moves (get_or moves i d) e (sym (take-append-drop i moves) ∙ ap (λ (l : List WaitMove). take i moves ++ l) (drop_more moves i d lt))

-- one more line
lines_on : (line at : ℕ) (a b c : AllWaits) (ls : List (List ℕ)) (bytes : List ℕ) (moves : List WaitMove) → at ≡ line + length ls → LinesLead line a ls b → LineSays bytes moves → LeadTo at b moves c → LinesLead line a (ls ++ bytes ∷ []) c
lines_on line at a b c [] bytes moves is same says lead =
    let here : at ≡ line = omega (arith, is) in
    (moves, says, c, lead_from line a b c moves same (subst (λ (n : ℕ). LeadTo n b moves c) here lead), λ n. refl)
lines_on line at a b c (l ∷ ls) bytes moves is (first, said, mid, led, lead) says more =
    let next_is : at ≡ suc line + length ls = omega (arith, is) in
    (first, said, mid, led, lines_on (suc line) at mid b c ls bytes moves next_is lead says more)

-- a line that breaks no rule
pub taken : (old new : WaitJudge) (bytes : List ℕ) (moves : List WaitMove) → LineSays bytes moves → LeadTo old.line (wait_in old.waits) moves (wait_in new.waits) → new.line ≡ suc old.line → TakesLine old bytes new
taken old new bytes moves says lead next_line = λ lines h. record {
  line = omega (arith, next_line, h.line, length-append lines (bytes ∷ []));
  lead = lines_on 1 old.line no_waits (wait_in old.waits) (wait_in new.waits) lines bytes moves (omega (arith, h.line)) h.lead says lead;
}

-- a line that breaks a rule
pub refused : (old : WaitJudge) (bytes : List ℕ) (moves : List WaitMove) (e : JudgeError) → LineSays bytes moves → IsBrokenLine old.line (wait_in old.waits) moves e → IsRefusal old bytes e
refused old bytes moves (Refused at fault) says (number, breaks) = λ lines h. record {
  number = number ∙ h.line;
  waits = wait_in old.waits;
  lead = h.lead;
  breaks = inr (moves, says, subst (λ (n : ℕ). Break n (wait_in old.waits) moves fault) (sym number) breaks);
}
refused old bytes moves Memory says b = tt
refused old bytes moves TooLong says b = tt

-- a line of no trace
pub shapeless : (old : WaitJudge) (bytes : List ℕ) (fault : WaitFault) → fault ≡ Shape → ((moves : List WaitMove) → LineSays bytes moves → ⊥) → IsRefusal old bytes (Refused old.line fault)
shapeless old bytes fault is none = λ lines h. record { number = h.line; waits = wait_in old.waits; lead = h.lead; breaks = inl (is, none) }
