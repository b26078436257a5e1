-- The text of a line, word after word.
use Rattle.std.proofs.Common.{◌≡◌, ℕ, List, [], ◌∷◌, ◌++◌, map, refl, sym, ap, ◌∙◌, append_assoc}
use Rattle.std.proofs.lemmas.List.{append-nil}
use Rattle.std.specs.Prelude.{codes}
use Rattle.std.specs.Fmt.{decimal}
use Rattle.std.specs.List.{join_with_byte}
use Rattle.lt_text.specs.Compose.{spaced}
use Rattle.lt_text.specs.Calls.{call_words}
use Rattle.lt_text.specs.Replies.{reply_words}
use Rattle.lt_entry.specs.declared.entry.Entry.{Entry}
use Rattle.lt_text.specs.Lets.{lets_words}
use Rattle.lt_handles.specs.Lines.{index_words, step_line}

spaced_more : (xs ys : List (List ℕ)) → spaced (xs ++ ys) ≡ spaced xs ++ spaced ys
spaced_more [] ys = refl
spaced_more (x ∷ xs) ys = ap (λ (t : List ℕ). (32 ∷ x) ++ t) (spaced_more xs ys) ∙ sym (append_assoc (32 ∷ x) (spaced xs) (spaced ys))

-- Words, separated by single spaces.
joined : (w : List ℕ) (ws : List (List ℕ)) → join_with_byte 32 (w ∷ ws) ≡ w ++ spaced ws
joined w [] = sym (append-nil w)
joined w (v ∷ ws) = ap (λ (t : List ℕ). w ++ 32 ∷ t) (joined v ws)

pub one_word : (out w : List ℕ) → out ++ 32 ∷ w ≡ out ++ spaced (w ∷ [])
one_word out w = ap (λ (t : List ℕ). out ++ 32 ∷ t) (sym (append-nil w))

regroup : (out key a b c d e f z : List ℕ) → (((((((out ++ key) ++ a) ++ b) ++ c) ++ d) ++ e) ++ f) ++ z ≡ out ++ ((key ++ ((a ++ (b ++ (c ++ (d ++ e)))) ++ f)) ++ z)
regroup out key a b c d e f z = simp append_assoc

tail_words : (pass sign : List ℕ) (call reply : List (List ℕ)) → spaced (pass ∷ (call ++ (sign ∷ reply))) ≡ (32 ∷ pass) ++ (spaced call ++ ((32 ∷ sign) ++ spaced reply))
tail_words pass sign call reply = ap (λ (t : List ℕ). (32 ∷ pass) ++ t) (spaced_more call (sign ∷ reply))

-- The key, the words of the index, the pass, the words of the call, the sign `=`, the words of the reply, and those of the lets.
line_of : (out key pass sign : List ℕ) (index call reply lets : List (List ℕ))
    → (((((((out ++ key) ++ spaced index) ++ 32 ∷ pass) ++ spaced call) ++ 32 ∷ sign) ++ spaced reply) ++ spaced lets) ++ 10 ∷ []
    ≡ out ++ (join_with_byte 32 (key ∷ ((index ++ (pass ∷ (call ++ (sign ∷ reply)))) ++ lets)) ++ 10 ∷ [])
line_of out key pass sign index call reply lets =
    let front = spaced_more index (pass ∷ (call ++ (sign ∷ reply))) ∙ ap (λ (t : List ℕ). spaced index ++ t) (tail_words pass sign call reply) in
    let words = spaced_more (index ++ (pass ∷ (call ++ (sign ∷ reply)))) lets ∙ ap (λ (t : List ℕ). t ++ spaced lets) front in
    let line = joined key ((index ++ (pass ∷ (call ++ (sign ∷ reply)))) ++ lets) ∙ ap (λ (t : List ℕ). key ++ t) words in
    regroup out key (spaced index) (32 ∷ pass) (spaced call) (32 ∷ sign) (spaced reply) (spaced lets) (10 ∷ []) ∙ ap (λ (t : List ℕ). out ++ (t ++ 10 ∷ [])) (sym line)

pub line_is : (index : ℕ) (e : Entry) (out : List ℕ) → (((((((out ++ e.key) ++ spaced (index_words index)) ++ 32 ∷ decimal e.pass) ++ spaced (call_words e.call)) ++ 32 ∷ codes "=") ++ spaced (reply_words e.reply)) ++ spaced (lets_words (map (λ t. t.ticket) e.lets))) ++ 10 ∷ [] ≡ out ++ step_line index e
line_is index e out = line_of out e.key (decimal e.pass) (codes "=") (index_words index) (call_words e.call) (reply_words e.reply) (lets_words (map (λ t. t.ticket) e.lets))
