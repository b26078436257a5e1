-- A reply that is read was written that way, and each reply that is written reads back as itself.
use Rattle.std.proofs.Common.{◌≡◌, ℕ, ◌^◌, Bool, true, false, List, [], ◌∷◌, ◌++◌, Option, Some, None, refl, sym, ap, subst, ◌∙◌, inl, inr}
use mathlib.Core.Bool.{true≢false}
use Rattle.std.specs.Prelude.{codes, find}
use Rattle.std.specs.List.{AllByRecursion}
use Rattle.std.specs.Str.{bytes_eq}
use Rattle.std.specs.Fmt.{decimal}
use Rattle.std.proofs.lemmas.Option.{some_pair_parts, same_Some}
use Rattle.std.proofs.lemmas.Slice.Eq.{bytes_eq-Decides}
use Rattle.lt_rules.specs.declared.call.Reply.{Reply}
use Rattle.lt_rules.specs.declared.call.Reply.TheVariants.{Passed, MustWait, TooLong, Taken, Kept, Raised, Other, Freed, Left, Absent, Nothing, Reserved, Idle, WaitFor, WaitFirst, WaitOwn}
use Rattle.lt_text.specs.Maybe.{◌>>=◌}
use Rattle.lt_text.specs.Fields.{number_within}
use Rattle.lt_text.specs.Calls.{field_at}
use Rattle.lt_text.specs.Replies.{reply_name, reply_numbers, reply_words, held_word, held_of, fixed_replies, fixed_reply, waits_at, own_at, reply_in_words, reply_at}
use Rattle.lt_entry.specs.Ranges.{IsReply}
use Rattle.lt_text.proofs.Names.{when_not}
use Rattle.lt_text.proofs.Plain.{ArePlain}
use Rattle.lt_text.proofs.FieldLaws.{bind_some, IsWithin, txn_field, held_field, field_takes, field_again}
use Rattle.lt_text.proofs.CallLaws.{chosen}

-- a reply of one word
abbrev IsFixed : Reply → Type 0
IsFixed r = (reply_numbers r ≡ []) × IsReply r

are_fixed : AllByRecursion IsFixed fixed_replies
are_fixed = ((refl, tt), ((refl, tt), ((refl, tt), ((refl, tt), ((refl, tt), ((refl, tt), ((refl, tt), ((refl, tt), ((refl, tt), ((refl, tt), ((refl, tt), ((refl, tt), ((refl, tt), tt)))))))))))))

other_way : (word name : List ℕ) → bytes_eq word name ≡ false → bytes_eq name word ≡ false
other_way word name e = when_not _ (λ t. true≢false (sym ((bytes_eq-Decides word name).1 (sym ((bytes_eq-Decides name word).0 t))) ∙ e))

-- a word that is the name of no such reply
pub unnamed : (word : List ℕ) → bytes_eq word (codes "pass") ≡ false → bytes_eq word (codes "wait") ≡ false → bytes_eq word (codes "long") ≡ false → bytes_eq word (codes "taken") ≡ false → bytes_eq word (codes "kept") ≡ false → bytes_eq word (codes "raised") ≡ false → bytes_eq word (codes "other") ≡ false → bytes_eq word (codes "freed") ≡ false → bytes_eq word (codes "left") ≡ false → bytes_eq word (codes "absent") ≡ false → bytes_eq word (codes "nothing") ≡ false → bytes_eq word (codes "reserved") ≡ false → bytes_eq word (codes "idle") ≡ false → None ≡ fixed_reply word
unfolding fixed_reply
unnamed word pass wait long taken kept raised other freed left absent nothing reserved idle = rw (other_way word (codes "pass") pass, other_way word (codes "wait") wait, other_way word (codes "long") long, other_way word (codes "taken") taken, other_way word (codes "kept") kept, other_way word (codes "raised") raised, other_way word (codes "other") other, other_way word (codes "freed") freed, other_way word (codes "left") left, other_way word (codes "absent") absent, other_way word (codes "nothing") nothing, other_way word (codes "reserved") reserved, other_way word (codes "idle") idle) refl

find_takes : (rs : List Reply) (word : List ℕ) (r : Reply) → AllByRecursion IsFixed rs → find (λ x. bytes_eq (reply_name x) word) rs ≡ Some r → (reply_name r ≡ word) × IsFixed r
find_takes [] word r h e = absurd cc
find_takes (x ∷ xs) word r h e =
    elim (chosen (bytes_eq (reply_name x) word) (Some x) (find (λ y. bytes_eq (reply_name y) word) xs) (Some r) e) [
      | inl p ↦ subst (λ (y : Reply). (reply_name y ≡ word) × IsFixed y) (same_Some x r p.1) ((bytes_eq-Decides (reply_name x) word).0 p.0, h.0)
      | inr q ↦ find_takes xs word r h.1 q.1
    ]

abbrev Takes : List ℕ → List (List ℕ) → Reply → List (List ℕ) → Type 0
Takes name words r rest = (name ∷ words ≡ reply_words r ++ rest) × IsReply r

abbrev alone : List (List ℕ) → Reply → Option (Reply × List (List ℕ))
alone words r = Some (r, words)

fixed_takes : (name : List ℕ) (words : List (List ℕ)) (r : Reply) (rest : List (List ℕ)) → (fixed_reply name >>= alone words) ≡ Some (r, rest) → Takes name words r rest
unfolding fixed_reply
fixed_takes name words r rest e =
    let a = bind_some (find (λ x. bytes_eq (reply_name x) name) fixed_replies) (alone words) (r, rest) e in
    let p = some_pair_parts a.0 r words rest a.2 in
    let f = find_takes fixed_replies name a.0 are_fixed a.1 in
    subst (λ (x : Reply). Takes name words x rest) p.0
    (ap (λ (w : List ℕ). w ∷ words) (sym f.0) ∙ (ap (λ (ws : List (List ℕ)). reply_name a.0 ∷ ws) p.1 ∙ ap (λ (ns : List (List ℕ)). (reply_name a.0 ∷ ns) ++ rest) (sym f.1.0)), f.1.1)

waits_takes : (make : ℕ → Bool → Reply) (words : List (List ℕ)) (r : Reply) (rest : List (List ℕ)) → waits_at make words ≡ Some (r, rest)
    → (n : ℕ) × (h : Bool) × (words ≡ decimal n ∷ held_word h ∷ rest) × IsWithin 1 (2 ^ 64) n × (make n h ≡ r)
waits_takes make words r rest e =
    let a = bind_some (field_at (number_within 1 (2 ^ 64)) words) (λ txn. field_at held_of txn.1 >>= λ held. Some (make txn.0 held.0, held.1)) (r, rest) e in
    let b = bind_some (field_at held_of a.0.1) (λ held. Some (make a.0.0 held.0, held.1)) (r, rest) a.2 in
    let p = some_pair_parts (make a.0.0 b.0.0) r b.0.1 rest b.2 in
    let t = field_takes txn_field words a.0.0 a.0.1 a.1 in
    let u = field_takes held_field a.0.1 b.0.0 b.0.1 b.1 in
    (a.0.0, b.0.0, t.0 ∙ (ap (λ (ws : List (List ℕ)). decimal a.0.0 ∷ ws) u.0 ∙ ap (λ (ws : List (List ℕ)). decimal a.0.0 ∷ held_word b.0.0 ∷ ws) p.1), t.1, p.0)

own_takes : (words : List (List ℕ)) (r : Reply) (rest : List (List ℕ)) → own_at words ≡ Some (r, rest) → Takes (codes "own") words r rest
own_takes words r rest e =
    let a = bind_some (field_at (number_within 1 (2 ^ 64)) words) (λ txn. Some (WaitOwn txn.0, txn.1)) (r, rest) e in
    let p = some_pair_parts (WaitOwn a.0.0) r a.0.1 rest a.2 in
    let t = field_takes txn_field words a.0.0 a.0.1 a.1 in
    subst (λ (x : Reply). Takes (codes "own") words x rest) p.0 (ap (λ (ws : List (List ℕ)). codes "own" ∷ ws) (t.0 ∙ ap (λ (ws : List (List ℕ)). decimal a.0.0 ∷ ws) p.1), t.1)

named : (name word : List ℕ) (words : List (List ℕ)) (r : Reply) (rest : List (List ℕ)) → bytes_eq name word ≡ true → Takes word words r rest → Takes name words r rest
named name word words r rest e t = (ap (λ (w : List ℕ). w ∷ words) ((bytes_eq-Decides name word).0 e) ∙ t.0, t.1)

for_takes : (words : List (List ℕ)) (r : Reply) (rest : List (List ℕ)) → waits_at (λ txn held. WaitFor txn held) words ≡ Some (r, rest) → Takes (codes "for") words r rest
for_takes words r rest e =
    let w = waits_takes (λ txn held. WaitFor txn held) words r rest e in
    subst (λ (x : Reply). Takes (codes "for") words x rest) w.4 (ap (λ (ws : List (List ℕ)). codes "for" ∷ ws) w.2, w.3)

first_takes : (words : List (List ℕ)) (r : Reply) (rest : List (List ℕ)) → waits_at (λ txn held. WaitFirst txn held) words ≡ Some (r, rest) → Takes (codes "first") words r rest
first_takes words r rest e =
    let w = waits_takes (λ txn held. WaitFirst txn held) words r rest e in
    subst (λ (x : Reply). Takes (codes "first") words x rest) w.4 (ap (λ (ws : List (List ℕ)). codes "first" ∷ ws) w.2, w.3)

reply_of_takes : (name : List ℕ) (words : List (List ℕ)) (r : Reply) (rest : List (List ℕ)) → reply_in_words name words ≡ Some (r, rest) → Takes name words r rest
unfolding reply_in_words
reply_of_takes name words r rest e =
    elim (chosen (bytes_eq name (codes "for")) (waits_at (λ txn held. WaitFor txn held) words) _ (Some (r, rest)) e) [
      | inl p ↦ named name (codes "for") words r rest p.0 (for_takes words r rest p.1)
      | inr q ↦ elim (chosen (bytes_eq name (codes "first")) (waits_at (λ txn held. WaitFirst txn held) words) _ (Some (r, rest)) q.1) [
        | inl p ↦ named name (codes "first") words r rest p.0 (first_takes words r rest p.1)
        | inr s ↦ elim (chosen (bytes_eq name (codes "own")) (own_at words) _ (Some (r, rest)) s.1) [
          | inl p ↦ named name (codes "own") words r rest p.0 (own_takes words r rest p.1)
          | inr t ↦ fixed_takes name words r rest t.1
        ]
      ]
    ]

pub reply_takes : (words : List (List ℕ)) (r : Reply) (rest : List (List ℕ)) → reply_at words ≡ Some (r, rest) → (words ≡ reply_words r ++ rest) × IsReply r
reply_takes [] r rest e = absurd cc
reply_takes (name ∷ words) r rest e = reply_of_takes name words r rest e

pub reply_again : (r : Reply) (rest : List (List ℕ)) → IsReply r → reply_at (reply_words r ++ rest) ≡ Some (r, rest)
unfolding reply_in_words fixed_reply
reply_again (WaitFor txn held) rest h = rw (field_again txn_field txn (held_word held ∷ rest) h, field_again held_field held rest tt) refl
reply_again (WaitFirst txn held) rest h = rw (field_again txn_field txn (held_word held ∷ rest) h, field_again held_field held rest tt) refl
reply_again (WaitOwn txn) rest h = rw (field_again txn_field txn rest h) refl
reply_again Passed rest h = refl
reply_again MustWait rest h = refl
reply_again TooLong rest h = refl
reply_again Taken rest h = refl
reply_again Kept rest h = refl
reply_again Raised rest h = refl
reply_again Other rest h = refl
reply_again Freed rest h = refl
reply_again Left rest h = refl
reply_again Absent rest h = refl
reply_again Nothing rest h = refl
reply_again Reserved rest h = refl
reply_again Idle rest h = refl

pub reply_plain : (r : Reply) → IsReply r → ArePlain (reply_words r)
reply_plain (WaitFor txn held) h = (refl, (txn_field.plain txn h, (held_field.plain held tt, tt)))
reply_plain (WaitFirst txn held) h = (refl, (txn_field.plain txn h, (held_field.plain held tt, tt)))
reply_plain (WaitOwn txn) h = (refl, (txn_field.plain txn h, tt))
reply_plain Passed h = (refl, tt)
reply_plain MustWait h = (refl, tt)
reply_plain TooLong h = (refl, tt)
reply_plain Taken h = (refl, tt)
reply_plain Kept h = (refl, tt)
reply_plain Raised h = (refl, tt)
reply_plain Other h = (refl, tt)
reply_plain Freed h = (refl, tt)
reply_plain Left h = (refl, tt)
reply_plain Absent h = (refl, tt)
reply_plain Nothing h = (refl, tt)
reply_plain Reserved h = (refl, tt)
reply_plain Idle h = (refl, tt)
