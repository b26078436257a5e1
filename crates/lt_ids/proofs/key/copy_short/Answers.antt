use Rattle.std.proofs.Common.{rules, ◌≡◌, ◌∙◌, ◌-◌, ◌+◌, ◌≤◌, ◌<◌, ◌++◌, ◌∷◌, [], ℕ, List, Bool, true, false, not, sym, ap, length, take, drop, All, IsTrue, arith, subst, slice_index_or}
use Rattle.std.proofs.Math.Seq.{take-add}
use Rattle.std.proofs.lemmas.List.{take_all, take_more, take_more_set, drop-set-lt, get_or-take}
use Rattle.std.proofs.lemmas.List.Elements.{All-append, All-more}
use Rattle.std.proofs.lemmas.List.Sums.{position_or_len_is}
use Rattle.std.proofs.lemmas.Slice.{take-put_mid, drop-put_mid}
use Rattle.std.proofs.lemmas.Grind.{common_steps}
use Rattle.std.specs.List.{position_or_len}
use Rattle.lt_ids.specs.Key.{is_key_byte}
use Rattle.lt_ids.proofs.Padded.{zeros_later}
use Rattle.lt_ids.proofs.key.copy_short.Goals as goal

-- A byte before the place, up to which a key can contain each, is none that a key cannot contain.
none_before :
    (xs : List ℕ) (j : ℕ) → j ≤ length xs → All (λ b. IsTrue (is_key_byte b)) (take j xs) → (k : ℕ) → k < j →
    not (is_key_byte (slice_index_or xs k 0)) ≡ false
none_before xs j within each k below =
    ap not (sym (ap is_key_byte (get_or-take j xs k 0 below)) ∙ each k 0 (grind (arith, common_steps, within, below)))

pub loop-i-preserved : goal.loop-i-preserved
loop-i-preserved c =
    let bytes = c.args.bytes.now in let done = c.loop-i.done in let cells = c.loop-i.cells in let ys = c.copy_from_slice.new.self in
    let P : ℕ → Type 0 = λ b. IsTrue (is_key_byte b) in
    let within : done + 8 ≤ length bytes = omega (arith, c.loop-i.invariant.counted, c.loop-i-test.true) in
    let room : done + 8 ≤ 22 = omega (arith, within, c.requires.few) in
    let rest : take (length bytes - done) (drop done bytes) ≡ drop done bytes =
    take_all (length bytes - done) (drop done bytes) (grind (arith, common_steps)) in
    let eight = subst (λ xs. All P (take 8 xs)) rest (c.are_eight_in_key.ensures c.if-not-are_eight_in_key.false) in
    let span : done + 8 - done ≡ 8 = omega arith in
    let these : ys ≡ take 8 (drop done bytes) = c.copy_from_slice.ensures.after ∙ ap (λ k. take k (drop done bytes)) span in
    let many : length ys ≡ 8 = ap length these ∙ grind (arith, common_steps, within) in
    record {
      counted = omega (arith, c.loop-i.invariant.counted);
      many = grind (arith, common_steps, room, many, c.loop-i.invariant.many);
      each = subst (λ xs. All P xs) (sym (take-add done 8 bytes)) (All-append P (take done bytes) (take 8 (drop done bytes)) c.loop-i.invariant.each eight);
      copied = take-put_mid done (done + 8 - done) cells ys (done + 8) (omega (arith, many)) (omega (arith, room, c.loop-i.invariant.many)) ∙ (λ i. c.loop-i.invariant.copied i ++ these i) ∙ sym (take-add done 8 bytes);
      padded = rw (drop-put_mid done (done + 8 - done) cells ys (done + 8) (omega arith) (omega (arith, room, c.loop-i.invariant.many)) (omega (arith, many))) (zeros_later done (done + 8) cells (omega arith) c.loop-i.invariant.padded);
    }

pub returns-then-not-is_in_key-clause-place : goal.returns-then-not-is_in_key-clause-place
returns-then-not-is_in_key-clause-place c =
    let xs = c.args.bytes.now in let j = c.loop-j.j in let p : ℕ → Bool = λ b. not (is_key_byte b) in
    let within : j ≤ length xs = grind (arith, common_steps) in
    let bad : c.is_in_key.result ≡ false = search rules in
    let e : position_or_len p xs ≡ j = position_or_len_is p xs j 0 within
    (none_before xs j within c.loop-j.invariant.each) (λ _. ap not (sym c.is_in_key.ensures ∙ bad)) in
    grind (arith, common_steps, e)

pub loop-j-preserved : goal.loop-j-preserved
loop-j-preserved c =
    let bytes = c.args.bytes.now in let j = c.loop-j.j in let cells = c.loop-j.cells in
    let good : c.is_in_key.result ≡ true = search rules in
    record {
      many = grind (arith, common_steps, c.loop-j.invariant.many);
      each = All-more (λ b. IsTrue (is_key_byte b)) bytes j 0 (grind (arith, common_steps)) c.loop-j.invariant.each
          (sym c.is_in_key.ensures ∙ good);
      copied = take_more_set cells j (slice_index_or bytes j 0) (grind (arith, common_steps, c.loop-j.invariant.many)) ∙
          (λ i. c.loop-j.invariant.copied i ++ slice_index_or bytes j 0 ∷ []) ∙ sym (take_more bytes j 0 (grind (arith, common_steps)));
      padded = rw (drop-set-lt (j + 1) cells j (slice_index_or bytes j 0) (omega arith))
          (zeros_later j (j + 1) cells (omega arith) c.loop-j.invariant.padded);
    }

pub returns-clause-padded : goal.returns-clause-padded
returns-clause-padded c =
    zeros_later c.loop-j.j (length c.args.bytes.now) c.loop-j.cells (grind (arith, common_steps)) c.loop-j.invariant.padded

pub returns-clause-place : goal.returns-clause-place
returns-clause-place c =
    let xs = c.args.bytes.now in let p : ℕ → Bool = λ b. not (is_key_byte b) in
    let all : c.loop-j.j ≡ length xs = grind (arith, common_steps) in
    let e : position_or_len p xs ≡ length xs = position_or_len_is p xs (length xs) 0 (omega arith)
    (none_before xs (length xs) (omega arith) (rw all at c.loop-j.invariant.each)) (λ below. absurd (omega (arith, below))) in
    grind (arith, common_steps, e)
