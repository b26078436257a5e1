use Rattle.std.proofs.Common.{rules, ◌≡◌, ◌-◌, ℕ, true, sym, length, take, drop, All, IsTrue, arith, subst}
use Rattle.std.proofs.Math.Seq.{take-add}
use Rattle.std.proofs.lemmas.List.{take_all}
use Rattle.std.proofs.lemmas.List.Elements.{All-append, All-more}
use Rattle.std.proofs.lemmas.Grind.{common_steps}
use Rattle.lt_ids.specs.Key.{is_key_byte}
use Rattle.lt_ids.proofs.key.are_in_key.Goals as goal

pub loop-i-preserved : goal.loop-i-preserved
loop-i-preserved c =
    let bytes = c.args.bytes.now in let tested = c.loop-i.tested in let P : ℕ → Type 0 = λ b. IsTrue (is_key_byte b) in
    let clean : c.are_eight_in_key.result ≡ true = search rules in
    let rest : take (length bytes - tested) (drop tested bytes) ≡ drop tested bytes =
    take_all (length bytes - tested) (drop tested bytes) (grind (arith, common_steps)) in
    let eight = subst (λ xs. All P (take 8 xs)) rest (c.are_eight_in_key.ensures clean) in
    record {
      counted = grind (arith, c.loop-i.invariant.counted);
      each = subst (λ xs. All P xs) (sym (take-add tested 8 bytes))
          (All-append P (take tested bytes) (take 8 (drop tested bytes)) c.loop-i.invariant.each eight);
    }

pub loop-j-preserved : goal.loop-j-preserved
loop-j-preserved c =
    All-more (λ b. IsTrue (is_key_byte b)) c.args.bytes.now c.loop-j.j 0 (grind (arith, common_steps)) c.loop-j.invariant
    (grind (arith, common_steps))

pub returns : goal.returns
returns c e =
    let bytes = c.args.bytes.now in let P : ℕ → Type 0 = λ b. IsTrue (is_key_byte b) in
    subst (λ xs. All P xs) (take_all c.loop-j.j bytes (grind (arith, common_steps))) c.loop-j.invariant
