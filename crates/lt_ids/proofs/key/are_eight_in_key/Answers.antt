use Rattle.std.proofs.Common.{◌≡◌, ◌&&◌, Bool, true, false, true≢false, refl, sym, IsTrue, arith}
use Rattle.std.proofs.lemmas.List.Elements.{All-more}
use Rattle.std.proofs.lemmas.Grind.{common_steps}
use Rattle.lt_ids.specs.Key.{is_key_byte}
use Rattle.lt_ids.proofs.key.are_eight_in_key.Goals as goal

left-of-both : (s t : Bool) → (s && t) ≡ true → s ≡ true
left-of-both true t e = refl
left-of-both false t e = e

right-of-both : (s t : Bool) → (s && t) ≡ true → t ≡ true
right-of-both true t e = e
right-of-both false t e = absurd (true≢false (sym e))

pub loop-i-preserved : goal.loop-i-preserved
loop-i-preserved c e =
    let bytes = c.args.bytes.now in let i = c.loop-i.i in
    let before = c.loop-i.invariant (left-of-both c.loop-i.all c.is_in_key-all.result e) in
    let here = right-of-both c.loop-i.all c.is_in_key-all.result e in
    All-more (λ b. IsTrue (is_key_byte b)) bytes i 0 (grind (arith, common_steps)) before (grind (arith, common_steps))
