use Rattle.std.proofs.Common.{◌≡◌, length, sym, subst, take, arith}
use Rattle.lt_text.proofs.Names.{same_bytes}
use Rattle.lt_text.proofs.words.is_name.Goals as goal

pub returns : goal.returns
returns c =
    let word = c.args.word.now in
    let name = c.args.name.now in
    let i : c.loop-i.i ≡ length name = omega (arith, c.loop-i-test.false) in
    sym (same_bytes word name c.if-word-name.false (subst (λ i. take i word ≡ take i name) i c.loop-i.invariant))
