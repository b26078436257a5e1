use Rattle.std.proofs.Common.{rules, arith, ◌≡◌, ◌≢◌, ◌<◌, ◌∷◌, [], ◌++◌, length, inl, inr}
use Rattle.lt_ids.specs.declared.request.Access.TheVariants.{Write}
use Rattle.lt_walk.proofs.KeyLists.{written_more, all_written}
use Rattle.std.proofs.lemmas.Result.{IfOk-weaker}
use Rattle.lt_walk.proofs.keys.written.Goals as goal
use Rattle.lt_walk.proofs.keys.written.Goals.{then-eq+in_ok-copy+in_ok-push, else-eq}

pub loop-key-preserved : goal.loop-key-preserved
loop-key-preserved c =
    let item = c.loop-key-item.result in
    let within : c.loop-key.key-index < length c.args.accesses.now = omega arith in
    elim c.if-eq.branch [
      | then-eq+in_ok-copy+in_ok-push w ↦
          let is_write : item.1 ≡ Write = search rules in
          let pushed : c.if-eq.keys.items ≡ c.loop-key.keys.items ++ item.0 ∷ [] = search rules in
          written_more c.loop-key.keys.items c.if-eq.keys.items c.args.accesses.now c.loop-key.key-index item within c.loop-key-item.is c.loop-key.invariant (inl (is_write, pushed))
      | else-eq w ↦
          let no_write : item.1 ≢ Write = search rules in
          let stays : c.if-eq.keys.items ≡ c.loop-key.keys.items = search rules in
          written_more c.loop-key.keys.items c.if-eq.keys.items c.args.accesses.now c.loop-key.key-index item within c.loop-key-item.is c.loop-key.invariant (inr (no_write, stays))
    ]

pub returns : goal.returns
returns c = IfOk-weaker c.distinct.result _ _ (λ sorted a. all_written sorted.items c.loop-key.keys.items c.args.accesses.now c.loop-key.key-index c.loop-key-test.false c.loop-key.invariant a) c.distinct.ensures
