use Rattle.std.proofs.Common.{rules, arith, ◌≡◌, ◌<◌, ◌∷◌, [], ◌++◌, length, inl, inr}
use Rattle.lt_walk.specs.Keys.{IsOnlyRead}
use Rattle.lt_walk.proofs.KeyLists.{read_more, all_read}
use Rattle.std.proofs.lemmas.Result.{IfOk-weaker}
use Rattle.lt_walk.proofs.keys.only_read.Goals as goal
use Rattle.lt_walk.proofs.keys.only_read.Goals.{then-is_only_read+in_ok-copy+in_ok-push, else-is_only_read}

pub loop-key-preserved : goal.loop-key-preserved
loop-key-preserved c =
    let item = c.loop-key-item.result in
    let within : c.loop-key.key-index < length c.args.accesses.now = omega arith in
    elim c.if-is_only_read.branch [
      | then-is_only_read+in_ok-copy+in_ok-push w ↦
          let is_read : IsOnlyRead c.args.writes.now item.0 item.1 = search rules in
          let pushed : c.if-is_only_read.keys.items ≡ c.loop-key.keys.items ++ item.0 ∷ [] = search rules in
          read_more c.args.writes.now c.loop-key.keys.items c.if-is_only_read.keys.items c.args.accesses.now c.loop-key.key-index item within c.loop-key-item.is c.requires.are c.loop-key.invariant (inl (is_read, pushed))
      | else-is_only_read w ↦
          let no_read : ¬ IsOnlyRead c.args.writes.now item.0 item.1 = search rules in
          let stays : c.if-is_only_read.keys.items ≡ c.loop-key.keys.items = search rules in
          read_more c.args.writes.now c.loop-key.keys.items c.if-is_only_read.keys.items c.args.accesses.now c.loop-key.key-index item within c.loop-key-item.is c.requires.are c.loop-key.invariant (inr (no_read, stays))
    ]

pub returns : goal.returns
returns c = IfOk-weaker c.distinct.result _ _ (λ sorted a. all_read sorted.items c.loop-key.keys.items c.args.accesses.now c.loop-key.key-index c.loop-key-test.false c.loop-key.invariant a) c.distinct.ensures
