use Rattle.std.proofs.lemmas.Result.{IfOk-weaker}
use Rattle.lt_walk.proofs.FewKeys.{one_access}
use Rattle.lt_walk.proofs.keys.single_key.Goals as goal

pub returns : goal.returns
returns c = IfOk-weaker c.one_key.result _ _ (λ list e. rw e (one_access c.args.only.now.0 c.args.only.now.1)) c.one_key.ensures
