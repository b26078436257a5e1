use Rattle.std.proofs.Common.{◌≡◌, IsTrue, refl, subst, rules}
use Rattle.lt_ids.specs.declared.request.Access.TheVariants.{Write}
use Rattle.lt_rules.specs.declared.call.Reply.TheVariants.{MustWait}
use Rattle.lt_rules.specs.declared.queued.QueuedRequest.{QueuedRequest}
use Rattle.lt_rules.specs.Rules.{NeedsNoMemory}
use Rattle.lt_rules.specs.Visit.{visit}
use Rattle.lt_stub_table_tests.proofs.scarce.may_fail.Goals as goal

pub returns-in-Visit-default-default-default-Write-eq0 : goal.returns-in-Visit-default-default-default-Write-eq0
returns-in-Visit-default-default-default-Write-eq0 c = λ yes.
    let w = c.in-Visit-default-default-default-Write-eq0 in
    let zero : w.longest ≡ 0 = search rules in
    let write : w.access ≡ Write = search rules in
    rw w.is (record {
      lacks = λ room. tt;
      takes = λ pass needs.
          let q : QueuedRequest = record { ticket = w.ticket; txn = w.txn; ts = w.ts; pass = pass } in
          let waits : (visit c.args.state.now q w.longest w.access).reply ≡ MustWait = rw (zero, write) (c.is_kept_out.ensures yes q refl) in
          subst (λ reply. NeedsNoMemory reply (c.args.state.now.reservation ≡ (visit c.args.state.now q w.longest w.access).after.reservation)) waits needs;
    })
