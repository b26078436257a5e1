use Rattle.std.proofs.Common.{◌<◌, length, vec_capacity, ◌∙◌, ap, refl, subst, sym, Some}
use Rattle.std.specs.List.{IsDistinct}
use Rattle.std.specs.Prelude.{nat_eq, not}
use Rattle.lt_rules.specs.Rules.{Record, settle}
use Rattle.lt_rules.specs.Lawful.{numbers}
use Rattle.lt_links.specs.declared.ids.QueueKind.TheVariants.{Writers}
use Rattle.lt_row.specs.declared.queue_walk.Selection.TheVariants.{Of}
use Rattle.lt_row.specs.Found.{leaves}
use Rattle.lt_row.specs.Row.{line, queue_at}
use Rattle.lt_row.proofs.Rows.{others_twice}
use Rattle.lt_row.proofs.Acts.{left_linked, left_others, lets_own, taken_record}
use Rattle.lt_row.proofs.Rooms.{on_err}
use Rattle.lt_row.proofs.row.take_among_others.Goals as goal

pub set_back-requires : goal.set_back-requires
set_back-requires c = left_linked _ _ c.args.row.now Writers (λ e. cc) (λ s. not (leaves (Of c.args.holder.now.txn) s)) _ refl c.in_ok-release_own.ensures.writes c.requires.row.linked

pub settle-requires-clause-distinct : goal.settle-requires-clause-distinct
settle-requires-clause-distinct c =
    let taken = ap (λ (r : Record). numbers r) (taken_record c.args.links.now c.release_own.new.links c.set_back.new.links c.args.row.now c.args.holder.now.txn _ refl c.in_ok-release_own.ensures.writes c.set_back.ensures) in
    subst (IsDistinct nat_eq) (sym taken) c.requires.lawful.first.numbers_differ

pub returns-clause-ok : goal.returns-clause-ok
returns-clause-ok c =
    let m = c.args.links.now in
    let taken = taken_record m c.release_own.new.links c.set_back.new.links c.args.row.now c.args.holder.now.txn _ refl c.in_ok-release_own.ensures.writes c.set_back.ensures in
    record {
      same_id = c.settle.ensures.id;
      is_outcome = record {
        moved = c.settle.ensures.record ∙ ap (λ (r : Record). settle (record r { holder = Some c.args.holder.now })) taken;
        replied = refl;
        let_through = c.in_ok-release_own.ensures.lets ∙ lets_own c.args.holder.now.txn (line m (queue_at c.args.row.now.id Writers));
      };
      linked = c.set_back.ensures.linked;
      others = others_twice _ _ _ c.args.row.now.id (left_others _ _ c.args.row.now Writers (λ e. cc) (λ s. not (leaves (Of c.args.holder.now.txn) s)) _ refl c.in_ok-release_own.ensures.writes) c.set_back.ensures.others;
    }

pub returns-in_err-release_own-clause-full : goal.returns-in_err-release_own-clause-full
returns-in_err-release_own-clause-full c =
    on_err c.from_residual.result _ (subst (λ l. vec_capacity c.args.lets.now < length l) (lets_own c.args.holder.now.txn (line c.args.links.now (queue_at c.args.row.now.id Writers))) c.in_err-release_own.ensures.full)
