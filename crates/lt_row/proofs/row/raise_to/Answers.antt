use Rattle.std.proofs.Common.{◌<◌, length, vec_capacity, ◌∙◌, ap, refl, subst, sym, map, filter}
use Rattle.std.specs.List.{IsDistinct}
use Rattle.std.specs.Prelude.{nat_eq, not}
use Rattle.lt_rules.specs.Rules.{Record, through_of, settle}
use Rattle.lt_rules.specs.Lawful.{numbers}
use Rattle.lt_links.specs.declared.ids.QueueKind.TheVariants.{Readers}
use Rattle.lt_row.specs.declared.queue_walk.Selection.TheVariants.{Below}
use Rattle.lt_row.specs.Found.{leaves, goes_on}
use Rattle.lt_row.specs.Row.{request_of, line, queue_at}
use Rattle.std.proofs.Common.{Some}
use Rattle.lt_row.proofs.Acts.{left_linked, left_others, below_left, lets_below, put_behind_none}
use Rattle.lt_row.proofs.Rooms.{on_err}
use Rattle.lt_row.proofs.row.raise_to.Goals as goal

pub settle-requires-clause-linked : goal.settle-requires-clause-linked
settle-requires-clause-linked c = left_linked _ _ c.args.row.now Readers (λ e. cc) (λ s. not (leaves (Below c.args.ts) s)) _ c.queue-readers.ensures c.drop_where.ensures c.requires.linked

pub settle-requires-clause-distinct : goal.settle-requires-clause-distinct
settle-requires-clause-distinct c =
    let left = ap (λ (r : Record). numbers r) (below_left c.args.links.now c.drop_where.new.links c.args.row.now c.args.ts _ c.queue-readers.ensures c.drop_where.ensures) in
    subst (IsDistinct nat_eq) (sym left) c.requires.lawful.first.numbers_differ

pub returns-clause-ok : goal.returns-clause-ok
returns-clause-ok c =
    let m = c.args.links.now in
    let left = below_left m c.drop_where.new.links c.args.row.now c.args.ts _ c.queue-readers.ensures c.drop_where.ensures in
    record {
      same_id = c.settle.ensures.id;
      is_outcome = record {
        moved = c.settle.ensures.record ∙ ap (λ (r : Record). settle (record r { holder = Some (record { txn = c.args.holder.now.txn; ts = c.args.ts }) })) left;
        replied = refl;
        let_through = put_behind_none (λ l. map (λ s. through_of (request_of s)) (filter (goes_on (Below c.args.ts)) l)) m _ (queue_at c.args.row.now.id Readers) _ _ c.requires.lets c.queue-readers.ensures c.in_ok-collect_selected.ensures.ok ∙ lets_below c.args.ts (line m (queue_at c.args.row.now.id Readers));
      };
      linked = left_linked _ _ c.args.row.now Readers (λ e. cc) (λ s. not (leaves (Below c.args.ts) s)) _ c.queue-readers.ensures c.drop_where.ensures c.requires.linked;
      others = left_others _ _ c.args.row.now Readers (λ e. cc) (λ s. not (leaves (Below c.args.ts) s)) _ c.queue-readers.ensures c.drop_where.ensures;
    }

pub returns-in_err-collect_selected-clause-full : goal.returns-in_err-collect_selected-clause-full
returns-in_err-collect_selected-clause-full c =
    let m = c.args.links.now in
    let all = put_behind_none (λ l. map (λ s. through_of (request_of s)) (filter (goes_on (Below c.args.ts)) l)) m _ (queue_at c.args.row.now.id Readers) _ _ c.requires.lets c.queue-readers.ensures refl ∙ lets_below c.args.ts (line m (queue_at c.args.row.now.id Readers)) in
    on_err c.from_residual.result _ (subst (λ l. vec_capacity c.args.lets.now < length l) all c.in_err-collect_selected.ensures.full)
