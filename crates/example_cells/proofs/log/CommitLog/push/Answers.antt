use Rattle.std.proofs.Common.{◌≡◌, [], ◌∷◌, ◌++◌, vec_capacity, sym, ap, subst, ◌∙◌}
use mathlib.Core.List.{IsPrefix}
use Rattle.example_cells.specs.Committing.{LogState, IsLog}
use Rattle.example_cells.proofs.Logged.{log_more}
use Rattle.example_cells.proofs.log.CommitLog.push.Goals as goal

pub invariant_of-self : goal.invariant_of-self
invariant_of-self g c =
    let l : LogState = record { pass = c.self.inside.pass; seen = c.self.inside.seen.seen; commits = c.self.inside.commits.items; capacity = vec_capacity c.self.inside.commits } in
    let view : l ≡ c.args.self.now = c.self.view_is in
    let own : c.args.commit.pass ≡ l.pass = c.requires.own ∙ sym (ap (λ (x : LogState). x.pass) view) in
    let after : IsPrefix l.seen c.args.commit.began = subst (λ (x : LogState). IsPrefix x.seen c.args.commit.began) (sym view) c.requires.after in
    let room = vec_capacity c.push_reserved.new.self in
    let more = log_more g.N.Name.of l c.args.commit room (record { each = c.self.invariant.each; rise = c.self.invariant.rise }) c.is_commit.ensures own after in
    subst (λ cs. IsLog g.N.Name.of (record { pass = l.pass; seen = c.seen-seen.result.seen; commits = cs; capacity = room })) (sym c.push_reserved.ensures.items)
    (subst (λ s. IsLog g.N.Name.of (record { pass = l.pass; seen = s; commits = l.commits ++ c.args.commit ∷ []; capacity = room })) (sym c.seen-seen.ensures) more)
