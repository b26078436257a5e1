use Rattle.std.proofs.Common.{◌≡◌, ◌∙◌, false, true, sym, subst}
use Rattle.lt_rules.specs.Rules.{is_empty}
use Rattle.lt_lock.proofs.hot_table.step_hot.Goals as goal

pub returns-clause-ok : goal.returns-clause-ok
returns-clause-ok c =
    let o = c.in_ok-reply.ensures.ok in record {
      replied = o.replied;
      let_through = o.let_through;
      stays = λ e. let s = c.cool.ensures.stays (subst (λ r. is_empty r ≡ false) (sym o.moved) e) in (s.0, s.1 ∙ o.moved);
      ends = λ e. c.cool.ensures.ends (subst (λ r. is_empty r ≡ true) (sym o.moved) e);
    }
