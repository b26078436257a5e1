use Rattle.std.proofs.Common.{◌≡◌, map, ap, subst, sym, All}
use Rattle.lt_words.specs.Row.{Opening}
use Rattle.lt_walk.proofs.Ends.{all_of_both, all_mapped}
use Rattle.lt_try.proofs.table.TryTable.close_in.Goals as goal

pub end-requires-clause-passes : goal.end-requires-clause-passes
end-requires-clause-passes g c =
    let book : c.self.inside.book ≡ c.args.self.of = ap (λ v. v.of) c.self.view_is in
    subst (λ (o : Opening). All (λ p. p.of ≡ o) c.all_passes-passes.result.items) (sym book)
    (rw c.all_passes-passes.ensures (all_of_both (λ p. p.of ≡ c.args.self.of) c.args.passes.items (map (λ g. g.pass) c.args.guards.items) c.requires.passes (all_mapped (λ p. p.of ≡ c.args.self.of) (λ g. g.pass) c.args.guards.items c.requires.guards)))
