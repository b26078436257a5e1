use Rattle.lt_trace_check.proofs.parallel.extended.Goals as goal

pub returns : goal.returns
returns g c = c.all_joined.ensures (g.T.TextAt.contents c.args.text.now) c.args.prefix.version c.in_ok-pieces.ensures c.requires
