use Rattle.std.proofs.Common.{take, refl, arith}
use Rattle.std.specs.Option.{option_map}
use Rattle.lt_trace_check.specs.KnownText.{known_from}
use Rattle.lt_trace_check.proofs.PieceJoins.{is_piece}
use Rattle.lt_trace_check.proofs.parallel.check_piece.Goals as goal

pub returns : goal.returns
returns g c =
    let known = g.T.TextAt.contents c.args.text.now in
    let reader = c.take-reader.result in
    is_piece known (option_map (take reader.limit) (known_from (g.T.TextAt.contents reader.inner.text.now) reader.inner.at)) c.args.version c.args.from c.args.to c.new.result c.in_ok-checker.checker
    c.requires (omega arith) (rw (c.take-reader.ensures.limit, c.take-reader.ensures.inner) refl) c.new.ensures c.in_ok-checker.ensures
