use Rattle.std.specs.Prelude.{codes}
use Rattle.lt_tool.proofs.Appended.{appends_three}
use Rattle.lt_tool.proofs.failure.write_fault.Goals as goal

pub returns : goal.returns
returns g c =
    let contents = g.W.Write.contents in
    appends_three (contents c.args.writer.now) (contents c.write_out.new.writer) (contents c.write_out-2.new.writer) (contents c.write_out-3.new.writer) (codes ": ") c.args.name.now (codes "\n")
    c.in_ok-write_out.ensures.ok c.in_ok-write_out-2.ensures.ok c.in_ok-write_out-3.ensures.ok
