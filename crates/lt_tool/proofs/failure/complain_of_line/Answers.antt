use Rattle.std.specs.Prelude.{codes, decimal}
use Rattle.lt_tool.specs.Program.{fault_end}
use Rattle.lt_tool.proofs.Appended.{appends_three}
use Rattle.lt_tool.proofs.failure.complain_of_line.Goals as goal

pub returns : goal.returns
returns g c =
    let contents = g.W.Write.contents in
    appends_three (contents c.args.writer.now) (contents c.write_out.new.writer) (contents c.write_number.new.writer) (contents c.write_fault.new.writer) (codes "lockrun: line ") (decimal c.args.line) (fault_end c.args.name.now)
    c.in_ok-write_out.ensures.ok c.in_ok-write_number.ensures c.in_ok-write_fault.ensures
