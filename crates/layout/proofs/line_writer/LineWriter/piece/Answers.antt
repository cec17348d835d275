use Rattle.layout.proofs.Wrote.{wrote_on, wrote_reached}
use Rattle.layout.proofs.line_writer.LineWriter.piece.Goals as goal

pub returns-clause-wrote : goal.returns-clause-wrote
returns-clause-wrote c =
    wrote_reached c.args.self.now c.bytes.new.self _ _
    (wrote_on c.args.self.now c.lead_in.new.self c.bytes.new.self _ _ c.lead_in.ensures c.bytes.ensures)
