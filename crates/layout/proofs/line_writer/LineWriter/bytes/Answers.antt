use Rattle.std.proofs.Common.{refl}
use Rattle.layout.proofs.Writing.{many_front, many_rest, many_room}
use Rattle.layout.proofs.line_writer.LineWriter.bytes.Goals as goal

pub returns : goal.returns
returns c =
    let out = c.args.self.now.out.now in
    let wrote = c.copy_from_slice.new.self in
    let at = c.args.self.now.position in
    let is = c.copy_from_slice.ensures.after in
    record {
      position = refl;
      same = refl;
      room = many_room out wrote _ at _ c.requires is refl;
      front = many_front out wrote _ at _ c.requires is refl;
      rest = many_rest out wrote _ at _ c.requires is refl;
    }
