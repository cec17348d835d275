use Rattle.std.proofs.Common.{◌≡◌, ℕ, ◌+◌, replicate, sym, refl, ap, ◌∙◌}
use Rattle.std.proofs.lemmas.List.{length-replicate}
use Rattle.layout.proofs.Writing.{part-long, many_front, many_rest, many_room}
use Rattle.layout.proofs.line_writer.LineWriter.spaces.Goals as goal

pub returns : goal.returns
returns c =
    let out = c.args.self.now.out.now in
    let wrote = c.fill.new.self in
    let at = c.args.self.now.position in
    let is : wrote ≡ replicate c.args.count 32 = c.fill.ensures.after (λ y h. h)
    ∙ ap (λ (n : ℕ). replicate n 32) (part-long out at c.args.count c.requires) in
    let long = length-replicate c.args.count 32 in
    record {
      position = sym (ap (λ (n : ℕ). at + n) long);
      same = refl;
      room = many_room out wrote _ at _ c.requires is long;
      front = many_front out wrote _ at _ c.requires is long;
      rest = many_rest out wrote _ at _ c.requires is long;
    }
