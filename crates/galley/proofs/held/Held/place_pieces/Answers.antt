use Rattle.layout.proofs.Standing.{total-standing, longest-standing}
use Rattle.galley.proofs.held.Held.place_pieces.Goals as goal

pub invariant_of-self : goal.invariant_of-self
invariant_of-self c =
    let h = c.args.self.now in
    let placed = c.place.ensures in
    record {
      few = rw placed.used h.few;
      short = rw (placed.front, longest-standing) h.short;
      whole = rw (placed.front, total-standing) h.whole;
      tree = h.tree;
      over = rw placed.used h.over;
    }
