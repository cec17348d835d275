use Rattle.std.proofs.Common.{[], ◌∷◌, true, false, replicate, sym, subst}
use Rattle.layout.specs.declared.line_writer.LineWriter.{LineWriter}
use Rattle.layout.specs.Writers.{Wrote}
use Rattle.layout.proofs.Leads.{lead_by}
use Rattle.layout.proofs.Wrote.{wrote_on}
use Rattle.layout.proofs.line_writer.LineWriter.lead_in.Goals as goal
use Rattle.layout.proofs.line_writer.LineWriter.lead_in.Goals.{then-piece, else-piece}

pub returns : goal.returns
returns c =
    elim c.if-piece.branch [
      | then-piece w ↦
          let put = subst (λ (v : LineWriter). Wrote c.args.self.now v (10 ∷ [])) (sym w.self-is) w.put.ensures in
          subst (Wrote c.args.self.now c.spaces.new.self) (sym (lead_by _ _ _ true c.spaces_before-spaces.ensures.lead w.if-piece.true))
          (wrote_on c.args.self.now c.if-piece.self c.spaces.new.self _ _ put c.spaces.ensures)
      | else-piece w ↦
          subst (Wrote c.args.self.now c.spaces.new.self) (sym (lead_by _ _ _ false c.spaces_before-spaces.ensures.lead w.if-piece.false))
          (subst (λ (v : LineWriter). Wrote v c.spaces.new.self (replicate c.spaces_before-spaces.result 32)) w.self-is c.spaces.ensures)
    ]
