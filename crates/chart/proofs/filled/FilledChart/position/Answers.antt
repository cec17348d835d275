use Rattle.std.proofs.lemmas.Option.{slice_get-get_or}
use Rattle.chart.proofs.filled.FilledChart.position.Goals as goal

pub returns : goal.returns
returns g c = (
  _,
  slice_get-get_or c.args.self.now.chart.tokens.now c.args.token record {
    start = 0;
    length = 0;
    line = 0;
    column =
        0;
    terminal = 0;
  } c.requires,
  c.from.ensures,
)
