-- What a line writer does to the part that is lent to it.
--   HasRoom   so many bytes more fit behind those that it has written
--   Wrote     it wrote these bytes behind those that it had written, and no other byte has changed
use Rattle.std.specs.Prelude.{◌≡◌, ℕ, ◌+◌, ◌≤◌, List, ◌++◌, length, take, drop}
use Rattle.layout.specs.declared.line_writer.LineWriter.{LineWriter}

abbrev pub HasRoom : LineWriter → ℕ → Type 0
HasRoom w n = w.position + n ≤ length w.out.now

pub record Wrote (w v : LineWriter) (xs : List ℕ) : Type 0 where
  pub position : v.position ≡ w.position + length xs
  pub same : v.out.ghost_name ≡ w.out.ghost_name
  pub room : length v.out.now ≡ length w.out.now
  pub front : take v.position v.out.now ≡ take w.position w.out.now ++ xs
  pub rest : drop v.position v.out.now ≡ drop v.position w.out.now
