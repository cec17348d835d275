-- How a chart lies in memory: a number for each nonterminal and stretch of neighbouring pieces; stretches that end at one piece together.
--   tri        how many stretches end before piece j, which is j * (j - 1) / 2
--   cell_place    where the number for nonterminal a of n and the stretch from i up to j stands
--   nodes_of   how many nodes a tree over l pieces has at most, with n nonterminals
use Rattle.std.specs.Prelude.{ℕ, zero, suc, ◌+◌, ◌-◌, ◌*◌}

unfoldable pub tri : ℕ → ℕ
tri zero = 0
tri (suc m) = tri m + m

unfoldable pub cell_place : ℕ → ℕ → ℕ → ℕ → ℕ
cell_place n a i j = (tri j + i) * n + a

unfoldable pub nodes_of : ℕ → ℕ → ℕ
nodes_of n l = n * (2 * l - 1)
