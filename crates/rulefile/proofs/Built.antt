-- Building the tables line by line.
use Rattle.std.proofs.Common.{◌≡◌, ℕ, ◌≤◌, true, false, ◌||◌, ltb, List, [], ◌∷◌, ◌++◌, map, length, Some, None, sym, ap, ◌∙◌, subst, arith}
use Rattle.std.specs.List.{flat_map}
use Rattle.std.proofs.lemmas.List.{append_assoc, length-append}
use Rattle.std.proofs.lemmas.Bool.Decides.{nat_tests}
use Rattle.grammar.specs.declared.rule.Rule.{Rule}
use Rattle.grammar.specs.Model.{Terminal}
use Rattle.rulefile.specs.declared.table.Table.{Table}
use Rattle.rulefile.specs.Built.{Built}
use Rattle.rulefile.specs.Denoted.{alike}
use Rattle.rulefile.specs.Loaded.{names_of, terminals_of, rules_of, limits}
use Rattle.rulefile.specs.Places.{gathered, same_name}
use Rattle.rulefile.specs.Rows.{Line, names_in, terminals_in, rule_by}
use Rattle.rulefile.specs.Tables.{names, terminals, rules}
use Rattle.rulefile.specs.Views.{Adds}
use Rattle.rulefile.specs.Gathering.{gathered-append, grows}

-- with the lines that are left, the tables come to hold what all lines mean
pub record Goes (ls : List Line) (t : Table) (left : List Line) : Type 0 where
  pub names : gathered same_name (names t.names) (flat_map names_in left) ≡ names_of ls
  pub terminals : gathered alike (terminals t.terminals) (flat_map terminals_in left) ≡ terminals_of ls
  pub rules : rules t.rules ++ map (rule_by (names_of ls) (terminals_of ls)) left ≡ rules_of ls

pub goes_more : (ls : List Line) (t u : Table) (l : Line) (left : List Line) (x : Unit {0}) → Goes ls t (l ∷ left) → Adds l t (Some x) u
    → Goes ls u left
goes_more ls t u l left x g (n, m, r) =
    let a : gathered same_name (names u.names) (flat_map names_in left) ≡ names_of ls
    = ap (λ (ws : List (List ℕ)). gathered same_name ws (flat_map names_in left)) n
    ∙ sym (gathered-append same_name (names t.names) (names_in l) (flat_map names_in left)) ∙ g.names in
    let b : gathered alike (terminals u.terminals) (flat_map terminals_in left) ≡ terminals_of ls
    = ap (λ (ws : List Terminal). gathered alike ws (flat_map terminals_in left)) m
    ∙ sym (gathered-append alike (terminals t.terminals) (terminals_in l) (flat_map terminals_in left)) ∙ g.terminals in
    let by = rule_by (names_of ls) (terminals_of ls) in
    let c : rules u.rules ≡ rules t.rules ++ by l ∷ [] = rw (← a, ← b) (r (flat_map names_in left) (flat_map terminals_in left)) in
    record {
      names = a;
      terminals = b;
      rules = ap (λ (ws : List Rule). ws ++ map by left) c ∙ append_assoc (rules t.rules) (by l ∷ []) (map by left) ∙ g.rules;
    }

over : (n t r : ℕ) → (ltb 16 n || ltb 32 t || ltb 64 r) ≡ true → limits n t r ≡ false
over n t r h = grind (arith, nat_tests)

pub goes_full : (ls : List Line) (t u : Table) (l : Line) (left : List Line) → Goes ls t (l ∷ left) → Adds l t None u → Built ls None
goes_full ls t u l left g h =
    let ns = gathered same_name (names t.names) (names_in l) in
    let ts = gathered alike (terminals t.terminals) (terminals_in l) in
    let a = sym (gathered-append same_name (names t.names) (names_in l) (flat_map names_in left)) ∙ g.names in
    let b = sym (gathered-append alike (terminals t.terminals) (terminals_in l) (flat_map terminals_in left)) ∙ g.terminals in
    let i : length ns ≤ length (names_of ls) = subst (λ (ws : List (List ℕ)). length ns ≤ length ws) a
    (grows same_name ns (flat_map names_in left)) in
    let j : length ts ≤ length (terminals_of ls) = subst (λ (ws : List Terminal). length ts ≤ length ws) b
    (grows alike ts (flat_map terminals_in left)) in
    let by = rule_by (names_of ls) (terminals_of ls) in
    let k = length-append (rules t.rules) (by l ∷ map by left) in
    let e = ap (λ (ws : List Rule). length ws) g.rules in
    over (length (names_of ls)) (length (terminals_of ls)) (length (rules_of ls)) (grind (arith, nat_tests))
