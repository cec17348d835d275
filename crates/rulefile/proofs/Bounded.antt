-- The rules of numbered lines are in the bounds of their names and terminals.
use Rattle.std.proofs.Common.{◌≡◌, ℕ, ◌<◌, Bool, true, not, List, [], ◌∷◌, ◌++◌, map, length, sym, refl, ◌∙◌, subst, arith}
use Rattle.std.specs.List.{list_all, flat_map, AllByRecursion}
use Rattle.std.proofs.lemmas.List.Sums.{prefix_len-le-length}
use Rattle.std.proofs.lemmas.Bool.{and_from, lt-ltb}
use Rattle.grammar.specs.Model.{Terminal}
use Rattle.rulefile.specs.declared.table.Table.{Table}
use Rattle.rulefile.specs.Bounds.{below, all_below, in_bounds}
use Rattle.rulefile.specs.Denoted.{alike}
use Rattle.rulefile.specs.Loaded.{names_of, terminals_of, rules_of}
use Rattle.rulefile.specs.Places.{place, with_new, gathered, same_name}
use Rattle.grammar.specs.declared.several.Several.TheVariants.{One, Two, Three}
use Rattle.rulefile.specs.Rows.{Called, nonterminal, terminal, Entries, Line, symbols, names_among, terminals_among}
use Rattle.rulefile.specs.Rows.{names_in, terminals_in, symbol_by, items_by, rule_by}
use Rattle.rulefile.specs.Tables.{names, terminals, rules}
use Rattle.rulefile.specs.Gathering.{gathered-append, settled}
use Rattle.rulefile.specs.Symbols.{same_name_itself, alike_itself}

-- what was gathered is found
found_in : {X : Type 0} (like : X → X → Bool) (xs : List X) (x : X) (ys zs : List X) → like x x ≡ true → gathered like
    (with_new like xs x) ys ≡ zs
    → place (like x) zs < length zs
found_in {X} like xs x ys zs t e =
    let s = settled like xs x ys t (prefix_len-le-length (λ y. not (like x y)) xs) in
    let h : place (like x) (gathered like (with_new like xs x) ys) < length (gathered like (with_new like xs x) ys) = omega
    (arith, s.0, s.1) in
    subst (λ (ws : List X). place (like x) ws < length ws) e h

-- symbols that were gathered are below the counts
abbrev Low : List (List ℕ) → List Terminal → Called → Type 0
Low N T s = below (length N) (length T) (symbol_by N T s) ≡ true

symbols-low : (ns : List (List ℕ)) (ts : List Terminal) (ss : List Called) (ms : List (List ℕ)) (us : List Terminal)
    (N : List (List ℕ)) (T : List Terminal)
    → gathered same_name ns (names_among ss ++ ms) ≡ N → gathered alike ts (terminals_among ss ++ us) ≡ T → AllByRecursion (Low N T) ss
symbols-low ns ts [] ms us N T a b = tt
symbols-low ns ts (nonterminal w ∷ ss) ms us N T a b = (
  lt-ltb (place (same_name w) N) (length N) (found_in same_name ns w (names_among ss ++ ms) N (same_name_itself w) a),
  symbols-low (with_new same_name ns w) ts ss ms us N T a b,
)
symbols-low ns ts (terminal t ∷ ss) ms us N T a b = (
  lt-ltb (place (alike t) T) (length T) (found_in alike ts t (terminals_among ss ++ us) T (alike_itself t) b),
  symbols-low ns (with_new alike ts t) ss ms us N T a b,
)

items-low : (N : List (List ℕ)) (T : List Terminal) (s : Entries) → AllByRecursion (Low N T) (symbols s) → all_below (length N) (length T)
    (items_by N T s) ≡ true
items-low N T (One x) h = h.0
items-low N T (Two x y) h = and_from _ _ h.0 h.1.0
items-low N T (Three x y z) h = and_from _ _ (and_from _ _ h.0 h.1.0) h.1.1.0

lines_low : (ns : List (List ℕ)) (ts : List Terminal) (ls : List Line) (N : List (List ℕ)) (T : List Terminal)
    → gathered same_name ns (flat_map names_in ls) ≡ N → gathered alike ts (flat_map terminals_in ls) ≡ T
    → list_all (in_bounds (length N) (length T)) (map (rule_by N T) ls) ≡ true
lines_low ns ts [] N T a b = refl
lines_low ns ts (l ∷ ls) N T a b =
    let low = symbols-low ns ts (nonterminal l.left ∷ symbols l.items) (flat_map names_in ls) (flat_map terminals_in ls) N T a b in
    let rest = lines_low (gathered same_name ns (names_in l)) (gathered alike ts (terminals_in l)) ls N T
    (sym (gathered-append same_name ns (names_in l) (flat_map names_in ls)) ∙ a)
    (sym (gathered-append alike ts (terminals_in l) (flat_map terminals_in ls)) ∙ b) in
    and_from _ _ (and_from _ _ low.0 (items-low N T l.items low.1)) rest

pub built_bounded : (ls : List Line) (t : Table) → (names t.names ≡ names_of ls) × (terminals t.terminals ≡ terminals_of ls)
    × (rules t.rules ≡ rules_of ls)
    → list_all (in_bounds (length (names t.names)) (length (terminals t.terminals))) (rules t.rules) ≡ true
built_bounded ls t (a, b, c) = rw (a, b, c) (lines_low [] [] ls (names_of ls) (terminals_of ls) refl refl)
