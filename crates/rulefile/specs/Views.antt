-- Rows that were read, and what becomes of the tables when one is added.
--   called, written, several, line   a mention, an entry, entries and a row as the file has them
--   Oversize   more than 16 names or more than 32 terminals
--   Full       there is no room in a table for some symbols
--   Gives      symbols got their numbers in a table
--   GivesName, GivesSymbol, GivesItem, GivesItems   so for one name, one symbol, one item and the items of a line
--   Adds       a line was added to a table; none, if there is no room for it
use Rattle.std.specs.Prelude.{◌≡◌, ℕ, ◌+◌, true, ◌||◌, List, [], ◌∷◌, ◌++◌, length, Some, None, Option, nat_lt}
use Rattle.grammar.specs.declared.rule.Symbol.{Symbol}
use Rattle.grammar.specs.declared.rule.Item.{Item}
use Rattle.grammar.specs.Model.{Items}
use Rattle.grammar.specs.Model.{Terminal}
use Rattle.rulefile.specs.declared.row.Mention.{Mention}
use Rattle.rulefile.specs.declared.row.Mention.TheVariants as mention
use Rattle.rulefile.specs.declared.row.Entry.{Entry}
use Rattle.grammar.specs.declared.several.Several.{Several}
use Rattle.grammar.specs.Several.{mapped}
use Rattle.rulefile.specs.declared.row.Row.{Row}
use Rattle.rulefile.specs.declared.table.Table.{Table}
use Rattle.rulefile.specs.Spelled.{spelled}
use Rattle.rulefile.specs.Denoted.{denoted, alike}
use Rattle.rulefile.specs.Places.{place, gathered, same_name}
use Rattle.rulefile.specs.Rows.{Called, nonterminal, terminal, Written, Entries, Line, symbols}
use Rattle.rulefile.specs.Rows.{names_among, terminals_among, names_in, terminals_in, symbol_by, item_by, items_by, rule_by}
use Rattle.rulefile.specs.Tables.{names, terminals, rules}

abbrev pub called : Mention → Called
called (mention.Nonterminal s) = nonterminal (spelled s)
called (mention.Terminal t) = terminal (denoted t)

abbrev pub written : Entry → Written
written e = record { symbol = called e.symbol; relation = e.relation; mark = e.mark }

abbrev pub several : Several Entry → Entries
several = mapped written

abbrev pub line : Row → Line
line r = record { left = spelled r.left; items = several r.entries }

-- more than 16 names or more than 32 terminals
abbrev pub Oversize : List (List ℕ) → List Terminal → Type 0
Oversize ns ts = (nat_lt 16 (length ns) || nat_lt 32 (length ts)) ≡ true

-- there is no room in a table for these symbols
abbrev pub Full : List Called → Table → Type 0
Full ss t =
    Oversize (gathered same_name (names t.names) (names_among ss)) (gathered alike (terminals t.terminals) (terminals_among ss))

-- symbols got their numbers in a table, and what is made with these numbers stays right however many more symbols come
abbrev pub Gives : {X : Type 0} → List Called → (List (List ℕ) → List Terminal → X) → Table → Option X → Table → Type 0
Gives ss by t (Some x) u =
    (names u.names ≡ gathered same_name (names t.names) (names_among ss))
    × (terminals u.terminals ≡ gathered alike (terminals t.terminals) (terminals_among ss))
    × ((ns : List (List ℕ)) (ts : List Terminal)
    → x ≡ by (gathered same_name (names u.names) ns) (gathered alike (terminals u.terminals) ts))
    × (u.rules ≡ t.rules)
Gives ss by t None u = Full ss t

abbrev pub GivesName : List ℕ → Table → Option ℕ → Table → Type 0
GivesName w = Gives (nonterminal w ∷ []) (λ ns ts. place (same_name w) ns)

abbrev pub GivesSymbol : Called → Table → Option Symbol → Table → Type 0
GivesSymbol s = Gives (s ∷ []) (λ ns ts. symbol_by ns ts s)

abbrev pub GivesItem : Written → Table → Option Item → Table → Type 0
GivesItem x = Gives (x.symbol ∷ []) (λ ns ts. item_by ns ts x)

abbrev pub GivesItems : Entries → Table → Option Items → Table → Type 0
GivesItems xs = Gives (symbols xs) (λ ns ts. items_by ns ts xs)

-- a line was added to a table; what its rule is stays right however many more symbols come
abbrev pub Adds : Line → Table → Option (Unit {0}) → Table → Type 0
Adds l t (Some x) u =
    (names u.names ≡ gathered same_name (names t.names) (names_in l))
    × (terminals u.terminals ≡ gathered alike (terminals t.terminals) (terminals_in l))
    × ((ns : List (List ℕ)) (ts : List Terminal)
    → rules u.rules ≡ rules t.rules ++ rule_by (gathered same_name (names u.names) ns)
    (gathered alike (terminals u.terminals) ts) l ∷ [])
Adds l t None u =
    (nat_lt 16 (length (gathered same_name (names t.names) (names_in l)))
    || nat_lt 32 (length (gathered alike (terminals t.terminals) (terminals_in l)))
    || nat_lt 64 (length (rules t.rules) + 1)) ≡ true
