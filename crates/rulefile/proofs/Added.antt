-- One line more in the tables.
use Rattle.std.proofs.Common.{◌≡◌, ℕ, ◌+◌, ltb, List, [], ◌∷◌, ◌++◌, length, Some, None, Ok, Err, Option, Result, OnOk, OnErr, sym, ap}
use Rattle.std.proofs.Common.{subst, ◌∙◌, arith}
use Rattle.std.specs.Result.{result_ok}
use Rattle.std.proofs.lemmas.Bool.{or_left, or_right, lt-ltb}
use Rattle.grammar.specs.Model.{Items}
use Rattle.grammar.specs.declared.rule.Rule.{Rule}
use Rattle.grammar.specs.Model.{Terminal}
use Rattle.arrayvec.specs.ArrayVec.{ArrayVec}
use Rattle.rulefile.specs.declared.table.Table.{Table}
use Rattle.rulefile.specs.Places.{place, same_name}
use Rattle.rulefile.specs.Rows.{Line, nonterminal, symbols, items_by}
use Rattle.rulefile.specs.Tables.{names, terminals, rules}
use Rattle.rulefile.specs.Views.{Gives, Full, Adds}
use Rattle.rulefile.specs.Symbols.{both_given, first-full}

-- no room for the name on the left
pub left-full : (l : Line) (t u : Table) → Full (nonterminal l.left ∷ []) t → Adds l t None u
left-full l t u h = or_left _ _ (first-full (nonterminal l.left ∷ []) (symbols l.items) t h)

-- a line's rule by its left symbol and by its items
abbrev left_by : Line → List (List ℕ) → List Terminal → ℕ
left_by l ns ts = place (same_name l.left) ns

abbrev right_by : Line → List (List ℕ) → List Terminal → Items
right_by l ns ts = items_by ns ts l.items

module _ (l : Line) (t u v w : Table) (k : ℕ) (x : Items) (p : Gives (nonterminal l.left ∷ []) (left_by l) t (Some k) u)
    (q : Gives (symbols l.items) (right_by l) u (Some x) v) (n : w.names ≡ v.names) (m : w.terminals ≡ v.terminals) where
  added : rules w.rules ≡ rules v.rules ++ record { left = k; items = x } ∷ [] → Adds l t (Some tt) w
  added h =
      let g = both_given (nonterminal l.left ∷ []) (symbols l.items) (left_by l) (right_by l) t u v k x p q in (
        ap names n ∙ g.0,
        ap terminals m ∙ g.1,
        λ ns ts.
            let e = g.2 ns ts in
            let r : Rule = record { left = k; items = x } in
            rw (n, m) (h ∙ ap (λ (s : ArrayVec Rule). rules s ++ r ∷ []) g.3
            ∙ ap (λ (y : ℕ × Items). rules t.rules ++ record { left = y.0; items = y.1 } ∷ []) e),
      )

  rules-full : length (rules v.rules) ≡ 64 → Adds l t None w
  rules-full h =
      let e = ap (λ (s : ArrayVec Rule). length (rules s)) (q.3 ∙ p.3) in
      or_right _ (ltb 64 (length (rules t.rules) + 1)) (lt-ltb 64 (length (rules t.rules) + 1) (omega (arith, e, h)))

  -- by whether there was room for the rule
  pub added_or_full : {E : Type 0} (r : Result (Unit {0}) E) (o : Option (Unit {0})) → o ≡ result_ok r
      → OnOk r (w.rules.items ≡ v.rules.items ++ record { left = k; items = x } ∷ [])
      → OnErr r (length v.rules.items ≡ 64) → Adds l t o w
  added_or_full (Ok y) o e a b =
      subst (λ (p : Option (Unit {0})). Adds l t p w) (sym e) (added a)
  added_or_full (Err f) o e a b =
      subst (λ (p : Option (Unit {0})). Adds l t p w) (sym e) (rules-full b)
