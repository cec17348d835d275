-- A node that is written, with what then waits in its place.
use Rattle.std.proofs.Common.{◌≡◌, ℕ, ◌-◌, ◌<◌, List, [], ◌∷◌, Some, refl, ap, ◌∙◌, subst, arith}
use Rattle.std.specs.List.{slice_get, AllByRecursion}
use Rattle.grammar.specs.declared.rule.Symbol.{Symbol}
use Rattle.grammar.specs.declared.rule.Symbol.TheVariants.{Terminal, Nonterminal}
use Rattle.grammar.specs.declared.rule.Item.{Item}
use Rattle.grammar.specs.Model.{Items}
use Rattle.grammar.specs.declared.several.Several.TheVariants.{One, Two, Three}
use Rattle.grammar.specs.declared.rule.Rule.{Rule}
use Rattle.grammar.specs.Model.{Model}
use Rattle.grammar.specs.Several.{listed}
use Rattle.grammar.specs.Lawful.{Below, Higher, Ordered, Lawful}
use Rattle.text.specs.declared.token.Token.{Token}
use Rattle.chart.specs.declared.waiting.Waiting.{Waiting}
use Rattle.chart.specs.Place.{nodes_of}
use Rattle.chart.specs.Trees.{Tree}
use Rattle.chart.specs.First.{LowestRule}
use Rattle.grammar.specs.Model.{shape_of}
use Rattle.chart.specs.Waits.{Due, rooms, Awaits, Divided, Entered}
use Rattle.chart.proofs.Rows.{same_some}
use Rattle.chart.proofs.Rooms.{nodes-some}
use Rattle.chart.proofs.Waits.{rooms-append, divided_covered, divided_due, divided_fewer, divided_written}

module _ (G : Model) (ts : List Token) where
  -- a lone item has fewer nodes below it, since its nonterminal is higher
  lone_room : (x : Item) (s : Symbol) (a c i k : ℕ) (ws : List Waiting) → i < k → a < G.nonterminals → Below G s → Higher a s
      → Awaits G ts x s c i k ws
      → rooms G.nonterminals ws < nodes_of G.nonterminals (k - i) - a
  lone_room x (Terminal t) a c i k ws l h b o w =
      omega (arith, ap (rooms G.nonterminals) w, nodes-some G.nonterminals (k - i) (omega arith))
  lone_room x (Nonterminal e) a c i k ws l h b o (w, q, s, f, t, m) =
      let n = G.nonterminals in
      let p : nodes_of n (w.stretch.to - w.stretch.from) ≡ nodes_of n (k - i) = rw (f, t) refl in
      omega (arith, ap (rooms n) q, nodes-some n (k - i) (omega arith))

  items-room : (items : Items) (a c i j : ℕ) (ws : List Waiting) → i < j → a < G.nonterminals
      → AllByRecursion (λ x. Below G x.symbol) (listed items)
      → Ordered a items → Divided G ts (listed items) c i j ws → rooms G.nonterminals ws < nodes_of G.nonterminals (j - i) - a
  items-room (One x) a c i j ws l h b o (k, us, vs, e, s, w, d) =
      let n = G.nonterminals in
      let p = lone_room x x.symbol a c i j us l h b.0 o (subst (λ (m : ℕ). Awaits G ts x x.symbol c i m us) d.0 w) in
      omega (arith, ap (rooms n) e, rooms-append n us vs, ap (rooms n) d.1)
  items-room (Two x y) a c i j ws l h b o d =
      omega (arith, divided_fewer G ts G.nonterminals x y [] c i j ws d)
  items-room (Three x y z) a c i j ws l h b o d =
      omega (arith, divided_fewer G ts G.nonterminals x y (z ∷ []) c i j ws d)

  pub entered : Lawful G → (w : Waiting) (r : ℕ) (rule : Rule) (ws : List Waiting) → Due G ts w
      → LowestRule G ts w.symbol w.stretch.from w.stretch.to w.column r → slice_get G.rules r ≡ Some rule
      → Divided G ts (listed rule.items) w.column w.stretch.from w.stretch.to ws
      → Entered G ts w record { rule = r; left = rule.left; shape = shape_of rule.items } ws
  entered law w r rule ws due l e d =
      let p = law.proper r rule e in
      let left : rule.left ≡ w.symbol =
      ap (λ (x : Rule). x.left) (same_some (slice_get G.rules r) rule l.fits.0 e l.fits.1) ∙ l.fits.2 in
      let o : Ordered w.symbol rule.items = subst (λ (a : ℕ). Ordered a rule.items) left p.ordered in
      record {
        due = divided_due G ts (listed rule.items) w.column w.stretch.from w.stretch.to ws p.below due.within d;
        short = divided_covered G ts (listed rule.items) w.column w.stretch.from w.stretch.to ws d;
        room = omega (
          arith,
          items-room rule.items w.symbol w.column w.stretch.from w.stretch.to ws w.stretch.some due.low
              p.below o d,
        );
        writes = λ ns h.
            let u = divided_written G ts (listed rule.items) w.column w.stretch.from w.stretch.to ws ns d h in (
              Tree.node r u.0,
              (l, (rule, e, u.1)),
              record {
                numbers = ap (λ (y : List ℕ). r ∷ y) u.2;
                told =
                    (record { rule = rule; is = e; left = refl; shape = refl }, u.3);
              },
            );
      }
