-- A loaded grammar keeps the law of grammars.
use Rattle.std.specs.Prelude.{◌≡◌, ℕ, zero, suc, Bool, true, not, List, [], ◌∷◌, length, Some, None, Option, refl}
use Rattle.std.proofs.Common.{sym, ap, subst, ◌∙◌, arith}
use Rattle.std.specs.Option.{option_map}
use Rattle.std.specs.List.{slice_get, list_all, AllByRecursion}
use Rattle.std.proofs.lemmas.List.{length-take, length-map}
use Rattle.std.proofs.lemmas.Option.{slice_get-map}
use Rattle.std.proofs.lemmas.Bool.{and_parts, ltb-true, not-true, both_ways}
use Rattle.grammar.specs.declared.rule.Symbol.{Symbol}
use Rattle.grammar.specs.declared.rule.Symbol.TheVariants as symbol
use Rattle.grammar.specs.Model.{Items}
use Rattle.grammar.specs.declared.several.Several.TheVariants.{One, Two, Three}
use Rattle.grammar.specs.declared.rule.Rule.{Rule}
use Rattle.grammar.specs.Model as model
use Rattle.grammar.specs.Several.{listed}
use Rattle.grammar.specs.Lawful.{Lawful, Proper, WellFormed, Below, Higher, Ordered}
use Rattle.rulefile.specs.declared.terminal.Terminal.{Terminal}
use Rattle.rulefile.specs.declared.terminal.Terminal.TheVariants.{Name, Number, Quote, Word}
use Rattle.rulefile.specs.declared.loaded.LoadedGrammar.{LoadedGrammar}
use Rattle.rulefile.specs.Bounds.{below, all_below, in_bounds, higher, items_ordered, ordered}
use Rattle.rulefile.specs.Built.{model_of}
use Rattle.rulefile.specs.Denoted.{denoted, alike, is_distinct}
use Rattle.rulefile.specs.Spelled.{spelled}
use Rattle.rulefile.specs.Tables.{terminals, rules}
use Rattle.rulefile.specs.Symbols.{alike_itself}

-- what passes for all passes at a number
pass_at : {X : Type 0} (p : X → Bool) (xs : List X) (k : ℕ) (x : X) → list_all p xs ≡ true → slice_get xs k ≡ Some x → p x ≡ true
pass_at p [] k x h e = let z : ◌≡◌ {A = ℕ} 0 1 = cc in absurd (omega arith)
pass_at p (y ∷ ys) zero x h e = let q : y ≡ x = cc in subst (λ (v : _). p v ≡ true) q (and_parts (p y) (list_all p ys) h).0
pass_at p (y ∷ ys) (suc k) x h e = pass_at p ys k x (and_parts (p y) (list_all p ys) h).1 e

-- a terminal is there once
once : (ts : List model.Terminal) (j k : ℕ) (t : model.Terminal) → is_distinct (λ x y. alike y x) ts ≡ true
    → slice_get ts j ≡ Some t → slice_get ts k ≡ Some t → j ≡ k
once [] j k t d p q = let z : ◌≡◌ {A = ℕ} 0 1 = cc in absurd (omega arith)
once (x ∷ ts) zero zero t d p q = refl
once (x ∷ ts) zero (suc k) t d p q =
    let h = and_parts (list_all (λ y. not (alike y x)) ts) (is_distinct (λ a b. alike b a) ts) d in
    let e : x ≡ t = cc in
    let n = not-true (alike t x) (pass_at (λ y. not (alike y x)) ts k t h.0 q) in
    absurd (both_ways (alike t x) n (subst (λ (v : model.Terminal). alike t v ≡ true) (sym e) (alike_itself t)))
once (x ∷ ts) (suc j) zero t d p q =
    let h = and_parts (list_all (λ y. not (alike y x)) ts) (is_distinct (λ a b. alike b a) ts) d in
    let e : x ≡ t = cc in
    let n = not-true (alike t x) (pass_at (λ y. not (alike y x)) ts j t h.0 p) in
    absurd (both_ways (alike t x) n (subst (λ (v : model.Terminal). alike t v ≡ true) (sym e) (alike_itself t)))
once (x ∷ ts) (suc j) (suc k) t d p q =
    let h = and_parts (list_all (λ y. not (alike y x)) ts) (is_distinct (λ a b. alike b a) ts) d in
    ap suc (once ts j k t h.1 p q)

-- every terminal of a rule file is well formed
formed-one : (t : Terminal) → WellFormed (denoted t)
formed-one Name = tt
formed-one Number = tt
formed-one Quote = tt
formed-one (Word w) =
    let l = length-take w.spelling.size w.spelling.bytes in
    (omega (arith, l, w.spelling.few), w.one)

formed_at : (o : Option Terminal) (t : model.Terminal) → option_map denoted o ≡ Some t → WellFormed t
formed_at None t e = let z : ◌≡◌ {A = ℕ} 0 1 = cc in absurd (omega arith)
formed_at (Some x) t e = let q : denoted x ≡ t = cc in subst WellFormed q (formed-one x)

low : (G : model.Model) (s : Symbol) → below G.nonterminals (length G.terminals) s ≡ true → Below G s
low G (symbol.Terminal k) h = ltb-true k (length G.terminals) h
low G (symbol.Nonterminal a) h = ltb-true a G.nonterminals h

all-low : (G : model.Model) (items : Items) → all_below G.nonterminals (length G.terminals) items ≡ true
    → AllByRecursion (λ x. Below G x.symbol) (listed items)
all-low G (One x) h = (low G x.symbol h, tt)
all-low G (Two x y) h = let p = and_parts _ _ h in (low G x.symbol p.0, (low G y.symbol p.1, tt))
all-low G (Three x y z) h =
    let p = and_parts _ _ h in
    let q = and_parts _ _ p.0 in
    (low G x.symbol q.0, (low G y.symbol q.1, (low G z.symbol p.1, tt)))

above : (left : ℕ) (s : Symbol) → higher left s ≡ true → Higher left s
above left (symbol.Terminal k) h = tt
above left (symbol.Nonterminal a) h = ltb-true left a h

in_order : (left : ℕ) (items : Items) → items_ordered left items ≡ true → Ordered left items
in_order left (One x) h = above left x.symbol h
in_order left (Two x y) h = tt
in_order left (Three x y z) h = tt

proper : (G : model.Model) (r : Rule) → in_bounds G.nonterminals (length G.terminals) r ≡ true → ordered r ≡ true → Proper G r
proper G r b o =
    let p = and_parts _ _ b in
    record {
      left = ltb-true r.left G.nonterminals p.0;
      below = all-low G r.items p.1;
      ordered = in_order r.left
          r.items o;
    }

pub lawful : (g : LoadedGrammar) → Lawful (model_of g.table)
lawful g =
    let t = g.table in
    let i = length-map t.names.items spelled in
    let j = length-map t.terminals.list.items denoted in
    let s = g.some in
    let f = g.few in
    record {
      nonterminals = (omega (arith, i, s.0), omega (arith, i, f.0));
      terminals = (omega (arith, j, s.1), omega (arith, j, f.1));
      rules = (omega (arith, s.2), omega (arith, f.2));
      once = λ a b x p q. once (terminals t.terminals) a b x t.terminals.once p q;
      spelling = λ a x p.
          formed_at (slice_get t.terminals.list.items a) x
          (sym (slice_get-map denoted t.terminals.list.items a) ∙ p);
      proper = λ a r p.
          proper (model_of t) r (pass_at _ (rules t.rules) a r g.bounded p)
          (pass_at ordered (rules t.rules) a r g.in_order p);
    }
