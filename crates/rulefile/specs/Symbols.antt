-- Symbols get their numbers one behind another.
use Rattle.std.specs.Prelude.{◌≡◌, ℕ, true, not, List, [], ◌∷◌, ◌++◌, length, Some, None, Option, nat_lt, refl}
use Rattle.std.proofs.Common.{sym, ap, ◌∙◌, inl, inr, arith}
use Rattle.std.proofs.lemmas.Slice.Eq.{bytes_eq-Decides}
use Rattle.std.proofs.lemmas.List.{append_assoc}
use Rattle.std.proofs.lemmas.Bool.{or_cases, or_left, or_right, ltb-true, lt-ltb}
use Rattle.std.proofs.lemmas.List.Sums.{prefix_len-le-length}
use Rattle.pieces.specs.declared.piece.Class.TheVariants.{Name, Number, Quote, Sign}
use Rattle.grammar.specs.declared.rule.Symbol.TheVariants as symbol
use Rattle.grammar.specs.Model.{Terminal, class, word}
use Rattle.arrayvec.specs.ArrayVec.{ArrayVec}
use Rattle.rulefile.specs.declared.spelling.Spelling.{Spelling}
use Rattle.rulefile.specs.declared.table.Terminals.{Terminals}
use Rattle.rulefile.specs.declared.table.Table.{Table}
use Rattle.rulefile.specs.Denoted.{alike}
use Rattle.rulefile.specs.Places.{place, with_new, gathered, Numbers, same_name}
use Rattle.rulefile.specs.Rows.{Called, nonterminal, terminal, symbol_by, name_of, terminal_of, names_among, terminals_among}
use Rattle.rulefile.specs.Tables.{names, terminals}
use Rattle.rulefile.specs.Views.{Oversize, Full, Gives, GivesName}
use Rattle.rulefile.specs.Gathering.{gathered-append, grows, settled}

pub same_name_itself : (w : List ℕ) → same_name w w ≡ true
same_name_itself w = (bytes_eq-Decides w w).1 refl

pub alike_itself : (t : Terminal) → alike t t ≡ true
alike_itself (class Name) = refl
alike_itself (class Number) = refl
alike_itself (class Quote) = refl
alike_itself (class Sign) = refl
alike_itself (word w) = (bytes_eq-Decides w w).1 refl

pub names-append : (ps qs : List Called) → names_among (ps ++ qs) ≡ names_among ps ++ names_among qs
names-append [] qs = refl
names-append (a ∷ ps) qs =
    ap (λ (ws : List (List ℕ)). name_of a ++ ws) (names-append ps qs) ∙ sym (append_assoc (name_of a) (names_among ps) (names_among qs))

pub terminals-append : (ps qs : List Called) → terminals_among (ps ++ qs) ≡ terminals_among ps ++ terminals_among qs
terminals-append [] qs = refl
terminals-append (a ∷ ps) qs =
    ap (λ (ws : List Terminal). terminal_of a ++ ws) (terminals-append ps qs)
    ∙ sym (append_assoc (terminal_of a) (terminals_among ps) (terminals_among qs))

-- first these symbols, then those
names_then : (ns : List (List ℕ)) (ps qs : List Called)
    → gathered same_name (gathered same_name ns (names_among ps)) (names_among qs) ≡ gathered same_name ns (names_among (ps ++ qs))
names_then ns ps qs =
    sym (ap (λ (ws : List (List ℕ)). gathered same_name ns ws) (names-append ps qs)
    ∙ gathered-append same_name ns (names_among ps) (names_among qs))

terminals_then : (ts : List Terminal) (ps qs : List Called)
    → gathered alike (gathered alike ts (terminals_among ps)) (terminals_among qs) ≡ gathered alike ts (terminals_among (ps ++ qs))
terminals_then ts ps qs =
    sym (ap (λ (ws : List Terminal). gathered alike ts ws) (terminals-append ps qs)
    ∙ gathered-append alike ts (terminals_among ps) (terminals_among qs))

-- too many stay too many
pub oversize_more : (ns : List (List ℕ)) (ts : List Terminal) (ms : List (List ℕ)) (us : List Terminal) → Oversize ns ts
    → Oversize (gathered same_name ns ms) (gathered alike ts us)
oversize_more ns ts ms us h = elim (or_cases (nat_lt 16 (length ns)) (nat_lt 32 (length ts)) h) [
  | inl a ↦ or_left (nat_lt 16 (length (gathered same_name ns ms))) (nat_lt 32 (length (gathered alike ts us)))
      (lt-ltb 16 (length (gathered same_name ns ms)) (omega (arith, ltb-true 16 (length ns) a, grows same_name ns ms)))
  | inr a ↦ or_right (nat_lt 16 (length (gathered same_name ns ms))) (nat_lt 32 (length (gathered alike ts us)))
      (lt-ltb 32 (length (gathered alike ts us)) (omega (arith, ltb-true 32 (length ts) a, grows alike ts us)))
]

pub both_given : {X Y : Type 0} (ps qs : List Called) (f : List (List ℕ) → List Terminal → X) (g : List (List ℕ) → List Terminal → Y)
    (t u v : Table) (x : X) (y : Y) → Gives ps f t (Some x) u → Gives qs g u (Some y) v
    → Gives {X = X × Y} (ps ++ qs) (λ ns ts. (f ns ts, g ns ts)) t (Some (x, y)) v
both_given ps qs f g t u v x y (n, m, a, r) (o, p, b, s) = (
  o ∙ ap (λ (ws : List (List ℕ)). gathered same_name ws (names_among qs)) n ∙ names_then (names t.names) ps qs,
  p ∙ ap (λ (ws : List Terminal). gathered alike ws (terminals_among qs)) m ∙ terminals_then (terminals t.terminals) ps qs,
  λ ns ts.
      let k = a (names_among qs ++ ns) (terminals_among qs ++ ts) in
      let i = gathered-append same_name (names u.names) (names_among qs) ns ∙ ap
      (λ (ws : List (List ℕ)). gathered same_name ws ns) (sym o) in
      let j = gathered-append alike (terminals u.terminals) (terminals_among qs) ts ∙ ap
      (λ (ws : List Terminal). gathered alike ws ts) (sym p) in
      let l = b ns ts in
      cc,
  s ∙ r,
)

pub first-full : (ps qs : List Called) (t : Table) → Full ps t → Full (ps ++ qs) t
first-full ps qs t o =
    let a = names_then (names t.names) ps qs in
    let b = terminals_then (terminals t.terminals) ps qs in
    let m = oversize_more _ _ (names_among qs) (terminals_among qs) o in
    rw (← a, ← b) m

pub later-full : {X : Type 0} (ps qs : List Called) (f : List (List ℕ) → List Terminal → X) (t u : Table) (x : X) → Gives ps f t (Some x) u
    → Full qs u → Full (ps ++ qs) t
later-full ps qs f t u x (n, m, a, r) o =
    let a = names_then (names t.names) ps qs in
    let b = terminals_then (terminals t.terminals) ps qs in
    rw (← a, ← b, ← n, ← m) o

-- one symbol
pub left-numbered : (t u : Table) (w : List ℕ) (k : ℕ) → k ≡ place (same_name w) (names t.names)
    → names u.names ≡ with_new same_name (names t.names) w → u.terminals ≡ t.terminals → u.rules ≡ t.rules
    → Gives (nonterminal w ∷ []) (λ ns ts. place (same_name w) ns) t (Some k) u
left-numbered t u w k is new same rules = (
  new,
  ap (λ (x : Terminals). terminals x) same,
  λ ns ts.
      let s = settled same_name (names t.names) w ns (same_name_itself w)
      (prefix_len-le-length (λ x. not (same_name w x)) (names t.names)) in
      is ∙ s.0 ∙ ap (λ (ws : List (List ℕ)). place (same_name w) (gathered same_name ws ns)) (sym new),
  rules,
)

pub name-gives : (t u : Table) (w : List ℕ) (o : Option ℕ) → Numbers same_name 16 (names t.names) w o (names u.names)
    → u.terminals ≡ t.terminals → u.rules ≡ t.rules → GivesName w t o u
name-gives t u w (Some k) h same rules = left-numbered t u w k h.0 h.1 same rules
name-gives t u w None h same rules =
    or_left (nat_lt 16 (length (with_new same_name (names t.names) w))) (nat_lt 32 (length (terminals t.terminals)))
    (lt-ltb 16 (length (with_new same_name (names t.names) w)) h)

pub terminal-numbered : (t u : Table) (w : Terminal) (k : ℕ) → k ≡ place (alike w) (terminals t.terminals)
    → terminals u.terminals ≡ with_new alike (terminals t.terminals) w → u.names ≡ t.names → u.rules ≡ t.rules
    → Gives (terminal w ∷ []) (λ ns ts. symbol_by ns ts (terminal w)) t (Some (symbol.Terminal k)) u
terminal-numbered t u w k is new same rules = (
  ap (λ (x : ArrayVec Spelling). names x) same,
  new,
  λ ns ts.
      let s = settled alike (terminals t.terminals) w ts (alike_itself w)
      (prefix_len-le-length (λ x. not (alike w x)) (terminals t.terminals)) in
      ap symbol.Terminal (is ∙ s.0 ∙ ap (λ (ws : List Terminal). place (alike w) (gathered alike ws ts)) (sym new)),
  rules,
)
