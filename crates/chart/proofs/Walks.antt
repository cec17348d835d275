-- The walk that writes the first tree, node by node.
use Rattle.std.proofs.Common.{◌≡◌, ℕ, ◌+◌, ◌-◌, ◌<◌, ◌≤◌, List, [], ◌∷◌, ◌++◌, length, drop, set, sym, refl, ap, ◌∙◌, subst, append_assoc}
use Rattle.std.proofs.Common.{arith, length-append}
use lib.Seq.{set-append_seam}
use Rattle.std.specs.List.{AllByRecursion}
use Rattle.std.proofs.ByRecursion.{All-append}
use Rattle.std.proofs.lemmas.List.{append-nil, drop_more}
use Rattle.grammar.specs.Model.{Model}
use Rattle.text.specs.declared.token.Token.{Token}
use Rattle.tree.specs.declared.node.Node.{Node}
use Rattle.chart.specs.declared.waiting.Waiting.{Waiting}
use Rattle.chart.specs.Waits.{Due, covered, rooms, Writes, Rest, Entered}
use Rattle.chart.proofs.Rooms.{nodes-some}
use Rattle.chart.proofs.Waits.{covered-append, rooms-append, rest-append}

-- `done` is written in front of what `old` had, and with the nodes of all that waits it is the first tree for `top`
pub record Walking (G : Model) (ts : List Token) (top : Waiting) (old : List Node) (ws : List Waiting) (count : ℕ)
    (now : List Node) : Type 0 where
  pub due : AllByRecursion (Due G ts) ws
  pub short : covered ws ≤ length ts
  pub room : count + rooms G.nonterminals ws ≤ length old
  pub done : List Node
  pub long : count ≡ length done
  pub front : now ≡ done ++ drop (length done) old
  pub writes : (ns : List Node) → Rest G ts ws ns → Writes G ts top (done ++ ns)

-- each covers some token
pub few_wait : (ws : List Waiting) → length ws ≤ covered ws
few_wait [] = omega arith
few_wait (w ∷ ws) = omega (arith, w.stretch.some, few_wait ws)

module _ (G : Model) (ts : List Token) where
  pub one-room : (w : Waiting) → Due G ts w → 0 < rooms G.nonterminals (w ∷ [])
  one-room w h = omega (arith, nodes-some G.nonterminals (w.stretch.to - w.stretch.from) (omega (arith, w.stretch.some)), h.low)

  module _ (top : Waiting) (old : List Node) where
    pub walk_start : Due G ts top → rooms G.nonterminals (top ∷ []) ≤ length old → Walking G ts top old (top ∷ []) 0 old
    walk_start h l = record {
      due = (h, tt);
      short = omega (arith, h.within);
      room = omega arith;
      done = [];
      long = refl;
      front = refl;
      writes = λ ns r. subst (Writes G ts top) (sym (r.2 ∙ ap (λ (y : List Node). r.0 ++ y) r.4 ∙ append-nil r.0)) r.3;
    }

    -- there is room for one node more
    pub walk_room : (w : Waiting) (ws : List Waiting) (count : ℕ) (now : List Node) → Walking G ts top old (w ∷ ws) count now
        → count < length old
    walk_room w ws count now h = omega (arith, h.room, one-room w h.due.0)

    one_more : (done : List Node) (n : Node) → length done < length old
        → set (done ++ drop (length done) old) (length done) n ≡ (done ++ (n ∷ [])) ++ drop (length (done ++ (n ∷ []))) old
    one_more done n l =
        let k : length (done ++ (n ∷ [])) ≡ length done + 1 = length-append done (n ∷ []) in
        ap (λ (y : List Node). set (done ++ y) (length done) n) (drop_more old (length done) n l)
        ∙ set-append_seam done _ (drop (length done + 1) old) n
        ∙ sym (append_assoc done (n ∷ []) (drop (length done + 1) old))
        ∙ ap (λ (m : ℕ). (done ++ (n ∷ [])) ++ drop m old) (sym k)

    pub walk_more : (w : Waiting) (ws vs : List Waiting) (n : Node) (count : ℕ) (now : List Node)
        → Walking G ts top old (w ∷ ws) count now → Entered G ts w n vs → Walking G ts top old (vs ++ ws) (count + 1) (set now count n)
    walk_more w ws vs n count now h e =
        let l = walk_room w ws count now h in
        let d = h.done in
        record {
          due = All-append (Due G ts) vs ws e.due h.due.1;
          short = omega (arith, covered-append vs ws, h.short, e.short);
          room = omega (arith, rooms-append G.nonterminals vs ws, h.room, e.room);
          done = d ++ (n ∷ []);
          long = omega (arith, h.long, length-append d (n ∷ []));
          front = ap (λ (y : List Node). set y count n) h.front ∙ ap (λ (m : ℕ). set (d ++ drop (length d) old) m n) h.long
              ∙ one_more d n (omega (arith, h.long));
          writes = λ ns r.
              let q = rest-append G ts vs ws ns r in
              let x = h.writes ((n ∷ q.0) ++ q.1) (n ∷ q.0, q.1, refl, e.writes q.0 q.3, q.4) in
              subst (Writes G ts top) (ap (λ (y : List Node). d ++ (n ∷ y)) (sym q.2) ∙ sym (append_assoc d (n ∷ []) ns)) x;
        }

    pub walk_end : (count : ℕ) (now : List Node) → Walking G ts top old [] count now
        → (ns : List Node) × Writes G ts top ns × (count ≡ length ns) × (now ≡ ns ++ drop count old)
    walk_end count now h = (
      h.done,
      subst (Writes G ts top) (append-nil h.done) (h.writes [] refl),
      h.long,
      h.front ∙ ap (λ (m : ℕ). h.done ++ drop m old) (sym h.long),
    )

    -- where each place is written, nothing waits
    pub walk_full : (ws : List Waiting) (count : ℕ) (now : List Node) → Walking G ts top old ws count now → length old ≤ count
        → (ns : List Node) × Writes G ts top ns × (count ≡ length ns) × (now ≡ ns ++ drop count old)
    walk_full [] count now h l = walk_end count now h
    walk_full (w ∷ ws) count now h l = absurd (omega (arith, walk_room w ws count now h))
