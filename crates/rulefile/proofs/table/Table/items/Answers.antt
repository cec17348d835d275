use Rattle.std.proofs.Common.{ℕ, List, [], ◌∷◌, Some, Option, sym, ap, subst}
use Rattle.grammar.specs.declared.rule.Item.{Item}
use Rattle.grammar.specs.Model.{Items}
use Rattle.grammar.specs.declared.several.Several.TheVariants.{Two, Three}
use Rattle.grammar.specs.Model.{Terminal}
use Rattle.rulefile.specs.declared.row.Entry.{Entry}
use Rattle.grammar.specs.declared.several.Several.{Several}
use Rattle.rulefile.specs.declared.row.Entry.{Entry}
use Rattle.rulefile.specs.declared.table.Table.{Table}
use Rattle.rulefile.specs.Rows.{Called, symbols, item_by, items_by}
use Rattle.rulefile.specs.Views.{called, written, several, Full, Gives}
use Rattle.rulefile.specs.Symbols.{both_given, first-full, later-full}
use Rattle.rulefile.proofs.table.Table.items.Goals as goal

-- an entry's symbol, and its item by numbers
abbrev own : Entry → List Called
own e = called e.symbol ∷ []

abbrev by : Entry → List (List ℕ) → List Terminal → Item
by e ns ts = item_by ns ts (written e)

-- what is to be shown of some entries
abbrev To : Table → Option Items → Table → Several Entry → Type 0
To t r u es = Gives (symbols (several es)) (λ ns ts. items_by ns ts (several es)) t r u

abbrev OutOf : Table → Several Entry → Type 0
OutOf t es = Full (symbols (several es)) t

pub returns-in_err-item-in-Two : goal.returns-in_err-item-in-Two
returns-in_err-item-in-Two c =
    let t = c.args.self.now in
    let a = c.in-Two.a in
    let b = c.in-Two.b in
    rw c.from_residual-in_err-item-in-Two.ensures
    (subst (OutOf t) (sym c.in-Two.is) (first-full (own a) (own b) t c.in_err-item-in-Two.ensures))

pub returns-in_err-item-in-Three : goal.returns-in_err-item-in-Three
returns-in_err-item-in-Three c =
    let t = c.args.self.now in
    let a = c.in-Three.a in
    rw c.from_residual-in_err-item-in-Three.ensures
    (subst (OutOf t) (sym c.in-Three.is)
    (first-full (own a) (called c.in-Three.b.symbol ∷ own c.in-Three.c) t c.in_err-item-in-Three.ensures))

pub returns-in_err-item-in-Three-2 : goal.returns-in_err-item-in-Three-2
returns-in_err-item-in-Three-2 c =
    let t = c.args.self.now in
    let u = c.item-in-Three.new.self in
    let a = c.in-Three.a in
    let b = c.in-Three.b in
    let d = c.in-Three.c in
    rw c.from_residual-in_err-item-in-Three-2.ensures
    (subst (OutOf t) (sym c.in-Three.is)
    (later-full (own a) (called b.symbol ∷ own d) (by a) t u c.in_ok-item-in-Three.field-0 c.in_ok-item-in-Three.ensures
    (first-full (own b) (own d) u c.in_err-item-in-Three-2.ensures)))

pub returns-in_ok-item-in-Two-2 : goal.returns-in_ok-item-in-Two-2
returns-in_ok-item-in-Two-2 c =
    let t = c.args.self.now in
    let u = c.item-in-Two.new.self in
    let v = c.item-in-Two-2.new.self in
    let a = c.in-Two.a in
    let b = c.in-Two.b in
    let x = c.in_ok-item-in-Two.field-0 in
    let y = c.in_ok-item-in-Two-2.field-0 in
    let g = both_given (own a) (own b) (by a) (by b) t u v x y c.in_ok-item-in-Two.ensures c.in_ok-item-in-Two-2.ensures in
    subst (To t (Some (Two x y)) v) (sym c.in-Two.is)
    (g.0, g.1, λ ns ts. ap (λ (p : Item × Item). Two p.0 p.1) (g.2 ns ts), g.3)

pub returns-in_ok-item-in-Three-3 : goal.returns-in_ok-item-in-Three-3
returns-in_ok-item-in-Three-3 c =
    let t = c.args.self.now in
    let u = c.item-in-Three.new.self in
    let v = c.item-in-Three-2.new.self in
    let w = c.item-in-Three-3.new.self in
    let a = c.in-Three.a in
    let b = c.in-Three.b in
    let d = c.in-Three.c in
    let x = c.in_ok-item-in-Three.field-0 in
    let y = c.in_ok-item-in-Three-2.field-0 in
    let z = c.in_ok-item-in-Three-3.field-0 in
    let g = both_given (own b) (own d) (by b) (by d) u v w y z c.in_ok-item-in-Three-2.ensures c.in_ok-item-in-Three-3.ensures in
    let h = both_given (own a) (called b.symbol ∷ own d) (by a) (λ ns ts. (by b ns ts, by d ns ts)) t u w x (y, z)
    c.in_ok-item-in-Three.ensures g in
    subst (To t (Some (Three x y z)) w) (sym c.in-Three.is)
    (h.0, h.1, λ ns ts. ap (λ (p : Item × (Item × Item)). Three p.0 p.1.0 p.1.1) (h.2 ns ts), h.3)
