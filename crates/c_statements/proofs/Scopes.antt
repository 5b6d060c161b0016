-- A scope that is left behind statements, which leave the names that are declared.
use Rattle.std.proofs.Common.{◌≡◌, ◌≤◌, ℕ, Option, List, length, take, refl, sym, ap, ◌∙◌, subst, arith}
use Rattle.c_typing.specs.Scopes.{Entry}
use Rattle.c_typing.specs.Statements as spec
use Rattle.c_tree.specs.declared.syntax.Start.{Start}
use Rattle.c_tree.specs.declared.syntax.Statement.{Statement}
use Rattle.c_typing.specs.declared.names.Around.{Around}
use Rattle.c_typing.specs.Expressions.{Within}
use Rattle.c_typing.proofs.Walks.{Extends, further, begun_good, all_fine}
use Rattle.c_names.specs.Known.{entries_of}
use Rattle.c_scopes.specs.declared.state.State.{State}
use Rattle.c_scopes.specs.Here.{here_of}
use Rattle.c_scopes.proofs.Leaving as leaving
use Rattle.c_statement_parts.specs.Left.{left}

pub at_most : (m n : ℕ) → m ≡ n → m ≤ n
at_most m n e = omega arith

-- the mark stands among the names that are left
pub fits : (start : ℕ) (before : spec.Here) (state : State) (all : spec.Here) → Extends before.names all.names → start ≤ length before.names → here_of state ≡ all
    → start ≤ length state.names.entries.items
fits start before state all x h e = leaving.fits start before.names state.names.entries.items x.more h (ap (λ (k : spec.Here). k.names) e ∙ x.is)

pub left_here : (start : ℕ) (before : spec.Here) (state out : State) (all : spec.Here) → Extends before.names all.names → start ≤ length before.names → here_of state ≡ all
    → out.names.entries.items ≡ take start state.names.entries.items → (out.locals ≡ state.locals) × (out.labels ≡ state.labels) → here_of out ≡ left start before all
left_here start before state out all x h e names rest =
    let p : entries_of out.names.entries.items ≡ take start before.names =
    ap entries_of names ∙ leaving.left start before.names state.names.entries.items x.more h (ap (λ (k : spec.Here). k.names) e ∙ x.is) in
    let q : out.locals ≡ all.locals = rest.0 ∙ ap (λ (k : spec.Here). k.locals) e in
    let r : out.labels ≡ all.labels = rest.1 ∙ ap (λ (k : spec.Here). k.labels) e in
    λ i. record { names = p i; locals = q i; labels = r i }

-- a scope that began where the names end
left_all : (start : ℕ) (h inner : spec.Here) → start ≡ length h.names → left start h inner ≡ spec.behind h inner
left_all start h inner e =
    let p : take start h.names ≡ h.names = ap (λ n. take n h.names) e ∙ leaving.take_all h.names in
    λ i. record { names = p i; locals = inner.locals; labels = inner.labels }

-- the scope of a `for` is left where it began
pub back : (start : ℕ) (h z : spec.Here) (state : State) → Extends h.names z.names → start ≡ length h.names → here_of state ≡ z → left start (here_of state) (here_of state) ≡ spec.behind h z
back start h z state x e is =
    let p : take start z.names ≡ h.names =
    ap (take start) x.is ∙ leaving.take_front start h.names x.more (at_most start (length h.names) e) ∙ ap (λ n. take n h.names) e ∙ leaving.take_all h.names in
    let q : left start z z ≡ spec.behind h z = λ i. record { names = p i; locals = z.locals; labels = z.labels } in
    ap (λ (k : spec.Here). left start k k) is ∙ q

pub for_extends : (g : Within) (c : Around) (h : spec.Here) (i : Start) (a : Statement) → Extends h.names (spec.walk g a (spec.looped c) (spec.begun g (spec.in_block c h) h i).here).here.names
for_extends g c h i a = further _ _ _ (begun_good g (spec.in_block c h) h i).extends ((all_fine g a).good (spec.looped c) (spec.begun g (spec.in_block c h) h i).here).extends

-- a block, and a switch's
module _ (g : Within) (c inner : Around) (h : spec.Here) (ws : List spec.Walk) where
  pub block_here : (k : spec.Here) → inner ≡ spec.in_block c h → k ≡ left inner.start h (spec.sequence g inner h ws).here → k ≡ (spec.block g c h ws).here
  block_here k is made =
      made ∙ ap (λ (b : Around). left b.start h (spec.sequence g b h ws).here) is ∙ left_all (length h.names) h (spec.sequence g (spec.in_block c h) h ws).here refl

  pub switch_here : (own k : spec.Here) (ls : List (Option ℕ)) → inner ≡ spec.in_switch c h → own ≡ spec.without_labels h → ls ≡ h.labels → k ≡ left inner.start own (spec.sequence g inner own ws).here
      → spec.with_labels k ls ≡ (spec.switch_block g c h ws).here
  switch_here own k ls is bare outer made =
      let e : k ≡ spec.behind (spec.without_labels h) (spec.sequence g (spec.in_switch c h) (spec.without_labels h) ws).here =
      made ∙ ap (λ (b : Around). left b.start own (spec.sequence g b own ws).here) is
      ∙ ap (λ (o : spec.Here). left (length h.names) o (spec.sequence g (spec.in_switch c h) o ws).here) bare
      ∙ left_all (length h.names) (spec.without_labels h) (spec.sequence g (spec.in_switch c h) (spec.without_labels h) ws).here refl in
      ap (λ (j : spec.Here). spec.with_labels j ls) e
      ∙ ap (spec.with_labels (spec.behind (spec.without_labels h) (spec.sequence g (spec.in_switch c h) (spec.without_labels h) ws).here)) outer
