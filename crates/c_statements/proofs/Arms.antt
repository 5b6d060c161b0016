-- What a statement with statements in it comes to, by what the walk gave of its parts.
use Rattle.std.proofs.Common.{◌≡◌, ◌≤◌, ℕ, Option, Some, None, List, Result, Ok, Err, map, length, sym, ap, ◌∙◌}
use Rattle.std.specs.Prelude.{OnOk}
use denote.Hole.Carrier
use Rattle.c_tree.specs.declared.token.At.{At}
use Rattle.c_tree.specs.declared.syntax.Expr.{Expr}
use Rattle.c_tree.specs.declared.syntax.Start.{Start}
use Rattle.c_tree.specs.declared.syntax.Statement.{Statement}
use Rattle.c_tree.specs.declared.syntax.Statement.TheVariants as tree
use Rattle.c_tree.specs.declared.syntax.Statement.TheOpen as s
use Rattle.c_tree.specs.declared.syntax.Statement.TheViews.{roll-Statement}
use Rattle.c_tree.specs.declared.syntax.Statement.TheFolds.{fold-roll-Statement}
use Rattle.c_tree.specs.declared.typed.Stat.{Stat}
use Rattle.c_tree.specs.declared.typed.Stat.TheVariants as stat
use Rattle.c_typing.specs.declared.names.Around.{Around}
use Rattle.c_typing.specs.declared.names.Typing.{Typing}
use Rattle.c_typing.specs.Faults.{◌also◌}
use Rattle.c_typing.specs.Expressions.{Within, one, two, three, together}
use Rattle.c_typing.specs.Statements as st
use Rattle.c_statement_parts.specs.Left.{left}
use Rattle.c_statements.proofs.Scopes.{at_most, fits, block_here, switch_here, back, for_extends}
use Rattle.c_scopes.specs.declared.state.State.{State}
use Rattle.c_scopes.specs.Here.{here_of}

pub on_ok : {A E P : Type 0} → (r : Result A E) → P → OnOk r P
on_ok (Ok x) p = p
on_ok (Err e) p = tt

module _ (g : Within) where
  block_is : (at : At) (ws : List Statement) → st.walk g (tree.Block at ws) ≡ st.statement g (s.Block at (map (st.walk g) ws))
  unfolding roll-Statement denote.Hole.Carrier.roll
  block_is at ws = fold-roll-Statement st.Walk (st.statement g) (s.Block at ws)

  if_is : (at : At) (e : Expr) (a : Statement) → st.walk g (tree.If at e a None) ≡ st.statement g (s.If at e (st.walk g a) None)
  unfolding roll-Statement denote.Hole.Carrier.roll
  if_is at e a = fold-roll-Statement st.Walk (st.statement g) (s.If at e a None)

  else_is : (at : At) (e : Expr) (a b : Statement) → st.walk g (tree.If at e a (Some b)) ≡ st.statement g (s.If at e (st.walk g a) (Some (st.walk g b)))
  unfolding roll-Statement denote.Hole.Carrier.roll
  else_is at e a b = fold-roll-Statement st.Walk (st.statement g) (s.If at e a (Some b))

  while_is : (at : At) (e : Expr) (a : Statement) → st.walk g (tree.While at e a) ≡ st.statement g (s.While at e (st.walk g a))
  unfolding roll-Statement denote.Hole.Carrier.roll
  while_is at e a = fold-roll-Statement st.Walk (st.statement g) (s.While at e a)

  do_is : (at : At) (a : Statement) (e : Expr) → st.walk g (tree.DoWhile at a e) ≡ st.statement g (s.DoWhile at (st.walk g a) e)
  unfolding roll-Statement denote.Hole.Carrier.roll
  do_is at a e = fold-roll-Statement st.Walk (st.statement g) (s.DoWhile at a e)

  for_is : (at : At) (i : Start) (t u : Option Expr) (a : Statement) → st.walk g (tree.For at i t u a) ≡ st.statement g (s.For at i t u (st.walk g a))
  unfolding roll-Statement denote.Hole.Carrier.roll
  for_is at i t u a = fold-roll-Statement st.Walk (st.statement g) (s.For at i t u a)

  switch_is : (at : At) (e : Expr) (ws : List Statement) → st.walk g (tree.Switch at e ws) ≡ st.statement g (s.Switch at e (map (st.walk g) ws))
  unfolding roll-Statement denote.Hole.Carrier.roll
  switch_is at e ws = fold-roll-Statement st.Walk (st.statement g) (s.Switch at e ws)

  case_is : (at : At) (e : Expr) (a : Statement) → st.walk g (tree.Case at e a) ≡ st.statement g (s.Case at e (st.walk g a))
  unfolding roll-Statement denote.Hole.Carrier.roll
  case_is at e a = fold-roll-Statement st.Walk (st.statement g) (s.Case at e a)

  default_is : (at : At) (a : Statement) → st.walk g (tree.Default at a) ≡ st.statement g (s.Default at (st.walk g a))
  unfolding roll-Statement denote.Hole.Carrier.roll
  default_is at a = fold-roll-Statement st.Walk (st.statement g) (s.Default at a)

  module _ (c : Around) (h : st.Here) (x : Statement) where
    abbrev pub whole : st.Walked Stat
    whole = st.walk g x c h

    folded : (y : Statement) (w : st.Walk) → x ≡ y → st.walk g y ≡ w → w c h ≡ whole
    folded y w is rolled = sym (ap (λ (f : st.Walk). f c h) rolled) ∙ sym (ap (λ (z : Statement). st.walk g z c h) is)

    -- `if` without `else`, and with it
    abbrev pub if_arm : At → Expr → Statement → Typing → Around → st.Walked Stat
    if_arm at e a j p = let y = st.walk g a p h in st.walked (two (st.if_tree at) j.tree y.tree) y.here ((st.value_at g h e).faults also y.faults)

    pub if_walk : (at : At) (e : Expr) (a : Statement) (j : Typing) (p : Around) → x ≡ tree.If at e a None → j ≡ (st.value_at g h e).seen → p ≡ st.plain c → if_arm at e a j p ≡ whole
    if_walk at e a j p is value plain =
        ap (λ (k : Typing). if_arm at e a k p) value ∙ ap (if_arm at e a (st.value_at g h e).seen) plain ∙ folded (tree.If at e a None) (st.statement g (s.If at e (st.walk g a) None)) is (if_is at e a)

    abbrev pub else_arm : At → Expr → Statement → Statement → Typing → Around → Around → st.Walked Stat
    else_arm at e a b j p q =
        let y = st.walk g a p h in
        let z = st.walk g b q y.here in
        st.walked (three (st.if_else_tree at) j.tree y.tree z.tree) z.here ((st.value_at g h e).faults also y.faults also z.faults)

    pub else_walk : (at : At) (e : Expr) (a b : Statement) (j : Typing) (p q : Around) → x ≡ tree.If at e a (Some b) → j ≡ (st.value_at g h e).seen → p ≡ st.plain c → q ≡ st.plain c → else_arm at e a b j p q ≡ whole
    else_walk at e a b j p q is value plain again =
        ap (λ (k : Typing). else_arm at e a b k p q) value ∙ ap (λ (k : Around). else_arm at e a b (st.value_at g h e).seen k q) plain
        ∙ ap (else_arm at e a b (st.value_at g h e).seen (st.plain c)) again
        ∙ folded (tree.If at e a (Some b)) (st.statement g (s.If at e (st.walk g a) (Some (st.walk g b)))) is (else_is at e a b)

    abbrev pub while_arm : At → Expr → Statement → Typing → Around → st.Walked Stat
    while_arm at e a j p = let y = st.walk g a p h in st.walked (two (stat.While at) j.tree y.tree) y.here ((st.value_at g h e).faults also y.faults)

    pub while_walk : (at : At) (e : Expr) (a : Statement) (j : Typing) (p : Around) → x ≡ tree.While at e a → j ≡ (st.value_at g h e).seen → p ≡ st.looped c → while_arm at e a j p ≡ whole
    while_walk at e a j p is value loop =
        ap (λ (k : Typing). while_arm at e a k p) value ∙ ap (while_arm at e a (st.value_at g h e).seen) loop ∙ folded (tree.While at e a) (st.statement g (s.While at e (st.walk g a))) is (while_is at e a)

    abbrev pub do_arm : At → Statement → Expr → Around → st.Walked Stat
    do_arm at a e p =
        let y = st.walk g a p h in
        let j = st.value_at g y.here e in
        st.walked (two (st.do_tree at) j.seen.tree y.tree) y.here (y.faults also j.faults)

    pub do_walk : (at : At) (a : Statement) (e : Expr) (p : Around) → x ≡ tree.DoWhile at a e → p ≡ st.looped c → do_arm at a e p ≡ whole
    do_walk at a e p is loop = ap (do_arm at a e) loop ∙ folded (tree.DoWhile at a e) (st.statement g (s.DoWhile at (st.walk g a) e)) is (do_is at a e)

    abbrev pub case_arm : At → Expr → Statement → st.Walked Stat
    case_arm at e a =
        let j = st.expression_at g h e in
        let v = st.constant_of g.bits j.seen.tree in
        let y = st.walk g a c (st.with_case c h v) in
        st.walked (st.kept_if c.labels_stand (two (st.case_tree at) v y.tree)) y.here (j.faults also st.faulty_unless v j.seen.tree 18 j.seen.at also st.case_faults c h at j.seen.at v also y.faults)

    pub case_walk : (at : At) (e : Expr) (a : Statement) → x ≡ tree.Case at e a → case_arm at e a ≡ whole
    case_walk at e a is = folded (tree.Case at e a) (st.statement g (s.Case at e (st.walk g a))) is (case_is at e a)

    abbrev pub default_arm : At → Statement → st.Walked Stat
    default_arm at a =
        let y = st.walk g a c (st.with_label c h None) in
        st.walked (st.kept_if c.labels_stand (one (stat.Default at) y.tree)) y.here (st.label_faults c h at at None also y.faults)

    pub default_walk : (at : At) (a : Statement) → x ≡ tree.Default at a → default_arm at a ≡ whole
    default_walk at a is = folded (tree.Default at a) (st.statement g (s.Default at (st.walk g a))) is (default_is at a)

    abbrev pub for_arm : At → Start → Option Expr → Option Expr → Statement → Around → Around → st.Walked Stat
    for_arm at i t u a inner p =
        let b = st.begun g inner h i in
        let j = st.tested g b.here t in
        let k = st.stepped g b.here u in
        let y = st.walk g a p b.here in
        st.walked (two (st.for_tree at) (together b.tree j.0 k.0) y.tree) (st.behind h y.here) (b.faults also j.1 also k.1 also y.faults)

    pub for_whole : (at : At) (i : Start) (t u : Option Expr) (a : Statement) (inner p : Around) → x ≡ tree.For at i t u a → inner ≡ st.in_block c h → p ≡ st.looped c → for_arm at i t u a inner p ≡ whole
    for_whole at i t u a inner p is begins loop =
        ap (λ (q : Around). for_arm at i t u a q p) begins ∙ ap (for_arm at i t u a (st.in_block c h)) loop
        ∙ folded (tree.For at i t u a) (st.statement g (s.For at i t u (st.walk g a))) is (for_is at i t u a)

    pub block_walk : (at : At) (ws : List Statement) (inner : Around) (k : st.Here) → x ≡ tree.Block at ws → inner ≡ st.in_block c h
        → k ≡ left inner.start h (st.sequence g inner h (map (st.walk g) ws)).here → k ≡ whole.here
    block_walk at ws inner k is begins made =
        block_here g c inner h (map (st.walk g) ws) k begins made
        ∙ ap (λ (w : st.Walked Stat). w.here) (folded (tree.Block at ws) (st.statement g (s.Block at (map (st.walk g) ws))) is (block_is at ws))

    for_body : (i : Start) (a : Statement) (inner p : Around) (b : st.Here) (state : State) → inner ≡ st.in_block c h → p ≡ st.looped c → b ≡ (st.begun g inner h i).here
        → here_of state ≡ (st.walk g a p b).here → here_of state ≡ (st.walk g a (st.looped c) (st.begun g (st.in_block c h) h i).here).here
    for_body i a inner p b state begins loop begun walked =
        let first : b ≡ (st.begun g (st.in_block c h) h i).here = begun ∙ ap (λ (q : Around). (st.begun g q h i).here) begins in
        walked ∙ ap (λ (q : Around). (st.walk g a q b).here) loop ∙ ap (λ (k : st.Here). (st.walk g a (st.looped c) k).here) first

    pub for_fits : (i : Start) (a : Statement) (inner p : Around) (b : st.Here) (state : State) → inner ≡ st.in_block c h → p ≡ st.looped c → b ≡ (st.begun g inner h i).here
        → here_of state ≡ (st.walk g a p b).here → inner.start ≤ length state.names.entries.items
    for_fits i a inner p b state begins loop begun walked =
        fits inner.start h state (st.walk g a (st.looped c) (st.begun g (st.in_block c h) h i).here).here (for_extends g c h i a)
        (at_most inner.start (length h.names) (ap (λ (q : Around). q.start) begins)) (for_body i a inner p b state begins loop begun walked)

    pub for_walk : (at : At) (i : Start) (t u : Option Expr) (a : Statement) (inner p : Around) (b : st.Here) (state : State) → x ≡ tree.For at i t u a → inner ≡ st.in_block c h → p ≡ st.looped c
        → b ≡ (st.begun g inner h i).here → here_of state ≡ (st.walk g a p b).here → left inner.start (here_of state) (here_of state) ≡ whole.here
    for_walk at i t u a inner p b state is begins loop begun walked =
        back inner.start h (st.walk g a (st.looped c) (st.begun g (st.in_block c h) h i).here).here state (for_extends g c h i a) (ap (λ (q : Around). q.start) begins)
        (for_body i a inner p b state begins loop begun walked)
        ∙ ap (λ (w : st.Walked Stat). w.here) (folded (tree.For at i t u a) (st.statement g (s.For at i t u (st.walk g a))) is (for_is at i t u a))

    -- a switch, whose block has labels of its own
    abbrev pub switch_arm : At → Expr → List Statement → Typing → Around → st.Here → st.Walked Stat
    switch_arm at e ws j inner own =
        let a = st.sequence g inner own (map (st.walk g) ws) in
        st.walked (two (st.switch_tree at) j.tree a.tree) (st.with_labels (st.behind h a.here) h.labels) ((st.value_at g h e).faults also a.faults)

    pub switch_walk : (at : At) (e : Expr) (ws : List Statement) (j : Typing) (inner : Around) (own : st.Here) → x ≡ tree.Switch at e ws → j ≡ (st.value_at g h e).seen → inner ≡ st.in_switch c h
        → own ≡ st.without_labels h → switch_arm at e ws j inner own ≡ whole
    switch_walk at e ws j inner own is value begins bare =
        ap (λ (k : Typing). switch_arm at e ws k inner own) value ∙ ap (λ (q : Around). switch_arm at e ws (st.value_at g h e).seen q own) begins
        ∙ ap (switch_arm at e ws (st.value_at g h e).seen (st.in_switch c h)) bare
        ∙ folded (tree.Switch at e ws) (st.statement g (s.Switch at e (map (st.walk g) ws))) is (switch_is at e ws)

    pub switch_left : (at : At) (e : Expr) (ws : List Statement) (inner : Around) (own k : st.Here) (ls : List (Option ℕ)) → x ≡ tree.Switch at e ws → inner ≡ st.in_switch c h → own ≡ st.without_labels h
        → ls ≡ h.labels → k ≡ left inner.start own (st.sequence g inner own (map (st.walk g) ws)).here → st.with_labels k ls ≡ whole.here
    switch_left at e ws inner own k ls is begins bare outer made =
        switch_here g c inner h (map (st.walk g) ws) own k ls begins bare outer made
        ∙ ap (λ (w : st.Walked Stat). w.here) (folded (tree.Switch at e ws) (st.statement g (s.Switch at e (map (st.walk g) ws))) is (switch_is at e ws))
