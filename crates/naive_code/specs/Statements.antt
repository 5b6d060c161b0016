-- The code of statements.
use Rattle.std.specs.Prelude.{ℕ, suc, ◌+◌, ◌*◌, true, false, nat_lt, if◌then◌else◌, List, [], ◌∷◌, ◌++◌, length, map, replicate, slice_get, Option, Some, None}
use Rattle.rtl_word.specs.declared.Rel.TheVariants.{Eq, Ne}
use Rattle.c_tree.specs.declared.typed.Variable.TheVariants as variable
use Rattle.c_tree.specs.declared.typed.Object.{Object}
use Rattle.c_tree.specs.declared.typed.TypedExpr.{TypedExpr}
use Rattle.c_tree.specs.declared.typed.LocalInit.{LocalInit}
use Rattle.c_tree.specs.declared.typed.LocalInit.TheVariants as init
use Rattle.c_tree.specs.declared.typed.Local.{Local}
use Rattle.c_tree.specs.declared.typed.Start.{Start}
use Rattle.c_tree.specs.declared.typed.Start.TheVariants as start
use Rattle.c_tree.specs.declared.typed.Stat.{Stat}
use Rattle.c_tree.specs.declared.typed.Stat.TheOpen.{Stat-F, Block, Declare, Evaluate, If, While, DoWhile, For, Switch, Case, Default, Break, Continue, Return}
use Rattle.c_tree.specs.declared.typed.Stat.TheFolds.{fold-Stat}
use Rattle.c_limits.specs.Frames.{element_bytes}
use Rattle.c_limits.specs.Weights.{length_of}
use Rattle.naive_code.specs.Operations.{Stop, Falls, Jumps, Branches, Returns, Op, Close, constant, add, read_stack, set_result}
use Rattle.naive_code.specs.Storage.{Frame, Storage, Elements}
use Rattle.naive_code.specs.Expressions.{Value, Test, Site, put_at, put_into, naive}

-- where `break` and `continue` lead
pub record Around : Type 0 where
  pub breaks : ℕ
  pub continues : ℕ

-- The code of a statement. It takes fresh temporaries and labels; the cases of a switch take its first ones, in their order.
pub record Steps : Type 0 where
  pub temps : ℕ
  pub labels : ℕ
  pub ops : Around → (temp label : ℕ) → List Op
  pub depths : List ℕ
  -- what a switch has to know of a case: its value, None for the default, and how many labels after its first one the case's label is
  pub cases : List (Option ℕ × ℕ)

abbrev pub no_steps : Steps
no_steps = record { temps = 0; labels = 0; ops = λ a t l. []; depths = []; cases = [] }

abbrev pub shifted : ℕ → Option ℕ × ℕ → Option ℕ × ℕ
shifted n c = (c.0, c.1 + n)

abbrev pub joined : Steps → Steps → Steps
joined p q = record {
  temps = p.temps + q.temps;
  labels = p.labels + q.labels;
  ops = λ a t l. p.ops a t l ++ q.ops a (t + p.temps) (l + p.labels);
  depths = p.depths ++ q.depths;
  cases = p.cases ++ map (shifted p.labels) q.cases;
}

abbrev pub all_joined : List Steps → Steps
all_joined [] = no_steps
all_joined (p ∷ ps) = joined p (all_joined ps)

-- a value that isn't used
abbrev pub dropped : Value → Steps
dropped v = record { temps = v.temps; labels = v.labels; ops = λ a t l. v.ops t l; depths = v.depths 0; cases = [] }

-- a value, and operations on it and on fresh temporaries
abbrev pub used : Value → List ℕ → (ℕ → ℕ → List Op) → Steps
used v depths os = record {
  temps = v.temps + length depths;
  labels = v.labels;
  ops = λ a t l. v.ops t l ++ os (v.result t) (t + v.temps);
  depths = v.depths 0 ++ depths;
  cases = [];
}

-- a switch sees the labels of its own block alone
abbrev pub enclosed : Steps → Steps
enclosed p = record { temps = p.temps; labels = p.labels; ops = p.ops; depths = p.depths; cases = [] }

-- ---- declarations (C11 6.7.9)

abbrev pub storage_of_local : Site → ℕ → Storage
storage_of_local c x = c.storage (variable.Local x)

-- an element of a local array, by its number
abbrev pub put_element : ℕ → Storage → ℕ → Value → Steps
put_element w (Elements (Frame offset) of) i v = used v (1 ∷ 2 ∷ []) (λ r t.
    read_stack t ∷ constant (t + 1) (offset + i * element_bytes w of) ∷ add t (t + 1) ∷ put_at of t r)
put_element w _ i v = no_steps

abbrev pub put_elements : Site → Storage → ℕ → List TypedExpr → Steps
put_elements c s i [] = no_steps
put_elements c s i (e ∷ es) = joined (put_element c.bits s i (naive c e).value) (put_elements c s (suc i) es)

-- the elements from number `from` on, up to number `to`, become 0 by a loop that makes a turn at least
abbrev pub cleared : ℕ → Storage → (from to : ℕ) → Steps
cleared w (Elements (Frame offset) of) from to = record {
  temps = 6;
  labels = 2;
  ops = λ a t l.
      read_stack t ∷ read_stack (t + 1)
      ∷ constant (t + 2) (offset + from * element_bytes w of) ∷ add t (t + 2)
      ∷ constant (t + 3) (offset + to * element_bytes w of) ∷ add (t + 1) (t + 3)
      ∷ constant (t + 4) 0 ∷ constant (t + 5) (element_bytes w of) ∷ Close Falls l
      ∷ (put_at of t (t + 4) ++ add t (t + 5) ∷ Close (Branches Ne t (t + 1) l) (l + 1) ∷ []);
  depths = 0 ∷ 1 ∷ 2 ∷ 2 ∷ 3 ∷ 4 ∷ [];
  cases = [];
}
cleared w _ from to = no_steps

abbrev pub cleared_rest : ℕ → Storage → (listed size : ℕ) → Steps
cleared_rest w s listed size = if nat_lt listed size then cleared w s listed size else no_steps

module _ (c : Site) (locals : List Object) where
  abbrev pub init_steps : ℕ → LocalInit → Steps
  init_steps x init.Absent = no_steps
  init_steps x (init.Value e) = used (naive c e).value (1 ∷ []) (λ r t. put_into (storage_of_local c x) 0 r t)
  init_steps x (init.List es) =
      joined (put_elements c (storage_of_local c x) 0 es) (cleared_rest c.bits (storage_of_local c x) (length es) (length_of (slice_get locals x)))

  abbrev pub locals_steps : List Local → Steps
  locals_steps [] = no_steps
  locals_steps (l ∷ ls) = joined (init_steps l.number l.init) (locals_steps ls)

  abbrev pub evaluated : Option TypedExpr → Steps
  evaluated None = no_steps
  evaluated (Some e) = dropped (naive c e).value

  abbrev pub started : Start → Steps
  started start.Absent = no_steps
  started (start.Value e) = dropped (naive c e).value
  started (start.Declared at ls) = locals_steps ls

  -- a test that is absent holds
  abbrev pub test_in : Option TypedExpr → Test
  test_in None = record { temps = 0; labels = 0; ops = λ sense target next t l. Close Falls next ∷ []; depths = λ d. [] }
  test_in (Some e) = (naive c e).test

  -- ---- statements (C11 6.8)

  abbrev pub if_steps : Test → Steps → Option Steps → Steps
  if_steps e p None = record {
    temps = e.temps + p.temps;
    labels = 2 + e.labels + p.labels;
    ops = λ a t l. e.ops false l (l + 1) t (l + 2) ++ (p.ops a (t + e.temps) (l + 2 + e.labels) ++ Close Falls l ∷ []);
    depths = e.depths 0 ++ p.depths;
    cases = [];
  }
  if_steps e p (Some q) = record {
    temps = e.temps + p.temps + q.temps;
    labels = 3 + e.labels + p.labels + q.labels;
    ops = λ a t l.
        e.ops false l (l + 1) t (l + 3) ++ (p.ops a (t + e.temps) (l + 3 + e.labels) ++ Close (Jumps (l + 2)) l
        ∷ (q.ops a (t + e.temps + p.temps) (l + 3 + e.labels + p.labels) ++ Close Falls (l + 2) ∷ []));
    depths = e.depths 0 ++ (p.depths ++ q.depths);
    cases = [];
  }

  -- label l is behind the loop, l + 1 where it begins
  abbrev pub while_steps : Test → Steps → Steps
  while_steps e p = record {
    temps = e.temps + p.temps;
    labels = 3 + e.labels + p.labels;
    ops = λ a t l.
        Close Falls (l + 1) ∷ (e.ops false l (l + 2) t (l + 3)
        ++ (p.ops (record { breaks = l; continues = l + 1 }) (t + e.temps) (l + 3 + e.labels) ++ Close (Jumps (l + 1)) l ∷ []));
    depths = e.depths 0 ++ p.depths;
    cases = [];
  }

  abbrev pub do_steps : Steps → Test → Steps
  do_steps p e = record {
    temps = p.temps + e.temps;
    labels = 3 + p.labels + e.labels;
    ops = λ a t l.
        Close Falls (l + 1) ∷ (p.ops (record { breaks = l; continues = l + 2 }) t (l + 3) ++ Close Falls (l + 2)
        ∷ e.ops true (l + 1) l (t + p.temps) (l + 3 + p.labels));
    depths = p.depths ++ e.depths 0;
    cases = [];
  }

  abbrev pub for_steps : Steps → Test → Steps → Steps → Steps
  for_steps first e step p = record {
    temps = first.temps + e.temps + p.temps + step.temps;
    labels = 4 + first.labels + e.labels + p.labels + step.labels;
    ops = λ a t l.
        let t1 = t + first.temps in let t2 = t1 + e.temps in let t3 = t2 + p.temps in
        let l1 = l + 4 + first.labels in let l2 = l1 + e.labels in let l3 = l2 + p.labels in
        first.ops a t (l + 4) ++ Close Falls (l + 1) ∷ (e.ops false l (l + 2) t1 l1
        ++ (p.ops (record { breaks = l; continues = l + 3 }) t2 l2 ++ Close Falls (l + 3)
        ∷ (step.ops a t3 l3 ++ Close (Jumps (l + 1)) l ∷ [])));
    depths = first.depths ++ (e.depths 0 ++ (p.depths ++ step.depths));
    cases = [];
  }

  -- ---- switch (C11 6.8.4.2)

  -- the cases that have a value
  abbrev pub valued : List (Option ℕ × ℕ) → ℕ
  valued [] = 0
  valued ((Some v, k) ∷ rest) = suc (valued rest)
  valued ((None, k) ∷ rest) = valued rest

  -- a value is compared with that of each case in turn; each comparison has a temporary, and a label for what follows it
  abbrev pub dispatched : (value base temp label : ℕ) → List (Option ℕ × ℕ) → List Op
  dispatched r base t l [] = []
  dispatched r base t l ((Some v, k) ∷ rest) = constant t v ∷ Close (Branches Eq r t (base + k)) l ∷ dispatched r base (t + 1) (l + 1) rest
  dispatched r base t l ((None, k) ∷ rest) = dispatched r base t l rest

  -- where no case has the value: the default's label, or behind the switch
  abbrev pub otherwise : (base behind : ℕ) → List (Option ℕ × ℕ) → ℕ
  otherwise base behind [] = behind
  otherwise base behind ((Some v, k) ∷ rest) = otherwise base behind rest
  otherwise base behind ((None, k) ∷ rest) = base + k

  abbrev pub switch_steps : Value → Steps → Steps
  switch_steps e p =
      let n = valued p.cases in record {
        temps = e.temps + n + p.temps;
        labels = 2 + n + e.labels + p.labels;
        ops = λ a t l.
            let base = l + 2 + n + e.labels in
            e.ops t (l + 2 + n) ++ (dispatched (e.result t) base (t + e.temps) (l + 2) p.cases ++ Close (Jumps (otherwise base l p.cases)) (l + 1)
            ∷ (p.ops (record { breaks = l; continues = a.continues }) (t + e.temps + n) base ++ Close Falls l ∷ []));
        depths = e.depths 0 ++ (replicate n 1 ++ p.depths);
        cases = [];
      }

  -- a labelled statement begins a block
  abbrev pub labelled : Option ℕ → Steps → Steps
  labelled v p = record {
    temps = p.temps;
    labels = 1 + p.labels;
    ops = λ a t l. Close Falls l ∷ p.ops a t (l + 1);
    depths = p.depths;
    cases = (v, 0) ∷ map (shifted 1) p.cases;
  }

  -- what ends the open block, and leaves a block behind it
  abbrev pub leaving : (Around → Stop) → Steps
  leaving stop = record { temps = 0; labels = 1; ops = λ a t l. Close (stop a) l ∷ []; depths = []; cases = [] }

  abbrev pub return_steps : Option TypedExpr → Steps
  return_steps None = leaving (λ a. Returns)
  return_steps (Some e) = joined (used (naive c e).value [] (λ r t. set_result r ∷ [])) (leaving (λ a. Returns))

  abbrev pub node_steps : Stat-F Steps → Steps
  node_steps (Block at ss) = enclosed (all_joined ss)
  node_steps (Declare at ls) = locals_steps ls
  node_steps (Evaluate at e) = evaluated e
  node_steps (If at e p q) = if_steps (naive c e).test p q
  node_steps (While at e p) = while_steps (naive c e).test p
  node_steps (DoWhile at p e) = do_steps p (naive c e).test
  node_steps (For at first test step p) = for_steps (started first) (test_in test) (evaluated step) p
  node_steps (Switch at e ss) = switch_steps (naive c e).value (all_joined ss)
  node_steps (Case at v p) = labelled (Some v) p
  node_steps (Default at p) = labelled None p
  node_steps (Break at) = leaving (λ a. Jumps a.breaks)
  node_steps (Continue at) = leaving (λ a. Jumps a.continues)
  node_steps (Return at e) = return_steps e

  -- the code of a statement
  abbrev pub steps_of : Stat → Steps
  steps_of = fold-Stat Steps node_steps
