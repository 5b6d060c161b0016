-- Steps of which some are done.
use Rattle.std.proofs.Common.{◌≡◌, ℕ, suc, ◌+◌, ◌<◌, ◌≤◌, ◌^◌, max, List, ◌++◌, length, drop, get_or, sym, ap, subst, ◌∙◌, append-nil, append_assoc, arith}
use Rattle.std.proofs.Math.ListN.{drop_of_length-le}
use Rattle.c_tree.specs.declared.typed.Object.{Object}
use Rattle.c_tree.specs.declared.typed.TypedExpr.{TypedExpr}
use Rattle.c_tree.specs.declared.typed.Local.{Local}
use Rattle.c_tree.specs.declared.typed.Stat.{Stat}
use Rattle.c_limits.specs.Depths.{depth_of, greatest_in, in_block, in_init, in_list, in_locals}
use Rattle.naive_code.specs.Storage.{Storage}
use Rattle.naive_code.specs.Expressions.{Site, naive}
use Rattle.naive_code.specs.Statements.{Steps, Around, no_steps, joined, put_element, put_elements, init_steps, locals_steps, steps_of}
use Rattle.naive_expr.specs.declared.emission.Emitter.{Emitter}
use Rattle.naive_expr.specs.Emitted.{emitted}
use Rattle.naive_expr.proofs.Gathering.{next_item}
use Rattle.naive_stat.specs.Runs.{Runs, block_steps}

-- what was appended and what the rest adds is the whole
pub record Rests (old now : Emitter) (whole rest : Steps) (a : Around) : Type 0 where
  pub ops : emitted now ++ rest.ops a now.next_temp now.next_label ≡ emitted old ++ whole.ops a old.next_temp old.next_label
  pub depths : now.depths ++ rest.depths ≡ old.depths ++ whole.depths
  pub temp : now.next_temp + rest.temps ≡ old.next_temp + whole.temps
  pub label : now.next_label + rest.labels ≡ old.next_label + whole.labels

next_rests : (old now new : Emitter) (whole p rest : Steps) (a : Around) → Rests old now whole (joined p rest) a → Runs now new p a → Rests old new whole rest a
next_rests old now new whole p rest a h r =
    let sum : now.next_temp + (p.temps + rest.temps) ≡ old.next_temp + whole.temps = h.temp in
    let labels : now.next_label + (p.labels + rest.labels) ≡ old.next_label + whole.labels = h.label in
    let t = now.next_temp in
    let l = now.next_label in
    record {
      ops = ap (λ os. os ++ rest.ops a new.next_temp new.next_label) r.ops
          ∙ (append_assoc (emitted now) (p.ops a t l) (rest.ops a new.next_temp new.next_label)
          ∙ (ap (λ k. emitted now ++ (p.ops a t l ++ rest.ops a k new.next_label)) r.temp
          ∙ (ap (λ k. emitted now ++ (p.ops a t l ++ rest.ops a (t + p.temps) k)) r.label ∙ h.ops)));
      depths = ap (λ ds. ds ++ rest.depths) r.depths ∙ (append_assoc now.depths p.depths rest.depths ∙ h.depths);
      temp = omega (arith, r.temp, sum);
      label = omega (arith, r.label, labels);
    }

-- where nothing is left, all was appended
all_done : (old new : Emitter) (whole rest : Steps) (a : Around) → rest ≡ no_steps → Rests old new whole rest a → Runs old new whole a
all_done old new whole rest a none h =
    let g : Rests old new whole no_steps a = subst (λ q. Rests old new whole q a) none h in
    let sum : new.next_temp + 0 ≡ old.next_temp + whole.temps = g.temp in
    let labels : new.next_label + 0 ≡ old.next_label + whole.labels = g.label in
    record {
      ops = sym (append-nil (emitted new)) ∙ g.ops;
      depths = sym (append-nil new.depths) ∙ g.depths;
      temp = omega (arith, sum);
      label = omega (arith, labels);
    }

-- the deepest of what is left
deepest_left : (m x y : ℕ) → m ≡ max x y → 8 + m < 2 ^ 16 → 8 + y < 2 ^ 16
deepest_left m x y is lt = omega (arith, is, lt)

pub elements_left : (es : List TypedExpr) (n : ℕ) (e : TypedExpr) → n < length es → e ≡ get_or es n e → 8 + in_list depth_of (drop n es) < 2 ^ 16
    → 8 + in_list depth_of (drop (n + 1) es) < 2 ^ 16
elements_left es n e lt is = deepest_left _ (depth_of e) _ (ap (in_list depth_of) (next_item es n e lt is))

pub locals_left : (ls : List Local) (n : ℕ) (l : Local) → n < length ls → l ≡ get_or ls n l → 8 + in_locals depth_of (drop n ls) < 2 ^ 16 → 8 + in_locals depth_of (drop (n + 1) ls) < 2 ^ 16
locals_left ls n l lt is = deepest_left _ (in_init depth_of l.init) _ (ap (in_locals depth_of) (next_item ls n l lt is))

pub block_left : (ss : List Stat) (n : ℕ) (s : Stat) → n < length ss → s ≡ get_or ss n s → 8 + in_block depth_of (drop n ss) < 2 ^ 16 → 8 + in_block depth_of (drop (n + 1) ss) < 2 ^ 16
block_left ss n s lt is = deepest_left _ (greatest_in depth_of s) _ (ap (in_block depth_of) (next_item ss n s lt is))

module _ (c : Site) where
  -- ---- the elements of a list

  pub elements_next : (s : Storage) (es : List TypedExpr) (n i j : ℕ) (e : TypedExpr) (old now new : Emitter) (whole : Steps) (a : Around) → n < length es → e ≡ get_or es n e → j ≡ i + 1
      → Rests old now whole (put_elements c s i (drop n es)) a → Runs now new (put_element c.bits s i (naive c e).value) a → Rests old new whole (put_elements c s j (drop (n + 1) es)) a
  elements_next s es n i j e old now new whole a lt is behind h r =
      let p = put_element c.bits s i (naive c e).value in
      let next : suc i ≡ j = omega (arith, behind) in
      let same : put_elements c s i (drop n es) ≡ joined p (put_elements c s j (drop (n + 1) es)) =
      ap (put_elements c s i) (next_item es n e lt is) ∙ ap (λ k. joined p (put_elements c s k (drop (n + 1) es))) next in
      next_rests old now new whole p (put_elements c s j (drop (n + 1) es)) a (subst (λ q. Rests old now whole q a) same h) r

  pub elements_done : (s : Storage) (es : List TypedExpr) (n i : ℕ) (old now : Emitter) (whole : Steps) (a : Around) → length es ≤ n → Rests old now whole (put_elements c s i (drop n es)) a
      → Runs old now whole a
  elements_done s es n i old now whole a le = all_done old now whole _ a (ap (put_elements c s i) (drop_of_length-le es le))

  module _ (locals : List Object) where
    -- ---- declarations

    pub locals_next : (ls : List Local) (n : ℕ) (l : Local) (old now new : Emitter) (whole : Steps) (a : Around) → n < length ls → l ≡ get_or ls n l
        → Rests old now whole (locals_steps c locals (drop n ls)) a → Runs now new (init_steps c locals l.number l.init) a → Rests old new whole (locals_steps c locals (drop (n + 1) ls)) a
    locals_next ls n l old now new whole a lt is h r =
        next_rests old now new whole (init_steps c locals l.number l.init) (locals_steps c locals (drop (n + 1) ls)) a
        (subst (λ q. Rests old now whole q a) (ap (locals_steps c locals) (next_item ls n l lt is)) h) r

    pub locals_done : (ls : List Local) (n : ℕ) (old now : Emitter) (whole : Steps) (a : Around) → length ls ≤ n → Rests old now whole (locals_steps c locals (drop n ls)) a → Runs old now whole a
    locals_done ls n old now whole a le = all_done old now whole _ a (ap (locals_steps c locals) (drop_of_length-le ls le))

    -- ---- the statements of a block

    pub block_next : (ss : List Stat) (n : ℕ) (s : Stat) (old now new : Emitter) (whole : Steps) (a : Around) → n < length ss → s ≡ get_or ss n s
        → Rests old now whole (block_steps c locals (drop n ss)) a → Runs now new (steps_of c locals s) a → Rests old new whole (block_steps c locals (drop (n + 1) ss)) a
    block_next ss n s old now new whole a lt is h r =
        next_rests old now new whole (steps_of c locals s) (block_steps c locals (drop (n + 1) ss)) a
        (subst (λ q. Rests old now whole q a) (ap (block_steps c locals) (next_item ss n s lt is)) h) r
