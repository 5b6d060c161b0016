-- How statements are left (C11 6.8.6): by their end, by a break or `continue` that is in them, or by a return, in `main` with a value.
use Rattle.std.proofs.Common.{◌≡◌, ℕ, zero, suc, List, [], ◌∷◌, map, Option, Some, None, Bool, true, false, if◌then◌else◌, refl, arith}
use Rattle.std.specs.Prelude.{◌||◌}
use Rattle.c_tree.specs.declared.typed.Local.{Local}
use Rattle.c_tree.specs.declared.typed.Function.{Function}
use Rattle.c_meaning.specs.Parts.{State, Part, Gives, Cut, Fails, after, then_do, Value as Result, word, absent}
use Rattle.c_meaning.specs.Expressions.{World, at_zero}
use Rattle.c_meaning.specs.Run.{is_main}
use Rattle.c_meaning.specs.Statements.{Flow, next, breaks, continues, returns, Does as SourceDoes, Execution, nothing, cut, go_on, sequence, initialise, declare, turned, turns, do_turns, among, from_label, or_default, left}
use Rattle.naive_run.specs.Sound.{Left, all_left}

-- where a part comes to its end, it is left so
abbrev pub Leaves : (Flow → Type 0) → Part Flow → Type 0
Leaves P (Gives out fl s) = P fl
Leaves P (Cut out) = Unit {0}
Leaves P (Fails out why) = Unit {0}

-- by its end alone
abbrev pub Is_next : Flow → Type 0
Is_next next = Unit {0}
Is_next breaks = ⊥
Is_next continues = ⊥
Is_next (returns v) = ⊥

-- `main` returns with a value
abbrev pub Valued : Function → Result → Type 0
Valued f (word v) = Unit {0}
Valued f (absent at) = is_main f ≡ false

-- by a break or `continue` only where one is in it
abbrev pub May : Function → (broken continued : Bool) → Flow → Type 0
May f broken continued next = Unit {0}
May f broken continued breaks = broken ≡ true
May f broken continued continues = continued ≡ true
May f broken continued (returns v) = Valued f v

leaves_after : (P : Flow → Type 0) (out : List ℕ) (x : Part Flow) → Leaves P x → Leaves P (after out x)
leaves_after P out (Gives more fl s) h = h
leaves_after P out (Cut more) h = tt
leaves_after P out (Fails more why) h = tt

-- a part is left as what follows in it is
pub leaves_then : (P : Flow → Type 0) {A : Type 0} (x : Part A) (go : A → State → Part Flow) → ((v : A) (s : State) → Leaves P (go v s)) → Leaves P (then_do x go)
leaves_then P (Gives out v s) go each = leaves_after P out (go v s) (each v s)
leaves_then P (Cut out) go each = tt
leaves_then P (Fails out why) go each = tt

-- by how the first of two is left
leaves_by : (P Q : Flow → Type 0) (x : Part Flow) (go : Flow → State → Part Flow) → Leaves Q x → ((fl : Flow) (s : State) → Q fl → Leaves P (go fl s)) → Leaves P (then_do x go)
leaves_by P Q (Gives out fl s) go h each = leaves_after P out (go fl s) (each fl s h)
leaves_by P Q (Cut out) go h each = tt
leaves_by P Q (Fails out why) go h each = tt

pub leaves_as : (P Q : Flow → Type 0) (x : Part Flow) → ((fl : Flow) → Q fl → P fl) → Leaves Q x → Leaves P x
leaves_as P Q (Gives out fl s) each h = each fl h
leaves_as P Q (Cut out) each h = tt
leaves_as P Q (Fails out why) each h = tt

pub leaves_at_zero : (P : Flow → Type 0) (v : ℕ) (x y : SourceDoes) (s : State) → Leaves P (x s) → Leaves P (y s) → Leaves P (at_zero v x y s)
leaves_at_zero P zero x y s h g = h
leaves_at_zero P (suc v) x y s h g = g

or_first : (a b : Bool) → a ≡ true → (a || b) ≡ true
or_first true b e = refl
or_first false b e = absurd (grind (arith, e))

or_second : (a b : Bool) → b ≡ true → (a || b) ≡ true
or_second true b e = refl
or_second false b e = e

-- ---- declarations

pub declare_next : (c : World) (ls : List Local) (s : State) → Leaves Is_next (declare c ls s)
declare_next c [] s = tt
declare_next c (l ∷ ls) s = leaves_then Is_next (initialise c l.number l.init s) (λ f. declare c ls) (λ v s1. declare_next c ls s1)

module _ (f : Function) where
  pub next_may : (fl : Flow) → Is_next fl → May f false false fl
  next_may next h = tt
  next_may breaks h = absurd h
  next_may continues h = absurd h
  next_may (returns v) h = absurd h

  -- ---- breaks and `continue` in one of two

  pub may_first : (a b x y : Bool) (fl : Flow) → May f a x fl → May f (a || b) (x || y) fl
  may_first a b x y next h = tt
  may_first a b x y breaks h = or_first a b h
  may_first a b x y continues h = or_first x y h
  may_first a b x y (returns v) h = h

  pub may_second : (a b x y : Bool) (fl : Flow) → May f b y fl → May f (a || b) (x || y) fl
  may_second a b x y next h = tt
  may_second a b x y breaks h = or_second a b h
  may_second a b x y continues h = or_second x y h
  may_second a b x y (returns v) h = h

  -- one statement and then others
  leaves_joined : (a b x y : Bool) (e : Part Flow) (es : SourceDoes) → Leaves (May f a x) e → ((s : State) → Leaves (May f b y) (es s)) → Leaves (May f (a || b) (x || y)) (then_do e (λ fl. go_on fl es))
  leaves_joined a b x y e es h g = leaves_by (May f (a || b) (x || y)) (May f a x) e (λ fl. go_on fl es) h each
    where
      each : (fl : Flow) (s : State) → May f a x fl → Leaves (May f (a || b) (x || y)) (go_on fl es s)
      each next s z = leaves_as (May f (a || b) (x || y)) (May f b y) (es s) (may_second a b x y) (g s)
      each breaks s z = or_first a b z
      each continues s z = or_first x y z
      each (returns v) s z = z

  -- ---- loops, whose body is left so

  module _ (a x : Bool) (body : SourceDoes) (leaves_body : (s : State) → Leaves (May f a x) (body s)) where
    abbrev P : Flow → Type 0
    P = May f false false

    abbrev B : Flow → Type 0
    B = May f a x

    leaves_turn : (fl : Flow) (d : SourceDoes) (s : State) → B fl → Leaves P (d s) → Leaves P (turned fl d s)
    leaves_turn next d s z h = h
    leaves_turn continues d s z h = h
    leaves_turn breaks d s z h = tt
    leaves_turn (returns v) d s z h = z

    module _ (test : State → Part ℕ) (step : SourceDoes) where
      abbrev ends_turn : ℕ → SourceDoes
      ends_turn most s = then_do (step s) (λ _. turns most test body step)

      abbrev turn : ℕ → SourceDoes
      turn most s = then_do (body s) (λ fl. turned fl (ends_turn most))

      leaves_one : (most : ℕ) (s : State) → ((s : State) → Leaves P (turns most test body step s)) → Leaves P (turn most s)
      leaves_one most s ih =
          leaves_by P B (body s) (λ fl. turned fl (ends_turn most)) (leaves_body s)
          (λ fl s1 z. leaves_turn fl (ends_turn most) s1 z (leaves_then P (step s1) (λ _. turns most test body step) (λ _ s2. ih s2)))

      pub leaves_turns : (most : ℕ) (s : State) → Leaves P (turns most test body step s)
      leaves_turns zero s = leaves_then P (test s) (λ v. at_zero v nothing cut) (λ v s1. leaves_at_zero P v nothing cut s1 tt tt)
      leaves_turns (suc most) s = leaves_then P (test s) (λ v. at_zero v nothing (turn most)) (λ v s1. leaves_at_zero P v nothing (turn most) s1 tt (leaves_one most s1 (λ s. leaves_turns most s)))

    module _ (test : State → Part ℕ) where
      abbrev tests_turn : ℕ → SourceDoes
      tests_turn most s = then_do (test s) (λ v. at_zero v nothing (do_turns most test body))

      pub leaves_do_turns : (most : ℕ) (s : State) → Leaves P (do_turns most test body s)
      leaves_do_turns zero s = tt
      leaves_do_turns (suc most) s =
          leaves_by P B (body s) (λ fl. turned fl (tests_turn most)) (leaves_body s)
          (λ fl s1 z. leaves_turn fl (tests_turn most) s1 z
          (leaves_then P (test s1) (λ v. at_zero v nothing (do_turns most test body)) (λ v s2. leaves_at_zero P v nothing (do_turns most test body) s2 tt (leaves_do_turns most s2))))

  -- ---- lists

  abbrev pub May_of : Left → Flow → Type 0
  May_of l = May f l.breaks l.continues

  abbrev Leaves_from : (Flow → Type 0) → Option (List Execution) → Type 0
  Leaves_from P None = Unit {0}
  Leaves_from P (Some es) = (s : State) → Leaves P (sequence es s)

  leaves_default : (P : Flow → Type 0) (o d : Option (List Execution)) (s : State) → P next → Leaves_from P o → Leaves_from P d → Leaves P (or_default o d s)
  leaves_default P None None s end h g = end
  leaves_default P None (Some es) s end h g = g s
  leaves_default P (Some es) d s end h g = h s

  -- a break leaves a switch
  leaves_switch : (a x : Bool) (e : Part Flow) → Leaves (May f a x) e → Leaves (May f false x) (then_do e left)
  leaves_switch a x e h = leaves_by (May f false x) (May f a x) e left h each
    where
      each : (fl : Flow) (s : State) → May f a x fl → Leaves (May f false x) (left fl s)
      each next s z = tt
      each breaks s z = tt
      each continues s z = z
      each (returns v) s z = z

  module _ (X : Type 0) (ex : X → Execution) (lf : X → Left) where
    abbrev all_of : List X → Left
    all_of xs = all_left (map lf xs)

    abbrev pub All_leave : List X → Type 0
    All_leave [] = Unit {0}
    All_leave (x ∷ xs) = ((s : State) → Leaves (May_of (lf x)) ((ex x).does s)) × All_leave xs

    pub sequence_leaves : (xs : List X) → All_leave xs → (s : State) → Leaves (May_of (all_of xs)) (sequence (map ex xs) s)
    sequence_leaves [] all s = tt
    sequence_leaves (x ∷ xs) all s =
        leaves_joined (lf x).breaks (all_of xs).breaks (lf x).continues (all_of xs).continues ((ex x).does s) (sequence (map ex xs)) (all.0 s) (λ s1. sequence_leaves xs all.1 s1)

    later_leaves : (x : X) (xs : List X) (o : Option (List Execution)) → Leaves_from (May_of (all_of xs)) o → Leaves_from (May_of (all_of (x ∷ xs))) o
    later_leaves x xs None h = tt
    later_leaves x xs (Some es) h =
        λ s. leaves_as (May_of (all_of (x ∷ xs))) (May_of (all_of xs)) (sequence es s) (may_second (lf x).breaks (all_of xs).breaks (lf x).continues (all_of xs).continues) (h s)

    from_leaves : (l : Option ℕ) (xs : List X) → All_leave xs → Leaves_from (May_of (all_of xs)) (from_label l (map ex xs))
    from_leaves l [] all = tt
    from_leaves l (x ∷ xs) all = by_label (among l (ex x).labels) (from_leaves l xs all.1) (sequence_leaves (x ∷ xs) all)
      where
        by_label : (b : Bool) → Leaves_from (May_of (all_of xs)) (from_label l (map ex xs)) → ((s : State) → Leaves (May_of (all_of (x ∷ xs))) (sequence (map ex (x ∷ xs)) s))
            → Leaves_from (May_of (all_of (x ∷ xs))) (if b then Some (ex x ∷ map ex xs) else from_label l (map ex xs))
        by_label true h g = g
        by_label false h g = later_leaves x xs (from_label l (map ex xs)) h

    pub switch_leaves : (l : Option ℕ) (xs : List X) → All_leave xs → (s : State) → Leaves (May f false (all_of xs).continues) (then_do (or_default (from_label l (map ex xs)) (from_label None (map ex xs)) s) left)
    switch_leaves l xs all s =
        leaves_switch (all_of xs).breaks (all_of xs).continues (or_default (from_label l (map ex xs)) (from_label None (map ex xs)) s)
        (leaves_default (May_of (all_of xs)) (from_label l (map ex xs)) (from_label None (map ex xs)) s tt (from_leaves l xs all) (from_leaves None xs all))
