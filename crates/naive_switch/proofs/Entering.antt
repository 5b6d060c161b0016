-- Statements that are entered at a label (C11 6.8.1, 6.8.4.2).
use Rattle.std.proofs.Common.{◌≡◌, ℕ, ◌+◌, ◌≤◌, List, [], ◌∷◌, map, Option, Some, None, Bool, true, false, if◌then◌else◌, refl, sym, ap, ◌∙◌, subst, arith}
use Rattle.behaviour.specs.Steps.{Comes}
use Rattle.md_shapes.specs.Shapes.{Frame as Fixed}
use Rattle.c_tree.specs.declared.typed.Object.{Object as Thing}
use Rattle.c_tree.specs.declared.typed.Function.{Function}
use Rattle.c_tree.specs.declared.typed.Typed.{Typed}
use Rattle.c_meaning.specs.Parts.{State, then_do}
use Rattle.c_meaning.specs.Statements.{Flow, next, breaks, continues, returns, Does as SourceDoes, Execution, go_on, sequence, is_label, among, from_label}
use Rattle.temp_machine.specs.Routines.{Image, Target}
use Rattle.temp_machine.specs.Live.{Place}
use Rattle.temp_machine.specs.Small.{Point}
use Rattle.naive_code.specs.Operations.{Op, Falls}
use Rattle.naive_code.specs.Storage.{scalar_count}
use Rattle.naive_code.specs.Expressions.{Site}
use Rattle.naive_code.specs.Statements.{Around, Steps, shifted, joined, all_joined, labelled}
use Rattle.naive_step.proofs.Doing.{M, Does, does_then, does_on, does_quietly, there}
use Rattle.naive_step.proofs.Making.{Call, Inside, At}
use Rattle.naive_step.proofs.Ends.{begin_of}
use Rattle.naive_assigned.proofs.Ready.{Ready}
use Rattle.naive_assigned.proofs.Working.{rep_works}
use Rattle.naive_values.proofs.Getting.{Ops, stands_split}
use Rattle.naive_values.proofs.Asked.{Stands_for, block_at}
use Rattle.naive_tests.proofs.Tests.{closes_at, works_opens}
use Rattle.naive_tests.proofs.Choosing.{falls_to}
use Rattle.naive_statements.proofs.Asked.{After, after_since, with_way, StepsDo}
use Rattle.naive_statements.proofs.Blocks.{All_steps, sequence_does}
use Rattle.naive_switch.proofs.Labels.{found_case, is_found, first_of, further, found_append, found_shifted, among_found, labels_shifted}

abbrev value_in : Option ℕ → ℕ
value_in None = 0
value_in (Some k) = k

not_found : {A : Type 0} (j : ℕ) → None ≡ Some j → A
not_found j e = absurd (grind (arith, e))

module _ (t : Target) (u : Image) (m : Fixed) (source : Typed) (f : Function) (k : Call) (ready : Ready t u m source f k) (n : ℕ) where
  abbrev Code : List Op → Place → Place → Type 0
  Code = Ops t u m source f k ready

  abbrev Steps_do : SourceDoes → Steps → Type 0
  Steps_do = StepsDo t u m source f k ready n

  abbrev label_at : ℕ → Place
  label_at l = begin_of (block_at t u m source f k ready l)

  -- what is asked where a statement is begun behind one of its labels, which is so many behind its first one
  abbrev pub EntersAt : SourceDoes → Steps → ℕ → Type 0
  EntersAt e p j =
      (a : Around) (first label : ℕ) (b q : Place) (c : Point) (s : State) → scalar_count f ≤ first → Code (p.ops a first label) b q → Inside t u k c → At t u (label_at (label + j)) c
      → Stands_for t u m source f k ready s c → Does t u n c (After t u m source f k ready a q c) (e s)

  -- a statement, from its begin and from each of its labels
  pub record Executes (e : Execution) (p : Steps) : Type 0 where
    pub labels : map (λ c. c.0) p.cases ≡ e.labels
    pub does : Steps_do e.does p
    pub enters : (l : Option ℕ) (j : ℕ) → found_case l p.cases ≡ Some j → EntersAt e.does p j

  -- without labels
  pub unlabelled : (e : Execution) (p : Steps) → [] ≡ e.labels → p.cases ≡ [] → Steps_do e.does p → Executes e p
  unlabelled e p none no_cases does = record {
    labels = ap (map (λ c. c.0)) no_cases ∙ none;
    does = does;
    enters = λ l j is. not_found j (sym (ap (found_case l) no_cases) ∙ is);
  }

  -- ---- a labelled statement

  module _ (site : Site) (locals : List Thing) (x : Option ℕ) (e : Execution) (p : Steps) (h : Executes e p) where
    abbrev whole : Steps
    whole = labelled site locals x p

    labelled_does : Steps_do e.does whole
    labelled_does a first label b q c s fresh (r, one, rest) i at rep =
        let o = falls_to t u m source f k ready n label b r r c i at one refl in
        does_quietly t u n c o.point (After t u m source f k ready a q c) (e.does s) o.comes o.fact.printed
        (does_on t u n o.point (After t u m source f k ready a q o.point) (After t u m source f k ready a q c) (e.does s)
        (h.does a first (label + 1) r q o.point s fresh rest o.inside o.at
        (rep_works t u m source f k ready first first c o.point fresh fresh (works_opens t u m source f k ready n first first c o.point o.fact) s rep))
        (λ fl s1 d g. after_since t u m source f k ready a q c o.point fl s1 d (record { comes = o.comes; above = λ y from. o.fact.bytes y }) g))

    -- at its own label, and at one behind it
    at_first : EntersAt e.does whole 0
    at_first a first label b q c s fresh (r, one, rest) i at rep =
        let same : label + 0 ≡ label = omega arith in
        h.does a first (label + 1) r q c s fresh rest i (subst (λ z. At t u z c) (ap label_at same ∙ sym (closes_at t u m source f k ready n Falls label b r one)) at) rep

    at_later : (j : ℕ) → EntersAt e.does p j → EntersAt e.does whole (j + 1)
    at_later j enters a first label b q c s fresh (r, one, rest) i at rep =
        let later : label + (j + 1) ≡ label + 1 + j = omega arith in
        enters a first (label + 1) r q c s fresh rest i (subst (λ z. At t u (label_at z) c) later at) rep

    labelled_enters : (l : Option ℕ) (j : ℕ) → found_case l whole.cases ≡ Some j → EntersAt e.does whole j
    labelled_enters l j = by_label (is_label l x)
      where
        by_case : (o : Option ℕ) → found_case l p.cases ≡ o → further 1 o ≡ Some j → EntersAt e.does whole j
        by_case None found is = not_found j is
        by_case (Some i) found is = subst (λ z. EntersAt e.does whole z) (ap value_in is) (at_later i (h.enters l i found))

        by_label : (b : Bool) → (if b then Some 0 else found_case l (map (shifted 1) p.cases)) ≡ Some j → EntersAt e.does whole j
        by_label true is = subst (λ z. EntersAt e.does whole z) (ap value_in is) at_first
        by_label false is = by_case (found_case l p.cases) refl (sym (found_shifted l 1 p.cases) ∙ is)

    pub labelled_executes : Executes (record { does = e.does; labels = x ∷ e.labels; declares = [] }) whole
    labelled_executes = record {
      labels = ap (λ ls. x ∷ ls) (labels_shifted 1 p.cases ∙ h.labels);
      does = labelled_does;
      enters = labelled_enters;
    }

  -- ---- lists

  -- what follows a statement
  then_rest : (e es : SourceDoes) (ps : Steps) → Steps_do es ps → (a : Around) (first label : ℕ) (r q : Place) (c : Point) (s : State) → scalar_count f ≤ first → Code (ps.ops a first label) r q
      → Does t u n c (After t u m source f k ready a r c) (e s) → Does t u n c (After t u m source f k ready a q c) (then_do (e s) (λ fl. go_on fl es))
  then_rest e es ps does_rest a first label r q c s fresh ops h =
      does_then t u n c (λ fl s1 d. After t u m source f k ready a r c fl s1 d × Comes (M t u) c d) (After t u m source f k ready a q c) (e s) (λ fl. go_on fl es)
      (with_way t u m source f k ready n c (After t u m source f k ready a r c) (e s) h)
      (λ fl s1 d g. each fl s1 d g.0 g.1)
    where
      each : (fl : Flow) (s1 : State) (d : Point) → After t u m source f k ready a r c fl s1 d → Comes (M t u) c d → Does t u n d (After t u m source f k ready a q c) (go_on fl es s1)
      each next s1 d g way =
          does_on t u n d (After t u m source f k ready a q d) (After t u m source f k ready a q c) (es s1) (does_rest a first label r q d s1 fresh ops g.inside g.at g.rep)
          (λ fl s2 x z. after_since t u m source f k ready a q c d fl s2 x (record { comes = way; above = g.above }) z)
      each breaks s1 d g way = there t u n d (After t u m source f k ready a q c) breaks s1 g
      each continues s1 d g way = there t u n d (After t u m source f k ready a q c) continues s1 g
      each (returns v) s1 d g way = there t u n d (After t u m source f k ready a q c) (returns v) s1 g

  -- the statements from a label on, where the cases have it
  abbrev pub Enters_from : Option ℕ → Option (List Execution) → Steps → Type 0
  Enters_from None None p = Unit {0}
  Enters_from None (Some es) p = ⊥
  Enters_from (Some j) None p = ⊥
  Enters_from (Some j) (Some es) p = EntersAt (sequence es) p j

  module _ (X : Type 0) (ex : X → Execution) (st : X → Steps) where
    abbrev pub All_execute : List X → Type 0
    All_execute [] = Unit {0}
    All_execute (x ∷ xs) = Executes (ex x) (st x) × All_execute xs

    abbrev pub all_of : List X → Steps
    all_of xs = all_joined (map st xs)

    all_steps : (xs : List X) → All_execute xs → All_steps t u m source f k ready n X ex st xs
    all_steps [] all = tt
    all_steps (x ∷ xs) all = (all.0.does, all_steps xs all.1)

    pub all_do : (xs : List X) → All_execute xs → Steps_do (sequence (map ex xs)) (all_of xs)
    all_do xs all = sequence_does t u m source f k ready n X ex st xs (all_steps xs all)

    in_first : (x : X) (xs : List X) → All_execute xs → (j : ℕ) → EntersAt (ex x).does (st x) j → EntersAt (sequence (ex x ∷ map ex xs)) (joined (st x) (all_of xs)) j
    in_first x xs all j enters a first label b q c s fresh ops i at rep =
        let parts = stands_split t u m k ((st x).ops a first label) ((all_of xs).ops a (first + (st x).temps) (label + (st x).labels)) b q ops in
        then_rest (ex x).does (sequence (map ex xs)) (all_of xs) (all_do xs all) a (first + (st x).temps) (label + (st x).labels) parts.0 q c s (omega (arith, fresh)) parts.2
        (enters a first label b parts.0 c s fresh parts.1 i at rep)

    in_rest : (x : X) (xs : List X) (es : List Execution) (j : ℕ) → EntersAt (sequence es) (all_of xs) j → EntersAt (sequence es) (joined (st x) (all_of xs)) (j + (st x).labels)
    in_rest x xs es j enters a first label b q c s fresh ops i at rep =
        let parts = stands_split t u m k ((st x).ops a first label) ((all_of xs).ops a (first + (st x).temps) (label + (st x).labels)) b q ops in
        let behind : label + (j + (st x).labels) ≡ label + (st x).labels + j = omega arith in
        enters a (first + (st x).temps) (label + (st x).labels) parts.0 q c s (omega (arith, fresh)) parts.2 i (subst (λ z. At t u (label_at z) c) behind at) rep

    one_more : (l : Option ℕ) (x : X) (xs : List X) → Executes (ex x) (st x) → All_execute xs → (o i : Option ℕ) (es : Option (List Execution)) → found_case l (st x).cases ≡ o → Enters_from i es (all_of xs)
        → Enters_from (first_of o (further (st x).labels i)) (if is_found o then Some (ex x ∷ map ex xs) else es) (joined (st x) (all_of xs))
    one_more l x xs here all (Some j) i es found h = in_first x xs all j (here.enters l j found)
    one_more l x xs here all None None None found h = tt
    one_more l x xs here all None None (Some es) found h = absurd h
    one_more l x xs here all None (Some j) None found h = absurd h
    one_more l x xs here all None (Some j) (Some es) found h = in_rest x xs es j h

    pub list_enters : (l : Option ℕ) (xs : List X) → All_execute xs → Enters_from (found_case l (all_of xs).cases) (from_label l (map ex xs)) (all_of xs)
    list_enters l [] all = tt
    list_enters l (x ∷ xs) all =
        let n' = (st x).labels in
        let cases : found_case l (all_of (x ∷ xs)).cases ≡ first_of (found_case l (st x).cases) (further n' (found_case l (all_of xs).cases)) =
        found_append l (st x).cases (map (shifted n') (all_of xs).cases) ∙ ap (first_of (found_case l (st x).cases)) (found_shifted l n' (all_of xs).cases) in
        let has : among l (ex x).labels ≡ is_found (found_case l (st x).cases) = ap (among l) (sym all.0.labels) ∙ among_found l (st x).cases in
        subst (λ z. Enters_from z (from_label l (map ex (x ∷ xs))) (all_of (x ∷ xs))) (sym cases)
        (subst (λ b. Enters_from (first_of (found_case l (st x).cases) (further n' (found_case l (all_of xs).cases))) (if b then Some (ex x ∷ map ex xs) else from_label l (map ex xs)) (all_of (x ∷ xs))) (sym has)
        (one_more l x xs all.0 all.1 (found_case l (st x).cases) (found_case l (all_of xs).cases) (from_label l (map ex xs)) refl (list_enters l xs all.1)))
